-- Mechanism: a worked example, computed from its definitions; it is held to nothing else.
-- The places that the machine writes for `init { c!1 }`, and those that `spots` says.
use Rattle.std.specs.Prelude.{◌≡◌, refl, List, [], ◌∷◌, map, ℕ}
use Rattle.base_kinds.specs.Kinds.{Token, sym, name, number, kind_of}
use Rattle.spec_grammar.specs.Tree.{num, Model}
use Rattle.spec_grammar.specs.Grammar.{one, commas, is_bang, e_plain, e_number, e_up, E, s_send, s_leaf, s_bare, q_last, none_trails, no_semi, statements, a_body, u_init, g_last, Gram}
use Rattle.parse_machine.specs.Machine.{place_of, Outcome, done, refused, spent, run, step_on, eat, write, expand, column, machine}
use Rattle.parse_tables.specs.Tables.{choices, bases, rights, production, production_by, span, right}
use Rattle.parse_spots.specs.Spots.{tokens, spots}

abbrev one_is : E 1 (number 1 ∷ []) (num 1)
one_is = e_up (e_up (e_up (e_up (e_up (e_up (e_up (e_up (e_up (e_up e_number)))))))))

unfoldable sends : (ts : List Token) × (m : Model) × Gram ts m
sends = (_, _, g_last (u_init (a_body (statements (q_last (s_bare (s_leaf (s_send is_bang (e_plain {w = 99 ∷ []}) (commas (one one_is))))) none_trails)))) no_semi)

abbrev places : Outcome → List ℕ
places (done o) = map place_of o
places (refused i) = []
places spent = []

sends-spots : tokens (spots sends.2 0) ≡ 0 ∷ 1 ∷ 2 ∷ 3 ∷ 2 ∷ 4 ∷ 4 ∷ 2 ∷ 1 ∷ []
unfolding sends
sends-spots = refl

sends-places : places (machine (map kind_of sends.0)) ≡ 0 ∷ 1 ∷ 2 ∷ 3 ∷ 2 ∷ 4 ∷ 4 ∷ 2 ∷ 1 ∷ []
unfolding sends run step_on eat write expand column choices bases rights production production_by span right
sends-places = refl
