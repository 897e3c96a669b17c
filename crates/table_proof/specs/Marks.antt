-- Mechanism, of proofs alone: stepping stones of `accepted_fits` (crate `table_proof`).
-- Marks: the items that productions write by themselves. Names, numbers and strings come from tokens; what a token brings.
use Rattle.std.specs.Prelude.{ℕ, ◌+◌, Bool, true, false, List, [], ◌∷◌, length, eqb}
use Rattle.base_bytes.specs.Choice.{pick, both, either}
use Rattle.base_kinds.specs.Kinds.{Token, sym, name, number, text}
use Rattle.base_codes.specs.Codes.{c_end_body, c_len, c_plain, c_receive, c_send}
use Rattle.base_codes.specs.Sets.{within}
use Rattle.base_codes.specs.Items.{Item, i_name, i_text, i_number, i_type, i_unary, i_binary, i_mark, i_operator}
use Rattle.spec_grammar.specs.Marks.{k_bang, k_ask, k_len}
use Rattle.parse_grammar.specs.Engine.{nt, tm, act}
use Rattle.parse_grammar.specs.Productions.{Right}

abbrev pub differ : ℕ → ℕ → Bool
differ a b = pick (eqb a b) false true

abbrev pub is_mark : Item → Bool
is_mark (i_name w) = false
is_mark (i_number n) = false
is_mark (i_text w) = false
is_mark (i_binary o) = within 1 18 o
is_mark (i_unary o) = either (eqb o 15) (either (eqb o 19) (eqb o 20))
is_mark (i_type k) = within 38 45 k
is_mark (i_mark c) = both (within c_plain c_end_body c) (both (differ c c_len) (both (differ c c_send) (differ c c_receive)))
is_mark (i_operator c o) = pick (eqb c c_len) (eqb o k_len) (pick (eqb c c_send) (eqb o k_bang) (both (eqb c c_receive) (eqb o k_ask)))

-- all that a right side writes by itself
abbrev pub marks_in : Right → Bool
marks_in [] = true
marks_in (act a ∷ k) = both (is_mark a) (marks_in k)
marks_in (tm t ∷ k) = marks_in k
marks_in (nt n ∷ k) = marks_in k

-- how many bytes a token brings to the pool
abbrev pub brings : Token → ℕ
brings (sym k) = 0
brings (name w) = length w
brings (number n) = 0
brings (text w) = length w

abbrev pub brought : List Token → ℕ
brought [] = 0
brought (c ∷ w) = brings c + brought w
