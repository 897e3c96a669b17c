-- The expressions of texts are proper: their operators are operators.
use Prim.Native.Nat.{ℕ, zero, suc, ◌≤◌}
use native.Mathlib.Omega.{arith}
use mathlib.Core.Path.{◌≡◌}
use mathlib.Core.List.{List}
use Rattle.base_kinds.specs.Kinds.{Token, level}
use Rattle.spec_grammar.specs.Tree.{Expr}
use Rattle.spec_grammar.specs.Grammar.{E, e_plain, e_index, e_number, e_true, e_false, e_query, e_group, e_choice, e_unary, e_binary, e_up}
use Rattle.spec_grammar.proofs.Levels.{operator_small}
use Rattle.link_phrases_proof.specs.Phrases.{Proper}

some_operator : (o l : ℕ) → level o ≡ suc l → 1 ≤ o
some_operator zero l e = absurd (omega (arith, e))
some_operator (suc o) l e = omega arith

pub grammar_proper : {l : ℕ} {ts : List Token} {e : Expr} → E l ts e → Proper e
grammar_proper e_plain = tt
grammar_proper (e_index x) = grammar_proper x
grammar_proper e_number = tt
grammar_proper e_true = tt
grammar_proper e_false = tt
grammar_proper (e_query kind x) = grammar_proper x
grammar_proper (e_group x) = grammar_proper x
grammar_proper (e_choice x y z) = (grammar_proper x, grammar_proper y, grammar_proper z)
grammar_proper (e_unary u x) = (u, grammar_proper x)
grammar_proper (e_binary {l = l} {o = o} i x y) = (some_operator o l i, omega (arith, operator_small o l i), grammar_proper x, grammar_proper y)
grammar_proper (e_up x) = grammar_proper x
