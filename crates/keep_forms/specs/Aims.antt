-- Bridge, for `demand2` (crate `demands`).
-- What stands before a mark that stores: a reference, all of it. Document 01, "Grammar", of assignments, `v++`, `v--`, `v = run` and received arguments; the marks are into,
-- target, increment and decrement.
use Rattle.std.specs.Prelude.{ℕ, ◌+◌, ◌≡◌, Bool, List, length, eqb}
use Rattle.base_codes.specs.Codes.{c_decrement, c_increment, c_into, c_target}
use Rattle.base_codes.specs.Sets.{within}
use Rattle.base_bytes.specs.Choice.{either}
use Rattle.spec_grammar.specs.Tree.{Ref}
use Rattle.parse_code.specs.Code.{code_exp}
use Rattle.link_phrases_proof.specs.Phrases.{Proper, At}

abbrev pub aims : ℕ → Bool
aims c = either (eqb c c_into) (either (eqb c c_target) (within c_increment c_decrement c))

-- a reference stands right before item m
abbrev pub Behind : List ℕ → ℕ → Type 0
Behind cs m = (k : ℕ) × (r : Ref) × Proper r × At cs k (code_exp r) × (m ≡ k + length (code_exp r))
