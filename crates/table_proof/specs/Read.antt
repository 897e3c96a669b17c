-- Mechanism, of proofs alone: a stepping stone on the way to `tree_tables` (crate `read_accepts_proof`).
-- When a parser's numbers are right for a list of tokens: a name, number or string stands at a token of its kind.
use Rattle.std.specs.Prelude.{ℕ, ◌≤◌, ◌<◌, ◌≡◌, ◌⊎◌, List, length, get_or}
use Rattle.base_codes.specs.Codes.{c_end_body, c_name, c_or_else, c_text}
use Rattle.spec_text.specs.Placed.{Placed, placed}

abbrev pub nowhere : Placed
nowhere = placed 0 0 0

-- code c at token k of these
abbrev pub Right : List Placed → ℕ → ℕ → Type 0
Right ps c k = ((c_name ≤ c) × (c ≤ c_text) × (k < length ps) × ((get_or ps k nowhere).kind ≡ c)) ⊎ ((c_or_else ≤ c) × (c ≤ c_end_body))
