-- Mechanism, of proofs alone: what `genuine_owned`, `owned_genuine` (crate `normal_proof`) hold `genuine` to, over texts that `judge_of` accepts.
-- Whose tables numbers are: document 01, row 8, "tables are those of no accepted text"; "they are compared over their written part".
use Rattle.std.specs.Prelude.{◌≡◌, List, ℕ, Ok}
use Rattle.read_passes.specs.Judging.{judge_of, tables_text}
use Rattle.read_genuine.specs.Genuine.{written}

-- the written part of the numbers ts is the tables of the accepted text `text`
pub record Owned (ts : List ℕ) : Type 0 where
  pub text : List ℕ
  pub accepted : judge_of text ≡ Ok tt
  pub own : tables_text text ≡ written ts
