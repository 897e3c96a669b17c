-- A text as tokens within the ceilings, and where they stand: request One, "texts up to 65,536 bytes", document 01, "tokens 2,048" and the column "Place" of "What is answered".
use Rattle.std.specs.Prelude.{ℕ, ◌-◌, ◌≤◌, List, map, ltb, length, get_or}
use Rattle.base_ceilings.specs.Ceilings.{text_most, tokens_most}
use Rattle.base_bytes.specs.Choice.{pick}
use Rattle.spec_text.specs.Placed.{Placed}
use Rattle.spec_text.specs.Layout.{Laid}

-- the text t is laid out in the tokens ps
pub record Tokens (t : List ℕ) (ps : List Placed) : Type 0 where
  pub laid : Laid 0 t ps
  pub short : length t ≤ text_most
  pub few : length ps ≤ tokens_most

-- where token k begins, and how long it is; behind the last token "empty part at the end"
abbrev pub start_at : List ℕ → List Placed → ℕ → ℕ
start_at t ps k = pick (ltb k (length (map Placed.start ps))) (get_or (map Placed.start ps) k 0) (length t)

abbrev pub size_at : List ℕ → List Placed → ℕ → ℕ
size_at t ps k = pick (ltb k (length (map Placed.start ps))) (get_or (map Placed.end ps) k 0 - get_or (map Placed.start ps) k 0) 0
