-- Mechanism, held to the specification by `items-mean`, `accepts`, `two-means` (crate `parse_machine`).
-- Document 01, "Ceilings": "open brackets 32; open if/do 8", and refusal 2 for the token that passes one, over kinds alone.
-- What opens and closes, and how the two counts go, is said in specs/Depth.antt of `spec_grammar`; proofs/Judge.antt has that the places are the same.
use Rattle.std.specs.Prelude.{ℕ, ◌+◌, List, [], ◌∷◌, ltb}
use Rattle.base_ceilings.specs.Ceilings.{brackets_most, selections_most}
use Rattle.base_kinds.specs.Kinds.{sym}
use Rattle.base_bytes.specs.Choice.{pick}
use Rattle.spec_grammar.specs.Depth.{opens_bracket, closes_bracket, opens_selection, closes_selection, count_after}

-- how many are open after a token of kind k
abbrev pub brackets : ℕ → ℕ → ℕ
brackets k b = count_after (opens_bracket (sym k)) (closes_bracket (sym k)) b

abbrev pub selections : ℕ → ℕ → ℕ
selections k s = count_after (opens_selection (sym k)) (closes_selection (sym k)) s

-- the place of the first token with which a count passes its ceiling: b brackets and s selections are open before place i. Where there is none, one past the end
unfoldable pub deep : List ℕ → ℕ → ℕ → ℕ → ℕ
deep [] b s i = i + 1
deep (k ∷ ks) b s i = pick (ltb brackets_most (brackets k b)) i (pick (ltb selections_most (selections k s)) i (deep ks (brackets k b) (selections k s) (i + 1)))

abbrev pub too_deep : List ℕ → ℕ
too_deep ks = deep ks 0 0 0
