-- Mechanism, held to the specification by the contract of `keyword` (crate `text_spellings`).
-- Looking a word up among the spellings that begin with one byte, and passing over the others.
use Rattle.std.specs.Prelude.{List, [], ◌∷◌, ℕ, ◌+◌, eqb, get_or, Option, None, Some}
use Rattle.base_bytes.specs.Choice.{pick, both}
use Rattle.base_bytes.specs.Lists.{same}

abbrev pub among : ℕ → List ℕ → List (List ℕ) → ℕ → ℕ
among a w [] k = 0
among a w (x ∷ xs) k = pick (both (eqb a (get_or x 0 0)) (same w x)) k (among a w xs (k + 1))

-- what a table lists at a place that `find` gives: nothing at 0, where the spelling is not there
abbrev pub listed : ℕ → Option ℕ
listed k = pick (eqb k 0) None (Some k)
