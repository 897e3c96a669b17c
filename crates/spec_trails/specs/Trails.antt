-- Document 01, "Trail lines": "One record a line, fields parted by tabs, LF at each end: `S`, process, k (its k-th offered step, from 1); last, once, `V` and a verdict. Numbers have 1 to 5
-- digits, no leading zero", and "Ceilings": "Trail 32,768 bytes and 2,048 steps". A trail's text is what is written of its records.
use Rattle.std.specs.Prelude.{ℕ, ◌-◌, ◌<◌, List, [], ◌∷◌, ◌++◌, get_or}
use Rattle.base_kinds.specs.Kinds.{bytes}
use Rattle.spec_text.specs.Formats.{digits_of}

abbrev pub tab : ℕ
tab = 9

abbrev pub line_end : ℕ
line_end = 10

-- "`V` and a verdict": assert 1, fault 2, finished 3, blocked 4, open 5
abbrev pub verdicts : List (List ℕ)
verdicts = bytes "assert" ∷ bytes "fault" ∷ bytes "finished" ∷ bytes "blocked" ∷ bytes "open" ∷ []

-- `S`, process, k
pub record Recorded : Type 0 where
  pub process : ℕ
  pub choice : ℕ

-- `S`, tab, process, tab, k
abbrev pub step_line : Recorded → List ℕ
step_line a = 83 ∷ tab ∷ (digits_of a.process ++ tab ∷ digits_of a.choice)

-- `V`, tab, the word of the verdict with that number
abbrev pub claim_line : ℕ → List ℕ
claim_line v = 86 ∷ tab ∷ get_or verdicts (v - 1) []

unfoldable pub trail_of : List Recorded → ℕ → List ℕ
trail_of [] v = claim_line v ++ line_end ∷ []
trail_of (a ∷ more) v = step_line a ++ line_end ∷ trail_of more v

-- numbers of at most five digits
pub data Small : List Recorded → Type 0 where
  none : Small []
  one_more_lem : (a : Recorded) (more : List Recorded) → a.process < 100000 → a.choice < 100000 → Small more → Small (a ∷ more)
