-- WHICH TRAILS ARE REFUSED FOR THEIR FORM, with which number and at which line: document 01, row 10 and row 2 for trails, and "length, .. form (10, or 2 at the first well-formed step record past 2,048,
-- the smaller line first)". Which are well formed is said by `TextOf` (specs/Texts.antt of `spec_trails`). Said by the text that is written of records; how a trail is read is not known here.
use Rattle.std.specs.Prelude.{◌≡◌, List, [], ◌∷◌, ◌++◌, ℕ, ◌+◌, ◌≤◌, ◌<◌, length}
use Rattle.base_ceilings.specs.Ceilings.{steps_most, trail_most}
use Rattle.spec_trails.specs.Trails.{Recorded, line_end, step_line, claim_line, Small}
use Rattle.spec_trails.specs.Replays.{Claim, claimed}

-- the lines of some steps, and what stands behind them
unfoldable pub lines : List Recorded → List ℕ → List ℕ
lines [] r = r
lines (a ∷ more) r = step_line a ++ line_end ∷ lines more r

-- no record, with its line end, stands at the front
pub record NoRecord (r : List ℕ) : Type 0 where
  pub no_step : (a : Recorded) (u : List ℕ) → Small (a ∷ []) → r ≡ step_line a ++ line_end ∷ u → ⊥
  pub no_claim : (c : Claim) (u : List ℕ) → r ≡ claim_line (claimed c) ++ line_end ∷ u → ⊥

-- the trail t from a line on, where `most` steps may come, goes wrong behind the longest run of good step lines: the refusal's number and line
pub data Strays (most line : ℕ) (t : List ℕ) : ℕ → ℕ → Type 0 where
  -- "10, trail malformed"; "A missing `V` is 10 at the line after the last, a missing LF at its own line"
  no_record : (steps : List Recorded) (r : List ℕ) → t ≡ lines steps r → Small steps → length steps ≤ most → NoRecord r → Strays most line t 10 (line + length steps)
  -- "anything after `V` on the next line"
  behind_claim : (steps : List Recorded) (c : Claim) (u : List ℕ) → t ≡ lines steps (claim_line (claimed c) ++ line_end ∷ u) → Small steps → length steps ≤ most → 0 < length u
      → Strays most line t 10 (line + length steps + 1)
  -- "2 at the first well-formed step record past 2,048"
  too_many : (steps : List Recorded) (a : Recorded) (u : List ℕ) → t ≡ lines steps (step_line a ++ line_end ∷ u) → Small steps → length steps ≡ most → Small (a ∷ []) → Strays most line t 2 (line + length steps)

-- the whole trail is refused so; "0 for the length of .. trail"
pub data Misformed (t : List ℕ) : ℕ → ℕ → Type 0 where
  too_long : trail_most < length t → Misformed t 2 0
  strays : {x l : ℕ} → length t ≤ trail_most → Strays steps_most 1 t x l → Misformed t x l
