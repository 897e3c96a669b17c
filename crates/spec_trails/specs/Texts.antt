-- Document 01, "Trail lines": which trails are well formed: those that are the text of some records and a claim, "Numbers have 1 to 5 digits", at most so many steps ("Trail 32,768 bytes and 2,048
-- steps": the text of 2,048 steps is never longer).
use Rattle.std.specs.Prelude.{ℕ, ◌≤◌, ◌≡◌, List, length}
use Rattle.spec_trails.specs.Trails.{Recorded, trail_of, Small}
use Rattle.spec_trails.specs.Replays.{Claim, claimed}

-- the trail is the text of these steps, of which `most` may come, and of the claim with this number
pub record TextOf (most : ℕ) (trail : List ℕ) (steps : List Recorded) (v : ℕ) : Type 0 where
  pub claim : Claim
  pub verdict : v ≡ claimed claim
  pub text : trail ≡ trail_of steps v
  pub small : Small steps
  pub few : length steps ≤ most
