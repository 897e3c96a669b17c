-- Document 01, "Trail lines": "`S`, process, k (its k-th offered step, from 1); last, once, `V` and a verdict. .. A step after a failed assertion or fault is 11", rows 11 and 12 of "What is
-- answered": "trail step or asked step not offered", at its line; "trail's claimed verdict is not the one reached", at the last line; and "replay's 11 and 12 leave the state reached before the
-- refused record". Said over any machine.
use Rattle.std.specs.Prelude.{ℕ, ◌+◌, List, [], ◌∷◌, eqb}
use Rattle.std.proofs.Math.Option.{Option, none, some}
use Rattle.base_bytes.specs.Choice.{pick}
use Rattle.base_outcome.specs.declared.Taken.{Taken}
use Rattle.base_outcome.specs.declared.Taken.TheVariants.{Done, Refuted, Faulted, Idle}
use Rattle.spec_trails.specs.Trails.{Recorded}
use Rattle.spec_machine.specs.Machine.{Machine, Step, Verdict, finished, blocked, «open», offered, asked, advance, verdict}

-- "`V` and a verdict": `assert`, `fault`, or that of the state
pub data Claim : Type 0 where
  assertion fault : Claim
  standing : Verdict → Claim

-- the number of a claim's verdict
abbrev pub claimed : Claim → ℕ
claimed assertion = 1
claimed fault = 2
claimed (standing finished) = 3
claimed (standing blocked) = 4
claimed (standing «open») = 5

-- and the claim with that number
abbrev pub claim_by : ℕ → Claim
claim_by v = pick (eqb v 1) assertion (pick (eqb v 2) fault (pick (eqb v 3) (standing finished) (pick (eqb v 4) (standing blocked) (standing «open»))))

-- accepted, or refused with a number at a line
pub data Replayed : Type 0 where
  accepted : Replayed
  refused : ℕ → ℕ → Replayed

module _ {S : Type 0} (M : Machine S) where
  -- "12: trail's claimed verdict is not the one reached", at the last line
  abbrev pub judged : Claim → Claim → ℕ → Replayed
  judged claim reached line = pick (eqb (claimed claim) (claimed reached)) accepted (refused 12 line)

  -- what follows a step at a line that led from s to x, where `rest` is the replay of the other records, behind a step that failed so or did not
  abbrev pub followed : ℕ → S → Taken → S → (Option Claim → S → Replayed × S) → Replayed × S
  followed line s Done x rest = rest none x
  followed line s Refuted x rest = rest (some assertion) x
  followed line s (Faulted f) x rest = rest (some fault) x
  followed line s Idle x rest = (refused 11 line, s)

  abbrev pub recorded : ℕ → S → Option Step → (Option Claim → S → Replayed × S) → Replayed × S
  recorded line s none rest = (refused 11 line, s)
  recorded line s (some x) rest = followed line s (advance M s x).0 (advance M s x).1 rest

  -- the records from a line on, in state s, behind a step that failed so, or did not
  unfoldable pub replay_from : Claim → List Recorded → ℕ → Option Claim → S → Replayed × S
  replay_from claim [] line none s = (judged claim (standing (verdict M s)) line, s)
  replay_from claim [] line (some f) s = (judged claim f line, s)
  replay_from claim (a ∷ more) line none s = recorded line s (asked M a.process a.choice (offered M s)) (λ f x. replay_from claim more (line + 1) f x)
  replay_from claim (a ∷ more) line (some f) s = (refused 11 line, s)
