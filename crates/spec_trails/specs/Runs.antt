-- Document 01, "How it moves": "After a failing step its run has no further turn, and only its own verdict holds. .. From the lent state the automatic run takes first offered steps until none
-- is, one fails or an unsigned limit is met; the count it reports is the number of steps taken, a failing one included." Said over any machine.
use Rattle.std.specs.Prelude.{ℕ, zero, suc, List, [], ◌∷◌}
use Rattle.base_values.specs.declared.Fault.{Fault}
use Rattle.base_outcome.specs.declared.Taken.{Taken}
use Rattle.base_outcome.specs.declared.Taken.TheVariants.{Done, Refuted, Faulted, Idle}
use Rattle.spec_machine.specs.Effect.{Outcome}
use Rattle.spec_machine.specs.Machine.{Machine, Step, Verdict, offered, advance, verdict}

-- how a run ends
pub data Ending : Type 0 where
  stood : Verdict → Ending
  refuted : Ending
  faulted : Fault → Ending

pub record Ran (S : Type 0) : Type 0 where
  pub ending : Ending
  pub count : ℕ
  pub state : S

abbrev pub one_more : {S : Type 0} → Ran S → Ran S
one_more r = record { ending = r.ending; count = suc r.count; state = r.state }

module _ {S : Type 0} (M : Machine S) where
  abbrev pub still : S → Ran S
  still s = record { ending = stood (verdict M s); count = 0; state = s }

  abbrev pub first_taken : S → List Step → Outcome S
  first_taken s [] = (Idle, s)
  first_taken s (x ∷ l) = advance M s x

  abbrev pub run_by : Taken → S → (S → Ran S) → Ran S
  run_by Done s rest = one_more (rest s)
  run_by Refuted s rest = record { ending = refuted; count = 1; state = s }
  run_by (Faulted f) s rest = record { ending = faulted f; count = 1; state = s }
  run_by Idle s rest = still s

  unfoldable pub run_from : ℕ → S → Ran S
  run_from zero s = still s
  run_from (suc n) s = run_by (first_taken s (offered M s)).0 (first_taken s (offered M s)).1 (λ x. run_from n x)
