-- Mechanism, held to the specification by `demand2` (crate `demands`).
-- The entries of the stepper, each with one answer and one content of lent memory: document 01, "What is answered": "Stepping: 7, 8, 9, 11"; "A refusal changes no lent number or byte".
-- `ts` are the lent tables, `s` the lent state, `out` the bytes that are lent for printed text.
use Rattle.std.specs.Prelude.{ℕ, ◌-◌, List, length, ℤ, eqb, ltb}
use Rattle.std.proofs.Math.Option.{Option, none, some}
use Rattle.base_ceilings.specs.Ceilings.{print_room, state_room, tables_room}
use Rattle.base_bytes.specs.Choice.{pick}
use Rattle.step_prints.specs.Printing.{pen, puts}
use Rattle.read_genuine.specs.Genuine.{written, genuine}
use Rattle.state_start.specs.Starting.{initial_of}
use Rattle.state_check.specs.Standing.{is_state_of}
use Rattle.spec_machine.specs.Machine as machine
use Rattle.step_all.specs.Moving.{machine_in, nth_in, verdict_as}
use Rattle.step_all.specs.declared.Offer.{Offer}
use Rattle.step_all.specs.declared.Offer.TheVariants as offer
use Rattle.step_all.specs.declared.Verdict.{Verdict}
use Rattle.step_all.specs.declared.Verdict.TheVariants as verdict
use Rattle.base_outcome.specs.declared.Taken.{Taken}
use Rattle.base_outcome.specs.declared.Taken.TheVariants as taken
use Rattle.step_entry.specs.declared.Listed.{Listed}
use Rattle.step_entry.specs.declared.Listed.TheVariants.{Step, Only}
use Rattle.step_entry.specs.declared.Listed.TheVariants as listed
use Rattle.step_entry.specs.declared.Stepped.{Stepped}
use Rattle.step_entry.specs.declared.Stepped.TheVariants.{Took, Assert, Fault}
use Rattle.step_entry.specs.declared.Stepped.TheVariants as stepped
use Rattle.step_entry.specs.declared.Standing.{Standing}
use Rattle.step_entry.specs.declared.Standing.TheVariants.{Finished, Blocked, Open}
use Rattle.step_entry.specs.declared.Standing.TheVariants as standing

-- ## refusals by number, 0 for none
-- 7 for the rooms of tables and state, then 8
unfoldable pub foreign_of : List ℕ → List ℤ → ℕ
foreign_of ts s = pick (ltb (length ts) tables_room) 7 (pick (ltb (length s) state_room) 7 (pick (genuine ts) 0 8))

-- then 9
unfoldable pub refusal_of : List ℕ → List ℤ → ℕ
refusal_of ts s = pick (eqb (foreign_of ts s) 0) (pick (is_state_of (written ts) s) 0 9) (foreign_of ts s)

-- ## the initial state: the refusal's number, and what is left
unfoldable pub start_left : List ℕ → List ℤ → List ℤ
start_left ts s = pick (eqb (foreign_of ts s) 0) (initial_of (written ts) s) s

-- ## the verdict of a state
abbrev pub standing_of : Verdict → Standing
standing_of verdict.Finished = Finished
standing_of verdict.Blocked = Blocked
standing_of verdict.Open = Open

unfoldable pub verdict_for : List ℕ → List ℤ → Standing
verdict_for ts s = pick (eqb (refusal_of ts s) 0) (standing_of (verdict_as (machine.verdict (machine_in (written ts)) s))) (standing.Refused (refusal_of ts s))

-- ## the n-th step of all that are offered
-- where n is past the last, the rest of n is known, and so how many there are
abbrev pub offer_by : Offer → ℕ → Listed
offer_by (offer.Step x) n = Step x
offer_by (offer.Beyond left) n = Only (n - left)

unfoldable pub offered_of : List ℕ → List ℤ → ℕ → Listed
offered_of ts s n = pick (eqb (refusal_of ts s) 0) (offer_by (nth_in n (machine.offered (machine_in (written ts)) s)) n) (listed.Refused (refusal_of ts s))

-- ## taking the k-th offered step of process p
-- what a step that was taken answers: how many bytes it printed, or that it failed; one that does nothing was none
abbrev pub took_by : Taken → ℕ → Stepped
took_by taken.Done n = Took n
took_by taken.Refuted n = Assert
took_by (taken.Faulted f) n = Fault f
took_by taken.Idle n = stepped.Refused 11

-- the answer, and what is left in the lent state and the lent bytes
pub record Outcome : Type 0 where
  pub answer : Stepped
  pub state : List ℤ
  pub printed : List ℕ

abbrev pub refused_by : ℕ → List ℤ → List ℕ → Outcome
refused_by x s out = record { answer = stepped.Refused x; state = s; printed = out }

-- an offered step: its text is worked out in the state before it
abbrev pub took_at : List ℕ → List ℤ → machine.Step → List ℕ → Outcome
took_at w s x out =
    record {
      answer = took_by (machine.advance (machine_in w) s x).0 (puts ((machine_in w).printed s x) (pen out 0)).at;
      state = (machine.advance (machine_in w) s x).1;
      printed = (puts ((machine_in w).printed s x) (pen out 0)).bytes;
    }

abbrev pub outcome_by : Option machine.Step → List ℕ → List ℤ → List ℕ → Outcome
outcome_by none w s out = refused_by 11 s out
outcome_by (some x) w s out = took_at w s x out

-- the k-th offered step of process p, if there is one
abbrev pub asked_in : List ℕ → List ℤ → ℕ → ℕ → Option machine.Step
asked_in w s p k = machine.asked (machine_in w) p k (machine.offered (machine_in w) s)

-- 7 for any of the three rooms, then 8, 9 and 11
unfoldable pub step_refusal : List ℕ → List ℤ → List ℕ → ℕ
step_refusal ts s out = pick (ltb (length out) print_room) 7 (refusal_of ts s)

unfoldable pub outcome_of : List ℕ → List ℤ → ℕ → ℕ → List ℕ → Outcome
outcome_of ts s p k out = pick (eqb (step_refusal ts s out) 0) (outcome_by (asked_in (written ts) s p k) (written ts) s out) (refused_by (step_refusal ts s out) s out)
