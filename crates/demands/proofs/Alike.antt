-- Every entry that takes tables sees of them only whether they have their room, and their written part.
use mathlib.Core.Path.{◌≡◌, ap, ap₂}
use mathlib.Core.Bool.{Bool}
use mathlib.Core.List.{List}
use Prim.Native.Nat.{ℕ}
use lib.Dec.{eqb, ltb}
use lib.ListN.{length}
use lib.IntN.{ℤ}
use Rattle.base_bytes.specs.Choice.{pick}
use Rattle.base_ceilings.specs.Ceilings.{tables_room, state_room, print_room, trail_most}
use Rattle.write_texts.specs.Normal.{normal_of, layout_of}
use Rattle.read_genuine.specs.Genuine.{written, returns, genuine}
use Rattle.state_start.specs.Starting.{initial_of}
use Rattle.state_check.specs.Standing.{is_state_of}
use Rattle.spec_machine.specs.Machine as machine
use Rattle.step_all.specs.Moving.{machine_in, nth_in, verdict_as}
use Rattle.trail_form.specs.Forms.{form_of}
use Rattle.normal_entry.specs.Entries.{roomy, put, tables_answer, tables_left}
use Rattle.std.specs.Prelude.{Result, Err}
use Rattle.base_refusal.specs.declared.Refusal.{Refusal as Given}
use Rattle.base_refusal.specs.Refusals.{refusal as given}
use Rattle.step_entry.specs.Entries.{foreign_of, refusal_of, start_left, standing_of, verdict_for, offer_by, offered_of, Outcome, refused_by, outcome_by, asked_in, step_refusal, outcome_of}
use Rattle.step_entry.specs.declared.Standing.TheVariants as standing
use Rattle.step_entry.specs.declared.Listed.TheVariants as listed
use Rattle.run_entry.specs.Runs.{shown, run_in}
use Rattle.run_entry.specs.Entries.{ran_of}
use Rattle.run_entry.specs.declared.Ran.TheVariants as ran
use Rattle.trail_replay.specs.Replay.{Replay}
use Rattle.trail_replay.specs.Entries.{replayed_by, replayed_of}
use Rattle.trail_replay.specs.declared.Replayed.TheVariants as replayed
use Rattle.demands.specs.Demand3.{Same}

-- both have the room, or neither has
module _ (ts us : List ℕ) (roomy-alike : ltb (length ts) tables_room ≡ ltb (length us) tables_room) (wrote : written ts ≡ written us) where
  genuine-alike : genuine ts ≡ genuine us
  unfolding genuine
  genuine-alike = ap (λ (w : List ℕ). returns w (normal_of w)) wrote

  foreign_alike : (s : List ℤ) → foreign_of ts s ≡ foreign_of us s
  unfolding foreign_of
  foreign_alike s = ap₂ (λ (r g : Bool). pick {A = ℕ} r 7 (pick (ltb (length s) state_room) 7 (pick g 0 8))) roomy-alike genuine-alike

  refusal_alike : (s : List ℤ) → refusal_of ts s ≡ refusal_of us s
  unfolding refusal_of
  refusal_alike s = ap₂ (λ (f : ℕ) (w : List ℕ). pick (eqb f 0) (pick {A = ℕ} (is_state_of w s) 0 9) f) (foreign_alike s) wrote

  -- one law for the entries that answer from the written part where nothing refuses
  by_refusal : {A : Type 0} (s : List ℤ) (f : List ℕ → A) (g : ℕ → A) → pick (eqb (refusal_of ts s) 0) (f (written ts)) (g (refusal_of ts s)) ≡ pick (eqb (refusal_of us s) 0) (f (written us)) (g (refusal_of us s))
  by_refusal s f g = ap₂ (λ (x : ℕ) (w : List ℕ). pick (eqb x 0) (f w) (g x)) (refusal_alike s) wrote

  start-alike : (s : List ℤ) → start_left ts s ≡ start_left us s
  unfolding start_left
  start-alike s = ap₂ (λ (x : ℕ) (w : List ℕ). pick (eqb x 0) (initial_of w s) s) (foreign_alike s) wrote

  verdict-alike : (s : List ℤ) → verdict_for ts s ≡ verdict_for us s
  unfolding verdict_for
  verdict-alike s = by_refusal s (λ w. standing_of (verdict_as (machine.verdict (machine_in w) s))) standing.Refused

  offered-alike : (s : List ℤ) (n : ℕ) → offered_of ts s n ≡ offered_of us s n
  unfolding offered_of
  offered-alike s n = by_refusal s (λ w. offer_by (nth_in n (machine.offered (machine_in w) s)) n) listed.Refused

  outcome-alike : (s : List ℤ) (p k : ℕ) (out : List ℕ) → outcome_of ts s p k out ≡ outcome_of us s p k out
  unfolding outcome_of step_refusal
  outcome-alike s p k out = ap₂ (λ (x : ℕ) (w : List ℕ). by (pick (ltb (length out) print_room) 7 x) w) (refusal_alike s) wrote
    where
      by : ℕ → List ℕ → Outcome
      by x w = pick (eqb x 0) (outcome_by (asked_in w s p k) w s out) (refused_by x s out)

  ran-alike : (s : List ℤ) (limit : ℕ) → ran_of ts s limit ≡ ran_of us s limit
  unfolding ran_of
  ran-alike s limit = by_refusal s (λ w. shown (run_in w limit s)) (λ x. (ran.Refused x, s))

  replay-alike : (trail : List ℕ) (s : List ℤ) → replayed_of ts trail s ≡ replayed_of us trail s
  unfolding replayed_of
  replay-alike trail s = ap₂ by (foreign_alike s) wrote
    where
      by : ℕ → List ℕ → Replay
      by x w =
          pick (eqb x 7) (replayed.Refused 7 0, s)
          (pick (ltb trail_most (length trail)) (replayed.Refused 2 0, s)
          (pick (eqb x 0) (replayed_by (form_of trail) w s) (replayed.Refused 8 0, s)))

  -- what is written of tables, whatever it is
  module _ (g : List ℕ → List ℕ) (out : List ℕ) where
    written-alike : tables_answer g ts out ≡ tables_answer g us out
    unfolding tables_answer genuine
    written-alike = ap₂ (λ (r : Bool) (w : List ℕ). by r w) roomy-alike wrote
      where
        by : Bool → List ℕ → Result ℕ Given
        by r w = pick {A = Result ℕ Given} r (Err (given 7 0 0)) (pick {A = Result ℕ Given} (returns w (normal_of w)) (roomy (g w) out) (Err (given 8 0 0)))

    left-alike : tables_left g ts out ≡ tables_left g us out
    left-alike = ap₂ (λ (a : Result ℕ Given) (w : List ℕ). put a (g w) out) written-alike wrote

  pub same_alike : Same ts us
  same_alike =
      record {
        replay = replay-alike;
        run = ran-alike;
        start = λ s. (foreign_alike s, start-alike s);
        offered = offered-alike;
        verdict = verdict-alike;
        step = outcome-alike;
        normal_text_lem = λ out. (written-alike normal_of out, left-alike normal_of out);
        layout_text_lem = λ out. (written-alike layout_of out, left-alike layout_of out);
      }
