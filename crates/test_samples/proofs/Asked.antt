-- THE ENTRIES ON AN ACCEPTED TEXT, by `demands`: what `read` and `start` leave is let through, so that `step` and `verdict` answer what is worked out from the text's own tables and initial state.
use Prim.Native.Nat.{ℕ, zero, suc, ◌+◌, ◌-◌, ◌≤◌}
use native.Mathlib.Omega.{arith}
use mathlib.Core.Path.{◌≡◌, refl, sym, ap, ap₂, ◌∙◌}
use mathlib.Core.List.{List, ◌++◌}
use lib.ListN.{length, drop, length-append, length-drop, length-replicate}
use lib.IntN.{ℤ, pos}
use lib.Dec.{eqb}
use Rattle.base_bytes.specs.Choice.{pick}
use Rattle.std.specs.Prelude.{Result, Ok}
use Rattle.base_refusal.specs.declared.Refusal.{Refusal}
use Rattle.read_passes.specs.Judging.{judge_of, tables_text}
use Rattle.read_entry.specs.Entries.{read_of, stays, left_of}
use Rattle.read_accepts_proof.specs.Meaning.{Accepts}
use Rattle.read_accepts_proof.proofs.Main.{accepted_means}
use Rattle.read_accepts_proof.proofs.Tables.{text-fits}
use Rattle.read_genuine.specs.Genuine.{written}
use Rattle.normal_entry.proofs.Laws.{judged_is, written_is}
use Rattle.state_start.specs.Starting.{initial_of}
use Rattle.spec_machine.specs.Machine.{verdict}
use Rattle.step_all.specs.Moving.{machine_in, verdict_as}
use Rattle.step_entry.specs.Entries.{foreign_of, refusal_of, start_left, standing_of, verdict_for, Outcome, refused_by, outcome_by, asked_in, step_refusal, outcome_of}
use Rattle.agree_encode.specs.Encode.{encode}
use Rattle.agree_states.proofs.Cells.{encode_long}
use Rattle.demands.specs.Lent.{Rooms, Tables, leaves}
use Rattle.demands.proofs.Owned.{own_tables}
use Rattle.demands.proofs.Top.{demands}
use Rattle.test_samples.specs.Samples.{lent, tables, cleared, started, paper, first_step}
use Rattle.base_ceilings.specs.Ceilings.{state_room, tables_room}
use Rattle.step_entry.specs.declared.Standing.TheVariants as standing
use Rattle.spec_machine.specs.Begins as plain

module _ (t : List ℕ) (acc : read_of t lent ≡ Ok tt) where
  long : length lent ≡ 16384
  long = length-replicate {A = ℕ} 16384 0

  judged : judge_of t ≡ Ok tt
  judged = sym (judged_is t lent (tables t) (read_of t lent) long refl refl) ∙ acc

  accepts : Accepts t
  accepts = accepted_means t judged

  own : written (tables t) ≡ tables_text t
  own = written_is t lent (tables t) (read_of t lent) long refl refl acc

  as_left : tables t ≡ tables_text t ++ drop (length (tables_text t)) lent
  unfolding left_of
  as_left = ap (λ (j : Result (Unit {0}) Refusal). stays j (tables_text t) lent) acc

  tables_long : tables_room ≤ length (tables t)
  tables_long =
      let e = ap length as_left in
      let f = length-append (tables_text t) (drop (length (tables_text t)) lent) in
      let g = length-drop (length (tables_text t)) lent in
      let h = text-fits t accepts in
      omega (arith, e, f, g, h, long)

  of_model : Tables (tables t) accepts.tree
  of_model = own_tables (tables t) t accepts own

  rooms : Rooms (tables t) cleared
  rooms = record { tables = tables_long; state = let e = length-replicate {A = ℤ} 2048 (pos 0) in omega (arith, e) }

  let_through : foreign_of (tables t) cleared ≡ 0
  let_through = (demands.demand2.start (tables t) cleared accepts.tree rooms of_model).0

  -- what `start` leaves
  starts : started t ≡ initial_of (tables_text t) cleared
  unfolding start_left
  starts = ap (λ (n : ℕ). pick (eqb n 0) (initial_of (written (tables t)) cleared) cleared) let_through ∙ ap (λ (w : List ℕ). initial_of w cleared) own

  as_numbers : started t ≡ encode accepts.tree (plain.initial accepts.tree) ++ drop state_room cleared
  unfolding leaves
  as_numbers = (demands.demand2.start (tables t) cleared accepts.tree rooms of_model).1

  rooms_then : Rooms (tables t) (started t)
  rooms_then =
      record {
        tables = tables_long;
        state =
            let e = ap length as_numbers in
            let f = length-append (encode accepts.tree (plain.initial accepts.tree)) (drop state_room cleared) in
            let g = encode_long accepts.tree (plain.initial accepts.tree) in
            omega (arith, e, f, g);
      }

  none_refused : refusal_of (tables t) (started t) ≡ 0
  none_refused = go (refusal_of (tables t) (started t)) refl
    where
      go : (n : ℕ) → refusal_of (tables t) (started t) ≡ n → refusal_of (tables t) (started t) ≡ 0
      go zero e = e
      go (suc n) e =
          let x = (demands.demand2.in_words.states_left (tables t) cleared).start let_through in
          let r = ((demands.demand1.stepper (tables t) (started t)).number (suc n) (omega arith)).0 e in
          absurd ((demands.demand2.cases (tables t) (started t)).never_both (suc n) x.0 x.1 r record { rooms = rooms_then; tables = x.2; numbers = x.3 })

  -- `verdict`
  pub verdict-asked : verdict_for (tables t) (started t) ≡ standing_of (verdict_as (verdict (machine_in (tables_text t)) (initial_of (tables_text t) cleared)))
  unfolding verdict_for
  verdict-asked =
      ap (λ (n : ℕ). pick (eqb n 0) (standing_of (verdict_as (verdict (machine_in (written (tables t))) (started t)))) (standing.Refused n)) none_refused
      ∙ ap₂ (λ (w : List ℕ) (s : List ℤ). standing_of (verdict_as (verdict (machine_in w) s))) own starts

  -- `step`
  none_refuses : step_refusal (tables t) (started t) paper ≡ 0
  unfolding step_refusal
  none_refuses = none_refused

  pub step-asked : first_step t ≡ outcome_by (asked_in (tables_text t) (initial_of (tables_text t) cleared) 0 1) (tables_text t) (initial_of (tables_text t) cleared) paper
  unfolding outcome_of
  step-asked =
      ap (λ (n : ℕ). pick (eqb n 0) (outcome_by (asked_in (written (tables t)) (started t) 0 1) (written (tables t)) (started t) paper) (refused_by n (started t) paper)) none_refuses
      ∙ ap₂ (λ (w : List ℕ) (s : List ℤ). outcome_by (asked_in w s 0 1) w s paper) own starts
