-- ONLY A STEP THAT WAS TAKEN CHANGES ANYTHING, and what the entries leave is a state of the model.
use Prim.Native.Nat.{ℕ}
use native.Mathlib.Omega.{arith}
use mathlib.Core.Path.{◌≡◌, refl, sym as inv, ap, ◌∙◌, subst}
use mathlib.Core.Bool.{Bool, true, false}
use mathlib.Core.Option.{Option, none, some}
use mathlib.Core.List.{List, []}
use lib.ListN.{length, drop}
use lib.IntN.{ℤ}
use lib.Dec.{ltb}
use Rattle.base_ceilings.specs.Ceilings.{print_room, state_room}
use Rattle.base_bytes.specs.Choice.{pick}
use Rattle.spec_grammar.specs.Tree.{Model}
use Rattle.base_outcome.specs.declared.Taken.{Taken}
use Rattle.base_outcome.specs.declared.Taken.TheVariants.{Done, Refuted, Faulted, Idle}
use Rattle.step_entry.specs.Entries.{foreign_of, start_left, Outcome, refused_by, outcome_of}
use Rattle.step_entry.specs.declared.Stepped.TheVariants as stepped
use Rattle.run_entry.specs.Entries.{ran_of}
use Rattle.trail_form.specs.Forms.{form, form_of}
use Rattle.trail_form.proofs.Exact.{form_exact}
use Rattle.trail_replay.specs.Entries.{replayed_of}
use Rattle.spec_machine.specs.State.{State}
use Rattle.spec_machine.specs.Begins.{initial}
use Rattle.spec_machine.specs.Places.{Belongs}
use Rattle.spec_machine.specs.Fits.{Fits}
use Rattle.spec_machine.specs.Machine.{Step, offered, advance, asked}
use Rattle.spec_trails.specs.Replays.{Claim, claim_by, replay_from}
use Rattle.spec_trails.specs.Trails.{Recorded}
use Rattle.spec_trails.specs.Runs.{run_from}
use Rattle.spec_machine.specs.Steps.{machine_of}
use Rattle.agree_machine.proofs.Entries as entries
use Rattle.demands.proofs.Owned.{Own, of_text, owned}
use Rattle.demands.specs.InWords.{IsState, StatesLeft}
use Rattle.demands.proofs.Lent.{own_genuine, found, numbers-state, foreign_room, foreign_is}
use Rattle.demands.proofs.ByCases.{by_cases}
use Rattle.demands.specs.Lent.{Rooms, Tables, Holds, leaves}
use Rattle.demands.proofs.Entries.{Lent, no_room, no_model, no_state, a_state, done_by, taken_by, formed_by, refusal_by, stepped_by}

-- ---- what a step that was not taken leaves
abbrev Keeps : List ℤ → List ℕ → Outcome → Type 0
Keeps s out o = ((n : ℕ) → o.answer ≡ stepped.Took n → ⊥) → (o.state ≡ s) × (o.printed ≡ out)

module _ (s : List ℤ) (out : List ℕ) where
  done_keeps : (k : Taken) (after : List ℤ) (text : List ℕ) → Keeps s out (done_by s out k after text)
  done_keeps Done after text h = absurd (h (length text) refl)
  done_keeps Refuted after text h = (refl, refl)
  done_keeps (Faulted f) after text h = (refl, refl)
  done_keeps Idle after text h = (refl, refl)

  taken_keeps : (m : Model) (σ : State) (o : Option Step) → Keeps s out (taken_by s m σ out o)
  taken_keeps m σ none h = (refl, refl)
  taken_keeps m σ (some x) h =
      let T = advance (machine_of m) σ x in
      done_keeps T.0 (leaves s m T.1) ((machine_of m).printed σ x) h

  stepped_keeps : {ts : List ℕ} (x : Lent ts s) (p k : ℕ) → Keeps s out (stepped_by x p k out)
  stepped_keeps (no_room h) p k g = (refl, refl)
  stepped_keeps (no_model r h) p k g = (refl, refl)
  stepped_keeps (no_state m r h i) p k g = (refl, refl)
  stepped_keeps (a_state m σ h) p k g = taken_keeps m σ (asked (machine_of m) p k (offered (machine_of m) σ)) g

  room_keeps : (b : Bool) (o : Outcome) → Keeps s out o → Keeps s out (pick b (refused_by 7 s out) o)
  room_keeps true o h g = (refl, refl)
  room_keeps false o h g = h g

-- "A refusal changes no lent number or byte", "A failed assertion or fault changes no state and prints nothing"
pub unchanged : (ts : List ℕ) (s : List ℤ) (p k : ℕ) (out : List ℕ) → ((n : ℕ) → (outcome_of ts s p k out).answer ≡ stepped.Took n → ⊥)
    → ((outcome_of ts s p k out).state ≡ s) × ((outcome_of ts s p k out).printed ≡ out)
unchanged ts s p k out =
    let D = by_cases ts s in
    let x = D.some_case in
    subst (Keeps s out) (inv (D.step x p k out)) (room_keeps s out (ltb (length out) print_room) (stepped_by x p k out) (stepped_keeps s out x p k))

-- ---- what is left is a state of the model
module _ (ts : List ℕ) (s : List ℤ) where
  left : (m : Model) → Tables ts m → (τ : State) → Fits (Belongs m) m τ → IsState ts (leaves s m τ)
  unfolding leaves
  left m h τ f = let x = found ts m _ h (numbers-state ts m τ (drop state_room s) h f) in (m, x.state, h, x.numbers)

  initial_fits_own : (m : Model) → Rooms ts s → Own ts m → Fits (Belongs m) m (initial m)
  initial_fits_own m r (of_text t a e) = entries.initially ts r.tables (own_genuine ts a.tree (of_text t a e)) t a e

  pub initial-fits : (m : Model) → Rooms ts s → Tables ts m → Fits (Belongs m) m (initial m)
  initial-fits m r o = initial_fits_own m r (owned ts m o)

  step_fits_own : (m : Model) (σ : State) → Rooms ts s → Own ts m → Fits (Belongs m) m σ → (p k : ℕ) (x : Step) → asked (machine_of m) p k (offered (machine_of m) σ) ≡ some x
      → Fits (Belongs m) m (advance (machine_of m) σ x).1
  step_fits_own m σ r (of_text t a e) f p k x q = entries.keeps ts r.tables (own_genuine ts a.tree (of_text t a e)) t a e σ [] f p k x q

  step_fits : (m : Model) (σ : State) → Rooms ts s → Tables ts m → Fits (Belongs m) m σ → (p k : ℕ) (x : Step) → asked (machine_of m) p k (offered (machine_of m) σ) ≡ some x
      → Fits (Belongs m) m (advance (machine_of m) σ x).1
  step_fits m σ r o f p k x q = step_fits_own m σ r (owned ts m o) f p k x q

  run_fits_own : (m : Model) (σ : State) → Rooms ts s → Own ts m → Fits (Belongs m) m σ → (n : ℕ) → Fits (Belongs m) m (run_from (machine_of m) n σ).state
  run_fits_own m σ r (of_text t a e) f n = entries.run_fits ts r.tables (own_genuine ts a.tree (of_text t a e)) t a e σ [] f n

  run_fits : (m : Model) (σ : State) → Rooms ts s → Tables ts m → Fits (Belongs m) m σ → (n : ℕ) → Fits (Belongs m) m (run_from (machine_of m) n σ).state
  run_fits m σ r o f n = run_fits_own m σ r (owned ts m o) f n

  replay_fits_own : (m : Model) → Rooms ts s → Own ts m → (c : Claim) (l : List Recorded) → Fits (Belongs m) m (replay_from (machine_of m) c l 1 none (initial m)).1
  replay_fits_own m r (of_text t a e) c l = entries.replay-fits ts r.tables (own_genuine ts a.tree (of_text t a e)) t a e c l

  replay-fits : (m : Model) → Rooms ts s → Tables ts m → (c : Claim) (l : List Recorded) → Fits (Belongs m) m (replay_from (machine_of m) c l 1 none (initial m)).1
  replay-fits m r o c l = replay_fits_own m r (owned ts m o) c l

  module _ (m : Model) (σ : State) (h : Holds ts s m σ) where
    same : IsState ts s
    same = (m, σ, h.tables, h.numbers)

    done : (out : List ℕ) (k : Taken) (τ : State) (text : List ℕ) → Fits (Belongs m) m τ → IsState ts (done_by s out k (leaves s m τ) text).state
    done out Done τ text f = left m h.tables τ f
    done out Refuted τ text f = same
    done out (Faulted g) τ text f = same
    done out Idle τ text f = same

    taken : (p k : ℕ) (out : List ℕ) (o : Option Step) → asked (machine_of m) p k (offered (machine_of m) σ) ≡ o → IsState ts (taken_by s m σ out o).state
    taken p k out none e = same
    taken p k out (some x) e =
        let T = advance (machine_of m) σ x in
        done out T.0 T.1 ((machine_of m).printed σ x) (step_fits m σ h.rooms h.tables h.numbers.fits p k x e)

    roomy : (out : List ℕ) (b : Bool) (o : Outcome) → IsState ts o.state → IsState ts (pick b (refused_by 7 s out) o).state
    roomy out true o g = same
    roomy out false o g = g

    stepping : (p k : ℕ) (out : List ℕ) → IsState ts (outcome_of ts s p k out).state
    stepping p k out =
        subst (λ (o : Outcome). IsState ts o.state) (inv ((by_cases ts s).step (a_state m σ h) p k out))
        (roomy out (ltb (length out) print_room) (stepped_by (a_state m σ h) p k out) (taken p k out (asked (machine_of m) p k (offered (machine_of m) σ)) refl))

    ran : (n : ℕ) → IsState ts (ran_of ts s n).1
    ran n =
        subst (IsState ts) (inv (ap (λ r. r.1) ((by_cases ts s).run (a_state m σ h) n))) (left m h.tables (run_from (machine_of m) n σ).state (run_fits m σ h.rooms h.tables h.numbers.fits n))

  started : (x : Lent ts s) → foreign_of ts s ≡ 0 → IsState ts (start_left ts s)
  started (no_room h) e = let f = foreign_room ts s h in absurd (omega arith)
  started (no_model r h) e = let f = foreign_is ts s r h in absurd (omega arith)
  started (no_state m r h g) e = subst (IsState ts) (inv (ap (λ z. z.1) ((by_cases ts s).start (no_state m r h g)))) (left m h (initial m) (initial-fits m r h))
  started (a_state m σ h) e = subst (IsState ts) (inv (ap (λ z. z.1) ((by_cases ts s).start (a_state m σ h)))) (left m h.tables (initial m) (initial-fits m h.rooms h.tables))

  replayed : (m : Model) → Rooms ts s → Tables ts m → (trail : List ℕ) (l : List Recorded) (v : ℕ) → form_of trail ≡ form l v → replayed_of ts trail s ≡ formed_by s m (form_of trail)
      → IsState ts (replayed_of ts trail s).1
  replayed m r h trail l v e d =
      let R = replay_from (machine_of m) (claim_by v) l 1 none (initial m) in
      subst (IsState ts) (inv (ap (λ z. z.1) (d ∙ ap (formed_by s m) e))) (left m h R.1 (replay-fits m r h (claim_by v) l))

  by_replay : (x : Lent ts s) → foreign_of ts s ≡ 0 → (trail : List ℕ) (l : List Recorded) (v : ℕ) → form_of trail ≡ form l v → IsState ts (replayed_of ts trail s).1
  by_replay (no_room h) e trail l v q = let f = foreign_room ts s h in absurd (omega arith)
  by_replay (no_model r h) e trail l v q = let f = foreign_is ts s r h in absurd (omega arith)
  by_replay (no_state m r h g) e trail l v q = replayed m r h trail l v q ((by_cases ts s).replay (no_state m r h g) trail)
  by_replay (a_state m σ h) e trail l v q = replayed m h.rooms h.tables trail l v q ((by_cases ts s).replay (a_state m σ h) trail)

  by_step : (x : Lent ts s) → refusal_by x ≡ 0 → (p k : ℕ) (out : List ℕ) → IsState ts (outcome_of ts s p k out).state
  by_step (no_room h) e p k out = absurd (omega arith)
  by_step (no_model r h) e p k out = absurd (omega arith)
  by_step (no_state m r h g) e p k out = absurd (omega arith)
  by_step (a_state m σ h) e p k out = stepping m σ h p k out

  by_run : (x : Lent ts s) → refusal_by x ≡ 0 → (n : ℕ) → IsState ts (ran_of ts s n).1
  by_run (no_room h) e n = absurd (omega arith)
  by_run (no_model r h) e n = absurd (omega arith)
  by_run (no_state m r h g) e n = absurd (omega arith)
  by_run (a_state m σ h) e n = ran m σ h n

  pub states_left : StatesLeft ts s
  states_left =
      let D = by_cases ts s in
      let x = D.some_case in
      record {
        start = started x;
        step = λ e. by_step x (inv (D.refusal x) ∙ e);
        run = λ e. by_run x (inv (D.refusal x) ∙ e);
        replay = λ e trail l v f. by_replay x e trail l v ((form_exact trail l v).1 f);
      }
