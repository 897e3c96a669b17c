-- THE ENTRIES OF THE STEPPER ARE FUNCTIONS of the case of what is lent.
use Prim.Native.Nat.{ℕ, ◌≤◌}
use mathlib.Core.Path.{◌≡◌, refl, sym as inv, ap, ap₂, ◌∙◌}
use mathlib.Core.Bool.{Bool, true, false}
use mathlib.Core.Option.{Option, none, some}
use mathlib.Core.List.{List}
use lib.ListN.{length, drop}
use lib.IntN.{ℤ}
use lib.Dec.{eqb, ltb}
use borrow.Author.Tests.{le-ltb, ltb-false}
use Rattle.base_bytes.specs.Choice.{pick}
use Rattle.spec_grammar.specs.Tree.{Model}
use Rattle.read_genuine.specs.Genuine.{written}
use Rattle.state_start.specs.Starting.{initial_of}
use Rattle.step_all.specs.Moving.{machine_in, nth_in, verdict_as}
use Rattle.step_entry.specs.Entries.{foreign_of, refusal_of, start_left, standing_of, offer_by, offered_of, verdict_for, refused_by, outcome_by, asked_in, step_refusal, outcome_of}
use Rattle.run_entry.specs.Runs.{shown, run_in}
use Rattle.run_entry.specs.Entries.{ran_of}
use Rattle.trail_form.specs.Forms.{Form, form, spoiled, form_from, form_of}
use Rattle.spec_trails.specs.Trails.{Recorded}
use Rattle.trail_replay.specs.Replay.{replayed_as}
use Rattle.trail_replay.specs.Entries.{replayed_of}
use Rattle.spec_machine.specs.State.{State}
use Rattle.spec_machine.specs.Begins.{initial}
use Rattle.spec_machine.specs.Machine.{Machine, Step, offered, advance, verdict, asked}
use Rattle.spec_trails.specs.Replays.{claim_by, replay_from}
use Rattle.spec_trails.specs.Runs.{run_from}
use Rattle.spec_machine.specs.Steps.{machine_of}
use Rattle.agree_machine.proofs.Step.{step-still, step-none, step-some, advance-silent}
use Rattle.demands.proofs.Owned.{Own, of_text, owned}
use Rattle.demands.proofs.Lent.{own_genuine, foreign_room, foreign_is, foreign_none, refusal_is, some_case}
use Rattle.demands.proofs.Answers.{as-standing, as-listed, as-done}
use Rattle.base_ceilings.specs.Ceilings.{print_room, state_room, steps_most, trail_most}
use Rattle.step_entry.specs.declared.Listed.TheVariants as listed
use Rattle.step_entry.specs.declared.Standing.TheVariants as standing
use Rattle.run_entry.specs.declared.Ran.TheVariants as ran
use Rattle.trail_replay.specs.Entries as trails
use Rattle.trail_replay.specs.declared.Replayed.TheVariants as replayed
use Rattle.agree_machine.proofs.Entries as entries
use Rattle.demands.specs.Lent.{Rooms, Tables, Numbers, leaves}
use Rattle.demands.proofs.Entries.{ByCases, Lent, no_room, no_model, no_state, a_state, standing_by, listed_by, done_by, taken_by, ran_by, formed_by, start_by, offered_by, verdict_by, stepped_by, step_by, run_by, replay_by}

module _ (ts : List ℕ) (s : List ℤ) where
  -- ---- by the number of the refusal
  refused_start : (i : ℕ) → eqb i 0 ≡ false → foreign_of ts s ≡ i → ◌≡◌ {A = ℕ × List ℤ} (foreign_of ts s, start_left ts s) (i, s)
  unfolding start_left
  refused_start i z e = ap (λ j. (j, pick (eqb j 0) (initial_of (written ts) s) s)) e ∙ ap (λ b. (i, pick b (initial_of (written ts) s) s)) z

  refused_offered : (i n : ℕ) → eqb i 0 ≡ false → refusal_of ts s ≡ i → offered_of ts s n ≡ listed.Refused i
  unfolding offered_of
  refused_offered i n z e = ap (λ j. pick (eqb j 0) (offer_by (nth_in n (offered (machine_in (written ts)) s)) n) (listed.Refused j)) e ∙ ap (λ b. pick b (offer_by (nth_in n (offered (machine_in (written ts)) s)) n) (listed.Refused i)) z

  refused_verdict : (i : ℕ) → eqb i 0 ≡ false → refusal_of ts s ≡ i → verdict_for ts s ≡ standing.Refused i
  unfolding verdict_for
  refused_verdict i z e =
      ap (λ j. pick (eqb j 0) (standing_of (verdict_as (verdict (machine_in (written ts)) s))) (standing.Refused j)) e ∙ ap (λ b. pick b (standing_of (verdict_as (verdict (machine_in (written ts)) s))) (standing.Refused i)) z

  refused_run : (i n : ℕ) → eqb i 0 ≡ false → refusal_of ts s ≡ i → ran_of ts s n ≡ (ran.Refused i, s)
  unfolding ran_of
  refused_run i n z e =
      ap (λ j. pick (eqb j 0) (shown (run_in (written ts) n s)) (ran.Refused j, s)) e ∙ ap (λ b. pick b (shown (run_in (written ts) n s)) (ran.Refused i, s)) z

  refused_step : (i p k : ℕ) (out : List ℕ) → eqb i 0 ≡ false → step_refusal ts s out ≡ i → outcome_of ts s p k out ≡ refused_by i s out
  unfolding outcome_of
  refused_step i p k out z e =
      ap (λ j. pick (eqb j 0) (outcome_by (asked_in (written ts) s p k) (written ts) s out) (refused_by j s out)) e
      ∙ ap (λ b. pick b (outcome_by (asked_in (written ts) s p k) (written ts) s out) (refused_by i s out)) z

  printed-room : (out : List ℕ) (b : Bool) → ltb (length out) print_room ≡ b → step_refusal ts s out ≡ pick b 7 (refusal_of ts s)
  unfolding step_refusal
  printed-room out b e = ap (λ c. pick c 7 (refusal_of ts s)) e

  replay_by_lem : (i : ℕ) (trail : List ℕ) → foreign_of ts s ≡ i → replayed_of ts trail s
      ≡ pick (eqb i 7) (replayed.Refused 7 0, s) (pick (ltb trail_most (length trail)) (replayed.Refused 2 0, s) (pick (eqb i 0) (trails.replayed_by (form_of trail) (written ts) s) (replayed.Refused 8 0, s)))
  unfolding replayed_of
  replay_by_lem i trail e =
      ap (λ j. pick (eqb j 7) (replayed.Refused 7 0, s) (pick (ltb trail_most (length trail)) (replayed.Refused 2 0, s) (pick (eqb j 0) (trails.replayed_by (form_of trail) (written ts) s) (replayed.Refused 8 0, s)))) e

  -- ---- where nothing is refused
  starts_own : (m : Model) → Rooms ts s → Own ts m → start_left ts s ≡ leaves s m (initial m)
  unfolding leaves
  starts_own m r (of_text t a e) = entries.starts ts r.tables (own_genuine ts a.tree (of_text t a e)) t a e s r.state

  pub starts : (m : Model) → Rooms ts s → Tables ts m → start_left ts s ≡ leaves s m (initial m)
  starts m r o = starts_own m r (owned ts m o)

  lists_own : (m : Model) (σ : State) → Rooms ts s → Own ts m → Numbers m s σ → (n : ℕ) → offered_of ts s n ≡ listed_by (length (offered (machine_of m) σ)) n (offered (machine_of m) σ)
  lists_own m σ r (of_text t a e) h n =
      ap (λ x. offered_of ts x n) h.are ∙ entries.lists ts r.tables (own_genuine ts a.tree (of_text t a e)) t a e σ (drop state_room s) h.fits n
      ∙ as-listed (offered (machine_of a.tree) σ) n

  lists : (m : Model) (σ : State) → Rooms ts s → Tables ts m → Numbers m s σ → (n : ℕ) → offered_of ts s n ≡ listed_by (length (offered (machine_of m) σ)) n (offered (machine_of m) σ)
  lists m σ r o h n = lists_own m σ r (owned ts m o) h n

  judges_own : (m : Model) (σ : State) → Rooms ts s → Own ts m → Numbers m s σ → verdict_for ts s ≡ standing_by (verdict (machine_of m) σ)
  judges_own m σ r (of_text t a e) h =
      ap (verdict_for ts) h.are ∙ entries.judges ts r.tables (own_genuine ts a.tree (of_text t a e)) t a e σ (drop state_room s) h.fits
      ∙ as-standing (verdict (machine_of a.tree) σ)

  judges : (m : Model) (σ : State) → Rooms ts s → Tables ts m → Numbers m s σ → verdict_for ts s ≡ standing_by (verdict (machine_of m) σ)
  judges m σ r o h = judges_own m σ r (owned ts m o) h

  takes_own : (m : Model) (σ : State) → Rooms ts s → Own ts m → Numbers m s σ → (p k : ℕ) (out : List ℕ) → print_room ≤ length out
      → outcome_of ts s p k out ≡ taken_by s m σ out (asked (machine_of m) p k (offered (machine_of m) σ))
  unfolding leaves
  takes_own m σ r (of_text t a e) h p k out long = go (asked M p k (offered M σ)) refl
    where
      M : Machine State
      M = machine_of a.tree

      go : (o : Option Step) → asked (machine_of a.tree) p k (offered (machine_of a.tree) σ) ≡ o → outcome_of ts s p k out ≡ taken_by s a.tree σ out o
      go none q =
          ap (λ x. outcome_of ts x p k out) h.are ∙ step-none ts r.tables (own_genuine ts a.tree (of_text t a e)) t a e σ (drop state_room s) h.fits p k out long q
          ∙ ap (λ x. refused_by 11 x out) (inv h.are)
      go (some x) q =
          let N = machine_of a.tree in
          let real = own_genuine ts a.tree (of_text t a e) in
          let after = advance N σ x in
          ap (λ y. outcome_of ts y p k out) h.are ∙ step-some ts r.tables real t a e σ (drop state_room s) h.fits p k out long x q
          ∙ as-done (leaves s a.tree) σ out after.0 after.1 (N.printed σ x)
          (step-still ts r.tables real t a e σ (drop state_room s) h.fits p k x q) (advance-silent a.tree σ x)
          ∙ ap (λ y. done_by y out after.0 (leaves s a.tree after.1) (N.printed σ x)) (inv h.are)

  takes : (m : Model) (σ : State) → Rooms ts s → Tables ts m → Numbers m s σ → (p k : ℕ) (out : List ℕ) → print_room ≤ length out
      → outcome_of ts s p k out ≡ taken_by s m σ out (asked (machine_of m) p k (offered (machine_of m) σ))
  takes m σ r o h p k out long = takes_own m σ r (owned ts m o) h p k out long

  runs_so_own : (m : Model) (σ : State) → Rooms ts s → Own ts m → Numbers m s σ → (n : ℕ) → ran_of ts s n ≡ ran_by s m (run_from (machine_of m) n σ)
  unfolding leaves
  runs_so_own m σ r (of_text t a e) h n =
      ap (λ x. ran_of ts x n) h.are ∙ entries.runs_so ts r.tables (own_genuine ts a.tree (of_text t a e)) t a e σ (drop state_room s) h.fits n

  runs_so : (m : Model) (σ : State) → Rooms ts s → Tables ts m → Numbers m s σ → (n : ℕ) → ran_of ts s n ≡ ran_by s m (run_from (machine_of m) n σ)
  runs_so m σ r o h n = runs_so_own m σ r (owned ts m o) h n

  replays_records_own : (m : Model) → Rooms ts s → Own ts m → (trail : List ℕ) (l : List Recorded) (v : ℕ) → length trail ≤ trail_most → form_of trail ≡ form l v
      → replayed_of ts trail s
      ≡ (replayed_as v (replay_from (machine_of m) (claim_by v) l 1 none (initial m)).0, leaves s m (replay_from (machine_of m) (claim_by v) l 1 none (initial m)).1)
  unfolding leaves
  replays_records_own m r (of_text t a e) trail l v h q =
      entries.replays ts r.tables (own_genuine ts a.tree (of_text t a e)) t a e s r.state trail l v h q

  replays_records : (m : Model) → Rooms ts s → Tables ts m → (trail : List ℕ) (l : List Recorded) (v : ℕ) → length trail ≤ trail_most → form_of trail ≡ form l v
      → replayed_of ts trail s
      ≡ (replayed_as v (replay_from (machine_of m) (claim_by v) l 1 none (initial m)).0, leaves s m (replay_from (machine_of m) (claim_by v) l 1 none (initial m)).1)
  replays_records m r o trail l v h q = replays_records_own m r (owned ts m o) trail l v h q

  pub replays : (m : Model) → Rooms ts s → Tables ts m → (trail : List ℕ) → replayed_of ts trail s ≡ formed_by s m (form_of trail)
  replays m r h trail = by_length (ltb trail_most (length trail)) refl
    where
      let_through : replayed_of ts trail s ≡ pick (ltb trail_most (length trail)) (replayed.Refused 2 0, s) (trails.replayed_by (form_of trail) (written ts) s)
      let_through = replay_by_lem 0 trail (foreign_none ts s m r h)

      by_form : length trail ≤ trail_most → (f : Form) → form_of trail ≡ f → replayed_of ts trail s ≡ formed_by s m f
      by_form g (spoiled x line) q =
          let_through ∙ ap (λ b. pick b (replayed.Refused 2 0, s) (trails.replayed_by (form_of trail) (written ts) s)) (le-ltb trail_most (length trail) g)
          ∙ ap (λ (f : Form). trails.replayed_by f (written ts) s) q
      by_form g (form l v) q = replays_records m r h trail l v g q

      by_length : (b : Bool) → ltb trail_most (length trail) ≡ b → replayed_of ts trail s ≡ formed_by s m (form_of trail)
      by_length true q =
          let_through ∙ ap (λ b. pick b (replayed.Refused 2 0, s) (trails.replayed_by (form_of trail) (written ts) s)) q
          ∙ ap (λ b. formed_by s m (pick b (spoiled 2 0) (form_from 1 steps_most 0 trail))) (inv q)
      by_length false q = by_form (ltb-false trail_most (length trail) q) (form_of trail) refl

  -- ---- each entry in each case
  start_is : (x : Lent ts s) → (foreign_of ts s, start_left ts s) ≡ start_by x
  start_is (no_room h) = refused_start 7 refl (foreign_room ts s h)
  start_is (no_model r h) = refused_start 8 refl (foreign_is ts s r h)
  start_is (no_state m r h g) = ap₂ (λ (i : ℕ) (y : List ℤ). (i, y)) (foreign_none ts s m r h) (starts m r h)
  start_is (a_state m σ h) = ap₂ (λ (i : ℕ) (y : List ℤ). (i, y)) (foreign_none ts s m h.rooms h.tables) (starts m h.rooms h.tables)

  offered_is : (x : Lent ts s) (n : ℕ) → offered_of ts s n ≡ offered_by x n
  offered_is (no_room h) n = refused_offered 7 n refl (refusal_is ts s (no_room h))
  offered_is (no_model r h) n = refused_offered 8 n refl (refusal_is ts s (no_model r h))
  offered_is (no_state m r h g) n = refused_offered 9 n refl (refusal_is ts s (no_state m r h g))
  offered_is (a_state m σ h) n = lists m σ h.rooms h.tables h.numbers n

  verdict_is : (x : Lent ts s) → verdict_for ts s ≡ verdict_by x
  verdict_is (no_room h) = refused_verdict 7 refl (refusal_is ts s (no_room h))
  verdict_is (no_model r h) = refused_verdict 8 refl (refusal_is ts s (no_model r h))
  verdict_is (no_state m r h g) = refused_verdict 9 refl (refusal_is ts s (no_state m r h g))
  verdict_is (a_state m σ h) = judges m σ h.rooms h.tables h.numbers

  step_is : (x : Lent ts s) (p k : ℕ) (out : List ℕ) → outcome_of ts s p k out ≡ step_by x p k out
  step_is x p k out = go (ltb (length out) print_room) refl
    where
      wide : ltb (length out) print_room ≡ false → (x : Lent ts s) → outcome_of ts s p k out ≡ stepped_by x p k out
      wide e (no_room h) = refused_step 7 p k out refl (printed-room out false e ∙ refusal_is ts s (no_room h))
      wide e (no_model r h) = refused_step 8 p k out refl (printed-room out false e ∙ refusal_is ts s (no_model r h))
      wide e (no_state m r h g) = refused_step 9 p k out refl (printed-room out false e ∙ refusal_is ts s (no_state m r h g))
      wide e (a_state m σ h) = takes m σ h.rooms h.tables h.numbers p k out (ltb-false (length out) print_room e)

      go : (b : Bool) → ltb (length out) print_room ≡ b → outcome_of ts s p k out ≡ pick b (refused_by 7 s out) (stepped_by x p k out)
      go true e = refused_step 7 p k out refl (printed-room out true e)
      go false e = wide e x

  run_is : (x : Lent ts s) (n : ℕ) → ran_of ts s n ≡ run_by x n
  run_is (no_room h) n = refused_run 7 n refl (refusal_is ts s (no_room h))
  run_is (no_model r h) n = refused_run 8 n refl (refusal_is ts s (no_model r h))
  run_is (no_state m r h g) n = refused_run 9 n refl (refusal_is ts s (no_state m r h g))
  run_is (a_state m σ h) n = runs_so m σ h.rooms h.tables h.numbers n

  replay_is : (x : Lent ts s) (trail : List ℕ) → replayed_of ts trail s ≡ replay_by x trail
  replay_is (no_room h) trail = replay_by_lem 7 trail (foreign_room ts s h)
  replay_is (no_model r h) trail = replay_by_lem 8 trail (foreign_is ts s r h)
  replay_is (no_state m r h g) trail = replays m r h trail
  replay_is (a_state m σ h) trail = replays m h.rooms h.tables trail

  -- THE THEOREM
  pub by_cases : ByCases ts s
  by_cases =
      record {
        some_case = some_case ts s;
        refusal = refusal_is ts s;
        start = start_is;
        offered = offered_is;
        verdict = verdict_is;
        step = step_is;
        run = run_is;
        replay = replay_is;
      }
