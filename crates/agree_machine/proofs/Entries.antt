-- THE ENTRIES OVER PLAIN STATES, for the tables `ts` of an accepted text t with tree `a.tree`: plain equations, which crate `demands` states in document 01's words.
use Prim.Native.Nat.{ℕ, ◌+◌, ◌-◌, ◌≤◌}
use native.Mathlib.Omega.{arith}
use mathlib.Core.Path.{◌≡◌, refl, sym as inv, ap, ◌∙◌}
use mathlib.Core.Bool.{Bool, true}
use mathlib.Core.Option.{none, some}
use mathlib.Core.List.{List, [], ◌++◌}
use lib.ListN.{length, drop, length-append}
use lib.IntN.{ℤ}
use lib.Dec.{eqb, ltb}
use borrow.Author.Tests.{le-ltb}
use Rattle.base_bytes.specs.Choice.{pick}
use Rattle.spec_grammar.specs.Tree.{Model}
use Rattle.read_passes.specs.Judging.{tables_text}
use Rattle.read_accepts_proof.specs.Meaning.{Accepts}
use Rattle.read_genuine.specs.Genuine.{written, genuine}
use Rattle.state_start.specs.Starting.{initial_of}
use Rattle.state_check.specs.Standing.{is_state_of}
use Rattle.step_entry.specs.Entries.{foreign_of, refusal_of, start_left, standing_of, verdict_for, offer_by, offered_of}
use Rattle.run_entry.specs.Runs.{ending_as, shown, run_in}
use Rattle.run_entry.specs.Entries.{ran_of}
use Rattle.trail_form.specs.Forms.{Form, form, form_of}
use Rattle.spec_trails.specs.Trails.{Recorded}
use Rattle.trail_replay.specs.Replay.{replayed_as, replay_in}
use Rattle.trail_replay.specs.Entries.{replayed_by, replayed_of}
use Rattle.spec_machine.specs.State.{State}
use Rattle.spec_machine.specs.Begins.{initial}
use Rattle.agree_encode.specs.Encode.{encode}
use Rattle.spec_machine.specs.Places.{Belongs}
use Rattle.spec_machine.specs.Fits.{Fits}
use Rattle.spec_machine.specs.Machine.{Machine, Step, late, offered, advance, verdict, asked}
use Rattle.spec_trails.specs.Runs.{Ending, run_from}
use Rattle.spec_trails.specs.Replays.{Claim, claim_by, Replayed, replay_from}
use Rattle.spec_machine.specs.Steps.{machine_of}
use Rattle.agree_transfer.proofs.Machines.{offered-same, verdict-same, advance-same, run-same, replay-same}
use Rattle.step_all.specs.Moving.{machine_in, nth_in, verdict_as}
use Rattle.agree_states.proofs.Cells.{encode_long}
use Rattle.agree_states.proofs.Texts.{text_held_state, text-starts, text_initially}
use Rattle.agree_machine.proofs.Survey.{text-modest, text_surveyed, Holds, text_same}
use Rattle.agree_machine.proofs.Asked.{asked-listed}
use Rattle.base_ceilings.specs.Ceilings.{state_room, tables_room, trail_most}
use Rattle.step_entry.specs.declared.Listed.TheVariants as listed
use Rattle.step_entry.specs.declared.Standing.TheVariants as standing
use Rattle.run_entry.specs.declared.Ran.TheVariants as ran
use Rattle.trail_replay.specs.declared.Replayed.TheVariants as replayed

module _ (ts : List ℕ) (big : tables_room ≤ length ts) (real : genuine ts ≡ true) (t : List ℕ) (a : Accepts t) (own : written ts ≡ tables_text t) where
  abbrev m : Model
  m = a.tree

  abbrev T : List ℕ
  T = tables_text t

  abbrev MP : Machine State
  MP = machine_of a.tree

  -- ---- 9
  pub held : (σ : State) (rest : List ℤ) → Fits (Belongs a.tree) a.tree σ → is_state_of (written ts) (encode a.tree σ ++ rest) ≡ true
  held σ rest f = ap (λ w. is_state_of w (encode m σ ++ rest)) own ∙ text_held_state t a (text-modest t a) (text_surveyed t a) σ rest f

  -- ---- no refusal
  none_foreign : (s : List ℤ) → state_room ≤ length s → foreign_of ts s ≡ 0
  unfolding foreign_of
  none_foreign s l = rw (le-ltb (length ts) tables_room big, le-ltb (length s) state_room l, real)

  state_long : (σ : State) (rest : List ℤ) → state_room ≤ length (encode m σ ++ rest)
  state_long σ rest = let e = length-append (encode m σ) rest in let f = encode_long m σ in omega arith

  pub none_refused : (σ : State) (rest : List ℤ) → Fits (Belongs a.tree) a.tree σ → refusal_of ts (encode a.tree σ ++ rest) ≡ 0
  unfolding refusal_of
  none_refused σ rest f = rw (none_foreign (encode m σ ++ rest) (state_long σ rest), held σ rest f)

  -- ---- `start`
  pub starts : (s : List ℤ) → state_room ≤ length s → start_left ts s ≡ encode a.tree (initial a.tree) ++ drop state_room s
  unfolding start_left
  starts s l = ap (λ n. pick (eqb n 0) (initial_of (written ts) s) s) (none_foreign s l) ∙ ap (λ w. initial_of w s) own ∙ text-starts t a (text-modest t a) (text_surveyed t a) s l

  pub initially : Fits (Belongs a.tree) a.tree (initial a.tree)
  initially = text_initially t a (text-modest t a) (text_surveyed t a)

  -- ---- numbers that hold a state
  module _ (σ : State) (rest : List ℤ) (f : Fits (Belongs m) m σ) where
    abbrev E : List ℤ
    E = encode m σ ++ rest

    pub holding : Holds t a rest σ (encode a.tree σ ++ rest)
    holding = record { fits = f; is = refl }

    pub same-offered : offered (machine_in (tables_text t)) (encode a.tree σ ++ rest) ≡ offered (machine_of a.tree) σ
    same-offered = inv (offered-same (Holds t a rest) MP (machine_in T) (text_same t a rest) holding)

    -- `offered`
    pub lists : (n : ℕ) → offered_of ts (encode a.tree σ ++ rest) n ≡ offer_by (nth_in n (offered (machine_of a.tree) σ)) n
    unfolding offered_of
    lists n =
        ap (λ (i : ℕ). pick (eqb i 0) (offer_by (nth_in n (offered (machine_in (written ts)) E)) n) (listed.Refused i)) (none_refused σ rest f)
        ∙ ap (λ w. offer_by (nth_in n (offered (machine_in w) E)) n) own ∙ ap (λ (l : List Step). offer_by (nth_in n l) n) same-offered

    -- `verdict`
    pub judges : verdict_for ts (encode a.tree σ ++ rest) ≡ standing_of (verdict_as (verdict (machine_of a.tree) σ))
    unfolding verdict_for
    judges =
        ap (λ (i : ℕ). pick (eqb i 0) (standing_of (verdict_as (verdict (machine_in (written ts)) E))) (standing.Refused i)) (none_refused σ rest f)
        ∙ ap (λ w. standing_of (verdict_as (verdict (machine_in w) E))) own
        ∙ ap (λ v. standing_of (verdict_as v)) (inv (verdict-same (Holds t a rest) MP (machine_in T) (text_same t a rest) holding))

    -- `run`
    pub runs_so : (n : ℕ) → ran_of ts (encode a.tree σ ++ rest) n
        ≡ (ran.Ended (ending_as (run_from (machine_of a.tree) n σ).ending) (run_from (machine_of a.tree) n σ).count, encode a.tree (run_from (machine_of a.tree) n σ).state ++ rest)
    unfolding ran_of
    runs_so n =
        let r = run-same (Holds t a rest) MP (machine_in T) (text_same t a rest) n holding in
        ap (λ (i : ℕ). pick (eqb i 0) (shown (run_in (written ts) n E)) (ran.Refused i, E)) (none_refused σ rest f) ∙ ap (λ w. shown (run_in w n E)) own
        ∙ ap (λ (e : Ending). (ran.Ended (ending_as e) (run_from (machine_in T) n E).count, (run_from (machine_in T) n E).state)) (inv r.0)
        ∙ ap (λ (c : ℕ). (ran.Ended (ending_as (run_from MP n σ).ending) c, (run_from (machine_in T) n E).state)) (inv r.1)
        ∙ ap (λ (s : List ℤ). (ran.Ended (ending_as (run_from MP n σ).ending) (run_from MP n σ).count, s)) r.2.is

    -- what a step that is asked for leaves fits
    pub keeps : (p k : ℕ) (x : Step) → asked (machine_of a.tree) p k (offered (machine_of a.tree) σ) ≡ some x → Fits (Belongs a.tree) a.tree (advance (machine_of a.tree) σ x).1
    keeps p k x e =
        let l = asked-listed MP σ p k x e in
        (advance-same (Holds t a rest) MP (machine_in T) (text_same t a rest) holding (late MP σ) x l.0 l.1).1.fits

    -- what a run leaves fits
    pub run_fits : (n : ℕ) → Fits (Belongs a.tree) a.tree (run_from (machine_of a.tree) n σ).state
    run_fits n = (run-same (Holds t a rest) MP (machine_in T) (text_same t a rest) n holding).2.fits

  -- ---- `replay`, and what it leaves fits
  pub replay-fits : (claim : Claim) (l : List Recorded) → Fits (Belongs a.tree) a.tree (replay_from (machine_of a.tree) claim l 1 none (initial a.tree)).1
  replay-fits claim l = (replay-same (Holds t a []) MP (machine_in T) (text_same t a []) claim l 1 none (record { fits = initially; is = refl })).1.fits

  pub replays : (s : List ℤ) → state_room ≤ length s → (trail : List ℕ) (l : List Recorded) (v : ℕ) → length trail ≤ trail_most → form_of trail ≡ form l v
      → replayed_of ts trail s
      ≡ (replayed_as v (replay_from (machine_of a.tree) (claim_by v) l 1 none (initial a.tree)).0, encode a.tree (replay_from (machine_of a.tree) (claim_by v) l 1 none (initial a.tree)).1 ++ drop state_room s)
  unfolding replayed_of
  replays s l trail rs v short e =
      let rest = drop state_room s in
      let E0 = encode m (initial m) ++ drop state_room s in
      let R = replay-same (Holds t a rest) MP (machine_in T) (text_same t a rest) (claim_by v) rs 1 none (record { fits = initially; is = refl }) in
      ap (λ (i : ℕ). pick (eqb i 7) (replayed.Refused 7 0, s) (pick (ltb trail_most (length trail)) (replayed.Refused 2 0, s) (pick (eqb i 0) (replayed_by (form_of trail) (written ts) s) (replayed.Refused 8 0, s)))) (none_foreign s l)
      ∙ ap (λ (b : Bool). pick b (replayed.Refused 2 0, s) (replayed_by (form_of trail) (written ts) s)) (le-ltb trail_most (length trail) short)
      ∙ ap (λ (g : Form). replayed_by g (written ts) s) e
      ∙ ap (λ w. replay_in w (form rs v) (initial_of w s)) own
      ∙ ap (replay_in T (form rs v)) (text-starts t a (text-modest t a) (text_surveyed t a) s l)
      ∙ ap (λ (x : Replayed). (replayed_as v x, (replay_from (machine_in T) (claim_by v) rs 1 none E0).1)) (inv R.0)
      ∙ ap (λ (y : List ℤ). (replayed_as v (replay_from MP (claim_by v) rs 1 none (initial m)).0, y)) R.1.is
