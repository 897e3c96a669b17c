-- A TRAIL IS ACCEPTED exactly when it is well formed and its records, each offered in its turn, lead to the claimed verdict; every walk, written as a trail, is.
use Prim.Native.Nat.{ℕ, suc, ◌≤◌}
use native.Mathlib.Omega.{arith}
use mathlib.Core.Path.{◌≡◌, refl, sym as inv, ap, ap₂, ◌∙◌, subst}
use mathlib.Core.Bool.{Bool, true, false}
use mathlib.Core.Option.{none}
use mathlib.Core.List.{List, [], ◌∷◌}
use mathlib.Core.Logic.{◌↔◌}
use lib.ListN.{length}
use lib.IntN.{ℤ}
use lib.Dec.{ltb}
use Rattle.base_bytes.specs.Choice.{pick}
use Rattle.spec_grammar.specs.Tree.{Model}
use Rattle.trail_form.specs.Forms.{Form, form, spoiled, form_of}
use Rattle.spec_trails.specs.Trails.{Recorded, trail_of}
use Rattle.spec_trails.specs.Texts.{TextOf}
use Rattle.trail_replay.specs.Replay.{replayed_as}
use Rattle.trail_replay.specs.Entries.{replayed_of}
use Rattle.trail_form.proofs.Exact.{claim_back, form_exact}
use Rattle.spec_machine.specs.State.{State}
use Rattle.spec_machine.specs.Begins.{initial}
use Rattle.spec_machine.specs.Places.{Belongs}
use Rattle.spec_machine.specs.Fits.{Fits}
use Rattle.spec_trails.specs.Replays.{Claim, claimed, claim_by, Replayed, accepted, refused, replay_from}
use Rattle.spec_machine.specs.Steps.{machine_of}
use Rattle.demands.specs.Walks.{Walks}
use Rattle.demands.specs.Said as said
use Rattle.demands.specs.Said.{values}
use Rattle.demands.specs.Demand2.{Acceptable}
use Rattle.demands.proofs.Told.{values_in, not_refusal}
use Rattle.demands.proofs.Walks.{walk_accepted, accepted_walk}
use Rattle.demands.proofs.Good.{good_step, walk-small}
use Rattle.demands.proofs.Leaves.{initial-fits}
use Rattle.demands.proofs.ByCases.{replays, by_cases}
use Rattle.base_ceilings.specs.Ceilings.{steps_most, trail_most}
use Rattle.trail_replay.specs.declared.Replayed as trails
use Rattle.trail_replay.specs.declared.Replayed.TheVariants as replayed
use Rattle.demands.specs.Lent.{Rooms, Tables, leaves}
use Rattle.demands.proofs.Entries.{Lent, no_room, no_model, no_state, a_state, answered_by, formed_by, replay_by}

-- answers by numbers, to tell them apart
abbrev verdict_in : trails.Replayed → ℕ
verdict_in (replayed.Accepted v) = suc v
verdict_in (replayed.Refused x line) = 0

module _ (ts trail : List ℕ) (s : List ℤ) (v : ℕ) (left : List ℤ) where
  abbrev Ends : trails.Replayed × List ℤ → Type 0
  Ends r = r ≡ (replayed.Accepted v, left)

  not_refused : (x line : ℕ) (l : List ℤ) → Ends (replayed.Refused x line, l) → ⊥
  not_refused x line l e = let z : ◌≡◌ {A = ℕ} 0 (suc v) = ap (λ r. verdict_in r.0) e in omega arith

  by_form : (m : Model) → Rooms ts s → Tables ts m → (f : Form) → form_of trail ≡ f → Ends (formed_by s m f) → Acceptable ts trail s v left
  by_form m r h (spoiled x line) q e = absurd (not_refused x line s e)
  by_form m r h (form l w) q e = go R.0 R.1 refl e
    where
      R : Replayed × State
      R = replay_from (machine_of m) (claim_by w) l 1 none (initial m)

      go : (a : Replayed) (τ : State) → replay_from (machine_of m) (claim_by w) l 1 none (initial m) ≡ (a, τ) → Ends (replayed_as w a, leaves s m τ) → Acceptable ts trail s v left
      go (refused x line) τ d e = absurd (not_refused x line (leaves s m τ) e)
      go accepted τ d e =
          let z : suc w ≡ suc v = ap (λ r. verdict_in r.0) e in
          let y : w ≡ v = omega arith in
          let text : TextOf steps_most trail l v = (form_exact trail l v).0 (q ∙ ap (form l) y) in
          record {
            rooms = r;
            model = m;
            tables = h;
            records = l;
            formed = text;
            reached = τ;
            walk = subst (λ c. Walks (machine_of m) l (initial m) c τ) (ap claim_by (y ∙ text.verdict) ∙ claim_back text.claim)
                (accepted_walk (machine_of m) (Fits (Belongs m) m) (good_step ts s m r h) (claim_by w) l 1 (initial m) τ (initial-fits ts s m r h) d);
            is_left = inv (ap (λ p. p.1) e);
          }

  from-answer : (x : Lent ts s) → Ends (replay_by x trail) → Acceptable ts trail s v left
  from-answer (no_room h) e = absurd (not_refused 7 0 s e)
  from-answer (no_model r h) e = go (ltb trail_most (length trail)) e
    where
      go : (b : Bool) → Ends (pick b (replayed.Refused 2 0, s) (replayed.Refused 8 0, s)) → Acceptable ts trail s v left
      go true e = absurd (not_refused 2 0 s e)
      go false e = absurd (not_refused 8 0 s e)
  from-answer (no_state m r h g) e = by_form m r h (form_of trail) refl e
  from-answer (a_state m σ h) e = by_form m h.rooms h.tables (form_of trail) refl e

  to_answer : Acceptable ts trail s v left → replayed_of ts trail s ≡ (replayed.Accepted v, left)
  to_answer a =
      let m = a.model in
      let c : claim_by v ≡ a.formed.claim = ap claim_by a.formed.verdict ∙ claim_back a.formed.claim in
      replays ts s m a.rooms a.tables trail ∙ ap (formed_by s m) ((form_exact trail a.records v).1 a.formed)
      ∙ ap (λ d. answered_by s m v (replay_from (machine_of m) d a.records 1 none (initial m))) c
      ∙ ap (answered_by s m v) (walk_accepted (machine_of m) a.walk 1)
      ∙ ap (λ (l : List ℤ). (replayed.Accepted v, l)) (inv a.is_left)

accepted_said : (a : trails.Replayed) (v : ℕ) → said.replay a ≡ values (v ∷ []) → a ≡ replayed.Accepted v
accepted_said (replayed.Accepted w) v e = ap replayed.Accepted (ap (λ x. first (values_in x)) e)
  where
    first : List ℕ → ℕ
    first [] = 0
    first (x ∷ l) = x
accepted_said (replayed.Refused x line) v e = not_refusal e

pub acceptance : (ts trail : List ℕ) (s : List ℤ) (v : ℕ) (left : List ℤ) → ((said.replay (replayed_of ts trail s).0 ≡ values (v ∷ [])) × ((replayed_of ts trail s).1 ≡ left)) ↔ Acceptable ts trail s v left
acceptance ts trail s v left =
    let D = by_cases ts s in
    let x = D.some_case in (
      (λ e. from-answer ts trail s v left x (inv (D.replay x trail) ∙ ap₂ (λ (a : trails.Replayed) (l : List ℤ). (a, l)) (accepted_said (replayed_of ts trail s).0 v e.0) e.1)),
      (λ a. let e = to_answer ts trail s v left a in (ap (λ r. said.replay r.0) e, ap (λ r. r.1) e)),
    )

-- every walk is small enough to be written
pub walk_acceptable : (ts : List ℕ) (s : List ℤ) (m : Model) (l : List Recorded) (c : Claim) (τ : State) → Rooms ts s → Tables ts m → length l ≤ steps_most → Walks (machine_of m) l (initial m) c τ
    → Acceptable ts (trail_of l (claimed c)) s (claimed c) (leaves s m τ)
walk_acceptable ts s m l c τ r h few w =
    record {
      rooms = r;
      model = m;
      tables = h;
      records = l;
      formed = record { claim = c; verdict = refl; text = refl; small = walk-small ts s m r h (initial-fits ts s m r h) w; few = few };
      reached = τ;
      walk = w;
      is_left = refl;
    }
