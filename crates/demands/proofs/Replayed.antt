-- REPLAY refuses exactly as the table says: number, line, and the numbers left.
use Prim.Native.Nat.{ℕ, suc, ◌<◌}
use native.Mathlib.Omega.{arith}
use mathlib.Core.Path.{◌≡◌, refl, sym, ap, ap₂, subst, ◌∙◌}
use mathlib.Core.Bool.{Bool, true, false}
use mathlib.Core.Logic.{◌⊎◌, inl, inr}
use mathlib.Core.Option.{none}
use mathlib.Core.List.{List}
use borrow.Author.Tests.{lt-ltb, le-ltb, ltb-true, ltb-false}
use lib.Dec.{ltb}
use lib.ListN.{length}
use lib.IntN.{ℤ}
use Rattle.base_ceilings.specs.Ceilings.{state_room, tables_room, trail_most}
use Rattle.base_bytes.specs.Choice.{pick}
use Rattle.spec_grammar.specs.Tree.{Model}
use Rattle.spec_machine.specs.State.{State}
use Rattle.spec_machine.specs.Begins.{initial}
use Rattle.spec_machine.specs.Places.{Belongs}
use Rattle.spec_machine.specs.Fits.{Fits}
use Rattle.spec_machine.specs.Steps.{machine_of}
use Rattle.spec_trails.specs.Replays.{claim_by, Replayed, accepted, refused, replay_from}
use Rattle.spec_refusals.specs.Trails as forms
use Rattle.trail_form.specs.Forms.{Form, form, spoiled, form_of}
use Rattle.trail_form.proofs.Exact.{claim_back, form_exact}
use Rattle.trail_form_proof.proofs.Exact.{form_misformed}
use Rattle.trail_replay.specs.Replay.{replayed_as}
use Rattle.trail_replay.specs.Entries.{replayed_of}
use Rattle.trail_replay.specs.declared.Replayed as trails
use Rattle.trail_replay.specs.declared.Replayed.TheVariants as replayed
use Rattle.demands.specs.Said as said
use Rattle.demands.specs.Said.{refusal}
use Rattle.demands.proofs.Told.{not-values}
use Rattle.demands.proofs.Entries as lent
use Rattle.demands.specs.Walks.{Stops}
use Rattle.demands.specs.Demand1.{TrailRefused, no_room, too_long, no_model, misformed, stops, Replay}
use Rattle.demands.proofs.Walks.{stop_refused, refused_stop}
use Rattle.demands.proofs.Good.{good_step}
use Rattle.demands.proofs.Leaves.{initial-fits}
use Rattle.demands.proofs.ByCases.{replays, by_cases}
use Rattle.demands.specs.Lent.{Rooms, Tables, leaves}
use Rattle.demands.proofs.Entries.{Lent, answered_by, formed_by, replay_by}

said_so : (a : trails.Replayed) (x line : ℕ) → said.replay a ≡ refusal x line 0 → a ≡ replayed.Refused x line
said_so (replayed.Accepted v) x line e = not-values e
said_so (replayed.Refused y l) x line e = let a : y ≡ x = cc in let b : l ≡ line = cc in rw (a, b) refl

-- answers by numbers, to tell them apart
abbrev number_in : trails.Replayed → ℕ
number_in (replayed.Accepted v) = 0
number_in (replayed.Refused x line) = suc x

abbrev line_in : trails.Replayed → ℕ
line_in (replayed.Accepted v) = 0
line_in (replayed.Refused x line) = line

module _ (ts trail : List ℕ) (s : List ℤ) where
  no_rooms : (length ts < tables_room) ⊎ (length s < state_room) → Rooms ts s → ⊥
  no_rooms (inl h) r = omega (arith, r.tables)
  no_rooms (inr h) r = omega (arith, r.state)

  module _ (x line : ℕ) (left : List ℤ) where
    abbrev Ends : trails.Replayed × List ℤ → Type 0
    Ends r = r ≡ (replayed.Refused x line, left)

    same : {y l : ℕ} {k : List ℤ} → Ends (replayed.Refused y l, k) → TrailRefused ts trail s y l k → TrailRefused ts trail s x line left
    same {y} {l} {k} e z =
        let a : suc y ≡ suc x = ap (λ r. number_in r.0) e in
        let b : y ≡ x = omega arith in
        let c : l ≡ line = ap (λ r. line_in r.0) e in
        let d : k ≡ left = ap (λ r. r.1) e in
        rw (← b, ← c, ← d) z

    by_form : (m : Model) → Rooms ts s → Tables ts m → (f : Form) → form_of trail ≡ f → Ends (formed_by s m f) → TrailRefused ts trail s x line left
    by_form m r h (spoiled y l) q e = go (ltb trail_most (length trail)) refl
      where
        go : (b : Bool) → ltb trail_most (length trail) ≡ b → TrailRefused ts trail s x line left
        go true p =
            let g = ltb-true trail_most (length trail) p in
            let w : spoiled y l ≡ spoiled 2 0 = sym q ∙ (form_misformed trail 2 0).1 (forms.too_long g) in
            let a : y ≡ 2 = cc in
            let b : l ≡ 0 = cc in
            same (subst (λ i. Ends (replayed.Refused 2 i, s)) b (subst (λ i. Ends (replayed.Refused i l, s)) a e)) (too_long r g)
        go false p = same e (misformed m r h (ltb-false trail_most (length trail) p) ((form_misformed trail y l).0 q))
    by_form m r h (form l w) q e = go R.0 R.1 refl e
      where
        R : Replayed × State
        R = replay_from (machine_of m) (claim_by w) l 1 none (initial m)

        go : (a : Replayed) (τ : State) → replay_from (machine_of m) (claim_by w) l 1 none (initial m) ≡ (a, τ) → Ends (replayed_as w a, leaves s m τ) → TrailRefused ts trail s x line left
        go accepted τ d e = absurd (let z : ◌≡◌ {A = ℕ} 0 (suc x) = ap (λ r. number_in r.0) e in omega arith)
        go (refused y n) τ d e =
            let f = (form_exact trail l w).0 q in
            let c : claim_by w ≡ f.claim = ap claim_by f.verdict ∙ claim_back f.claim in
            same e (stops m l τ r h f (subst (λ k. Stops (machine_of m) k l 1 (initial m) y n τ) c
            (refused_stop (machine_of m) (Fits (Belongs m) m) (good_step ts s m r h) (claim_by w) l 1 (initial m) y n τ (initial-fits ts s m r h) d)))

    to : (c : Lent ts s) → Ends (replay_by c trail) → TrailRefused ts trail s x line left
    to (lent.no_room h) e = same e (no_room (no_rooms h))
    to (lent.no_model r h) e = go (ltb trail_most (length trail)) refl e
      where
        go : (b : Bool) → ltb trail_most (length trail) ≡ b → Ends (pick b (replayed.Refused 2 0, s) (replayed.Refused 8 0, s)) → TrailRefused ts trail s x line left
        go true p e = same e (too_long r (ltb-true trail_most (length trail) p))
        go false p e = same e (no_model r (ltb-false trail_most (length trail) p) h)
    to (lent.no_state m r h g) e = by_form m r h (form_of trail) refl e
    to (lent.a_state m σ h) e = by_form m h.rooms h.tables (form_of trail) refl e

  spoils : (m : Model) → Rooms ts s → Tables ts m → (x line : ℕ) → forms.Misformed trail x line → replayed_of ts trail s ≡ (replayed.Refused x line, s)
  spoils m r h x line z = replays ts s m r h trail ∙ ap (formed_by s m) ((form_misformed trail x line).1 z)

  from : {x line : ℕ} {left : List ℤ} → TrailRefused ts trail s x line left → replayed_of ts trail s ≡ (replayed.Refused x line, left)
  from (no_room n) = go (by_cases ts s).some_case
    where
      go : Lent ts s → replayed_of ts trail s ≡ (replayed.Refused 7 0, s)
      go (lent.no_room h) = (by_cases ts s).replay (lent.no_room h) trail
      go (lent.no_model r h) = absurd (n r)
      go (lent.no_state m r h g) = absurd (n r)
      go (lent.a_state m σ h) = absurd (n h.rooms)
  from (too_long r g) = go (by_cases ts s).some_case
    where
      go : Lent ts s → replayed_of ts trail s ≡ (replayed.Refused 2 0, s)
      go (lent.no_room h) = absurd (no_rooms h r)
      go (lent.no_model q h) =
          (by_cases ts s).replay (lent.no_model q h) trail ∙ ap (λ (b : Bool). pick b (replayed.Refused 2 0, s) (replayed.Refused 8 0, s)) (lt-ltb trail_most (length trail) g)
      go (lent.no_state m q h f) = spoils m q h 2 0 (forms.too_long g)
      go (lent.a_state m σ h) = spoils m h.rooms h.tables 2 0 (forms.too_long g)
  from (no_model r g n) = go (by_cases ts s).some_case
    where
      go : Lent ts s → replayed_of ts trail s ≡ (replayed.Refused 8 0, s)
      go (lent.no_room h) = absurd (no_rooms h r)
      go (lent.no_model q h) =
          (by_cases ts s).replay (lent.no_model q h) trail ∙ ap (λ (b : Bool). pick b (replayed.Refused 2 0, s) (replayed.Refused 8 0, s)) (le-ltb trail_most (length trail) g)
      go (lent.no_state m q h f) = absurd (n m h)
      go (lent.a_state m σ h) = absurd (n m h.tables)
  from {x} {line} (misformed m r h g z) = spoils m r h x line z
  from {x} {line} (stops {v = v} m l τ r h f z) =
      replays ts s m r h trail ∙ ap (formed_by s m) ((form_exact trail l v).1 f)
      ∙ ap (λ d. answered_by s m v (replay_from (machine_of m) d l 1 none (initial m))) (ap claim_by f.verdict ∙ claim_back f.claim)
      ∙ ap (answered_by s m v) (stop_refused (machine_of m) z)

  pub trail_refused : Replay ts trail s
  trail_refused x line left = (
    λ e. (let c = (by_cases ts s).some_case in
        to x line left c (sym ((by_cases ts s).replay c trail) ∙ ap₂ (λ (a : trails.Replayed) (b : List ℤ). (a, b)) (said_so (replayed_of ts trail s).0 x line e.0) e.1)),
    λ r. (let e = from r in (ap (λ p. said.replay p.0) e, ap (λ p. p.1) e)),
  )
