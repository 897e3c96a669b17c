-- STEPS OF A STATE OF THE MODEL: something comes of each, a failed one leaves the state, and what it leaves is a state of the model; an ended process is offered none.
use Prim.Native.Nat.{ℕ, ◌+◌, ◌≤◌}
use native.Mathlib.Omega.{arith}
use mathlib.Core.Path.{◌≡◌, sym as inv, ap, subst}
use mathlib.Core.Bool.{Bool, true}
use mathlib.Core.List.{List, [], ◌∷◌}
use lib.ListN.{get_or}
use lib.IntN.{ℤ}
use borrow.Author.Tests.{eqb-true, eq-eqb}
use Rattle.spec_grammar.specs.Tree.{Body, body, Model}
use Rattle.spec_machine.specs.Sizes.{size_in}
use Rattle.spec_machine.specs.Program.{start_in, end_in, sequence_of}
use Rattle.spec_machine.specs.State.{State, no_process}
use Rattle.spec_machine.specs.Names.{unit_at}
use Rattle.spec_machine.specs.Begins.{body_of}
use Rattle.spec_machine.specs.Places.{body_at, end_of, Belongs, ends, stands}
use Rattle.spec_machine.specs.Fits.{Fits}
use Rattle.spec_machine.specs.Machine.{Move, Step, late, advance}
use Rattle.agree_transfer.specs.Alike.{In, first, behind}
use Rattle.spec_machine.specs.Steps.{stage_of, steps_by, steps_of, ended_of, machine_of}
use Rattle.spec_machine.specs.Ready.{ready}
use Rattle.spec_machine.specs.Plain.{plain_stage}
use Rattle.spec_trails.specs.Replays.{Claim}
use Rattle.spec_trails.specs.Trails.{Recorded, Small, none, one_more_lem}
use Rattle.agree_transfer.proofs.Statements.{within_found, end_nothing, offers_there}
use Rattle.agree_tables.proofs.Main.{none_in}
use Rattle.agree_tables.proofs.Statements.{within-within}
use Rattle.agree_names.proofs.Main.{text-belongs}
use Rattle.agree_names.proofs.Texts.{text-lawful}
use Rattle.agree_machine.proofs.Prints.{text_busy}
use Rattle.agree_machine.proofs.Entries as entries
use Rattle.agree_machine.proofs.Step.{step-still}
use Rattle.demands.proofs.Owned.{Own, of_text, owned}
use Rattle.demands.specs.Walks as walks
use Rattle.demands.specs.Walks.{Nth, here, later, chosen, Offers, asserted, faulty, Walks, fails, goes_on}
use Rattle.demands.proofs.Lent.{own_genuine}
use Rattle.demands.proofs.Offers.{offers-asked}
use Rattle.demands.proofs.TextOrder.{Ascends, offers_ascend, nth-alone}
use Rattle.demands.proofs.Walks.{Good}
use Rattle.demands.specs.Lent.{Rooms, Tables}

nth_in : {A : Type 0} {y : A} {k : ℕ} {l : List A} → Nth y k l → In y l
nth_in here = first
nth_in (later h) = behind (nth_in h)

good_step_own : (ts : List ℕ) (s : List ℤ) (m : Model) → Rooms ts s → Own ts m → (σ : State) → Fits (Belongs m) m σ → (x : Step) → Offers (machine_of m) σ x
    → Good (machine_of m) (Fits (Belongs m) m) σ x
unfolding advance
good_step_own ts s m r (of_text t a e) σ f x h =
    let p = x.process in
    let k = x.number in
    let l = late (machine_of a.tree) σ in
    let real = own_genuine ts a.tree (of_text t a e) in
    let z = offers-asked (machine_of a.tree) σ x h in
    record {
      busy = text_busy t a [] σ f p h.there l x.place (nth_in (nth-alone (steps_of a.tree σ p l) h.listed));
      still = step-still ts r.tables real t a e σ [] f p k x z;
      kept = entries.keeps ts r.tables real t a e σ [] f p k x z;
    }

pub good_step : (ts : List ℕ) (s : List ℤ) (m : Model) → Rooms ts s → Tables ts m → (σ : State) → Fits (Belongs m) m σ → (x : Step) → Offers (machine_of m) σ x
    → Good (machine_of m) (Fits (Belongs m) m) σ x
good_step ts s m r o σ f x h = good_step_own ts s m r (owned ts m o) σ f x h

end_most : (b : Body) (i : ℕ) → start_in b i + size_in (sequence_of b) ≤ end_in b i
end_most (body ds q) i = omega arith

pub rests : (m : Model) (σ : State) (l : Bool) (p : ℕ) → ended_of m σ p ≡ true → steps_of m σ p l ≡ []
unfolding ended_of steps_of
rests m σ l p e =
    let u = (get_or σ.processes p no_process).unit in
    let j = (get_or σ.processes p no_process).place in
    let b = body_of (unit_at m u) in
    let i = body_at m u in
    ap (steps_by m σ p l j)
    (end_nothing (sequence_of b) (start_in b i) (end_in b i) 0 j (subst (λ k. start_in b i + size_in (sequence_of b) ≤ k) (inv (eqb-true j (end_in b i) e)) (end_most b i)))

-- ---- the numbers of a walk's records have at most five digits: there are 16 processes, and a model has at most 8,192 items
nth_number : {q k : ℕ} {l : List ℕ} → Nth q k l → (i e : ℕ) → Ascends i l e → i + k ≤ q + 1
nth_number here i e a = omega (arith, a.0)
nth_number (later n) i e a = omega (arith, a.0, nth_number n _ e a.1)

module _ (m : Model) (few : (u j : ℕ) → Belongs m u j → j ≤ 8192) (σ : State) (f : Fits (Belongs m) m σ) where
  step_few : (x : Step) → Offers (machine_of m) σ x → x.number ≤ 8193
  unfolding steps_of ended_of
  step_few x h = go (f.each p h.there).place (nth-alone (steps_of m σ p l) h.listed)
    where
      p : ℕ
      p = x.process

      k : ℕ
      k = x.number

      q : ℕ
      q = x.place

      u : ℕ
      u = (get_or σ.processes p no_process).unit

      j : ℕ
      j = (get_or σ.processes p no_process).place

      l : Bool
      l = late (machine_of m) σ

      go : Belongs m u j → Nth q k (steps_of m σ p l) → k ≤ 8193
      go (ends b e) n = none_in (subst (In q) (rests m σ l p (eq-eqb j (end_of m u) e)) (nth_in n))
      go (stands {x = x} {n = next} {o = out} b w) n =
          let n' = subst (λ z. Nth q k (steps_by m σ p l j z)) (within_found w) n in
          let r = offers_there (plain_stage m p (unit_at m u) σ) l x j next out q (nth_in n') in
          omega (arith, nth_number n' j (j + size_in x) (offers_ascend (λ y i. ready (stage_of m σ p) l y) x j), few u q (stands b (within-within w r.within)))

few_places_own : (ts : List ℕ) (m : Model) → Own ts m → (u j : ℕ) → Belongs m u j → j ≤ 8192
few_places_own ts m (of_text t a e) u j b = text-belongs t a (text-lawful t a) u j b

few_places : (ts : List ℕ) (m : Model) → Tables ts m → (u j : ℕ) → Belongs m u j → j ≤ 8192
few_places ts m o u j b = few_places_own ts m (owned ts m o) u j b

module _ (ts : List ℕ) (s : List ℤ) (m : Model) (r : Rooms ts s) (h : Tables ts m) where
  one-small : (σ : State) (x : Recorded) (more : List Recorded) (q : Move) → Fits (Belongs m) m σ → Offers (machine_of m) σ (chosen x q) → Small more → Small (x ∷ more)
  one-small σ x more q f o z = one_more_lem x more (omega (arith, f.processes, o.there)) (omega (arith, step_few m (few_places ts m h) σ f (chosen x q) o)) z

  pub walk-small : {l : List Recorded} {σ : State} {c : Claim} {τ : State} → Fits (Belongs m) m σ → Walks (machine_of m) l σ c τ → Small l
  walk-small f (walks.stands σ) = none
  walk-small f (fails x σ c (asserted q o e)) = one-small σ x [] q f o none
  walk-small f (fails x σ c (faulty q g o e)) = one-small σ x [] q f o none
  walk-small f (goes_on x more σ τ q c u o e w) =
      one-small σ x more q f o (walk-small (subst (Fits (Belongs m) m) (ap (λ z. z.1) e) (good_step ts s m r h σ f (chosen x q) o).kept) w)
