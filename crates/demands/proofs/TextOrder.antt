-- THE STEPS OF A PROCESS ARE IN TEXT ORDER: of what a statement offers, each place lies behind the one before.
use Prim.Native.Nat.{ℕ, suc, ◌+◌, ◌≤◌, ◌<◌}
use native.Mathlib.Omega.{arith}
use mathlib.Core.Path.{◌≡◌, refl, sym as inv, ap, subst}
use mathlib.Core.Bool.{Bool, true, false}
use mathlib.Core.List.{List, [], ◌∷◌, ◌++◌}
use lib.ListN.{length, get_or}
use Rattle.base_bytes.specs.Choice.{pick}
use Rattle.base_bytes.specs.Lists.{or_else}
use Rattle.spec_grammar.specs.Tree.{Model, Sort, action, options, Tree, leaf, select, loop, bare, labelled, end, then, over, option, is_else}
use Rattle.spec_machine.specs.Sizes.{size_in}
use Rattle.agree_sizes.proofs.Sizes.{some-place}
use Rattle.spec_machine.specs.Offers.{else_of, offers}
use Rattle.spec_machine.specs.Ready.{ready}
use Rattle.spec_machine.specs.State.{State, no_process}
use Rattle.spec_machine.specs.Machine.{Move, alone as moves, Step, move_of, late}
use Rattle.spec_machine.specs.Steps.{Found, nothing, found, stage_of, standing, steps_by, steps_of, machine_of}
use Rattle.demands.specs.Walks.{Nth, here, later, Offers}

-- all places lie from i on and before e, each behind the one before
abbrev pub Ascends : ℕ → List ℕ → ℕ → Type 0
Ascends i [] e = i ≤ e
Ascends i (q ∷ l) e = (i ≤ q) × Ascends (suc q) l e

spans : (i j : ℕ) (l : List ℕ) (e f : ℕ) → i ≤ j → e ≤ f → Ascends j l e → Ascends i l f
spans i j [] e f h g a = omega arith
spans i j (q ∷ l) e f h g a = (omega (arith, a.0), spans (suc q) (suc q) l e f (omega arith) g a.1)

joined : (i : ℕ) (l : List ℕ) (e : ℕ) (k : List ℕ) (f : ℕ) → Ascends i l e → Ascends e k f → Ascends i (l ++ k) f
joined i [] e k f a b = spans i e k f f a (omega arith) b
joined i (q ∷ l) e k f a b = (a.0, joined (suc q) l e k f a.1 b)

either : (i : ℕ) (l k : List ℕ) (e : ℕ) → Ascends i l e → Ascends i k e → Ascends i (or_else l k) e
either i [] k e a b = b
either i (q ∷ l) k e a b = a

-- ---- a statement of its own
one : (b : Bool) (i n : ℕ) → 1 ≤ n → Ascends i (pick b (i ∷ []) []) (i + n)
one true i n h = (omega arith, omega arith)
one false i n h = omega arith

-- ---- `else`
none_there : (i n : ℕ) → Ascends i [] (i + n)
none_there i n = omega arith

elses_ascend : {k : Sort} (t : Tree k) (i : ℕ) → Ascends i (else_of t i) (i + size_in t)
elses_ascend (leaf l) i = one (is_else l) i (size_in (leaf l)) (some-place (leaf l))
elses_ascend (select os) i = none_there i (size_in (select os))
elses_ascend (loop os) i = none_there i (size_in (loop os))
elses_ascend (bare a) i = elses_ascend a i
elses_ascend (labelled w a) i = spans i (i + 2) (else_of a (i + 2)) (i + 2 + size_in a) (i + size_in (labelled w a)) (omega arith) (omega arith) (elses_ascend a (i + 2))
elses_ascend end i = none_there i 0
elses_ascend (then s q) i = spans i i (else_of s i) (i + size_in s) (i + size_in (then s q)) (omega arith) (omega arith) (elses_ascend s i)
elses_ascend over i = none_there i 0
elses_ascend (option q os) i =
    let j = i + 2 + size_in q in
    joined i (else_of q (i + 1)) j (else_of os j) (i + size_in (option q os)) (spans i (i + 1) (else_of q (i + 1)) (i + 1 + size_in q) j (omega arith) (omega arith) (elses_ascend q (i + 1)))
    (spans j j (else_of os j) (j + size_in os) (i + size_in (option q os)) (omega arith) (omega arith) (elses_ascend os j))

module _ (can : Tree action → ℕ → Bool) where
  -- what stands inside a selection, whose numbers begin one behind its own and end one before
  inside : (os : Tree options) (i : ℕ) → Ascends (i + 1) (offers can os (i + 1)) (i + 1 + size_in os) → Ascends i (or_else (offers can os (i + 1)) (else_of os (i + 1))) (i + (size_in os + 2))
  inside os i a =
      let l = offers can os (i + 1) in
      let k = else_of os (i + 1) in
      spans i (i + 1) (or_else l k) (i + 1 + size_in os) (i + (size_in os + 2)) (omega arith) (omega arith) (either (i + 1) l k (i + 1 + size_in os) a (elses_ascend os (i + 1)))

  pub offers_ascend : {k : Sort} (t : Tree k) (i : ℕ) → Ascends i (offers can t i) (i + size_in t)
  unfolding offers
  offers_ascend (leaf l) i = one (can (leaf l) i) i (size_in (leaf l)) (some-place (leaf l))
  offers_ascend (select os) i = inside os i (offers_ascend os (i + 1))
  offers_ascend (loop os) i = inside os i (offers_ascend os (i + 1))
  offers_ascend (bare a) i = offers_ascend a i
  offers_ascend (labelled w a) i = spans i (i + 2) (offers can a (i + 2)) (i + 2 + size_in a) (i + size_in (labelled w a)) (omega arith) (omega arith) (offers_ascend a (i + 2))
  offers_ascend end i = none_there i 0
  offers_ascend (then s q) i = spans i i (offers can s i) (i + size_in s) (i + size_in (then s q)) (omega arith) (omega arith) (offers_ascend s i)
  offers_ascend over i = none_there i 0
  offers_ascend (option q os) i =
      let j = i + 2 + size_in q in
      joined i (offers can q (i + 1)) j (offers can os j) (i + size_in (option q os)) (spans i (i + 1) (offers can q (i + 1)) (i + 1 + size_in q) j (omega arith) (omega arith) (offers_ascend q (i + 1)))
      (spans j j (offers can os j) (j + size_in os) (i + size_in (option q os)) (omega arith) (omega arith) (offers_ascend os j))

-- ---- the steps of a process
nth-from : {q k : ℕ} {l : List ℕ} → Nth q k l → (i e : ℕ) → Ascends i l e → i ≤ q
nth-from here i e a = a.0
nth-from (later n) i e a = omega (arith, a.0, nth-from n _ e a.1)

pub one_at_least : {A : Type 0} {y : A} {k : ℕ} {l : List A} → Nth y k l → 1 ≤ k
one_at_least here = omega arith
one_at_least (later n) = omega arith

nth_ascends : {q q' k k' : ℕ} {l : List ℕ} → Nth q k l → Nth q' k' l → (i e : ℕ) → Ascends i l e → k < k' → q < q'
nth_ascends here here i e a h = absurd (omega arith)
nth_ascends here (later n) i e a h = nth-from n _ e a.1
nth_ascends (later m) here i e a h = absurd (omega (arith, one_at_least m))
nth_ascends (later m) (later n) i e a h = nth_ascends m n _ e a.1 (omega arith)

nth-none : {A : Type 0} {y : A} {k : ℕ} {l : List A} → Nth y k l → l ≡ [] → ⊥
nth-none {l = z ∷ l} here e = let n : suc (length l) ≡ 0 = ap length e in omega arith
nth-none {l = z ∷ l} (later h) e = let n : suc (length l) ≡ 0 = ap length e in omega arith
nth-none {A = A} {y = y} {k = k} {l = []} x'' e = elim x'' [ ]

-- the k-th of moves at places is at the k-th place
pub nth-alone : {y : Move} {k : ℕ} (l : List ℕ) → Nth y k (moves l) → Nth y.place k l
nth-alone [] n = absurd (nth-none n refl)
nth-alone (q ∷ l) here = here
nth-alone (q ∷ l) (later n) = later (nth-alone l n)

module _ (m : Model) (σ : State) (p : ℕ) where
  by_found : (l : Bool) (j : ℕ) (f : Found) {q q' k k' : ℕ} → Nth q k (steps_by m σ p l j f) → Nth q' k' (steps_by m σ p l j f) → k < k' → q < q'
  by_found l j nothing n n' h = absurd (nth-none n refl)
  by_found l j (found a x o) n n' h = nth_ascends n n' j (j + size_in a) (offers_ascend (λ y i. ready (stage_of m σ p) l y) a j) h

  -- "then text order": of two steps of a process, the one with the higher number stands behind the other
  text_order_of : {y z : Move} {k k' : ℕ} → Nth y k (moves (steps_of m σ p (late (machine_of m) σ))) → Nth z k' (moves (steps_of m σ p (late (machine_of m) σ))) → k < k' → y.place < z.place
  unfolding steps_of
  text_order_of a b h =
      let l = steps_of m σ p (late (machine_of m) σ) in
      by_found (late (machine_of m) σ) (get_or σ.processes p no_process).place (standing m σ p (get_or σ.processes p no_process).place) (nth-alone l a) (nth-alone l b) h

pub text_order : (m : Model) (σ : State) (x y : Step) → Offers (machine_of m) σ x → Offers (machine_of m) σ y → x.process ≡ y.process → x.number < y.number → x.place < y.place
text_order m σ x y a b e h =
    text_order_of m σ x.process a.listed (subst (λ p. Nth (move_of y) y.number (moves (steps_of m σ p (late (machine_of m) σ)))) (inv e) b.listed) h
