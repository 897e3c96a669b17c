-- The laws that the walks over processes cite: one process more, the end, and what follows.
use Prim.Native.Nat.{ℕ, zero, suc, ◌+◌, ◌-◌, ◌≤◌, ◌<◌}
use mathlib.Core.Option.{Option, none, some}
use mathlib.Core.Path.{◌≡◌, refl, sym, ◌∙◌, ap}
use mathlib.Core.Bool.{Bool, true, false}
use mathlib.Core.List.{List, [], ◌∷◌, ◌++◌}
use native.Mathlib.Omega.{arith}
use native.Mathlib.Decide.{ℕ_discrete}
use borrow.Author.Tests.{ne_eqb}
use lib.ListN.{length}
use lib.IntN.{ℤ}
use Rattle.base_ceilings.specs.Ceilings.{items_most}
use Rattle.base_codes.specs.Codes.{c_end_body}
use Rattle.table_layout.specs.Access.{code_of}
use Rattle.state_layout.specs.Layout.{place_of}
use Rattle.step_offers.specs.Offers.{is_some, pick_at, offers_of}
use Rattle.step_offers.specs.declared.Walk.{Walk}
use Rattle.step_offers.specs.declared.Walk.TheVariants.{Found, Left}
use Rattle.step_all.specs.Moving.{processes, nth_in, machine_in, offer_of, offer_as, step_in, verdict_as}
use Rattle.step_all.specs.declared.Offer.{Offer}
use Rattle.step_all.specs.declared.Offer.TheVariants.{Step, Beyond}
use Rattle.step_all.specs.declared.Verdict.TheVariants.{Finished, Blocked, Open}
use mathlib.Core.Logic.{inl, inr}
use Rattle.base_bytes.specs.Choice.{pick}
use Rattle.spec_machine.specs.Machine.{Move, Machine, alone, numbered, any_from, late, list_from, offered, asked, advance, ended_from, verdict}
use Rattle.step_all.proofs.Asked.{move_at, step_as, none-asked, one-asked}
use Rattle.step_all.proofs.Few.{offers_few}
use Rattle.step_take.proofs.Still.{Still, taken-still}
use Rattle.spec_machine.specs.Machine as machine

-- ---- lists of steps
not_found : {m q : ℕ} → Left m ≡ Found q → ⊥
not_found e = let v : ◌≡◌ {A = ℕ} 0 1 = cc in omega arith

nth_found : (p j k : ℕ) (xs : List ℕ) (ys : List machine.Step) (q : ℕ) → pick_at k xs ≡ Found q → nth_in k (numbered p j (alone xs) ++ ys) ≡ offer_of p (j + k) (Found q)
unfolding pick_at nth_in
nth_found p j k [] ys q e = absurd (not_found e)
nth_found p j zero (x ∷ xs) ys q e = let f : x ≡ q = cc in let z : j ≡ j + 0 = omega arith in rw (f, ← z)
nth_found p j (suc k) (x ∷ xs) ys q e = let z : j + 1 + k ≡ j + suc k = omega arith in nth_found p (j + 1) k xs ys q e ∙ ap (λ (i : ℕ). offer_of p i (Found q)) z

nth_left : (p j k : ℕ) (xs : List ℕ) (ys : List machine.Step) (m : ℕ) → pick_at k xs ≡ Left m → nth_in k (numbered p j (alone xs) ++ ys) ≡ nth_in m ys
unfolding pick_at nth_in
nth_left p j k [] ys m e = let f : k ≡ m = cc in ap (λ (i : ℕ). nth_in i ys) f
nth_left p j zero (x ∷ xs) ys m e = absurd (not_found (sym e))
nth_left p j (suc k) (x ∷ xs) ys m e = nth_left p (j + 1) k xs ys m e

-- past a list the rest is how many more were asked for than there are
pub beyond_rest : (n : ℕ) (xs : List machine.Step) (m : ℕ) → nth_in n xs ≡ Beyond m → n ≡ m + length xs
unfolding nth_in
beyond_rest n [] m e = let f : n ≡ m = cc in omega arith
beyond_rest zero (x ∷ xs) m e = absurd (not_step e)
  where
    not_step : {x : machine.Step} {m : ℕ} → Step x ≡ Beyond m → ⊥
    not_step e = let v : ◌≡◌ {A = ℕ} 0 1 = cc in omega arith
beyond_rest (suc n) (x ∷ xs) m e = let h : n ≡ m + length xs = beyond_rest n xs m e in omega arith

found_within : (k : ℕ) (xs : List ℕ) (q : ℕ) → pick_at k xs ≡ Found q → k < length xs
unfolding pick_at
found_within k [] q e = absurd (not_found e)
found_within zero (x ∷ xs) q e = omega arith
found_within (suc k) (x ∷ xs) q e = let h : k < length xs = found_within k xs q e in omega arith

-- what was found, as a step that was asked for
offer_own : (p k : ℕ) (w : Walk) → offer_of p k w ≡ offer_as (step_in (offer_of p k w))
offer_own p k (Found q) = refl
offer_own p k (Left n) = refl

pub offer-back : (o : Option machine.Step) → step_in (offer_as o) ≡ o
offer-back none = refl
offer-back (some x) = refl

pick_move : (p k i : ℕ) (xs : List ℕ) → step_in (offer_of p k (pick_at i xs)) ≡ step_as p k (move_at i (alone xs))
unfolding pick_at move_at
pick_move p k i [] = refl
pick_move p k zero (x ∷ xs) = refl
pick_move p k (suc i) (x ∷ xs) = pick_move p k i xs

some_same : (l : List ℕ) → is_some l ≡ machine.is_some (alone l)
some_same [] = refl
some_same (x ∷ l) = refl

abbrev some_step : List machine.Step → Bool
some_step [] = false
some_step (x ∷ l) = true

-- what a search finds shows that there is something
step-some : (n : ℕ) (xs : List machine.Step) (x : machine.Step) → nth_in n xs ≡ Step x → some_step xs ≡ true
unfolding nth_in
step-some n [] x e = let v : ◌≡◌ {A = ℕ} 0 1 = cc in absurd (omega arith)
step-some n (y ∷ xs) x e = refl

long_some : (xs : List machine.Step) → (length xs ≡ 0 → ⊥) → some_step xs ≡ true
long_some [] h = absurd (h refl)
long_some (x ∷ xs) h = refl

short_none : (xs : List machine.Step) → length xs ≡ 0 → some_step xs ≡ false
short_none [] h = refl
short_none (x ∷ xs) h = absurd (omega arith)

found_some : (i : ℕ) (xs : List ℕ) (q : ℕ) → pick_at i xs ≡ Found q → machine.is_some (alone xs) ≡ true
unfolding pick_at
found_some i [] q e = absurd (not_found e)
found_some i (x ∷ xs) q e = refl

module _ (t : List ℕ) (s : List ℤ) where
  abbrev M : Machine (List ℤ)
  M = machine_in t

  module _ (late : Bool) (p n : ℕ) {b : Bool} (h : p < n) (e : b ≡ is_some (offers_of t s p late (place_of s p))) where
    any_next : any_from M s late p (n - p) ≡ pick b true (any_from M s late (p + 1) (n - (p + 1)))
    unfolding any_from
    any_next = let z : n - p ≡ suc (n - (p + 1)) = omega arith in rw (z, e ∙ some_same (offers_of t s p late (place_of s p)))

    pub any_here : b ≡ true → true ≡ any_from (machine_in t) s late p (n - p)
    any_here q = sym (any_next ∙ rw q)

    pub any-more : b ≡ false → any_from (machine_in t) s late (p + 1) (n - (p + 1)) ≡ any_from (machine_in t) s late p (n - p)
    any-more q = sym (any_next ∙ rw q)

  pub any_end : (late : Bool) (p n : ℕ) → n ≤ p → false ≡ any_from (machine_in t) s late p (n - p)
  unfolding any_from
  any_end late p n h = let z : n - p ≡ 0 = omega arith in rw z

  pub from_start : (f : ℕ → ℕ → Bool) (n m : ℕ) → n ≡ m → f 0 (n - 0) ≡ f 0 m
  from_start f n m e = ap (f 0) (omega arith)

  module _ (p n : ℕ) {c : ℕ} (h : p < n) (e : c ≡ code_of t (place_of s p)) where
    pub ended-not : (c ≡ c_end_body → ⊥) → false ≡ ended_from (machine_in t) s p (n - p)
    unfolding ended_from
    ended-not q = let z : n - p ≡ suc (n - (p + 1)) = omega arith in rw (z, ← e, ne_eqb c c_end_body q)

    pub ended-more : c ≡ c_end_body → ended_from (machine_in t) s (p + 1) (n - (p + 1)) ≡ ended_from (machine_in t) s p (n - p)
    unfolding ended_from
    ended-more q = let z : n - p ≡ suc (n - (p + 1)) = omega arith in rw (z, ← e, q)

  pub ended_end : (p n : ℕ) → n ≤ p → true ≡ ended_from (machine_in t) s p (n - p)
  unfolding ended_from
  ended_end p n h = let z : n - p ≡ 0 = omega arith in rw z

  -- ---- a step
  pub no_process_lem : (n p k : ℕ) → n ≡ processes s → n ≤ p → Beyond 0 ≡ offer_as (asked (machine_in t) p k (offered (machine_in t) s))
  no_process_lem n p k e h = ap offer_as (none-asked M s p k (inl (omega arith)))

  pub no_step : (p k : ℕ) → k ≡ 0 → Beyond 0 ≡ offer_as (asked (machine_in t) p k (offered (machine_in t) s))
  no_step p k q = ap offer_as (none-asked M s p k (inr q))

  step_is : (p k : ℕ) {l : Bool} {w : Walk} → p < processes s → (k ≡ 0 → ⊥) → late M s ≡ l → w ≡ pick_at (k - 1) (offers_of t s p l (place_of s p)) → step_in (offer_of p k w) ≡ asked M p k (offered M s)
  step_is p k {l} h q el ew =
      ap (λ (v : Walk). step_in (offer_of p k v)) ew ∙ pick_move p k (k - 1) (offers_of t s p l (place_of s p)) ∙ ap (λ l. step_as p k (move_at (k - 1) (M.steps s l p))) (sym el)
      ∙ one-asked M s p k (k - 1) (omega arith) h

  any_of : (l : Bool) (p q n : ℕ) → q ≤ p → p < q + n → machine.is_some (M.steps s l p) ≡ true → any_from M s l q n ≡ true
  unfolding any_from
  any_of l p q zero a b e = absurd (omega arith)
  any_of l p q (suc n) a b e = go (ℕ_discrete q p) (λ z. any_of l p (q + 1) n (omega arith) (omega arith) e)
    where
      past : (x : Bool) → any_from M s l (q + 1) n ≡ true → pick x true (any_from M s l (q + 1) n) ≡ true
      past true f = refl
      past false f = f

      go : Dec (q ≡ p) → ((q ≡ p → ⊥) → any_from M s l (q + 1) n ≡ true) → pick (machine.is_some (M.steps s l q)) true (any_from M s l (q + 1) n) ≡ true
      go (yes z) f = rw (z, e)
      go (no z) f = past (machine.is_some (M.steps s l q)) (f z)

  late_by : (b : Bool) → any_from M s false 0 (processes s) ≡ b → late M s ≡ pick b false true
  unfolding late
  late_by b e = rw e

  -- a process that is offered a step without `timeout` shows that `timeout` is not executable
  module _ (n p k : ℕ) (e : n ≡ processes s) (h : p < n) (one : k ≡ 0 → ⊥) {w : Walk} (ew : w ≡ pick_at (k - 1) (offers_of t s p false (place_of s p))) where
    pub step_found : (q : ℕ) → w ≡ Found q → {o : Offer} → o ≡ offer_of p k w → o ≡ offer_as (asked (machine_in t) p k (offered (machine_in t) s))
    step_found q f eo =
        eo ∙ offer_own p k w
        ∙ ap offer_as (step_is p k (omega arith) one (late_by true (any_of false p 0 (processes s) (omega arith) (omega arith) (found_some (k - 1) (offers_of t s p false (place_of s p)) q (sym ew ∙ f)))) ew)

    module _ (m : ℕ) (f : w ≡ Left m) {b : Bool} (eb : b ≡ any_from (machine_in t) s false 0 (processes s)) where
      pub step-none : b ≡ true → Beyond 0 ≡ offer_as (asked (machine_in t) p k (offered (machine_in t) s))
      step-none z = ap offer_as (step_is p k {w = Left m} (omega arith) one (late_by true (sym eb ∙ z)) (sym f ∙ ew))

      pub step-late : b ≡ false → {v : Walk} {o : Offer} → v ≡ pick_at (k - 1) (offers_of t s p true (place_of s p)) → o ≡ offer_of p k v → o ≡ offer_as (asked (machine_in t) p k (offered (machine_in t) s))
      step-late z {v} ev eo = eo ∙ offer_own p k v ∙ ap offer_as (step_is p k (omega arith) one (late_by false (sym eb ∙ z)) ev)

  -- ---- the n-th step of all
  module _ (late : Bool) (p n k : ℕ) (h : p < n) {w : Walk} (e : w ≡ pick_at k (offers_of t s p late (place_of s p))) where
    list-more : list_from M s late p (n - p) ≡ numbered p 1 (M.steps s late p) ++ list_from M s late (p + 1) (n - (p + 1))
    unfolding list_from
    list-more = let z : n - p ≡ suc (n - (p + 1)) = omega arith in rw z

    -- a step's number is no more than a place
    pub found_few : (q : ℕ) → w ≡ Found q → k < items_most + 1
    found_few q f = let h = found_within k (offers_of t s p late (place_of s p)) q (sym e ∙ f) in let g = offers_few t s p late (place_of s p) in omega arith

    pub nth_here : (q : ℕ) → w ≡ Found q → {o : Offer} → o ≡ offer_of p (k + 1) w → o ≡ nth_in k (list_from (machine_in t) s late p (n - p))
    nth_here q f eo =
        let z : 1 + k ≡ k + 1 = omega arith in
        eo ∙ ap (offer_of p (k + 1)) f ∙ ap (λ (j : ℕ). offer_of p j (Found q)) (sym z)
        ∙ (sym (nth_found p 1 k (offers_of t s p late (place_of s p)) (list_from M s late (p + 1) (n - (p + 1))) q (sym e ∙ f)) ∙ ap (nth_in k) (sym list-more))

    pub nth-more : (m : ℕ) → w ≡ Left m → nth_in m (list_from (machine_in t) s late (p + 1) (n - (p + 1))) ≡ nth_in k (list_from (machine_in t) s late p (n - p))
    nth-more m f = sym (nth_left p 1 k (offers_of t s p late (place_of s p)) (list_from M s late (p + 1) (n - (p + 1))) m (sym e ∙ f)) ∙ ap (nth_in k) (sym list-more)

  pub nth-start : (late : Bool) {c : ℕ} (n : ℕ) → c ≡ processes s → nth_in n (list_from (machine_in t) s late 0 (c - 0)) ≡ nth_in n (list_from (machine_in t) s late 0 (processes s))
  nth-start late {c} n ec = let z : c - 0 ≡ processes s = omega arith in rw z

  pub nth_end : (late : Bool) (p n k : ℕ) → n ≤ p → Beyond k ≡ nth_in k (list_from (machine_in t) s late p (n - p))
  unfolding list_from nth_in
  nth_end late p n k h = let z : n - p ≡ 0 = omega arith in rw z

  -- ---- what a step does: one that fails, or does nothing, leaves the state
  pub advance-still : (x : machine.Step) → Still s (advance (machine_in t) s x).0 (advance (machine_in t) s x).1
  unfolding advance
  advance-still x = taken-still s t x.process x.place

  -- ---- the verdict: a step is listed where some process has one
  any_some : (l : Bool) (p n : ℕ) → any_from M s l p n ≡ some_step (list_from M s l p n)
  unfolding any_from list_from
  any_some l p zero = refl
  any_some l p (suc n) = go (M.steps s l p) (any_some l (p + 1) n)
    where
      go : (qs : List Move) → any_from M s l (p + 1) n ≡ some_step (list_from M s l (p + 1) n) → pick (machine.is_some qs) true (any_from M s l (p + 1) n) ≡ some_step (numbered p 1 qs ++ list_from M s l (p + 1) n)
      go [] h = h
      go (q ∷ qs) h = refl

  -- ---- what is listed without `timeout` is all, where it is anything
  listed_by : (b : Bool) → some_step (list_from M s false 0 (processes s)) ≡ b → offered M s ≡ list_from M s (pick b false true) 0 (processes s)
  unfolding offered
  listed_by b e = ap (λ l. list_from M s l 0 (processes s)) (late_by b (any_some false 0 (processes s) ∙ e))

  module _ (n : ℕ) {o : Offer} (e : o ≡ nth_in n (list_from (machine_in t) s false 0 (processes s))) where
    pub nth_found_off : (x : machine.Step) → o ≡ Step x → Step x ≡ nth_in n (offered (machine_in t) s)
    nth_found_off x f = sym f ∙ e ∙ ap (nth_in n) (sym (listed_by true (step-some n (list_from M s false 0 (processes s)) x (sym e ∙ f))))

    module _ (l : ℕ) (f : o ≡ Beyond l) where
      rest : n ≡ l + length (list_from M s false 0 (processes s))
      rest = beyond_rest n (list_from M s false 0 (processes s)) l (sym e ∙ f)

      pub nth_past : (l ≡ n → ⊥) → Beyond l ≡ nth_in n (offered (machine_in t) s)
      nth_past h = sym f ∙ e ∙ ap (nth_in n) (sym (listed_by true (long_some (list_from M s false 0 (processes s)) (λ z. h (let r = rest in omega arith)))))

      pub nth-late : l ≡ n → {x : Offer} → x ≡ nth_in n (list_from (machine_in t) s true 0 (processes s)) → x ≡ nth_in n (offered (machine_in t) s)
      nth-late h g = g ∙ ap (nth_in n) (sym (listed_by false (short_none (list_from M s false 0 (processes s)) (let r = rest in omega arith))))

  module _ {a : Bool} (ea : a ≡ ended_from (machine_in t) s 0 (processes s)) where
    pub finished : a ≡ true → Finished ≡ verdict_as (verdict (machine_in t) s)
    unfolding verdict
    finished h = rw (← ea, h)

    module _ {l b : Bool} (f : a ≡ false) (el : l ≡ late (machine_in t) s) (eb : b ≡ any_from (machine_in t) s l 0 (processes s)) where
      not-ended : verdict_as (verdict M s) ≡ pick b Open Blocked
      unfolding verdict offered
      not-ended =
          ap (λ c. verdict_as (machine.verdict_by M c (list_from M s (late M s) 0 (processes s)))) (sym ea ∙ f) ∙ go (list_from M s (late M s) 0 (processes s))
          ∙ ap (λ c. pick c Open Blocked) (sym (eb ∙ ap (λ z. any_from M s z 0 (processes s)) el ∙ any_some (late M s) 0 (processes s)))
        where
          go : (x : List machine.Step) → verdict_as (machine.verdict_by M false x) ≡ pick (some_step x) Open Blocked
          go [] = refl
          go (x ∷ xs) = refl

      pub open_is : b ≡ true → Open ≡ verdict_as (verdict (machine_in t) s)
      open_is h = sym (not-ended ∙ rw h)

      pub blocked_is : b ≡ false → Blocked ≡ verdict_as (verdict (machine_in t) s)
      blocked_is h = sym (not-ended ∙ rw h)
