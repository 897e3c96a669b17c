-- THE STATEMENT AT A PLACE is found there, and it is lawful where its body is.
use Prim.Native.Nat.{ℕ, suc, ◌+◌, ◌≤◌, ◌<◌}
use native.Mathlib.Omega.{arith}
use borrow.Author.Tests.{eq-eqb, ne_eqb}
use mathlib.Core.Path.{◌≡◌, refl, ap, ap₂, subst}
use mathlib.Core.Bool.{Bool, true, false}
use mathlib.Core.List.{List, [], ◌∷◌, ◌++◌}
use lib.ListN.{length}
use Rattle.base_bytes.specs.Choice.{pick}
use mathlib.Core.Logic.{◌⊎◌, inl, inr}
use Rattle.spec_grammar.specs.Tree.{Name, Sort, action, statement, sequence, options, Tree, leaf, express, assign, increment, decrement, send, receive, assert, print, skip, goto, break, timeout, else, run, set_run, select, loop, bare, labelled, end, then, over, option}
use Rattle.agree_sizes.proofs.Sizes.{some-place}
use Rattle.spec_machine.specs.Sizes.{size_in}
use Rattle.spec_machine.specs.Program.{enter, Within, itself, in_if, in_do, unlabelled, behind_label, in_first, in_rest, in_option, in_others}
use Rattle.spec_machine.specs.Stage.{Stage}
use Rattle.spec_machine.specs.Ready.{ready}
use Rattle.spec_machine.specs.Offers.{else_of, offers}
use Rattle.base_bytes.specs.Lists.{or_else}
use Rattle.agree_transfer.specs.Agrees.{takable}
use Rattle.agree_transfer.specs.Alike.{In, first, behind}
use Rattle.spec_machine.specs.Steps.{nothing, found, or_found, here, statement_at}

-- ---- nothing is found outside of a tree
module _ (j : ℕ) where
  none_here : (a : Tree action) (i n o : ℕ) → (i ≡ j → ⊥) → here a i n o j ≡ nothing
  none_here a i n o h = rw (ne_eqb i j h)

  abbrev Outside : {k : Sort} → Tree k → ℕ → Type 0
  Outside t i = (x : ℕ) → i ≤ x → x < i + size_in t → x ≡ j → ⊥

  none : {k : Sort} (t : Tree k) (i n o : ℕ) → Outside t i → statement_at t i n o j ≡ nothing
  unfolding statement_at
  none (leaf l) i n o h = none_here (leaf l) i n o (h i (omega arith) (let z = some-place (leaf l) in omega arith))
  none (select os) i n o h = ap₂ or_found (none_here (select os) i n o (h i (omega arith) (let l = some-place (select os) in omega arith))) (none os (i + 1) n o (λ x a b. h x (omega arith) (omega arith)))
  none (loop os) i n o h = ap₂ or_found (none_here (loop os) i n o (h i (omega arith) (let l = some-place (loop os) in omega arith))) (none os (i + 1) i n (λ x a b. h x (omega arith) (omega arith)))
  none (bare a) i n o h = none a i n o h
  none (labelled w a) i n o h = none a (i + 2) n o (λ x p q. h x (omega arith) (omega arith))
  none end i n o h = refl
  none (then s q) i n o h =
      ap₂ or_found (none s i (enter q (i + size_in s) n) o (λ x a b. h x (omega arith) (omega arith)))
      (none q (i + size_in s) n o (λ x a b. h x (omega arith) (omega arith)))
  none over i n o h = refl
  none (option q os) i n o h =
      ap₂ or_found (none q (i + 1) n o (λ x a b. h x (omega arith) (omega arith)))
      (none os (i + 2 + size_in q) n o (λ x a b. h x (omega arith) (omega arith)))

-- ---- a statement lies within its tree
pub within_range : {k : Sort} {t : Tree k} {i n o : ℕ} {a : Tree action} {j m u : ℕ} → Within k t i n o a j m u → (i ≤ j) × (j < i + size_in t)
within_range (itself {a = a}) = let l = some-place a in (omega arith, omega arith)
within_range (in_if {os = os} w) = let r = within_range w in let x = r.0 in let y = r.1 in (omega arith, omega arith)
within_range (in_do {os = os} w) = let r = within_range w in let x = r.0 in let y = r.1 in (omega arith, omega arith)
within_range (unlabelled w) = within_range w
within_range (behind_label w) = let r = within_range w in let x = r.0 in let y = r.1 in (omega arith, omega arith)
within_range (in_first {s = s} {q = q} w) = let r = within_range w in let x = r.0 in let y = r.1 in (omega arith, omega arith)
within_range (in_rest {s = s} {q = q} w) = let r = within_range w in let x = r.0 in let y = r.1 in (omega arith, omega arith)
within_range (in_option {q = q} {os = os} w) = let r = within_range w in let x = r.0 in let y = r.1 in (omega arith, omega arith)
within_range (in_others {q = q} {os = os} w) = let r = within_range w in let x = r.0 in let y = r.1 in (omega arith, omega arith)

-- and it is found at its place
here_found : (a : Tree action) (i n o : ℕ) → here a i n o i ≡ found a n o
here_found a i n o = rw (eq-eqb i i refl)

itself_found : (a : Tree action) (i n o : ℕ) → statement_at a i n o i ≡ found a n o
unfolding statement_at
itself_found (leaf l) i n o = here_found (leaf l) i n o
itself_found (select os) i n o = ap (λ x. or_found x (statement_at os (i + 1) n o i)) (here_found (select os) i n o)
itself_found (loop os) i n o = ap (λ x. or_found x (statement_at os (i + 1) i n i)) (here_found (loop os) i n o)

pub within_found : {k : Sort} {t : Tree k} {i n o : ℕ} {a : Tree action} {j m u : ℕ} → Within k t i n o a j m u → statement_at t i n o j ≡ found a m u
unfolding statement_at
within_found (itself {a = a} {i = i} {n = n} {o = o}) = itself_found a i n o
within_found (in_if {os = os} {i = i} {n = n} {o = o} {j = j} w) =
    let r = (within_range w).0 in ap₂ or_found (none_here j (select os) i n o (λ e. omega arith)) (within_found w)
within_found (in_do {os = os} {i = i} {n = n} {o = o} {j = j} w) =
    let r = (within_range w).0 in ap₂ or_found (none_here j (loop os) i n o (λ e. omega arith)) (within_found w)
within_found (unlabelled w) = within_found w
within_found (behind_label w) = within_found w
within_found (in_first {s = s} {q = q} {i = i} {n = n} {o = o} {j = j} w) = ap (λ x. or_found x (statement_at q (i + size_in s) n o j)) (within_found w)
within_found (in_rest {s = s} {q = q} {i = i} {n = n} {o = o} {j = j} w) =
    let r = (within_range w).0 in ap₂ or_found (none j s i (enter q (i + size_in s) n) o (λ x a b e. omega arith)) (within_found w)
within_found (in_option {q = q} {os = os} {i = i} {n = n} {o = o} {j = j} w) = ap (λ x. or_found x (statement_at os (i + 2 + size_in q) n o j)) (within_found w)
within_found (in_others {q = q} {os = os} {i = i} {n = n} {o = o} {j = j} w) =
    let r = (within_range w).0 in ap₂ or_found (none j q (i + 1) n o (λ x a b e. omega arith)) (within_found w)

-- the end of a tree is the place of no statement of it
pub end_nothing : (q : Tree sequence) (i n o j : ℕ) → i + size_in q ≤ j → statement_at q i n o j ≡ nothing
end_nothing q i n o j h = none j q i n o (λ x a b e. omega arith)

-- ---- what is offered may be taken
module _ {S : Type 0} (c : Stage S) where
  ready-takable : (late : Bool) (a : Tree action) → ready c late a ≡ true → takable c a ≡ true
  unfolding ready
  ready-takable late (leaf (express e)) h = h
  ready-takable late (leaf (assign r e)) h = refl
  ready-takable late (leaf (increment r)) h = refl
  ready-takable late (leaf (decrement r)) h = refl
  ready-takable late (leaf (send mk r es)) h = h
  ready-takable late (leaf (receive mk r xs)) h = h
  ready-takable late (leaf (assert e)) h = refl
  ready-takable late (leaf (print w es)) h = refl
  ready-takable late (leaf skip) h = refl
  ready-takable late (leaf (goto w)) h = refl
  ready-takable late (leaf break) h = refl
  ready-takable late (leaf timeout) h = refl
  ready-takable late (leaf else) h = refl
  ready-takable late (leaf (run w es)) h = h
  ready-takable late (leaf (set_run r w es)) h = refl
  ready-takable late (select os) h = h
  ready-takable late (loop os) h = h

  -- a statement of the tree stands at place q, and may be taken
  pub record OffersAlike (k : Sort) (t : Tree k) (i n o q : ℕ) : Type 0 where
    pub act : Tree action
    pub next : ℕ
    pub out : ℕ
    pub within : Within k t i n o act q next out
    pub takes : takable c act ≡ true

  in_append : (q : ℕ) (x y : List ℕ) → In q (x ++ y) → In q x ⊎ In q y
  in_append q [] y h = inr h
  in_append q (z ∷ x) y first = inl first
  in_append q (z ∷ x) y (behind h) = go (in_append q x y h)
    where
      go : In q x ⊎ In q y → In q (z ∷ x) ⊎ In q y
      go (inl a) = inl (behind a)
      go (inr b) = inr b

  in_else : (q : ℕ) (x y : List ℕ) → In q (or_else x y) → In q x ⊎ In q y
  in_else q [] y h = inr h
  in_else q (z ∷ x) y h = inl h

  none_in : {A : Type 0} (q : ℕ) → In q [] → A
  none_in q h = absurd (go h refl)
    where
      go : {l : List ℕ} → In q l → l ≡ [] → ⊥
      go {l = z ∷ l} first e = let n : suc (length l) ≡ 0 = ap length e in omega arith
      go {l = z ∷ l} (behind h) e = let n : suc (length l) ≡ 0 = ap length e in omega arith
      go {l = []} x'' e = elim x'' [ ]

  in_one : (q i : ℕ) → In q (i ∷ []) → i ≡ q
  in_one q i first = refl
  in_one q i (behind h) = none_in q h

  -- with other places around it
  out_if : (os : Tree options) (i n o q : ℕ) → OffersAlike options os (i + 1) n o q → OffersAlike action (select os) i n o q
  out_if os i n o q r = record { act = r.act; next = r.next; out = r.out; within = in_if r.within; takes = r.takes }

  out_do : (os : Tree options) (i n o q : ℕ) → OffersAlike options os (i + 1) i n q → OffersAlike action (loop os) i n o q
  out_do os i n o q r = record { act = r.act; next = r.next; out = r.out; within = in_do r.within; takes = r.takes }

  out_bare : (a : Tree action) (i n o q : ℕ) → OffersAlike action a i n o q → OffersAlike statement (bare a) i n o q
  out_bare a i n o q r = record { act = r.act; next = r.next; out = r.out; within = unlabelled r.within; takes = r.takes }

  out_label : (w : Name) (a : Tree action) (i n o q : ℕ) → OffersAlike action a (i + 2) n o q → OffersAlike statement (labelled w a) i n o q
  out_label w a i n o q r = record { act = r.act; next = r.next; out = r.out; within = behind_label r.within; takes = r.takes }

  out_then : (s : Tree statement) (x : Tree sequence) (i n o q : ℕ) → OffersAlike statement s i (enter x (i + size_in s) n) o q → OffersAlike sequence (then s x) i n o q
  out_then s x i n o q r = record { act = r.act; next = r.next; out = r.out; within = in_first r.within; takes = r.takes }

  out_option : (x : Tree sequence) (os : Tree options) (i n o q : ℕ) → OffersAlike sequence x (i + 1) n o q ⊎ OffersAlike options os (i + 2 + size_in x) n o q → OffersAlike options (option x os) i n o q
  out_option x os i n o q (inl r) = record { act = r.act; next = r.next; out = r.out; within = in_option r.within; takes = r.takes }
  out_option x os i n o q (inr r) = record { act = r.act; next = r.next; out = r.out; within = in_others r.within; takes = r.takes }

  either : {A B C D : Type 0} → A ⊎ B → (A → C) → (B → D) → C ⊎ D
  either (inl a) f g = inl (f a)
  either (inr b) f g = inr (g b)

  merge : {A B C : Type 0} → A ⊎ B → (A → C) → (B → C) → C
  merge (inl a) f g = f a
  merge (inr b) f g = g b

  else_there : {k : Sort} (t : Tree k) (i n o q : ℕ) → In q (else_of t i) → OffersAlike k t i n o q
  else_there (leaf (express e)) i n o q h = none_in q h
  else_there (leaf (assign r e)) i n o q h = none_in q h
  else_there (leaf (increment r)) i n o q h = none_in q h
  else_there (leaf (decrement r)) i n o q h = none_in q h
  else_there (leaf (send mk r es)) i n o q h = none_in q h
  else_there (leaf (receive mk r xs)) i n o q h = none_in q h
  else_there (leaf (assert e)) i n o q h = none_in q h
  else_there (leaf (print w es)) i n o q h = none_in q h
  else_there (leaf skip) i n o q h = none_in q h
  else_there (leaf (goto w)) i n o q h = none_in q h
  else_there (leaf break) i n o q h = none_in q h
  else_there (leaf timeout) i n o q h = none_in q h
  else_there (leaf else) i n o q h = subst (OffersAlike action (leaf else) i n o) (in_one q i h) record { act = (leaf else); next = n; out = o; within = itself; takes = refl }
  else_there (leaf (run w es)) i n o q h = none_in q h
  else_there (leaf (set_run r w es)) i n o q h = none_in q h
  else_there (select os) i n o q h = none_in q h
  else_there (loop os) i n o q h = none_in q h
  else_there (bare a) i n o q h = out_bare a i n o q (else_there a i n o q h)
  else_there (labelled w a) i n o q h = out_label w a i n o q (else_there a (i + 2) n o q h)
  else_there end i n o q h = none_in q h
  else_there (then s x) i n o q h = out_then s x i n o q (else_there s i (enter x (i + size_in s) n) o q h)
  else_there over i n o q h = none_in q h
  else_there (option x os) i n o q h =
      out_option x os i n o q
      (either (in_append q (else_of x (i + 1)) (else_of os (i + 2 + size_in x)) h) (else_there x (i + 1) n o q) (else_there os (i + 2 + size_in x) n o q))

  abbrev can : Bool → Tree action → ℕ → Bool
  can late a i = ready c late a

  once : (late : Bool) (a : Tree action) (i n o q : ℕ) → In q (pick (ready c late a) (i ∷ []) []) → OffersAlike action a i n o q
  once late a i n o q h = go (ready c late a) refl h
    where
      go : (b : Bool) → ready c late a ≡ b → In q (pick b (i ∷ []) []) → OffersAlike action a i n o q
      go true e h = subst (OffersAlike action a i n o) (in_one q i h) record { act = a; next = n; out = o; within = itself; takes = ready-takable late a e }
      go false e h = none_in q h

  pub offers_there : (late : Bool) {k : Sort} (t : Tree k) (i n o q : ℕ) → In q (offers (can late) t i) → OffersAlike k t i n o q
  unfolding offers
  offers_there late (leaf l) i n o q h = once late (leaf l) i n o q h
  offers_there late (select os) i n o q h =
      out_if os i n o q (merge (in_else q (offers (can late) os (i + 1)) (else_of os (i + 1)) h) (offers_there late os (i + 1) n o q) (else_there os (i + 1) n o q))
  offers_there late (loop os) i n o q h =
      out_do os i n o q (merge (in_else q (offers (can late) os (i + 1)) (else_of os (i + 1)) h) (offers_there late os (i + 1) i n q) (else_there os (i + 1) i n q))
  offers_there late (bare a) i n o q h = out_bare a i n o q (offers_there late a i n o q h)
  offers_there late (labelled w a) i n o q h = out_label w a i n o q (offers_there late a (i + 2) n o q h)
  offers_there late end i n o q h = none_in q h
  offers_there late (then s x) i n o q h = out_then s x i n o q (offers_there late s i (enter x (i + size_in s) n) o q h)
  offers_there late over i n o q h = none_in q h
  offers_there late (option x os) i n o q h =
      out_option x os i n o q
      (either (in_append q (offers (can late) x (i + 1)) (offers (can late) os (i + 2 + size_in x)) h) (offers_there late x (i + 1) n o q) (offers_there late os (i + 2 + size_in x) n o q))
