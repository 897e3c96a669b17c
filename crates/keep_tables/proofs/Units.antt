-- Units of the tables: each ends, and has a body.
use Prim.Native.Nat.{ℕ, zero, suc, ◌+◌, ◌-◌, ◌≤◌, ◌<◌, min}
use mathlib.Core.Path.{◌≡◌, refl, sym, ap, subst, ◌∙◌}
use mathlib.Core.Bool.{true}
use mathlib.Core.List.{List}
use native.Mathlib.Omega.{arith}
use native.Mathlib.Decide.{ℕ_discrete}
use lib.ListN.{length, get_or}
use borrow.Author.Tests.{eq-eqb, ne_eqb}
use Rattle.base_codes.specs.Codes.{c_active, c_active_many, c_end_body, c_init, c_proctype}
use Rattle.base_codes.specs.Sets.{is_opening, is_closing, class_of, is_unit}
use Rattle.table_layout.specs.Access.{items_of, code_of, link_of}
use Rattle.link_places.specs.Places.{deeper, close_from, close_of_lem}
use Rattle.link_items.specs.Links.{link_by}
use Rattle.keep_forms.proofs.Spans.{Closed, unit-closed}
use Rattle.keep_tables.specs.Well.{Unit}
use Rattle.keep_tables.specs.Held.{Held}
use Rattle.keep_tables.specs.Facts.{homes, starts, links_in, Facts}
use Rattle.keep_tables.proofs.Links.{link_is}

-- each of the four codes of what is_unit a unit
by_four : (P : ℕ → Type 0) → P c_proctype → P c_active → P c_active_many → P c_init → (c : ℕ) → c_proctype ≤ c → c ≤ c_init → P c
by_four P a b d e c h g = subst P (let z : c_proctype + (c - c_proctype) ≡ c = omega arith in z) (go (c - c_proctype) (omega arith))
  where
    go : (k : ℕ) → k < 4 → P (c_proctype + k)
    go zero h = a
    go (suc zero) h = b
    go (suc (suc zero)) h = d
    go (suc (suc (suc zero))) h = e
    go (suc (suc (suc (suc k)))) h = absurd (omega arith)

begins-holds : (c : ℕ) → c_proctype ≤ c → c ≤ c_init → is_unit c ≡ true
begins-holds = by_four (λ c. is_unit c ≡ true) refl refl refl refl

unit-class : (c : ℕ) → c_proctype ≤ c → c ≤ c_init → class_of c ≡ 12
unfolding class_of
unit-class = by_four (λ c. class_of c ≡ 12) refl refl refl refl

-- ---- the first end behind a place
module _ (cs : List ℕ) where
  close_step : (k f : ℕ) → (get_or cs k 0 ≡ c_end_body → ⊥) → close_from cs 3 k 1 (suc f) ≡ close_from cs 3 (k + 1) 1 f
  unfolding close_from is_closing is_opening deeper
  close_step k f n = rw (ne_eqb (get_or cs k 0) c_end_body n)

  close_here : (k f : ℕ) → get_or cs k 0 ≡ c_end_body → close_from cs 3 k 1 (suc f) ≡ k
  unfolding close_from is_closing
  close_here k f e = rw (eq-eqb (get_or cs k 0) c_end_body e)

  close_is : (f k e : ℕ) → k ≤ e → e < k + f → get_or cs e 0 ≡ c_end_body → ((i : ℕ) → k ≤ i → i < e → get_or cs i 0 ≡ c_end_body → ⊥) → close_from cs 3 k 1 f ≡ e
  close_is zero k e g h c n = absurd (omega arith)
  close_is (suc f) k e g h c n = go (ℕ_discrete k e) (λ l. close_is f (k + 1) e l (omega arith) c (λ i p q. n i (omega arith) q))
    where
      go : Dec (k ≡ e) → (k + 1 ≤ e → close_from cs 3 (k + 1) 1 f ≡ e) → close_from cs 3 k 1 (suc f) ≡ e
      go (yes z) r = close_here k f (ap (λ i. get_or cs i 0) z ∙ c) ∙ z
      go (no z) r = close_step k f (n k (omega arith) (omega arith)) ∙ r (omega arith)

module _ (t cs vs : List ℕ) (H : Held t cs vs (links_in cs vs)) (K : Facts cs vs) where
  -- what the tables and the items say of a unit
  pub record Span (u : ℕ) : Type 0 where
    pub before : u < length cs
    pub head : is_unit (get_or cs u 0) ≡ true
    pub closed : Closed cs K.formed (suc u) (link_of t u)

  unit_link : (m : List ℕ) (u : ℕ) → c_proctype ≤ get_or cs u 0 → get_or cs u 0 ≤ c_init → link_by cs vs (homes cs) (starts cs) (class_of (get_or cs u 0)) m u ≡ close_of_lem cs 3 (u + 1)
  unfolding link_by
  unit_link m u a b = rw (unit-class (get_or cs u 0) a b)

  close_of : (u e : ℕ) → Closed cs K.formed (suc u) e → close_of_lem cs 3 (u + 1) ≡ e
  unfolding close_of_lem
  close_of u e c = let l = c.0 in let h = c.1 in close_is cs (length cs - (u + 1)) (u + 1) e (omega arith) (omega arith) c.2 (λ i g k. (c.3 i (omega arith) k).1)

  pub span_of : (u : ℕ) → Unit t u → Span u
  span_of u n =
      let h : u < length cs = subst (λ k. u < k) H.items n.0 in
      let q = H.codes u h in
      let a : c_proctype ≤ get_or cs u 0 = subst (λ c. c_proctype ≤ c) q n.1 in
      let b : get_or cs u 0 ≤ c_init = subst (λ c. c ≤ c_init) q n.2 in
      let g = begins-holds (get_or cs u 0) a b in
      let r = unit-closed cs K.formed u h g in
      let l = link_is cs vs u K.few h in
      let f = K.few in
      let k = r.1.1 in
      let z : link_of t u ≡ r.0 = H.links u h ∙ l.1 ∙ ap (min 4294967295) (unit_link l.0 u a b ∙ close_of u r.0 r.1) ∙ (let y : min 4294967295 r.0 ≡ r.0 = omega arith in y) in
      record { before = h; head = g; closed = subst (Closed cs K.formed (suc u)) (sym z) r.1 }

  -- ---- fields of `Well`
  pub text-ends : (u : ℕ) → Unit t u → (u < link_of t u) × (link_of t u < items_of t) × (code_of t (link_of t u) ≡ c_end_body)
  text-ends u n =
      let s = span_of u n in
      let c = s.closed in
      (c.0, subst (λ k. link_of t u < k) (sym H.items) c.1, H.codes (link_of t u) c.1 ∙ c.2)
