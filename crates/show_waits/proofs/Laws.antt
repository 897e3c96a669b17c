-- Laws of the walk over first statements, and of the line of the first process that waits.
use Prim.Native.Nat.{ℕ, suc, ◌+◌, ◌-◌, min, ◌<◌, ◌≤◌}
use mathlib.Core.Path.{◌≡◌, refl, sym, ◌∙◌, ap, ap₂}
use mathlib.Core.Bool.{Bool, true, false, not}
use mathlib.Core.List.{List, [], ◌∷◌, ◌++◌}
use native.Mathlib.Omega.{arith}
use lib.IntN.{ℤ}
use lib.Dec.{eqb}
use borrow.Author.Tests.{eq-eqb, ne_eqb, lt-ltb, le-ltb}
use Rattle.base_bytes.specs.Choice.{pick}
use Rattle.base_ceilings.specs.Ceilings.{processes_most, channels_most, statements_most}
use Rattle.base_codes.specs.Codes.{c_run}
use Rattle.base_kinds.specs.Kinds.{bytes}
use Rattle.base_pens.specs.Pen.{Pen, pen, puts}
use Rattle.spec_text.specs.Formats.{digits_of}
use Rattle.table_layout.specs.Access.{code_of, link_of}
use Rattle.state_layout.specs.Layout.{processes_of}
use Rattle.step_ready.specs.Executing.{mark_of, fits_of}
use Rattle.step_offers.specs.Offers.{is_selection, each_option, pick_at}
use Rattle.step_offers.specs.declared.Walk.{Walk}
use Rattle.step_offers.specs.declared.Walk.TheVariants.{Found, Left}
use Rattle.step_offers.proofs.Picks.{pick-none}
use Rattle.show_waits.specs.Waits.{is_stuck, stuck_from, stuck_of, ceiling_in, line_in, waits_from, waits_in}

module _ (t : List ℕ) (s : List ℤ) where
  -- ---- a statement
  module _ (q : ℕ) {m c : ℕ} (em : m ≡ mark_of t q) (ec : c ≡ code_of t m) where
    pub stuck_run : {u : ℕ} {b : Bool} → c ≡ c_run → u ≡ link_of t m → b ≡ fits_of t s u → not b ≡ is_stuck t s q
    unfolding is_stuck
    stuck_run e eu eb =
        let f : eqb (code_of t (mark_of t q)) c_run ≡ true = eq-eqb _ _ (ap (code_of t) (sym em) ∙ sym ec ∙ e) in
        ap not (eb ∙ ap (fits_of t s) (eu ∙ ap (link_of t) em)) ∙ sym (rw f refl)

    pub stuck_not : (c ≡ c_run → ⊥) → false ≡ is_stuck t s q
    unfolding is_stuck
    stuck_not h =
        let f : eqb (code_of t (mark_of t q)) c_run ≡ false = ne_eqb _ _ (λ z. h (ec ∙ ap (code_of t) em ∙ z)) in
        sym (rw f refl)

  -- ---- a place
  module _ {d : ℕ} (q stop k : ℕ) where
    pub stuck_none : d ≡ 0 → Left k ≡ pick_at k (stuck_from t s d q stop)
    unfolding stuck_from
    stuck_none e = pick-none k (rw e)

    module _ {d1 : ℕ} (ed : d ≡ suc d1) {b : Bool} (eb : b ≡ is_selection t q) where
      plain : b ≡ false → {c : Bool} → c ≡ is_stuck t s q → stuck_from t s d q stop ≡ pick c (q ∷ []) []
      unfolding stuck_from
      plain e ec = rw (ed, ← eb, e) (ap (λ z. pick z (q ∷ []) []) (sym ec))

      pub item_stuck : b ≡ false → {c : Bool} {r : Walk} → c ≡ is_stuck t s q → c ≡ true → r ≡ pick_at k (q ∷ []) → r ≡ pick_at k (stuck_from t s d q stop)
      item_stuck e ec z er = er ∙ sym (ap (pick_at k) (plain e ec ∙ ap (λ a. pick a (q ∷ []) []) z))

      pub item-not : b ≡ false → {c : Bool} → c ≡ is_stuck t s q → c ≡ false → Left k ≡ pick_at k (stuck_from t s d q stop)
      item-not e ec z = pick-none k (plain e ec ∙ ap (λ a. pick a (q ∷ []) []) z)

      pub item_options : b ≡ true → {l x : ℕ} {w : Walk} → l ≡ link_of t q → x ≡ min l stop → w ≡ pick_at k (each_option t (λ a z. stuck_from t s d1 a z) statements_most (q + 1) x) → w ≡ pick_at k (stuck_from t s d q stop)
      unfolding stuck_from
      item_options e el ex ew =
          let v : min (link_of t q) stop ≡ _ = sym (ex ∙ ap (λ a. min a stop) el) in
          ew ∙ sym (ap (pick_at k) (rw (ed, ← eb, e) (λ i. each_option t (λ a z. stuck_from t s d1 a z) statements_most (q + 1) (v i))))

  -- ---- the first process that waits
  module _ (p n : ℕ) (h : p < n) where
    next : n - p ≡ suc (n - (p + 1))
    next = omega arith

    pub waits_there : (q : ℕ) (l : List ℕ) → l ≡ stuck_of t s p → Found q ≡ pick_at 0 l → waits_from t s p (n - p) ≡ line_in t s p q
    unfolding waits_from pick_at
    waits_there q [] e f = absurd (let z : ◌≡◌ {A = ℕ} 0 1 = cc in omega arith)
    waits_there q (x ∷ xs) e f = let z : x ≡ q = cc in rw (next, ← e, z) refl

    pub waits-later : (k : ℕ) (l : List ℕ) → l ≡ stuck_of t s p → Left k ≡ pick_at 0 l → waits_from t s p (n - p) ≡ waits_from t s (p + 1) (n - (p + 1))
    unfolding waits_from pick_at
    waits-later k [] e f = rw (next, ← e) refl
    waits-later k (x ∷ xs) e f = absurd (let z : ◌≡◌ {A = ℕ} 0 1 = cc in omega arith)

  pub waits_end : (p n : ℕ) → n ≤ p → waits_from t s p (n - p) ≡ []
  unfolding waits_from
  waits_end p n h = let q : n - p ≡ 0 = omega arith in rw q refl

  pub waits_start : (n m : ℕ) → n ≡ processes_of s → m ≡ min n processes_most → waits_from t s 0 (m - 0) ≡ waits_in t s
  waits_start n m e f = let q : m - 0 ≡ min (processes_of s) processes_most = omega (arith, e, f) in ap (waits_from t s 0) q

-- ---- pens
pub nothing_put : (l o z : List ℕ) (p : ℕ) → o ≡ z → [] ≡ l → pen o p ≡ puts l (pen z p)
unfolding puts
nothing_put l o z p e f = ap (λ y. pen y p) e ∙ ap (λ y. puts y (pen z p)) f

pub line-put : (a b o z : List ℕ) (p : ℕ) (x : Pen) → o ≡ z → a ≡ b → x ≡ puts a (pen o p) → x ≡ puts b (pen z p)
line-put a b o z p x e f g = g ∙ ap₂ (λ y w. puts y (pen w p)) f e

module _ (s : List ℤ) (n : ℕ) (w x : Pen) (e : n ≡ processes_of s) where
  pub channels-put : n < processes_most → x ≡ puts (digits_of channels_most ++ bytes " channels are the most\n") w → x ≡ puts (ceiling_in s) w
  channels-put h f = rw (← e, lt-ltb n processes_most h) f

  pub processes-put : processes_most ≤ n → x ≡ puts (digits_of processes_most ++ bytes " processes are the most\n") w → x ≡ puts (ceiling_in s) w
  processes-put h f = rw (← e, le-ltb n processes_most h) f
