-- Laws of options and of what a place offers.
use Prim.Native.Nat.{ℕ, suc, ◌+◌, ◌-◌, min, ◌<◌}
use mathlib.Core.Path.{◌≡◌, sym, ◌∙◌, ap}
use mathlib.Core.Bool.{Bool, true, false}
use mathlib.Core.List.{List, [], ◌∷◌, ◌++◌}
use native.Mathlib.Omega.{arith}
use lib.IntN.{ℤ}
use lib.Dec.{eqb, ltb}
use borrow.Author.Tests.{ltb-true, ne_eqb}
use Rattle.base_ceilings.specs.Ceilings.{statements_most}
use Rattle.base_codes.specs.Codes.{c_else, c_option}
use Rattle.base_bytes.specs.Choice.{pick}
use Rattle.table_layout.specs.Access.{code_of, link_of}
use Rattle.step_ready.specs.Executing.{ready_of}
use Rattle.step_offers.specs.Offers.{is_selection, is_option, end_of, first_of, each_option, else_at, offers_from, pick_at}
use Rattle.base_bytes.specs.Lists.{or_else}
use Rattle.step_offers.specs.declared.Walk.{Walk}
use Rattle.step_offers.specs.declared.Walk.TheVariants.{Found, Left}
use Rattle.step_offers.proofs.Picks.{pick-none, pick_found, pick-left, or_found, or_left, or_else_lem}
use Rattle.base_bytes.proofs.Tests.{both_left}

pub one_less : {n : ℕ} → (n ≡ 0 → ⊥) → n ≡ suc (n - 1)
one_less h = omega arith

pub option_below : (t : List ℕ) (m stop : ℕ) {r : Bool} → r ≡ is_option t m stop → r ≡ true → m < stop
option_below t m stop er e = ltb-true m stop (both_left (ltb m stop) (eqb (code_of t m) c_option) (sym er ∙ e))

module _ (t : List ℕ) (q k : ℕ) {c : ℕ} (ec : c ≡ code_of t q) where
  pub else_here : c ≡ c_else → {r : Walk} → r ≡ pick_at k (q ∷ []) → r ≡ pick_at k (else_at t q 0)
  else_here e er = rw (← ec, e) er

  pub else_not : (c ≡ c_else → ⊥) → Left k ≡ pick_at k (else_at t q 0)
  else_not h = pick-none k (rw (← ec, ne_eqb c c_else h))

-- ---- the options from m on
module _ (t : List ℕ) (g : ℕ → ℕ → List ℕ) {n : ℕ} (m stop k : ℕ) where
  pub options_none : n ≡ 0 → Left k ≡ pick_at k (each_option t g n m stop)
  unfolding each_option
  options_none e = pick-none k (rw e)

  module _ {n1 : ℕ} (en : n ≡ suc n1) {b : Bool} (eb : b ≡ is_option t m stop) where
    pub options_over : b ≡ false → Left k ≡ pick_at k (each_option t g n m stop)
    unfolding each_option
    options_over e = pick-none k (rw (en, ← eb, e))

    module _ (e : b ≡ true) {x f : ℕ} (ex : x ≡ end_of t m stop) (ef : f ≡ first_of t m) {w : Walk} (ew : w ≡ pick_at k (g f x)) where
      first_and : each_option t g n m stop ≡ g f x ++ each_option t g n1 (x + 1) stop
      unfolding each_option
      first_and = rw (en, ← eb, e) (λ i. g (sym ef i) (sym ex i) ++ each_option t g n1 (sym ex i + 1) stop)

      pub options_found : {i : ℕ} → w ≡ Found i → Found i ≡ pick_at k (each_option t g n m stop)
      options_found h = sym (ap (pick_at k) first_and ∙ pick_found k (g f x) _ (sym ew ∙ h))

      pub options_left : {l : ℕ} {r : Walk} → w ≡ Left l → r ≡ pick_at l (each_option t g n1 (x + 1) stop) → r ≡ pick_at k (each_option t g n m stop)
      options_left h er = er ∙ sym (ap (pick_at k) first_and ∙ pick-left k (g f x) _ (sym ew ∙ h))

-- ---- a place
module _ (t : List ℕ) (s : List ℤ) (p : ℕ) (late : Bool) {d : ℕ} (q stop k : ℕ) where
  pub offers-none : d ≡ 0 → Left k ≡ pick_at k (offers_from t s p late d q stop)
  unfolding offers_from
  offers-none e = pick-none k (rw e)

  module _ {d1 : ℕ} (ed : d ≡ suc d1) {b : Bool} (eb : b ≡ is_selection t q) where
    plain : b ≡ false → {c : Bool} → c ≡ ready_of t s p late q → offers_from t s p late d q stop ≡ pick c (q ∷ []) []
    unfolding offers_from
    plain e ec = rw (ed, ← eb, e) (ap (λ z. pick z (q ∷ []) []) (sym ec))

    pub item-ready : b ≡ false → {c : Bool} {r : Walk} → c ≡ ready_of t s p late q → c ≡ true → r ≡ pick_at k (q ∷ []) → r ≡ pick_at k (offers_from t s p late d q stop)
    item-ready e ec z er = er ∙ sym (ap (pick_at k) (plain e ec ∙ ap (λ a. pick a (q ∷ []) []) z))

    pub item-not : b ≡ false → {c : Bool} → c ≡ ready_of t s p late q → c ≡ false → Left k ≡ pick_at k (offers_from t s p late d q stop)
    item-not e ec z = pick-none k (plain e ec ∙ ap (λ a. pick a (q ∷ []) []) z)

    module _ (e : b ≡ true) {l x : ℕ} (el : l ≡ link_of t q) (ex : x ≡ min l stop) {w : Walk} (ew : w ≡ pick_at k (each_option t (λ a z. offers_from t s p late d1 a z) statements_most (q + 1) x)) where
      chosen : offers_from t s p late d q stop ≡ or_else (each_option t (λ a z. offers_from t s p late d1 a z) statements_most (q + 1) x) (each_option t (else_at t) statements_most (q + 1) x)
      unfolding offers_from
      chosen =
          let v : min (link_of t q) stop ≡ x = sym (ex ∙ ap (λ a. min a stop) el) in
          rw (ed, ← eb, e) (λ i. or_else (each_option t (λ a z. offers_from t s p late d1 a z) statements_most (q + 1) (v i)) (each_option t (else_at t) statements_most (q + 1) (v i)))

      pub item_found : {i : ℕ} → w ≡ Found i → Found i ≡ pick_at k (offers_from t s p late d q stop)
      item_found h = sym (ap (pick_at k) chosen ∙ or_found k _ _ (sym ew ∙ h))

      pub item-left : {i : ℕ} → w ≡ Left i → (i ≡ k → ⊥) → Left i ≡ pick_at k (offers_from t s p late d q stop)
      item-left h z = sym (ap (pick_at k) chosen ∙ or_left k _ _ (sym ew ∙ h) z)

      pub item_else : {i : ℕ} {r : Walk} → w ≡ Left i → i ≡ k → r ≡ pick_at k (each_option t (else_at t) statements_most (q + 1) x) → r ≡ pick_at k (offers_from t s p late d q stop)
      item_else h z er = er ∙ sym (ap (pick_at k) chosen ∙ or_else_lem k _ _ (sym ew ∙ h) z)
