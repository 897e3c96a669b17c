-- Looking back for what opened a selection passes over balanced items, and looking for the end of a body passes over what stands inside of a unit.
use Prim.Native.Nat.{ℕ, suc, ◌+◌, ◌-◌, ◌≤◌, ◌<◌}
use native.Mathlib.Omega.{arith}
use mathlib.Core.Path.{◌≡◌, refl, ap, ◌∙◌}
use mathlib.Core.Bool.{true, false}
use mathlib.Core.Logic.{◌⊎◌}
use mathlib.Core.List.{List, [], ◌∷◌, ◌++◌}
use lib.ListN.{length, get_or, length-append}
use lib.Dec.{eqb}
use borrow.Author.Tests.{ne_eqb}
use Rattle.base_codes.specs.Codes.{c_do, c_end_body, c_end_option, c_fi, c_if, c_od, c_proctype}
use Rattle.base_bytes.specs.Choice.{both}
use Rattle.base_codes.specs.Items.{Item, code_of}
use Rattle.base_codes.specs.Sets.{is_opening, is_closing}
use Rattle.table_entries.specs.Items.{AllKnown}
use Rattle.link_places.specs.Places.{deeper, close_from, close_of_lem, shallower, open_of}
use Rattle.link_phrases_proof.specs.Phrases.{At}
use Rattle.link_phrases_proof.proofs.Starts.{at_front, at_back}
use Rattle.agree_nesting.specs.Balanced.{Pair, if_fi, do_od, an_option, Balanced, none, other, pair}
use Rattle.agree_nesting.proofs.Skips.{Kind, pass, stop, neither_is, skip, deep-not, back_one}
use Rattle.agree_control.proofs.Insides.{Inner}

-- ---- going back over one item
module _ (cs : List ℕ) where
  pub back_pass : (k d d2 c : ℕ) → get_or cs k 0 ≡ c → both (is_opening 0 c) (eqb d 1) ≡ false → shallower c d ≡ d2 → open_of cs (suc k) d ≡ open_of cs k d2
  unfolding open_of
  back_pass k d d2 c e h g = rw (e, h, g)

  pub back_stop : (k c : ℕ) → get_or cs k 0 ≡ c → is_opening 0 c ≡ true → open_of cs (suc k) 1 ≡ k
  unfolding open_of
  back_stop k c e h = rw (e, h)

neither-back : (c d : ℕ) → (c < c_if) ⊎ (c_end_option < c) → (both (is_opening 0 c) (eqb d 1) ≡ false) × (shallower c d ≡ d)
unfolding is_opening is_closing shallower
neither-back c d t =
    let i = neither_is c c_if (omega arith) (omega arith) t in
    let j = neither_is c c_do (omega arith) (omega arith) t in
    (rw (i, j), rw (i, neither_is c c_fi (omega arith) (omega arith) t, j, neither_is c c_od (omega arith) (omega arith) t))

-- what closes, and what opens, where d are open: how many are open between them
record Around (d : ℕ) (x y : Item) : Type 0 where
  between : ℕ
  some : 1 ≤ between
  in_step : both (is_opening 0 (code_of y)) (eqb d 1) ≡ false
  in_depth : shallower (code_of y) d ≡ between
  out_step : both (is_opening 0 (code_of x)) (eqb between 1) ≡ false
  out_depth : shallower (code_of x) between ≡ d

around : {q : ℕ} {x y : Item} → Pair q x y → (d : ℕ) → 1 ≤ d → Around d x y
unfolding shallower is_opening is_closing
around if_fi d h = record { between = d + 1; some = omega arith; in_step = refl; in_depth = refl; out_step = deep-not d h; out_depth = back_one d }
around do_od d h = record { between = d + 1; some = omega arith; in_step = refl; in_depth = refl; out_step = deep-not d h; out_depth = back_one d }
around an_option d h = record { between = d; some = h; in_step = refl; in_depth = refl; out_step = refl; out_depth = refl }

-- ---- going back over balanced items
module _ (cs : List ℕ) where
  pub back : {l : List Item} → Balanced l → (k d : ℕ) → At cs k l → 1 ≤ d → open_of cs (k + length l) d ≡ open_of cs k d
  back none k d h g = ap (λ i. open_of cs i d) (let z : k + 0 ≡ k = omega arith in z)
  back (other {x} {l} t b) k d h g =
      let n = neither-back (code_of x) d t in
      ap (λ i. open_of cs i d) (let z : k + suc (length l) ≡ suc k + length l = omega arith in z) ∙ back b (suc k) d h.1 g ∙ back_pass cs k d d (code_of x) h.0 n.0 n.1
  back (pair {q} {x} {y} {m} {l} pr bg bm bl) k d h g =
      let u = around pr d g in
      let r = u.between in
      let a = length m in
      let n : length (m ++ (y ∷ l)) ≡ a + suc (length l) = length-append m (y ∷ l) in
      let b = at_back cs m (y ∷ l) (suc k) (suc k + a) refl h.1 in
      ap (λ i. open_of cs i d) (let z : k + suc (length (m ++ (y ∷ l))) ≡ suc (suc k + a) + length l = omega arith in z) ∙ back bl (suc (suc k + a)) d b.1 g
      ∙ back_pass cs (suc k + a) d r (code_of y) b.0 u.in_step u.in_depth ∙ back bm (suc k) r (at_front cs (suc k) m (y ∷ l) h.1) u.some
      ∙ back_pass cs k r d (code_of x) h.0 u.out_step u.out_depth

  -- ---- going on, by the place alone
  pub close_skip : {p : ℕ} → Kind p → {l : List Item} → Balanced l → (k : ℕ) → At cs k l → k + length l ≤ length cs → close_of_lem cs p k ≡ close_of_lem cs p (k + length l)
  unfolding close_of_lem
  close_skip kd {l} b k h g = skip cs kd b k 1 (length cs - k) (length cs - (k + length l)) h (omega arith) (omega arith)

  pub close_pass : (p k c : ℕ) → k < length cs → get_or cs k 0 ≡ c → is_closing p c ≡ false → is_opening p c ≡ false → close_of_lem cs p k ≡ close_of_lem cs p (k + 1)
  unfolding close_of_lem deeper
  close_pass p k c h e f g =
      let z : length cs - k ≡ suc (length cs - (k + 1)) = omega arith in
      ap (close_from cs p k 1) z ∙ pass cs p k 1 1 (length cs - (k + 1)) c e (ap (λ b. both b true) f) (rw (g, f))

  pub close_stop : (p k c : ℕ) → k < length cs → get_or cs k 0 ≡ c → is_closing p c ≡ true → close_of_lem cs p k ≡ k
  unfolding close_of_lem
  close_stop p k c h e f = let z : length cs - k ≡ suc (length cs - (k + 1)) = omega arith in ap (close_from cs p k 1) z ∙ stop cs p k (length cs - (k + 1)) c e f

  -- ---- the end of a body
  inner_closes_not : (c : ℕ) → c < c_proctype → (is_closing 3 c ≡ false) × (is_opening 3 c ≡ false)
  unfolding is_closing is_opening
  inner_closes_not c h = (ne_eqb c c_end_body (λ e. omega arith), refl)

  pub close_inner : (l : List Item) → Inner l → AllKnown l → (k : ℕ) → At cs k l → k + length l ≤ length cs → close_of_lem cs 3 k ≡ close_of_lem cs 3 (k + length l)
  close_inner [] n a k h g = ap (close_of_lem cs 3) (let z : k ≡ k + 0 = omega arith in z)
  close_inner (x ∷ l) n a k h g =
      let f = inner_closes_not (code_of x) (n.0 a.0) in
      close_pass 3 k (code_of x) (omega arith) h.0 f.0 f.1 ∙ ap (close_of_lem cs 3) (let z : k + 1 ≡ suc k = omega arith in z)
      ∙ close_inner l n.1 a.1 (suc k) h.1 (omega arith) ∙ ap (close_of_lem cs 3) (let z : suc k + length l ≡ k + suc (length l) = omega arith in z)
