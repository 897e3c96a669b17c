-- Looking for what closes passes over balanced items.
use Prim.Native.Nat.{ℕ, suc, ◌+◌, ◌-◌, ◌≤◌, ◌<◌}
use native.Mathlib.Omega.{arith}
use mathlib.Core.Path.{◌≡◌, refl, sym, ap, ◌∙◌}
use mathlib.Core.Bool.{Bool, true, false}
use mathlib.Core.Logic.{◌⊎◌, inl, inr}
use mathlib.Core.List.{List, ◌∷◌, ◌++◌}
use lib.ListN.{length, get_or, length-append}
use lib.Dec.{eqb}
use borrow.Author.Tests.{ne_eqb}
use Rattle.base_codes.specs.Codes.{c_do, c_end_option, c_fi, c_if, c_od, c_option}
use Rattle.base_bytes.specs.Choice.{both}
use Rattle.base_codes.specs.Items.{Item, code_of}
use Rattle.base_codes.specs.Sets.{is_opening, is_closing}
use Rattle.link_places.specs.Places.{deeper, close_from}
use Rattle.link_phrases_proof.specs.Phrases.{At}
use Rattle.link_phrases_proof.proofs.Starts.{at_front, at_back}
use Rattle.agree_nesting.specs.Balanced.{Pair, if_fi, do_od, an_option, Balanced, none, other, pair}

-- the pairs that are looked for here
pub data Kind : ℕ → Type 0 where
  selections : Kind 0
  loops : Kind 1
  options : Kind 2

-- ---- one item
module _ (cs : List ℕ) where
  pub pass : (p k d d2 f c : ℕ) → get_or cs k 0 ≡ c → both (is_closing p c) (eqb d 1) ≡ false → deeper p c d ≡ d2 → close_from cs p k d (suc f) ≡ close_from cs p (k + 1) d2 f
  unfolding close_from
  pass p k d d2 f c e h g = rw (e, h, g)

  pub stop : (p k f c : ℕ) → get_or cs k 0 ≡ c → is_closing p c ≡ true → close_from cs p k 1 (suc f) ≡ k
  unfolding close_from
  stop p k f c e h = rw (e, h)

-- an item that is none of them
pub neither_is : (c a : ℕ) → c_if ≤ a → a ≤ c_end_option → (c < c_if) ⊎ (c_end_option < c) → eqb c a ≡ false
neither_is c a g k (inl h) = ne_eqb c a (λ e. omega arith)
neither_is c a g k (inr h) = ne_eqb c a (λ e. omega arith)

neither-closing : {p : ℕ} → Kind p → (c : ℕ) → (c < c_if) ⊎ (c_end_option < c) → is_closing p c ≡ false
unfolding is_closing
neither-closing selections c h = rw (neither_is c c_fi (omega arith) (omega arith) h, neither_is c c_od (omega arith) (omega arith) h)
neither-closing loops c h = neither_is c c_od (omega arith) (omega arith) h
neither-closing options c h = neither_is c c_end_option (omega arith) (omega arith) h

neither_opening : {p : ℕ} → Kind p → (c : ℕ) → (c < c_if) ⊎ (c_end_option < c) → is_opening p c ≡ false
unfolding is_opening
neither_opening selections c h = rw (neither_is c c_if (omega arith) (omega arith) h, neither_is c c_do (omega arith) (omega arith) h)
neither_opening loops c h = neither_is c c_do (omega arith) (omega arith) h
neither_opening options c h = neither_is c c_option (omega arith) (omega arith) h

neither-deeper : {p : ℕ} → Kind p → (c d : ℕ) → (c < c_if) ⊎ (c_end_option < c) → deeper p c d ≡ d
unfolding deeper
neither-deeper k c d h = rw (neither_opening k c h, neither-closing k c h)

-- what opens, and what closes, where d are open: how many are open between them
record Around (p d : ℕ) (x y : Item) : Type 0 where
  between : ℕ
  some : 1 ≤ between
  in_step : both (is_closing p (code_of x)) (eqb d 1) ≡ false
  in_depth : deeper p (code_of x) d ≡ between
  out_step : both (is_closing p (code_of y)) (eqb between 1) ≡ false
  out_depth : deeper p (code_of y) between ≡ d

pub deep-not : (d : ℕ) → 1 ≤ d → eqb (d + 1) 1 ≡ false
deep-not d h = ne_eqb (d + 1) 1 (λ e. omega arith)

pub back_one : (d : ℕ) → d + 1 - 1 ≡ d
back_one d = omega arith

around : {p q : ℕ} {x y : Item} → Kind p → Pair q x y → (d : ℕ) → 1 ≤ d → Around p d x y
unfolding deeper is_opening is_closing
around selections if_fi d h = record { between = d + 1; some = omega arith; in_step = refl; in_depth = refl; out_step = deep-not d h; out_depth = back_one d }
around selections do_od d h = record { between = d + 1; some = omega arith; in_step = refl; in_depth = refl; out_step = deep-not d h; out_depth = back_one d }
around selections an_option d h = record { between = d; some = h; in_step = refl; in_depth = refl; out_step = refl; out_depth = refl }
around loops if_fi d h = record { between = d; some = h; in_step = refl; in_depth = refl; out_step = refl; out_depth = refl }
around loops do_od d h = record { between = d + 1; some = omega arith; in_step = refl; in_depth = refl; out_step = deep-not d h; out_depth = back_one d }
around loops an_option d h = record { between = d; some = h; in_step = refl; in_depth = refl; out_step = refl; out_depth = refl }
around options if_fi d h = record { between = d; some = h; in_step = refl; in_depth = refl; out_step = refl; out_depth = refl }
around options do_od d h = record { between = d; some = h; in_step = refl; in_depth = refl; out_step = refl; out_depth = refl }
around options an_option d h = record { between = d + 1; some = omega arith; in_step = refl; in_depth = refl; out_step = deep-not d h; out_depth = back_one d }

-- ---- balanced items
both_no : (a b : Bool) → a ≡ false → both a b ≡ false
both_no a b e = ap (λ c. both c b) e

pub skip : (cs : List ℕ) {p : ℕ} → Kind p → {l : List Item} → Balanced l → (k d n f : ℕ) → At cs k l → 1 ≤ d → n ≡ length l + f → close_from cs p k d n ≡ close_from cs p (k + length l) d f
skip cs {p} kd none k d n f h g e = let z : k + 0 ≡ k = omega arith in let w : n ≡ f = omega arith in ap (close_from cs p k d) w ∙ ap (λ j. close_from cs p j d f) (sym z)
skip cs {p} kd (other {x} {l} t b) k d n f h g e =
    let w : n ≡ suc (length l + f) = omega arith in
    let z : suc k ≡ k + 1 = omega arith in
    let y : suc k + length l ≡ k + suc (length l) = omega arith in
    ap (close_from cs p k d) w ∙ pass cs p k d d (length l + f) (code_of x) h.0 (both_no _ _ (neither-closing kd (code_of x) t)) (neither-deeper kd (code_of x) d t)
    ∙ ap (λ j. close_from cs p j d (length l + f)) (sym z) ∙ skip cs kd b (suc k) d (length l + f) f h.1 g refl ∙ ap (λ j. close_from cs p j d f) y
skip cs {p} kd (pair {q} {x} {y} {m} {l} pr bg bm bl) k d n f h g e =
    let u = around kd pr d g in
    let r = u.between in
    let a = length m in
    let b = length l in
    let q1 : length (m ++ (y ∷ l)) ≡ a + suc b = length-append m (y ∷ l) in
    let w : n ≡ suc (a + suc (b + f)) = omega arith in
    let z : suc k ≡ k + 1 = omega arith in
    let v : suc (suc k + a) ≡ suc k + a + 1 = omega arith in
    let t : suc (suc k + a) + b ≡ k + suc (length (m ++ (y ∷ l))) = omega arith in
    let back = at_back cs m (y ∷ l) (suc k) (suc k + a) refl h.1 in
    ap (close_from cs p k d) w ∙ pass cs p k d r (a + suc (b + f)) (code_of x) h.0 u.in_step u.in_depth
    ∙ ap (λ j. close_from cs p j r (a + suc (b + f))) (sym z) ∙ skip cs kd bm (suc k) r (a + suc (b + f)) (suc (b + f)) (at_front cs (suc k) m (y ∷ l) h.1) u.some refl
    ∙ pass cs p (suc k + a) r d (b + f) (code_of y) back.0 u.out_step u.out_depth
    ∙ ap (λ j. close_from cs p j d (b + f)) (sym v) ∙ skip cs kd bl (suc (suc k + a)) d (b + f) f back.1 g refl ∙ ap (λ j. close_from cs p j d f) t
