-- Bodies by their units: what stands in a unit is in its body, and what is in its body stands in the unit.
use Prim.Native.Nat.{ℕ, zero, suc, ◌+◌, ◌-◌, ◌≤◌, ◌<◌}
use mathlib.Core.Path.{◌≡◌, refl, sym, ap, ◌∙◌}
use mathlib.Core.Bool.{Bool, true, false}
use mathlib.Core.List.{List}
use native.Mathlib.Omega.{arith}
use native.Mathlib.Decide.{ℕ_discrete}
use lib.ListN.{length, get_or, replicate, length-replicate}
use lib.Dec.{eqb, ltb, leb}
use borrow.Author.Tests.{ne_eqb, ltb-true, lt-ltb, le-leb, leb-true}
use Rattle.base_ceilings.specs.Ceilings.{items_most}
use Rattle.base_codes.specs.Codes.{c_body, c_end_body, c_init, c_parameter, c_proctype}
use Rattle.base_codes.specs.Sets.{is_unit}
use Rattle.base_bytes.specs.Choice.{pick}
use Rattle.base_bytes.proofs.Tests.{both_true, true_false, both_hold}
use Rattle.rule_sheets.specs.Homes.{inside_of, home_of}
use Rattle.rule_sheets.proofs.Meaning.{home_at}
use Rattle.keep_forms.specs.Forms.{Formed}
use Rattle.keep_forms.proofs.Spans.{Closed}
use Rattle.keep_tables.specs.Facts.{homes}

module _ (cs : List ℕ) where
  inside-next : (j : ℕ) → inside_of cs (suc j) ≡ pick (is_unit (get_or cs j 0)) (j + 1) (pick (eqb (get_or cs j 0) c_end_body) 0 (inside_of cs j))
  unfolding inside_of
  inside-next j = refl

  home_plain : (j : ℕ) → is_unit (get_or cs j 0) ≡ false → home_of cs j ≡ inside_of cs j
  unfolding home_of
  home_plain j e = rw e

  home_head : (j : ℕ) → is_unit (get_or cs j 0) ≡ true → home_of cs j ≡ 0
  unfolding home_of
  home_head j e = rw e

  inside-none : inside_of cs 0 ≡ 0
  unfolding inside_of
  inside-none = refl

  module _ (F : Formed cs) (few : length cs ≤ items_most) where
    pub home_is : (j : ℕ) → j < length cs → get_or (homes cs) j 0 ≡ home_of cs j
    home_is j h = home_at cs (replicate items_most 0) j h few (omega (arith, length-replicate {A = ℕ} items_most 0))

    module _ (u e : ℕ) (b : is_unit (get_or cs u 0) ≡ true) (c : Closed cs F (suc u) e) where
      inside_up : (n j : ℕ) → j ≡ suc u + n → j ≤ e → inside_of cs j ≡ u + 1
      inside_up zero j q h = ap (inside_of cs) (let z : j ≡ suc u = omega arith in z) ∙ inside-next u ∙ rw b
      inside_up (suc n) j q h =
          let i = suc u + n in
          let x = c.3 i (omega arith) (omega arith) in
          ap (inside_of cs) (let z : j ≡ suc i = omega arith in z) ∙ inside-next i ∙ rw (x.0, ne_eqb (get_or cs i 0) c_end_body x.1) (inside_up n i refl (omega arith))

      -- what stands in the unit, before its end
      pub inside_home : (j : ℕ) → u < j → j < e → get_or (homes cs) j 0 ≡ u + 1
      inside_home j h g =
          let x = c.3 j h g in
          let l = c.1 in
          home_is j (omega arith) ∙ home_plain j x.0 ∙ inside_up (j - suc u) j (omega arith) (omega arith)

      -- what is in its body stands there, or is its end
      home_inside : (j : ℕ) → inside_of cs j ≡ u + 1 → (u < j) × (j ≤ e)
      home_inside zero q = absurd (let z = inside-none in omega arith)
      home_inside (suc j) q = go (is_unit (get_or cs j 0)) refl (ℕ_discrete (get_or cs j 0) c_end_body) (home_inside j)
        where
          go : (b : Bool) → is_unit (get_or cs j 0) ≡ b → Dec (get_or cs j 0 ≡ c_end_body) → (inside_of cs j ≡ u + 1 → (u < j) × (j ≤ e)) → (u < suc j) × (suc j ≤ e)
          go true h d r = let z : j + 1 ≡ u + 1 = sym (inside-next j ∙ rw h) ∙ q in let l = c.0 in (omega arith, omega arith)
          go false h (yes d) r = absurd (let z : 0 ≡ u + 1 = sym (inside-next j ∙ rw (h, d)) ∙ q in omega arith)
          go false h (no d) r =
              let z : inside_of cs j ≡ u + 1 = sym (inside-next j ∙ rw (h, ne_eqb (get_or cs j 0) c_end_body d)) ∙ q in
              let k = r z in
              let m = k.1 in
              (let g = k.0 in omega arith, before (ℕ_discrete j e) m)
            where
              before : Dec (j ≡ e) → j ≤ e → suc j ≤ e
              before (yes z) m = absurd (d (ap (λ i. get_or cs i 0) z ∙ c.2))
              before (no z) m = omega arith

      pub body_inside : (j : ℕ) → j < length cs → (get_or cs j 0 ≡ c_end_body → ⊥) → get_or (homes cs) j 0 ≡ u + 1 → (u < j) × (j < e)
      body_inside j h n q = go (is_unit (get_or cs j 0)) refl
        where
          go : (b : Bool) → is_unit (get_or cs j 0) ≡ b → (u < j) × (j < e)
          go true g = absurd (let z : 0 ≡ u + 1 = sym (home_is j h ∙ home_head j g) ∙ q in omega arith)
          go false g =
              let r = home_inside j (sym (home_is j h ∙ home_plain j g) ∙ q) in
              (r.0, before (ℕ_discrete j e) r.1)
            where
              before : Dec (j ≡ e) → j ≤ e → j < e
              before (yes z) m = absurd (n (ap (λ i. get_or cs i 0) z ∙ c.2))
              before (no z) m = omega arith
