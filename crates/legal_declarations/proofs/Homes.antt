-- Which body each item is in: nothing changes but at the head of a unit and at the end of a body.
use Prim.Native.Nat.{ℕ, zero, suc, ◌+◌, ◌-◌, ◌≤◌, ◌<◌}
use native.Mathlib.Omega.{arith}
use mathlib.Core.Path.{◌≡◌, refl, sym, ap, ◌∙◌, subst}
use mathlib.Core.Bool.{Bool, true, false}
use mathlib.Core.Logic.{◌⊎◌, inl, inr}
use mathlib.Core.List.{List}
use lib.ListN.{length, get_or, replicate, length-replicate}
use lib.Dec.{eqb}
use borrow.Author.Tests.{ne_eqb}
use Rattle.base_ceilings.specs.Ceilings.{items_most}
use Rattle.base_codes.specs.Codes.{c_end_body}
use Rattle.base_bytes.specs.Choice.{pick}
use Rattle.rule_sheets.specs.Homes.{inside_of, home_of, homes_of}
use Rattle.rule_sheets.proofs.Meaning.{home_at}
use Rattle.base_codes.specs.Sets.{is_unit}

module _ (cs : List ℕ) where
  inside-next : (j : ℕ) → inside_of cs (suc j) ≡ pick (is_unit (get_or cs j 0)) (j + 1) (pick (eqb (get_or cs j 0) c_end_body) 0 (inside_of cs j))
  unfolding inside_of
  inside-next j = refl

  pub inside-none : inside_of cs 0 ≡ 0
  unfolding inside_of
  inside-none = refl

  pub inside-head : (j : ℕ) → is_unit (get_or cs j 0) ≡ true → inside_of cs (suc j) ≡ suc j
  inside-head j e = inside-next j ∙ rw e (let z : j + 1 ≡ suc j = omega arith in z)

  pub inside_end : (j : ℕ) → get_or cs j 0 ≡ c_end_body → inside_of cs (suc j) ≡ 0
  inside_end j e = inside-next j ∙ rw e

  inside-step : (j : ℕ) → is_unit (get_or cs j 0) ≡ false → (get_or cs j 0 ≡ c_end_body → ⊥) → inside_of cs (suc j) ≡ inside_of cs j
  inside-step j e n = inside-next j ∙ rw (e, ne_eqb (get_or cs j 0) c_end_body n)

  -- over items that neither begin a unit nor end a body
  inside_far : (n i : ℕ) → ((j : ℕ) → i ≤ j → j < i + n → (is_unit (get_or cs j 0) ≡ false) × (get_or cs j 0 ≡ c_end_body → ⊥)) → inside_of cs (i + n) ≡ inside_of cs i
  inside_far zero i h = ap (inside_of cs) (let z : i + 0 ≡ i = omega arith in z)
  inside_far (suc n) i h =
      let a = h (i + n) (omega arith) (omega arith) in
      ap (inside_of cs) (let z : i + suc n ≡ suc (i + n) = omega arith in z) ∙ inside-step (i + n) a.0 a.1 ∙ inside_far n i (λ j b c. h j b (omega arith))

  pub inside-over : (i e : ℕ) → i ≤ e → ((j : ℕ) → i ≤ j → j < e → (is_unit (get_or cs j 0) ≡ false) × (get_or cs j 0 ≡ c_end_body → ⊥)) → inside_of cs e ≡ inside_of cs i
  inside-over i e b h = ap (inside_of cs) (let z : e ≡ i + (e - i) = omega arith in z) ∙ inside_far (e - i) i (λ j c d. h j c (omega arith))

  inside_most : (j : ℕ) → inside_of cs j ≤ j
  inside_most zero = let a = inside-none in omega arith
  inside_most (suc j) = go (is_unit (get_or cs j 0)) (eqb (get_or cs j 0) c_end_body) (inside-next j) (inside_most j)
    where
      go : (a b : Bool) → inside_of cs (suc j) ≡ pick a (j + 1) (pick b 0 (inside_of cs j)) → inside_of cs j ≤ j → inside_of cs (suc j) ≤ suc j
      go true b e r = omega arith
      go false true e r = omega arith
      go false false e r = omega arith

  -- behind the end of a body nothing is in it
  inside-later : (n i : ℕ) → inside_of cs i ≡ 0 → (inside_of cs (i + n) ≡ 0) ⊎ (i < inside_of cs (i + n))
  inside-later zero i h = inl (ap (inside_of cs) (let z : i + 0 ≡ i = omega arith in z) ∙ h)
  inside-later (suc n) i h =
      subst (λ k. (inside_of cs k ≡ 0) ⊎ (i < inside_of cs k)) (let z : suc (i + n) ≡ i + suc n = omega arith in z)
      (go (is_unit (get_or cs (i + n) 0)) (eqb (get_or cs (i + n) 0) c_end_body) (inside-next (i + n)) (inside-later n i h))
    where
      go : (a b : Bool) → inside_of cs (suc (i + n)) ≡ pick a (i + n + 1) (pick b 0 (inside_of cs (i + n))) → (inside_of cs (i + n) ≡ 0) ⊎ (i < inside_of cs (i + n))
          → (inside_of cs (suc (i + n)) ≡ 0) ⊎ (i < inside_of cs (suc (i + n)))
      go true b e r = inr (omega arith)
      go false true e r = inl e
      go false false e (inl r) = inl (e ∙ r)
      go false false e (inr r) = inr (omega arith)

  home_plain : (j : ℕ) → is_unit (get_or cs j 0) ≡ false → home_of cs j ≡ inside_of cs j
  unfolding home_of
  home_plain j e = rw e

  home_head : (j : ℕ) → is_unit (get_or cs j 0) ≡ true → home_of cs j ≡ 0
  unfolding home_of
  home_head j e = rw e

  module _ (few : length cs ≤ items_most) where
    abbrev hs : List ℕ
    hs = homes_of cs (replicate items_most 0)

    home_is : (j : ℕ) → j < length cs → get_or hs j 0 ≡ home_of cs j
    home_is j h = home_at cs (replicate items_most 0) j h few (omega (arith, length-replicate {A = ℕ} items_most 0))

    pub home_inside : (j : ℕ) → j < length cs → is_unit (get_or cs j 0) ≡ false → get_or hs j 0 ≡ inside_of cs j
    home_inside j h e = home_is j h ∙ home_plain j e

    pub home_of_head : (j : ℕ) → j < length cs → is_unit (get_or cs j 0) ≡ true → get_or hs j 0 ≡ 0
    home_of_head j h e = home_is j h ∙ home_head j e

    pub home_most : (j : ℕ) → j < length cs → get_or hs j 0 ≤ j
    home_most j h = go (is_unit (get_or cs j 0)) refl
      where
        go : (b : Bool) → is_unit (get_or cs j 0) ≡ b → get_or hs j 0 ≤ j
        go true e = let a = home_of_head j h e in omega arith
        go false e = let a = home_inside j h e in let b = inside_most j in omega arith

    pub home_later : (i j : ℕ) → inside_of cs i ≡ 0 → i ≤ j → j < length cs → (get_or hs j 0 ≡ 0) ⊎ (i < get_or hs j 0)
    home_later i j e b h = go (is_unit (get_or cs j 0)) refl
      where
        go : (c : Bool) → is_unit (get_or cs j 0) ≡ c → (get_or hs j 0 ≡ 0) ⊎ (i < get_or hs j 0)
        go true q = inl (home_of_head j h q)
        go false q =
            subst (λ x. (x ≡ 0) ⊎ (i < x)) (ap (inside_of cs) (let z : i + (j - i) ≡ j = omega arith in z) ∙ sym (home_inside j h q)) (inside-later (j - i) i e)
