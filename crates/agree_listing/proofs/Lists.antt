-- WHAT IS SAID ALONG ITEMS is what is said of the sites among them, where all other items say nothing (`along_sites`); and numbers read one by one are the list that has them.
use Prim.Native.Nat.{ℕ, zero, suc, ◌+◌, ◌-◌, ◌<◌, ◌≤◌}
use native.Mathlib.Omega.{arith}
use mathlib.Core.Path.{◌≡◌, refl, sym as inv, ap, ap₂, ◌∙◌}
use mathlib.Core.Logic.{◌⊎◌, inl, inr}
use mathlib.Core.List.{List, [], ◌∷◌, ◌++◌, map, append_assoc}
use lib.ListN.{length, get_or}
use lib.IntN.{ℤ, pos}
use Rattle.spec_account.specs.States.{values_text, message_text, messages_text, variables_text}
use Rattle.state_layout.specs.Layout.{cell_of, field_of}
use Rattle.step_eval.specs.Variables.{slot_of}
use Rattle.agree_states.specs.Sites.{Site, no_site}
use Rattle.agree_states.proofs.Sites.{var_of}
use Rattle.agree_states.proofs.Seen.{Tells}
use Rattle.show_words.specs.Words.{fields_in}
use Rattle.show_state.specs.Listing.{along, numbers_from}
use Rattle.agree_listing.proofs.Sites.{Listed}

-- ---- along numbers
module _ (f : ℕ → List ℕ) where
  along-none : (i n : ℕ) → ((k : ℕ) → k < n → f (i + k) ≡ []) → along f i n ≡ []
  unfolding along
  along-none i zero h = refl
  along-none i (suc n) h =
      ap₂ (λ (x y : List ℕ). x ++ y) (ap f (let z : i ≡ i + 0 = omega arith in z) ∙ h 0 (omega arith))
      (along-none (i + 1) n (λ k g. ap f (let z : i + 1 + k ≡ i + suc k = omega arith in z) ∙ h (suc k) (omega arith)))

  along-both : (i n k : ℕ) → along f i (n + k) ≡ along f i n ++ along f (i + n) k
  unfolding along
  along-both i zero k = ap₂ (along f) (let z : i ≡ i + 0 = omega arith in z) (let z : 0 + k ≡ k = omega arith in z)
  along-both i (suc n) k =
      ap (along f i) (let z : suc n + k ≡ suc (n + k) = omega arith in z)
      ∙ ap (λ (x : List ℕ). f i ++ x) (along-both (i + 1) n k ∙ ap (λ j. along f (i + 1) n ++ along f j k) (let z : i + 1 + n ≡ i + suc n = omega arith in z))
      ∙ inv (append_assoc (f i) (along f (i + 1) n) (along f (i + suc n) k))

  along-first : (i n : ℕ) → along f i (suc n) ≡ f i ++ along f (i + 1) n
  unfolding along
  along-first i n = refl

  pub along_shift : (u i n : ℕ) → along (λ k. f (u + k)) i n ≡ along f (u + i) n
  unfolding along
  along_shift u i zero = refl
  along_shift u i (suc n) = ap (λ (x : List ℕ). f (u + i) ++ x) (along_shift u (i + 1) n ∙ ap (λ j. along f j n) (let z : u + (i + 1) ≡ u + i + 1 = omega arith in z))

  -- ---- along the items of sites
  abbrev pub gathered : List Site → List ℕ
  gathered [] = []
  gathered (x ∷ l) = f x.item ++ gathered l

  module _ (T : List ℕ) where
    listed-least : (l : List Site) (lo hi : ℕ) → Listed T l lo hi → (i : ℕ) → i < length l → lo ≤ (get_or l i no_site).item
    listed-least [] lo hi s i h = absurd (omega arith)
    listed-least (x ∷ l) lo hi s zero h = s.0
    listed-least (x ∷ l) lo hi s (suc i) h = let r = listed-least l (suc x.item) hi s.2 i (omega arith) in let a = s.0 in omega arith

    -- what is none of the first site is of a later one
    later : (x : Site) (l : List Site) (j : ℕ) → (x.item ≡ j → ⊥) → Tells (x ∷ l) j → Tells l j
    later x l j n s = go s.site s.here s.is
      where
        go : (i : ℕ) → i < suc (length l) → (get_or (x ∷ l) i no_site).item ≡ j → Tells l j
        go zero h e = absurd (n e)
        go (suc i) h e = record { site = i; here = omega arith; is = e }

    nowhere : (j : ℕ) → Tells [] j → ⊥
    nowhere j s = let h = s.here in omega arith

    pub along_sites : (l : List Site) (lo n top : ℕ) → Listed T l lo top → ((i : ℕ) → i < length l → (get_or l i no_site).item < lo + n)
        → ((j : ℕ) → lo ≤ j → j < lo + n → Tells l j ⊎ (f j ≡ [])) → along f lo n ≡ gathered l
    along_sites [] lo n top s b c = along-none lo n (λ k h. go (lo + k) (c (lo + k) (omega arith) (omega arith)))
      where
        go : (j : ℕ) → Tells [] j ⊎ (f j ≡ []) → f j ≡ []
        go j (inl w) = absurd (nowhere j w)
        go j (inr e) = e
    along_sites (x ∷ l) lo n top s b c =
        let a = s.0 in
        let h = b 0 (omega arith) in
        let d = x.item - lo in
        let r = n - (x.item - lo) - 1 in
        let e : n ≡ (x.item - lo) + suc (n - (x.item - lo) - 1) = omega arith in
        let q : lo + (x.item - lo) ≡ x.item = omega arith in
        let p : lo + (x.item - lo) + 1 ≡ suc x.item = omega arith in
        ap (along f lo) e ∙ along-both lo d (suc r) ∙ ap (λ (y : List ℕ). y ++ along f (lo + d) (suc r)) (along-none lo d (λ k g. before (lo + k) (omega arith) (c (lo + k) (omega arith) (omega arith))))
        ∙ along-first (lo + d) r ∙ ap₂ (λ i j. f i ++ along f j r) q p
        ∙ ap (λ (y : List ℕ). f x.item ++ y)
        (along_sites l (suc x.item) r top s.2 (λ i g. let z = b (suc i) (omega arith) in omega arith) (λ j g k. behind j (omega arith) (c j (omega arith) (omega arith))))
      where
        before : (j : ℕ) → j < x.item → Tells (x ∷ l) j ⊎ (f j ≡ []) → f j ≡ []
        before j g (inl w) =
            let v = later x l j (λ z. omega arith) w in
            let y = listed-least l (suc x.item) top s.2 v.site v.here in
            let u = v.is in
            absurd (omega arith)
        before j g (inr e) = e

        behind : (j : ℕ) → x.item < j → Tells (x ∷ l) j ⊎ (f j ≡ []) → Tells l j ⊎ (f j ≡ [])
        behind j g (inl w) = inl (later x l j (λ z. omega arith) w)
        behind j g (inr e) = inr e

-- ---- variables
-- one behind the other
chain : (a b c r : List ℕ) → (a ++ (b ++ (c ++ 10 ∷ []))) ++ r ≡ a ++ (b ++ (c ++ 10 ∷ r))
chain a b c r =
    append_assoc a (b ++ (c ++ 10 ∷ [])) r
    ∙ ap (λ (x : List ℕ). a ++ x) (append_assoc b (c ++ 10 ∷ []) r ∙ ap (λ (x : List ℕ). b ++ x) (append_assoc c (10 ∷ []) r))

pub gathered-variables : (f : ℕ → List ℕ) (word : List ℕ) (l : List Site) (vs : List (List ℤ)) → length vs ≡ length l
    → ((i : ℕ) → i < length l → f (get_or l i no_site).item ≡ word ++ ((get_or l i no_site).var.name ++ (values_text (get_or vs i []) ++ 10 ∷ []))) → gathered f l ≡ variables_text word (map var_of l) vs
unfolding variables_text
gathered-variables f word [] vs e h = refl
gathered-variables f word (x ∷ l) [] e h = absurd (omega arith)
gathered-variables f word (x ∷ l) (v ∷ vs) e h =
    ap₂ (λ (x y : List ℕ). x ++ y) (h 0 (omega arith)) (gathered-variables f word l vs (omega arith) (λ i g. h (suc i) (omega arith))) ∙ chain word x.var.name (values_text v) (variables_text word (map var_of l) vs)

-- ---- numbers one by one
pub numbers_are : (s : List ℤ) (l p k n : ℕ) (v : List ℤ) → length v ≡ n → ((j : ℕ) → j < n → cell_of s (slot_of l p (k + j)) ≡ get_or v j (pos 0)) → numbers_from s l p k n ≡ v
unfolding numbers_from
numbers_are s l p k zero [] e h = refl
numbers_are s l p k zero (x ∷ v) e h = absurd (omega arith)
numbers_are s l p k (suc n) [] e h = absurd (omega arith)
numbers_are s l p k (suc n) (x ∷ v) e h =
    ap₂ (λ (a : ℤ) (y : List ℤ). a ∷ y) (ap (λ i. cell_of s (slot_of l p i)) (let z : k ≡ k + 0 = omega arith in z) ∙ h 0 (omega arith))
    (numbers_are s l p (k + 1) n v (omega arith) (λ j g. ap (λ i. cell_of s (slot_of l p i)) (let z : k + 1 + j ≡ k + suc j = omega arith in z) ∙ h (suc j) (omega arith)))

pub fields_are : (s : List ℤ) (c m f n : ℕ) (v : List ℤ) → length v ≡ n → ((j : ℕ) → j < n → field_of s c m (f + j) ≡ get_or v j (pos 0)) → fields_in s c m f n ≡ v
unfolding fields_in
fields_are s c m f zero [] e h = refl
fields_are s c m f zero (x ∷ v) e h = absurd (omega arith)
fields_are s c m f (suc n) [] e h = absurd (omega arith)
fields_are s c m f (suc n) (x ∷ v) e h =
    ap₂ (λ (a : ℤ) (y : List ℤ). a ∷ y) (ap (field_of s c m) (let z : f ≡ f + 0 = omega arith in z) ∙ h 0 (omega arith))
    (fields_are s c m (f + 1) n v (omega arith) (λ j g. ap (field_of s c m) (let z : f + 1 + j ≡ f + suc j = omega arith in z) ∙ h (suc j) (omega arith)))

-- ---- messages
pub messages_are : (f : ℕ → List ℕ) (k : ℕ) (ls : List (List ℤ)) → ((i : ℕ) → i < length ls → f (k + i) ≡ message_text (get_or ls i [])) → along f k (length ls) ≡ messages_text ls
unfolding along messages_text
messages_are f k [] h = refl
messages_are f k (l ∷ ls) h =
    ap₂ (λ (x y : List ℕ). x ++ y) (ap f (let z : k ≡ k + 0 = omega arith in z) ∙ h 0 (omega arith))
    (messages_are f (k + 1) ls (λ i g. ap f (let z : k + 1 + i ≡ k + suc i = omega arith in z) ∙ h (suc i) (omega arith)))
