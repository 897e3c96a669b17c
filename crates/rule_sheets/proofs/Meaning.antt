-- What stands in the arrays. Bodies are as specs/Homes.antt says, and what tokens say is a function of spellings alone: no place of the text matters.
use Prim.Native.Nat.{ℕ, zero, suc, ◌+◌, ◌≤◌, ◌<◌, min}
use mathlib.Core.Path.{◌≡◌, refl, ◌∙◌, ap}
use mathlib.Core.Bool.{Bool, false}
use mathlib.Core.List.{List}
use native.Mathlib.Omega.{arith}
use lib.ListN.{length, get_or, set, length-set}
use lib.Seq.{get_or-set_same, get_or-set_other}
use lib.Dec.{eqb, ltb}
use borrow.Author.Tests.{le-ltb, lt-leb, eq-eqb, ne_eqb}
use native.Mathlib.Decide.{ℕ_discrete}
use Rattle.base_ceilings.specs.Ceilings.{items_most, number_most, text_most}
use Rattle.base_bytes.specs.Choice.{pick}
use Rattle.base_bytes.specs.Lists.{same}
use Rattle.spec_text.specs.Digits.{decimal}
use Rattle.rule_sheets.specs.Walks.{first, filled}
use Rattle.rule_sheets.specs.Payload.{word_of, same_name, first_same, name_arg, arg_of, args_of}
use Rattle.spec_text.specs.Formats.{format_of}
use Rattle.rule_sheets.specs.Homes.{home_of, homes_of}
use Rattle.base_codes.specs.Codes.{c_name, c_number, c_text, c_parameter, c_proctype}
use Rattle.base_codes.specs.Sets.{is_unit}

-- ## an array filled with what does not look at the array
module _ (f : ℕ → ℕ) where
  kept-before : (j k : ℕ) (l : List ℕ) (i : ℕ) → i < j → get_or (filled (λ m n. f n) j k l) i 0 ≡ get_or l i 0
  unfolding filled
  kept-before j zero l i h = refl
  kept-before j (suc k) l i h = kept-before (j + 1) k (set l j (f j)) i (omega arith) ∙ get_or-set_other l j i (f j) 0 (λ e. omega arith)

  pub filled_at : (j k : ℕ) (l : List ℕ) (i : ℕ) → j ≤ i → i < j + k → j + k ≤ length l → get_or (filled (λ m n. f n) j k l) i 0 ≡ f i
  unfolding filled
  filled_at j zero l i a b c = absurd (omega arith)
  filled_at j (suc k) l i a b c = by (ℕ_discrete i j)
      (λ h. filled_at (j + 1) k (set l j (f j)) i h (omega arith) (rw length-set (omega arith)))
    where
      by : Dec (i ≡ j) → (j + 1 ≤ i → get_or (filled (λ m n. f n) (j + 1) k (set l j (f j))) i 0 ≡ f i) → get_or (filled (λ m n. f n) (j + 1) k (set l j (f j))) i 0 ≡ f i
      by (yes e) go = kept-before (j + 1) k (set l j (f j)) i (omega arith) ∙ rw e (get_or-set_same l j (f j) 0 (omega arith))
      by (no n) go = go (omega arith)

-- each item's body
pub home_at : (cs l : List ℕ) (j : ℕ) → j < length cs → length cs ≤ items_most → length cs ≤ length l → get_or (homes_of cs l) j 0 ≡ home_of cs j
unfolding homes_of
home_at cs l j h a b = simp (le-ltb items_most (length cs) a) (filled_at (home_of cs) 0 (length cs) l j (omega arith) (omega arith) (omega arith))

-- ## what tokens say
first_alike : (p q : ℕ → Bool) → ((i : ℕ) → p i ≡ q i) → (i k : ℕ) → first p i k ≡ first q i k
unfolding first
first_alike p q h i zero = refl
first_alike p q h i (suc k) = rw (h i, first_alike p q h (i + 1) k)

filled-alike : (f g : ℕ → ℕ) → ((i : ℕ) → f i ≡ g i) → (j k : ℕ) (l : List ℕ) → filled (λ m n. f n) j k l ≡ filled (λ m n. g n) j k l
unfolding filled
filled-alike f g h j zero l = refl
filled-alike f g h j (suc k) l = rw (h j) (filled-alike f g h (j + 1) k (set l j (g j)))

-- two texts with the same items, whose names and strings are spelled alike and whose numbers have the same value, say the same at every item
module _ (cs t ss es ks t2 ss2 es2 ks2 : List ℕ) where
  pub record Alike : Type 0 where
    pub names : (j : ℕ) → get_or cs j 0 ≡ c_name → word_of t ss es cs ks j ≡ word_of t2 ss2 es2 cs ks2 j
    pub numbers : (j : ℕ) → get_or cs j 0 ≡ c_number → min (number_most + 1) (decimal (word_of t ss es cs ks j)) ≡ min (number_most + 1) (decimal (word_of t2 ss2 es2 cs ks2 j))
    pub strings : (j : ℕ) → get_or cs j 0 ≡ c_text → word_of t ss es cs ks j ≡ word_of t2 ss2 es2 cs ks2 j

  module _ (a : Alike) where
    same_alike : (j i : ℕ) → get_or cs j 0 ≡ c_name → same_name t ss es cs ks j i ≡ same_name t2 ss2 es2 cs ks2 j i
    unfolding same_name
    same_alike j i e = by (ℕ_discrete (get_or cs i 0) c_name)
      where
        by : Dec (get_or cs i 0 ≡ c_name)
            → pick (eqb (get_or cs i 0) c_name) (same (word_of t ss es cs ks i) (word_of t ss es cs ks j)) false ≡ pick (eqb (get_or cs i 0) c_name) (same (word_of t2 ss2 es2 cs ks2 i) (word_of t2 ss2 es2 cs ks2 j)) false
        by (yes h) = rw (a.names i h, a.names j e)
        by (no h) = rw (ne_eqb (get_or cs i 0) c_name h)

    name-alike : (j : ℕ) → get_or cs j 0 ≡ c_name → name_arg t ss es cs ks j ≡ name_arg t2 ss2 es2 cs ks2 j
    unfolding name_arg first_same
    name-alike j e = rw (a.names j e, first_alike (same_name t ss es cs ks j) (same_name t2 ss2 es2 cs ks2 j) (λ i. same_alike j i e) 0 j)

    pub arg_alike : (j : ℕ) → arg_of t ss es cs ks j ≡ arg_of t2 ss2 es2 cs ks2 j
    unfolding arg_of
    arg_alike j = by (ℕ_discrete (get_or cs j 0) c_name) (ℕ_discrete (get_or cs j 0) c_number) (ℕ_discrete (get_or cs j 0) c_text)
      where
        by : Dec (get_or cs j 0 ≡ c_name) → Dec (get_or cs j 0 ≡ c_number) → Dec (get_or cs j 0 ≡ c_text)
            → pick (eqb (get_or cs j 0) c_name) (name_arg t ss es cs ks j) (pick (eqb (get_or cs j 0) c_number) (min (number_most + 1) (decimal (word_of t ss es cs ks j))) (pick (eqb (get_or cs j 0) c_text) (format_of (word_of t ss es cs ks j)) 0))
            ≡ pick (eqb (get_or cs j 0) c_name) (name_arg t2 ss2 es2 cs ks2 j) (pick (eqb (get_or cs j 0) c_number) (min (number_most + 1) (decimal (word_of t2 ss2 es2 cs ks2 j))) (pick (eqb (get_or cs j 0) c_text) (format_of (word_of t2 ss2 es2 cs ks2 j)) 0))
        by (yes h) y z = rw (eq-eqb (get_or cs j 0) c_name h) (name-alike j h)
        by (no n) (yes h) z = rw (ne_eqb (get_or cs j 0) c_name n, eq-eqb (get_or cs j 0) c_number h) (a.numbers j h)
        by (no n) (no m) (yes h) = rw (ne_eqb (get_or cs j 0) c_name n, ne_eqb (get_or cs j 0) c_number m, eq-eqb (get_or cs j 0) c_text h) (ap format_of (a.strings j h))
        by (no n) (no m) (no k) = rw (ne_eqb (get_or cs j 0) c_name n, ne_eqb (get_or cs j 0) c_number m, ne_eqb (get_or cs j 0) c_text k)

    pub args-alike : (l : List ℕ) → length t ≤ text_most → length t2 ≤ text_most → args_of t ss es cs ks l ≡ args_of t2 ss2 es2 cs ks2 l
    unfolding args_of
    args-alike l h h2 =
        rw (le-ltb text_most (length t) h, le-ltb text_most (length t2) h2)
        (ap (λ m. pick (ltb items_most (length cs)) l m) (filled-alike (arg_of t ss es cs ks) (arg_of t2 ss2 es2 cs ks2) arg_alike 0 (length cs) l))

-- what heads no body
pub no_head : (c : ℕ) → c ≤ c_parameter → is_unit c ≡ false
no_head c h = rw (lt-leb c_proctype c (omega arith))
