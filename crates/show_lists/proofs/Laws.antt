-- Laws of pens that write the words of a line and the numbers of commands: one byte or one number more, and none.
use Prim.Native.Nat.{ℕ, suc, ◌+◌, ◌-◌, ◌≤◌, ◌<◌, min}
use mathlib.Core.Path.{◌≡◌, refl, sym, ap, ◌∙◌}
use mathlib.Core.Bool.{Bool, true, false, not}
use mathlib.Core.List.{List, [], ◌∷◌, ◌++◌}
use native.Mathlib.Omega.{arith}
use native.Mathlib.Numerals.{add-one}
use lib.ListN.{length, get_or, drop, drop_of_length-le}
use lib.Seq.{drop-cons}
use lib.Dec.{eqb, ltb}
use borrow.Author.Tests.{eq-eqb, ne_eqb, ltb-true, ltb-false, not-true, not-false}
use Rattle.base_bytes.specs.Lists.{piece}
use Rattle.base_kinds.specs.Kinds.{bytes}
use Rattle.base_bytes.specs.Choice.{pick}
use Rattle.base_pens.specs.Pen.{Pen, write, puts}
use Rattle.base_pens.proofs.Pen.{puts-append}
use Rattle.spec_text.specs.Formats.{digits_of}
use Rattle.show_statuses.specs.declared.Status.TheVariants.{Fine, Wrong, Error}
use Rattle.show_lists.specs.declared.words.Place.{Place}
use Rattle.show_lists.specs.Words.{is_blank, behind, ends_word, ends_last, is_kept, added, added_last, words_from, end_from, is_passed}
use Rattle.std.specs.Prelude.{Option, Some, None}
use Rattle.show_lists.specs.Words.{without_return}
use Rattle.show_lists.specs.Tally.{more, is_expected, batch_status, each_of, kept_most, further_text, numbers_text, other_text, expected_text}

-- one more, at most as many as can be counted
pub more_least : (n r : ℕ) → n < 4294967296 → r ≡ min (n + 1) 4294967295 → r ≡ more n
unfolding more
more_least n r h e = by (ltb n 4294967295) refl
  where
    by : (b : Bool) → ltb n 4294967295 ≡ b → r ≡ pick b (n + 1) n
    by true q = let z : n < 4294967295 = ltb-true n 4294967295 q in omega (arith, e)
    by false q = let z : 4294967295 ≤ n = ltb-false n 4294967295 q in omega (arith, e)

-- what one byte adds
pub kept_put : (x : Place) (b : ℕ) (w y : Pen) → true ≡ is_kept x b → y ≡ write b w → y ≡ puts (added x b) w
unfolding puts
kept_put x b w y h e = rw (← h) e

pub ended-put : (x : Place) (b : ℕ) (w y : Pen) → false ≡ is_kept x b → true ≡ ends_word x b → y ≡ write 10 w → y ≡ puts (added x b) w
unfolding puts
ended-put x b w y h k e = rw (← h, ← k) e

pub nothing_put : (x : Place) (b : ℕ) (w : Pen) → false ≡ is_kept x b → false ≡ ends_word x b → w ≡ puts (added x b) w
unfolding puts
nothing_put x b w h k = rw (← h, ← k) refl

pub last-put : (x : Place) (w y : Pen) → true ≡ ends_last x → y ≡ write 10 w → y ≡ puts (added_last x) w
unfolding puts
last-put x w y h e = rw (← h) e

pub no_last : (x : Place) (w : Pen) → false ≡ ends_last x → w ≡ puts (added_last x) w
unfolding puts
no_last x w h = rw (← h) refl

-- the rest of the line, behind one byte more
pub words_more : (l : List ℕ) (k : ℕ) (x z : Place) (w y : Pen) (b : ℕ) → k < length l → b ≡ get_or l k 0 → y ≡ puts (added x b) w → z ≡ behind x b → puts (words_from x (drop k l)) w ≡ puts (words_from z (drop (k + 1) l)) y
unfolding words_from
words_more l k x z w y b h e g i = rw (drop-cons l k 0 h, add-one, ← e, puts-append, ← g, i)

pub words_end : (l : List ℕ) (k : ℕ) (x : Place) (w y : Pen) → length l ≤ k → y ≡ puts (added_last x) w → y ≡ puts (words_from x (drop k l)) w
unfolding words_from
words_end l k x w y h e = rw (drop_of_length-le l h) e

pub place-more : (l : List ℕ) (k : ℕ) (x z : Place) → k < length l → z ≡ behind x (get_or l k 0) → end_from z (drop (k + 1) l) ≡ end_from x (drop k l)
unfolding end_from
place-more l k x z h i = rw (drop-cons l k 0 h, add-one, i)

pub place_end : (l : List ℕ) (k : ℕ) (x : Place) → length l ≤ k → end_from x (drop k l) ≡ x
unfolding end_from
place_end l k x h = rw (drop_of_length-le l h)

pub passed-more : (l : List ℕ) (k : ℕ) → k < length l → true ≡ is_blank (get_or l k 0) → is_passed (drop (k + 1) l) ≡ is_passed (drop k l)
unfolding is_passed
passed-more l k h e = rw (drop-cons l k 0 h, add-one, ← e)

pub passed_there : (l : List ℕ) (k : ℕ) → k < length l → false ≡ is_blank (get_or l k 0) → eqb (get_or l k 0) 35 ≡ is_passed (drop k l)
unfolding is_passed
passed_there l k h e = rw (drop-cons l k 0 h, ← e)

pub passed_end : (l : List ℕ) (k : ℕ) → length l ≤ k → true ≡ is_passed (drop k l)
unfolding is_passed
passed_end l k h = rw (drop_of_length-le l h)

-- one number more
pub each_more : (l : List ℕ) (k m : ℕ) (w x y : Pen) (v : ℕ) → k < m → v ≡ get_or l k 0 → x ≡ write 32 w → y ≡ puts (digits_of v) x → puts (each_of l k (m - k)) w ≡ puts (each_of l (k + 1) (m - (k + 1))) y
unfolding each_of puts
each_more l k m w x y v h e f g = let q : m - k ≡ suc (m - (k + 1)) = omega arith in rw (q, g, f, e) (puts-append (digits_of (get_or l k 0)) (each_of l (k + 1) (m - (k + 1))) (write 32 w))

pub each_start : (l : List ℕ) (m : ℕ) (w : Pen) → puts (each_of l 0 (m - 0)) w ≡ puts (each_of l 0 m) w
each_start l m w = let q : m - 0 ≡ m = omega arith in rw q refl

pub each_end : (l : List ℕ) (k m : ℕ) (w : Pen) → m ≤ k → puts (each_of l k (m - k)) w ≡ w
unfolding each_of puts
each_end l k m w h = let q : m - k ≡ 0 = omega arith in rw q refl

-- ---- lines of a list's end: nothing, or what is told
pub no_further : (n : ℕ) (w : Pen) → n ≡ 0 → w ≡ puts (further_text n) w
unfolding puts
no_further n w e = rw (eq-eqb n 0 e) refl

pub further-put : (n : ℕ) (w x : Pen) → (n ≡ 0 → ⊥) → x ≡ puts (bytes " and " ++ (digits_of n ++ bytes " more")) w → x ≡ puts (further_text n) w
further-put n w x h e = rw (ne_eqb n 0 h) e

pub no_numbers : (word kept : List ℕ) (n : ℕ) (w : Pen) → n ≡ 0 → w ≡ puts (numbers_text word kept n) w
unfolding puts numbers_text
no_numbers word kept n w e = rw (eq-eqb n 0 e) refl

pub numbers-put : (word kept : List ℕ) (n m : ℕ) (w x : Pen) → (n ≡ 0 → ⊥) → m ≡ min n kept_most → x ≡ puts (word ++ (each_of kept 0 m ++ (further_text (n - m) ++ 10 ∷ []))) w → x ≡ puts (numbers_text word kept n) w
unfolding numbers_text
numbers-put word kept n m w x h f e = rw (ne_eqb n 0 h, ← f) e

pub no_other : (n k : ℕ) (w : Pen) → n ≡ k → w ≡ puts (other_text n k) w
unfolding puts
no_other n k w e = rw (eq-eqb n k e) refl

pub other_put : (n k : ℕ) (w x : Pen) → (n ≡ k → ⊥) → x ≡ puts (bytes "  " ++ (digits_of n ++ (bytes " commands were worked off, and " ++ (digits_of k ++ bytes " were expected\n")))) w → x ≡ puts (other_text n k) w
other_put n k w x h e = rw (ne_eqb n k h) e

pub empty-put : (y : Option ℕ) (n : ℕ) (w x : Pen) → n ≡ 0 → x ≡ puts (bytes "  the list holds no command\n") w → x ≡ puts (expected_text y n) w
unfolding expected_text
empty-put y n w x h e = rw (eq-eqb n 0 h) e

pub any-put : (y : Option ℕ) (n : ℕ) (w : Pen) → (n ≡ 0 → ⊥) → y ≡ None → w ≡ puts (expected_text y n) w
unfolding puts expected_text
any-put y n w h e = rw (ne_eqb n 0 h, e) refl

pub exactly_put : (y : Option ℕ) (n k : ℕ) (w x : Pen) → (n ≡ 0 → ⊥) → y ≡ Some k → x ≡ puts (other_text n k) w → x ≡ puts (expected_text y n) w
unfolding expected_text
exactly_put y n k w x h e f = rw (ne_eqb n 0 h, e) f

-- ---- a line without its carriage return
pub return_cut : (l p : List ℕ) (n b : ℕ) → n ≡ length l - 1 → b ≡ get_or l n 0 → b ≡ 13 → p ≡ piece l 0 n → p ≡ without_return l
return_cut l p n b e f g h =
    let r : eqb (get_or l (length l - 1) 0) 13 ≡ true = eq-eqb _ _ (ap (λ i. get_or l i 0) (sym e) ∙ sym f ∙ g) in
    let z : min 0 (min n (length l)) ≡ 0 = omega arith in
    let d : min n (length l) - 0 ≡ length l - 1 = omega (arith, e) in
    h ∙ rw (z, d, r) refl

pub return_kept : (l : List ℕ) (n b : ℕ) → n ≡ length l - 1 → b ≡ get_or l n 0 → (b ≡ 13 → ⊥) → l ≡ without_return l
return_kept l n b e f g =
    let r : eqb (get_or l (length l - 1) 0) 13 ≡ false = ne_eqb _ _ (λ z. g (f ∙ ap (λ i. get_or l i 0) e ∙ z)) in
    rw r refl

-- ---- the status of a list
pub unexpected_status : (y : Option ℕ) (n w e : ℕ) (b : Bool) → (n ≡ 0 → ⊥) → b ≡ is_expected y n → not b ≡ true → Error ≡ batch_status y n w e
unfolding batch_status
unexpected_status y n w e b h f g = rw (ne_eqb n 0 h, sym f ∙ not-true b g) refl

pub expected_status : (y : Option ℕ) (n w e : ℕ) (b : Bool) → (n ≡ 0 → ⊥) → b ≡ is_expected y n → not b ≡ false → pick (ltb 0 e) Error (pick (ltb 0 w) Wrong Fine) ≡ batch_status y n w e
unfolding batch_status
expected_status y n w e b h f g = rw (ne_eqb n 0 h, sym f ∙ not-false b g) refl
