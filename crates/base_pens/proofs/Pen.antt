-- Laws of the pen: one number, a list after a list, and what is there at the end if all fits or not.
use Prim.Native.Nat.{ℕ, suc, ◌+◌, ◌-◌, ◌≤◌, ◌<◌}
use mathlib.Core.Path.{◌≡◌, refl, sym, ◌∙◌, ap}
use mathlib.Core.List.{List, [], ◌∷◌, ◌++◌, append-nil}
use native.Mathlib.Omega.{arith}
use native.Mathlib.Numerals.{add-one}
use native.Mathlib.Nat.{add-zero, zero-add}
use lib.ListN.{length, get_or, set, take, drop, replicate, length-set, drop_of_length-le, take-append-drop}
use lib.Seq.{drop-cons, drop-length, set_out, sets, sets-eq, length-take-le}
use borrow.Author.Tests.{lt-ltb, le-ltb}
use Rattle.base_pens.specs.Pen.{Pen, pen, write, puts}

pub write_in : (l : List ℕ) (p v : ℕ) → p < length l → pen (set l p v) (p + 1) ≡ write v (pen l p)
unfolding write
write_in l p v h = sym (simp (lt-ltb _ _ h) refl)

pub write_out : (l : List ℕ) (p v : ℕ) → length l ≤ p → pen l (length l + 1) ≡ write v (pen l p)
unfolding write
write_out l p v h = sym (simp (le-ltb _ _ h, set_out l p v h))

pub puts-append : (xs ys : List ℕ) (w : Pen) → puts (xs ++ ys) w ≡ puts ys (puts xs w)
unfolding puts
puts-append [] ys w = refl
puts-append (x ∷ xs) ys w = puts-append xs ys (write x w)

-- ---- one pen behind the other
pub then_puts : (a b : List ℕ) (w x y : Pen) → x ≡ puts a w → y ≡ puts b x → y ≡ puts (a ++ b) w
then_puts a b w x y e f = f ∙ ap (puts b) e ∙ sym (puts-append a b w)

pub one-put : (b : ℕ) (w x : Pen) → x ≡ write b w → x ≡ puts (b ∷ []) w
unfolding puts
one-put b w x e = e

pub none-put : (w : Pen) → w ≡ puts [] w
unfolding puts
none-put w = refl

-- ---- one number n times
pub times_more : (n k mark : ℕ) (w x : Pen) → k < n → x ≡ write mark w → puts (replicate (n - (k + 1)) mark) x ≡ puts (replicate (n - k) mark) w
unfolding puts
times_more n k mark w x h e = let q : n - k ≡ suc (n - (k + 1)) = omega arith in rw q (ap (puts (replicate (n - (k + 1)) mark)) e)

pub times_end : (n k mark : ℕ) (w : Pen) → n ≤ k → puts (replicate (n - k) mark) w ≡ w
unfolding puts
times_end n k mark w h = let q : n - k ≡ 0 = omega arith in rw q refl

-- what fits is pasted; else the list is full and the pen stands past it
fits-sets : (vs l : List ℕ) (p : ℕ) → p + length vs ≤ length l → puts vs (pen l p) ≡ pen (sets l p vs) (p + length vs)
unfolding puts
fits-sets [] l p h = ap (pen l) (sym (add-zero p))
fits-sets (v ∷ vs) l p h =
    ap (puts vs) (sym (write_in l p v (omega arith)))
    ∙ rw add-one (fits-sets vs (set l p v) (suc p) (rw length-set (omega arith)))
    ∙ (let e : suc p + length vs ≡ p + suc (length vs) = omega arith in ap (pen (sets (set l p v) (suc p) vs)) e)

past : (vs l : List ℕ) → puts vs (pen l (length l + 1)) ≡ pen l (length l + 1)
unfolding puts
past [] l = refl
past (v ∷ vs) l = ap (puts vs) (sym (write_out l (length l + 1) v (omega arith))) ∙ past vs l

pub puts_fit : (vs l : List ℕ) → length vs ≤ length l → puts vs (pen l 0) ≡ pen (vs ++ drop (length vs) l) (length vs)
puts_fit vs l h = fits-sets vs l 0 (omega arith) ∙ rw (sets-eq vs l 0 (omega arith), zero-add)

over : (xs : List ℕ) (v : ℕ) (ys l d : List ℕ) → length xs ≡ length l → d ≡ [] → puts ys (write v (pen xs (length l))) ≡ pen (xs ++ d) (length l + 1)
over xs v ys l d e ed = rw (← e, ed, append-nil) (ap (puts ys) (sym (write_out xs (length xs) v (omega arith))) ∙ past ys xs)

pub puts-full : (vs l : List ℕ) → length l < length vs → puts vs (pen l 0) ≡ pen (take (length l) vs ++ drop (length vs) l) (length l + 1)
unfolding puts
puts-full vs l h =
    let n = length l in
    let t : length (take n vs) ≡ n = length-take-le n vs (omega arith) in
    ap (λ xs. puts xs (pen l 0)) (sym (take-append-drop n vs) ∙ ap (λ ys. take n vs ++ ys) (drop-cons vs n 0 h))
    ∙ puts-append (take n vs) (get_or vs n 0 ∷ drop (suc n) vs) (pen l 0)
    ∙ rw (puts_fit (take n vs) l (omega arith), t, drop-length l, append-nil)
    (over (take n vs) (get_or vs n 0) (drop (suc n) vs) l (drop (length vs) l) t (drop_of_length-le l {i = length vs} (omega arith)))

-- equal pens have equal lists and stand at equal places
pub list_of : {x y : Pen} → x ≡ y → x.list ≡ y.list
list_of e = ap (λ (w : Pen). w.list) e

pub at_of : {x y : Pen} → x ≡ y → x.at ≡ y.at
at_of e = ap (λ (w : Pen). w.at) e
