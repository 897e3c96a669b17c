-- Writing a list byte by byte, and a number digit by digit.
use Prim.Native.Nat.{ℕ, zero, suc, ◌+◌, ◌/◌, ◌%◌, ◌≤◌, ◌<◌}
use mathlib.Core.Path.{◌≡◌, refl, ◌∙◌}
use mathlib.Core.List.{List, [], ◌∷◌}
use native.Mathlib.Omega.{arith}
use native.Mathlib.Numerals.{add-one}
use lib.ListN.{length, get_or, drop, drop_of_length-le}
use lib.Seq.{drop-cons}
use borrow.Author.Tests.{lt-ltb, le-ltb}
use Rattle.base_pens.specs.Pen.{Pen, write, puts}
use Rattle.base_pens.proofs.Pen.{puts-append}
use Rattle.spec_text.specs.Formats.{digits_by}

-- byte v of a list goes to a pen that is w before it and x behind it
pub puts-more : (s : List ℕ) (k v : ℕ) (w x : Pen) → k < length s → v ≡ get_or s k 0 → x ≡ write v w → puts (drop (k + 1) s) x ≡ puts (drop k s) w
unfolding puts
puts-more s k v w x h e q = rw (add-one, q, e, drop-cons s k 0 h)

pub puts_end : (s : List ℕ) (k : ℕ) (w : Pen) → length s ≤ k → puts (drop k s) w ≡ w
unfolding puts
puts_end s k w h = rw (drop_of_length-le s {i = k} h)

pub digits-none : (f n : ℕ) (w : Pen) → f ≡ 0 → puts (digits_by f n) w ≡ w
unfolding digits_by puts
digits-none f n w e = rw e

pub digits_last : (f n : ℕ) (w x : Pen) (v : ℕ) → (f ≡ 0 → ⊥) → n < 10 → v ≡ 48 + n % 10 → x ≡ write v w → x ≡ puts (digits_by f n) w
unfolding digits_by puts
digits_last zero n w x v h l e q = absurd (h refl)
digits_last (suc f) n w x v h l e q = let z : n % 10 ≡ n = omega arith in rw (lt-ltb n 10 l) (q ∙ rw (e, z))

pub digits_more : (f g n : ℕ) (w x y : Pen) (v : ℕ) → f ≡ g + 1 → 10 ≤ n → v ≡ 48 + n % 10 → x ≡ puts (digits_by g (n / 10)) w → y ≡ write v x → y ≡ puts (digits_by f n) w
unfolding digits_by puts
digits_more f g n w x y v h l e p q =
    let z : f ≡ suc g = omega arith in
    rw (z, le-ltb n 10 l, puts-append (digits_by g (n / 10)) ((48 + n % 10) ∷ []) w, ← p, ← e) q
