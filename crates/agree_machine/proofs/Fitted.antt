-- A TEXT THAT FITS is written whole by the pen of crate `step_prints`, which stops at the end, where that of `base_pens` goes one past it.
use Prim.Native.Nat.{ℕ, suc, ◌+◌, ◌≤◌, ◌<◌}
use native.Mathlib.Omega.{arith}
use native.Mathlib.Numerals.{add-one}
use native.Mathlib.Nat.{add-zero, zero-add}
use mathlib.Core.Path.{◌≡◌, sym as inv, ◌∙◌, ap}
use mathlib.Core.List.{List, [], ◌∷◌, ◌++◌}
use lib.ListN.{length, set, drop, length-set}
use lib.Seq.{sets, sets-eq}
use borrow.Author.Tests.{lt-ltb}
use Rattle.base_bytes.specs.Choice.{pick}
use Rattle.step_prints.specs.Printing.{pen, put_p, puts}

put_in : (l : List ℕ) (p v : ℕ) → p < length l → put_p v (pen l p) ≡ pen (set l p v) (p + 1)
put_in l p v h = ap (λ b. pen (set l p v) (pick b (p + 1) p)) (lt-ltb p (length l) h)

fits-sets : (vs l : List ℕ) (p : ℕ) → p + length vs ≤ length l → puts vs (pen l p) ≡ pen (sets l p vs) (p + length vs)
unfolding puts
fits-sets [] l p h = ap (pen l) (inv (add-zero p))
fits-sets (v ∷ vs) l p h =
    ap (puts vs) (put_in l p v (omega arith))
    ∙ rw add-one (fits-sets vs (set l p v) (suc p) (rw length-set (omega arith)))
    ∙ (let e : suc p + length vs ≡ p + suc (length vs) = omega arith in ap (pen (sets (set l p v) (suc p) vs)) e)

pub text-fits : (vs l : List ℕ) → length vs ≤ length l → puts vs (pen l 0) ≡ pen (vs ++ drop (length vs) l) (length vs)
text-fits vs l h = fits-sets vs l 0 (omega arith) ∙ rw (sets-eq vs l 0 (omega arith), zero-add)
