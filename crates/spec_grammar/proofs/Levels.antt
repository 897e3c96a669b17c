-- The binding levels: what is past the operators has none, and no operator binds tighter than level 10.
use mathlib.Core.Path.{◌≡◌}
use mathlib.Core.Bool.{Bool, true, false, cond}
use Prim.Native.Nat.{ℕ, zero, suc, ◌<◌, ◌≤◌}
use native.Mathlib.Omega.{arith}
use native.Mathlib.Decide.{dec_lt}
use lib.Dec.{T, leb, leb→le}
use borrow.Author.Tests.{le-ltb}
use Rattle.base_kinds.specs.Kinds.{level}

-- what is past the operators has no level
pub level_big : (o : ℕ) → 19 ≤ o → level o ≡ 0
level_big o h =
    rw (
      le-ltb o 1 (omega arith),
      le-ltb o 2 (omega arith),
      le-ltb o 3 (omega arith),
      le-ltb o 4 (omega arith),
      le-ltb o 5 (omega arith),
      le-ltb o 6 (omega arith),
      le-ltb o 8 (omega arith),
      le-ltb o 12 (omega arith),
      le-ltb o 14 (omega arith),
      le-ltb o 16 (omega arith),
      le-ltb o 19 (omega arith),
    )

pub operator_small : (o l : ℕ) → level o ≡ suc l → o < 19
operator_small o l e = go (dec_lt o 19)
  where
    go : Dec (o < 19) → o < 19
    go (yes h) = h
    go (no h) = absurd (omega (arith, e, level_big o (omega arith)))

-- a test that passes at each number below n
abbrev every : ℕ → (ℕ → Bool) → Bool
every zero f = true
every (suc n) f = cond (f n) (every n f) false

cond_both : (x y : Bool) → T (cond x y false) → T x × T y
cond_both true y t = (tt, t)
cond_both false y t = absurd t

every_out : (n : ℕ) (f : ℕ → Bool) → T (every n f) → (i : ℕ) → i < n → T (f i)
every_out zero f t i h = absurd (omega arith)
every_out (suc n) f t i h = go (dec_lt i n) (every_out n f (cond_both (f n) (every n f) t).1 i)
  where
    go : Dec (i < n) → (i < n → T (f i)) → T (f i)
    go (yes l) r = r l
    go (no l) r = let e : n ≡ i = omega arith in rw e at (cond_both (f n) (every n f) t).0

pub level_top : (o l : ℕ) → level o ≡ suc l → suc l ≤ 10
level_top o l e = omega (arith, e, leb→le (level o) 10 (every_out 19 (λ i. leb (level i) 10) tt o (operator_small o l e)))
