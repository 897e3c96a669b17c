-- Tests joined by `both` and `either` or chosen by `pick`, from their parts and back.
use mathlib.Core.Path.{◌≡◌, refl, sym}
use mathlib.Core.Bool.{Bool, true, false, ◌&&◌}
use mathlib.Core.Logic.{◌⊎◌, inl, inr}
use Prim.Native.Nat.{ℕ}
use native.Mathlib.Omega.{arith}
use Rattle.base_bytes.specs.Choice.{pick, both, either}

pub true_false : true ≡ false → ⊥
true_false e = let z : ◌≡◌ {A = ℕ} 0 1 = cc in omega arith

pub both_true : (a b : Bool) → both a b ≡ true → (a ≡ true) × (b ≡ true)
both_true true b e = (refl, e)
both_true false b e = (e, absurd (true_false (cc)))

pub both_and : (a b : Bool) → (a && b) ≡ both a b
both_and true b = refl
both_and false b = refl

pub both_no : (a : Bool) {b : Bool} → b ≡ false → both a b ≡ false
both_no true e = e
both_no false e = refl

pub either_true : (a b : Bool) → either a b ≡ true → (a ≡ true) ⊎ (b ≡ true)
either_true true b e = inl refl
either_true false b e = inr e

pub either_false : (a b : Bool) → either a b ≡ false → (a ≡ false) × (b ≡ false)
either_false true b e = absurd (true_false e)
either_false false b e = (refl, e)

pub both_left : (a b : Bool) → both a b ≡ true → a ≡ true
both_left true b e = refl
both_left false b e = e

pub both_hold : (a b : Bool) → a ≡ true → b ≡ true → both a b ≡ true
both_hold true b e f = f
both_hold false b e f = e

pub left-holds : (a b : Bool) → a ≡ true → either a b ≡ true
left-holds true b e = refl
left-holds false b e = absurd (true_false (sym e))

pub right-holds : (a b : Bool) → b ≡ true → either a b ≡ true
right-holds true b e = refl
right-holds false b e = e

pub either_no : (t : Bool) → either t false ≡ t
either_no true = refl
either_no false = refl

pub pick-says : (b c : Bool) → pick b c true ≡ true → b ≡ true → c ≡ true
pick-says true c e h = e
pick-says false c e h = absurd (true_false (sym h))
