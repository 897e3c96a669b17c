-- Places play no part in whether there is a fault.
use Prim.Native.Nat.{ℕ, zero, suc, ◌+◌}
use mathlib.Core.Path.{◌≡◌, refl}
use mathlib.Core.Bool.{Bool, true, false}
use mathlib.Core.List.{List}
use native.Mathlib.Omega.{arith}
use lib.ListN.{length}
use lib.Dec.{eqb, ltb}
use borrow.Author.Tests.{eqb-true}
use Rattle.base_bytes.specs.Choice.{pick}
use Rattle.rule_sheets.specs.Homes.{homes_of}
use Rattle.rule_sheets.specs.Spans.{starts_of, heights_of}
use Rattle.rule_item.specs.Rules.{bad}
use Rattle.rule_least.specs.Faults.{place, sooner, joined, least_from, least_of, blank, checked}
use Rattle.rule_least.specs.Least.{Free, done, more}
use Rattle.rule_least.specs.declared.Fault.{Fault}
use Rattle.rule_least.specs.declared.Fault.TheVariants.{None, At}

pub sooner-some : (p m : ℕ) (f : Fault) → sooner p m f ≡ None → ⊥
unfolding sooner
sooner-some p m None e = let z : ◌≡◌ {A = ℕ} 0 1 = cc in omega arith
sooner-some p m (At m2 p2) e = by (ltb p p2) (ltb p2 p) (ltb m2 m) e
  where
    by : (a b c : Bool) → pick a (At m p) (pick b (At m2 p2) (pick c (At m2 p2) (At m p))) ≡ None → ⊥
    by true b c e = let z : ◌≡◌ {A = ℕ} 0 1 = cc in omega arith
    by false true c e = let z : ◌≡◌ {A = ℕ} 0 1 = cc in omega arith
    by false false true e = let z : ◌≡◌ {A = ℕ} 0 1 = cc in omega arith
    by false false false e = let z : ◌≡◌ {A = ℕ} 0 1 = cc in omega arith

module _ (cs vs hs ss ts : List ℕ) where
  module _ (toks : List ℕ) where
    none_free : (j k : ℕ) → least_from cs vs hs ss ts toks j k ≡ None → Free cs vs hs ss ts j k
    unfolding least_from joined
    none_free j zero e = done
    none_free j (suc k) e = by (eqb (bad cs vs hs ss ts j) 0) refl (none_free (j + 1) k) e
      where
        by : (b : Bool) → eqb (bad cs vs hs ss ts j) 0 ≡ b
            → (least_from cs vs hs ss ts toks (j + 1) k ≡ None → Free cs vs hs ss ts (j + 1) k)
            → pick b (least_from cs vs hs ss ts toks (j + 1) k) (sooner (place cs vs hs ss ts toks j) (bad cs vs hs ss ts j) (least_from cs vs hs ss ts toks (j + 1) k)) ≡ None
            → Free cs vs hs ss ts j (suc k)
        by true q go e = more (eqb-true (bad cs vs hs ss ts j) 0 q) (go e)
        by false q go e = absurd (sooner-some (place cs vs hs ss ts toks j) (bad cs vs hs ss ts j) (least_from cs vs hs ss ts toks (j + 1) k) e)

    free_none : (j k : ℕ) → Free cs vs hs ss ts j k → least_from cs vs hs ss ts toks j k ≡ None
    unfolding least_from joined
    free_none j zero f = refl
    free_none j (suc k) (more e f) = rw e (free_none (j + 1) k f)

-- whether a model has a fault is a function of its items and what their tokens say: with other tokens at other places it has one just as well
pub places_free : (cs vs toks toks2 : List ℕ) → checked cs vs toks ≡ None → checked cs vs toks2 ≡ None
unfolding checked least_of
places_free cs vs toks toks2 e =
    free_none cs vs (homes_of cs blank) (starts_of cs blank) (heights_of cs (starts_of cs blank) blank) toks2 0 (length cs)
    (none_free cs vs (homes_of cs blank) (starts_of cs blank) (heights_of cs (starts_of cs blank) blank) toks 0 (length cs) e)
