-- The walk back over a selection: one item more, and the end.
use Prim.Native.Nat.{ℕ, suc}
use mathlib.Core.Path.{◌≡◌}
use mathlib.Core.Bool.{Bool, true, false}
use mathlib.Core.List.{List}
use Rattle.rule_item.specs.Rules.{depth_on, twin_at, twin}

module _ (cs : List ℕ) (k i d : ℕ) {b : Bool} (e : k ≡ suc i) (eb : b ≡ twin_at cs i d) where
  pub twin-here : b ≡ true → true ≡ twin cs k d
  unfolding twin
  twin-here h = rw (e, ← eb, h)

  pub twin-more : {r : ℕ} → b ≡ false → r ≡ depth_on cs i d → twin cs i r ≡ twin cs k d
  unfolding twin
  twin-more h er = rw (e, ← eb, h, er)

pub twin_end : (cs : List ℕ) (k d : ℕ) → k ≡ 0 → false ≡ twin cs k d
unfolding twin
twin_end cs k d e = rw e
