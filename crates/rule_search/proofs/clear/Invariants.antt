use mathlib.Core.Path.{◌≡◌}
use Prim.Native.Nat.{◌-◌}
use Rattle.rule_sheets.specs.Walks.{filled}
use Rattle.rule_search.proofs.clear.Given as goal

abbrev pub invariant-loop-w : goal.invariant-loop-w
invariant-loop-w l = filled (λ l' v. l.n) l.w (l.n - l.w) l.chain ≡ filled (λ l' v. l.n) 0 l.n l.initial.chain
