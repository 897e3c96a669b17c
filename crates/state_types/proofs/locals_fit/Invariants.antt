use Prim.Native.Nat.{◌-◌, ◌+◌}
use mathlib.Core.Path.{◌≡◌}
use Rattle.state_types.specs.Fits.{every, local_fits}
use Rattle.state_types.proofs.locals_fit.Given as goal

abbrev pub invariant-loop-k : goal.invariant-loop-k
invariant-loop-k l = every (λ i. local_fits l.t l.s l.p (l.u + i)) l.k (l.n - l.k) ≡ every (λ i. local_fits l.t l.s l.p (l.u + i)) 0 l.n
