use Prim.Native.Nat.{◌-◌}
use mathlib.Core.Path.{◌≡◌}
use Rattle.state_types.specs.Fits.{every, element_fits}
use Rattle.state_types.proofs.variable_fits.Given as goal

abbrev pub invariant-loop-k : goal.invariant-loop-k
invariant-loop-k l = every (element_fits l.s l.l l.p) l.k (l.n - l.k) ≡ every (element_fits l.s l.l l.p) 0 l.n
