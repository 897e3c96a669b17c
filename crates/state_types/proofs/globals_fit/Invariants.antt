use Prim.Native.Nat.{◌-◌}
use mathlib.Core.Path.{◌≡◌}
use Rattle.state_types.specs.Fits.{every, global_fits}
use Rattle.state_types.proofs.globals_fit.Given as goal

abbrev pub invariant-loop-j : goal.invariant-loop-j
invariant-loop-j l = every (global_fits l.t l.s) l.j (l.n - l.j) ≡ every (global_fits l.t l.s) 0 l.n
