use Prim.Native.Nat.{◌-◌}
use mathlib.Core.Path.{◌≡◌}
use Rattle.state_types.specs.Fits.{every}
use Rattle.state_check.specs.Standing.{process_sound}
use Rattle.state_check.proofs.processes_sound.Given as goal

abbrev pub invariant-loop-p : goal.invariant-loop-p
invariant-loop-p l = every (process_sound l.t l.s) l.p (l.n - l.p) ≡ every (process_sound l.t l.s) 0 l.n
