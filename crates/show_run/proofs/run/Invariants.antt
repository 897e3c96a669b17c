use Rattle.run_entry.proofs.Laws as laws
use Rattle.run_entry.specs.Runs.{run_in}
use Prim.Native.Nat.{◌-◌}
use mathlib.Core.Path.{◌≡◌}
use Rattle.show_run.proofs.run.Given as goal

abbrev pub invariant-loop-n : goal.invariant-loop-n
invariant-loop-n l = laws.behind l.n (run_in l.t (l.limit - l.n) l.s) ≡ run_in l.t l.limit l.initial.s
