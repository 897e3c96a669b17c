use mathlib.Core.Path.{◌≡◌}
use Prim.Native.Nat.{◌-◌}
use lib.ListN.{length}
use Rattle.rule_least.specs.Faults as faults
use Rattle.rule_least.proofs.least_fault.Given as goal

abbrev pub invariant-loop-j : goal.invariant-loop-j
invariant-loop-j l = l.best ≡ faults.least_from l.codes l.args l.homes l.starts l.heights l.toks l.j (length l.codes - l.j)
