use Prim.Native.Nat.{◌-◌, ◌≤◌}
use mathlib.Core.Path.{◌≡◌}
use Rattle.base_ceilings.specs.Ceilings.{items_most, tokens_most}
use Rattle.parse_machine.specs.Machine.{run, machine, most_stack}
use Rattle.parse_items.specs.Views.{conf}
use Rattle.parse_items.proofs.run.Given as goal

abbrev pub invariant-loop : goal.invariant-loop
invariant-loop l = (l.s.sp ≤ most_stack) × (l.s.n ≤ items_most) × (l.s.pos ≤ tokens_most) × (machine l.kinds ≡ run l.kinds (81920 - l.counter) (conf l.stack l.out l.s))
