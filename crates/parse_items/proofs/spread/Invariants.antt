use Rattle.parse_machine.specs.Machine.{symbol_of, place_of, count_of_lem}
use lib.ListN.{take, drop}
use mathlib.Core.List.{map, ◌++◌}
use mathlib.Core.Path.{◌≡◌}
use Rattle.parse_items.proofs.spread.Given as goal

abbrev pub invariant-loop-i : goal.invariant-loop-i
invariant-loop-i l = (l.codes ≡ map symbol_of (take l.i l.work) ++ drop l.i l.initial.codes) × (l.tokens ≡ map place_of (take l.i l.work) ++ drop l.i l.initial.tokens) × (l.sizes ≡ map count_of_lem (take l.i l.work) ++ drop l.i l.initial.sizes)
