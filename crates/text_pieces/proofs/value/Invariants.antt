use Rattle.base_ceilings.specs.Ceilings.{number_most}
use Rattle.spec_text.specs.Digits.{decimal_from}
use lib.ListN.{drop}
use mathlib.Core.Path.{◌≡◌}
use Prim.Native.Nat.{◌≤◌, min, ◌+◌}
use Rattle.text_pieces.proofs.value.Given as goal

abbrev pub invariant-loop-b : goal.invariant-loop-b
invariant-loop-b l = (l.v ≤ number_most + 1) × (min (number_most + 1) (decimal_from l.v (drop l.b-index l.s)) ≡ min (number_most + 1) (decimal_from 0 l.s))
