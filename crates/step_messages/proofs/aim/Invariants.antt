use Rattle.base_ceilings.specs.Ceilings.{fields_most}
use Rattle.step_messages.specs.Messages.{aim_end, aim_list}
use mathlib.Core.Path.{◌≡◌}
use Prim.Native.Nat.{◌-◌}
use Rattle.step_messages.proofs.aim.Given as goal

abbrev pub invariant-loop-k : goal.invariant-loop-k
invariant-loop-k l = (aim_end l.t l.s l.p (fields_most - l.k) l.j ≡ aim_end l.t l.s l.p fields_most l.a) × (aim_list l.t l.s l.p (fields_most - l.k) l.j l.k l.places ≡ aim_list l.t l.s l.p fields_most l.a 0 l.initial.places)
