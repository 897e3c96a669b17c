use Rattle.base_ceilings.specs.Ceilings.{fields_most}
use Rattle.step_messages.specs.Messages.{delivered}
use mathlib.Core.Path.{◌≡◌}
use Prim.Native.Nat.{◌-◌}
use Rattle.step_messages.proofs.deliver.Given as goal

abbrev pub invariant-loop-k : goal.invariant-loop-k
invariant-loop-k l = (delivered l.t (fields_most - l.k) l.j l.k l.places l.values l.s ≡ delivered l.t fields_most l.a 0 l.places l.values l.initial.s)
