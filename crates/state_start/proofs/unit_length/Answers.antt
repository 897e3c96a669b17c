use Rattle.base_ceilings.specs.Ceilings.{items_most}
use Rattle.state_start.proofs.Laws.{length_some}
use mathlib.Core.Path.{ap, ◌∙◌}
use native.Mathlib.Omega.{arith}
use Prim.Native.Nat.{min}
use Rattle.state_start.proofs.unit_length.Goals as goal

pub returns : goal.returns
returns c = record { value = length_some c.args.t.now c.args.u c.link-e.ensures.value (c.least.ensures ∙ ap (min items_most) c.saturating_sub.ensures); upper_bound = (omega (arith, c.least.ensures), omega (arith, c.least.ensures, c.saturating_sub.ensures, c.link-e.ensures.upper_bound)) }
