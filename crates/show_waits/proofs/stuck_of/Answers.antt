use Prim.Native.Nat.{◌+◌}
use mathlib.Core.Path.{◌∙◌, ap}
use Rattle.base_ceilings.specs.Ceilings.{items_most, selections_most}
use Rattle.show_waits.specs.Waits.{stuck_from}
use Rattle.step_offers.specs.Offers.{pick_at}
use Rattle.show_waits.proofs.stuck_of.Goals as goal

pub returns : goal.returns
returns c = c.walk_item.ensures ∙ ap (λ q. pick_at 0 (stuck_from c.args.t.now c.args.s.now (selections_most + 1) q items_most)) c.place_of.ensures.value
