use Rattle.step_offers.specs.Offers.{pick_at, offers_of}
use mathlib.Core.Path.{ap, ◌∙◌}
use Rattle.step_offers.proofs.offered.Goals as goal

pub returns : goal.returns
returns c = c.walk_item.ensures ∙ ap (λ q. pick_at c.args.k (offers_of c.args.t.now c.args.s.now c.args.p c.args.late q)) c.place_of.ensures.value
