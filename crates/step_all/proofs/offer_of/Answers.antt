use mathlib.Core.Path.{sym, ap}
use Rattle.step_all.specs.Moving.{offer_of}
use Rattle.step_all.proofs.offer_of.Goals as goal

pub returns-in-Found : goal.returns-in-Found
returns-in-Found c = sym (ap (offer_of c.args.p c.args.k) c.in-Found.is)

pub returns-in-Left : goal.returns-in-Left
returns-in-Left c = sym (ap (offer_of c.args.p c.args.k) c.in-Left.is)
