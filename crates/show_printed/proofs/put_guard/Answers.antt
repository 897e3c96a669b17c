use Rattle.base_bytes.specs.Choice.{both}
use mathlib.Core.Path.{◌∙◌, ap}
use Rattle.show_printed.proofs.Laws as laws
use Rattle.show_printed.proofs.put_guard.Goals as goal

pub returns : goal.returns
returns c = laws.guard-put c.args.fresh c.args.b _ _ _ _ (c.both.ensures ∙ ap (both c.args.fresh) c.is_front.ensures) c.put_margin-q.ensures c.put.ensures
