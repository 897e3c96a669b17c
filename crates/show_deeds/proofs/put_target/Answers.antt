use mathlib.Core.Path.{sym, ◌∙◌}
use Rattle.show_deeds.proofs.Laws as laws
use Rattle.show_deeds.proofs.put_target.Goals as goal

pub returns-then-is_compared : goal.returns-then-is_compared
returns-then-is_compared c = laws.target_compared c.args.t.now c.args.before.now c.args.after.now c.args.p c.args.a c.args.m _ (sym c.if-is_compared.true ∙ c.is_compared.ensures)

pub returns : goal.returns
returns c = laws.target-stored c.args.t.now c.args.before.now c.args.after.now c.args.p c.args.a c.args.m _ (sym c.if-is_compared.false ∙ c.is_compared.ensures) c.put_stored.ensures
