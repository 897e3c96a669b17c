use Rattle.write_texts.proofs.Stack as laws
use mathlib.Core.Path.{refl, ◌∙◌}
use Rattle.write_texts.proofs.operate.Goals as goal

pub shape_of-stack : goal.shape_of-stack
shape_of-stack c = c.push.ensures.size ∙ c.push-d.ensures.size ∙ c.push-c.ensures.size ∙ c.push-b.ensures.size ∙ c.push-a.ensures.size

pub returns : goal.returns
returns c = laws.operate_is _ _ _ _ _ _ _ _ _ _ _ _ c.args.s c.args.o c.wide-l.result c.only.result c.wide.result c.only-2.result c.level.result _ c.level.ensures c.wide-l.ensures.value refl c.only.ensures c.wide.ensures.value c.only-2.ensures c.push-a.ensures c.push-b.ensures c.push-c.ensures c.push-d.ensures c.push.ensures
