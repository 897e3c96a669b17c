use mathlib.Core.Path.{sym, ◌∙◌}
use Rattle.show_words.proofs.Laws as laws
use Rattle.show_words.proofs.put_fields.Goals as goal

pub returns-then-n-eq0 : goal.returns-then-n-eq0
returns-then-n-eq0 c = laws.fields-none c.args.s.now c.args.c c.args.m c.args.n _ c.if-n-eq0.true

pub loop-f-preserved : goal.loop-f-preserved
loop-f-preserved c = laws.fields-more c.args.s.now c.args.c c.args.m c.loop-f.f c.args.n _ _ _ _ c.loop-f-test.true c.field_of-in-loop-f.type_inv c.field_of-in-loop-f.ensures c.put-a.ensures c.put_value-q-in-loop-f.ensures ∙ c.loop-f.invariant

pub returns : goal.returns
returns c = sym (laws.fields_end c.args.s.now c.args.c c.args.m c.loop-f.f c.args.n _ c.loop-f-test.false) ∙ c.loop-f.invariant ∙ laws.fields-first c.args.s.now c.args.c c.args.m c.args.n _ _ _ c.if-n-eq0.false c.field_of.type_inv c.field_of.ensures c.put_value-q.ensures
