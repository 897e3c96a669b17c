use Rattle.show_words.specs.Words.{message_in}
use mathlib.Core.Path.{sym, ◌∙◌}
use Rattle.show_state.proofs.Laws as laws
use Rattle.show_state.proofs.put_messages.Goals as goal

pub loop-m-init : goal.loop-m-init
loop-m-init c = laws.along-start (λ i. message_in c.args.s.now c.args.c i c.args.n) c.waiting_of-w.result _ _ c.waiting_of-w.ensures.value

pub loop-m-preserved : goal.loop-m-preserved
loop-m-preserved c = laws.along-more (λ i. message_in c.args.s.now c.args.c i c.args.n) c.loop-m.m c.waiting_of-w.result _ _ c.loop-m-test.true c.put_message-q.ensures ∙ c.loop-m.invariant

pub returns : goal.returns
returns c = sym (laws.along_end (λ i. message_in c.args.s.now c.args.c i c.args.n) c.loop-m.m c.waiting_of-w.result _ c.loop-m-test.false) ∙ c.loop-m.invariant
