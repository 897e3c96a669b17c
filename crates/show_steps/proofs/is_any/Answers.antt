use mathlib.Core.List.{[]}
use Rattle.show_steps.proofs.Laws as laws
use Rattle.show_steps.specs.Steps.{listed_most}
use Rattle.step_all.specs.Moving.{machine_in}
use Rattle.spec_machine.specs.Machine.{offered}
use borrow.Author.Tests.{eq-eqb, ne_eqb}
use mathlib.Core.Path.{sym, ◌∙◌}
use native.Mathlib.Omega.{arith}
use Rattle.show_steps.proofs.is_any.Goals as goal

pub returns-then-x-process : goal.returns-then-x-process
returns-then-x-process c = sym (laws.any_there c.args.process _ _ _ (laws.listed_there c.loop-n.n (offered (machine_in c.args.t.now) c.args.s.now) listed_most _ c.loop-n-test.true (sym c.in-Step.is ∙ c.nth-o.ensures)) (eq-eqb _ _ c.if-x-process.true)) ∙ c.loop-n.invariant

pub returns-in-Beyond : goal.returns-in-Beyond
returns-in-Beyond c = sym (laws.any_end c.args.process _ [] (laws.listed_beyond c.loop-n.n (offered (machine_in c.args.t.now) c.args.s.now) listed_most _ (sym c.in-Beyond.is ∙ c.nth-o.ensures))) ∙ c.loop-n.invariant

pub loop-n-preserved : goal.loop-n-preserved
loop-n-preserved c = laws.any-more c.args.process _ _ _ (laws.listed_there c.loop-n.n (offered (machine_in c.args.t.now) c.args.s.now) listed_most _ c.loop-n-test.true (sym c.in-Step.is ∙ c.nth-o.ensures)) (ne_eqb _ _ c.if-x-process.false) ∙ c.loop-n.invariant

pub returns : goal.returns
returns c = sym (laws.any_end c.args.process _ [] (laws.listed_end c.loop-n.n (offered (machine_in c.args.t.now) c.args.s.now) listed_most (omega arith))) ∙ c.loop-n.invariant
