use Rattle.show_texts.specs.Statuses.{command_status}
use mathlib.Core.Path.{sym, ◌∙◌}
use Rattle.show_texts.proofs.perform_on.Goals as goal

pub returns-then-same : goal.returns-then-same
unfolding command_status
returns-then-same c = rw (sym c.same.ensures ∙ c.if-same.true) c.status_of.ensures

pub returns-then-same-2 : goal.returns-then-same-2
unfolding command_status
returns-then-same-2 c = rw (sym c.same.ensures ∙ c.if-same.false, sym c.same-2.ensures ∙ c.if-same-2.true) c.start.ensures

pub returns-then-same-3 : goal.returns-then-same-3
unfolding command_status
returns-then-same-3 c = rw (sym c.same.ensures ∙ c.if-same.false, sym c.same-2.ensures ∙ c.if-same-2.false, sym c.same-3.ensures ∙ c.if-same-3.true) c.run.ensures

pub returns-then-same-4 : goal.returns-then-same-4
unfolding command_status
returns-then-same-4 c = rw (sym c.same.ensures ∙ c.if-same.false, sym c.same-2.ensures ∙ c.if-same-2.false, sym c.same-3.ensures ∙ c.if-same-3.false, sym c.same-4.ensures ∙ c.if-same-4.true) c.replay.ensures

pub returns-then-same-5 : goal.returns-then-same-5
unfolding command_status
returns-then-same-5 c = rw (sym c.same.ensures ∙ c.if-same.false, sym c.same-2.ensures ∙ c.if-same-2.false, sym c.same-3.ensures ∙ c.if-same-3.false, sym c.same-4.ensures ∙ c.if-same-4.false, sym c.same-5.ensures ∙ c.if-same-5.true) c.steps.ensures

pub returns-then-same-6 : goal.returns-then-same-6
unfolding command_status
returns-then-same-6 c = rw (sym c.same.ensures ∙ c.if-same.false, sym c.same-2.ensures ∙ c.if-same-2.false, sym c.same-3.ensures ∙ c.if-same-3.false, sym c.same-4.ensures ∙ c.if-same-4.false, sym c.same-5.ensures ∙ c.if-same-5.false, sym c.same-6.ensures ∙ c.if-same-6.true) c.state.ensures

pub returns : goal.returns
unfolding command_status
returns c = rw (sym c.same.ensures ∙ c.if-same.false, sym c.same-2.ensures ∙ c.if-same-2.false, sym c.same-3.ensures ∙ c.if-same-3.false, sym c.same-4.ensures ∙ c.if-same-4.false, sym c.same-5.ensures ∙ c.if-same-5.false, sym c.same-6.ensures ∙ c.if-same-6.false) c.unknown.ensures
