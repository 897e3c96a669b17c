use native.Mathlib.Omega.{arith}
use Rattle.trail_replay.proofs.Laws as laws
use Rattle.trail_form.proofs.Scans as scans
use borrow.Author.Rules.{rules}
use Rattle.trail_replay.proofs.follow.Goals as goal

pub loop-i-init : goal.loop-i-init
loop-i-init c = (omega arith, laws.at_start c.args.t.now c.args.trail.now c.args.n c.args.claim c.args.s.now c.requires)

pub returns-then-failed-ne0 : goal.returns-then-failed-ne0
returns-then-failed-ne0 c = laws.behind_failure c.loop-i.invariant.1 (search rules) c.line_of-here.result.length (scans.line_is c.args.trail.now c.loop-i.at c.line_of-here.result.length c.line_of-here.ensures.length_value) c.line_of-here.result.record (scans.record_is c.args.trail.now c.loop-i.at c.line_of-here.result.length c.line_of-here.ensures.length_value c.line_of-here.ensures.record_value) c.in-Step.process c.in-Step.k c.in-Step.is c.if-failed-ne0.true

pub returns-then-x-eq3 : goal.returns-then-x-eq3
returns-then-x-eq3 c = laws.not_offered c.loop-i.invariant.1 (search rules) c.line_of-here.result.length (scans.line_is c.args.trail.now c.loop-i.at c.line_of-here.result.length c.line_of-here.ensures.length_value) c.line_of-here.result.record (scans.record_is c.args.trail.now c.loop-i.at c.line_of-here.result.length c.line_of-here.ensures.length_value c.line_of-here.ensures.record_value) c.in-Step.process c.in-Step.k c.in-Step.is c.if-failed-ne0.false c.take_recorded.ensures c.failure_of-x.ensures c.if-x-eq3.true

pub overflow_add-at : goal.overflow_add-at
overflow_add-at c = omega (arith, laws.line-within c.loop-i.invariant.1 (search rules) c.line_of-here.result.length (scans.line_is c.args.trail.now c.loop-i.at c.line_of-here.result.length c.line_of-here.ensures.length_value))

pub overflow_add-at-in-Step : goal.overflow_add-at-in-Step
overflow_add-at-in-Step c = omega (arith, laws.line-within c.loop-i.invariant.1 (search rules) c.line_of-here.result.length (scans.line_is c.args.trail.now c.loop-i.at c.line_of-here.result.length c.line_of-here.ensures.length_value))

pub loop-i-preserved : goal.loop-i-preserved
loop-i-preserved c = (omega (arith, laws.line-within c.loop-i.invariant.1 (search rules) c.line_of-here.result.length (scans.line_is c.args.trail.now c.loop-i.at c.line_of-here.result.length c.line_of-here.ensures.length_value)), laws.go_on c.loop-i.invariant.1 (search rules) c.line_of-here.result.length (scans.line_is c.args.trail.now c.loop-i.at c.line_of-here.result.length c.line_of-here.ensures.length_value) c.line_of-here.result.record (scans.record_is c.args.trail.now c.loop-i.at c.line_of-here.result.length c.line_of-here.ensures.length_value c.line_of-here.ensures.record_value) c.in-Step.process c.in-Step.k c.in-Step.is c.if-failed-ne0.false c.take_recorded.ensures c.failure_of-x.ensures c.if-x-eq3.false)

pub returns-in-Claim : goal.returns-in-Claim
returns-in-Claim c = absurd (laws.no_claim c.loop-i.invariant.1 (search rules) c.line_of-here.result.length (scans.line_is c.args.trail.now c.loop-i.at c.line_of-here.result.length c.line_of-here.ensures.length_value) c.line_of-here.result.record (scans.record_is c.args.trail.now c.loop-i.at c.line_of-here.result.length c.line_of-here.ensures.length_value c.line_of-here.ensures.record_value) c.in-Claim.field-0 c.in-Claim.is)

pub returns-in-Malformed : goal.returns-in-Malformed
returns-in-Malformed c = absurd (laws.no_malformed c.loop-i.invariant.1 (search rules) c.line_of-here.result.length (scans.line_is c.args.trail.now c.loop-i.at c.line_of-here.result.length c.line_of-here.ensures.length_value) c.line_of-here.result.record (scans.record_is c.args.trail.now c.loop-i.at c.line_of-here.result.length c.line_of-here.ensures.length_value c.line_of-here.ensures.record_value) c.in-Malformed.is)

pub returns : goal.returns
returns c = laws.at_end c.loop-i.invariant.1 (omega arith) c.reached.ensures c.judge.ensures
