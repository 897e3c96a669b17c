use mathlib.Core.Path.{◌∙◌}
use native.Mathlib.Omega.{arith}
use Rattle.trail_form.proofs.Scans as scans
use borrow.Author.Rules.{rules}
use Rattle.trail_form.proofs.form.Goals as goal

pub returns-then-trail-gt-TRAIL_MOST : goal.returns-then-trail-gt-TRAIL_MOST
returns-then-trail-gt-TRAIL_MOST c = scans.no_room c.args.trail.now c.if-trail-gt-TRAIL_MOST.true

pub loop-at-init : goal.loop-at-init
loop-at-init c = scans.at_start c.args.trail.now

pub overflow_add-end : goal.overflow_add-end
overflow_add-end c = omega (arith, scans.within c.loop-at.invariant (search rules) c.line_of-here.result.length (scans.line_is c.args.trail.now c.loop-at.at c.line_of-here.result.length c.line_of-here.ensures.length_value))

pub returns-then-end-trail : goal.returns-then-end-trail
returns-then-end-trail c = scans.unended c.loop-at.invariant (search rules) c.line_of-here.result.length (scans.line_is c.args.trail.now c.loop-at.at c.line_of-here.result.length c.line_of-here.ensures.length_value) c.if-end-trail.true ∙ scans.in_room c.args.trail.now c.if-trail-gt-TRAIL_MOST.false

pub returns-in-Malformed : goal.returns-in-Malformed
returns-in-Malformed c = scans.malformed c.loop-at.invariant (search rules) c.line_of-here.result.length (scans.line_is c.args.trail.now c.loop-at.at c.line_of-here.result.length c.line_of-here.ensures.length_value) c.if-end-trail.false c.line_of-here.result.record (scans.record_is c.args.trail.now c.loop-at.at c.line_of-here.result.length c.line_of-here.ensures.length_value c.line_of-here.ensures.record_value) c.in-Malformed.is ∙ scans.in_room c.args.trail.now c.if-trail-gt-TRAIL_MOST.false

pub overflow_add-end-in-Claim : goal.overflow_add-end-in-Claim
overflow_add-end-in-Claim c = omega (arith, scans.within c.loop-at.invariant (search rules) c.line_of-here.result.length (scans.line_is c.args.trail.now c.loop-at.at c.line_of-here.result.length c.line_of-here.ensures.length_value))

pub returns-then-end-trail-2 : goal.returns-then-end-trail-2
returns-then-end-trail-2 c = scans.claimed c.loop-at.invariant (search rules) c.line_of-here.result.length (scans.line_is c.args.trail.now c.loop-at.at c.line_of-here.result.length c.line_of-here.ensures.length_value) c.if-end-trail.false c.line_of-here.result.record (scans.record_is c.args.trail.now c.loop-at.at c.line_of-here.result.length c.line_of-here.ensures.length_value c.line_of-here.ensures.record_value) c.in-Claim.v c.in-Claim.is c.if-end-trail-2.true ∙ scans.in_room c.args.trail.now c.if-trail-gt-TRAIL_MOST.false

pub returns-in-Claim : goal.returns-in-Claim
returns-in-Claim c = scans.more-behind c.loop-at.invariant (search rules) c.line_of-here.result.length (scans.line_is c.args.trail.now c.loop-at.at c.line_of-here.result.length c.line_of-here.ensures.length_value) c.if-end-trail.false c.line_of-here.result.record (scans.record_is c.args.trail.now c.loop-at.at c.line_of-here.result.length c.line_of-here.ensures.length_value c.line_of-here.ensures.record_value) c.in-Claim.v c.in-Claim.is c.if-end-trail-2.false ∙ scans.in_room c.args.trail.now c.if-trail-gt-TRAIL_MOST.false

pub returns-then-steps-eq-STEPS_MOST : goal.returns-then-steps-eq-STEPS_MOST
returns-then-steps-eq-STEPS_MOST c = scans.too_many c.loop-at.invariant (search rules) c.line_of-here.result.length (scans.line_is c.args.trail.now c.loop-at.at c.line_of-here.result.length c.line_of-here.ensures.length_value) c.if-end-trail.false c.line_of-here.result.record (scans.record_is c.args.trail.now c.loop-at.at c.line_of-here.result.length c.line_of-here.ensures.length_value c.line_of-here.ensures.record_value) c.in-Step.field-0 c.in-Step.field-1 c.in-Step.is c.if-steps-eq-STEPS_MOST.true ∙ scans.in_room c.args.trail.now c.if-trail-gt-TRAIL_MOST.false

pub overflow_add-at : goal.overflow_add-at
overflow_add-at c = omega (arith, scans.within c.loop-at.invariant (search rules) c.line_of-here.result.length (scans.line_is c.args.trail.now c.loop-at.at c.line_of-here.result.length c.line_of-here.ensures.length_value))

pub loop-at-preserved : goal.loop-at-preserved
loop-at-preserved c = scans.one_more_lem c.loop-at.invariant (search rules) c.line_of-here.result.length (scans.line_is c.args.trail.now c.loop-at.at c.line_of-here.result.length c.line_of-here.ensures.length_value) c.if-end-trail.false c.line_of-here.result.record (scans.record_is c.args.trail.now c.loop-at.at c.line_of-here.result.length c.line_of-here.ensures.length_value c.line_of-here.ensures.record_value) c.in-Step.field-0 c.in-Step.field-1 c.in-Step.is c.if-steps-eq-STEPS_MOST.false

pub returns : goal.returns
returns c = scans.no_line c.loop-at.invariant c.loop-at-test.false ∙ scans.in_room c.args.trail.now c.if-trail-gt-TRAIL_MOST.false
