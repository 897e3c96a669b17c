use Rattle.trail_form.proofs.Laws as laws
use mathlib.Core.Path.{◌∙◌, sym}
use Rattle.text_pieces.proofs.Laws.{tail-part}
use Rattle.trail_form.proofs.record_of.Goals as goal

pub slice_bounds-step_of-count : goal.slice_bounds-step_of-count
slice_bounds-step_of-count c = laws.two_there c.args.x.now 83 (sym c.begins.ensures ∙ c.if-begins.true)

pub slice_bounds-step_of-start : goal.slice_bounds-step_of-start
slice_bounds-step_of-start c = laws.two_there c.args.x.now 83 (sym c.begins.ensures ∙ c.if-begins.true)

pub returns-then-begins : goal.returns-then-begins
returns-then-begins c = rw (← c.begins.ensures, c.if-begins.true) (rw (tail-part 2 c.args.x.now) at c.step_of.ensures)

pub slice_bounds-claim_of-count : goal.slice_bounds-claim_of-count
slice_bounds-claim_of-count c = laws.two_there c.args.x.now 86 (sym c.begins-2.ensures ∙ c.if-begins-2.true)

pub slice_bounds-claim_of-start : goal.slice_bounds-claim_of-start
slice_bounds-claim_of-start c = laws.two_there c.args.x.now 86 (sym c.begins-2.ensures ∙ c.if-begins-2.true)

pub returns-then-begins-2 : goal.returns-then-begins-2
returns-then-begins-2 c = rw (← c.begins.ensures, c.if-begins.false, ← c.begins-2.ensures, c.if-begins-2.true) (rw (tail-part 2 c.args.x.now) at c.claim_of.ensures)

pub returns : goal.returns
returns c = rw (← c.begins.ensures, c.if-begins.false, ← c.begins-2.ensures, c.if-begins-2.false)
