use Rattle.rule_sheets.proofs.Fills as fills
use Rattle.rule_sheets.specs.Spans as spans
use Rattle.rule_sheets.proofs.Walks as laws
use lib.ListN.{length}
use mathlib.Core.Path.{◌∙◌}
use native.Mathlib.Omega.{arith}
use Rattle.rule_sheets.proofs.fill_starts.Goals as goal

pub returns-then-codes-gt-ITEMS_MOST : goal.returns-then-codes-gt-ITEMS_MOST
returns-then-codes-gt-ITEMS_MOST c = fills.starts_long c.args.codes.now c.args.starts.now (omega arith)

pub loop-j-init : goal.loop-j-init
loop-j-init c = fills.starts-start c.args.codes.now c.args.starts.now (omega arith)

pub loop-j-preserved : goal.loop-j-preserved
loop-j-preserved c = laws.filled_more (spans.start_of c.args.codes.now) c.loop-j.j (length c.args.codes.now) c.loop-j.starts c.start_of-v.result c.put.new.s (omega arith) c.start_of-v.ensures.value c.put.ensures ∙ c.loop-j.invariant

pub returns : goal.returns
returns c = laws.filled_end (spans.start_of c.args.codes.now) c.loop-j.j (length c.args.codes.now) c.loop-j.starts (omega arith) ∙ c.loop-j.invariant
