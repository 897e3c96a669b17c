use Rattle.rule_sheets.proofs.Fills as fills
use Rattle.rule_sheets.specs.Payload as payload
use Rattle.rule_sheets.proofs.Walks as laws
use lib.ListN.{length}
use mathlib.Core.Path.{◌∙◌}
use native.Mathlib.Omega.{arith}
use Rattle.rule_sheets.proofs.fill_args.Goals as goal

pub returns-then-text-gt-TEXT_MOST : goal.returns-then-text-gt-TEXT_MOST
returns-then-text-gt-TEXT_MOST c = fills.args-text c.args.text.now c.args.starts.now c.args.ends.now c.args.codes.now c.args.toks.now c.args.args.now (omega arith)

pub returns-then-codes-gt-ITEMS_MOST : goal.returns-then-codes-gt-ITEMS_MOST
returns-then-codes-gt-ITEMS_MOST c = fills.args-items c.args.text.now c.args.starts.now c.args.ends.now c.args.codes.now c.args.toks.now c.args.args.now (omega arith) (omega arith)

pub loop-j-init : goal.loop-j-init
loop-j-init c = fills.args-start c.args.text.now c.args.starts.now c.args.ends.now c.args.codes.now c.args.toks.now c.args.args.now (omega arith) (omega arith)

pub loop-j-preserved : goal.loop-j-preserved
loop-j-preserved c = laws.filled_more (λ l i. payload.arg_of c.args.text.now c.args.starts.now c.args.ends.now c.args.codes.now c.args.toks.now i) c.loop-j.j (length c.args.codes.now) c.loop-j.args c.arg_of.result c.put.new.s (omega arith) c.arg_of.ensures.value c.put.ensures ∙ c.loop-j.invariant

pub returns : goal.returns
returns c = laws.filled_end (λ l i. payload.arg_of c.args.text.now c.args.starts.now c.args.ends.now c.args.codes.now c.args.toks.now i) c.loop-j.j (length c.args.codes.now) c.loop-j.args (omega arith) ∙ c.loop-j.invariant
