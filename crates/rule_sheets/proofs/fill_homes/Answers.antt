use Rattle.rule_sheets.proofs.Fills as fills
use Rattle.rule_sheets.specs.Homes as homing
use Rattle.rule_sheets.proofs.Walks as laws
use lib.ListN.{length}
use mathlib.Core.Path.{◌∙◌}
use native.Mathlib.Omega.{arith}
use Rattle.rule_sheets.proofs.fill_homes.Goals as goal

pub returns-then-codes-gt-ITEMS_MOST : goal.returns-then-codes-gt-ITEMS_MOST
returns-then-codes-gt-ITEMS_MOST c = fills.homes_long c.args.codes.now c.args.homes.now (omega arith)

pub loop-j-init : goal.loop-j-init
loop-j-init c = (fills.inside-start c.args.codes.now, omega arith, fills.homes-start c.args.codes.now c.args.homes.now (omega arith))

pub loop-j-preserved : goal.loop-j-preserved
loop-j-preserved c = (fills.inside-more c.args.codes.now c.loop-j.j c.loop-j.h c.loop-j.invariant.0 c.inside-h.ensures.value, c.inside-h.ensures.upper_bound, laws.filled_more (λ l i. homing.home_of c.args.codes.now i) c.loop-j.j (length c.args.codes.now) c.loop-j.homes c.choose_size.result c.put.new.s (omega arith) (fills.home_is c.args.codes.now c.loop-j.j c.loop-j.h c.loop-j.invariant.0 c.is_head.ensures c.choose_size.ensures) c.put.ensures ∙ c.loop-j.invariant.2)

pub returns : goal.returns
returns c = laws.filled_end (λ l i. homing.home_of c.args.codes.now i) c.loop-j.j (length c.args.codes.now) c.loop-j.homes (omega arith) ∙ c.loop-j.invariant.2
