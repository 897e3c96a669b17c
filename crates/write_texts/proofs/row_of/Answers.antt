use native.Mathlib.Omega.{arith}
use mathlib.Core.Path.{◌≡◌, sym, ◌∙◌}
use Rattle.write_texts.proofs.Rows as laws
use Rattle.write_texts.proofs.row_of.Goals as goal

pub loop-r-init : goal.loop-r-init
loop-r-init c = laws.row-start c.shared-a.result c.args.c

pub returns-then-is_row : goal.returns-then-is_row
returns-then-is_row c = record { value = laws.row_is c.args.s c.args.c c.shared-a.result c.loop-r.r c.shared-a.ensures (laws.row_found c.shared-a.result c.args.c c.loop-r.r _ c.loop-r-test.true c.is_row.ensures c.if-is_row.true ∙ c.loop-r.invariant); upper_bound = omega arith }

pub loop-r-preserved : goal.loop-r-preserved
loop-r-preserved c = laws.row_more c.shared-a.result c.args.c c.loop-r.r _ c.loop-r-test.true c.is_row.ensures c.if-is_row.false ∙ c.loop-r.invariant

pub returns : goal.returns
returns c = let e : c.loop-r.r ≡ 134 = omega arith in record { value = sym e ∙ laws.row_is c.args.s c.args.c c.shared-a.result c.loop-r.r c.shared-a.ensures (laws.row-none c.shared-a.result c.args.c c.loop-r.r (omega arith) ∙ c.loop-r.invariant); upper_bound = omega arith }
