use Rattle.step_prints.proofs.Laws.{one-escaped, one_number, one_percent, one-backslash, one_opening, one_plain}
use Rattle.step_prints.specs.Printing.{pen}
use Rattle.step_prints.proofs.put_one.Goals as goal

pub returns-then-was-eq92 : goal.returns-then-was-eq92
returns-then-was-eq92 c = one-escaped c.args.values.now c.args.was c.args.b c.args.k (pen c.args.out.now c.args.w) c.if-was-eq92.true c.escape.ensures c.put.ensures

pub returns-then-b-eq100 : goal.returns-then-b-eq100
returns-then-b-eq100 c = one_number c.args.values.now c.args.was c.args.b c.args.k (pen c.args.out.now c.args.w) c.if-was-eq92.false c.if-was-eq37.true c.if-b-eq100.true c.cell.type_inv c.cell.ensures c.put_number.ensures

pub returns-then-was-eq37 : goal.returns-then-was-eq37
returns-then-was-eq37 c = one_percent c.args.values.now c.args.was c.args.b c.args.k (pen c.args.out.now c.args.w) c.if-was-eq92.false c.if-was-eq37.true c.if-b-eq100.false c.put-then-was-eq37.ensures

pub returns-then-b-eq92 : goal.returns-then-b-eq92
returns-then-b-eq92 c = one-backslash c.args.values.now c.args.was c.args.b c.args.k (pen c.args.out.now c.args.w) c.if-was-eq92.false c.if-was-eq37.false c.if-b-eq92.true

pub returns-then-b-eq37 : goal.returns-then-b-eq37
returns-then-b-eq37 c = one_opening c.args.values.now c.args.was c.args.b c.args.k (pen c.args.out.now c.args.w) c.if-was-eq92.false c.if-was-eq37.false c.if-b-eq92.false c.if-b-eq37.true

pub returns-else-b-eq37 : goal.returns-else-b-eq37
returns-else-b-eq37 c = one_plain c.args.values.now c.args.was c.args.b c.args.k (pen c.args.out.now c.args.w) c.if-was-eq92.false c.if-was-eq37.false c.if-b-eq92.false c.if-b-eq37.false c.put-else-b-eq37.ensures
