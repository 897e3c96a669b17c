use Rattle.step_statements.proofs.Laws.{assert_holds, assert_fails, assert_fault}
use Rattle.step_statements.proofs.assert_that.Goals as goal

pub returns-then-v-eq0 : goal.returns-then-v-eq0
returns-then-v-eq0 c = assert_fails c.args.t.now c.args.p c.args.q c.args.m c.args.s.now c.eval-x.ensures c.in-Ok.is c.in-Ok.known_told-1-own.given.0.1 c.if-v-eq0.true

pub returns-else-v-eq0 : goal.returns-else-v-eq0
returns-else-v-eq0 c = assert_holds c.args.t.now c.args.p c.args.q c.args.m c.args.s.now c.eval-x.ensures c.in-Ok.is c.if-v-eq0.false c.pass.ensures

pub returns-in-Err : goal.returns-in-Err
returns-in-Err c = assert_fault c.args.t.now c.args.p c.args.q c.args.m c.args.s.now c.eval-x.ensures c.in-Err.is
