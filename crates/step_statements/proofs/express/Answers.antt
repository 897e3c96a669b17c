use Rattle.step_statements.proofs.Laws.{express_value, express_fault}
use Rattle.step_statements.proofs.express.Goals as goal

pub returns-in-Ok : goal.returns-in-Ok
returns-in-Ok c = express_value c.args.t.now c.args.p c.args.q c.args.m c.args.s.now c.eval-x.ensures c.in-Ok.is c.pass.ensures

pub returns-in-Err : goal.returns-in-Err
returns-in-Err c = express_fault c.args.t.now c.args.p c.args.q c.args.m c.args.s.now c.eval-x.ensures c.in-Err.is
