use Rattle.step_statements.proofs.Laws.{print_done, print_fault}
use Rattle.step_statements.proofs.print.Goals as goal

pub returns-in-Ok : goal.returns-in-Ok
returns-in-Ok c = print_done c.args.t.now c.args.p c.args.m c.args.s.now c.gather-g.ensures.value c.in-Ok.is c.link.ensures.value c.move_to.ensures

pub returns-in-Err : goal.returns-in-Err
returns-in-Err c = print_fault c.args.t.now c.args.p c.args.m c.args.s.now c.gather-g.ensures.value c.in-Err.is
