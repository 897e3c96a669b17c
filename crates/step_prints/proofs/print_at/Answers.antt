use Rattle.step_prints.proofs.Laws.{prints-none, prints-fault, prints-text}
use Rattle.step_prints.specs.Printing.{pen}
use Rattle.step_prints.proofs.print_at.Goals as goal

pub returns-then-code-ne-TEXT : goal.returns-then-code-ne-TEXT
returns-then-code-ne-TEXT c = prints-none c.args.t.now c.args.s.now c.args.p c.args.q (pen c.args.out.now 0) c.code.ensures c.if-code-ne-TEXT.true

pub returns-in-Ok : goal.returns-in-Ok
returns-in-Ok c = prints-text c.args.t.now c.args.s.now c.args.p c.args.q (pen c.args.out.now 0) c.code.ensures c.if-code-ne-TEXT.false c.gather-g.ensures.value c.in-Ok.is c.gather-g.ensures.values_after c.print.ensures

pub returns-in-Err : goal.returns-in-Err
returns-in-Err c = prints-fault c.args.t.now c.args.s.now c.args.p c.args.q (pen c.args.out.now 0) c.code.ensures c.if-code-ne-TEXT.false c.gather-g.ensures.value c.in-Err.is
