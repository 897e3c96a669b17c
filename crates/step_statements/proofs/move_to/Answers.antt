use Rattle.step_statements.proofs.Laws.{moved_to}
use Rattle.step_statements.proofs.move_to.Goals as goal

pub returns : goal.returns
returns c = moved_to c.args.p c.args.q c.args.s.now _ c.process_at.ensures c.put_count.ensures
