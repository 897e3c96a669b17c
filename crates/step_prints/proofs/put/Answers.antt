use lib.Seq.{set_out}
use lib.ListN.{length}
use borrow.Author.Tests.{lt-ltb, le-ltb}
use Rattle.step_prints.specs.Printing.{puts}
use Rattle.step_prints.proofs.put.Goals as goal

pub returns-then-w-out : goal.returns-then-w-out
unfolding puts
returns-then-w-out c = rw (lt-ltb c.args.w (length c.args.out.now) c.if-w-out.true)

pub returns-else-w-out : goal.returns-else-w-out
unfolding puts
returns-else-w-out c = rw (set_out c.args.out.now c.args.w c.args.b c.if-w-out.false, le-ltb c.args.w (length c.args.out.now) c.if-w-out.false)
