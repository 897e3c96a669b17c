use Rattle.spec_account.specs.Bytes.{is_visible}
use borrow.Author.Tests.{le-leb, lt-leb}
use native.Mathlib.Omega.{arith}
use Rattle.show_printed.proofs.is_visible.Goals as goal

pub returns-in-32-to-126 : goal.returns-in-32-to-126
unfolding is_visible
returns-in-32-to-126 c = rw (le-leb 32 c.args.b (omega arith), le-leb c.args.b 126 (omega arith))

pub returns-in_default : goal.returns-in_default
unfolding is_visible
returns-in_default c = rw (lt-leb 32 c.args.b (omega arith))

pub returns-in_default-2 : goal.returns-in_default-2
unfolding is_visible
returns-in_default-2 c = rw (le-leb 32 c.args.b (omega arith), lt-leb c.args.b 126 (omega arith))
