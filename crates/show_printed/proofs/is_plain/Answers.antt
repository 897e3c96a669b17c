use Rattle.spec_account.specs.Bytes.{is_plain}
use native.Mathlib.Omega.{arith}
use borrow.Author.Tests.{ne_eqb, le-leb, lt-leb}
use Rattle.show_printed.proofs.is_plain.Goals as goal

pub returns-in-92 : goal.returns-in-92
unfolding is_plain
returns-in-92 c = rw c.in-92.is

pub returns-in-32-to-126 : goal.returns-in-32-to-126
unfolding is_plain
returns-in-32-to-126 c = rw (ne_eqb c.args.b 92 c.in-32-to-126.in_default-own.rest.1, le-leb 32 c.args.b (omega arith), le-leb c.args.b 126 (omega arith))

pub returns-in_default : goal.returns-in_default
unfolding is_plain
returns-in_default c = rw (ne_eqb c.args.b 92 c.in_default.in_default-own.rest.1, lt-leb 32 c.args.b (omega arith))

pub returns-in_default-2 : goal.returns-in_default-2
unfolding is_plain
returns-in_default-2 c = rw (ne_eqb c.args.b 92 c.in_default.in_default-own.rest.1, le-leb 32 c.args.b (omega arith), lt-leb c.args.b 126 (omega arith))
