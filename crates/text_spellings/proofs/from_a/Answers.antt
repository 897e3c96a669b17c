use Rattle.base_kinds.specs.Kinds.{bytes}
use lib.ListN.{length}
use Rattle.text_spellings.proofs.Laws as laws
use Rattle.text_spellings.proofs.from_a.Goals as goal

pub returns-then-same : goal.returns-then-same
returns-then-same c = rw (← c.same.ensures, c.if-same.true)

pub returns-else-same : goal.returns-else-same
returns-else-same c = rw (← c.same.ensures, c.if-same.false, c.either.ensures)

pub returns-in_default : goal.returns-in_default
returns-in_default c = rw (laws.unlike length c.args.w.now (bytes "active") c.in_default.in_default-own.rest.1, laws.unlike length c.args.w.now (bytes "assert") c.in_default.in_default-own.rest.1, laws.unlike length c.args.w.now (bytes "atomic") c.in_default.in_default-own.rest.1)
