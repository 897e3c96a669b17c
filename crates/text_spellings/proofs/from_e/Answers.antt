use Rattle.base_kinds.specs.Kinds.{bytes}
use lib.ListN.{length}
use Rattle.text_spellings.proofs.Laws as laws
use Rattle.text_spellings.proofs.from_e.Goals as goal

pub returns-in-4 : goal.returns-in-4
returns-in-4 c = c.either.ensures

pub returns-in_default : goal.returns-in_default
returns-in_default c = rw (laws.unlike length c.args.w.now (bytes "else") c.in_default.in_default-own.rest.1, laws.unlike length c.args.w.now (bytes "eval") c.in_default.in_default-own.rest.1)
