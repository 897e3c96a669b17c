use Rattle.base_kinds.specs.Kinds.{bytes}
use lib.ListN.{length}
use Rattle.text_spellings.proofs.Laws as laws
use Rattle.text_spellings.proofs.from_u.Goals as goal

pub returns-in-6 : goal.returns-in-6
returns-in-6 c = c.only.ensures

pub returns-in_default : goal.returns-in_default
returns-in_default c = rw (laws.unlike length c.args.w.now (bytes "unless") c.in_default.in_default-own.rest.1)
