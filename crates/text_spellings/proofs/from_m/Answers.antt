use Rattle.base_kinds.specs.Kinds.{bytes}
use lib.ListN.{length}
use Rattle.text_spellings.proofs.Laws as laws
use Rattle.text_spellings.proofs.from_m.Goals as goal

pub returns-in-5 : goal.returns-in-5
returns-in-5 c = c.only.ensures

pub returns-in_default : goal.returns-in_default
returns-in_default c = rw (laws.unlike length c.args.w.now (bytes "mtype") c.in_default.in_default-own.rest.1)
