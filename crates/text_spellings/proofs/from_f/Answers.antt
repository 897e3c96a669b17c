use Rattle.base_kinds.specs.Kinds.{bytes}
use mathlib.Core.Path.{refl}
use lib.ListN.{length}
use Rattle.text_spellings.proofs.Laws as laws
use Rattle.text_spellings.proofs.from_f.Goals as goal

pub returns-in-2 : goal.returns-in-2
returns-in-2 c = rw (c.only.ensures, laws.told-apart length c.args.w.now (bytes "false") c.in-2.is refl)

pub returns-in-5 : goal.returns-in-5
returns-in-5 c = rw (c.only-in-5.ensures, laws.told-apart length c.args.w.now (bytes "fi") c.in-5.is refl)

pub returns-in_default : goal.returns-in_default
returns-in_default c = rw (laws.unlike length c.args.w.now (bytes "false") c.in_default.in_default-own.rest.1, laws.unlike length c.args.w.now (bytes "fi") c.in_default.in_default-own.rest.0.1)
