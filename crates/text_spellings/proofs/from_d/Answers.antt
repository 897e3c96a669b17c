use Rattle.base_kinds.specs.Kinds.{bytes}
use mathlib.Core.Path.{refl}
use lib.ListN.{length}
use Rattle.text_spellings.proofs.Laws as laws
use Rattle.text_spellings.proofs.from_d.Goals as goal

pub returns-in-2 : goal.returns-in-2
returns-in-2 c = rw (c.only.ensures, laws.told-apart length c.args.w.now (bytes "d_step") c.in-2.is refl)

pub returns-in-6 : goal.returns-in-6
returns-in-6 c = rw (c.only-in-6.ensures, laws.told-apart length c.args.w.now (bytes "do") c.in-6.is refl)

pub returns-in_default : goal.returns-in_default
returns-in_default c = rw (laws.unlike length c.args.w.now (bytes "do") c.in_default.in_default-own.rest.0.1, laws.unlike length c.args.w.now (bytes "d_step") c.in_default.in_default-own.rest.1)
