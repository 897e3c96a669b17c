use Rattle.base_kinds.specs.Kinds.{bytes}
use mathlib.Core.Path.{refl}
use lib.ListN.{length}
use Rattle.text_spellings.proofs.Laws as laws
use Rattle.text_spellings.proofs.from_p.Goals as goal

pub returns-in-3 : goal.returns-in-3
returns-in-3 c = rw (c.only.ensures, laws.told-apart length c.args.w.now (bytes "printf") c.in-3.is refl, laws.told-apart length c.args.w.now (bytes "proctype") c.in-3.is refl)

pub returns-in-6 : goal.returns-in-6
returns-in-6 c = rw (c.only-in-6.ensures, laws.told-apart length c.args.w.now (bytes "pid") c.in-6.is refl, laws.told-apart length c.args.w.now (bytes "proctype") c.in-6.is refl)

pub returns-in-8 : goal.returns-in-8
returns-in-8 c = rw (c.only-in-8.ensures, laws.told-apart length c.args.w.now (bytes "pid") c.in-8.is refl, laws.told-apart length c.args.w.now (bytes "printf") c.in-8.is refl)

pub returns-in_default : goal.returns-in_default
returns-in_default c = rw (laws.unlike length c.args.w.now (bytes "pid") c.in_default.in_default-own.rest.0.0.1, laws.unlike length c.args.w.now (bytes "printf") c.in_default.in_default-own.rest.0.1, laws.unlike length c.args.w.now (bytes "proctype") c.in_default.in_default-own.rest.1)
