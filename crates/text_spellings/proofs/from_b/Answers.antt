use Rattle.base_kinds.specs.Kinds.{bytes}
use mathlib.Core.Path.{refl}
use lib.ListN.{length}
use Rattle.text_spellings.proofs.Laws as laws
use Rattle.text_spellings.proofs.from_b.Goals as goal

pub returns-in-3 : goal.returns-in-3
returns-in-3 c = rw (c.only.ensures, laws.told-apart length c.args.w.now (bytes "bool") c.in-3.is refl, laws.told-apart length c.args.w.now (bytes "byte") c.in-3.is refl, laws.told-apart length c.args.w.now (bytes "break") c.in-3.is refl)

pub returns-in-4 : goal.returns-in-4
returns-in-4 c = rw (c.either.ensures, laws.told-apart length c.args.w.now (bytes "bit") c.in-4.is refl, laws.told-apart length c.args.w.now (bytes "break") c.in-4.is refl)

pub returns-in-5 : goal.returns-in-5
returns-in-5 c = rw (c.only-in-5.ensures, laws.told-apart length c.args.w.now (bytes "bit") c.in-5.is refl, laws.told-apart length c.args.w.now (bytes "bool") c.in-5.is refl, laws.told-apart length c.args.w.now (bytes "byte") c.in-5.is refl)

pub returns-in_default : goal.returns-in_default
returns-in_default c = rw (laws.unlike length c.args.w.now (bytes "bit") c.in_default.in_default-own.rest.0.0.1, laws.unlike length c.args.w.now (bytes "bool") c.in_default.in_default-own.rest.0.1, laws.unlike length c.args.w.now (bytes "byte") c.in_default.in_default-own.rest.0.1, laws.unlike length c.args.w.now (bytes "break") c.in_default.in_default-own.rest.1)
