use Rattle.base_kinds.specs.Kinds.{bytes}
use mathlib.Core.Path.{refl}
use lib.ListN.{length}
use Rattle.text_spellings.proofs.Laws as laws
use Rattle.text_spellings.proofs.from_i.Goals as goal

pub returns-in-2 : goal.returns-in-2
returns-in-2 c = rw (c.only.ensures, laws.told-apart length c.args.w.now (bytes "int") c.in-2.is refl, laws.told-apart length c.args.w.now (bytes "init") c.in-2.is refl)

pub returns-in-3 : goal.returns-in-3
returns-in-3 c = rw (c.only-in-3.ensures, laws.told-apart length c.args.w.now (bytes "if") c.in-3.is refl, laws.told-apart length c.args.w.now (bytes "init") c.in-3.is refl)

pub returns-in-4 : goal.returns-in-4
returns-in-4 c = rw (c.only-in-4.ensures, laws.told-apart length c.args.w.now (bytes "int") c.in-4.is refl, laws.told-apart length c.args.w.now (bytes "if") c.in-4.is refl)

pub returns-in_default : goal.returns-in_default
returns-in_default c = rw (laws.unlike length c.args.w.now (bytes "int") c.in_default.in_default-own.rest.0.1, laws.unlike length c.args.w.now (bytes "if") c.in_default.in_default-own.rest.0.0.1, laws.unlike length c.args.w.now (bytes "init") c.in_default.in_default-own.rest.1)
