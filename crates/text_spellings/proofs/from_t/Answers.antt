use Rattle.base_kinds.specs.Kinds.{bytes}
use mathlib.Core.Path.{refl}
use lib.ListN.{length}
use Rattle.text_spellings.proofs.Laws as laws
use Rattle.text_spellings.proofs.from_t.Goals as goal

pub returns-in-4 : goal.returns-in-4
returns-in-4 c = rw (c.only.ensures, laws.told-apart length c.args.w.now (bytes "timeout") c.in-4.is refl, laws.told-apart length c.args.w.now (bytes "typedef") c.in-4.is refl)

pub returns-in-7 : goal.returns-in-7
returns-in-7 c = rw (c.either.ensures, laws.told-apart length c.args.w.now (bytes "true") c.in-7.is refl)

pub returns-in_default : goal.returns-in_default
returns-in_default c = rw (laws.unlike length c.args.w.now (bytes "timeout") c.in_default.in_default-own.rest.1, laws.unlike length c.args.w.now (bytes "true") c.in_default.in_default-own.rest.0.1, laws.unlike length c.args.w.now (bytes "typedef") c.in_default.in_default-own.rest.1)
