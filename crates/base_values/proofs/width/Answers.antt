use Rattle.std.proofs.Common.{refl, arith, le-ltb, lt-ltb}
use Rattle.base_values.specs.Types.{width_of}
use Rattle.base_values.proofs.Tests.{in_all}
use Rattle.base_values.proofs.width.Goals as goal

pub returns-in-44 : goal.returns-in-44
unfolding width_of
returns-in-44 c = rw c.in-44.is

pub returns-in-38-to-39 : goal.returns-in-38-to-39
unfolding width_of
returns-in-38-to-39 c = in_all width_of 1 38 2 refl c.args.ty (omega arith) (omega arith)

pub returns-in-40-to-43 : goal.returns-in-40-to-43
unfolding width_of
returns-in-40-to-43 c = in_all width_of 8 40 4 refl c.args.ty (omega arith) (omega arith)

pub returns-in_default : goal.returns-in_default
unfolding width_of
returns-in_default c = rw (lt-ltb c.args.ty 38 (omega arith))

pub returns-in_default-2 : goal.returns-in_default-2
unfolding width_of
returns-in_default-2 c = let k = c.args.ty in rw (le-ltb k 38 (omega arith), le-ltb k 40 (omega arith), le-ltb k 44 (omega arith), le-ltb k 45 (omega arith))
