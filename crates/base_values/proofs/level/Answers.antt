use Rattle.std.proofs.Common.{◌≡◌, refl, arith, le-ltb}
use Rattle.base_values.specs.Operators.{level_of}
use Rattle.base_values.proofs.Tests.{in_all}
use Rattle.base_values.proofs.level.Goals as goal

pub returns-in-1 : goal.returns-in-1
unfolding level_of
returns-in-1 c = rw c.in-1.is

pub returns-in-2 : goal.returns-in-2
unfolding level_of
returns-in-2 c = rw c.in-2.is

pub returns-in-3 : goal.returns-in-3
unfolding level_of
returns-in-3 c = rw c.in-3.is

pub returns-in-4 : goal.returns-in-4
unfolding level_of
returns-in-4 c = rw c.in-4.is

pub returns-in-5 : goal.returns-in-5
unfolding level_of
returns-in-5 c = rw c.in-5.is

pub returns-in-6-to-7 : goal.returns-in-6-to-7
unfolding level_of
returns-in-6-to-7 c = in_all level_of 6 6 2 refl c.args.op (omega arith) (omega arith)

pub returns-in-8-to-11 : goal.returns-in-8-to-11
unfolding level_of
returns-in-8-to-11 c = in_all level_of 7 8 4 refl c.args.op (omega arith) (omega arith)

pub returns-in-12-to-13 : goal.returns-in-12-to-13
unfolding level_of
returns-in-12-to-13 c = in_all level_of 8 12 2 refl c.args.op (omega arith) (omega arith)

pub returns-in-14-to-15 : goal.returns-in-14-to-15
unfolding level_of
returns-in-14-to-15 c = in_all level_of 9 14 2 refl c.args.op (omega arith) (omega arith)

pub returns-in-16-to-18 : goal.returns-in-16-to-18
unfolding level_of
returns-in-16-to-18 c = in_all level_of 10 16 3 refl c.args.op (omega arith) (omega arith)

pub returns-in_default : goal.returns-in_default
unfolding level_of
returns-in_default c = let e : c.args.op ≡ 0 = omega arith in rw e

pub returns-in_default-2 : goal.returns-in_default-2
unfolding level_of
returns-in_default-2 c = let k = c.args.op in rw (le-ltb k 1 (omega arith), le-ltb k 2 (omega arith), le-ltb k 3 (omega arith), le-ltb k 4 (omega arith), le-ltb k 5 (omega arith), le-ltb k 6 (omega arith), le-ltb k 8 (omega arith), le-ltb k 12 (omega arith), le-ltb k 14 (omega arith), le-ltb k 16 (omega arith), le-ltb k 19 (omega arith))
