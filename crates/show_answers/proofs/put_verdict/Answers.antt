use Rattle.show_answers.proofs.Laws as laws
use native.Mathlib.Omega.{arith}
use Rattle.show_answers.proofs.put_verdict.Goals as goal

pub returns-in-0 : goal.returns-in-0
returns-in-0 c = laws.verdict-put c.args.v 0 _ _ c.in-0.is c.put_all.ensures

pub returns-in-1 : goal.returns-in-1
returns-in-1 c = laws.verdict-put c.args.v 1 _ _ c.in-1.is c.put_all-in-1.ensures

pub returns-in-2 : goal.returns-in-2
returns-in-2 c = laws.verdict-put c.args.v 2 _ _ c.in-2.is c.put_all-in-2.ensures

pub returns-in-3 : goal.returns-in-3
returns-in-3 c = laws.verdict-put c.args.v 3 _ _ c.in-3.is c.put_all-in-3.ensures

pub returns-in-4 : goal.returns-in-4
returns-in-4 c = laws.verdict-put c.args.v 4 _ _ c.in-4.is c.put_all-in-4.ensures

pub returns-in-5 : goal.returns-in-5
returns-in-5 c = laws.verdict-put c.args.v 5 _ _ c.in-5.is c.put_all-in-5.ensures

pub returns-in_default : goal.returns-in_default
returns-in_default c = let r = c.in_default.in_default-own.rest in laws.verdict-none c.args.v _ (omega (arith, r.1, r.0.1, r.0.0.1, r.0.0.0.1, r.0.0.0.0.1, r.0.0.0.0.0.1))
