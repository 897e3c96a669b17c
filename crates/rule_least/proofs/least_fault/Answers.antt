use native.Mathlib.Omega.{arith}
use mathlib.Core.Path.{◌∙◌}
use Prim.Native.Nat.{◌-◌}
use lib.ListN.{length}
use Rattle.rule_least.proofs.Least as least
use Rattle.rule_least.proofs.least_fault.Goals as goal

pub loop-j-init : goal.loop-j-init
loop-j-init c = least.least-none c.args.codes.now c.args.args.now c.args.homes.now c.args.starts.now c.args.heights.now c.args.toks.now (length c.args.codes.now) (omega arith)

pub loop-j-preserved : goal.loop-j-preserved
loop-j-preserved c = least.least_more c.args.codes.now c.args.args.now c.args.homes.now c.args.starts.now c.args.heights.now c.args.toks.now c.loop-j.j (c.loop-j.j - 1) (length c.args.codes.now) (omega arith) (omega arith) c.loop-j.invariant c.joined-best.ensures

pub returns : goal.returns
returns c = c.loop-j.invariant ∙ least.least-whole c.args.codes.now c.args.args.now c.args.homes.now c.args.starts.now c.args.heights.now c.args.toks.now c.loop-j.j (omega arith)
