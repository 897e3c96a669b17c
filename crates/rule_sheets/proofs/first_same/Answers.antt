use Rattle.rule_sheets.proofs.Walks as laws
use Rattle.rule_sheets.specs.Payload.{same_name, first_same}
use Prim.Native.Nat.{◌-◌}
use mathlib.Core.Path.{◌∙◌}
use native.Mathlib.Omega.{arith}
use Rattle.rule_sheets.proofs.first_same.Goals as goal

pub loop-i-init : goal.loop-i-init
unfolding first_same
loop-i-init c = laws.first-start (same_name c.args.text.now c.args.starts.now c.args.ends.now c.args.codes.now c.args.toks.now c.args.j) c.args.j

pub returns-then-same_name : goal.returns-then-same_name
returns-then-same_name c = record { value = laws.first_stop (same_name c.args.text.now c.args.starts.now c.args.ends.now c.args.codes.now c.args.toks.now c.args.j) c.loop-i.i (c.args.j - c.loop-i.i) (omega arith) c.same_name.ensures c.if-same_name.true ∙ c.loop-i.invariant; upper_bound = omega arith }

pub loop-i-preserved : goal.loop-i-preserved
loop-i-preserved c = laws.first_more (same_name c.args.text.now c.args.starts.now c.args.ends.now c.args.codes.now c.args.toks.now c.args.j) c.loop-i.i c.args.j (omega arith) c.same_name.ensures c.if-same_name.false ∙ c.loop-i.invariant

pub returns : goal.returns
returns c = record { value = laws.first_past (same_name c.args.text.now c.args.starts.now c.args.ends.now c.args.codes.now c.args.toks.now c.args.j) c.loop-i.i c.args.j (omega arith) ∙ c.loop-i.invariant; upper_bound = omega arith }
