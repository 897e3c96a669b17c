use mathlib.Core.List.{◌++◌}
use lib.IntN.{pos}
use Rattle.show_steps.proofs.Laws as laws
use Rattle.state_layout.proofs.Laws.{back}
use lib.ListN.{length, take, replicate}
use mathlib.Core.Path.{◌∙◌, ap, sym}
use native.Mathlib.Omega.{arith}
use Prim.Native.Nat.{◌+◌}
use Rattle.show_steps.proofs.keep.Goals as goal

pub loop-i-preserved : goal.loop-i-preserved
loop-i-preserved c = ap (take (c.loop-i.i + 1)) c.put.ensures ∙ laws.kept_more (c.args.s.now ++ replicate (length c.args.kept.now) (pos 0)) c.loop-i.kept c.loop-i.i _ (laws.padded_long c.args.s.now (length c.args.kept.now) c.loop-i.i (omega arith)) (omega arith) (back c.cell.type_inv ∙ c.cell.ensures ∙ sym (laws.padded-cell c.args.s.now (length c.args.kept.now) c.loop-i.i)) c.loop-i.invariant

pub returns : goal.returns
returns c = laws.kept-all (c.args.s.now ++ replicate (length c.args.kept.now) (pos 0)) c.loop-i.kept (length c.args.kept.now) c.loop-i.i (omega arith) (omega arith) (omega arith) c.loop-i.invariant
