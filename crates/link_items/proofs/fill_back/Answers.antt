use Rattle.link_items.proofs.Fills as fills
use Prim.Native.Nat.{◌-◌}
use mathlib.Core.Path.{◌∙◌}
use native.Mathlib.Omega.{arith}
use Rattle.link_items.proofs.fill_back.Goals as goal

pub loop-j-preserved : goal.loop-j-preserved
loop-j-preserved c = fills.back_more c.args.codes.now c.args.args.now c.args.homes.now c.args.starts.now c.loop-j.j (c.loop-j.j - 1) c.loop-j.links c.put.new.s (omega arith) c.class_of.ensures c.link_by-v.ensures c.put.ensures ∙ c.loop-j.invariant

pub returns : goal.returns
returns c = fills.back_end c.args.codes.now c.args.args.now c.args.homes.now c.args.starts.now c.loop-j.j c.loop-j.links (omega arith) ∙ c.loop-j.invariant
