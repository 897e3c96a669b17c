use native.Mathlib.Omega.{arith}
use mathlib.Core.Path.{refl}
use Rattle.normal_entry.proofs.Laws as laws
use Rattle.layout_entry.proofs.lay.Goals as goal

pub returns-then-out-n : goal.returns-then-out-n
returns-then-out-n c = rw c.of_no_part.ensures (let all = laws.no_room _ _ _ _ c.write_layout-n.result c.args.out.now c.requires refl c.write_layout-n.ensures (omega arith) in record { value = all.0; out_after = all.1 })

pub returns : goal.returns
returns c = let all = laws.copied _ _ _ _ c.write_layout-n.result c.args.out.now c.requires refl c.write_layout-n.ensures _ (omega arith) c.copy.ensures in record { value = all.0; out_after = all.1 }
