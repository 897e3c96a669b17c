use mathlib.Core.Path.{refl}
use lib.ListN.{length}
use Rattle.read_entry.proofs.Laws as laws
use Rattle.read_entry.proofs.refused_part.Goals as goal

pub returns : goal.returns
returns c = let t = c.args.text.now in
    let q = laws.whole_room t _ _ refl c.read.ensures.value in
    record { result_value = laws.part_is t _ _ _ _ q c.named-b.ensures; ref_ptr_value = laws.part_lies (length t) _ _ _ _ _ _ q c.named-b.ensures }
