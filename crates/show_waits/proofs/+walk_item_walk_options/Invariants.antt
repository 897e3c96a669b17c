use Prim.Native.Nat.{◌*◌, ◌+◌}
use Rattle.show_waits.proofs.+walk_item_walk_options.Given as goal

abbrev pub decreases-walk_item : goal.decreases-walk_item
decreases-walk_item l = l.d * 1024

abbrev pub decreases-walk_options : goal.decreases-walk_options
decreases-walk_options l = l.d * 1024 + l.n + 1
