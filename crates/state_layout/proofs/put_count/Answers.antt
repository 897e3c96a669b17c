use Rattle.state_layout.proofs.Laws.{put-kept}
use Rattle.state_layout.proofs.put_count.Goals as goal

pub returns : goal.returns
returns c = put-kept c.args.s.now _ c.args.i c.kept.type_inv c.kept.ensures c.put.ensures
