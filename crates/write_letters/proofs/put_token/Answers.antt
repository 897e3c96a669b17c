use Rattle.write_letters.proofs.Tokens as laws
use mathlib.Core.Path.{refl}
use Rattle.write_letters.proofs.put_token.Goals as goal

pub slice_bounds-w-end : goal.slice_bounds-w-end
slice_bounds-w-end c = laws.buffer_fits c.args.t.now c.args.v _ _ _ refl c.put_spelling-n.ensures

pub returns : goal.returns
returns c = laws.token_written c.args.t.now c.args.k c.args.v _ _ _ _ _ _ (laws.buffer_holds c.args.t.now c.args.v _ _ _ refl c.put_spelling-n.ensures) c.byte_at.ensures c.joins.ensures c.space_if-q.ensures c.put_all.ensures
