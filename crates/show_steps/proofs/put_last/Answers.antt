use Rattle.base_pens.proofs.Pen as pens
use Rattle.show_statement.specs.Statements.{seen_in}
use mathlib.Core.List.{◌∷◌, []}
use Rattle.show_steps.proofs.put_last.Goals as goal

pub returns : goal.returns
returns c = pens.then_puts (9 ∷ []) _ _ _ _ (pens.one-put 9 _ _ c.put-a.ensures) (pens.then_puts (seen_in c.args.t.now c.args.q) (10 ∷ []) _ _ _ c.put_seen-b.ensures (pens.one-put 10 _ _ c.put.ensures))
