use Rattle.base_pens.proofs.Pen as pens
use Rattle.show_steps.proofs.Laws as laws
use Rattle.show_steps.specs.Steps.{title_at, row_in}
use Prim.Native.Nat.{◌-◌}
use mathlib.Core.List.{◌∷◌, []}
use mathlib.Core.Path.{◌∙◌, ap}
use Rattle.show_steps.proofs.put_step.Goals as goal

pub returns : goal.returns
returns c = pens.then_puts (row_in c.args.i c.args.x.process c.args.x.number) _ _ _ _ c.put_row-a.ensures (pens.then_puts (title_at c.args.t.now c.args.s.now c.args.x.process) _ _ _ _ c.put_owner-b.ensures (pens.then_puts (9 ∷ []) _ _ _ _ (pens.one-put 9 _ _ c.put-c.ensures) (pens.then_puts _ _ _ _ _ (laws.count-put _ _ _ _ (c.minus-stands.ensures ∙ ap (λ n. c.args.whole - n) c.length_from.ensures) c.put_count-d.ensures) c.put_last.ensures)))
