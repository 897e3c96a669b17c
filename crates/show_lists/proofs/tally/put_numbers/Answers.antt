use Prim.Native.Nat.{◌-◌}
use mathlib.Core.List.{◌∷◌, []}
use Rattle.base_pens.proofs.Pen as pens
use Rattle.show_lists.specs.Tally.{each_of, further_text}
use Rattle.show_lists.proofs.Laws as laws
use Rattle.show_lists.proofs.tally.put_numbers.Goals as goal

pub returns-then-n-eq0 : goal.returns-then-n-eq0
returns-then-n-eq0 c = laws.no_numbers _ _ _ _ c.if-n-eq0.true

pub returns : goal.returns
returns c = laws.numbers-put c.args.word.now c.args.kept.now c.args.n c.least-told.result _ _ c.if-n-eq0.false c.least-told.ensures (pens.then_puts c.args.word.now _ _ _ _ c.put_all-a.ensures (pens.then_puts (each_of c.args.kept.now 0 c.least-told.result) _ _ _ _ c.put_each-b.ensures (pens.then_puts (further_text (c.args.n - c.least-told.result)) (10 ∷ []) _ _ _ c.put_further-c.ensures (pens.one-put 10 _ _ c.put.ensures))))
