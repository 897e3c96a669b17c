use Rattle.base_pens.proofs.Pen as pens
use Rattle.show_steps.proofs.Laws as laws
use Rattle.show_steps.specs.Steps.{title_at, standing_in}
use Rattle.state_layout.specs.Layout.{place_of}
use Rattle.spec_text.specs.Formats.{digits_of}
use Rattle.base_kinds.specs.Kinds.{bytes}
use mathlib.Core.List.{◌∷◌, []}
use Rattle.show_steps.proofs.put_process.Goals as goal

pub returns : goal.returns
returns c = pens.then_puts (bytes "process ") _ _ _ _ c.put_all-a.ensures (pens.then_puts (digits_of c.args.process) _ _ _ _ c.put_count-b.ensures (pens.then_puts (32 ∷ []) _ _ _ _ (pens.one-put 32 _ _ c.put-c.ensures) (pens.then_puts (title_at c.args.t.now c.args.s.now c.args.process) _ _ _ _ c.put_owner-d.ensures (pens.then_puts (standing_in c.args.t.now (place_of c.args.s.now c.args.process)) _ _ _ _ (laws.standing-put _ _ _ _ _ c.place_of.ensures.value c.put_standing-e.ensures) (pens.then_puts (10 ∷ []) _ _ _ _ (pens.one-put 10 _ _ c.put-f.ensures) c.put_locals.ensures)))))
