use Rattle.step_prints.specs.Printing as paper
use Rattle.base_bytes.specs.Lists.{piece}
use Rattle.show_steps.proofs.Laws as laws
use mathlib.Core.Path.{◌∙◌, ap}
use Rattle.show_steps.proofs.put_taken.Goals as goal

pub returns : goal.returns
returns c = record { s_after = c.advance-taken.ensures; end_after = laws.taken-put c.args.t.now c.args.s.now _ c.advance-taken.new.s c.args.whole c.args.i c.args.x c.advance-taken.result _ _ _ _ c.keep.ensures (c.part.ensures ∙ ap (λ (w : paper.Pen). piece w.bytes 0 w.at) c.print_at-n.ensures) c.put_step-a.ensures c.put_outcome-end.ensures }
