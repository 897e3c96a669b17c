use Rattle.base_pens.proofs.Pen as pens
use Rattle.spec_account.specs.Answers.{stopped_line}
use Rattle.spec_text.specs.Formats.{digits_of}
use Rattle.base_kinds.specs.Kinds.{bytes}
use Rattle.show_answers.proofs.put_stopped.Goals as goal

pub returns : goal.returns
unfolding stopped_line
returns c = pens.then_puts (bytes "refused ") _ _ _ _ c.put_all-a.ensures (pens.then_puts (digits_of c.args.x) _ _ _ _ c.put_count-b.ensures c.put_counted.ensures)
