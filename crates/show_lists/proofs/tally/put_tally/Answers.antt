use Rattle.show_lists.specs.Tally.{tally_text}
use Rattle.spec_text.specs.Formats.{digits_of}
use Rattle.base_kinds.specs.Kinds.{bytes}
use Rattle.base_pens.proofs.Pen as pens
use Rattle.show_lists.proofs.tally.put_tally.Goals as goal

pub returns : goal.returns
unfolding tally_text
returns c = pens.then_puts (digits_of c.args.t.commands) _ _ _ _ c.put_number-a.ensures (pens.then_puts (bytes " commands, ") _ _ _ _ c.put_all-b.ensures (pens.then_puts (digits_of c.args.t.wrong) _ _ _ _ c.put_number-c.ensures (pens.then_puts (bytes " wrong, ") _ _ _ _ c.put_all-d.ensures (pens.then_puts (digits_of c.args.t.errors) (bytes " errors\n") _ _ _ c.put_number-e.ensures c.put_all.ensures))))
