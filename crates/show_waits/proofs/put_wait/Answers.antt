use Rattle.show_statement.specs.Statements.{seen_in}
use Rattle.spec_text.specs.Formats.{digits_of}
use Rattle.base_kinds.specs.Kinds.{bytes}
use Rattle.base_pens.proofs.Pen as pens
use Rattle.show_waits.proofs.put_wait.Goals as goal

pub returns : goal.returns
returns c = pens.then_puts (bytes "\tprocess ") _ _ _ _ c.put_all-a.ensures (pens.then_puts (digits_of c.args.process) _ _ _ _ c.put_count-b.ensures (pens.then_puts (bytes " waits at ") _ _ _ _ c.put_all-c.ensures (pens.then_puts (seen_in c.args.t.now c.args.q) _ _ _ _ c.put_seen-d.ensures (pens.then_puts (bytes ": ") _ _ _ _ c.put_all-e.ensures c.put_ceiling.ensures))))
