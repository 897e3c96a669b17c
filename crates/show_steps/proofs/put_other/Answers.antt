use Rattle.base_pens.proofs.Pen as pens
use Rattle.spec_text.specs.Formats.{digits_of}
use Rattle.base_kinds.specs.Kinds.{bytes}
use borrow.Author.Tests.{eq-eqb, ne_eqb}
use Rattle.show_steps.proofs.put_other.Goals as goal

pub returns-then-x-process : goal.returns-then-x-process
returns-then-x-process c = rw (ne_eqb c.args.x.process c.args.process c.if-x-process.true) (pens.none-put _)

pub returns : goal.returns
returns c = rw (eq-eqb c.args.x.process c.args.process c.if-x-process.false) (pens.then_puts (bytes "    ") _ _ _ _ c.put_all-a.ensures (pens.then_puts (digits_of c.args.x.number) _ _ _ _ c.put_count-b.ensures c.put_last.ensures))
