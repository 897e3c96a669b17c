use Rattle.base_pens.proofs.Pen as pens
use Rattle.show_steps.proofs.Laws as laws
use Rattle.show_steps.specs.Steps.{listed_in, others_in}
use Rattle.step_all.specs.Moving.{processes}
use Rattle.spec_text.specs.Formats.{digits_of}
use Rattle.base_kinds.specs.Kinds.{bytes}
use borrow.Author.Tests.{lt-ltb, le-ltb}
use native.Mathlib.Omega.{arith}
use Rattle.show_steps.proofs.put_instead.Goals as goal

pub returns-then-count-process : goal.returns-then-count-process
returns-then-count-process c = rw (le-ltb c.args.process (processes c.args.s.now) (omega (arith, c.count.ensures, c.if-count-process.true))) c.put_nobody.ensures

pub returns : goal.returns
returns c = rw (lt-ltb c.args.process (processes c.args.s.now) (omega (arith, c.count.ensures, c.if-count-process.false))) (pens.then_puts (bytes "  process ") _ _ _ _ c.put_all-a.ensures (pens.then_puts (digits_of c.args.process) _ _ _ _ c.put_count-b.ensures (pens.then_puts (bytes " was offered instead:\n") _ _ _ _ c.put_all-c.ensures (pens.then_puts (others_in c.args.t.now c.args.process (listed_in c.args.t.now c.args.s.now)) _ _ _ _ c.put_others-d.ensures (laws.none_by_lem _ _ _ _ c.is_any.ensures c.put_none.ensures)))))
