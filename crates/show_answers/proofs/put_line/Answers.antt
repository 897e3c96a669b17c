use Rattle.base_pens.proofs.Pen as pens
use Rattle.spec_account.specs.Bytes.{each_visible}
use Rattle.base_kinds.specs.Kinds.{bytes}
use Rattle.show_answers.proofs.put_line.Goals as goal

pub returns : goal.returns
returns c = pens.then_puts (bytes "\n  ") _ _ _ _ c.put_all-a.ensures (pens.then_puts (each_visible c.args.before.now) _ _ _ _ c.put_visible-b.ensures (pens.then_puts (each_visible c.args.from.now) (bytes "\n  ") _ _ _ c.put_visible-c.ensures c.put_all.ensures))
