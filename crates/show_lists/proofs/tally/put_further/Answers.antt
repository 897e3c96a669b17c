use Rattle.spec_text.specs.Formats.{digits_of}
use Rattle.base_kinds.specs.Kinds.{bytes}
use Rattle.base_pens.proofs.Pen as pens
use Rattle.show_lists.proofs.Laws as laws
use Rattle.show_lists.proofs.tally.put_further.Goals as goal

pub returns-then-n-eq0 : goal.returns-then-n-eq0
returns-then-n-eq0 c = laws.no_further _ _ c.if-n-eq0.true

pub returns : goal.returns
returns c = laws.further-put _ _ _ c.if-n-eq0.false (pens.then_puts (bytes " and ") _ _ _ _ c.put_all-a.ensures (pens.then_puts (digits_of c.args.n) (bytes " more") _ _ _ c.put_number-b.ensures c.put_all.ensures))
