use Rattle.spec_text.specs.Formats.{digits_of}
use Rattle.base_kinds.specs.Kinds.{bytes}
use Rattle.base_pens.proofs.Pen as pens
use Rattle.show_lists.proofs.Laws as laws
use Rattle.show_lists.proofs.tally.put_other.Goals as goal

pub returns-then-n-k : goal.returns-then-n-k
returns-then-n-k c = laws.no_other _ _ _ c.if-n-k.true

pub returns : goal.returns
returns c = laws.other_put _ _ _ _ c.if-n-k.false (pens.then_puts (bytes "  ") _ _ _ _ c.put_all-a.ensures (pens.then_puts (digits_of c.args.n) _ _ _ _ c.put_number-b.ensures (pens.then_puts (bytes " commands were worked off, and ") _ _ _ _ c.put_all-c.ensures (pens.then_puts (digits_of c.args.k) (bytes " were expected\n") _ _ _ c.put_number-d.ensures c.put_all.ensures))))
