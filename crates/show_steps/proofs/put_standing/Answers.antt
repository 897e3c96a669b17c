use Rattle.base_pens.proofs.Pen as pens
use Rattle.show_steps.proofs.Laws as laws
use Rattle.base_kinds.specs.Kinds.{bytes}
use Rattle.show_steps.proofs.put_standing.Goals as goal

pub returns-then-code : goal.returns-then-code
returns-then-code c = laws.ended-put _ _ _ _ _ c.code.ensures c.if-code.true c.put_all.ensures

pub returns : goal.returns
returns c = laws.at_put _ _ _ _ _ c.code.ensures c.if-code.false (pens.then_puts (bytes " at ") _ _ _ _ c.put_all-a.ensures c.put_seen.ensures)
