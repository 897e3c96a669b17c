use Rattle.state_check.proofs.Laws.{place-alone, place_phrase, place_none}
use Rattle.state_check.proofs.is_place.Goals as goal

pub returns-then-is_alone : goal.returns-then-is_alone
returns-then-is_alone c = place-alone c.args.t.now c.args.q c.code-c.ensures c.is_alone.ensures c.if-is_alone.true

pub returns-then-is_part : goal.returns-then-is_part
returns-then-is_part c = place_phrase c.args.t.now c.args.q c.code-c.ensures c.is_alone.ensures c.if-is_alone.false c.is_part.ensures c.if-is_part.true c.minus_one.ensures c.code.ensures c.is_mark.ensures c.link.ensures.value c.code-then-is_part.ensures c.is_lead.ensures c.both.ensures

pub returns-else-is_part : goal.returns-else-is_part
returns-else-is_part c = place_none c.args.t.now c.args.q c.code-c.ensures c.is_alone.ensures c.if-is_alone.false c.is_part.ensures c.if-is_part.false
