use native.Mathlib.Omega.{arith}
use Rattle.link_places.proofs.Walks as laws
use Rattle.link_places.proofs.is_place.Goals as goal

pub returns-then-codes-p : goal.returns-then-codes-p
returns-then-codes-p c = laws.place_past c.args.codes.now c.args.p (omega arith)

pub returns-then-is_alone : goal.returns-then-is_alone
returns-then-is_alone c = laws.place-alone c.args.codes.now c.args.p c.is_alone.ensures c.if-is_alone.true

pub returns-then-is_part : goal.returns-then-is_part
returns-then-is_part c = laws.place_phrase c.args.codes.now c.args.p c.is_alone.ensures c.if-is_alone.false c.is_part.ensures c.if-is_part.true (rw (← c.minus.ensures) c.byte_at.ensures) c.is_mark.ensures c.mark_from.ensures c.byte_at-then-is_part.ensures c.is_lead.ensures c.both.ensures

pub returns-else-is_part : goal.returns-else-is_part
returns-else-is_part c = laws.place_none c.args.codes.now c.args.p c.is_alone.ensures c.if-is_alone.false c.is_part.ensures c.if-is_part.false
