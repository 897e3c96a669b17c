use Rattle.parse_tables.proofs.Laws.{none_law, some_law}
use native.Mathlib.Omega.{arith}
use Rattle.parse_tables.proofs.production.Goals as goal

pub returns-then-c-eq0 : goal.returns-then-c-eq0
returns-then-c-eq0 c = record { number = none_law _ _ _ _ _ _ _ _ _ c.from.ensures c.minus-row.ensures c.from-2.ensures c.byte_at.ensures c.from-3.ensures c.minus-c.ensures c.if-c-eq0.true; some = tt }

pub returns-else-c-eq0 : goal.returns-else-c-eq0
returns-else-c-eq0 c = record { number = some_law _ _ _ _ _ _ _ _ _ c.from.ensures c.minus-row.ensures c.from-2.ensures c.byte_at.ensures c.from-3.ensures c.minus-c.ensures c.if-c-eq0.false _ _ c.base_at.ensures c.from-else-c-eq0.ensures (omega (arith, c.from-else-c-eq0.ensures)) (omega (arith, c.from-3.ensures)); some = (omega (arith, c.if-c-eq0.false), omega (arith, c.from-else-c-eq0.ensures, c.from-3.ensures)) }
