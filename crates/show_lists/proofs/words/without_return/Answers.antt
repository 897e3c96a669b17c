use Rattle.show_lists.proofs.Laws as laws
use Rattle.show_lists.proofs.words.without_return.Goals as goal

pub returns-then-byte_at-eq13 : goal.returns-then-byte_at-eq13
returns-then-byte_at-eq13 c = laws.return_cut c.args.line.now _ _ _ c.minus-last.ensures c.byte_at.ensures c.if-byte_at-eq13.true c.part.ensures

pub returns-else-byte_at-eq13 : goal.returns-else-byte_at-eq13
returns-else-byte_at-eq13 c = laws.return_kept c.args.line.now _ _ c.minus-last.ensures c.byte_at.ensures c.if-byte_at-eq13.false
