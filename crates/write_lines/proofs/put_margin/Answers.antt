use Rattle.write_lines.proofs.Lines as laws
use Rattle.write_lines.proofs.put_margin.Goals as goal

pub returns-then-b : goal.returns-then-b
returns-then-b c = laws.margin-written c.args.b c.args.d _ _ _ c.if-b.true c.put-q.ensures c.put_times.ensures

pub returns : goal.returns
returns c = laws.margin-none c.args.b c.args.d _ c.if-b.false
