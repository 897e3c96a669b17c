use Rattle.write_lines.proofs.Lines as laws
use Rattle.write_lines.proofs.put_next.Goals as goal

pub returns : goal.returns
returns c = laws.next-laid c.args.t.now c.args.new c.args.k c.args.p c.args.s c.args.v c.args.b _ _ _ _ _ _ _ _ _ _ c.open_behind.ensures.value c.least.ensures c.bodies.ensures.value c.place_behind.ensures c.bodies-2.ensures.value c.least-2.ensures c.put_margin-w.ensures c.kind_before.ensures c.put_token.ensures
