use Rattle.step_prints.proofs.Laws.{format_end, format-more}
use Rattle.step_prints.specs.Printing.{pen, puts, written_from}
use native.Mathlib.Omega.{arith}
use mathlib.Core.Path.{ap, ◌∙◌}
use Prim.Native.Nat.{◌-◌, ◌+◌}
use Rattle.step_prints.proofs.print.Goals as goal

pub loop-i-init : goal.loop-i-init
loop-i-init c = (omega arith, ap (λ a. puts (written_from c.args.t.now c.args.values.now a c.args.j 0 0 0) (pen c.args.out.now c.args.w)) (omega arith))

pub loop-i-preserved : goal.loop-i-preserved
loop-i-preserved c = (omega (arith, c.count_behind-k.ensures.upper_bound), format-more c.args.t.now c.args.values.now c.args.j (c.name_length-n.result - c.loop-i.i) (c.name_length-n.result - (c.loop-i.i + 1)) c.loop-i.i c.loop-i.was c.loop-i.k (pen c.loop-i.out c.loop-i.q) (omega arith) c.name_byte-b.ensures c.put_one-q.ensures c.count_behind-k.ensures.value c.open_behind-was.ensures ∙ c.loop-i.invariant.1)

pub returns : goal.returns
returns c = format_end c.args.t.now c.args.values.now c.args.j (c.name_length-n.result - c.loop-i.i) c.loop-i.i c.loop-i.was c.loop-i.k (pen c.loop-i.out c.loop-i.q) (omega arith) ∙ c.loop-i.invariant.1 ∙ ap (λ n. puts (written_from c.args.t.now c.args.values.now n c.args.j 0 0 0) (pen c.args.out.now c.args.w)) c.name_length-n.ensures.value
