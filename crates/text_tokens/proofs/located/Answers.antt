use Rattle.text_tokens.proofs.Lines as laws
use Rattle.std.proofs.lemmas.List.{take_min}
use native.Mathlib.Omega.{arith}
use lib.ListN.{take}
use mathlib.Core.Path.{◌∙◌, sym}
use Rattle.text_tokens.proofs.located.Goals as goal
use Rattle.text_tokens.proofs.located.Goals.{then-b-eq10, else-b-eq10}

pub loop-b-preserved : goal.loop-b-preserved
loop-b-preserved c = let l = c.loop-b in let t = take c.min-most.result c.args.text.now in
    elim c.if-b-eq10.branch [
      | then-b-eq10 w ↦ (omega arith, omega arith, rw (w.line-is, w.column-is) (sym (laws.new_line t l.b-index l.line l.column c.loop-b-test.true w.if-b-eq10.true) ∙ l.invariant.2))
      | else-b-eq10 w ↦ (omega arith, omega arith, rw (w.line-is, w.column-is) (sym (laws.same_line t l.b-index l.line l.column c.loop-b-test.true w.if-b-eq10.false) ∙ l.invariant.2))
    ]

pub returns : goal.returns
returns c = let l = c.loop-b in let t = take c.min-most.result c.args.text.now in
    sym (laws.arrived t l.b-index l.line l.column c.loop-b-test.false) ∙ l.invariant.2 ∙ rw (c.min-most.ensures, take_min c.args.place c.args.text.now)
