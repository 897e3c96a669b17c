use Rattle.rule_sheets.specs.Walks.{first}
use native.Mathlib.Omega.{arith}
use Prim.Native.Nat.{◌-◌}
use mathlib.Core.Path.{◌≡◌, refl, sym, ap, ◌∙◌}
use lib.Dec.{eqb}
use lib.ListN.{length, get_or}
use Rattle.rule_sheets.proofs.Walks as laws
use borrow.Author.Tests.{eq-eqb, ne_eqb}
use Rattle.show_answers.proofs.seek.Goals as goal

pub loop-k-init : goal.loop-k-init
loop-k-init c = ap (λ k. first (λ n. eqb (get_or c.args.line.now n 0) c.args.b) k (length c.args.line.now - k)) c.least-k.ensures

pub returns-then-line-k : goal.returns-then-line-k
returns-then-line-k c = (omega (arith, c.least-k.ensures, c.loop-k.auto.k), omega (arith, c.loop-k-test.true), laws.first_stop (λ n. eqb (get_or c.args.line.now n 0) c.args.b) c.loop-k.k (length c.args.line.now - c.loop-k.k) (omega arith) refl (eq-eqb (get_or c.args.line.now c.loop-k.k 0) c.args.b c.if-line-k.true) ∙ c.loop-k.invariant)

pub loop-k-preserved : goal.loop-k-preserved
loop-k-preserved c = laws.first_more (λ n. eqb (get_or c.args.line.now n 0) c.args.b) c.loop-k.k (length c.args.line.now) (omega arith) refl (ne_eqb (get_or c.args.line.now c.loop-k.k 0) c.args.b c.if-line-k.false) ∙ c.loop-k.invariant

pub returns : goal.returns
returns c = (omega arith, omega arith, let q : c.loop-k.k ≡ length c.args.line.now = omega (arith, c.least-k.ensures) in sym q ∙ laws.first_end (λ n. eqb (get_or c.args.line.now n 0) c.args.b) c.loop-k.k (length c.args.line.now - c.loop-k.k) (omega arith) ∙ c.loop-k.invariant)
