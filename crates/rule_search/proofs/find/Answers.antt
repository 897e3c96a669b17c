use borrow.Author.Tests.{eq-eqb}
use mathlib.Core.Path.{◌∙◌}
use Rattle.rule_search.proofs.Chain.{head-start, go_on}
use Rattle.rule_search.proofs.Rest.{rest_stop, rest_end}
use Rattle.rule_search.specs.Search as finding
use Rattle.rule_search.proofs.find.Goals as goal

pub returns-then-w-eq0 : goal.returns-then-w-eq0
unfolding finding.find
returns-then-w-eq0 c = λ k s. simp (eq-eqb _ _ c.if-w-eq0.true)

pub loop-d-init : goal.loop-d-init
loop-d-init c = λ k s. head-start c.args.codes.now c.args.args.now c.args.homes.now c.args.chain.now c.args.set c.args.w c.args.h c.args.to k s c.if-w-eq0.false c.head-d.ensures

pub returns-then-declares : goal.returns-then-declares
returns-then-declares c = λ k s. rest_stop (finding.declares c.args.codes.now c.args.args.now c.args.homes.now c.args.set c.args.w c.args.h) c.loop-d.d c.args.to c.loop-d-test.true c.declares.ensures c.if-declares.true ∙ c.loop-d.invariant k s

pub loop-d-preserved : goal.loop-d-preserved
loop-d-preserved c = λ k s. go_on c.args.codes.now c.args.args.now c.args.homes.now c.args.chain.now c.args.set c.args.w c.args.h c.args.to k s c.loop-d.d c.past-d.ensures.lower_bound c.past-d.ensures.value c.declares.ensures c.if-declares.false ∙ c.loop-d.invariant k s

pub returns : goal.returns
returns c = λ k s. rest_end (finding.declares c.args.codes.now c.args.args.now c.args.homes.now c.args.set c.args.w c.args.h) c.loop-d.d c.args.to c.loop-d-test.false ∙ c.loop-d.invariant k s
