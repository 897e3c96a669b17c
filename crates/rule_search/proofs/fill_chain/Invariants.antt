use mathlib.Core.Path.{◌≡◌}
use lib.ListN.{length}
use Rattle.rule_search.specs.Chain.{linked_back}
use Rattle.rule_search.proofs.fill_chain.Given as goal

abbrev pub invariant-loop-j : goal.invariant-loop-j
invariant-loop-j l = linked_back l.codes l.args l.j l.chain ≡ linked_back l.codes l.args (length l.codes) l.initial.chain
