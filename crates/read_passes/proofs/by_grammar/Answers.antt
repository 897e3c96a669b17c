use mathlib.Core.Path.{refl}
use borrow.Author.Rules.{rules}
use Rattle.read_passes.specs.Judging.{by_grammar}
use Rattle.read_passes.proofs.Passes as laws
use Rattle.read_passes.proofs.by_grammar.Goals as goal

pub returns-in-Items-clause-value : goal.returns-in-Items-clause-value
returns-in-Items-clause-value c = laws.items-judged c.args.text.now c.args.kinds.now c.args.starts.now c.args.ends.now c.parse-p.result _ _ _ _ _ _ _ c.parse-p.ensures refl refl c.parse-p.auto.codes refl c.parse-p.auto.tokens c.in-Items.n c.least-m.result c.by_rules.result c.in-Items.is c.least-m.ensures c.by_rules.ensures.value

pub returns-in-Items-clause-out_after : goal.returns-in-Items-clause-out_after
returns-in-Items-clause-out_after c = laws.items_left c.args.text.now c.args.kinds.now c.args.starts.now c.args.ends.now c.parse-p.result _ _ _ _ _ _ _ c.parse-p.ensures refl refl c.parse-p.auto.codes refl c.parse-p.auto.tokens c.in-Items.n c.least-m.result c.by_rules.result _ _ c.in-Items.is c.least-m.ensures c.by_rules.ensures.out_after

pub returns-in-Refused-clause-value : goal.returns-in-Refused-clause-value
unfolding by_grammar
returns-in-Refused-clause-value c = search rules
