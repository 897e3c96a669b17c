use mathlib.Core.Path.{◌∙◌}
use native.Mathlib.Omega.{arith}
use Rattle.base_codes.specs.Sets.{rule_of}
use Rattle.rule_item.proofs.Table.{tabled, tabled_at}
use Rattle.rule_item.proofs.rule_of.Goals as goal

pub returns : goal.returns
unfolding rule_of tabled
returns c = c.byte_at.ensures ∙ tabled_at rule_of 256 c.args.c (omega arith)
