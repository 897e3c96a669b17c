use mathlib.Core.Path.{◌∙◌}
use native.Mathlib.Omega.{arith}
use Rattle.base_codes.specs.Sets.{class_of}
use Rattle.rule_item.proofs.Table.{tabled, tabled_at}
use Rattle.link_items.proofs.class_of.Goals as goal

pub returns : goal.returns
unfolding class_of tabled
returns c = c.byte_at.ensures ∙ tabled_at class_of 256 c.args.c (omega arith)
