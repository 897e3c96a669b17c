use lib.ListN.{replicate}
use mathlib.Core.Path.{◌∙◌, refl}
use Rattle.parse_tables.proofs.Laid.{choices-laid, rights-laid}
use borrow.Author.Rules.{rules}
use Rattle.parse_items.proofs.drive.Goals as goal

pub run-requires : goal.run-requires
run-requires c = (c.lay_choices.ensures ∙ choices-laid (replicate 5476 0) refl, c.lay_rights.ensures ∙ rights-laid (replicate 2275 0) refl, search rules, search rules, search rules)
