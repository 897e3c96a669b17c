use lib.ListN.{replicate}
use Rattle.base_ceilings.specs.Ceilings.{items_most}
use Rattle.write_rows.proofs.Laid.{cells-laid}
use mathlib.Core.Path.{refl, ap, ◌∙◌}
use Rattle.write_texts.proofs.Tokens as laws
use Prim.Native.Nat.{min}
use borrow.Author.Rules.{rules}
use Rattle.write_texts.proofs.tokens_of.Goals as goal

pub turn-requires : goal.turn-requires
turn-requires c = (c.lay_cells.ensures ∙ cells-laid (replicate 1340 0) refl, search rules, search rules, c.requires)

pub returns : goal.returns
returns c = (c.turn.ensures.0, laws.numbers_are c.args.t.now _ _ _ c.args.symbol c.args.from c.args.to c.least-all.result c.least-n.result (c.least-all.ensures ∙ ap (min items_most) c.items.ensures.value) c.least-n.ensures c.mark.ensures refl c.turn.ensures.1)
