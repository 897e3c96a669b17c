use Rattle.write_texts.proofs.Rows as laws
use Rattle.write_texts.proofs.cell.Goals as goal

pub returns : goal.returns
returns c = record { value = laws.cell_is c.args.rows.now c.args.r c.args.k _ _ c.requires.0 c.requires.2 c.byte_at.ensures c.wide.ensures.value; upper_bound = c.wide.ensures.upper_bound }
