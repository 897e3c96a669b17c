use Rattle.state_types.proofs.Laws.{fits_as}
use Rattle.state_types.proofs.fits_at.Goals as goal

pub returns : goal.returns
returns c = fits_as c.args.s.now c.args.ty c.args.i c.cell-v.type_inv c.cell-v.ensures c.cast.type_inv c.cast.ensures
