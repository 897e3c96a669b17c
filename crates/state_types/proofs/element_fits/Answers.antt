use Rattle.state_types.proofs.Laws.{element_fits_lem}
use Rattle.state_types.proofs.element_fits.Goals as goal

pub returns : goal.returns
returns c = element_fits_lem c.args.s.now c.args.l c.args.p c.args.k c.type_of.ensures c.slot.ensures c.fits_at.ensures
