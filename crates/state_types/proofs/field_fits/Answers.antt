use Rattle.state_types.proofs.Laws.{field_fits_lem}
use Rattle.state_types.proofs.field_fits.Goals as goal

pub returns : goal.returns
returns c = field_fits_lem c.args.t.now c.args.s.now c.args.c c.args.d c.args.m c.args.f c.field_type.ensures c.field_at.ensures c.fits_at.ensures
