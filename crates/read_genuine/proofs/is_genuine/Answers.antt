use lib.Seq.{length-take-le}
use native.Mathlib.Omega.{arith}
use mathlib.Core.Path.{refl, sym}
use Rattle.read_genuine.specs.Genuine.{genuine}
use Rattle.read_genuine.proofs.Laws as laws
use Rattle.read_genuine.proofs.is_genuine.Goals as goal

pub returns-then-n-gt-NORMAL_MOST : goal.returns-then-n-gt-NORMAL_MOST
unfolding genuine
returns-then-n-gt-NORMAL_MOST c = rw (← c.written-w.ensures) (laws.too_long _ _ _ c.write_normal-n.result refl c.write_normal-n.ensures _ (omega arith))

pub slice_bounds-gives-end : goal.slice_bounds-gives-end
slice_bounds-gives-end c = sym (length-take-le c.write_normal-n.result c.write_normal-n.new.out (omega (arith, c.write_normal-n.auto.out)))

pub returns : goal.returns
unfolding genuine
returns c = rw (← c.written-w.ensures) (laws.fits_in _ _ _ c.write_normal-n.result refl c.write_normal-n.ensures _ c.gives.result (omega arith) c.gives.ensures)
