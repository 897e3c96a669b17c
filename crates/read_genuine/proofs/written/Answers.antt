use lib.Seq.{length-take-le}
use mathlib.Core.Path.{sym}
use native.Mathlib.Omega.{arith}
use Rattle.read_genuine.proofs.written.Goals as goal

pub slice_bounds-result-end : goal.slice_bounds-result-end
slice_bounds-result-end c = sym (length-take-le c.least-n.result c.args.t.now (omega (arith, c.least-n.ensures)))

pub returns : goal.returns
returns c = rw (c.least-n.ensures, c.length_of.ensures)
