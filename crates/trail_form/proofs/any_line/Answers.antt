use native.Mathlib.Omega.{arith}
use Rattle.spec_trails.specs.Trails.{line_end}
use Rattle.trail_form.specs.Records.{is_not, record_of}
use Rattle.text_pieces.proofs.Laws.{span_le}
use lib.Seq.{length-take-le}
use lib.ListN.{take}
use mathlib.Core.Path.{sym, ap, ◌∙◌}
use Rattle.trail_form.proofs.any_line.Goals as goal

pub slice_bounds-record_of-end : goal.slice_bounds-record_of-end
slice_bounds-record_of-end c = sym (length-take-le c.up_to-n.result c.args.s.now (omega (arith, c.up_to-n.ensures, span_le (is_not line_end) c.args.s.now)))

pub returns : goal.returns
returns c = record { length_value = c.up_to-n.ensures; record_value = c.record_of.ensures ∙ ap (λ n. record_of (take n c.args.s.now)) c.up_to-n.ensures }
