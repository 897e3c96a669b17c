use lib.Dec.{eqb}
use Rattle.spec_text.specs.Bytes.{star}
use mathlib.Core.Bool.{false}
use Rattle.text_pieces.specs.Spans.{closing}
use Rattle.text_pieces.proofs.Laws as laws
use lib.ListN.{drop}
use mathlib.Core.Path.{◌≡◌}
use Rattle.text_pieces.proofs.closing_in.Given as goal

abbrev pub invariant-loop-i : goal.invariant-loop-i
invariant-loop-i l = laws.later l.i (closing (eqb l.before star) (drop l.i l.s)) ≡ closing false l.s
