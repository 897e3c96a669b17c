use mathlib.Core.Bool.{false}
use Rattle.text_pieces.specs.Spans.{quoted}
use Rattle.text_pieces.proofs.Laws as laws
use lib.ListN.{drop}
use mathlib.Core.Path.{◌≡◌}
use Rattle.text_pieces.proofs.quoted_from.Given as goal

abbrev pub invariant-loop-i : goal.invariant-loop-i
invariant-loop-i l = laws.after l.i (quoted l.escaped (drop l.i l.s)) ≡ quoted false l.s
