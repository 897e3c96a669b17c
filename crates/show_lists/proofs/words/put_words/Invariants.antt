use mathlib.Core.Path.{◌≡◌}
use lib.ListN.{drop}
use Rattle.base_pens.specs.Pen.{pen, puts}
use Rattle.show_lists.specs.Words as spec
use Rattle.show_lists.proofs.words.put_words.Given as goal

abbrev pub invariant-loop-b : goal.invariant-loop-b
invariant-loop-b l = puts (spec.words_from l.x (drop l.b-index l.line)) (pen l.out l.q) ≡ puts (spec.words_from l.initial.x l.line) (pen l.initial.out l.initial.q)
