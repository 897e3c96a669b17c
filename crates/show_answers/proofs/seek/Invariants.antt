use Rattle.rule_sheets.specs.Walks.{first}
use Prim.Native.Nat.{◌-◌, min}
use mathlib.Core.Path.{◌≡◌}
use lib.Dec.{eqb}
use lib.ListN.{length, get_or}
use Rattle.show_answers.proofs.seek.Given as goal

abbrev pub invariant-loop-k : goal.invariant-loop-k
invariant-loop-k l = first (λ n. eqb (get_or l.line n 0) l.b) l.k (length l.line - l.k) ≡ first (λ n. eqb (get_or l.line n 0) l.b) (min l.from (length l.line)) (length l.line - min l.from (length l.line))
