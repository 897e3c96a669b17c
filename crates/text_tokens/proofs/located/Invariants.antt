use Rattle.text_tokens.specs.Lines.{behind}
use lib.ListN.{take, drop}
use mathlib.Core.Path.{◌≡◌}
use Prim.Native.Nat.{◌+◌, ◌≤◌}
use Rattle.text_tokens.proofs.located.Given as goal

abbrev pub invariant-loop-b : goal.invariant-loop-b
invariant-loop-b l = (l.line ≤ l.b-index + 1) × (l.column ≤ l.b-index + 1) × (behind l.line l.column (drop l.b-index (take l.most l.text)) ≡ behind 1 1 (take l.most l.text))
