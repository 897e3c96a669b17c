use lib.ListN.{length}
use Prim.Native.Nat.{◌-◌, ◌+◌, ◌≤◌}
use mathlib.Core.Path.{◌≡◌}
use Rattle.table_entries.specs.Sources.{entry_at}
use Rattle.table_entries.specs.Entry.{runs}
use Rattle.table_layout.specs.Tables as spec
use Rattle.table_layout.proofs.count_numbers.Given as goal

abbrev pub invariant-loop-i : goal.invariant-loop-i
invariant-loop-i l = (l.sum ≤ l.i) × (l.sum + length (spec.numbers (runs (entry_at l.text l.starts l.ends l.codes l.toks) l.i (l.n - l.i))) ≡ length (spec.numbers (runs (entry_at l.text l.starts l.ends l.codes l.toks) 0 l.n)))
