use lib.ListN.{length}
use Prim.Native.Nat.{◌-◌, ◌+◌, ◌*◌, ◌≤◌}
use mathlib.Core.Path.{◌≡◌}
use Rattle.base_ceilings.specs.Ceilings.{string_most}
use Rattle.table_entries.specs.Sources.{entry_at}
use Rattle.table_entries.specs.Entry.{joined, runs, bytes}
use Rattle.table_layout.proofs.count_bytes.Given as goal

abbrev pub invariant-loop-i : goal.invariant-loop-i
invariant-loop-i l = (l.sum ≤ string_most * l.i) × (l.sum + length (joined bytes (runs (entry_at l.text l.starts l.ends l.codes l.toks) l.i (l.n - l.i))) ≡ length (joined bytes (runs (entry_at l.text l.starts l.ends l.codes l.toks) 0 l.n)))
