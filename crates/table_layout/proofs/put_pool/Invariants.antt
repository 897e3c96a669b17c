use Prim.Native.Nat.{◌-◌}
use mathlib.Core.Path.{◌≡◌}
use Rattle.base_pens.specs.Pack.{well, pour}
use Rattle.base_pens.specs.Pen.{pen}
use Rattle.table_entries.specs.Sources.{entry_at}
use Rattle.table_entries.specs.Entry.{joined, runs, bytes}
use Rattle.table_layout.proofs.put_pool.Given as goal

abbrev pub invariant-loop-i : goal.invariant-loop-i
invariant-loop-i l = pour (joined bytes (runs (entry_at l.text l.starts l.ends l.codes l.toks) l.i (l.n - l.i))) (well (pen l.out l.w.at) l.w.held l.w.a l.w.b l.w.c) ≡ pour (joined bytes (runs (entry_at l.text l.starts l.ends l.codes l.toks) 0 l.n)) (well (pen l.initial.out l.p) 0 0 0 0)
