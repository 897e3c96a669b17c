use Prim.Native.Nat.{◌-◌, ◌*◌, ◌≤◌}
use mathlib.Core.Path.{◌≡◌}
use Rattle.base_ceilings.specs.Ceilings.{string_most}
use Rattle.base_pens.specs.Pen.{pen, puts}
use Rattle.table_entries.specs.Sources.{entry_at}
use Rattle.table_entries.specs.Entry.{runs}
use Rattle.table_layout.specs.Tables as spec
use Rattle.table_layout.proofs.put_items.Given as goal

abbrev pub invariant-loop-i : goal.invariant-loop-i
invariant-loop-i l = (l.o ≤ string_most * l.i) × (l.k ≤ l.i) × (puts (spec.item_words l.o l.k (runs (entry_at l.text l.starts l.ends l.codes l.toks) l.i (l.n - l.i))) (pen l.out l.q) ≡ puts (spec.item_words 0 0 (runs (entry_at l.text l.starts l.ends l.codes l.toks) 0 l.n)) (pen l.initial.out l.p))
