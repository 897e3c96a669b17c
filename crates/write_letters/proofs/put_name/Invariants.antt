use Rattle.table_layout.specs.Back.{upto}
use Rattle.table_layout.specs.Access.{name_length, name_byte}
use Rattle.base_pens.specs.Pen.{pen, puts}
use mathlib.Core.Path.{◌≡◌}
use Prim.Native.Nat.{◌-◌}
use Rattle.write_letters.proofs.put_name.Given as goal

abbrev pub invariant-loop-k : goal.invariant-loop-k
invariant-loop-k l = puts (upto (name_byte l.t l.i) l.k (l.n - l.k)) (pen l.out l.q) ≡ puts (upto (name_byte l.t l.i) 0 (name_length l.t l.i)) (pen l.initial.out l.initial.q)
