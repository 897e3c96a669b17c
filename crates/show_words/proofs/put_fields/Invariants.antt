use Prim.Native.Nat.{◌-◌}
use mathlib.Core.Path.{◌≡◌}
use Rattle.base_pens.specs.Pen.{pen, puts}
use Rattle.show_words.proofs.Laws as laws
use Rattle.show_words.proofs.put_fields.Given as goal

abbrev pub invariant-loop-f : goal.invariant-loop-f
invariant-loop-f l = puts (laws.further l.s l.c l.m l.f (l.n - l.f)) (pen l.out l.q) ≡ puts (laws.further l.s l.c l.m l.initial.f (l.n - l.initial.f)) (pen l.initial.out l.initial.q)
