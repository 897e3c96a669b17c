use Prim.Native.Nat.{◌-◌}
use mathlib.Core.Path.{◌≡◌}
use Rattle.base_pens.specs.Pen.{pen, puts}
use Rattle.show_state.specs.Listing as listing
use Rattle.show_state.proofs.put_globals.Given as goal

abbrev pub invariant-loop-j : goal.invariant-loop-j
invariant-loop-j l = puts (listing.along (listing.global_in l.t l.s) l.j (l.n - l.j)) (pen l.out l.q) ≡ puts (listing.globals_in l.t l.s) (pen l.initial.out l.initial.q)
