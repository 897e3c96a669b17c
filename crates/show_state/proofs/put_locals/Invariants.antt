use Prim.Native.Nat.{◌-◌, ◌+◌}
use mathlib.Core.Path.{◌≡◌}
use Rattle.base_pens.specs.Pen.{pen, puts}
use Rattle.show_state.specs.Listing as listing
use Rattle.show_state.proofs.put_locals.Given as goal

abbrev pub invariant-loop-k : goal.invariant-loop-k
invariant-loop-k l = puts (listing.along (λ i. listing.local_in l.t l.s l.x (l.u + i)) l.k (l.n - l.k)) (pen l.out l.q) ≡ puts (listing.locals_in l.t l.s l.x) (pen l.initial.out l.initial.q)
