use Prim.Native.Nat.{◌-◌}
use mathlib.Core.Path.{◌≡◌}
use Rattle.base_pens.specs.Pen.{pen, puts}
use Rattle.show_state.specs.Listing as listing
use Rattle.show_state.proofs.put_channels.Given as goal

abbrev pub invariant-loop-c : goal.invariant-loop-c
invariant-loop-c l = puts (listing.along (listing.channel_in l.t l.s) l.c (l.n - l.c)) (pen l.out l.q) ≡ puts (listing.channels_in l.t l.s) (pen l.initial.out l.initial.q)
