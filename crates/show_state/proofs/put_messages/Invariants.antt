use Rattle.show_words.specs.Words.{message_in}
use Prim.Native.Nat.{◌-◌}
use mathlib.Core.Path.{◌≡◌}
use Rattle.base_pens.specs.Pen.{pen, puts}
use Rattle.show_state.specs.Listing as listing
use Rattle.show_state.proofs.put_messages.Given as goal

abbrev pub invariant-loop-m : goal.invariant-loop-m
invariant-loop-m l = puts (listing.along (λ i. message_in l.s l.c i l.n) l.m (l.w - l.m)) (pen l.out l.q) ≡ puts (listing.messages_in l.s l.c l.n) (pen l.initial.out l.initial.q)
