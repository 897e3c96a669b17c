use Rattle.spec_account.specs.States.{values_text}
use Prim.Native.Nat.{◌-◌}
use mathlib.Core.Path.{◌≡◌}
use Rattle.base_pens.specs.Pen.{pen, puts}
use Rattle.show_state.specs.Listing as listing
use Rattle.show_state.proofs.put_numbers.Given as goal

abbrev pub invariant-loop-k : goal.invariant-loop-k
invariant-loop-k l = puts (values_text (listing.numbers_from l.s l.l l.x l.k (l.n - l.k))) (pen l.out l.q) ≡ puts (values_text (listing.numbers_in l.s l.l l.x)) (pen l.initial.out l.initial.q)
