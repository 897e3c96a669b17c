use mathlib.Core.Path.{ap}
use Prim.Native.Nat.{◌+◌}
use Rattle.state_layout.proofs.Laws.{count_at}
use Rattle.state_layout.proofs.waiting_of.Goals as goal

pub returns : goal.returns
returns c = let all = count_at c.args.s.now (c.count.ensures.value, c.count.ensures.upper_bound) (ap (λ i. i + 1) c.channel_at.ensures) in record { value = all.0; upper_bound = all.1 }
