use Rattle.base_pens.proofs.Pen as pens
use Rattle.spec_account.specs.Answers.{accepted_line}
use Rattle.spec_trails.specs.Trails.{verdicts}
use Rattle.base_kinds.specs.Kinds.{bytes}
use lib.ListN.{get_or}
use Prim.Native.Nat.{◌-◌}
use mathlib.Core.List.{[]}
use Rattle.show_answers.proofs.put_accepted.Goals as goal

pub returns : goal.returns
unfolding accepted_line
returns c = pens.then_puts (bytes "accepted ") _ _ _ _ c.put_all-a.ensures (pens.then_puts (get_or verdicts (c.args.v - 1) []) _ _ _ _ c.put_verdict-b.ensures (pens.one-put 10 _ _ c.put.ensures))
