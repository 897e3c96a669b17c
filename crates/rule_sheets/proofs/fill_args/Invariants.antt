use Rattle.rule_sheets.specs.Payload as payload
use Rattle.rule_sheets.specs.Walks as walks
use lib.ListN.{length}
use Prim.Native.Nat.{◌-◌}
use mathlib.Core.Path.{◌≡◌}
use Rattle.rule_sheets.proofs.fill_args.Given as goal

abbrev pub invariant-loop-j : goal.invariant-loop-j
invariant-loop-j l = walks.filled (λ l' i. payload.arg_of l.text l.starts l.ends l.codes l.toks i) l.j (length l.codes - l.j) l.args ≡ payload.args_of l.text l.starts l.ends l.codes l.toks l.initial.args
