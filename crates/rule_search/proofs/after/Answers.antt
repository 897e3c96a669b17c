use Rattle.rule_search.specs.Search as finding
use Rattle.rule_search.specs.Sets as sets
use Rattle.rule_sheets.proofs.Walks as laws
use lib.ListN.{get_or}
use Prim.Native.Nat.{◌-◌}
use mathlib.Core.Path.{refl, ◌∙◌, ap}
use native.Mathlib.Omega.{arith}
use Rattle.rule_search.proofs.after.Goals as goal

pub loop-k-init : goal.loop-k-init
unfolding finding.last
loop-k-init c = refl

pub returns-then-among : goal.returns-then-among
returns-then-among c = laws.after_stop (λ i. sets.among c.args.set (get_or c.args.codes.now i 0)) c.loop-k.k (c.loop-k.k - 1) (omega arith) (c.among.ensures ∙ ap (sets.among c.args.set) c.byte_at.ensures) c.if-among.true ∙ c.loop-k.invariant

pub loop-k-preserved : goal.loop-k-preserved
loop-k-preserved c = laws.after_more (λ i. sets.among c.args.set (get_or c.args.codes.now i 0)) c.loop-k.k (c.loop-k.k - 1) (omega arith) (c.among.ensures ∙ ap (sets.among c.args.set) c.byte_at.ensures) c.if-among.false ∙ c.loop-k.invariant

pub returns : goal.returns
returns c = laws.after_end (λ i. sets.among c.args.set (get_or c.args.codes.now i 0)) c.loop-k.k (omega arith) ∙ c.loop-k.invariant
