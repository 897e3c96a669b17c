use Rattle.rule_sheets.specs.Payload.{same_name, first_same}
use Rattle.rule_sheets.specs.Walks as walks
use Prim.Native.Nat.{◌-◌}
use mathlib.Core.Path.{◌≡◌}
use Rattle.rule_sheets.proofs.first_same.Given as goal

abbrev pub invariant-loop-i : goal.invariant-loop-i
invariant-loop-i l = walks.first (same_name l.text l.starts l.ends l.codes l.toks l.j) l.i (l.j - l.i) ≡ first_same l.text l.starts l.ends l.codes l.toks l.j
