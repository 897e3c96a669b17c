-- Bridge, for `demand2` (crate `demands`).
-- What stands behind a whole expression, or a reference that stands alone: document 01, "expression height 32 (operand 1; operator, index, `len` 1 above its highest part)", which is
-- judged there (crate `rule_item`).
use Rattle.std.specs.Prelude.{◌≡◌}
use Rattle.base_codes.specs.Items.{Item, code_of}
use Rattle.base_codes.specs.Sets.{rule_of}

pub data Closes (x : Item) : Type 0 where
  -- an argument, a received variable, an expression as a statement, the parts of an assignment, `++`, `--`, the channel of a send or a receive
  plainly : rule_of (code_of x) ≡ 2 → Closes x
  -- `eval(e)`, `assert(e)`
  in_parentheses : rule_of (code_of x) ≡ 17 → Closes x
