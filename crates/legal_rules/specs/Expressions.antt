-- Mechanism, held to the specification by `faults-lawful` (proofs/Lawful.antt): which expressions have no fault, said of the tree alone. Their names stand for what they are used as, and they
-- are not too high. `sense` says what a name stands for where the expression stands.
use Rattle.std.specs.Prelude.{Bool, true, false, not, leb}
use Rattle.base_ceilings.specs.Ceilings.{height_most}
use Rattle.base_bytes.specs.Choice.{pick, both}
use Rattle.base_bytes.specs.Lists.{same}
use Rattle.spec_text.specs.Names.{pid}
use Rattle.spec_grammar.specs.Tree.{Name, Expr, Shape, Exp, plain, indexed, num, tru, fls, get, query, unary, binary, choice}
use Rattle.spec_rules.specs.Heights.{height}
use Rattle.spec_rules.specs.Senses.{Sense, variable, constant, procedure, unknown}
use Rattle.spec_rules.specs.Roles.{Role, operand, channel, for_constant, for_pid, for_chan, alike}

abbrev pub suits : Role → Bool → Sense → Bool
suits role index (variable chan array) = both (for_chan role chan) (alike index array)
suits role index constant = both (for_constant role) (not index)
suits role index (procedure n) = false
suits role index unknown = false

module _ (sense : Name → Sense) where
  -- a name used in a role, with an index or without one
  unfoldable pub usable : Role → Bool → Name → Bool
  usable role index w = pick (same w pid) (both (for_pid role) (not index)) (suits role index (sense w))

  -- the expression's own reference is used as `role` says, all others are operands
  unfoldable pub named : {s : Shape} → Role → Exp s → Bool
  named role (plain w) = usable role false w
  named role (indexed w e) = both (usable role true w) (named operand e)
  named role (num n) = true
  named role tru = true
  named role fls = true
  named role (get r) = named operand r
  named role (query o r) = named channel r
  named role (unary o e) = named operand e
  named role (binary o a b) = both (named operand a) (named operand b)
  named role (choice a b c) = both (named operand a) (both (named operand b) (named operand c))

  -- "expression height 32", of a whole expression, or of a reference that stands alone
  unfoldable pub lawful : {s : Shape} → Role → Exp s → Bool
  lawful role e = both (leb (height e) height_most) (named role e)

  abbrev pub whole : Expr → Bool
  whole e = lawful operand e
