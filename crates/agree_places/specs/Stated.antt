-- Bridge, for `demand2` (crate `demands`).
-- That a place is one of a statement, and that an item begins a unit with a body: docs/TABLES.md, "Links".
use Rattle.std.specs.Prelude.{ℕ}
use Rattle.spec_grammar.specs.Tree.{Sort, action, Tree, Body, Model}
use Rattle.spec_machine.specs.Stage.{Ways}
use Rattle.spec_machine.specs.Program.{Within}
use Rattle.agree_sizes.specs.Bodies.{Holds, Statement}

-- a statement of the tree has the place x
abbrev pub Found : (k : Sort) → Tree k → ℕ → ℕ → ℕ → ℕ → Type 0
Found k b i n o x = (y : Tree action) × (m : ℕ) × (u : ℕ) × Within k b i n o y x m u

-- in the model, a statement of the unit that item u begins has the place j
pub record Stated (m : Model) (u j : ℕ) : Type 0 where
  pub act : Tree action
  pub ways : Ways
  pub stands : Statement m u act j ways

-- in the units m, whose items begin at item i, item u begins a unit with a body
pub record Head (m : Model) (i u : ℕ) : Type 0 where
  pub own : Body
  pub at : ℕ
  pub held : Holds m i u own at
