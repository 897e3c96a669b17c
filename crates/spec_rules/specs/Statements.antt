-- What is asked of statements: document 01, "Grammar" ("`else` is only the first statement of an option, unlabelled, once per selection") and "Names" ("labels are per body").
use Rattle.std.specs.Prelude.{ℕ, ◌+◌, Bool, true, false, List, [], ◌∷◌, ◌++◌}
use Rattle.base_bytes.specs.Choice.{pick, both, either}
use Rattle.base_bytes.specs.Lists.{same}
use Rattle.spec_grammar.specs.Tree.{Name, Sort, Tree, leaf, select, loop, bare, labelled, end, then, over, option, is_else}
use Rattle.spec_rules.specs.Senses.{Sense, Scope, sense_of}

-- where a body's statements stand: its own names, the globals declared before it, all globals of the model, and its labels
pub record Place : Type 0 where
  pub locals : Scope
  pub globals : Scope
  pub model : Scope
  pub labels : List Name

abbrev pub all : {A : Type 0} → (A → Bool) → List A → Bool
all f [] = true
all f (a ∷ l) = both (f a) (all f l)

abbrev pub has : List Name → Name → Bool
has [] w = false
has (v ∷ l) w = either (same v w) (has l w)

-- the labels of a tree, in text order
abbrev pub labels_of : {k : Sort} → Tree k → List Name
labels_of (leaf l) = []
labels_of (select os) = labels_of os
labels_of (loop os) = labels_of os
labels_of (bare a) = labels_of a
labels_of (labelled w a) = w ∷ labels_of a
labels_of end = []
labels_of (then s q) = labels_of s ++ labels_of q
labels_of over = []
labels_of (option q os) = labels_of q ++ labels_of os

-- an option begins with `else`
abbrev pub is_else_lem : {k : Sort} → Tree k → ℕ
is_else_lem (leaf l) = pick (is_else l) 1 0
is_else_lem (select os) = 0
is_else_lem (loop os) = 0
is_else_lem (bare a) = is_else_lem a
is_else_lem (labelled w a) = 0
is_else_lem end = 0
is_else_lem (then s q) = is_else_lem s
-- of options, how many do
is_else_lem over = 0
is_else_lem (option q os) = is_else_lem q + is_else_lem os

abbrev pub sense : Place → Name → Sense
sense at = sense_of at.locals at.globals
