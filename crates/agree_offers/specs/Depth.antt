-- Bridge, for `demand2` (crate `demands`).
-- How deep the selections of a tree nest, and how many options a selection has: document 01, "Ceilings", "statements 512", "open if/do 8".
use Rattle.std.specs.Prelude.{ℕ, suc, max, ◌≤◌, [], ◌∷◌}
use Rattle.base_ceilings.specs.Ceilings.{selections_most}
use Rattle.spec_grammar.specs.Tree.{Sort, options, Tree, leaf, select, loop, bare, labelled, end, then, over, option, Body, body, Part, mtypes, global, process, init, Model}

-- how many `if` and `do` stand inside of each other
abbrev pub depth : {k : Sort} → Tree k → ℕ
depth (leaf l) = 0
depth (select os) = suc (depth os)
depth (loop os) = suc (depth os)
depth (bare a) = depth a
depth (labelled w a) = depth a
depth end = 0
depth (then s q) = max (depth s) (depth q)
depth over = 0
depth (option q os) = max (depth q) (depth os)

abbrev pub options_in : Tree options → ℕ
options_in over = 0
options_in (option q os) = suc (options_in os)

-- ## the bodies of a model keep the ceiling
abbrev pub ShallowBody : Body → Type 0
ShallowBody (body ds q) = depth q ≤ selections_most

abbrev pub ShallowPart : Part → Type 0
ShallowPart (mtypes ws) = Unit {0}
ShallowPart (global d) = Unit {0}
ShallowPart (process x w gs b) = ShallowBody b
ShallowPart (init b) = ShallowBody b

abbrev pub ShallowModel : Model → Type 0
ShallowModel [] = Unit {0}
ShallowModel (x ∷ m) = ShallowPart x × ShallowModel m
