-- What declarations and units declare: document 01, "Names": "globals, mtype names and proctypes share one space". Ceilings that row 6 names are in specs/Ceilings.antt.
use Rattle.std.specs.Prelude.{ℕ, ◌+◌, Bool, true, false, List, [], ◌∷◌, ◌++◌, map, length, eqb}
use Rattle.std.proofs.Math.Option.{Option, none, some}
use Rattle.spec_grammar.specs.Tree.{Name, Declaration, declare, Group, group, Part, mtypes, global, process, init, Model}
use Rattle.spec_grammar.specs.Tree as tree
use Rattle.spec_rules.specs.Senses.{variable, constant, procedure, Declared, declared, Scope}

-- ## what is declared
-- type 43 is chan
abbrev pub is_array : Option ℕ → Bool
is_array none = false
is_array (some n) = true

abbrev pub sense_of_variable : ℕ → tree.Variable → Declared
sense_of_variable k (tree.variable w s v) = declared w (variable (eqb k 43) (is_array s))

abbrev pub scope_of_declaration : Declaration → Scope
scope_of_declaration (declare k xs) = map (sense_of_variable k) xs

abbrev pub sense_of_parameter : ℕ → Name → Declared
sense_of_parameter k w = declared w (variable (eqb k 43) false)

abbrev pub scope_of_group : Group → Scope
scope_of_group (group k ws) = map (sense_of_parameter k) ws

abbrev pub scope_of_groups : List Group → Scope
scope_of_groups [] = []
scope_of_groups (g ∷ gs) = scope_of_group g ++ scope_of_groups gs

abbrev pub of_message : Name → Declared
of_message w = declared w constant

-- the globals of a unit
abbrev pub of_part : Part → Scope
of_part (mtypes ws) = map of_message ws
of_part (global d) = scope_of_declaration d
of_part (process a w gs b) = declared w (procedure (length (scope_of_groups gs))) ∷ []
of_part (init b) = []

abbrev pub of_model : Model → Scope
of_model [] = []
of_model (u ∷ m) = of_part u ++ of_model m

abbrev pub tally : {A : Type 0} → (A → ℕ) → List A → ℕ
tally f [] = 0
tally f (a ∷ l) = f a + tally f l
