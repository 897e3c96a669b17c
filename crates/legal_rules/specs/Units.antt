-- Mechanism, held to the specification by `faults-lawful` (proofs/Lawful.antt): WHICH MODELS HAVE NO FAULT of names and rules, said of the tree alone.
use Rattle.std.specs.Prelude.{ℕ, ◌+◌, Bool, true, false, not, List, [], ◌∷◌, ◌++◌, map, length, leb}
use Rattle.std.proofs.Math.Option.{Option, none, some}
use Rattle.base_ceilings.specs.Ceilings.{array_least, array_most, capacity_least, capacity_most, fields_most}
use Rattle.base_bytes.specs.Choice.{both}
use Rattle.base_bytes.specs.Lists.{same}
use Rattle.spec_text.specs.Names.{pid}
use Rattle.spec_grammar.specs.Tree.{Name, Value, unset, set_number, set_minus, set_true, set_false, set_name, set_channel, Declaration, declare, Body, body, Part, mtypes, global, process, init, Model}
use Rattle.spec_grammar.specs.Tree as tree
use Rattle.spec_rules.specs.Senses.{Sense, Scope, fresh, is_constant, sense_of}
use Rattle.spec_rules.specs.Statements.{labels_of}
use Rattle.spec_rules.specs.Units.{sense_of_variable, scope_of_declaration, scope_of_groups, of_message, of_part, of_model, tally}
use Rattle.legal_rules.specs.Statements.{apart, allowed}

abbrev pub scope_of_declarations : List Declaration → Scope
scope_of_declarations [] = []
scope_of_declarations (d ∷ ds) = scope_of_declaration d ++ scope_of_declarations ds

-- ## declarations, in a body with these locals so far, behind these globals; outside of bodies the space of the name is that of the globals
-- "array 1 to 32"
abbrev pub sized : Option ℕ → Bool
sized none = true
sized (some n) = both (leb array_least n) (leb n array_most)

-- an mtype name is the value of a name; "message fields 1 to 4; capacity 1 to 8"
abbrev pub valued : (Name → Sense) → Value → Bool
valued sense unset = true
valued sense (set_number n) = true
valued sense (set_minus n) = true
valued sense set_true = true
valued sense set_false = true
valued sense (set_name w) = both (not (same w pid)) (is_constant (sense w))
valued sense (set_channel n ks) = both (both (leb capacity_least n) (leb n capacity_most)) (leb (length ks) fields_most)

-- each name of a list is new in its space, and joins it
unfoldable pub joins : Scope → Scope → Bool
joins l [] = true
joins l (d ∷ ds) = both (fresh l d.name) (joins (l ++ d ∷ []) ds)

-- a variable of a body: its own value already sees it, "from its own name on"
abbrev pub local_lawful : Scope → Scope → ℕ → tree.Variable → Bool
local_lawful globals l k (tree.variable w s v) = both (fresh l w) (both (sized s) (valued (sense_of (l ++ sense_of_variable k (tree.variable w s v) ∷ []) globals) v))

abbrev pub global_lawful : Scope → ℕ → tree.Variable → Bool
global_lawful l k (tree.variable w s v) = both (fresh l w) (both (sized s) (valued (sense_of [] (l ++ sense_of_variable k (tree.variable w s v) ∷ [])) v))

unfoldable pub variables : (Scope → tree.Variable → Bool) → ℕ → Scope → List tree.Variable → Bool
variables f k l [] = true
variables f k l (x ∷ xs) = both (f l x) (variables f k (l ++ sense_of_variable k x ∷ []) xs)

unfoldable pub declarations : Scope → Scope → List Declaration → Bool
declarations globals l [] = true
declarations globals l (declare k xs ∷ ds) = both (variables (λ l x. local_lawful globals l k x) k l xs) (declarations globals (l ++ scope_of_declaration (declare k xs)) ds)

-- ## bodies and units
-- a body behind these globals, with these parameters, in the model
unfoldable pub body_lawful : Scope → Scope → Scope → Body → Bool
body_lawful model globals parameters (body ds q) =
    both (declarations globals parameters ds)
    (both (apart (labels_of q)) (allowed record { locals = parameters ++ scope_of_declarations ds; globals = globals; model = model; labels = labels_of q } false false q))

abbrev pub part_lawful : Scope → Scope → Part → Bool
part_lawful model globals (mtypes ws) = joins globals (map of_message ws)
part_lawful model globals (global (declare k xs)) = variables (λ l x. global_lawful l k x) k globals xs
part_lawful model globals (process a w gs b) =
    both (fresh globals w) (both (joins [] (scope_of_groups gs)) (body_lawful model (globals ++ of_part (process a w gs b)) (scope_of_groups gs) b))
part_lawful model globals (init b) = body_lawful model globals [] b

unfoldable pub parts_lawful : Scope → Scope → Model → Bool
parts_lawful model globals [] = true
parts_lawful model globals (u ∷ m) = both (part_lawful model globals u) (parts_lawful model (globals ++ of_part u) m)

-- "second `mtype` list or `init`"
abbrev pub mtypes_in : Part → ℕ
mtypes_in (mtypes ws) = 1
mtypes_in (global d) = 0
mtypes_in (process a w gs b) = 0
mtypes_in (init b) = 0

abbrev pub inits_in : Part → ℕ
inits_in (mtypes ws) = 0
inits_in (global d) = 0
inits_in (process a w gs b) = 0
inits_in (init b) = 1

-- the whole model
unfoldable pub model_lawful : Model → Bool
model_lawful m = both (both (leb (tally mtypes_in m) 1) (leb (tally inits_in m) 1)) (parts_lawful (of_model m) [] m)
