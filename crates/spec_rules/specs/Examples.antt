-- Document 01, "Ceilings": "expression height 32 (operand 1; operator, index, `len` 1 above its highest part)", and "Names": worked examples of what expressions and names count for, computed.
use Rattle.std.specs.Prelude.{◌≡◌, refl, true, false, [], ◌∷◌}
use Rattle.std.proofs.Math.Option.{none, some}
use Rattle.base_bytes.specs.Lists.{same}
use Rattle.base_kinds.specs.Kinds.{bytes}
use Rattle.spec_grammar.specs.Marks.{k_len}
use Rattle.spec_grammar.specs.Tree.{Name, plain, indexed, num, get, query, unary, binary, choice, leaf, skip, else, select, bare, labelled, end, then, over, option, unset, declare, body, idle, global, process, init}
use Rattle.spec_grammar.specs.Tree as tree
use Rattle.spec_rules.specs.Heights.{height}
use Rattle.spec_rules.specs.Senses.{variable, procedure, unknown, sense_in, sense_of}
use Rattle.spec_rules.specs.Statements.{labels_of, is_else_lem}
use Rattle.spec_rules.specs.Units.{of_model}

abbrev a : Name
a = bytes "a"

abbrev p : Name
p = bytes "p"

-- `1`, `a`, `a[1]`, `len(a)`, `len(a[1])`, `~1`, `1+~1`
heights : (height (num 1) ≡ 1) × (height (get (plain a)) ≡ 1) × (height (get (indexed a (num 1))) ≡ 2) × (height (query k_len (plain a)) ≡ 2) × (height (query k_len (indexed a (num 1))) ≡ 3)
    × (height (unary 20 (num 1)) ≡ 2) × (height (binary 14 (num 1) (unary 20 (num 1))) ≡ 3)
heights = (refl, refl, refl, refl, refl, refl, refl)

-- each part of a conditional counts: `(~1 -> 1 : 1)`, `(1 -> ~1 : 1)`, `(1 -> 1 : ~1)`
height_of_parts : (height (choice (unary 20 (num 1)) (num 1) (num 1)) ≡ 3) × (height (choice (num 1) (unary 20 (num 1)) (num 1)) ≡ 3) × (height (choice (num 1) (num 1) (unary 20 (num 1))) ≡ 3)
height_of_parts = (refl, refl, refl)

-- the first declaration of a name counts, and a local hides a global: `chan a[2];int a;proctype p(){skip}`
first_counts : (sense_in (of_model (global (declare 43 (tree.variable a (some 2) unset ∷ [])) ∷ global (declare 45 (tree.variable a none unset ∷ [])) ∷ [])) a ≡ variable true true)
    × (sense_in (of_model (process idle p [] (body [] (then (bare (leaf skip)) end)) ∷ [])) p ≡ procedure 0)
    × (sense_in (of_model (init (body [] (then (bare (leaf skip)) end)) ∷ [])) p ≡ unknown)
    × (sense_of (of_model (global (declare 45 (tree.variable p none unset ∷ [])) ∷ [])) (of_model (process idle p [] (body [] (then (bare (leaf skip)) end)) ∷ [])) p ≡ variable false false)
unfolding same sense_in sense_of
first_counts = (refl, refl, refl, refl)

-- `if::else::a:else fi`: the labelled one does not count, and the label is found
options : (is_else_lem (option (then (bare (leaf else)) end) (option (then (labelled a (leaf else)) end) over)) ≡ 1)
    × (labels_of (select (option (then (bare (leaf else)) end) (option (then (labelled a (leaf else)) end) over))) ≡ a ∷ [])
options = (refl, refl)
