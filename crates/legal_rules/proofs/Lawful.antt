-- A MODEL has no fault exactly where it is lawful: declarations, units, and the whole.
use Prim.Native.Nat.{ℕ, ◌+◌, ◌≤◌}
use native.Mathlib.Omega.{arith}
use mathlib.Core.Path.{◌≡◌, refl, sym, ap, ap₂, ◌∙◌}
use mathlib.Core.Bool.{Bool, true, false, not}
use mathlib.Core.List.{List, [], ◌∷◌, ◌++◌, map, append-nil, append_assoc}
use lib.ListN.{length}
use lib.Dec.{eqb, leb}
use Rattle.base_ceilings.specs.Ceilings.{array_least, array_most, capacity_least, capacity_most, fields_most}
use Rattle.base_bytes.specs.Choice.{pick, both, either}
use Rattle.base_bytes.specs.Lists.{same}
use Rattle.base_bytes.proofs.Lists.{same_refl, same_eq}
use Rattle.base_bytes.proofs.Tests.{true_false}
use Rattle.spec_text.specs.Names.{pid}
use Rattle.base_kinds.specs.Kinds.{Token}
use Rattle.spec_grammar.specs.Tree.{Name, Value, Variable, declare, Group, Body, Part, mtypes, global, process, init, Model}
use Rattle.spec_grammar.specs.Tree as tree
use Rattle.spec_grammar.specs.Grammar as gram
use Rattle.spec_grammar.specs.Grammar.{Listed, MaybeListed, AName}
use Rattle.spec_grammar.specs.Grammar.{AValue, v_number, v_minus, v_true, v_false, v_name, AVariable, x_bare, x_set, x_array, x_array_set, x_channel, declaration, AGroup, a_group, Items, statements, ABody, a_body, AUnit, u_mtypes, u_global, u_process, u_init, Gram, g_last, g_more}
use Rattle.spec_rules.specs.Senses.{Sense, Declared, Scope, fresh, is_constant, sense_of}
use Rattle.spec_rules.specs.Statements.{has, labels_of}
use Rattle.legal_rules.specs.Statements.{apart, allowed}
use Rattle.spec_rules.specs.Units.{sense_of_variable, scope_of_declaration, sense_of_parameter, scope_of_group, scope_of_groups, of_message, of_part, of_model, tally}
use Rattle.legal_rules.specs.Units.{scope_of_declarations, sized, valued, joins, local_lawful, global_lawful, variables, declarations, body_lawful, part_lawful, parts_lawful, mtypes_in, inits_in, model_lawful}
use Rattle.spec_faults.specs.Faults.{unless, in_list, in_maybe, new_name, in_value, in_array, in_variable, in_declaration, in_name, in_group, in_tree, in_items, in_body, is_list, is_init, in_unit, in_units, faults_of}
use Rattle.legal_rules.proofs.None.{none, none-unless, both_end, both_assoc, two, three, each_ok, list_ok, maybe_ok}
use Rattle.legal_rules.proofs.Labels as labels
use Rattle.legal_rules.proofs.Statements.{room, tree_ok, option_next}

-- ---- declarations
value_ok : (sense : Name → Sense) {ts : List Token} {v : Value} (x : AValue ts v) (i : ℕ) → none (in_value sense x i) ≡ valued sense v
value_ok sense v_number i = refl
value_ok sense v_minus i = refl
value_ok sense v_true i = refl
value_ok sense v_false i = refl
value_ok sense (v_name {w = w}) i = none-unless (both (not (same w pid)) (is_constant (sense w))) 3 i

module _ (sees : Scope → Name → Sense) where
  -- a variable of type k behind the names of a scope
  abbrev variable_ok : ℕ → Scope → Variable → Bool
  variable_ok k l (tree.variable w s v) = both (fresh l w) (both (sized s) (valued (sees (l ++ sense_of_variable k (tree.variable w s v) ∷ [])) v))

  variable_ok_lem : (k : ℕ) (scope : Scope) (ts : List Token) (x : Variable) (y : AVariable k ts x) (i : ℕ) → none (in_variable sees k scope ts x y i) ≡ variable_ok k scope x
  unfolding in_variable
  variable_ok_lem _ scope _ _ (x_bare {w = w}) i = none-unless (fresh scope w) 3 i ∙ sym (both_end (fresh scope w))
  variable_ok_lem k scope _ x (x_set {w = w} {v = v} y) i =
      let s = sees (scope ++ sense_of_variable k x ∷ []) in two (new_name scope w i) (in_value s y (i + 2)) (fresh scope w) (valued s v) (none-unless (fresh scope w) 3 i) (value_ok s y (i + 2))
  variable_ok_lem _ scope _ _ (x_array {w = w} {n = n}) i =
      let b = both (leb array_least n) (leb n array_most) in
      two (new_name scope w i) (in_array n (i + 2)) (fresh scope w) (both b true) (none-unless (fresh scope w) 3 i) (none-unless b 4 (i + 2) ∙ sym (both_end b))
  variable_ok_lem k scope _ x (x_array_set {w = w} {n = n} {v = v} y) i =
      let b = both (leb array_least n) (leb n array_most) in
      let s = sees (scope ++ sense_of_variable k x ∷ []) in
      three (new_name scope w i) (in_array n (i + 2)) (in_value s y (i + 5)) (fresh scope w) b (valued s v) (none-unless (fresh scope w) 3 i) (none-unless b 4 (i + 2)) (value_ok s y (i + 5))
  variable_ok_lem _ scope _ _ (x_channel {w = w} {n = n} {ks = ks} y) i =
      let b = both (leb capacity_least n) (leb n capacity_most) in
      three (new_name scope w i) (unless b 5 (i + 3)) (unless (leb (length ks) fields_most) 5 (i + 15)) (fresh scope w) b (leb (length ks) fields_most) (none-unless (fresh scope w) 3 i)
      (none-unless b 4 (i + 3)) (none-unless (leb (length ks) fields_most) 4 (i + 15))

  each-variables : (k : ℕ) (scope : Scope) (xs : List Variable) →
      each_ok (AVariable k) (in_variable sees k) (λ v. sense_of_variable k v ∷ []) (variable_ok k) (variable_ok_lem k) scope xs ≡ variables (λ l x. variable_ok k l x) k scope xs
  unfolding variables
  each-variables k scope [] = refl
  each-variables k scope (x ∷ xs) = ap (both (variable_ok k scope x)) (each-variables k (scope ++ sense_of_variable k x ∷ []) xs)

  declared_ok : (k : ℕ) (scope : Scope) {s : Token} {ts : List Token} {xs : List Variable} (x : Listed s (AVariable k) ts xs) (i : ℕ) →
      none (in_list (AVariable k) (in_variable sees k) (λ v. sense_of_variable k v ∷ []) scope x i) ≡ variables (λ l x. variable_ok k l x) k scope xs
  declared_ok k scope {xs = xs} x i = list_ok (AVariable k) (in_variable sees k) (λ v. sense_of_variable k v ∷ []) (variable_ok k) (variable_ok_lem k) scope x i ∙ each-variables k scope xs

-- ---- names that join a space
names_ok : (g : Name → Declared) → ((w : Name) → (g w).name ≡ w) → (scope : Scope) {s : Token} {ts : List Token} {ws : List Name} (x : Listed s AName ts ws) (i : ℕ) →
    none (in_list AName in_name (λ w. g w ∷ []) scope x i) ≡ joins scope (map g ws)
unfolding joins
names_ok g e scope {ws = ws} x i = list_ok AName in_name (λ w. g w ∷ []) (λ l w. fresh l w) one_ok scope x i ∙ go scope ws
  where
    one_ok : (scope : Scope) (ts : List Token) (w : Name) (x : AName ts w) (i : ℕ) → none (in_name scope ts w x i) ≡ fresh scope w
    one_ok scope ts w x i = none-unless (fresh scope w) 3 i

    go : (scope : Scope) (ws : List Name) → each_ok AName in_name (λ w. g w ∷ []) (λ l w. fresh l w) one_ok scope ws ≡ joins scope (map g ws)
    go scope [] = refl
    go scope (w ∷ ws) = ap₂ both (ap (fresh scope) (sym (e w))) (go (scope ++ g w ∷ []) ws)

joins-append : (l a b : Scope) → joins l (a ++ b) ≡ both (joins l a) (joins (l ++ a) b)
unfolding joins
joins-append l [] b = ap (λ (s : Scope). joins s b) (sym (append-nil l))
joins-append l (d ∷ a) b =
    ap (both (fresh l d.name)) (joins-append (l ++ d ∷ []) a b ∙ ap (λ (s : Scope). both (joins (l ++ d ∷ []) a) (joins s b)) (append_assoc l (d ∷ []) a))
    ∙ sym (both_assoc (fresh l d.name) (joins (l ++ d ∷ []) a) (joins (l ++ d ∷ a) b))

group_ok : (scope : Scope) (ts : List Token) (g : Group) (x : AGroup ts g) (i : ℕ) → none (in_group scope ts g x i) ≡ joins scope (scope_of_group g)
group_ok scope _ _ (a_group {k = k} y x) i = names_ok (sense_of_parameter k) (λ w. refl) scope x (i + 1)

groups_ok : {s : Token} {ts : List Token} {gs : List Group} (x : MaybeListed s AGroup ts gs) (i : ℕ) → none (in_maybe AGroup in_group scope_of_group [] x i) ≡ joins [] (scope_of_groups gs)
unfolding joins
groups_ok {gs = gs} x i = maybe_ok AGroup in_group scope_of_group (λ l g. joins l (scope_of_group g)) group_ok [] x i ∙ go [] gs
  where
    go : (scope : Scope) (gs : List Group) → each_ok AGroup in_group scope_of_group (λ l g. joins l (scope_of_group g)) group_ok scope gs ≡ joins scope (scope_of_groups gs)
    go scope [] = refl
    go scope (g ∷ gs) = ap (both (joins scope (scope_of_group g))) (go (scope ++ scope_of_group g) gs) ∙ sym (joins-append scope (scope_of_group g) (scope_of_groups gs))

variables-same : (f g : Scope → Variable → Bool) → ((l : Scope) (x : Variable) → f l x ≡ g l x) → (k : ℕ) (l : Scope) (xs : List Variable) → variables f k l xs ≡ variables g k l xs
unfolding variables
variables-same f g e k l [] = refl
variables-same f g e k l (x ∷ xs) = ap₂ both (e l x) (variables-same f g e k (l ++ sense_of_variable k x ∷ []) xs)

local_same : (globals : Scope) (k : ℕ) (l : Scope) (x : Variable) → variable_ok (λ s. sense_of s globals) k l x ≡ local_lawful globals l k x
local_same globals k l (tree.variable w s v) = refl

global-same : (k : ℕ) (l : Scope) (x : Variable) → variable_ok (λ s. sense_of [] s) k l x ≡ global_lawful l k x
global-same k l (tree.variable w s v) = refl

-- ---- bodies
module _ (model globals : Scope) where
  items_ok : (locals : Scope) {ts : List Token} {b : Body} (x : Items ts b) (i : ℕ) → none (in_items model globals locals x i) ≡ body_lawful model globals locals b
  unfolding in_items body_lawful declarations
  items_ok locals (statements {q = q} x) i =
      tree_ok record { locals = locals; globals = globals; model = model; labels = labels_of q } [] false false x i
      ∙ (ap (λ (b : Bool). both b (allowed record { locals = locals; globals = globals; model = model; labels = labels_of q } false false q)) (labels.fresh-apart (labels_of q))
      ∙ ap (λ (l : Scope). both (apart (labels_of q)) (allowed record { locals = l; globals = globals; model = model; labels = labels_of q } false false q)) (sym (append-nil locals)))
  items_ok locals (gram.declared {ts = ts} {us = us} {ds = ds} {q = q} (declaration {k = k} {xs = xs} y x) z v) i =
      two (in_declaration (λ l. sense_of l globals) locals (declaration y x) i) (in_items model globals (locals ++ scope_of_declaration (declare k xs)) v (i + length ts + length us)) _ _
      (declared_ok (λ l. sense_of l globals) k locals x (i + 1)) (items_ok (locals ++ scope_of_declaration (declare k xs)) v (i + length ts + length us))
      ∙ (ap₂ both (variables-same (λ l x. variable_ok (λ s. sense_of s globals) k l x) (λ l x. local_lawful globals l k x) (local_same globals k) k locals xs)
      (ap (λ (l : Scope). both (declarations globals (locals ++ scope_of_declaration (declare k xs)) ds) (both (apart (labels_of q)) (allowed record { locals = l; globals = globals; model = model; labels = labels_of q } false false q)))
      (append_assoc locals (scope_of_declaration (declare k xs)) (scope_of_declarations ds)))
      ∙ sym (both_assoc (variables (λ l x. local_lawful globals l k x) k locals xs) (declarations globals (locals ++ scope_of_declaration (declare k xs)) ds)
      (both (apart (labels_of q)) (allowed record { locals = locals ++ (scope_of_declaration (declare k xs) ++ scope_of_declarations ds); globals = globals; model = model; labels = labels_of q } false false q))))

  body_ok : (parameters : Scope) {ts : List Token} {b : Body} (x : ABody ts b) (i : ℕ) → none (in_body model globals parameters x i) ≡ body_lawful model globals parameters b
  body_ok parameters (a_body x) i = items_ok parameters x (i + 1)

-- ---- units
-- a unit that is no second `mtype` list and no second `init`
abbrev first_of : Bool → Bool → Part → Bool
first_of lists inits u = both (leb (mtypes_in u) (room (not lists))) (leb (inits_in u) (room (not inits)))

at_most : (b : Bool) → not b ≡ leb 1 (room (not b))
at_most true = refl
at_most false = refl

none_there : (b : Bool) → leb 0 (room b) ≡ true
none_there true = refl
none_there false = refl

module _ (model : Scope) where
  unit_ok : (lists inits : Bool) (globals : Scope) {ts : List Token} (u : Part) (x : AUnit ts u) (i : ℕ) → none (in_unit model lists inits globals u x i) ≡ both (first_of lists inits u) (part_lawful model globals u)
  unit_ok lists inits globals _ (u_mtypes {ws = ws} x) i =
      two (unless (not lists) 5 i) (in_list AName in_name (λ w. of_message w ∷ []) globals x (i + 3)) (first_of lists inits (mtypes ws)) (joins globals (map of_message ws))
      (none-unless (not lists) 4 i ∙ at_most lists ∙ sym (both_end (leb 1 (room (not lists)))) ∙ ap (both (leb 1 (room (not lists)))) (sym (none_there (not inits))))
      (names_ok of_message (λ w. refl) globals x (i + 3))
  unit_ok lists inits globals _ (u_global {d = d} (declaration {k = k} {xs = xs} y x)) i =
      declared_ok (λ l. sense_of [] l) k globals x (i + 1)
      ∙ (variables-same (λ l x. variable_ok (λ s. sense_of [] s) k l x) (λ l x. global_lawful l k x) (global-same k) k globals xs
      ∙ ap (λ (b : Bool). both b (variables (λ l x. global_lawful l k x) k globals xs)) (sym (ap₂ both (none_there (not lists)) (none_there (not inits)))))
  unit_ok lists inits globals u (u_process {xs = xs} {ts = ts} {a = a} {w = w} {gs = gs} {b = b} x y z) i =
      three (new_name globals w (i + length xs + 1)) (in_maybe AGroup in_group scope_of_group [] y (i + length xs + 3))
      (in_body model (globals ++ of_part u) (scope_of_groups gs) z (i + length xs + length ts + 4)) (fresh globals w) (joins [] (scope_of_groups gs)) (body_lawful model (globals ++ of_part u) (scope_of_groups gs) b)
      (none-unless (fresh globals w) 3 (i + length xs + 1)) (groups_ok y (i + length xs + 3)) (body_ok model (globals ++ of_part u) (scope_of_groups gs) z (i + length xs + length ts + 4))
      ∙ ap (λ (c : Bool). both c (both (fresh globals w) (both (joins [] (scope_of_groups gs)) (body_lawful model (globals ++ of_part (process a w gs b)) (scope_of_groups gs) b))))
      (sym (ap₂ both (none_there (not lists)) (none_there (not inits))))
  unit_ok lists inits globals _ (u_init {b = b} x) i =
      two (unless (not inits) 5 i) (in_body model globals [] x (i + 1)) (first_of lists inits (init b)) (body_lawful model globals [] b)
      (none-unless (not inits) 4 i ∙ at_most inits ∙ ap (λ (c : Bool). both c (leb 1 (room (not inits)))) (sym (none_there (not lists)))) (body_ok model globals [] x (i + 1))

-- ---- the whole
sum_ok : (n k : ℕ) → n ≤ 1 → (may : Bool) → both (leb n (room may)) (leb k (room (both may (eqb n 0)))) ≡ leb (n + k) (room may)
sum_ok n k h may =
    ap₂ both (sym (both_end (leb n (room may)))) (sym (both_end (leb k (room (both may (eqb n 0)))))) ∙ (option_next n k h may true true ∙ both_end (leb (n + k) (room may)))

shuffle : (m i p n j q : Bool) → both (both (both m i) p) (both (both n j) q) ≡ both (both (both m n) (both i j)) (both p q)
shuffle false i p n j q = refl
shuffle true false p true j q = refl
shuffle true false p false j q = refl
shuffle true true true n j q = refl
shuffle true true false true true q = refl
shuffle true true false true false q = refl
shuffle true true false false j q = refl

lists_few : (u : Part) → mtypes_in u ≤ 1
lists_few (mtypes ws) = omega arith
lists_few (global d) = omega arith
lists_few (process a w gs b) = omega arith
lists_few (init b) = omega arith

inits_few : (u : Part) → inits_in u ≤ 1
inits_few (mtypes ws) = omega arith
inits_few (global d) = omega arith
inits_few (process a w gs b) = omega arith
inits_few (init b) = omega arith

more_lists : (b : Bool) (u : Part) → both (not b) (eqb (mtypes_in u) 0) ≡ not (either b (is_list u))
more_lists true u = refl
more_lists false (mtypes ws) = refl
more_lists false (global d) = refl
more_lists false (process a w gs b) = refl
more_lists false (init b) = refl

more_inits : (b : Bool) (u : Part) → both (not b) (eqb (inits_in u) 0) ≡ not (either b (is_init u))
more_inits true u = refl
more_inits false (mtypes ws) = refl
more_inits false (global d) = refl
more_inits false (process a w gs b) = refl
more_inits false (init b) = refl

module _ (model : Scope) where
  -- units behind an `mtype` list or none, an `init` or none
  abbrev units_ok : Bool → Bool → Scope → Model → Bool
  units_ok lists inits globals m = both (both (leb (tally mtypes_in m) (room (not lists))) (leb (tally inits_in m) (room (not inits)))) (parts_lawful model globals m)

  units_ok_lem : (lists inits : Bool) (globals : Scope) {ts : List Token} {m : Model} (x : Gram ts m) (i : ℕ) → none (in_units model lists inits globals x i) ≡ units_ok lists inits globals m
  unfolding in_units parts_lawful
  units_ok_lem lists inits globals (g_last {u = u} x y) i =
      let a : mtypes_in u + 0 ≡ mtypes_in u = omega arith in
      let b : inits_in u + 0 ≡ inits_in u = omega arith in
      unit_ok model lists inits globals u x i ∙ rw (a, b) (ap (both (first_of lists inits u)) (sym (both_end (part_lawful model globals u))))
  units_ok_lem lists inits globals (g_more {ts = ts} {us = us} {u = u} {m = m} x y z) i =
      two (in_unit model lists inits globals u x i) (in_units model (either lists (is_list u)) (either inits (is_init u)) (globals ++ of_part u) z (i + length ts + length us)) _ _
      (unit_ok model lists inits globals u x i) (units_ok_lem (either lists (is_list u)) (either inits (is_init u)) (globals ++ of_part u) z (i + length ts + length us))
      ∙ (shuffle (leb (mtypes_in u) (room (not lists))) (leb (inits_in u) (room (not inits))) (part_lawful model globals u)
      (leb (tally mtypes_in m) (room (not (either lists (is_list u))))) (leb (tally inits_in m) (room (not (either inits (is_init u))))) (parts_lawful model (globals ++ of_part u) m)
      ∙ ap₂ (λ (p q : Bool). both (both p q) (both (part_lawful model globals u) (parts_lawful model (globals ++ of_part u) m)))
      (ap (λ (b : Bool). both (leb (mtypes_in u) (room (not lists))) (leb (tally mtypes_in m) (room b))) (sym (more_lists lists u)) ∙ sum_ok (mtypes_in u) (tally mtypes_in m) (lists_few u) (not lists))
      (ap (λ (b : Bool). both (leb (inits_in u) (room (not inits))) (leb (tally inits_in m) (room b))) (sym (more_inits inits u)) ∙ sum_ok (inits_in u) (tally inits_in m) (inits_few u) (not inits)))

-- A TEXT OF THE GRAMMAR HAS NO FAULT EXACTLY WHERE ITS TREE IS LAWFUL
pub faults-lawful : {ts : List Token} {m : Model} (g : Gram ts m) → none (faults_of g) ≡ model_lawful m
unfolding model_lawful
faults-lawful {m = m} g = units_ok_lem (of_model m) false false [] g 0

pub faultless_lawful : {ts : List Token} {m : Model} (g : Gram ts m) → faults_of g ≡ [] → model_lawful m ≡ true
faultless_lawful g e = sym (faults-lawful g) ∙ ap none e
