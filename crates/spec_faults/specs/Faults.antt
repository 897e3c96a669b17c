-- FAULTS OF NAMES AND RULES with their numbers and places: document 01, rows 2 (height), 4 and 5 of "What is answered" with their last column. Said of a derivation of the grammar, which has the tree
-- and the tokens: `i` is always the index of the phrase's first token.
use Rattle.std.specs.Prelude.{ℕ, ◌+◌, ◌/◌, ◌%◌, ◌≤◌, ◌<◌, ◌≡◌, Bool, true, false, not, ◌⊎◌, List, [], ◌∷◌, ◌++◌, length, eqb, leb}
use Rattle.base_ceilings.specs.Ceilings.{array_least, array_most, capacity_least, capacity_most, fields_most, height_most}
use Rattle.base_bytes.specs.Choice.{pick, both, either}
use Rattle.base_bytes.specs.Lists.{same}
use Rattle.spec_text.specs.Formats.{format_of}
use Rattle.spec_text.specs.Names.{pid}
use Rattle.base_kinds.specs.Kinds.{Token}
use Rattle.spec_grammar.specs.Tree.{Name, Expr, Received, Leaf, Sort, Tree, Value, Variable, Declaration, Group, Body, Part, mtypes, global, process, init, Model}
use Rattle.spec_grammar.specs.Grammar as gram
use Rattle.spec_grammar.specs.Grammar.{Listed, one, more, MaybeListed, no_list, a_list, Message, commas, call, AName, AType, E, e_plain, e_index, e_number, e_true, e_false, e_query, e_group, e_choice, e_unary, e_binary, e_up, AnExpression, AReceived, r_into, r_eval, r_number, r_true, r_false}
use Rattle.spec_grammar.specs.Grammar.{ALeaf, s_express, s_assign, s_increment, s_decrement, s_send, s_receive, s_assert, s_print_alone, s_print, s_skip, s_goto, s_break, s_timeout, s_else, s_run, s_set_run, D, s_leaf, s_if, s_do, s_bare, s_label, q_last, q_then, o_last, o_also}
use Rattle.spec_grammar.specs.Grammar.{AValue, v_number, v_minus, v_true, v_false, v_name, AVariable, x_bare, x_set, x_array, x_array_set, x_channel, ADeclaration, declaration, AGroup, a_group, Items, statements, ABody, a_body, AUnit, u_mtypes, u_global, u_process, u_init, Gram, g_last, g_more}
use Rattle.spec_rules.specs.Heights.{height}
use Rattle.spec_rules.specs.Senses.{Sense, variable, constant, procedure, unknown, Declared, Scope, is_unknown, is_constant, sense_in, sense_of, fresh}
use Rattle.spec_rules.specs.Roles.{Role, operand, channel, target, received, for_pid, for_constant, for_chan, alike}
use Rattle.spec_rules.specs.Statements.{Place, has, is_else_lem, labels_of, sense}
use Rattle.spec_rules.specs.Units.{sense_of_variable, scope_of_declaration, sense_of_parameter, scope_of_group, scope_of_groups, of_message, of_part, of_model}

-- a fault: its number and its token
pub record Fault : Type 0 where
  pub number : ℕ
  pub token : ℕ

abbrev pub Faults : Type 0
Faults = List Fault

-- number x at token i, 0 for none
abbrev pub fault_at : ℕ → ℕ → Faults
fault_at x i = pick (eqb x 0) [] (record { number = x; token = i } ∷ [])

-- number x at token i where a test does not pass
abbrev pub unless : Bool → ℕ → ℕ → Faults
unless ok x i = fault_at (pick ok 0 x) i

-- ## lists: f at each member, with what those before it have declared
module _ {A : Type 0} (X : List Token → A → Type 0) (f : Scope → (ts : List Token) (a : A) → X ts a → ℕ → Faults) (g : A → Scope) where
  unfoldable pub in_list : {s : Token} {ts : List Token} {l : List A} → Scope → Listed s X ts l → ℕ → Faults
  in_list scope (one {ts = ts} {a = a} x) i = f scope ts a x i
  in_list scope (more {ts = ts} {a = a} x y) i = f scope ts a x i ++ in_list (scope ++ g a) y (i + length ts + 1)

  unfoldable pub in_maybe : {s : Token} {ts : List Token} {l : List A} → Scope → MaybeListed s X ts l → ℕ → Faults
  in_maybe scope no_list i = []
  in_maybe scope (a_list x) i = in_list scope x i

  unfoldable pub in_message : {ts : List Token} {l : List A} → Scope → Message X ts l → ℕ → Faults
  in_message scope (commas x) i = in_list scope x i
  in_message scope (call {ts = ts} {a = a} x y) i = f scope ts a x i ++ in_list (scope ++ g a) y (i + length ts + 1)

-- arguments declare nothing
abbrev pub nothing : {A : Type 0} → A → Scope
nothing a = []

-- ## names in expressions: "name unknown .. of the wrong kind" (4), "bad index use" (5), both at "the name"
-- `_pid` or an mtype name: 4 where it may not stand, 5 with an index
abbrev pub constant_use : Bool → Bool → ℕ
constant_use may index = pick may (pick index 5 0) 4

abbrev pub sense_use : Role → Bool → Sense → ℕ
sense_use role index (variable chan array) = pick (for_chan role chan) (pick (alike index array) 0 5) 4
sense_use role index constant = constant_use (for_constant role) index
sense_use role index (procedure n) = 4
sense_use role index unknown = 4

unfoldable pub use_number : (Name → Sense) → Role → Bool → Name → ℕ
use_number sense role index w = pick (same w pid) (constant_use (for_pid role) index) (sense_use role index (sense w))

module _ (sense : Name → Sense) where
  unfoldable pub in_expr : {l : ℕ} {ts : List Token} {e : Expr} → Role → E l ts e → ℕ → Faults
  in_expr role (e_plain {w = w}) i = fault_at (use_number sense role false w) i
  in_expr role (e_index {w = w} x) i = in_expr operand x (i + 2) ++ fault_at (use_number sense role true w) i
  in_expr role e_number i = []
  in_expr role e_true i = []
  in_expr role e_false i = []
  in_expr role (e_query o x) i = in_expr channel x (i + 2)
  in_expr role (e_group x) i = in_expr role x (i + 1)
  in_expr role (e_choice {xs = xs} {ys = ys} x y z) i = in_expr operand x (i + 1) ++ in_expr operand y (i + length xs + 2) ++ in_expr operand z (i + length xs + length ys + 3)
  in_expr role (e_unary o x) i = in_expr operand x (i + 1)
  in_expr role (e_binary {xs = xs} o x y) i = in_expr operand x i ++ in_expr operand y (i + length xs + 1)
  in_expr role (e_up x) i = in_expr role x i

  -- "expression height 32": "whole expression's first token for height"
  unfoldable pub in_whole : Role → {l : ℕ} {ts : List Token} {e : Expr} → E l ts e → ℕ → Faults
  in_whole role {e = e} x i = in_expr role x i ++ unless (leb (height e) height_most) 2 i

  abbrev pub in_argument : Scope → (ts : List Token) (e : Expr) → AnExpression ts e → ℕ → Faults
  in_argument scope ts e x i = in_whole operand x i

  abbrev pub in_received : Scope → (ts : List Token) (r : Received) → AReceived ts r → ℕ → Faults
  in_received scope _ _ (r_into x) i = in_whole received x i
  in_received scope _ _ (r_eval x) i = in_whole operand x (i + 2)
  in_received scope _ _ r_number i = []
  in_received scope _ _ r_true i = []
  in_received scope _ _ r_false i = []

-- ## statements
-- "wrong number of arguments" for a proctype, where the name is one
abbrev pub passes : Sense → ℕ → Bool
passes (variable c a) n = true
passes constant n = true
passes (procedure k) n = eqb n k
passes unknown n = true

abbrev pub is_procedure : Sense → Bool
is_procedure (variable c a) = false
is_procedure constant = false
is_procedure (procedure k) = true
is_procedure unknown = false

module _ (at : Place) where
  -- a proctype of the model that no local hides
  unfoldable pub runnable : Name → Bool
  runnable w = both (not (same w pid)) (both (is_unknown (sense_in at.locals w)) (is_procedure (sense_in at.model w)))

  -- its n arguments, which are "not judged" where the name is bad
  unfoldable pub passing : Name → ℕ → ℕ
  passing w n = pick (runnable w) (pick (passes (sense_in at.model w) n) 0 5) 0

  -- "`%` in a format not followed by `d` or `%`" at the string; "wrong number of arguments" at the statement's first token
  abbrev pub in_format : List ℕ → ℕ → Faults
  in_format w i = unless (eqb (format_of w % 2) 0) 5 i

  abbrev pub in_printed : List ℕ → ℕ → ℕ → Faults
  in_printed w n i = unless (eqb n (format_of w / 2)) 5 i

  -- `loops`: in a `do`. `may`: an `else` may stand here
  unfoldable pub in_leaf : {ts : List Token} {l : Leaf} → Bool → Bool → ALeaf ts l → ℕ → Faults
  in_leaf loops may (s_express x) i = in_whole (sense at) operand x i
  in_leaf loops may (s_assign {ts = ts} x y) i = in_whole (sense at) target x i ++ in_whole (sense at) operand y (i + length ts + 1)
  in_leaf loops may (s_increment x) i = in_whole (sense at) target x i
  in_leaf loops may (s_decrement x) i = in_whole (sense at) target x i
  -- "more than 4 message arguments"
  in_leaf loops may (s_send {ts = ts} {es = es} o x y) i =
      in_whole (sense at) channel x i ++ in_message AnExpression (in_argument (sense at)) nothing [] y (i + length ts + 1) ++ unless (leb (length es) fields_most) 5 i
  in_leaf loops may (s_receive {ts = ts} {xs = xs} o x y) i =
      in_whole (sense at) channel x i ++ in_message AReceived (in_received (sense at)) nothing [] y (i + length ts + 1) ++ unless (leb (length xs) fields_most) 5 i
  in_leaf loops may (s_assert x) i = in_whole (sense at) operand x (i + 2)
  in_leaf loops may (s_print_alone {w = w}) i = in_format w (i + 2) ++ in_printed w 0 i
  in_leaf loops may (s_print {w = w} {es = es} x) i = in_format w (i + 2) ++ in_list AnExpression (in_argument (sense at)) nothing [] x (i + 4) ++ in_printed w (length es) i
  in_leaf loops may s_skip i = []
  in_leaf loops may (s_goto {w = w}) i = unless (both (not (same w pid)) (has at.labels w)) 4 (i + 1)
  in_leaf loops may s_break i = unless loops 5 i
  in_leaf loops may s_timeout i = []
  in_leaf loops may s_else i = unless may 5 i
  in_leaf loops may (s_run {w = w} {es = es} x) i =
      unless (runnable w) 4 (i + 1) ++ in_maybe AnExpression (in_argument (sense at)) nothing [] x (i + 3) ++ fault_at (passing w (length es)) i
  in_leaf loops may (s_set_run {ts = ts} {w = w} {es = es} x y) i =
      in_whole (sense at) target x i ++ unless (runnable w) 4 (i + length ts + 2) ++ in_maybe AnExpression (in_argument (sense at)) nothing [] y (i + length ts + 4) ++ fault_at (passing w (length es)) i

  -- `before`: the labels of the body so far; "declared twice" and `_pid` (4), at the later name. Of options `may` says that none of those before begins with `else`
  unfoldable pub in_tree : {k : Sort} {ts : List Token} {t : Tree k} → List Name → Bool → Bool → D k ts t → ℕ → Faults
  in_tree before loops may (s_leaf x) i = in_leaf loops may x i
  in_tree before loops may (s_if x) i = in_tree before loops true x (i + 1)
  in_tree before loops may (s_do x) i = in_tree before true true x (i + 1)
  in_tree before loops may (s_bare x) i = in_tree before loops may x i
  in_tree before loops may (s_label {w = w} x) i = unless (not (either (same w pid) (has before w))) 4 i ++ in_tree (before ++ w ∷ []) loops false x (i + 2)
  in_tree before loops may (q_last x u) i = in_tree before loops may x i
  in_tree before loops may (q_then {ts = ts} {us = us} {s = s} x u y) i = in_tree before loops may x i ++ in_tree (before ++ labels_of s) loops false y (i + length ts + length us)
  in_tree before loops may (o_last x) i = in_tree before loops may x (i + 1)
  in_tree before loops may (o_also {ts = ts} {q = q} x y) i =
      in_tree before loops may x (i + 1) ++ in_tree (before ++ labels_of q) loops (both may (eqb (is_else_lem q) 0)) y (i + length ts + 1)

-- ## declarations: "declared twice" and `_pid` (4) at the name, "array .. number" (5) at the number
abbrev pub new_name : Scope → Name → ℕ → Faults
new_name scope w i = unless (fresh scope w) 4 i

-- a value: a name is an mtype name's, else 4
abbrev pub in_value : (Name → Sense) → {ts : List Token} {v : Value} → AValue ts v → ℕ → Faults
in_value sense v_number i = []
in_value sense v_minus i = []
in_value sense v_true i = []
in_value sense v_false i = []
in_value sense (v_name {w = w}) i = unless (both (not (same w pid)) (is_constant (sense w))) 4 i

abbrev pub in_array : ℕ → ℕ → Faults
in_array n i = unless (both (leb array_least n) (leb n array_most)) 5 i

-- `sees` says what names mean where the names of `scope` are declared
module _ (sees : Scope → Name → Sense) where
  unfoldable pub in_variable : (k : ℕ) → Scope → (ts : List Token) (x : Variable) → AVariable k ts x → ℕ → Faults
  in_variable _ scope _ _ (x_bare {w = w}) i = new_name scope w i
  in_variable k scope _ x (x_set {w = w} y) i = new_name scope w i ++ in_value (sees (scope ++ sense_of_variable k x ∷ [])) y (i + 2)
  in_variable _ scope _ _ (x_array {w = w} {n = n}) i = new_name scope w i ++ in_array n (i + 2)
  in_variable k scope _ x (x_array_set {w = w} {n = n} y) i = new_name scope w i ++ in_array n (i + 2) ++ in_value (sees (scope ++ sense_of_variable k x ∷ [])) y (i + 5)
  -- "capacity 1 to 8" at the number; "message fields 1 to 4" at "the fifth type"
  in_variable _ scope _ _ (x_channel {w = w} {n = n} {ks = ks} y) i =
      new_name scope w i ++ unless (both (leb capacity_least n) (leb n capacity_most)) 5 (i + 3) ++ unless (leb (length ks) fields_most) 5 (i + 15)

  abbrev pub in_declaration : Scope → {ts : List Token} {d : Declaration} → ADeclaration ts d → ℕ → Faults
  in_declaration scope (declaration {k = k} y x) i = in_list (AVariable k) (in_variable k) (λ v. sense_of_variable k v ∷ []) scope x (i + 1)

-- ## units
abbrev pub in_name : Scope → (ts : List Token) (w : Name) → AName ts w → ℕ → Faults
in_name scope ts w x i = new_name scope w i

abbrev pub in_group : Scope → (ts : List Token) (g : Group) → AGroup ts g → ℕ → Faults
in_group scope _ _ (a_group {k = k} y x) i = in_list AName in_name (λ w. sense_of_parameter k w ∷ []) scope x (i + 1)

module _ (model globals : Scope) where
  -- behind the declarations so far
  unfoldable pub in_items : Scope → {ts : List Token} {b : Body} → Items ts b → ℕ → Faults
  in_items locals (statements {q = q} x) i = in_tree record { locals = locals; globals = globals; model = model; labels = labels_of q } [] false false x i
  in_items locals (gram.declared {ts = ts} {us = us} {d = d} x y z) i =
      in_declaration (λ l. sense_of l globals) locals x i ++ in_items (locals ++ scope_of_declaration d) z (i + length ts + length us)

  abbrev pub in_body : Scope → {ts : List Token} {b : Body} → ABody ts b → ℕ → Faults
  in_body parameters (a_body x) i = in_items parameters x (i + 1)

abbrev pub is_list : Part → Bool
is_list (mtypes ws) = true
is_list (global d) = false
is_list (process a w gs b) = false
is_list (init b) = false

abbrev pub is_init : Part → Bool
is_init (mtypes ws) = false
is_init (global d) = false
is_init (process a w gs b) = false
is_init (init b) = true

module _ (model : Scope) where
  -- "second `mtype` list or `init`" (5) at its keyword; `lists`, `inits`: one stands before
  abbrev pub in_unit : Bool → Bool → Scope → {ts : List Token} (u : Part) → AUnit ts u → ℕ → Faults
  in_unit lists inits globals _ (u_mtypes x) i = unless (not lists) 5 i ++ in_list AName in_name (λ w. of_message w ∷ []) globals x (i + 3)
  in_unit lists inits globals _ (u_global x) i = in_declaration (λ l. sense_of [] l) globals x i
  in_unit lists inits globals u (u_process {xs = xs} {ts = ts} {w = w} {gs = gs} x y z) i =
      new_name globals w (i + length xs + 1) ++ in_maybe AGroup in_group scope_of_group [] y (i + length xs + 3) ++ in_body model (globals ++ of_part u) (scope_of_groups gs) z (i + length xs + length ts + 4)
  in_unit lists inits globals _ (u_init x) i = unless (not inits) 5 i ++ in_body model globals [] x (i + 1)

  unfoldable pub in_units : Bool → Bool → Scope → {ts : List Token} {m : Model} → Gram ts m → ℕ → Faults
  in_units lists inits globals (g_last {u = u} x y) i = in_unit lists inits globals u x i
  in_units lists inits globals (g_more {ts = ts} {us = us} {u = u} x y z) i =
      in_unit lists inits globals u x i ++ in_units (either lists (is_list u)) (either inits (is_init u)) (globals ++ of_part u) z (i + length ts + length us)

-- ALL FAULTS of a text of the grammar
abbrev pub faults_of : {ts : List Token} {m : Model} → Gram ts m → Faults
faults_of {m = m} g = in_units (of_model m) false false [] g 0

-- "Within a pass the smallest place wins, then the smallest number": number x at token k is one of them, and none comes sooner
pub data Among (x k : ℕ) : Faults → Type 0 where
  here : {l : Faults} → Among x k (record { number = x; token = k } ∷ l)
  there : {f : Fault} {l : Faults} → Among x k l → Among x k (f ∷ l)

pub record Least (l : Faults) (x k : ℕ) : Type 0 where
  pub is : Among x k l
  pub soonest : (y j : ℕ) → Among y j l → (k < j) ⊎ ((k ≡ j) × (x ≤ y))
