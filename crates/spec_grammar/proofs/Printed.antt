-- The printed tokens are a text of the same tree.
use mathlib.Core.Path.{◌≡◌, refl}
use mathlib.Core.Bool.{Bool, true, false}
use mathlib.Core.Option.{none, some}
use mathlib.Core.List.{List, ◌∷◌, ◌++◌, append_assoc, append-nil}
use Prim.Native.Nat.{ℕ, zero, suc, ◌≤◌}
use native.Mathlib.Omega.{arith}
use native.Mathlib.Decide.{dec_le}
use lib.Dec.{leb}
use borrow.Author.Tests.{leb-true}
use Rattle.base_kinds.specs.Kinds.{Token, name, number}
use Rattle.spec_grammar.specs.Marks.{'[, '], 'comma, 'semi}
use Rattle.spec_grammar.specs.Tree.{Name, Expr, Ref, Received, Leaf, Sort, sequence, Tree, Value, Variable, variable, Declaration, Group, Body, body, Activity, Part, Model}
use Rattle.spec_grammar.specs.Grammar.{Listed, one, more, MaybeListed, no_list, a_list, Message, commas, call, no_semi, none_trails, by_semi, AName, a_name, AType, a_type, E, e_plain, e_index, e_number, e_true, e_false, e_query, e_group, e_choice, e_unary, e_binary, e_up, AnExpression, AReference, AReceived, r_into, r_eval, r_number, r_true, r_false, ALeaf, s_express, s_assign, s_increment, s_decrement, s_send, s_receive, s_assert, s_print_alone, s_print, s_skip, s_goto, s_break, s_timeout, s_else, s_run, s_set_run, D, s_leaf, s_if, s_do, s_bare, s_label, q_last, q_then, o_last, o_also, AValue, v_number, v_minus, v_true, v_false, v_name, AVariable, x_bare, x_set, x_array, x_array_set, x_channel, ADeclaration, declaration, AGroup, a_group, Items, statements, declared, ABody, a_body, AnActivity, not_active, active, active_times, AUnit, u_mtypes, u_global, u_process, u_init, Gram, g_last, g_more}
use Rattle.spec_grammar.specs.Print.{wrap, print_exp, print_ref, print_whole, further, join, print_received, before, print_leaf, print_tree, print_type, print_value, print_variable, print_declaration, print_name, print_group, print_items, print_body, print_activity, print_part, print_model}
use Rattle.spec_grammar.proofs.Levels.{level_top}

-- what stands where a tighter expression is asked for stands where a looser one is
loosen : (l : ℕ) {m : ℕ} {ts : List Token} {e : Expr} → m ≤ l → E l ts e → E m ts e
loosen zero {m} h x = let p : 0 ≡ m = omega arith in rw p at x
loosen (suc l) {m} {ts} {e} h x = go (dec_le m l) (λ h'. loosen l h' (e_up x))
  where
    go : Dec (m ≤ l) → (m ≤ l → E m ts e) → E m ts e
    go (yes h') r = r h'
    go (no h') r = let p : suc l ≡ m = omega arith in rw p at x

wrapped : (l k : ℕ) {ts : List Token} {e : Expr} → l ≤ 11 → 1 ≤ k → E k ts e → (b : Bool) → leb l k ≡ b → E l (wrap b ts) e
wrapped l k h i x true e = loosen k (leb-true l k e) x
wrapped l k h i x false e = loosen 11 h (e_group (loosen k i x))

-- an expression at any level; and a reference as such
abbrev Printed : ℕ → Expr → Type 0
Printed k e = ((l : ℕ) → l ≤ 11 → E l (print_exp e l) e) × (12 ≤ k → E 12 (print_exp e 12) e)

exp_printed : {k : ℕ} {ts : List Token} {e : Expr} → E k ts e → Printed k e
exp_printed e_plain = (λ l h. loosen 12 (omega arith) e_plain, λ h. e_plain)
exp_printed (e_index x) = (λ l h. loosen 12 (omega arith) (e_index ((exp_printed x).0 1 (omega arith))), λ h. e_index ((exp_printed x).0 1 (omega arith)))
exp_printed e_number = (λ l h. loosen 11 h e_number, λ h. absurd (omega arith))
exp_printed e_true = (λ l h. loosen 11 h e_true, λ h. absurd (omega arith))
exp_printed e_false = (λ l h. loosen 11 h e_false, λ h. absurd (omega arith))
exp_printed (e_query kind x) = (λ l h. loosen 11 h (e_query kind ((exp_printed x).1 (omega arith))), λ h. absurd (omega arith))
exp_printed (e_group x) = ((exp_printed x).0, λ h. absurd (omega arith))
exp_printed (e_choice x y z) = (λ l h. loosen 11 h (e_choice ((exp_printed x).0 1 (omega arith)) ((exp_printed y).0 1 (omega arith)) ((exp_printed z).0 1 (omega arith))), λ h. absurd (omega arith))
exp_printed (e_unary u x) = (λ l h. loosen 11 h (e_unary u ((exp_printed x).0 11 (omega arith))), λ h. absurd (omega arith))
exp_printed (e_binary {l = k} {o = o} i x y) =
    (λ l h. rw i (wrapped l (suc k) h (omega arith) (e_binary i ((exp_printed x).0 (suc k) (omega (arith, level_top o k i))) ((exp_printed y).0 (suc (suc k)) (omega (arith, level_top o k i)))) (leb l (suc k)) refl), λ h. absurd (omega (arith, level_top o k i)))
exp_printed (e_up x) = ((exp_printed x).0, λ h. (exp_printed x).1 (omega arith))

whole-printed : (ts : List Token) (e : Expr) → AnExpression ts e → AnExpression (print_whole e) e
whole-printed ts e x = (exp_printed x).0 1 (omega arith)

ref-printed : {ts : List Token} {r : Ref} → AReference ts r → AReference (print_ref r) r
ref-printed x = (exp_printed x).1 (omega arith)

-- lists
pub join_more : (s : Token) {A : Type 0} (X : List Token → A → Type 0) (f : A → List Token) (a : A) {ts : List Token} {l : List A} → Listed s X ts l → join s f (a ∷ l) ≡ f a ++ s ∷ join s f l
join_more s X f a (one x) = refl
join_more s X f a (more x y) = refl

pub further-more : (s : Token) {A : Type 0} (X : List Token → A → Type 0) (f : A → List Token) {ts : List Token} {l : List A} → Listed s X ts l → further s f l ≡ s ∷ join s f l
further-more s X f (one x) = refl
further-more s X f (more x y) = refl

list-printed : (s : Token) {A : Type 0} (X : List Token → A → Type 0) (f : A → List Token) → ((ts : List Token) (a : A) → X ts a → X (f a) a) → {ts : List Token} {l : List A} → Listed s X ts l → Listed s X (join s f l) l
list-printed s X f g (one {ts = ts} {a = a} x) = rw append-nil (one (g ts a x))
list-printed s X f g (more {ts = ts} {a = a} x y) = rw (join_more s X f a y) (more (g ts a x) (list-printed s X f g y))

maybe_printed : (s : Token) {A : Type 0} (X : List Token → A → Type 0) (f : A → List Token) → ((ts : List Token) (a : A) → X ts a → X (f a) a) → {ts : List Token} {l : List A} → MaybeListed s X ts l → MaybeListed s X (join s f l) l
maybe_printed s X f g no_list = no_list
maybe_printed s X f g (a_list x) = a_list (list-printed s X f g x)

message-printed : {A : Type 0} (X : List Token → A → Type 0) (f : A → List Token) → ((ts : List Token) (a : A) → X ts a → X (f a) a) → {ts : List Token} {l : List A} → Message X ts l → Message X (join 'comma f l) l
message-printed X f g (commas x) = commas (list-printed 'comma X f g x)
message-printed X f g (call {ts = ts} {a = a} x y) = rw (join_more 'comma X f a y) (commas (more (g ts a x) (list-printed 'comma X f g y)))

received-printed : (ts : List Token) (x : Received) → AReceived ts x → AReceived (print_received x) x
received-printed ts x (r_into y) = r_into (ref-printed y)
received-printed ts x (r_eval {ts = us} {e = e} y) = r_eval (whole-printed us e y)
received-printed ts x r_number = r_number
received-printed ts x r_true = r_true
received-printed ts x r_false = r_false

arguments-printed : {ts : List Token} {es : List Expr} → Listed 'comma AnExpression ts es → Listed 'comma AnExpression (join 'comma print_whole es) es
arguments-printed x = list-printed 'comma AnExpression print_whole whole-printed x

-- statements
pub sequence_before : {ts : List Token} {q : Tree sequence} → D sequence ts q → before q (print_tree q) ≡ 'semi ∷ print_tree q
sequence_before (q_last x u) = refl
sequence_before (q_then x u y) = refl

leaf-printed : {ts : List Token} {l : Leaf} → ALeaf ts l → ALeaf (print_leaf l) l
leaf-printed (s_express {ts = ts} {e = e} x) = s_express (whole-printed ts e x)
leaf-printed (s_assign {us = us} {e = e} x y) = s_assign (ref-printed x) (whole-printed us e y)
leaf-printed (s_increment x) = s_increment (ref-printed x)
leaf-printed (s_decrement x) = s_decrement (ref-printed x)
leaf-printed (s_send kind x y) = s_send kind (ref-printed x) (message-printed AnExpression print_whole whole-printed y)
leaf-printed (s_receive kind x y) = s_receive kind (ref-printed x) (message-printed AReceived print_received received-printed y)
leaf-printed (s_assert {ts = ts} {e = e} x) = s_assert (whole-printed ts e x)
leaf-printed s_print_alone = s_print_alone
leaf-printed (s_print x) = rw (further-more 'comma AnExpression print_whole x) (s_print (arguments-printed x))
leaf-printed s_skip = s_skip
leaf-printed s_goto = s_goto
leaf-printed s_break = s_break
leaf-printed s_timeout = s_timeout
leaf-printed s_else = s_else
leaf-printed (s_run x) = s_run (maybe_printed 'comma AnExpression print_whole whole-printed x)
leaf-printed (s_set_run x y) = s_set_run (ref-printed x) (maybe_printed 'comma AnExpression print_whole whole-printed y)

tree_printed : {k : Sort} {ts : List Token} {t : Tree k} → D k ts t → D k (print_tree t) t
tree_printed (s_leaf x) = s_leaf (leaf-printed x)
tree_printed (s_if x) = s_if (tree_printed x)
tree_printed (s_do x) = s_do (tree_printed x)
tree_printed (s_bare x) = s_bare (tree_printed x)
tree_printed (s_label x) = s_label (tree_printed x)
tree_printed (q_last x u) = q_last (tree_printed x) none_trails
tree_printed (q_then x u y) = rw (sequence_before y) (simp append_assoc at (q_then (tree_printed x) (by_semi none_trails) (tree_printed y)))
tree_printed (o_last x) = rw append-nil (o_last (tree_printed x))
tree_printed (o_also x y) = o_also (tree_printed x) (tree_printed y)

-- declarations
type_printed : (ts : List Token) (k : ℕ) → AType ts k → AType (print_type k) k
type_printed ts k (a_type x) = a_type x

name-printed : (ts : List Token) (w : Name) → AName ts w → AName (print_name w) w
name-printed ts w a_name = a_name

set-printed : {k : ℕ} {w : Name} {ts : List Token} {v : Value} → AValue ts v → AVariable k (name w ∷ print_value v) (variable w none v)
set-printed v_number = x_set v_number
set-printed v_minus = x_set v_minus
set-printed v_true = x_set v_true
set-printed v_false = x_set v_false
set-printed v_name = x_set v_name

array_set_printed : {k : ℕ} {w : Name} {n : ℕ} {ts : List Token} {v : Value} → AValue ts v → AVariable k (name w ∷ '[ ∷ number n ∷ '] ∷ print_value v) (variable w (some n) v)
array_set_printed v_number = x_array_set v_number
array_set_printed v_minus = x_array_set v_minus
array_set_printed v_true = x_array_set v_true
array_set_printed v_false = x_array_set v_false
array_set_printed v_name = x_array_set v_name

variable_printed : (k : ℕ) (ts : List Token) (x : Variable) → AVariable k ts x → AVariable k (print_variable x) x
variable_printed k ts x x_bare = x_bare
variable_printed k ts x (x_set v) = set-printed v
variable_printed k ts x x_array = x_array
variable_printed k ts x (x_array_set v) = array_set_printed v
variable_printed k ts x (x_channel y) = x_channel (list-printed 'comma AType print_type type_printed y)

declaration_printed : {ts : List Token} {d : Declaration} → ADeclaration ts d → ADeclaration (print_declaration d) d
declaration_printed (declaration {k = k} h x) = declaration h (list-printed 'comma (AVariable k) print_variable (variable_printed k) x)

group-printed : (ts : List Token) (g : Group) → AGroup ts g → AGroup (print_group g) g
group-printed ts g (a_group h x) = a_group h (list-printed 'comma AName print_name name-printed x)

-- bodies, units, models
items-printed : {ts : List Token} {ds : List Declaration} {q : Tree sequence} → Items ts (body ds q) → Items (print_items ds q) (body ds q)
items-printed (statements x) = statements (tree_printed x)
items-printed (declared x u y) = simp append_assoc at (declared (declaration_printed x) (by_semi none_trails) (items-printed y))

body_printed : {ts : List Token} {b : Body} → ABody ts b → ABody (print_body b) b
body_printed (a_body {b = b} x) = go b x
  where
    go : {ts : List Token} (b : Body) → Items ts b → ABody (print_body b) b
    go (body ds q) x = a_body (items-printed x)

activity_printed : {ts : List Token} {a : Activity} → AnActivity ts a → AnActivity (print_activity a) a
activity_printed not_active = not_active
activity_printed active = active
activity_printed active_times = active_times

unit-printed : {ts : List Token} {u : Part} → AUnit ts u → AUnit (print_part u) u
unit-printed (u_mtypes x) = u_mtypes (list-printed 'comma AName print_name name-printed x)
unit-printed (u_global x) = u_global (declaration_printed x)
unit-printed (u_process x y z) = u_process (activity_printed x) (maybe_printed 'semi AGroup print_group group-printed y) (body_printed z)
unit-printed (u_init x) = u_init (body_printed x)

-- THE PRINTED TOKENS OF A TEXT'S TREE ARE A TEXT OF THAT TREE
pub print_in : {ts : List Token} {m : Model} → Gram ts m → Gram (print_model m) m
print_in (g_last x u) = g_last (unit-printed x) no_semi
print_in (g_more x u y) = simp append-nil at (g_more (unit-printed x) no_semi (print_in y))
