-- The code of a tree has as many items as the tree has numbers for places (specs/Sizes.antt of `spec_machine`): a place is the number of the item with which a statement begins.
use Prim.Native.Nat.{ℕ, ◌+◌, ◌≤◌}
use mathlib.Core.Path.{◌≡◌, refl, ap₂, ◌∙◌}
use mathlib.Core.Option.{Option, none, some}
use mathlib.Core.List.{List, [], ◌∷◌, ◌++◌}
use native.Mathlib.Omega.{arith}
use lib.ListN.{length, length-append}
use Rattle.base_codes.specs.Items.{Item, i_argument, i_assert, i_assign, i_binary, i_choice, i_decrement, i_end, i_end_body, i_end_option, i_equal, i_express, i_fi, i_increment, i_index, i_into, i_local, i_name, i_od, i_otherwise, i_query, i_receive, i_send, i_set_run, i_target, i_unary}
use Rattle.spec_grammar.specs.Tree.{Name, Shape, Exp, plain, indexed, num, tru, fls, get, query, unary, binary, choice, Expr, Received, into, equal, exactly, exactly_true, exactly_false, Leaf, express, assign, increment, decrement, send, receive, assert, print, skip, goto, break, timeout, else, run, set_run, Sort, action, Tree, leaf, select, loop, bare, labelled, end, then, over, option, Value, unset, set_number, set_minus, set_true, set_false, set_name, set_channel, Variable, variable, Declaration, declare, Group, group, Body, body, Activity, idle, once, times, Part, mtypes, global, process, init}
use Rattle.parse_code.specs.Code.{each, code_exp, code_argument, code_received, code_leaf, code_tree, code_field, code_size, code_value, code_variable, code_declaration, code_parameter, code_group, code_body, code_activity, code_message, code_part}
use Rattle.spec_machine.specs.Sizes.{sum, size_exp, size_argument, size_received, size_leaf, size_in, size_one, size_size, size_value, size_variable, size_declaration, size_group, size_body, size_activity, size_part}

pub size-each : {A : Type 0} (f : A → List Item) (g : A → ℕ) → ((a : A) → length (f a) ≡ g a) → (l : List A) → length (each f l) ≡ sum g l
size-each f g h [] = refl
size-each f g h (a ∷ l) = length-append (f a) (each f l) ∙ ap₂ ◌+◌ (h a) (size-each f g h l)

pub size_exp_lem : {s : Shape} (e : Exp s) → length (code_exp e) ≡ size_exp e
size_exp_lem (plain w) = refl
size_exp_lem (indexed w e) = omega (arith, size_exp_lem e, length-append (code_exp e) (i_index ∷ []))
size_exp_lem (num n) = refl
size_exp_lem tru = refl
size_exp_lem fls = refl
size_exp_lem (get r) = size_exp_lem r
size_exp_lem (query o r) = omega (arith, size_exp_lem r, length-append (code_exp r) (i_query o ∷ []))
size_exp_lem (unary o e) = omega (arith, size_exp_lem e, length-append (code_exp e) (i_unary o ∷ []))
size_exp_lem (binary o a b) = omega (arith, size_exp_lem a, size_exp_lem b, length-append (code_exp a ++ code_exp b) (i_binary o ∷ []), length-append (code_exp a) (code_exp b))
size_exp_lem (choice a b c) =
    omega (
      arith,
      size_exp_lem a,
      size_exp_lem b,
      size_exp_lem c,
      length-append (code_exp a ++ code_exp b ++ i_otherwise ∷ code_exp c) (i_choice ∷ []),
      length-append (code_exp a ++ code_exp b) (i_otherwise ∷ code_exp c),
      length-append (code_exp a) (code_exp b),
    )

size-argument : (e : Expr) → length (code_argument e) ≡ size_argument e
size-argument e = omega (arith, size_exp_lem e, length-append (code_exp e) (i_argument ∷ []))

pub size-arguments : (es : List Expr) → length (each code_argument es) ≡ sum size_argument es
size-arguments es = size-each code_argument size_argument size-argument es

size-received : (x : Received) → length (code_received x) ≡ size_received x
size-received (into r) = omega (arith, size_exp_lem r, length-append (code_exp r) (i_into ∷ []))
size-received (equal e) = omega (arith, size_exp_lem e, length-append (code_exp e) (i_equal ∷ []))
size-received (exactly n) = refl
size-received exactly_true = refl
size-received exactly_false = refl

pub size_receiveds : (xs : List Received) → length (each code_received xs) ≡ sum size_received xs
size_receiveds xs = size-each code_received size_received size-received xs

pub size-leaf : (l : Leaf) → length (code_leaf l) ≡ size_leaf l
size-leaf (express e) = omega (arith, size_exp_lem e, length-append (code_exp e) (i_express ∷ []))
size-leaf (assign r e) = omega (arith, size_exp_lem r, size_exp_lem e, length-append (code_exp r ++ i_target ∷ code_exp e) (i_assign ∷ []), length-append (code_exp r) (i_target ∷ code_exp e))
size-leaf (increment r) = omega (arith, size_exp_lem r, length-append (code_exp r) (i_increment ∷ []))
size-leaf (decrement r) = omega (arith, size_exp_lem r, length-append (code_exp r) (i_decrement ∷ []))
size-leaf (send o r es) =
    omega (arith, size_exp_lem r, size-arguments es, length-append (code_exp r ++ i_send o ∷ each code_argument es) (i_end ∷ []), length-append (code_exp r) (i_send o ∷ each code_argument es))
size-leaf (receive o r xs) =
    omega (arith, size_exp_lem r, size_receiveds xs, length-append (code_exp r ++ i_receive o ∷ each code_received xs) (i_end ∷ []), length-append (code_exp r) (i_receive o ∷ each code_received xs))
size-leaf (assert e) = omega (arith, size_exp_lem e, length-append (code_exp e) (i_assert ∷ []))
size-leaf (print w es) = omega (arith, size-arguments es, length-append (each code_argument es) (i_end ∷ []))
size-leaf skip = refl
size-leaf (goto w) = refl
size-leaf break = refl
size-leaf timeout = refl
size-leaf else = refl
size-leaf (run w es) = omega (arith, size-arguments es, length-append (each code_argument es) (i_end ∷ []))
size-leaf (set_run r w es) =
    omega (
      arith,
      size_exp_lem r,
      size-arguments es,
      length-append (code_exp r ++ i_target ∷ i_name w ∷ i_set_run ∷ each code_argument es) (i_end ∷ []),
      length-append (code_exp r) (i_target ∷ i_name w ∷ i_set_run ∷ each code_argument es),
    )

pub size_tree : {k : Sort} (t : Tree k) → length (code_tree t) ≡ size_in t
size_tree (leaf l) = size-leaf l
size_tree (select os) = omega (arith, size_tree os, length-append (code_tree os) (i_fi ∷ []))
size_tree (loop os) = omega (arith, size_tree os, length-append (code_tree os) (i_od ∷ []))
size_tree (bare a) = size_tree a
size_tree (labelled w a) = omega (arith, size_tree a)
size_tree end = refl
size_tree (then s q) = length-append (code_tree s) (code_tree q) ∙ ap₂ ◌+◌ (size_tree s) (size_tree q)
size_tree over = refl
size_tree (option q os) = omega (arith, size_tree q, size_tree os, length-append (code_tree q) (i_end_option ∷ code_tree os))

pub size-size : (s : Option ℕ) → length (code_size s) ≡ size_size s
size-size none = refl
size-size (some n) = refl

size_value_lem : (v : Value) → length (code_value v) ≡ size_value v
size_value_lem unset = refl
size_value_lem (set_number n) = refl
size_value_lem (set_minus n) = refl
size_value_lem set_true = refl
size_value_lem set_false = refl
size_value_lem (set_name w) = refl
size_value_lem (set_channel n ks) = omega (arith, size-each code_field size_one (λ k. refl) ks)

pub size_variable_lem : (x : Variable) → length (code_variable x) ≡ size_variable x
size_variable_lem (variable w s v) = omega (arith, size-size s, size_value_lem v, length-append (code_size s) (code_value v))

-- whatever its mark
pub size_declaration_lem : (i : Item) (d : Declaration) → length (code_declaration i d) ≡ size_declaration d
size_declaration_lem i (declare k xs) = omega (arith, size-each code_variable size_variable size_variable_lem xs)

pub size-declarations : (ds : List Declaration) → length (each (code_declaration i_local) ds) ≡ sum size_declaration ds
size-declarations ds = size-each (code_declaration i_local) size_declaration (size_declaration_lem i_local) ds

pub size-group : (g : Group) → length (code_group g) ≡ size_group g
size-group (group k ws) = omega (arith, size-each code_parameter size_one (λ w. refl) ws)

pub size_groups : (gs : List Group) → length (each code_group gs) ≡ sum size_group gs
size_groups gs = size-each code_group size_group size-group gs

pub size_body_lem : (b : Body) → length (code_body b) ≡ size_body b
size_body_lem (body ds q) =
    omega (arith, size-declarations ds, size_tree q, length-append (each (code_declaration i_local) ds ++ code_tree q) (i_end_body ∷ []), length-append (each (code_declaration i_local) ds) (code_tree q))

pub size_activity_lem : (a : Activity) (w : Name) → length (code_activity a w) ≡ size_activity a
size_activity_lem idle w = refl
size_activity_lem once w = refl
size_activity_lem (times n) w = refl

pub size-part : (u : Part) → length (code_part u) ≡ size_part u
size-part (mtypes ws) = omega (arith, size-each code_message size_one (λ w. refl) ws)
size-part (global d) = size_declaration_lem _ d
size-part (process a w gs b) =
    omega (arith, size_activity_lem a w, size_groups gs, size_body_lem b, length-append (code_activity a w ++ each code_group gs) (code_body b), length-append (code_activity a w) (each code_group gs))
size-part (init b) = omega (arith, size_body_lem b)

-- a statement has a place of its own
leaf-some : (l : Leaf) → 1 ≤ size_leaf l
leaf-some (express e) = omega arith
leaf-some (assign r e) = omega arith
leaf-some (increment r) = omega arith
leaf-some (decrement r) = omega arith
leaf-some (send o r es) = omega arith
leaf-some (receive o r xs) = omega arith
leaf-some (assert e) = omega arith
leaf-some (print w es) = omega arith
leaf-some skip = omega arith
leaf-some (goto w) = omega arith
leaf-some break = omega arith
leaf-some timeout = omega arith
leaf-some else = omega arith
leaf-some (run w es) = omega arith
leaf-some (set_run r w es) = omega arith

pub some-place : (a : Tree action) → 1 ≤ size_in a
some-place (leaf l) = leaf-some l
some-place (select os) = omega arith
some-place (loop os) = omega arith
