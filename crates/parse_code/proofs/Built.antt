-- The code of a tree determines the tree: the machine of proofs/Build.antt gives the tree back.
use mathlib.Core.Path.{◌≡◌, refl, ap, sym as inv, ◌∙◌}
use mathlib.Core.Option.{Option, none, some}
use mathlib.Core.List.{List, [], ◌∷◌, ◌++◌, append_assoc}
use Prim.Native.Nat.{ℕ}
use Rattle.spec_grammar.specs.Tree.{Name, Shape, expression, reference, Exp, plain, indexed, num, tru, fls, get, query, unary, binary, choice, Expr, Received, into, equal, exactly, exactly_true, exactly_false, Sort, action, statement, sequence, options, Tree, leaf, express, assign, increment, decrement, send, receive, assert, print, skip, goto, break, timeout, else, run, set_run, select, loop, bare, labelled, end, then, over, option, Value, unset, set_number, set_minus, set_true, set_false, set_name, set_channel, Variable, variable, Declaration, declare, Group, group, Body, body, idle, once, times, Part, mtypes, global, process, init, Model, Leaf}
use Rattle.base_codes.specs.Items.{Item, i_active, i_active_many, i_argument, i_assert, i_assign, i_binary, i_body, i_channel, i_choice, i_declared, i_decrement, i_do, i_end, i_end_body, i_end_option, i_equal, i_express, i_false, i_fi, i_field, i_global, i_group, i_if, i_increment, i_index, i_init, i_into, i_label, i_query, i_local, i_message, i_minus, i_mtypes, i_name, i_named, i_number, i_od, i_option, i_otherwise, i_parameter, i_proctype, i_receive, i_run, i_send, i_set_run, i_size, i_target, i_text, i_true, i_type, i_unary, i_value}
use Rattle.parse_code.specs.Code.{each, code_exp, code_argument, code_received, code_tree, code_field, code_size, code_value, code_variable, code_declaration, code_parameter, code_group, code_body, code_message, code_part, code, code_leaf}
use Rattle.parse_code.proofs.Build.{hd, tl, Front, RestOf, add_action, front, back, exec, start, build}

shift : (i : Item) (f : Front) (x y c : List Item) → exec (i ∷ ((x ++ y) ++ c)) f ≡ exec (i ∷ (x ++ (y ++ c))) f
shift i f x y c = ap (λ (l : List Item). exec (i ∷ l) f) (append_assoc x y c)

-- expressions
abbrev push : Expr → Front → Front
push e f = record { es = e ∷ f.es; ns = f.ns; ks = f.ks }

abbrev Pushes : (s : Shape) → Exp s → Type 0
Pushes expression e = (c : List Item) (f : Front) → exec (code_exp e ++ c) f ≡ exec c (push e f)
Pushes reference r = (c : List Item) (f : Front) → exec (code_exp r ++ c) f ≡ exec c (push (get r) f)

exp_run : {s : Shape} (e : Exp s) → Pushes s e
exp_run (plain w) = λ c f. refl
exp_run (indexed w e) = λ c f. shift (i_name w) f (code_exp e) (i_index ∷ []) c ∙ exp_run e (i_index ∷ c) (front (i_name w) f)
exp_run (num n) = λ c f. refl
exp_run tru = λ c f. refl
exp_run fls = λ c f. refl
exp_run (get r) = exp_run r
exp_run (query o r) = λ c f. simp append_assoc (exp_run r (i_query o ∷ c) f)
exp_run (unary o e) = λ c f. simp append_assoc (exp_run e (i_unary o ∷ c) f)
exp_run (binary o a b) = λ c f. simp append_assoc (exp_run a (code_exp b ++ i_binary o ∷ c) f ∙ exp_run b (i_binary o ∷ c) (push a f))
exp_run (choice a b d) = λ c f.
    simp append_assoc (exp_run a (code_exp b ++ (i_otherwise ∷ code_exp d ++ i_choice ∷ c)) f ∙ exp_run b (i_otherwise ∷ code_exp d ++ i_choice ∷ c) (push a f) ∙ exp_run d (i_choice ∷ c) (push b (push a f)))

-- arguments
abbrev add_arg : Expr → RestOf → RestOf
add_arg e r = record { args = (e ∷ hd [] r.args) ∷ tl r.args; recs = r.recs; seqs = r.seqs; opts = r.opts; size = r.size; value = r.value; fields = r.fields; vars = r.vars; decls = r.decls; words = r.words; groups = r.groups; bod = r.bod; model = r.model }

abbrev add_args : List Expr → RestOf → RestOf
add_args [] r = r
add_args (e ∷ l) r = add_arg e (add_args l r)

args-run : (l : List Expr) (c : List Item) (f : Front) → exec (each code_argument l ++ c) f ≡ add_args l (exec c f)
args-run [] c f = refl
args-run (e ∷ l) c f = simp append_assoc (exp_run e (i_argument ∷ each code_argument l ++ c) f ∙ ap (add_arg e) (args-run l c f))

with-args : List Expr → RestOf → RestOf
with-args l r = record { args = l ∷ r.args; recs = [] ∷ r.recs; seqs = r.seqs; opts = r.opts; size = r.size; value = r.value; fields = r.fields; vars = r.vars; decls = r.decls; words = r.words; groups = r.groups; bod = r.bod; model = r.model }

args-fill : (l : List Expr) (r : RestOf) → add_args l (back i_end start r) ≡ with-args l r
unfolding with-args
args-fill [] r = refl
args-fill (e ∷ l) r = ap (add_arg e) (args-fill l r)

arguments : (l : List Expr) (c : List Item) (f : Front) → exec (each code_argument l ++ (i_end ∷ c)) f ≡ with-args l (exec c f)
arguments l c f = args-run l (i_end ∷ c) f ∙ args-fill l (exec c f)

abbrev add_rec : Received → RestOf → RestOf
add_rec x r = record { args = r.args; recs = (x ∷ hd [] r.recs) ∷ tl r.recs; seqs = r.seqs; opts = r.opts; size = r.size; value = r.value; fields = r.fields; vars = r.vars; decls = r.decls; words = r.words; groups = r.groups; bod = r.bod; model = r.model }

abbrev add_recs : List Received → RestOf → RestOf
add_recs [] r = r
add_recs (x ∷ l) r = add_rec x (add_recs l r)

rec_run : (x : Received) (c : List Item) (f : Front) → exec (code_received x ++ c) f ≡ add_rec x (exec c f)
rec_run (into r) c f = simp append_assoc (exp_run r (i_into ∷ c) f)
rec_run (equal e) c f = simp append_assoc (exp_run e (i_equal ∷ c) f)
rec_run (exactly n) c f = refl
rec_run exactly_true c f = refl
rec_run exactly_false c f = refl

recs_run : (l : List Received) (c : List Item) (f : Front) → exec (each code_received l ++ c) f ≡ add_recs l (exec c f)
recs_run [] c f = refl
recs_run (x ∷ l) c f = rw append_assoc (rec_run x (each code_received l ++ c) f ∙ ap (add_rec x) (recs_run l c f))

with_recs : List Received → RestOf → RestOf
with_recs l r = record { args = [] ∷ r.args; recs = l ∷ r.recs; seqs = r.seqs; opts = r.opts; size = r.size; value = r.value; fields = r.fields; vars = r.vars; decls = r.decls; words = r.words; groups = r.groups; bod = r.bod; model = r.model }

recs_fill : (l : List Received) (r : RestOf) → add_recs l (back i_end start r) ≡ with_recs l r
unfolding with_recs
recs_fill [] r = refl
recs_fill (x ∷ l) r = ap (add_rec x) (recs_fill l r)

receiveds : (l : List Received) (c : List Item) (f : Front) → exec (each code_received l ++ (i_end ∷ c)) f ≡ with_recs l (exec c f)
receiveds l c f = recs_run l (i_end ∷ c) f ∙ recs_fill l (exec c f)

-- statements
abbrev add_statement : Tree statement → RestOf → RestOf
add_statement (bare a) r = add_action a r
add_statement (labelled w a) r = record { args = r.args; recs = r.recs; seqs = then (labelled w a) (hd end r.seqs) ∷ tl r.seqs; opts = r.opts; size = r.size; value = r.value; fields = r.fields; vars = r.vars; decls = r.decls; words = r.words; groups = r.groups; bod = r.bod; model = r.model }

abbrev add_sequence : Tree sequence → RestOf → RestOf
add_sequence end r = r
add_sequence (then s q) r = add_statement s (add_sequence q r)

abbrev add_option : Tree sequence → RestOf → RestOf
add_option q r = record { args = r.args; recs = r.recs; seqs = r.seqs; opts = option q (hd over r.opts) ∷ tl r.opts; size = r.size; value = r.value; fields = r.fields; vars = r.vars; decls = r.decls; words = r.words; groups = r.groups; bod = r.bod; model = r.model }

abbrev add_options : Tree options → RestOf → RestOf
add_options over r = r
add_options (option q os) r = add_option q (add_options os r)

abbrev with_sequence : Tree sequence → RestOf → RestOf
with_sequence q r = record { args = r.args; recs = r.recs; seqs = q ∷ r.seqs; opts = r.opts; size = r.size; value = r.value; fields = r.fields; vars = r.vars; decls = r.decls; words = r.words; groups = r.groups; bod = r.bod; model = r.model }

statement_fill : (s : Tree statement) (q : Tree sequence) (r : RestOf) → add_statement s (with_sequence q r) ≡ with_sequence (then s q) r
statement_fill (bare a) q r = refl
statement_fill (labelled w a) q r = refl

sequence_fill : (q : Tree sequence) (r : RestOf) → add_sequence q (with_sequence end r) ≡ with_sequence q r
sequence_fill end r = refl
sequence_fill (then s q) r = ap (add_statement s) (sequence_fill q r) ∙ statement_fill s q r

abbrev with_options : Tree options → RestOf → RestOf
with_options os r = record { args = r.args; recs = r.recs; seqs = r.seqs; opts = os ∷ r.opts; size = r.size; value = r.value; fields = r.fields; vars = r.vars; decls = r.decls; words = r.words; groups = r.groups; bod = r.bod; model = r.model }

options_fill : (os : Tree options) (r : RestOf) → add_options os (with_options over r) ≡ with_options os r
options_fill over r = refl
options_fill (option q os) r = ap (add_option q) (options_fill os r)

abbrev Adds : (k : Sort) → Tree k → Type 0
Adds action a = (c : List Item) (f : Front) → exec (code_tree a ++ c) f ≡ add_action a (exec c f)
Adds statement s = (c : List Item) (f : Front) → exec (code_tree s ++ c) f ≡ add_statement s (exec c f)
Adds sequence q = (c : List Item) (f : Front) → exec (code_tree q ++ c) f ≡ add_sequence q (exec c f)
Adds options os = (c : List Item) (f : Front) → exec (code_tree os ++ c) f ≡ add_options os (exec c f)

leaf-run : (l : Leaf) (c : List Item) (f : Front) → exec (code_leaf l ++ c) f ≡ add_action (leaf l) (exec c f)
unfolding with-args with_recs
leaf-run (express e) = λ c f. simp append_assoc (exp_run e (i_express ∷ c) f)
leaf-run (assign r e) = λ c f. simp append_assoc (exp_run r (i_target ∷ code_exp e ++ i_assign ∷ c) f ∙ exp_run e (i_assign ∷ c) (push (get r) f))
leaf-run (increment r) = λ c f. simp append_assoc (exp_run r (i_increment ∷ c) f)
leaf-run (decrement r) = λ c f. simp append_assoc (exp_run r (i_decrement ∷ c) f)
leaf-run (send o r l) = λ c f. simp append_assoc (exp_run r (i_send o ∷ each code_argument l ++ i_end ∷ c) f ∙ ap (back (i_send o) (push (get r) f)) (arguments l c f))
leaf-run (receive o r l) = λ c f. simp append_assoc (exp_run r (i_receive o ∷ each code_received l ++ i_end ∷ c) f ∙ ap (back (i_receive o) (push (get r) f)) (receiveds l c f))
leaf-run (assert e) = λ c f. simp append_assoc (exp_run e (i_assert ∷ c) f)
leaf-run (print w l) = λ c f. shift (i_text w) f (each code_argument l) (i_end ∷ []) c ∙ ap (back (i_text w) f) (arguments l c f)
leaf-run skip = λ c f. refl
leaf-run (goto w) = λ c f. refl
leaf-run break = λ c f. refl
leaf-run timeout = λ c f. refl
leaf-run else = λ c f. refl
leaf-run (run w l) = λ c f. shift i_run (front (i_name w) f) (each code_argument l) (i_end ∷ []) c ∙ ap (back i_run (front (i_name w) f)) (arguments l c f)
leaf-run (set_run r w l) = λ c f.
    simp append_assoc (exp_run r (i_target ∷ i_name w ∷ i_set_run ∷ each code_argument l ++ i_end ∷ c) f ∙ ap (back i_set_run (front (i_name w) (push (get r) f))) (arguments l c f))

tree_run : {k : Sort} (t : Tree k) → Adds k t
unfolding with-args with_recs
tree_run (leaf l) = leaf-run l
tree_run (select os) = λ c f. shift i_if f (code_tree os) (i_fi ∷ []) c ∙ ap (back i_if f) (tree_run os (i_fi ∷ c) f ∙ options_fill os (exec c f))
tree_run (loop os) = λ c f. shift i_do f (code_tree os) (i_od ∷ []) c ∙ ap (back i_do f) (tree_run os (i_od ∷ c) f ∙ options_fill os (exec c f))
tree_run (bare a) = λ c f. tree_run a c f
tree_run (labelled w a) = λ c f. ap (back i_label (front (i_name w) f)) (tree_run a c f)
tree_run end = λ c f. refl
tree_run (then s q) = λ c f. rw append_assoc (tree_run s (code_tree q ++ c) f ∙ ap (add_statement s) (tree_run q c f))
tree_run over = λ c f. refl
tree_run (option q os) = λ c f.
    shift i_option f (code_tree q) (i_end_option ∷ code_tree os) c ∙ ap (back i_option f) (tree_run q (i_end_option ∷ code_tree os ++ c) f ∙ sequence_fill q (exec (code_tree os ++ c) f)) ∙ ap (add_option q) (tree_run os c f)

-- declarations: where nothing waits for them
abbrev now : Option ℕ → Value → List ℕ → List Variable → List Declaration → List Name → List Group → List (Tree sequence) → Body → Model → RestOf
now s v ks xs ds ws gs qs b m = record { args = []; recs = []; seqs = qs; opts = []; size = s; value = v; fields = ks; vars = xs; decls = ds; words = ws; groups = gs; bod = b; model = m }

module _ (xs : List Variable) (ds : List Declaration) (ws : List Name) (gs : List Group) (qs : List (Tree sequence)) (b : Body) (m : Model) where
  fields-run : (l : List ℕ) (c : List Item) (f : Front) → exec c f ≡ now none unset [] xs ds ws gs qs b m → exec (each code_field l ++ c) f ≡ now none unset l xs ds ws gs qs b m
  fields-run [] c f h = h
  fields-run (k ∷ l) c f h = ap (back i_field (front (i_type k) f)) (fields-run l c f h)

  value_run : (v : Value) (c : List Item) (f : Front) → exec c f ≡ now none unset [] xs ds ws gs qs b m → exec (code_value v ++ c) f ≡ now none v [] xs ds ws gs qs b m
  value_run unset c f h = h
  value_run (set_number n) c f h = ap (back i_value (front (i_number n) f)) h
  value_run (set_minus n) c f h = ap (back i_minus (front (i_number n) f)) h
  value_run set_true c f h = ap (back i_value (front i_true f)) h
  value_run set_false c f h = ap (back i_value (front i_false f)) h
  value_run (set_name w) c f h = ap (back i_named (front (i_name w) f)) h
  value_run (set_channel n l) c f h = ap (back i_channel (front (i_number n) f)) (fields-run l c f h)

  size-run : (s : Option ℕ) (v : Value) (c : List Item) (f : Front) → exec c f ≡ now none v [] xs ds ws gs qs b m → exec (code_size s ++ c) f ≡ now s v [] xs ds ws gs qs b m
  size-run none v c f h = h
  size-run (some n) v c f h = ap (back i_size (front (i_number n) f)) h

  variable_run : (x : Variable) (c : List Item) (f : Front) → exec c f ≡ now none unset [] xs ds ws gs qs b m → exec (code_variable x ++ c) f ≡ now none unset [] (x ∷ xs) ds ws gs qs b m
  variable_run (variable w s v) c f h = shift i_declared (front (i_name w) f) (code_size s) (code_value v) c ∙ ap (back i_declared (front (i_name w) f)) (size-run s v (code_value v ++ c) f (value_run v c f h))

variables-run : (l : List Variable) (ds : List Declaration) (ws : List Name) (gs : List Group) (qs : List (Tree sequence)) (b : Body) (m : Model) (c : List Item) (f : Front) →
    exec c f ≡ now none unset [] [] ds ws gs qs b m → exec (each code_variable l ++ c) f ≡ now none unset [] l ds ws gs qs b m
variables-run [] ds ws gs qs b m c f h = h
variables-run (x ∷ l) ds ws gs qs b m c f h = rw append_assoc (variable_run l ds ws gs qs b m x (each code_variable l ++ c) f (variables-run l ds ws gs qs b m c f h))

locals_run : (l : List Declaration) (qs : List (Tree sequence)) (m : Model) (c : List Item) (f : Front) →
    exec c f ≡ now none unset [] [] [] [] [] qs (body [] end) m → exec (each (code_declaration i_local) l ++ c) f ≡ now none unset [] [] l [] [] qs (body [] end) m
locals_run [] qs m c f h = h
locals_run (declare k xs ∷ l) qs m c f h =
    shift i_local (front (i_type k) f) (each code_variable xs) (each (code_declaration i_local) l) c ∙
    ap (back i_local (front (i_type k) f)) (variables-run xs l [] [] qs (body [] end) m (each (code_declaration i_local) l ++ c) f (locals_run l qs m c f h))

body_run : (b : Body) (m : Model) (c : List Item) (f : Front) → exec c f ≡ now none unset [] [] [] [] [] [] (body [] end) m → exec (code_body b ++ c) f ≡ now none unset [] [] [] [] [] [] b m
body_run (body ds q) m c f h =
    let x : exec (i_end_body ∷ c) f ≡ with_sequence end (now none unset [] [] [] [] [] [] (body [] end) m) = ap (with_sequence end) h in
    let y = tree_run q (i_end_body ∷ c) f ∙ ap (add_sequence q) x ∙ sequence_fill q (now none unset [] [] [] [] [] [] (body [] end) m) in
    shift i_body f (each (code_declaration i_local) ds ++ code_tree q) (i_end_body ∷ []) c ∙ shift i_body f (each (code_declaration i_local) ds) (code_tree q) (i_end_body ∷ c) ∙
    ap (back i_body f) (locals_run ds (q ∷ []) m (code_tree q ++ (i_end_body ∷ c)) f y)

parameters_run : (l : List Name) (gs : List Group) (b : Body) (m : Model) (c : List Item) (f : Front) → exec c f ≡ now none unset [] [] [] [] gs [] b m →
    exec (each code_parameter l ++ c) f ≡ now none unset [] [] [] l gs [] b m
parameters_run [] gs b m c f h = h
parameters_run (w ∷ l) gs b m c f h = ap (back i_parameter (front (i_name w) f)) (parameters_run l gs b m c f h)

groups_run : (l : List Group) (b : Body) (m : Model) (c : List Item) (f : Front) → exec c f ≡ now none unset [] [] [] [] [] [] b m → exec (each code_group l ++ c) f ≡ now none unset [] [] [] [] l [] b m
groups_run [] b m c f h = h
groups_run (group k ws ∷ l) b m c f h = shift i_group (front (i_type k) f) (each code_parameter ws) (each code_group l) c ∙ ap (back i_group (front (i_type k) f)) (parameters_run ws l b m (each code_group l ++ c) f (groups_run l b m c f h))

names-run : (l : List Name) (m : Model) (c : List Item) (f : Front) → exec c f ≡ now none unset [] [] [] [] [] [] (body [] end) m → exec (each code_message l ++ c) f ≡ now none unset [] [] [] l [] [] (body [] end) m
names-run [] m c f h = h
names-run (w ∷ l) m c f h = ap (back i_message (front (i_name w) f)) (names-run l m c f h)

part-run : (u : Part) (m : Model) (c : List Item) (f : Front) → exec c f ≡ now none unset [] [] [] [] [] [] (body [] end) m → exec (code_part u ++ c) f ≡ now none unset [] [] [] [] [] [] (body [] end) (u ∷ m)
part-run (mtypes ws) m c f h = ap (back i_mtypes f) (names-run ws m c f h)
part-run (global (declare k xs)) m c f h = ap (back i_global (front (i_type k) f)) (variables-run xs [] [] [] [] (body [] end) m c f h)
part-run (process idle w gs b) m c f h = shift i_proctype (front (i_name w) f) (each code_group gs) (code_body b) c ∙ ap (back i_proctype (front (i_name w) f)) (groups_run gs b m (code_body b ++ c) f (body_run b m c f h))
part-run (process once w gs b) m c f h = shift i_active (front (i_name w) f) (each code_group gs) (code_body b) c ∙ ap (back i_active (front (i_name w) f)) (groups_run gs b m (code_body b ++ c) f (body_run b m c f h))
part-run (process (times n) w gs b) m c f h = shift i_active_many (front (i_name w) (front (i_number n) f)) (each code_group gs) (code_body b) c ∙
    ap (back i_active_many (front (i_name w) (front (i_number n) f))) (groups_run gs b m (code_body b ++ c) f (body_run b m c f h))
part-run (init b) m c f h = ap (back i_init f) (body_run b m c f h)

model-run : (m : Model) → exec (code m) start ≡ now none unset [] [] [] [] [] [] (body [] end) m
model-run [] = refl
model-run (u ∷ m) = part-run u m (code m) start (model-run m)

-- THE CODE DETERMINES THE TREE
pub build-code : (m : Model) → build (code m) ≡ m
unfolding build
build-code m = ap (λ (r : RestOf). r.model) (model-run m)

pub code_injective : (m n : Model) → code m ≡ code n → m ≡ n
code_injective m n e = inv (build-code m) ∙ ap build e ∙ build-code n
