-- A machine that puts the tree of a code together: it reads forward, with what is not yet used in front of it, and builds on its way back.
use mathlib.Core.Option.{Option, none, some}
use mathlib.Core.List.{List, [], ◌∷◌}
use Prim.Native.Nat.{ℕ}
use lib.Dec.{eqb}
use Rattle.base_bytes.specs.Choice.{pick, either}
use Rattle.base_codes.specs.Codes.{c_active, c_active_many, c_argument, c_assert, c_assign, c_body, c_break, c_channel, c_choice, c_constant, c_declared, c_decrement, c_do, c_else, c_end, c_end_body, c_end_option, c_equal, c_express, c_false, c_fi, c_field, c_global, c_goto, c_group, c_if, c_increment, c_index, c_init, c_into, c_label, c_len, c_local, c_message, c_minus, c_mtypes, c_named, c_od, c_option, c_parameter, c_plain, c_proctype, c_run, c_send, c_set_run, c_size, c_skip, c_timeout, c_true, c_value}
use Rattle.base_codes.specs.Items.{Item, i_name, i_text, i_number, i_type, i_unary, i_binary, i_mark, i_operator}
use Rattle.base_codes.specs.Sets.{within}
use Rattle.spec_grammar.specs.Tree.{Name, plain, indexed, num, tru, fls, get, query, unary, binary, choice, Expr, Ref, Received, into, equal, exactly, exactly_true, exactly_false, action, sequence, options, Tree, leaf, express, assign, increment, decrement, send, receive, assert, print, skip, goto, break, timeout, else, run, set_run, select, loop, bare, labelled, end, then, over, option, Value, unset, set_number, set_minus, set_true, set_false, set_name, set_channel, Variable, variable, Declaration, declare, Group, group, Body, body, idle, once, times, mtypes, global, process, init, Model}

-- the first and the rest of a list; what a part of the code stands for, with anything at all for what is no such part
abbrev pub hd : {A : Type 0} → A → List A → A
hd d [] = d
hd d (a ∷ l) = a

abbrev pub tl : {A : Type 0} → List A → List A
tl [] = []
tl (a ∷ l) = l

abbrev pub ref_of : Expr → Ref
ref_of (get r) = r
ref_of (num n) = plain []
ref_of tru = plain []
ref_of fls = plain []
ref_of (query o r) = plain []
ref_of (unary o e) = plain []
ref_of (binary o a b) = plain []
ref_of (choice a b c) = plain []

abbrev pub number_of : Expr → ℕ
number_of (num n) = n
number_of tru = 0
number_of fls = 0
number_of (get r) = 0
number_of (query o r) = 0
number_of (unary o e) = 0
number_of (binary o a b) = 0
number_of (choice a b c) = 0

abbrev pub value_of : Expr → Value
value_of (num n) = set_number n
value_of tru = set_true
value_of fls = set_false
value_of (get r) = unset
value_of (query o r) = unset
value_of (unary o e) = unset
value_of (binary o a b) = unset
value_of (choice a b c) = unset

abbrev pub constant_of : Expr → Received
constant_of (num n) = exactly n
constant_of tru = exactly_true
constant_of fls = exactly_false
constant_of (get r) = exactly 0
constant_of (query o r) = exactly 0
constant_of (unary o e) = exactly 0
constant_of (binary o a b) = exactly 0
constant_of (choice a b c) = exactly 0

abbrev pub relabel : Name → Tree sequence → Tree sequence
relabel w end = end
relabel w (then (bare a) q) = then (labelled w a) q
relabel w (then (labelled v a) q) = then (labelled v a) q

-- expressions, names and types not yet used, latest first
pub record Front : Type 0 where
  pub es : List Expr
  pub ns : List Name
  pub ks : List ℕ

-- what the code from here on stands for: open lists, innermost first, and the parts that wait for what stands before them
pub record RestOf : Type 0 where
  pub args : List (List Expr)
  pub recs : List (List Received)
  pub seqs : List (Tree sequence)
  pub opts : List (Tree options)
  pub size : Option ℕ
  pub value : Value
  pub fields : List ℕ
  pub vars : List Variable
  pub decls : List Declaration
  pub words : List Name
  pub groups : List Group
  pub bod : Body
  pub model : Model

abbrev pub add_action : Tree action → RestOf → RestOf
add_action a r = record { args = r.args; recs = r.recs; seqs = then (bare a) (hd end r.seqs) ∷ tl r.seqs; opts = r.opts; size = r.size; value = r.value; fields = r.fields; vars = r.vars; decls = r.decls; words = r.words; groups = r.groups; bod = r.bod; model = r.model }

-- what an item does to what is in front of it, and to what follows it; marks by their codes
abbrev pub front_mark : ℕ → Front → Front
front_mark c f =
    pick (eqb c c_plain) (record { es = get (plain (hd [] f.ns)) ∷ f.es; ns = tl f.ns; ks = f.ks })
    (pick (eqb c c_index) (record { es = get (indexed (hd [] f.ns) (hd (num 0) f.es)) ∷ tl f.es; ns = tl f.ns; ks = f.ks })
    (pick (eqb c c_true) (record { es = tru ∷ f.es; ns = f.ns; ks = f.ks })
    (pick (eqb c c_false) (record { es = fls ∷ f.es; ns = f.ns; ks = f.ks })
    (pick (eqb c c_choice) (record { es = choice (hd (num 0) (tl (tl f.es))) (hd (num 0) (tl f.es)) (hd (num 0) f.es) ∷ tl (tl (tl f.es)); ns = f.ns; ks = f.ks })
    (pick (eqb c c_assign) (record { es = tl (tl f.es); ns = f.ns; ks = f.ks })
    (pick (either (eqb c c_set_run) (eqb c c_active_many)) (record { es = tl f.es; ns = tl f.ns; ks = f.ks })
    (pick (either (within c_argument c_constant c) (either (eqb c c_express) (either (within c_increment c_assert c) (either (within c_size c_minus c) (eqb c c_channel))))) (record { es = tl f.es; ns = f.ns; ks = f.ks })
    (pick (either (eqb c c_label) (either (eqb c c_goto) (either (eqb c c_run) (either (eqb c c_declared) (either (eqb c c_named) (either (eqb c c_message) (within c_parameter c_active c))))))) (record { es = f.es; ns = tl f.ns; ks = f.ks })
    (pick (either (within c_local c_global c) (either (eqb c c_field) (eqb c c_group))) (record { es = f.es; ns = f.ns; ks = tl f.ks }) f)))))))))

abbrev pub front : Item → Front → Front
front (i_name w) f = record { es = f.es; ns = w ∷ f.ns; ks = f.ks }
front (i_text w) f = f
front (i_number n) f = record { es = num n ∷ f.es; ns = f.ns; ks = f.ks }
front (i_type n) f = record { es = f.es; ns = f.ns; ks = n ∷ f.ks }
front (i_unary n) f = record { es = unary n (hd (num 0) f.es) ∷ tl f.es; ns = f.ns; ks = f.ks }
front (i_binary n) f = record { es = binary n (hd (num 0) (tl f.es)) (hd (num 0) f.es) ∷ tl (tl f.es); ns = f.ns; ks = f.ks }
front (i_mark c) f = front_mark c f
front (i_operator c o) f = pick (eqb c c_len) (record { es = query o (ref_of (hd (num 0) f.es)) ∷ tl f.es; ns = f.ns; ks = f.ks }) (record { es = tl f.es; ns = f.ns; ks = f.ks })

abbrev pub back_mark : ℕ → Front → RestOf → RestOf
back_mark c f r =
    pick (eqb c c_argument) (record { args = ((hd (num 0) f.es) ∷ hd [] r.args) ∷ tl r.args; recs = r.recs; seqs = r.seqs; opts = r.opts; size = r.size; value = r.value; fields = r.fields; vars = r.vars; decls = r.decls; words = r.words; groups = r.groups; bod = r.bod; model = r.model })
    (pick (eqb c c_into) (record { args = r.args; recs = (into (ref_of (hd (num 0) f.es)) ∷ hd [] r.recs) ∷ tl r.recs; seqs = r.seqs; opts = r.opts; size = r.size; value = r.value; fields = r.fields; vars = r.vars; decls = r.decls; words = r.words; groups = r.groups; bod = r.bod; model = r.model })
    (pick (eqb c c_equal) (record { args = r.args; recs = (equal (hd (num 0) f.es) ∷ hd [] r.recs) ∷ tl r.recs; seqs = r.seqs; opts = r.opts; size = r.size; value = r.value; fields = r.fields; vars = r.vars; decls = r.decls; words = r.words; groups = r.groups; bod = r.bod; model = r.model })
    (pick (eqb c c_constant) (record { args = r.args; recs = (constant_of (hd (num 0) f.es) ∷ hd [] r.recs) ∷ tl r.recs; seqs = r.seqs; opts = r.opts; size = r.size; value = r.value; fields = r.fields; vars = r.vars; decls = r.decls; words = r.words; groups = r.groups; bod = r.bod; model = r.model })
    (pick (eqb c c_end) (record { args = [] ∷ r.args; recs = [] ∷ r.recs; seqs = r.seqs; opts = r.opts; size = r.size; value = r.value; fields = r.fields; vars = r.vars; decls = r.decls; words = r.words; groups = r.groups; bod = r.bod; model = r.model })
    (pick (eqb c c_label) (record { args = r.args; recs = r.recs; seqs = relabel (hd [] f.ns) (hd end r.seqs) ∷ tl r.seqs; opts = r.opts; size = r.size; value = r.value; fields = r.fields; vars = r.vars; decls = r.decls; words = r.words; groups = r.groups; bod = r.bod; model = r.model })
    (pick (eqb c c_express) (add_action (leaf (express (hd (num 0) f.es))) r)
    (pick (eqb c c_assign) (add_action (leaf (assign (ref_of (hd (num 0) (tl f.es))) (hd (num 0) f.es))) r)
    (pick (eqb c c_increment) (add_action (leaf (increment (ref_of (hd (num 0) f.es)))) r)
    (pick (eqb c c_decrement) (add_action (leaf (decrement (ref_of (hd (num 0) f.es)))) r)
    (pick (eqb c c_assert) (add_action (leaf (assert (hd (num 0) f.es))) r)
    (pick (eqb c c_skip) (add_action (leaf skip) r)
    (pick (eqb c c_goto) (add_action (leaf (goto (hd [] f.ns))) r)
    (pick (eqb c c_break) (add_action (leaf break) r)
    (pick (eqb c c_timeout) (add_action (leaf timeout) r)
    (pick (eqb c c_else) (add_action (leaf else) r)
    (pick (eqb c c_run) (add_action (leaf (run (hd [] f.ns) (hd [] r.args))) (record { args = tl r.args; recs = tl r.recs; seqs = r.seqs; opts = r.opts; size = r.size; value = r.value; fields = r.fields; vars = r.vars; decls = r.decls; words = r.words; groups = r.groups; bod = r.bod; model = r.model }))
    (pick (eqb c c_set_run) (add_action (leaf (set_run (ref_of (hd (num 0) f.es)) (hd [] f.ns) (hd [] r.args))) (record { args = tl r.args; recs = tl r.recs; seqs = r.seqs; opts = r.opts; size = r.size; value = r.value; fields = r.fields; vars = r.vars; decls = r.decls; words = r.words; groups = r.groups; bod = r.bod; model = r.model }))
    (pick (eqb c c_if) (add_action (select (hd over r.opts)) (record { args = r.args; recs = r.recs; seqs = r.seqs; opts = tl r.opts; size = r.size; value = r.value; fields = r.fields; vars = r.vars; decls = r.decls; words = r.words; groups = r.groups; bod = r.bod; model = r.model }))
    (pick (either (eqb c c_fi) (eqb c c_od)) (record { args = r.args; recs = r.recs; seqs = r.seqs; opts = over ∷ r.opts; size = r.size; value = r.value; fields = r.fields; vars = r.vars; decls = r.decls; words = r.words; groups = r.groups; bod = r.bod; model = r.model })
    (pick (eqb c c_do) (add_action (loop (hd over r.opts)) (record { args = r.args; recs = r.recs; seqs = r.seqs; opts = tl r.opts; size = r.size; value = r.value; fields = r.fields; vars = r.vars; decls = r.decls; words = r.words; groups = r.groups; bod = r.bod; model = r.model }))
    (pick (eqb c c_option) (record { args = r.args; recs = r.recs; seqs = tl r.seqs; opts = option (hd end r.seqs) (hd over r.opts) ∷ tl r.opts; size = r.size; value = r.value; fields = r.fields; vars = r.vars; decls = r.decls; words = r.words; groups = r.groups; bod = r.bod; model = r.model })
    (pick (either (eqb c c_end_option) (eqb c c_end_body)) (record { args = r.args; recs = r.recs; seqs = end ∷ r.seqs; opts = r.opts; size = r.size; value = r.value; fields = r.fields; vars = r.vars; decls = r.decls; words = r.words; groups = r.groups; bod = r.bod; model = r.model })
    (pick (eqb c c_local) (record { args = r.args; recs = r.recs; seqs = r.seqs; opts = r.opts; size = r.size; value = r.value; fields = r.fields; vars = []; decls = declare (hd 0 f.ks) r.vars ∷ r.decls; words = r.words; groups = r.groups; bod = r.bod; model = r.model })
    (pick (eqb c c_global) (record { args = r.args; recs = r.recs; seqs = r.seqs; opts = r.opts; size = r.size; value = r.value; fields = r.fields; vars = []; decls = r.decls; words = r.words; groups = r.groups; bod = r.bod; model = global (declare (hd 0 f.ks) r.vars) ∷ r.model })
    (pick (eqb c c_declared) (record { args = r.args; recs = r.recs; seqs = r.seqs; opts = r.opts; size = none; value = unset; fields = r.fields; vars = variable (hd [] f.ns) r.size r.value ∷ r.vars; decls = r.decls; words = r.words; groups = r.groups; bod = r.bod; model = r.model })
    (pick (eqb c c_size) (record { args = r.args; recs = r.recs; seqs = r.seqs; opts = r.opts; size = some (number_of (hd (num 0) f.es)); value = r.value; fields = r.fields; vars = r.vars; decls = r.decls; words = r.words; groups = r.groups; bod = r.bod; model = r.model })
    (pick (eqb c c_value) (record { args = r.args; recs = r.recs; seqs = r.seqs; opts = r.opts; size = r.size; value = value_of (hd (num 0) f.es); fields = r.fields; vars = r.vars; decls = r.decls; words = r.words; groups = r.groups; bod = r.bod; model = r.model })
    (pick (eqb c c_minus) (record { args = r.args; recs = r.recs; seqs = r.seqs; opts = r.opts; size = r.size; value = set_minus (number_of (hd (num 0) f.es)); fields = r.fields; vars = r.vars; decls = r.decls; words = r.words; groups = r.groups; bod = r.bod; model = r.model })
    (pick (eqb c c_named) (record { args = r.args; recs = r.recs; seqs = r.seqs; opts = r.opts; size = r.size; value = set_name (hd [] f.ns); fields = r.fields; vars = r.vars; decls = r.decls; words = r.words; groups = r.groups; bod = r.bod; model = r.model })
    (pick (eqb c c_channel) (record { args = r.args; recs = r.recs; seqs = r.seqs; opts = r.opts; size = r.size; value = set_channel (number_of (hd (num 0) f.es)) r.fields; fields = []; vars = r.vars; decls = r.decls; words = r.words; groups = r.groups; bod = r.bod; model = r.model })
    (pick (eqb c c_field) (record { args = r.args; recs = r.recs; seqs = r.seqs; opts = r.opts; size = r.size; value = r.value; fields = (hd 0 f.ks) ∷ r.fields; vars = r.vars; decls = r.decls; words = r.words; groups = r.groups; bod = r.bod; model = r.model })
    (pick (eqb c c_mtypes) (record { args = r.args; recs = r.recs; seqs = r.seqs; opts = r.opts; size = r.size; value = r.value; fields = r.fields; vars = r.vars; decls = r.decls; words = []; groups = r.groups; bod = r.bod; model = mtypes r.words ∷ r.model })
    (pick (either (eqb c c_message) (eqb c c_parameter)) (record { args = r.args; recs = r.recs; seqs = r.seqs; opts = r.opts; size = r.size; value = r.value; fields = r.fields; vars = r.vars; decls = r.decls; words = (hd [] f.ns) ∷ r.words; groups = r.groups; bod = r.bod; model = r.model })
    (pick (eqb c c_group) (record { args = r.args; recs = r.recs; seqs = r.seqs; opts = r.opts; size = r.size; value = r.value; fields = r.fields; vars = r.vars; decls = r.decls; words = []; groups = group (hd 0 f.ks) r.words ∷ r.groups; bod = r.bod; model = r.model })
    (pick (eqb c c_proctype) (record { args = r.args; recs = r.recs; seqs = r.seqs; opts = r.opts; size = r.size; value = r.value; fields = r.fields; vars = r.vars; decls = r.decls; words = r.words; groups = []; bod = body [] end; model = process idle (hd [] f.ns) r.groups r.bod ∷ r.model })
    (pick (eqb c c_active) (record { args = r.args; recs = r.recs; seqs = r.seqs; opts = r.opts; size = r.size; value = r.value; fields = r.fields; vars = r.vars; decls = r.decls; words = r.words; groups = []; bod = body [] end; model = process once (hd [] f.ns) r.groups r.bod ∷ r.model })
    (pick (eqb c c_active_many) (record { args = r.args; recs = r.recs; seqs = r.seqs; opts = r.opts; size = r.size; value = r.value; fields = r.fields; vars = r.vars; decls = r.decls; words = r.words; groups = []; bod = body [] end; model = process (times (number_of (hd (num 0) f.es))) (hd [] f.ns) r.groups r.bod ∷ r.model })
    (pick (eqb c c_init) (record { args = r.args; recs = r.recs; seqs = r.seqs; opts = r.opts; size = r.size; value = r.value; fields = r.fields; vars = r.vars; decls = r.decls; words = r.words; groups = r.groups; bod = body [] end; model = init r.bod ∷ r.model })
    (pick (eqb c c_body) (record { args = r.args; recs = r.recs; seqs = tl r.seqs; opts = r.opts; size = r.size; value = r.value; fields = r.fields; vars = r.vars; decls = []; words = r.words; groups = r.groups; bod = body r.decls (hd end r.seqs); model = r.model }) r)))))))))))))))))))))))))))))))))))))))

abbrev pub back : Item → Front → RestOf → RestOf
back (i_name w) f r = r
back (i_text w) f r = add_action (leaf (print w (hd [] r.args))) (record { args = tl r.args; recs = tl r.recs; seqs = r.seqs; opts = r.opts; size = r.size; value = r.value; fields = r.fields; vars = r.vars; decls = r.decls; words = r.words; groups = r.groups; bod = r.bod; model = r.model })
back (i_number n) f r = r
back (i_type n) f r = r
back (i_unary n) f r = r
back (i_binary n) f r = r
back (i_mark c) f r = back_mark c f r
back (i_operator c o) f r =
    pick (eqb c c_len) r
    (pick (eqb c c_send) (add_action (leaf (send o (ref_of (hd (num 0) f.es)) (hd [] r.args))) (record { args = tl r.args; recs = tl r.recs; seqs = r.seqs; opts = r.opts; size = r.size; value = r.value; fields = r.fields; vars = r.vars; decls = r.decls; words = r.words; groups = r.groups; bod = r.bod; model = r.model }))
    (add_action (leaf (receive o (ref_of (hd (num 0) f.es)) (hd [] r.recs))) (record { args = tl r.args; recs = tl r.recs; seqs = r.seqs; opts = r.opts; size = r.size; value = r.value; fields = r.fields; vars = r.vars; decls = r.decls; words = r.words; groups = r.groups; bod = r.bod; model = r.model })))

abbrev pub nothing : RestOf
nothing = record { args = []; recs = []; seqs = []; opts = []; size = none; value = unset; fields = []; vars = []; decls = []; words = []; groups = []; bod = body [] end; model = [] }

-- reads code: what stands in front is known on the way in, what follows on the way out
abbrev pub exec : List Item → Front → RestOf
exec [] f = nothing
exec (i ∷ c) f = back i f (exec c (front i f))

abbrev pub start : Front
start = record { es = []; ns = []; ks = [] }

-- THE TREE OF A CODE
unfoldable pub build : List Item → Model
build c = (exec c start).model
