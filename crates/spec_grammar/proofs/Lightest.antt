-- Among all token lists of a tree the printed one is the shortest and has the fewest parentheses, by one argument over the tokens' weights.
use mathlib.Core.Path.{◌≡◌, refl}
use mathlib.Core.Bool.{Bool, true, false, cond}
use mathlib.Core.List.{List, [], ◌∷◌, ◌++◌, append-nil}
use Prim.Native.Nat.{ℕ, suc, ◌≤◌, ◌+◌}
use native.Mathlib.Omega.{arith}
use lib.Dec.{T, eqb, leb, leb→le, le→leb}
use lib.ListN.{length}
use borrow.Author.Tests.{le-leb}
use Rattle.base_kinds.specs.Kinds.{Token, sym, name, number, text, level}
use Rattle.spec_grammar.specs.Marks.{'lpar, 'rpar, 'rbrace, 'comma, 'semi, '->, '=, '++, 'fi, 'od, 'proctype, 'run, '--}
use Rattle.spec_grammar.specs.Tree.{Name, num, tru, fls, get, query, unary, binary, choice, Expr, Ref, Received, Leaf, Sort, sequence, Tree, Value, Variable, Declaration, Group, Body, body, Activity, Part, Model}
use Rattle.spec_grammar.specs.Grammar.{Listed, one, more, MaybeListed, no_list, a_list, Message, commas, call, Parted, by_semi, by_arrow, AName, a_name, AType, a_type, E, e_plain, e_index, e_number, e_true, e_false, e_query, e_group, e_choice, e_unary, e_binary, e_up, AnExpression, AReference, AReceived, r_into, r_eval, r_number, r_true, r_false, ALeaf, s_express, s_assign, s_increment, s_decrement, s_send, s_receive, s_assert, s_print_alone, s_print, s_skip, s_goto, s_break, s_timeout, s_else, s_run, s_set_run, D, s_leaf, s_if, s_do, s_bare, s_label, q_last, q_then, o_last, o_also, AValue, v_number, v_minus, v_true, v_false, v_name, AVariable, x_bare, x_set, x_array, x_array_set, x_channel, ADeclaration, declaration, AGroup, a_group, Items, statements, declared, ABody, a_body, AnActivity, not_active, active, active_times, AUnit, u_mtypes, u_global, u_process, u_init, Gram, g_last, g_more}
use Rattle.spec_grammar.specs.Print.{wrap, print_exp, print_ref, print_whole, join, print_received, print_tree, print_type, print_value, print_variable, print_declaration, print_name, print_group, print_items, print_body, print_activity, print_part, print_model, print_leaf}
use Rattle.spec_grammar.proofs.Printed.{join_more, further-more, sequence_before}

-- the sum of the tokens' weights: with 1 for each, the length; with 1 for an opening parenthesis alone, the number of parentheses
abbrev pub total : (Token → ℕ) → List Token → ℕ
total μ [] = 0
total μ (c ∷ ts) = μ c + total μ ts

abbrev pub is_parenthesis : Token → ℕ
is_parenthesis (sym k) = cond (eqb k 21) 1 0
is_parenthesis (name w) = 0
is_parenthesis (number n) = 0
is_parenthesis (text w) = 0

pub total-append : (μ : Token → ℕ) (ts us : List Token) → total μ (ts ++ us) ≡ total μ ts + total μ us
total-append μ [] us = omega arith
total-append μ (c ∷ ts) us = omega (arith, total-append μ ts us)

-- over any weights at which `;` is no heavier than `->` and a comma no heavier than a pair of parentheses
module _ (μ : Token → ℕ) (lighter : μ 'semi ≤ μ '->) (cheaper : μ 'comma ≤ μ 'lpar + μ 'rpar) where
  -- the tokens of one expression at two levels
  wrap-pair : (x y : Bool) (ts : List Token) → total μ (wrap x ts) ≤ total μ (wrap y ts) + (μ 'lpar + μ 'rpar)
  wrap-pair true true ts = omega arith
  wrap-pair true false ts = omega (arith, total-append μ ts ('rpar ∷ []))
  wrap-pair false true ts = omega (arith, total-append μ ts ('rpar ∷ []))
  wrap-pair false false ts = omega arith

  wrap_less : (x y : Bool) (ts : List Token) → (T y → T x) → total μ (wrap x ts) ≤ total μ (wrap y ts)
  wrap_less true true ts h = omega arith
  wrap_less true false ts h = omega (arith, total-append μ ts ('rpar ∷ []))
  wrap_less false true ts h = absurd (h tt)
  wrap_less false false ts h = omega arith

  exp_pair : (e : Expr) (l m : ℕ) → total μ (print_exp e l) ≤ total μ (print_exp e m) + (μ 'lpar + μ 'rpar)
  exp_pair (num n) l m = omega arith
  exp_pair tru l m = omega arith
  exp_pair fls l m = omega arith
  exp_pair (get r) l m = omega arith
  exp_pair (query mk r) l m = omega arith
  exp_pair (unary o e) l m = omega arith
  exp_pair (binary o a b) l m = wrap-pair (leb l (level o)) (leb m (level o)) _
  exp_pair (choice a b c) l m = omega arith

  exp_less : (e : Expr) (l : ℕ) → total μ (print_exp e l) ≤ total μ (print_exp e (suc l))
  exp_less (num n) l = omega arith
  exp_less tru l = omega arith
  exp_less fls l = omega arith
  exp_less (get r) l = omega arith
  exp_less (query mk r) l = omega arith
  exp_less (unary o e) l = omega arith
  exp_less (binary o a b) l = wrap_less (leb l (level o)) (leb (suc l) (level o)) _ (λ t. le→leb l (level o) (omega (arith, leb→le (suc l) (level o) t)))
  exp_less (choice a b c) l = omega arith

  exp_light : {l : ℕ} {ts : List Token} {e : Expr} → E l ts e → total μ (print_exp e l) ≤ total μ ts
  exp_light e_plain = omega arith
  exp_light (e_index {ts = ts} {e = e} x) = simp (total-append μ) (omega (arith, exp_light x))
  exp_light e_number = omega arith
  exp_light e_true = omega arith
  exp_light e_false = omega arith
  exp_light (e_query {ts = ts} kind x) = simp (total-append μ) (omega (arith, exp_light x))
  exp_light (e_group {ts = ts} {e = e} x) = omega (arith, exp_light x, exp_pair e 11 1, total-append μ ts ('rpar ∷ []))
  exp_light (e_choice x y z) = simp (total-append μ) (omega (arith, exp_light x, exp_light y, exp_light z))
  exp_light (e_unary u x) = omega (arith, exp_light x)
  exp_light (e_binary {l = l} i x y) = rw (i, le-leb (suc l) (suc l) (omega arith)) (simp (total-append μ) (omega (arith, exp_light x, exp_light y)))
  exp_light (e_up {l = l} {e = e} x) = omega (arith, exp_light x, exp_less e l)

  whole-light : (ts : List Token) (e : Expr) → AnExpression ts e → total μ (print_whole e) ≤ total μ ts
  whole-light ts e x = exp_light x

  ref-light : {ts : List Token} {r : Ref} → AReference ts r → total μ (print_ref r) ≤ total μ ts
  ref-light x = exp_light x

  -- lists
  list-light : (s : Token) {A : Type 0} (X : List Token → A → Type 0) (f : A → List Token) → ((ts : List Token) (a : A) → X ts a → total μ (f a) ≤ total μ ts) → {ts : List Token} {l : List A} → Listed s X ts l →
      total μ (join s f l) ≤ total μ ts
  list-light s X f g (one {ts = ts} {a = a} x) = rw append-nil (g ts a x)
  list-light s X f g (more {ts = ts} {us = us} {a = a} {l = l} x y) = rw (join_more s X f a y)
      (omega (arith, g ts a x, list-light s X f g y, total-append μ (f a) (s ∷ join s f l), total-append μ ts (s ∷ us)))

  maybe_light : (s : Token) {A : Type 0} (X : List Token → A → Type 0) (f : A → List Token) → ((ts : List Token) (a : A) → X ts a → total μ (f a) ≤ total μ ts) → {ts : List Token} {l : List A} → MaybeListed s X ts l →
      total μ (join s f l) ≤ total μ ts
  maybe_light s X f g no_list = omega arith
  maybe_light s X f g (a_list x) = list-light s X f g x

  message-light : {A : Type 0} (X : List Token → A → Type 0) (f : A → List Token) → ((ts : List Token) (a : A) → X ts a → total μ (f a) ≤ total μ ts) → {ts : List Token} {l : List A} → Message X ts l →
      total μ (join 'comma f l) ≤ total μ ts
  message-light X f g (commas x) = list-light 'comma X f g x
  message-light X f g (call {ts = ts} {us = us} {a = a} {l = l} x y) = rw (join_more 'comma X f a y)
      (omega (arith, cheaper, g ts a x, list-light 'comma X f g y, total-append μ (f a) ('comma ∷ join 'comma f l), total-append μ (ts ++ 'lpar ∷ us) ('rpar ∷ []), total-append μ ts ('lpar ∷ us)))

  received-light : (ts : List Token) (x : Received) → AReceived ts x → total μ (print_received x) ≤ total μ ts
  received-light ts x (r_into y) = ref-light y
  received-light ts x (r_eval {ts = us} {e = e} y) = simp (total-append μ) (omega (arith, exp_light y))
  received-light ts x r_number = omega arith
  received-light ts x r_true = omega arith
  received-light ts x r_false = omega arith

  parted_light : {us : List Token} → Parted us → μ 'semi ≤ total μ us
  parted_light (by_semi u) = omega arith
  parted_light (by_arrow u) = omega (arith, lighter)

  -- statements
  leaf-light : {ts : List Token} {l : Leaf} → ALeaf ts l → total μ (print_leaf l) ≤ total μ ts
  leaf-light (s_express x) = exp_light x
  leaf-light (s_assign {ts = ts} {us = us} {r = r} {e = e} x y) = omega (arith, exp_light x, exp_light y, total-append μ ts ('= ∷ us), total-append μ (print_ref r) ('= ∷ print_whole e))
  leaf-light (s_increment {ts = ts} {r = r} x) = omega (arith, exp_light x, total-append μ ts ('++ ∷ []), total-append μ (print_ref r) ('++ ∷ []))
  leaf-light (s_decrement {ts = ts} {r = r} x) = omega (arith, exp_light x, total-append μ ts ('-- ∷ []), total-append μ (print_ref r) ('-- ∷ []))
  leaf-light (s_send {o = o} {ts = ts} {us = us} {r = r} {es = es} kind x y) =
      omega (arith, exp_light x, message-light AnExpression print_whole whole-light y, total-append μ ts (sym o ∷ us), total-append μ (print_ref r) (sym o ∷ join 'comma print_whole es))
  leaf-light (s_receive {o = o} {ts = ts} {us = us} {r = r} {xs = xs} kind x y) =
      omega (arith, exp_light x, message-light AReceived print_received received-light y, total-append μ ts (sym o ∷ us), total-append μ (print_ref r) (sym o ∷ join 'comma print_received xs))
  leaf-light (s_assert {ts = ts} {e = e} x) = omega (arith, exp_light x, total-append μ ts ('rpar ∷ []), total-append μ (print_whole e) ('rpar ∷ []))
  leaf-light s_print_alone = omega arith
  leaf-light (s_print {ts = ts} {es = es} x) = rw (further-more 'comma AnExpression print_whole x)
      (omega (arith, list-light 'comma AnExpression print_whole whole-light x, total-append μ ts ('rpar ∷ []), total-append μ (join 'comma print_whole es) ('rpar ∷ [])))
  leaf-light s_skip = omega arith
  leaf-light s_goto = omega arith
  leaf-light s_break = omega arith
  leaf-light s_timeout = omega arith
  leaf-light s_else = omega arith
  leaf-light (s_run {ts = ts} {es = es} x) =
      omega (arith, maybe_light 'comma AnExpression print_whole whole-light x, total-append μ ts ('rpar ∷ []), total-append μ (join 'comma print_whole es) ('rpar ∷ []))
  leaf-light (s_set_run {ts = ts} {us = us} {r = r} {w = w} {es = es} x y) =
      omega (
        arith,
        exp_light x,
        maybe_light 'comma AnExpression print_whole whole-light y,
        total-append μ (ts ++ '= ∷ 'run ∷ name w ∷ 'lpar ∷ us) ('rpar ∷ []),
        total-append μ ts ('= ∷ 'run ∷ name w ∷ 'lpar ∷ us),
        total-append μ (print_ref r ++ '= ∷ 'run ∷ name w ∷ 'lpar ∷ join 'comma print_whole es) ('rpar ∷ []),
        total-append μ (print_ref r) ('= ∷ 'run ∷ name w ∷ 'lpar ∷ join 'comma print_whole es),
      )

  tree_light : {k : Sort} {ts : List Token} {t : Tree k} → D k ts t → total μ (print_tree t) ≤ total μ ts
  tree_light (s_leaf x) = leaf-light x
  tree_light (s_if {ts = ts} {os = os} x) = omega (arith, tree_light x, total-append μ ts ('fi ∷ []), total-append μ (print_tree os) ('fi ∷ []))
  tree_light (s_do {ts = ts} {os = os} x) = omega (arith, tree_light x, total-append μ ts ('od ∷ []), total-append μ (print_tree os) ('od ∷ []))
  tree_light (s_bare x) = tree_light x
  tree_light (s_label x) = omega (arith, tree_light x)
  tree_light (q_last {ts = ts} {us = us} {s = s} x u) = omega (arith, tree_light x, total-append μ ts us, total-append μ (print_tree s) [])
  tree_light (q_then {ts = ts} {us = us} {vs = vs} {s = s} {q = q} x u y) = rw (sequence_before y)
      (omega (arith, tree_light x, tree_light y, parted_light u, total-append μ (ts ++ us) vs, total-append μ ts us, total-append μ (print_tree s) ('semi ∷ print_tree q)))
  tree_light (o_last {q = q} x) = omega (arith, tree_light x, total-append μ (print_tree q) [])
  tree_light (o_also {ts = ts} {us = us} {q = q} {os = os} x y) = omega (arith, tree_light x, tree_light y, total-append μ ts us, total-append μ (print_tree q) (print_tree os))

  -- declarations
  type_light : (ts : List Token) (k : ℕ) → AType ts k → total μ (print_type k) ≤ total μ ts
  type_light ts k (a_type x) = omega arith

  name-light : (ts : List Token) (w : Name) → AName ts w → total μ (print_name w) ≤ total μ ts
  name-light ts w a_name = omega arith

  value_light : {ts : List Token} {v : Value} → AValue ts v → total μ (print_value v) ≤ μ '= + total μ ts
  value_light v_number = omega arith
  value_light v_minus = omega arith
  value_light v_true = omega arith
  value_light v_false = omega arith
  value_light v_name = omega arith

  variable_light : (k : ℕ) (ts : List Token) (x : Variable) → AVariable k ts x → total μ (print_variable x) ≤ total μ ts
  variable_light k ts x x_bare = omega arith
  variable_light k ts x (x_set v) = omega (arith, value_light v)
  variable_light k ts x x_array = omega arith
  variable_light k ts x (x_array_set v) = omega (arith, value_light v)
  variable_light k ts x (x_channel {ts = us} {ks = ks} y) =
      omega (arith, list-light 'comma AType print_type type_light y, total-append μ us ('rbrace ∷ []), total-append μ (join 'comma print_type ks) ('rbrace ∷ []))

  declaration_light : {ts : List Token} {d : Declaration} → ADeclaration ts d → total μ (print_declaration d) ≤ total μ ts
  declaration_light (declaration {k = k} h x) = omega (arith, list-light 'comma (AVariable k) print_variable (variable_light k) x)

  group-light : (ts : List Token) (g : Group) → AGroup ts g → total μ (print_group g) ≤ total μ ts
  group-light ts g (a_group h x) = omega (arith, list-light 'comma AName print_name name-light x)

  -- bodies, units, models
  items-light : {ts : List Token} {ds : List Declaration} {q : Tree sequence} → Items ts (body ds q) → total μ (print_items ds q) ≤ total μ ts
  items-light (statements x) = tree_light x
  items-light (declared {ts = ts} {us = us} {vs = vs} {d = d} {ds = ds} {q = q} x u y) =
      omega (arith, declaration_light x, parted_light u, items-light y, total-append μ (ts ++ us) vs, total-append μ ts us, total-append μ (print_declaration d) ('semi ∷ print_items ds q))

  body_light : {ts : List Token} (b : Body) → ABody ts b → total μ (print_body b) ≤ total μ ts
  body_light (body ds q) (a_body {ts = ts} x) = omega (arith, items-light x, total-append μ ts ('rbrace ∷ []), total-append μ (print_items ds q) ('rbrace ∷ []))

  activity_light : {ts : List Token} {a : Activity} → AnActivity ts a → total μ (print_activity a) ≤ total μ ts
  activity_light not_active = omega arith
  activity_light active = omega arith
  activity_light active_times = omega arith

  unit-light : {ts : List Token} {u : Part} → AUnit ts u → total μ (print_part u) ≤ total μ ts
  unit-light (u_mtypes {ts = ts} {ws = ws} x) =
      omega (arith, list-light 'comma AName print_name name-light x, total-append μ ts ('rbrace ∷ []), total-append μ (join 'comma print_name ws) ('rbrace ∷ []))
  unit-light (u_global x) = declaration_light x
  unit-light (u_process {xs = xs} {ts = ts} {us = us} {a = a} {w = w} {gs = gs} {b = b} x y z) =
      omega (
        arith,
        activity_light x,
        maybe_light 'semi AGroup print_group group-light y,
        body_light b z,
        total-append μ (xs ++ 'proctype ∷ name w ∷ 'lpar ∷ ts) ('rpar ∷ us),
        total-append μ xs ('proctype ∷ name w ∷ 'lpar ∷ ts),
        total-append μ (print_activity a ++ 'proctype ∷ name w ∷ 'lpar ∷ join 'semi print_group gs) ('rpar ∷ print_body b),
        total-append μ (print_activity a) ('proctype ∷ name w ∷ 'lpar ∷ join 'semi print_group gs),
      )
  unit-light (u_init {b = b} x) = omega (arith, body_light b x)

  -- THE PRINTED TOKENS ARE NO HEAVIER THAN ANY TEXT OF THE TREE
  pub print_light : {ts : List Token} {m : Model} → Gram ts m → total μ (print_model m) ≤ total μ ts
  print_light (g_last {ts = ts} {us = us} {u = u} x s) = omega (arith, unit-light x, total-append μ ts us, total-append μ (print_part u) [])
  print_light (g_more {ts = ts} {us = us} {vs = vs} {u = u} {m = m} x s y) =
      omega (arith, unit-light x, print_light y, total-append μ (ts ++ us) vs, total-append μ ts us, total-append μ (print_part u) (print_model m))

total-length : (ts : List Token) → total (λ c. 1) ts ≡ length ts
total-length [] = refl
total-length (c ∷ ts) = omega (arith, total-length ts)

-- no text of the tree is shorter
pub shortest : (ts : List Token) (m : Model) → Gram ts m → length (print_model m) ≤ length ts
shortest ts m x = omega (arith, print_light (λ c. 1) (omega arith) (omega arith) x, total-length ts, total-length (print_model m))

-- no text of the tree has fewer parentheses
pub fewest_parentheses : (ts : List Token) (m : Model) → Gram ts m → total is_parenthesis (print_model m) ≤ total is_parenthesis ts
fewest_parentheses ts m x = print_light is_parenthesis (omega arith) (omega arith) x
