-- SELECTIONS OF AN ACCEPTED TEXT NEST AT MOST EIGHT DEEP: where the tokens of a tree pass no ceiling, its selections do not.
use Prim.Native.Nat.{ℕ, suc, max, ◌+◌, ◌-◌, ◌≤◌, ◌<◌}
use native.Mathlib.Omega.{arith}
use mathlib.Core.Path.{◌≡◌, refl, sym, subst, ◌∙◌}
use mathlib.Core.Bool.{Bool, true, false, cond}
use mathlib.Core.Option.{none, some}
use mathlib.Core.List.{List, [], ◌∷◌, ◌++◌, append_assoc}
use lib.Dec.{leb}
use borrow.Author.Tests.{leb-false, ne_eqb}
use Rattle.base_ceilings.specs.Ceilings.{brackets_most, selections_most}
use Rattle.base_bytes.proofs.Tests.{true_false}
use Rattle.base_kinds.specs.Kinds.{Token, sym as mark, name, level}
use Rattle.parse_grammar.specs.Marks.{'!, '?}
use Rattle.spec_grammar.specs.Marks.{'=, '++, '--, '->, ':, '::, 'lpar, 'rpar, '], 'lbrace, 'rbrace, 'if, 'fi, 'do, 'od, 'run, 'init, 'proctype}
use Rattle.spec_grammar.specs.Tree.{Sort, Expr, Received, Leaf, Tree, Value, Variable, Declaration, Group, Body, Activity, Name, Part, Model}
use Rattle.spec_grammar.specs.Grammar.{Listed, one, more, MaybeListed, no_list, a_list, Message, commas, call, Semicolons, no_semi, semi, Trailing, none_trails, semi_trails, arrow_trails, Parted, by_semi, by_arrow, AName, a_name, IsType, is_bit, is_bool, is_byte, is_mtype, is_pid, is_chan, is_short, is_int, AType, a_type, IsUnary, is_minus, is_not, is_flip, E, e_plain, e_index, e_number, e_true, e_false, e_query, e_group, e_choice, e_unary, e_binary, e_up, AnExpression, AReceived, r_into, r_eval, r_number, r_true, r_false, is_len, is_bang, is_ask, ALeaf, D, s_leaf, s_express, s_assign, s_increment, s_decrement, s_send, s_receive, s_assert, s_print_alone, s_print, s_skip, s_goto, s_break, s_timeout, s_else, s_run, s_set_run, s_if, s_do, s_bare, s_label, q_last, q_then, o_last, o_also, AValue, v_number, v_minus, v_true, v_false, v_name, AVariable, x_bare, x_set, x_array, x_array_set, x_channel, ADeclaration, declaration, AGroup, a_group, Items, statements, declared, ABody, a_body, AnActivity, not_active, active, active_times, AUnit, u_mtypes, u_global, u_process, u_init, Gram, g_last, g_more}
use Rattle.spec_grammar.proofs.Levels.{operator_small}
use Rattle.spec_grammar.specs.Depth.{opens_bracket, closes_bracket, opens_selection, closes_selection, count_after, passes, one_later, deep_from, too_deep}
use Rattle.agree_offers.specs.Depth.{depth, ShallowBody, ShallowPart, ShallowModel}
use Rattle.base_bytes.specs.Choice.{both, either}
use Rattle.parse_grammar.proofs.Tests.{some-none, later-none}

-- ---- the ceiling of selections alone: no token opens one where eight are open
abbrev Low : ℕ → List Token → Type 0
Low s [] = Unit {0}
Low s (t ∷ ts) = (opens_selection t ≡ true → s < selections_most) × Low (count_after (opens_selection t) (closes_selection t) s) ts

passed-low : (s : ℕ) (x o : Bool) → either x (both o (leb selections_most s)) ≡ false → o ≡ true → s < selections_most
passed-low s true o e h = absurd (true_false e)
passed-low s false true e h = leb-false selections_most s e
passed-low s false false e h = absurd (true_false (sym h))

none-low : (b s : ℕ) (ts : List Token) → deep_from b s ts ≡ none → Low s ts
none-low b s [] e = tt
none-low b s (t ∷ ts) e = go (passes b s t) refl e (none-low b1 s1 ts)
  where
    b1 : ℕ
    b1 = count_after (opens_bracket t) (closes_bracket t) b

    s1 : ℕ
    s1 = count_after (opens_selection t) (closes_selection t) s

    go : (p : Bool) → passes b s t ≡ p → cond p (some 0) (one_later (deep_from b1 s1 ts)) ≡ none → (deep_from b1 s1 ts ≡ none → Low s1 ts) → Low s (t ∷ ts)
    go true q h r = absurd (some-none 0 h)
    go false q h r = (λ o. passed-low s (both (opens_bracket t) (leb brackets_most b)) (opens_selection t) q o, r (later-none (deep_from b1 s1 ts) h))

-- ---- tokens that open and close no selection
abbrev selects : Token → Bool
selects t = either (opens_selection t) (closes_selection t)

abbrev Quiet : List Token → Type 0
Quiet [] = Unit {0}
Quiet (t ∷ ts) = (selects t ≡ false) × Quiet ts

quiet-append : (x y : List Token) → Quiet x → Quiet y → Quiet (x ++ y)
quiet-append [] y a b = b
quiet-append (t ∷ x) y a b = (a.0, quiet-append x y a.1 b)

quiet_keeps : (o c : Bool) (s : ℕ) → either o c ≡ false → count_after o c s ≡ s
quiet_keeps true c s e = absurd (true_false e)
quiet_keeps false true s e = absurd (true_false e)
quiet_keeps false false s e = refl

quiet_past : (x y : List Token) → Quiet x → (s : ℕ) → Low s (x ++ y) → Low s y
quiet_past [] y q s h = h
quiet_past (t ∷ x) y q s h = quiet_past x y q.1 s (subst (λ n. Low n (x ++ y)) (quiet_keeps (opens_selection t) (closes_selection t) s q.0) h.1)

-- lists
module _ {A : Type 0} (X : List Token → A → Type 0) (f : (ts : List Token) (a : A) → X ts a → Quiet ts) where
  quiet-listed : {c : Token} {ts : List Token} {l : List A} → selects c ≡ false → Listed c X ts l → Quiet ts
  quiet-listed h (one {ts = ts} {a = a} x) = f ts a x
  quiet-listed {c = c} h (more {ts = ts} {us = us} {a = a} x l) = quiet-append ts (c ∷ us) (f ts a x) (h, quiet-listed h l)

  quiet_maybe : {c : Token} {ts : List Token} {l : List A} → selects c ≡ false → MaybeListed c X ts l → Quiet ts
  quiet_maybe h no_list = tt
  quiet_maybe h (a_list l) = quiet-listed h l

  quiet-message : {ts : List Token} {l : List A} → Message X ts l → Quiet ts
  quiet-message (commas l) = quiet-listed refl l
  quiet-message (call {ts = ts} {us = us} {a = a} x l) = quiet-append (ts ++ 'lpar ∷ us) ('rpar ∷ []) (quiet-append ts ('lpar ∷ us) (f ts a x) (refl, quiet-listed refl l)) (refl, tt)

quiet_semicolons : {ts : List Token} → Semicolons ts → Quiet ts
quiet_semicolons no_semi = tt
quiet_semicolons (semi u) = (refl, quiet_semicolons u)

quiet_trailing : {ts : List Token} → Trailing ts → Quiet ts
quiet_trailing none_trails = tt
quiet_trailing (semi_trails u) = (refl, quiet_trailing u)
quiet_trailing (arrow_trails u) = (refl, quiet_trailing u)

quiet_parted : {ts : List Token} → Parted ts → Quiet ts
quiet_parted (by_semi u) = (refl, quiet_trailing u)
quiet_parted (by_arrow u) = (refl, quiet_trailing u)

-- names, types and operators
quiet-name : {ts : List Token} {w : Name} → AName ts w → Quiet ts
quiet-name a_name = (refl, tt)

quiet_kind : {k : ℕ} → IsType k → selects (mark k) ≡ false
quiet_kind is_bit = refl
quiet_kind is_bool = refl
quiet_kind is_byte = refl
quiet_kind is_mtype = refl
quiet_kind is_pid = refl
quiet_kind is_chan = refl
quiet_kind is_short = refl
quiet_kind is_int = refl

quiet_type : {ts : List Token} {k : ℕ} → AType ts k → Quiet ts
quiet_type (a_type k) = (quiet_kind k, tt)

quiet_unary : {o : ℕ} → IsUnary o → selects (mark o) ≡ false
quiet_unary is_minus = refl
quiet_unary is_not = refl
quiet_unary is_flip = refl

quiet_binary : (o l : ℕ) → level o ≡ suc l → selects (mark o) ≡ false
quiet_binary o l e =
    let h = operator_small o l e in
    rw (ne_eqb o 55 (λ z. omega arith), ne_eqb o 49 (λ z. omega arith), ne_eqb o 53 (λ z. omega arith), ne_eqb o 58 (λ z. omega arith))

-- expressions
quiet_exp : {l : ℕ} {ts : List Token} {e : Expr} → E l ts e → Quiet ts
quiet_exp e_plain = (refl, tt)
quiet_exp (e_index {ts = ts} x) = (refl, (refl, quiet-append ts ('] ∷ []) (quiet_exp x) (refl, tt)))
quiet_exp e_number = (refl, tt)
quiet_exp e_true = (refl, tt)
quiet_exp e_false = (refl, tt)
quiet_exp (e_query {ts = ts} is_len x) = (refl, (refl, quiet-append ts ('rpar ∷ []) (quiet_exp x) (refl, tt)))
quiet_exp (e_group {ts = ts} x) = (refl, quiet-append ts ('rpar ∷ []) (quiet_exp x) (refl, tt))
quiet_exp (e_choice {xs = xs} {ys = ys} {zs = zs} x y z) =
    let h = quiet-append xs ('-> ∷ ys) (quiet_exp x) (refl, quiet_exp y) in
    (refl, quiet-append (xs ++ '-> ∷ ys ++ ': ∷ zs) ('rpar ∷ []) (quiet-append (xs ++ '-> ∷ ys) (': ∷ zs) h (refl, quiet_exp z)) (refl, tt))
quiet_exp (e_unary u x) = (quiet_unary u, quiet_exp x)
quiet_exp (e_binary {l = l} {o = o} {xs = xs} {ys = ys} i x y) = quiet-append xs (mark o ∷ ys) (quiet_exp x) (quiet_binary o l i, quiet_exp y)
quiet_exp (e_up x) = quiet_exp x

expressions : (ts : List Token) (e : Expr) → AnExpression ts e → Quiet ts
expressions ts e x = quiet_exp x

quiet-received : {ts : List Token} {x : Received} → AReceived ts x → Quiet ts
quiet-received (r_into x) = quiet_exp x
quiet-received (r_eval {ts = ts} x) = (refl, (refl, quiet-append ts ('rpar ∷ []) (quiet_exp x) (refl, tt)))
quiet-received r_number = (refl, tt)
quiet-received r_true = (refl, tt)
quiet-received r_false = (refl, tt)

-- statements that hold no other
quiet-leaf : {ts : List Token} {l : Leaf} → ALeaf ts l → Quiet ts
quiet-leaf (s_express e) = quiet_exp e
quiet-leaf (s_assign {ts = x} {us = y} r e) = quiet-append x ('= ∷ y) (quiet_exp r) (refl, quiet_exp e)
quiet-leaf (s_increment {ts = x} r) = quiet-append x ('++ ∷ []) (quiet_exp r) (refl, tt)
quiet-leaf (s_decrement {ts = x} r) = quiet-append x ('-- ∷ []) (quiet_exp r) (refl, tt)
quiet-leaf (s_send {ts = x} {us = y} is_bang r es) = quiet-append x ('! ∷ y) (quiet_exp r) (refl, quiet-message AnExpression expressions es)
quiet-leaf (s_receive {ts = x} {us = y} is_ask r xs) = quiet-append x ('? ∷ y) (quiet_exp r) (refl, quiet-message AReceived (λ ts x r. quiet-received r) xs)
quiet-leaf (s_assert {ts = x} e) = (refl, (refl, quiet-append x ('rpar ∷ []) (quiet_exp e) (refl, tt)))
quiet-leaf s_print_alone = (refl, (refl, (refl, (refl, tt))))
quiet-leaf (s_print {ts = x} es) = (refl, (refl, (refl, (refl, quiet-append x ('rpar ∷ []) (quiet-listed AnExpression expressions refl es) (refl, tt)))))
quiet-leaf s_skip = (refl, tt)
quiet-leaf s_goto = (refl, (refl, tt))
quiet-leaf s_break = (refl, tt)
quiet-leaf s_timeout = (refl, tt)
quiet-leaf s_else = (refl, tt)
quiet-leaf (s_run {ts = x} es) = (refl, (refl, (refl, quiet-append x ('rpar ∷ []) (quiet_maybe AnExpression expressions refl es) (refl, tt))))
quiet-leaf (s_set_run {ts = x} {us = y} {w = w} r es) =
    quiet-append (x ++ '= ∷ 'run ∷ name w ∷ 'lpar ∷ y) ('rpar ∷ [])
    (quiet-append x ('= ∷ 'run ∷ name w ∷ 'lpar ∷ y) (quiet_exp r) (refl, (refl, (refl, (refl, quiet_maybe AnExpression expressions refl es))))) (refl, tt)

-- declarations
quiet_value : {ts : List Token} {v : Value} → AValue ts v → Quiet ts
quiet_value v_number = (refl, tt)
quiet_value v_minus = (refl, (refl, tt))
quiet_value v_true = (refl, tt)
quiet_value v_false = (refl, tt)
quiet_value v_name = (refl, tt)

quiet_variable : {k : ℕ} {ts : List Token} {v : Variable} → AVariable k ts v → Quiet ts
quiet_variable x_bare = (refl, tt)
quiet_variable (x_set v) = (refl, (refl, quiet_value v))
quiet_variable x_array = (refl, (refl, (refl, (refl, tt))))
quiet_variable (x_array_set v) = (refl, (refl, (refl, (refl, (refl, quiet_value v)))))
quiet_variable (x_channel {ts = ts} l) =
    (refl, (refl, (refl, (refl, (refl, (refl, (refl, quiet-append ts ('rbrace ∷ []) (quiet-listed AType (λ ts k x. quiet_type x) refl l) (refl, tt))))))))

quiet_declaration : {ts : List Token} {d : Declaration} → ADeclaration ts d → Quiet ts
quiet_declaration (declaration {k = n} k l) = (quiet_kind k, quiet-listed (AVariable n) (λ ts v x. quiet_variable x) refl l)

quiet-group : {ts : List Token} {g : Group} → AGroup ts g → Quiet ts
quiet-group (a_group k l) = (quiet_kind k, quiet-listed AName (λ ts w x. quiet-name x) refl l)

quiet_activity : {ts : List Token} {x : Activity} → AnActivity ts x → Quiet ts
quiet_activity not_active = tt
quiet_activity active = (refl, tt)
quiet_activity active_times = (refl, (refl, (refl, (refl, tt))))

-- ---- what stands behind tokens of a tree: as many selections are open there as before them, and its selections pass no ceiling
abbrev Nests : List Token → ℕ → Type 0
Nests ts n = (us : List Token) (s : ℕ) → s ≤ selections_most → Low s (ts ++ us) → (n + s ≤ selections_most) × Low s us

nests_quiet : (ts : List Token) → Quiet ts → Nests ts 0
nests_quiet ts q us s b h = (omega arith, quiet_past ts us q s h)

nests_both : (x y : List Token) (n m : ℕ) → Nests x n → Nests y m → Nests (x ++ y) (max n m)
nests_both x y n m f g us s b h =
    let p = f (y ++ us) s b (subst (Low s) (append_assoc x y us) h) in
    let q = g us s b p.1 in
    let a = p.0 in
    let c = q.0 in
    (omega arith, q.1)

nests_in : (o c : Token) (ts : List Token) (n : ℕ) → opens_selection o ≡ true → opens_selection c ≡ false → closes_selection c ≡ true → Nests ts n → Nests (o ∷ ts ++ c ∷ []) (suc n)
nests_in o c ts n x y z f us s b h =
    let l : s < selections_most = h.0 x in
    let e : count_after (opens_selection o) (closes_selection o) s ≡ s + 1 = rw x in
    let p = f (c ∷ us) (s + 1) (omega arith) (subst (Low (s + 1)) (append_assoc ts (c ∷ []) us) (subst (λ k. Low k ((ts ++ c ∷ []) ++ us)) e h.1)) in
    let a = p.0 in
    let g : count_after (opens_selection c) (closes_selection c) (s + 1) ≡ s + 1 - 1 = rw (y, z) in
    let k : s + 1 - 1 ≡ s = omega arith in
    (omega arith, subst (λ k. Low k us) (g ∙ k) p.1.1)

nests_same : (ts : List Token) (n m : ℕ) → n ≡ m → Nests ts n → Nests ts m
nests_same ts n m e f = subst (Nests ts) e f

nests : {k : Sort} {ts : List Token} {x : Tree k} → D k ts x → Nests ts (depth x)
nests {ts = ts} (s_leaf l) = nests_quiet ts (quiet-leaf l)
nests (s_if {ts = ts} {os = os} d) = nests_in 'if 'fi ts (depth os) refl refl refl (nests d)
nests (s_do {ts = ts} {os = os} d) = nests_in 'do 'od ts (depth os) refl refl refl (nests d)
nests (s_bare d) = nests d
nests (s_label {w = w} {ts = ts} {a = a} d) =
    nests_same (name w ∷ ': ∷ ts) (max 0 (depth a)) (depth a) (omega arith)
    (nests_both (name w ∷ ': ∷ []) ts 0 (depth a) (nests_quiet (name w ∷ ': ∷ []) (refl, (refl, tt))) (nests d))
nests (q_last {ts = ts} {us = us} {s = s} d u) = nests_both ts us (depth s) 0 (nests d) (nests_quiet us (quiet_trailing u))
nests (q_then {ts = ts} {us = us} {vs = vs} {s = s} {q = q} d u r) =
    nests_same (ts ++ us ++ vs) (max (max (depth s) 0) (depth q)) (max (depth s) (depth q)) (omega arith)
    (nests_both (ts ++ us) vs (max (depth s) 0) (depth q) (nests_both ts us (depth s) 0 (nests d) (nests_quiet us (quiet_parted u))) (nests r))
nests (o_last {ts = ts} {q = q} d) =
    nests_same (':: ∷ ts) (max 0 (depth q)) (max (depth q) 0) (omega arith) (nests_both (':: ∷ []) ts 0 (depth q) (nests_quiet (':: ∷ []) (refl, tt)) (nests d))
nests (o_also {ts = ts} {us = us} {q = q} {os = os} d r) =
    nests_same (':: ∷ ts ++ us) (max (max 0 (depth q)) (depth os)) (max (depth q) (depth os)) (omega arith)
    (nests_both (':: ∷ ts) us (max 0 (depth q)) (depth os) (nests_both (':: ∷ []) ts 0 (depth q) (nests_quiet (':: ∷ []) (refl, tt)) (nests d)) (nests r))

-- ---- bodies and units, where no selection is open
abbrev Keeps : List Token → Type 0 → Type 0
Keeps ts P = (us : List Token) → Low 0 (ts ++ us) → P × Low 0 us

keeps_quiet : (ts : List Token) {P : Type 0} → Quiet ts → P → Keeps ts P
keeps_quiet ts q p us h = (p, quiet_past ts us q 0 h)

-- quiet tokens before or behind
keeps_behind : (x ts : List Token) {P : Type 0} → Quiet x → Keeps ts P → Keeps (x ++ ts) P
keeps_behind x ts q f us h = f us (quiet_past x (ts ++ us) q 0 (subst (Low 0) (append_assoc x ts us) h))

keeps_before : (ts x : List Token) {P : Type 0} → Quiet x → Keeps ts P → Keeps (ts ++ x) P
keeps_before ts x q f us h = let p = f (x ++ us) (subst (Low 0) (append_assoc ts x us) h) in (p.0, quiet_past x us q 0 p.1)

keeps_items : {ts : List Token} {b : Body} → Items ts b → Keeps ts (ShallowBody b)
keeps_items (statements d) us h = let p = nests d us 0 (omega arith) h in let a = p.0 in (omega arith, p.1)
keeps_items (declared {ts = ts} {us = us} {vs = vs} d u i) ws h = keeps_behind (ts ++ us) vs (quiet-append ts us (quiet_declaration d) (quiet_parted u)) (λ zs z. keeps_items i zs z) ws h

keeps_body : {ts : List Token} {b : Body} → ABody ts b → Keeps ts (ShallowBody b)
keeps_body (a_body {ts = ts} i) = keeps_before ('lbrace ∷ ts) ('rbrace ∷ []) (refl, tt) (keeps_behind ('lbrace ∷ []) ts (refl, tt) (keeps_items i))

keeps_unit : {ts : List Token} {x : Part} → AUnit ts x → Keeps ts (ShallowPart x)
keeps_unit {ts = ts} (u_mtypes {ts = x} l) = keeps_quiet ts (refl, (refl, (refl, quiet-append x ('rbrace ∷ []) (quiet-listed AName (λ ts w x. quiet-name x) refl l) (refl, tt)))) tt
keeps_unit {ts = ts} (u_global d) = keeps_quiet ts (quiet_declaration d) tt
keeps_unit (u_process {xs = xs} {ts = ts} {us = us} {w = w} x l b) =
    keeps_behind (xs ++ 'proctype ∷ name w ∷ 'lpar ∷ ts) ('rpar ∷ us)
    (quiet-append xs ('proctype ∷ name w ∷ 'lpar ∷ ts) (quiet_activity x) (refl, (refl, (refl, quiet_maybe AGroup (λ ts g x. quiet-group x) refl l))))
    (keeps_behind ('rpar ∷ []) us (refl, tt) (keeps_body b))
keeps_unit (u_init {ts = ts} b) = keeps_behind ('init ∷ []) ts (refl, tt) (keeps_body b)

low-model : {ts : List Token} {m : Model} → Gram ts m → Low 0 ts → ShallowModel m
low-model (g_last {ts = ts} {us = us} u s) h = ((keeps_unit u us h).0, tt)
low-model (g_more {ts = ts} {us = us} {vs = vs} u s g) h =
    let p = keeps_before ts us (quiet_semicolons s) (keeps_unit u) vs h in
    (p.0, low-model g p.1)

pub shallow_model : (ts : List Token) (m : Model) → Gram ts m → too_deep ts ≡ none → ShallowModel m
shallow_model ts m g e = low-model g (none-low 0 0 ts e)
