-- Statements: what the grammar says, the grammar as data derives.
use mathlib.Core.Path.{◌≡◌, refl}
use mathlib.Core.Option.{some}
use mathlib.Core.List.{List, [], ◌∷◌, ◌++◌, append_assoc}
use Prim.Native.Nat.{ℕ, zero, suc}
use native.Mathlib.Omega.{arith}
use Rattle.base_kinds.specs.Kinds.{Token, name, kind_of}
use Rattle.parse_grammar.specs.Marks.{'!, '?}
use Rattle.spec_grammar.specs.Marks.{'lpar, 'rpar, 'comma, '=, '++, 'fi, 'od, 'run, k_bang, k_ask, '--}
use Rattle.spec_grammar.specs.Tree.{Expr, Received, Sort, action, statement, sequence, options, Tree}
use Rattle.spec_grammar.specs.Grammar.{Listed, one, more, MaybeListed, no_list, a_list, Message, commas, call, Trailing, none_trails, semi_trails, arrow_trails, Parted, by_semi, by_arrow, AnExpression, AReceived, r_into, r_eval, r_number, r_true, r_false, D, is_bang, is_ask, s_leaf, s_express, s_assign, s_increment, s_decrement, s_send, s_receive, s_assert, s_print_alone, s_print, s_skip, s_goto, s_break, s_timeout, s_else, s_run, s_set_run, s_if, s_do, s_bare, s_label, q_last, q_then, o_last, o_also}
use Rattle.base_codes.specs.Items.{Item, i_argument, i_assert, i_assign, i_end, i_end_option, i_equal, i_express, i_fi, i_increment, i_into, i_name, i_od, i_receive, i_send, i_set_run, i_target, i_decrement}
use Rattle.parse_code.specs.Code.{each, code_exp, code_argument, code_received, code_tree}
use Rattle.parse_grammar.specs.Engine.{nt, tm, act, In, here, there, L, emit, eat, by}
use Rattle.parse_grammar.specs.Productions.{NT, n_ix, n_argument, n_arguments, n_more_arguments, n_sent, n_received, n_more_received, n_got, n_statement, n_after_name, n_action, n_after_ref, n_sequence, n_more_statements, n_after_separator, n_option, n_more_options, Ter, sy, any_name, Right, key, eats, prods, G}
use Rattle.parse_grammar.proofs.Inst.{Each, each_in}
use Rattle.parse_grammar.proofs.LinkE.{e_in, ref_in, start_in}

-- what is to be shown of a phrase: it is derived by a list of symbols, with its code
abbrev pub Derives : Right → List Token → List Item → Type 0
Derives r ts c = (k : Right) (w : List Token) (o : List Item) → L G k w o → L G (r ++ k) (ts ++ w) (c ++ o)

-- by which right side a derivation goes
cases : (n : NT) (k : Right) (w : List Token) (o : List Item) (X : Type 0) → Each (λ r. L G (r ++ k) w o → X) (prods n) → L G (nt n ∷ k) w o → X
cases n k w o X u (by {r = r} m d) = each_in (λ r. L G (r ++ k) w o → X) (prods n) u r m d

retail : (t : Ter) (k k' : Right) → ((w : List Token) (o : List Item) → L G k w o → L G k' w o) → {w : List Token} {o : List Item} → L G (tm t ∷ k) w o → L G (tm t ∷ k') w o
retail t k k' f (eat {w = w} {o = o} e d) = eat e (f w o d)

-- lists
pub list_in : (s : Token) (n m : NT) {A : Type 0} (X : List Token → A → Type 0) (f : A → List Item) → eats (sy (kind_of s)) s ≡ some [] → In [] (prods m) → In (key s ∷ nt n ∷ nt m ∷ []) (prods m) →
    ((ts : List Token) (a : A) → X ts a → Derives (nt n ∷ []) ts (f a)) → {ts : List Token} {l : List A} → Listed s X ts l → Derives (nt n ∷ nt m ∷ []) ts (each f l)
list_in s n m X f e i j g (one {ts = ts} {a = a} x) = λ k w o d. simp append_assoc (g ts a x (nt m ∷ k) w o (by i d))
list_in s n m X f e i j g (more {ts = ts} {us = us} {a = a} {l = l} x y) = λ k w o d.
    simp append_assoc (g ts a x (nt m ∷ k) (s ∷ us ++ w) (each f l ++ o) (by j (eat {a = []} e (list_in s n m X f e i j g y k w o d))))

argument_in : (ts : List Token) (e : Expr) → AnExpression ts e → Derives (nt n_argument ∷ []) ts (code_argument e)
argument_in ts e x = λ k w o d. simp append_assoc (by here (e_in x (act i_argument ∷ k) w (i_argument ∷ o) (omega arith) (by here (emit d))))

arguments_in : {ts : List Token} {es : List Expr} → Listed 'comma AnExpression ts es → Derives (nt n_argument ∷ nt n_more_arguments ∷ []) ts (each code_argument es)
arguments_in x = list_in 'comma n_argument n_more_arguments AnExpression code_argument refl here (there here) argument_in x

maybe_in : {ts : List Token} {es : List Expr} → MaybeListed 'comma AnExpression ts es → Derives (nt n_arguments ∷ []) ts (each code_argument es)
maybe_in no_list = λ k w o d. by here d
maybe_in (a_list x) = λ k w o d. by (there here) (arguments_in x k w o d)

-- the first argument of a message and what follows it
message_in : (n m p : NT) {A : Type 0} (X : List Token → A → Type 0) (f : A → List Item) → In [] (prods m) → In (key 'comma ∷ nt n ∷ nt m ∷ []) (prods m) →
    In (nt m ∷ []) (prods p) → In (key 'lpar ∷ nt n ∷ nt m ∷ key 'rpar ∷ []) (prods p) →
    ((ts : List Token) (a : A) → X ts a → Derives (nt n ∷ []) ts (f a)) → {ts : List Token} {l : List A} → Message X ts l → Derives (nt n ∷ nt p ∷ []) ts (each f l)
message_in n m p X f i j c b g (commas (one {ts = ts} {a = a} x)) = λ k w o d. simp append_assoc (g ts a x (nt p ∷ k) w o (by c (by i d)))
message_in n m p X f i j c b g (commas (more {ts = ts} {us = us} {a = a} {l = l} x y)) = λ k w o d.
    simp append_assoc (g ts a x (nt p ∷ k) ('comma ∷ us ++ w) (each f l ++ o) (by c (by j (eat refl (list_in 'comma n m X f refl i j g y k w o d)))))
message_in n m p X f i j c b g (call {ts = ts} {us = us} {a = a} {l = l} x y) = λ k w o d.
    simp append_assoc (g ts a x (nt p ∷ k) ('lpar ∷ us ++ 'rpar ∷ w) (each f l ++ o) (by b (eat refl (list_in 'comma n m X f refl i j g y (key 'rpar ∷ k) ('rpar ∷ w) o (eat refl d)))))

sent_in : {ts : List Token} {es : List Expr} → Message AnExpression ts es → Derives (nt n_argument ∷ nt n_sent ∷ []) ts (each code_argument es)
sent_in x = message_in n_argument n_more_arguments n_sent AnExpression code_argument here (there here) here (there here) argument_in x

received_in : (ts : List Token) (x : Received) → AReceived ts x → Derives (nt n_received ∷ []) ts (code_received x)
received_in ts x (r_into y) = λ k w o d. simp append_assoc (by here (by here (ref_in y (omega arith) (act i_into ∷ k) w (i_into ∷ o) (emit d))))
received_in ts x (r_eval y) = λ k w o d. simp append_assoc (by (there here) (eat refl (eat refl (e_in y (key 'rpar ∷ act i_equal ∷ k) ('rpar ∷ w) (i_equal ∷ o) (omega arith) (by here (eat refl (emit d)))))))
received_in ts x r_number = λ k w o d. by (there (there here)) (eat refl (emit d))
received_in ts x r_true = λ k w o d. by (there (there (there here))) (eat refl (emit (emit d)))
received_in ts x r_false = λ k w o d. by (there (there (there (there here)))) (eat refl (emit (emit d)))

got_in : {ts : List Token} {xs : List Received} → Message AReceived ts xs → Derives (nt n_received ∷ nt n_got ∷ []) ts (each code_received xs)
got_in x = message_in n_received n_more_received n_got AReceived code_received here (there here) here (there here) received_in x

-- separators
trailing_in : {us : List Token} → Trailing us → (k : Right) (w : List Token) (o : List Item) → L G (nt n_after_separator ∷ k) w o → L G (nt n_after_separator ∷ k) (us ++ w) o
trailing_in none_trails k w o d = d
trailing_in (semi_trails u) k w o d = by (there here) (eat refl (trailing_in u k w o d))
trailing_in (arrow_trails u) k w o d = by (there (there here)) (eat refl (trailing_in u k w o d))

last_in : {us : List Token} → Trailing us → (k : Right) (w : List Token) (o : List Item) → L G k w o → L G (nt n_more_statements ∷ k) (us ++ w) o
last_in none_trails k w o d = by here d
last_in (semi_trails u) k w o d = by (there here) (eat refl (trailing_in u k w o (by here d)))
last_in (arrow_trails u) k w o d = by (there (there here)) (eat refl (trailing_in u k w o (by here d)))

parted_in : {us : List Token} → Parted us → (k : Right) (w : List Token) (o : List Item) → L G (nt n_sequence ∷ k) w o → L G (nt n_more_statements ∷ k) (us ++ w) o
parted_in (by_semi u) k w o d = by (there here) (eat refl (trailing_in u k w o (by (there (there (there here))) d)))
parted_in (by_arrow u) k w o d = by (there (there here)) (eat refl (trailing_in u k w o (by (there (there (there here))) d)))

to_statement : (k : Right) (w : List Token) (o : List Item) → L G (nt n_action ∷ k) w o → L G (nt n_statement ∷ k) w o
to_statement k w o = cases n_action k w o _
    (λ d. by here (retail any_name (nt n_ix ∷ nt n_after_ref ∷ k) (nt n_after_name ∷ k) (λ w o d. by (there here) d) d), (λ d. by (there here) d, tt))

-- statements
abbrev starts_with : Sort → Right
starts_with action = nt n_action ∷ []
starts_with statement = nt n_statement ∷ []
starts_with sequence = nt n_sequence ∷ []
starts_with options = nt n_option ∷ nt n_more_options ∷ []

pub d_in : {s : Sort} {ts : List Token} {t : Tree s} → D s ts t → Derives (starts_with s) ts (code_tree t)
d_in (s_leaf (s_express x)) = λ k w o d. simp append_assoc (start_in x k w (i_express ∷ o) (omega arith) (by here (emit d)))
d_in (s_leaf (s_assign {us = us} {e = e} x y)) = λ k w o d.
    simp append_assoc (by here (ref_in x (omega arith) (nt n_after_ref ∷ k) ('= ∷ us ++ w) (i_target ∷ code_exp e ++ i_assign ∷ o)
    (by here (eat refl (emit (by here (e_in y (act i_assign ∷ k) w (i_assign ∷ o) (omega arith) (by here (emit d)))))))))
d_in (s_leaf (s_increment x)) = λ k w o d. simp append_assoc (by here (ref_in x (omega arith) (nt n_after_ref ∷ k) ('++ ∷ w) (i_increment ∷ o) (by (there here) (eat refl (emit d)))))
d_in (s_leaf (s_decrement x)) = λ k w o d. simp append_assoc (by here (ref_in x (omega arith) (nt n_after_ref ∷ k) ('-- ∷ w) (i_decrement ∷ o) (by (there (there here)) (eat refl (emit d)))))
d_in (s_leaf (s_send {us = us} {es = es} is_bang x y)) = λ k w o d.
    simp append_assoc (by here (ref_in x (omega arith) (nt n_after_ref ∷ k) ('! ∷ us ++ w) (i_send k_bang ∷ each code_argument es ++ i_end ∷ o)
    (by (there (there (there here))) (eat refl (emit (sent_in y (act i_end ∷ k) w (i_end ∷ o) (emit d)))))))
d_in (s_leaf (s_receive {us = us} {xs = xs} is_ask x y)) = λ k w o d.
    simp append_assoc (by here (ref_in x (omega arith) (nt n_after_ref ∷ k) ('? ∷ us ++ w) (i_receive k_ask ∷ each code_received xs ++ i_end ∷ o)
    (by (there (there (there (there here)))) (eat refl (emit (got_in y (act i_end ∷ k) w (i_end ∷ o) (emit d)))))))
d_in (s_leaf (s_assert x)) = λ k w o d.
    simp append_assoc (by (there here) (by (there here) (eat refl (eat refl (e_in x (key 'rpar ∷ act i_assert ∷ k) ('rpar ∷ w) (i_assert ∷ o) (omega arith) (by here (eat refl (emit d))))))))
d_in (s_leaf s_print_alone) = λ k w o d. by (there here) (by (there (there here)) (eat refl (eat refl (eat refl (by here (eat refl (emit d)))))))
d_in (s_leaf (s_print x)) = λ k w o d.
    simp append_assoc (by (there here) (by (there (there here)) (eat refl (eat refl (eat refl (by (there here) (eat refl (arguments_in x (key 'rpar ∷ act i_end ∷ k) ('rpar ∷ w) (i_end ∷ o) (eat refl (emit d))))))))))
d_in (s_leaf s_skip) = λ k w o d. by (there here) (by (there (there (there here))) (eat refl (emit d)))
d_in (s_leaf s_goto) = λ k w o d. by (there here) (by (there (there (there (there here)))) (eat refl (eat refl (emit d))))
d_in (s_leaf s_break) = λ k w o d. by (there here) (by (there (there (there (there (there here))))) (eat refl (emit d)))
d_in (s_leaf s_timeout) = λ k w o d. by (there here) (by (there (there (there (there (there (there here)))))) (eat refl (emit d)))
d_in (s_leaf s_else) = λ k w o d. by (there here) (by (there (there (there (there (there (there (there here))))))) (eat refl (emit d)))
d_in (s_leaf (s_run x)) = λ k w o d.
    simp append_assoc (by (there here) (by (there (there (there (there (there (there (there (there here)))))))) (eat refl (eat refl (emit (eat refl (maybe_in x (key 'rpar ∷ act i_end ∷ k) ('rpar ∷ w) (i_end ∷ o) (eat refl (emit d)))))))))
d_in (s_leaf (s_set_run {us = us} {w = v} {es = es} x y)) = λ k w o d.
    simp append_assoc (by here (ref_in x (omega arith) (nt n_after_ref ∷ k) ('= ∷ 'run ∷ name v ∷ 'lpar ∷ us ++ 'rpar ∷ w) (i_target ∷ i_name v ∷ i_set_run ∷ each code_argument es ++ i_end ∷ o)
    (by here (eat refl (emit (by (there here) (eat refl (eat refl (emit (eat refl (maybe_in y (key 'rpar ∷ act i_end ∷ k) ('rpar ∷ w) (i_end ∷ o) (eat refl (emit d)))))))))))))
d_in (s_if x) = λ k w o d. simp append_assoc (by (there here) (by (there (there (there (there (there (there (there (there (there here))))))))) (eat refl (emit (d_in x (key 'fi ∷ act i_fi ∷ k) ('fi ∷ w) (i_fi ∷ o) (eat refl (emit d)))))))
d_in (s_do x) = λ k w o d. simp append_assoc (by (there here) (by (there (there (there (there (there (there (there (there (there (there here)))))))))) (eat refl (emit (d_in x (key 'od ∷ act i_od ∷ k) ('od ∷ w) (i_od ∷ o) (eat refl (emit d)))))))
d_in (s_bare x) = λ k w o d. to_statement k _ _ (d_in x k w o d)
d_in (s_label x) = λ k w o d. by here (eat refl (by here (eat refl (emit (d_in x k w o d)))))
d_in (q_last {us = us} x u) = λ k w o d. simp append_assoc (by here (d_in x (nt n_more_statements ∷ k) (us ++ w) o (last_in u k w o d)))
d_in (q_then {us = us} {vs = vs} {q = q} x u y) = λ k w o d.
    simp append_assoc (by here (d_in x (nt n_more_statements ∷ k) (us ++ (vs ++ w)) (code_tree q ++ o) (parted_in u k (vs ++ w) (code_tree q ++ o) (d_in y k w o d))))
d_in (o_last x) = λ k w o d. simp append_assoc (by here (eat refl (emit (d_in x (act i_end_option ∷ nt n_more_options ∷ k) w (i_end_option ∷ o) (emit (by here d))))))
d_in (o_also {us = us} {os = os} x y) = λ k w o d.
    simp append_assoc (by here (eat refl (emit (d_in x (act i_end_option ∷ nt n_more_options ∷ k) (us ++ w) (i_end_option ∷ code_tree os ++ o) (emit (by (there here) (d_in y k w o d)))))))
