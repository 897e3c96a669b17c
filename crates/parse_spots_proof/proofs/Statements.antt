-- Statements: what the grammar says, a stack with marks derives, and it writes the items and the tokens that `spots_tree` says.
use mathlib.Core.Path.{◌≡◌, refl}
use mathlib.Core.Option.{some}
use mathlib.Core.List.{List, [], ◌∷◌, ◌++◌, append_assoc}
use Prim.Native.Nat.{ℕ, ◌+◌}
use native.Mathlib.Omega.{arith}
use lib.ListN.{length, length-append}
use Rattle.base_kinds.specs.Kinds.{Token, kind_of}
use Rattle.spec_grammar.specs.Marks.{'lpar, 'rpar, 'comma}
use Rattle.spec_grammar.specs.Tree.{Expr, Received, Sort, action, statement, sequence, options, Tree, Leaf}
use Rattle.spec_grammar.specs.Grammar.{Listed, one, more, MaybeListed, no_list, a_list, Message, commas, call, Trailing, none_trails, semi_trails, arrow_trails, Parted, by_semi, by_arrow, AnExpression, ALeaf, AReceived, r_into, r_eval, r_number, r_true, r_false, D, is_bang, is_ask, s_leaf, s_express, s_assign, s_increment, s_decrement, s_send, s_receive, s_assert, s_print_alone, s_print, s_skip, s_goto, s_break, s_timeout, s_else, s_run, s_set_run, s_if, s_do, s_bare, s_label, q_last, q_then, o_last, o_also}
use Rattle.base_codes.specs.Items.{i_express}
use Rattle.parse_grammar.specs.Engine.{nt, tm, act, In, here, there}
use Rattle.parse_grammar.specs.Productions.{NT, e1, n_operand, n_ix, n_argument, n_arguments, n_more_arguments, n_sent, n_received, n_more_received, n_got, n_statement, n_after_name, n_action, n_after_ref, n_sequence, n_more_statements, n_after_separator, n_option, n_more_options, sy, any_name, Right, key, eats, tails, prods}
use Rattle.parse_grammar.proofs.Inst.{Each, each_in}
use Rattle.parse_spots.specs.Spots.{Spot, spots_listed, spots_maybe, spots_message, spots_argument, spots_received, spots_leaf, spots_tree}
use Rattle.parse_spots_proof.specs.Marked.{Entry, Stack, ◌from◌, marks, begun, M, m_done, m_emit, m_eat, m_put, m_by}
use Rattle.parse_spots_proof.proofs.Expressions.{emit, eat, put, by, fit, to, e_in, ref_in}

-- by which right side a derivation goes
cases : (n : NT) (p : ℕ) (k : Stack) (i : ℕ) (w : List Token) (o : List Spot) (X : Type 0) → Each (λ r. M (marks (begun n p i) r ++ k) i w o → X) (prods n) → M (nt n from p ∷ k) i w o → X
cases n p k i w o X u (m_by {r = r} m d) = each_in (λ r. M (marks (begun n p i) r ++ k) i w o → X) (prods n) u r m d

only : {n : NT} {r : Right} {p : ℕ} {k : Stack} {i : ℕ} {w : List Token} {o : List Spot} → prods n ≡ r ∷ [] → M (nt n from p ∷ k) i w o → M (marks (begun n p i) r ++ k) i w o
only {n} {r} {p} {k} {i} {w} {o} e d = cases n p k i w o _ (rw e (λ z. z, tt)) d

-- one end of a stack for another
module _ (a b : Stack) (f : (i : ℕ) (w : List Token) (o : List Spot) → M a i w o → M b i w o) where
  split : {s : Stack} {i : ℕ} {w : List Token} {o : List Spot} (r : Stack) → s ≡ r ++ a → M s i w o → ((x : Entry) (t : Stack) → s ≡ x ∷ t ++ a → M (x ∷ t ++ b) i w o) → M (r ++ b) i w o
  split {i = i} {w = w} {o = o} [] e d g = f i w o (rw e at d)
  split (x ∷ r) e d g = g x r e

  swap : {s : Stack} {i : ℕ} {w : List Token} {o : List Spot} → M s i w o → (r : Stack) → s ≡ r ++ a → M (r ++ b) i w o
  swap m_done r e = split r e m_done (λ x t z. absurd (let y : ◌≡◌ {A = ℕ} 0 1 = cc in omega arith))
  swap (m_emit {a = c} {p = p} {k = k} d) r e = split r e (m_emit d) (λ x t z. let h : act c from p ≡ x = cc in let j : k ≡ t ++ a = cc in rw (← h) (emit (swap d t j)))
  swap (m_eat {t = y} {p = p} {k = k} q d) r e = split r e (m_eat q d) (λ x t z. let h : tm y from p ≡ x = cc in let j : k ≡ t ++ a = cc in rw (← h) (eat q (swap d t j)))
  swap (m_put {t = y} {p = p} {k = k} q d) r e = split r e (m_put q d) (λ x t z. let h : tm y from p ≡ x = cc in let j : k ≡ t ++ a = cc in rw (← h) (put q (swap d t j)))
  swap (m_by {n = n} {r = g} {p = p} {k = k} {i = i} m d) r e = split r e (m_by m d) (λ x t z.
      let h : nt n from p ≡ x = cc in
      let j : k ≡ t ++ a = cc in
      rw (← h) (by m (rw append_assoc at (swap d (marks (begun n p i) g ++ t) (rw (j, append_assoc))))))

-- a statement that begins with an expression
start_in : {p q : ℕ} {k : Stack} {i : ℕ} {w : List Token} {o : List Spot} → M (nt e1 from p ∷ act i_express from i ∷ k) i w o → M (nt n_action from q ∷ k) i w o
start_in {q = q} {k = k} {i = i} {w = w} {o = o} d =
    cases n_operand i (marks i (tails (act i_express ∷ [])) ++ k) i w o _ (
      λ z. by here (swap _ (nt n_after_ref from i ∷ k) (λ j v u y. by (there (there (there (there (there here))))) y) (only refl z) (tm any_name from i ∷ nt n_ix from i ∷ []) refl),
      (λ z. by (there here) (by here z), tt),
    )
    (only refl (only refl (only refl (only refl (only refl (only refl (only refl (only refl (only refl (only refl d))))))))))

-- what is to be shown of a phrase: a list of symbols, with any mark, derives it from token i on, and writes f i
abbrev pub Derives : Right → List Token → (ℕ → List Spot) → Type 0
Derives r ts f = (i p : ℕ) (k : Stack) (w : List Token) (o : List Spot) → M k (i + length ts) w o → M (marks p r ++ k) i (ts ++ w) (f i ++ o)

-- ## lists
module _ (n m : NT) {A : Type 0} (X : List Token → A → Type 0) (f : (ts : List Token) (a : A) → X ts a → ℕ → List Spot)
    (g : (ts : List Token) (a : A) (x : X ts a) → Derives (nt n ∷ []) ts (f ts a x)) where
  pub list_in : (s : Token) → eats (sy (kind_of s)) s ≡ some [] → In [] (prods m) → In (key s ∷ nt n ∷ nt m ∷ []) (prods m) → {ts : List Token} {l : List A} (x : Listed s X ts l) →
      Derives (nt n ∷ nt m ∷ []) ts (spots_listed X f x)
  list_in s e u v (one {ts = ts} {a = a} x) = λ i p k w o d. simp append_assoc (g ts a x i p _ _ _ (by u d))
  list_in s e u v (more {ts = ts} {a = a} x y) = λ i p k w o d.
      simp append_assoc (g ts a x i p _ _ _ (by v (eat e (list_in s e u v y (i + length ts + 1) _ _ _ _ (fit d (simp length-append (omega arith)))))))

  -- the first argument of a message and what follows it
  message_in : (h : NT) → In [] (prods m) → In (key 'comma ∷ nt n ∷ nt m ∷ []) (prods m) → In (nt m ∷ []) (prods h) → In (key 'lpar ∷ nt n ∷ nt m ∷ key 'rpar ∷ []) (prods h) →
      {ts : List Token} {l : List A} (x : Message X ts l) → Derives (nt n ∷ nt h ∷ []) ts (spots_message X f x)
  message_in h u v b c (commas (one {ts = ts} {a = a} x)) = λ i p k w o d. simp append_assoc (g ts a x i p _ _ _ (by b (by u d)))
  message_in h u v b c (commas (more {ts = ts} {a = a} x y)) = λ i p k w o d.
      simp append_assoc (g ts a x i p _ _ _ (by b (by v (eat refl (list_in 'comma refl u v y (i + length ts + 1) _ _ _ _ (fit d (simp length-append (omega arith))))))))
  message_in h u v b c (call {ts = ts} {a = a} x y) = λ i p k w o d.
      simp append_assoc (g ts a x i p _ _ _ (by c (eat refl (list_in 'comma refl u v y (i + length ts + 1) _ _ _ _ (eat refl (fit d (simp length-append (omega arith))))))))

argument_in : (ts : List Token) (e : Expr) (x : AnExpression ts e) → Derives (nt n_argument ∷ []) ts (spots_argument ts e x)
argument_in ts e x = λ i p k w o d. simp append_assoc (by here (e_in x i _ _ _ (omega arith) (by here (emit d))))

arguments_in : {ts : List Token} {es : List Expr} (x : Listed 'comma AnExpression ts es) → Derives (nt n_argument ∷ nt n_more_arguments ∷ []) ts (spots_listed AnExpression spots_argument x)
arguments_in x = list_in n_argument n_more_arguments AnExpression spots_argument argument_in 'comma refl here (there here) x

maybe_in : {ts : List Token} {es : List Expr} (x : MaybeListed 'comma AnExpression ts es) → Derives (nt n_arguments ∷ []) ts (spots_maybe AnExpression spots_argument x)
maybe_in no_list = λ i p k w o d. by here (fit d (omega arith))
maybe_in (a_list x) = λ i p k w o d. by (there here) (arguments_in x i _ k w o d)

received_in : (ts : List Token) (r : Received) (x : AReceived ts r) → Derives (nt n_received ∷ []) ts (spots_received ts r x)
received_in ts r (r_into x) = λ i p k w o d. simp append_assoc (by here (by here (ref_in x (omega arith) i _ _ _ (emit d))))
received_in ts r (r_eval x) = λ i p k w o d.
    simp append_assoc (by (there here) (eat refl (eat refl (to (i + 2) (omega arith) (e_in x (i + 2) _ _ _ (omega arith) (by here (eat refl (emit (fit d (simp length-append (omega arith)))))))))))
received_in ts r r_number = λ i p k w o d. by (there (there here)) (put refl (emit d))
received_in ts r r_true = λ i p k w o d. by (there (there (there here))) (eat refl (emit (emit d)))
received_in ts r r_false = λ i p k w o d. by (there (there (there (there here)))) (eat refl (emit (emit d)))

sent_in : {ts : List Token} {es : List Expr} (x : Message AnExpression ts es) → Derives (nt n_argument ∷ nt n_sent ∷ []) ts (spots_message AnExpression spots_argument x)
sent_in x = message_in n_argument n_more_arguments AnExpression spots_argument argument_in n_sent here (there here) here (there here) x

got_in : {ts : List Token} {rs : List Received} (x : Message AReceived ts rs) → Derives (nt n_received ∷ nt n_got ∷ []) ts (spots_message AReceived spots_received x)
got_in x = message_in n_received n_more_received AReceived spots_received received_in n_got here (there here) here (there here) x

-- ## statements that hold no other
leaf_in : {ts : List Token} {l : Leaf} (x : ALeaf ts l) → Derives (nt n_action ∷ []) ts (spots_leaf x)
leaf_in (s_express x) = λ i p k w o d. simp append_assoc (start_in {p = i} (e_in x i _ _ _ (omega arith) (by here (emit d))))
leaf_in (s_assign {ts = ts} x y) = λ i p k w o d.
    simp append_assoc (by here (ref_in x (omega arith) i _ _ _ (by here (eat refl (emit (by here (e_in y (i + length ts + 1) _ _ _ (omega arith) (by here (emit
    (fit d (simp length-append (omega arith))))))))))))
leaf_in (s_increment x) = λ i p k w o d. simp append_assoc (by here (ref_in x (omega arith) i _ _ _ (by (there here) (eat refl (emit (fit d (simp length-append (omega arith))))))))
leaf_in (s_decrement x) = λ i p k w o d. simp append_assoc (by here (ref_in x (omega arith) i _ _ _ (by (there (there here)) (eat refl (emit (fit d (simp length-append (omega arith))))))))
leaf_in (s_send {ts = ts} is_bang x y) = λ i p k w o d.
    simp append_assoc (by here (ref_in x (omega arith) i _ _ _ (by (there (there (there here))) (eat refl (emit (sent_in y (i + length ts + 1) _ _ _ _ (emit
    (fit d (simp length-append (omega arith))))))))))
leaf_in (s_receive {ts = ts} is_ask x y) = λ i p k w o d.
    simp append_assoc (by here (ref_in x (omega arith) i _ _ _ (by (there (there (there (there here)))) (eat refl (emit (got_in y (i + length ts + 1) _ _ _ _ (emit
    (fit d (simp length-append (omega arith))))))))))
leaf_in (s_assert x) = λ i p k w o d.
    simp append_assoc (by (there here) (by (there here) (eat refl (eat refl (to (i + 2) (omega arith) (e_in x (i + 2) _ _ _ (omega arith) (by here (eat refl (emit
    (fit d (simp length-append (omega arith))))))))))))
leaf_in s_print_alone = λ i p k w o d. by (there here) (by (there (there here)) (eat refl (eat refl (to (i + 2) (omega arith) (put refl (by here (eat refl (emit (fit d (omega arith))))))))))
leaf_in (s_print x) = λ i p k w o d.
    simp append_assoc (by (there here) (by (there (there here)) (eat refl (eat refl (to (i + 2) (omega arith) (put refl (by (there here) (eat refl (to (i + 4) (omega arith)
    (arguments_in x (i + 4) _ _ _ _ (eat refl (emit (fit d (simp length-append (omega arith)))))))))))))))
leaf_in s_skip = λ i p k w o d. by (there here) (by (there (there (there here))) (eat refl (emit d)))
leaf_in s_goto = λ i p k w o d. by (there here) (by (there (there (there (there here)))) (eat refl (put refl (emit (fit d (omega arith))))))
leaf_in s_break = λ i p k w o d. by (there here) (by (there (there (there (there (there here))))) (eat refl (emit d)))
leaf_in s_timeout = λ i p k w o d. by (there here) (by (there (there (there (there (there (there here)))))) (eat refl (emit d)))
leaf_in s_else = λ i p k w o d. by (there here) (by (there (there (there (there (there (there (there here))))))) (eat refl (emit d)))
leaf_in (s_run x) = λ i p k w o d.
    simp append_assoc (by (there here) (by (there (there (there (there (there (there (there (there here)))))))) (eat refl (put refl (emit (eat refl (to (i + 3) (omega arith)
    (maybe_in x (i + 3) _ _ _ _ (eat refl (emit (fit d (simp length-append (omega arith)))))))))))))
leaf_in (s_set_run {ts = ts} x y) = λ i p k w o d.
    simp append_assoc (by here (ref_in x (omega arith) i _ _ _ (by here (eat refl (emit (by (there here) (eat refl (to (i + length ts + 2) (omega arith) (put refl (emit (eat refl
    (to (i + length ts + 4) (omega arith)
    (maybe_in y (i + length ts + 4) _ _ _ _ (eat refl (emit (fit d (simp length-append (omega arith))))))))))))))))))

-- ## separators
trailing_in : {us : List Token} → Trailing us → {i p : ℕ} {k : Stack} {w : List Token} {o : List Spot} → ((q : ℕ) → M (nt n_after_separator from q ∷ k) (i + length us) w o) →
    M (nt n_after_separator from p ∷ k) i (us ++ w) o
trailing_in none_trails {p = p} d = fit (d p) (omega arith)
trailing_in (semi_trails u) d = by (there here) (eat refl (trailing_in u (λ q. fit (d q) (omega arith))))
trailing_in (arrow_trails u) d = by (there (there here)) (eat refl (trailing_in u (λ q. fit (d q) (omega arith))))

last_in : {us : List Token} → Trailing us → {i p : ℕ} {k : Stack} {w : List Token} {o : List Spot} → M k (i + length us) w o → M (nt n_more_statements from p ∷ k) i (us ++ w) o
last_in none_trails d = by here (fit d (omega arith))
last_in (semi_trails u) d = by (there here) (eat refl (trailing_in u (λ q. by here (fit d (omega arith)))))
last_in (arrow_trails u) d = by (there (there here)) (eat refl (trailing_in u (λ q. by here (fit d (omega arith)))))

parted_in : {us : List Token} → Parted us → {i p : ℕ} {k : Stack} {w : List Token} {o : List Spot} → ((q : ℕ) → M (nt n_sequence from q ∷ k) (i + length us) w o) →
    M (nt n_more_statements from p ∷ k) i (us ++ w) o
parted_in (by_semi u) d = by (there here) (eat refl (trailing_in u (λ q. by (there (there (there here))) (fit (d _) (omega arith)))))
parted_in (by_arrow u) d = by (there (there here)) (eat refl (trailing_in u (λ q. by (there (there (there here))) (fit (d _) (omega arith)))))

to_statement : {p q : ℕ} {k : Stack} {i : ℕ} {w : List Token} {o : List Spot} → M (nt n_action from p ∷ k) i w o → M (nt n_statement from q ∷ k) i w o
to_statement {p} {q} {k} {i} {w} {o} d = cases n_action p k i w o _
    (λ z. by here (swap (nt n_ix from i ∷ nt n_after_ref from i ∷ k) (nt n_after_name from i ∷ k) (λ j v u y. by (there here) y) z (tm any_name from i ∷ []) refl), (λ z. by (there here) z, tt)) d

-- ## statements
abbrev starts_with : Sort → Right
starts_with action = nt n_action ∷ []
starts_with statement = nt n_statement ∷ []
starts_with sequence = nt n_sequence ∷ []
starts_with options = nt n_option ∷ nt n_more_options ∷ []

pub d_in : {s : Sort} {ts : List Token} {t : Tree s} (x : D s ts t) → Derives (starts_with s) ts (spots_tree x)
d_in (s_leaf x) = leaf_in x
d_in (s_if x) = λ i p k w o d.
    simp append_assoc (by (there here) (by (there (there (there (there (there (there (there (there (there here))))))))) (eat refl (emit (d_in x (i + 1) _ _ _ _ (eat refl (emit
    (fit d (simp length-append (omega arith))))))))))
d_in (s_do x) = λ i p k w o d.
    simp append_assoc (by (there here) (by (there (there (there (there (there (there (there (there (there (there here)))))))))) (eat refl (emit (d_in x (i + 1) _ _ _ _ (eat refl (emit
    (fit d (simp length-append (omega arith))))))))))
d_in (s_bare x) = λ i p k w o d. to_statement {p = p} (d_in x i p k w o d)
d_in (s_label x) = λ i p k w o d. by here (put refl (by here (eat refl (emit (to (i + 2) (omega arith) (d_in x (i + 2) _ _ _ _ (fit d (omega arith))))))))
d_in (q_last x u) = λ i p k w o d. simp append_assoc (by here (d_in x i _ _ _ _ (last_in u (fit d (simp length-append (omega arith))))))
d_in (q_then {ts = ts} {us = us} x u y) = λ i p k w o d.
    simp append_assoc (by here (d_in x i _ _ _ _ (parted_in u (λ q. d_in y (i + length ts + length us) q _ _ _ (fit d (simp length-append (omega arith)))))))
d_in (o_last x) = λ i p k w o d. simp append_assoc (by here (eat refl (emit (d_in x (i + 1) _ _ _ _ (emit (by here (fit d (omega arith))))))))
d_in (o_also {ts = ts} x y) = λ i p k w o d.
    simp append_assoc (by here (eat refl (emit (d_in x (i + 1) _ _ _ _ (emit (by (there here) (to (i + length ts + 1) (omega arith) (d_in y (i + length ts + 1) _ _ _ _
    (fit d (simp length-append (omega arith)))))))))))
