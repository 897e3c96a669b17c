-- Statements: each right side means what its nonterminal means.
use mathlib.Core.Path.{◌≡◌, refl, ap, ◌∙◌}
use mathlib.Core.List.{List, [], ◌∷◌, ◌++◌, append_assoc, append-nil}
use Prim.Native.Nat.{ℕ}
use Rattle.base_kinds.specs.Kinds.{Token, name, text}
use Rattle.parse_grammar.specs.Marks.{'!, '?}
use Rattle.spec_grammar.specs.Marks.{'lpar, 'rpar, 'comma, 'semi, ':, '::, '->, '=, '++, 'assert, 'break, 'do, 'else, 'fi, 'goto, 'if, 'od, 'printf, 'run, 'skip, 'timeout, k_ask, k_bang, '--}
use Rattle.spec_grammar.specs.Tree.{get, Expr, Ref, Received, action, statement, sequence, options, Tree, leaf, express, assign, increment, decrement, send, receive, assert, print, skip, goto, break, timeout, else, run, set_run, select, loop, bare, labelled, end, then, over, option}
use Rattle.spec_grammar.specs.Grammar.{Message, Trailing, none_trails, semi_trails, arrow_trails, Parted, by_semi, by_arrow, e_up, AnExpression, AReference, AReceived, D, is_bang, is_ask, s_leaf, s_express, s_assign, s_increment, s_decrement, s_send, s_receive, s_assert, s_print_alone, s_print, s_skip, s_goto, s_break, s_timeout, s_else, s_run, s_set_run, s_if, s_do, s_bare, s_label, q_last, q_then, o_last, o_also}
use Rattle.base_codes.specs.Items.{Item, i_assert, i_assign, i_break, i_do, i_else, i_end, i_end_option, i_express, i_fi, i_goto, i_if, i_increment, i_label, i_name, i_od, i_option, i_receive, i_run, i_send, i_set_run, i_skip, i_target, i_timeout, i_decrement}
use Rattle.parse_code.specs.Code.{each, code_exp, code_argument, code_received, code_tree}
use Rattle.parse_grammar.specs.Engine.{nt, tm, act}
use Rattle.parse_grammar.specs.Productions.{e1, n_ix, n_opened, n_argument, n_arguments, n_more_arguments, n_sent, n_received, n_got, n_statement, n_after_name, n_action, n_after_ref, n_right_side, n_other, n_sequence, n_more_statements, n_after_separator, n_option, n_more_options, any_name, any_text, key, tails}
use Rattle.parse_grammar.proofs.Meaning.{Further, no_further, further, AnOption, an_option, code_option, MoreOptions, no_options, some_options, Means}
use Rattle.parse_grammar.proofs.MeansE.{ten, out_two, moved, moved-one, none_after, carry, carry_on}

-- separators
trails : {us : List Token} → Parted us → Trailing us
trails (by_semi u) = semi_trails u
trails (by_arrow u) = arrow_trails u

trailing_semi : {us : List Token} → Trailing us → Trailing (us ++ 'semi ∷ [])
trailing_semi none_trails = semi_trails none_trails
trailing_semi (semi_trails u) = semi_trails (trailing_semi u)
trailing_semi (arrow_trails u) = arrow_trails (trailing_semi u)

trailing_arrow : {us : List Token} → Trailing us → Trailing (us ++ '-> ∷ [])
trailing_arrow none_trails = arrow_trails none_trails
trailing_arrow (semi_trails u) = semi_trails (trailing_arrow u)
trailing_arrow (arrow_trails u) = arrow_trails (trailing_arrow u)

pub parted_semi : {us : List Token} → Parted us → Parted (us ++ 'semi ∷ [])
parted_semi (by_semi u) = by_semi (trailing_semi u)
parted_semi (by_arrow u) = by_arrow (trailing_semi u)

pub parted_arrow : {us : List Token} → Parted us → Parted (us ++ '-> ∷ [])
parted_arrow (by_semi u) = by_semi (trailing_arrow u)
parted_arrow (by_arrow u) = by_arrow (trailing_arrow u)

-- statements
pub means-named : Means n_statement (tm any_name ∷ nt n_after_name ∷ [])
means-named v ts p x = carry (D statement) code_tree (i_name v ∷ []) p (name v ∷ (ts ++ [])) (name v ∷ ts) (none_after (name v ∷ []) ts) (x v)

pub means_unnamed : Means n_statement (nt n_other ∷ [])
means_unnamed ts p (a, x, h) = (bare a, rw append-nil (s_bare x), append-nil p ∙ h)

pub means-label : Means n_after_name (key ': ∷ act i_label ∷ nt n_action ∷ [])
means-label ts p (a, x, h) v = (labelled v a, rw append-nil (s_label x), ap (λ (z : List Item). i_name v ∷ i_label ∷ z) (append-nil p ∙ h))

as_bare : {ts : List Token} {o : List Item} → (a : Tree action) × D action ts a × (o ≡ code_tree a) → (s : Tree statement) × D statement ts s × (o ≡ code_tree s)
as_bare (a, x, h) = (bare a, s_bare x, h)

pub means_no_label : Means n_after_name (nt n_ix ∷ nt n_after_ref ∷ [])
means_no_label ts p x us q y v =
    let (r, g, h) = x v in as_bare (carry_on (D action) code_tree (i_name v ∷ p) q (code_exp r) (name v ∷ (ts ++ (us ++ []))) (name v ∷ (ts ++ us)) (none_after (name v ∷ ts) us) h (y (name v ∷ ts) r g))

pub means_action_named : Means n_action (tm any_name ∷ nt n_ix ∷ nt n_after_ref ∷ [])
means_action_named v ts p x us q y =
    let (r, g, h) = x v in carry_on (D action) code_tree (i_name v ∷ p) q (code_exp r) (name v ∷ (ts ++ (us ++ []))) (name v ∷ (ts ++ us)) (none_after (name v ∷ ts) us) h (y (name v ∷ ts) r g)

pub means_action_unnamed : Means n_action (nt n_other ∷ [])
means_action_unnamed ts p (a, x, h) = (a, rw append-nil x, append-nil p ∙ h)

carry_set : (c q : List Item) (xs us : List Token) → (a : Tree action) × D action (xs ++ '= ∷ us) a × (c ++ i_target ∷ q ≡ code_tree a) →
    (a : Tree action) × D action (xs ++ ('= ∷ (us ++ []))) a × (c ++ (i_target ∷ (q ++ [])) ≡ code_tree a)
carry_set c q xs us (a, x, h) = (a, rw append-nil x, rw append-nil h)

pub means-set : Means n_after_ref (key '= ∷ act i_target ∷ nt n_right_side ∷ [])
means-set us q y xs r g =
    carry_set (code_exp r) q xs us (y xs r g)

pub means_increment : Means n_after_ref (key '++ ∷ act i_increment ∷ [])
means_increment xs r g = (leaf (increment r), s_leaf (s_increment g), refl)

pub means_decrement : Means n_after_ref (key '-- ∷ act i_decrement ∷ [])
means_decrement xs r g = (leaf (decrement r), s_leaf (s_decrement g), refl)

with_end : (x : List Item) (i : Item) (p q c : List Item) → p ++ q ≡ c → x ++ (i ∷ (p ++ (q ++ (i_end ∷ [])))) ≡ x ++ i ∷ c ++ i_end ∷ []
with_end x i p q c h = simp (← h, append_assoc)

target_end : (c b q x : List Item) (i : Item) → q ≡ x → c ++ (b ++ (q ++ (i ∷ []))) ≡ c ++ (b ++ x) ++ i ∷ []
target_end c b q x i h = rw (h, append_assoc c, append_assoc b)

send_of : (xs ts us : List Token) (r : Ref) (p q c : List Item) → AReference xs r → p ≡ c → (l : List Expr) × Message AnExpression (ts ++ us) l × (c ++ q ≡ each code_argument l) →
    (a : Tree action) × D action (xs ++ ('! ∷ (ts ++ (us ++ [])))) a × (code_exp r ++ (i_send k_bang ∷ (p ++ (q ++ (i_end ∷ [])))) ≡ code_tree a)
send_of xs ts us r p q c g h (l, z, i) = (leaf (send k_bang r l), rw append-nil (s_leaf (s_send is_bang g z)), with_end (code_exp r) (i_send k_bang) p q (each code_argument l) (ap (◌++ q) h ∙ i))

receive_of : (xs ts us : List Token) (r : Ref) (p q c : List Item) → AReference xs r → p ≡ c → (l : List Received) × Message AReceived (ts ++ us) l × (c ++ q ≡ each code_received l) →
    (a : Tree action) × D action (xs ++ ('? ∷ (ts ++ (us ++ [])))) a × (code_exp r ++ (i_receive k_ask ∷ (p ++ (q ++ (i_end ∷ [])))) ≡ code_tree a)
receive_of xs ts us r p q c g h (l, z, i) = (leaf (receive k_ask r l), rw append-nil (s_leaf (s_receive is_ask g z)), with_end (code_exp r) (i_receive k_ask) p q (each code_received l) (ap (◌++ q) h ∙ i))

pub means_send : Means n_after_ref (key '! ∷ act (i_send k_bang) ∷ nt n_argument ∷ nt n_sent ∷ act i_end ∷ [])
means_send ts p (e, x, h) us q y xs r g =
    send_of xs ts us r p q (code_argument e) g h (y ts e x)

pub means_receive : Means n_after_ref (key '? ∷ act (i_receive k_ask) ∷ nt n_received ∷ nt n_got ∷ act i_end ∷ [])
means_receive ts p (e, x, h) us q y xs r g =
    receive_of xs ts us r p q (code_received e) g h (y ts e x)

pub means_express : Means n_after_ref (tails (act i_express ∷ []))
means_express u10 p10 f10 u9 p9 f9 u8 p8 f8 u7 p7 f7 u6 p6 f6 u5 p5 f5 u4 p4 f4 u3 p3 f3 u2 p2 f2 u1 p1 f1 xs r g = let (e, y, i) = ten xs (get r) (e_up g) u10 p10 f10 u9 p9 f9 u8 p8 f8 u7 p7 f7 u6 p6 f6 u5 p5 f5 u4 p4 f4 u3 p3 f3 u2 p2 f2 u1 p1 f1 in (leaf (express e), s_leaf (s_express y), i)

pub means_assign : Means n_right_side (nt e1 ∷ act i_assign ∷ [])
means_assign us q (e, x, h) xs r g = (leaf (assign r e), rw append-nil (s_leaf (s_assign g x)), target_end (code_exp r) (i_target ∷ []) q (code_exp e) i_assign h)

pub means_set_run : Means n_right_side (key 'run ∷ tm any_name ∷ act i_set_run ∷ key 'lpar ∷ nt n_arguments ∷ key 'rpar ∷ act i_end ∷ [])
means_set_run v us q (l, x, h) xs r g =
    (leaf (set_run r v l), rw append_assoc at (s_leaf (s_set_run {w = v} g x)), target_end (code_exp r) (i_target ∷ i_name v ∷ i_set_run ∷ []) q (each code_argument l) i_end h)

pub means_other_express : Means n_other (nt n_opened ∷ tails (act i_express ∷ []))
means_other_express xs p (a, x, h) u10 p10 f10 u9 p9 f9 u8 p8 f8 u7 p7 f7 u6 p6 f6 u5 p5 f5 u4 p4 f4 u3 p3 f3 u2 p2 f2 u1 p1 f1 = let (e, y, i) = ten xs a x u10 p10 f10 u9 p9 f9 u8 p8 f8 u7 p7 f7 u6 p6 f6 u5 p5 f5 u4 p4 f4 u3 p3 f3 u2 p2 f2 u1 p1 f1 in (leaf (express e), s_leaf (s_express y), rw h i)

pub means_assert : Means n_other (key 'assert ∷ key 'lpar ∷ nt e1 ∷ key 'rpar ∷ act i_assert ∷ [])
means_assert ts p (e, x, h) = (leaf (assert e), s_leaf (s_assert x), rw h)

print_of : {v : List ℕ} {ts : List Token} {l : List Expr} → Further 'comma AnExpression ts l → D action ('printf ∷ 'lpar ∷ text v ∷ ts ++ 'rpar ∷ []) (leaf (print v l))
print_of no_further = (s_leaf s_print_alone)
print_of (further y) = s_leaf (s_print y)

pub means_print : Means n_other (key 'printf ∷ key 'lpar ∷ tm any_text ∷ nt n_more_arguments ∷ key 'rpar ∷ act i_end ∷ [])
means_print v ts p (l, x, h) = (leaf (print v l), print_of x, rw h)

pub means_skip : Means n_other (key 'skip ∷ act i_skip ∷ [])
means_skip = ((leaf skip), (s_leaf s_skip), refl)

pub means_goto : Means n_other (key 'goto ∷ tm any_name ∷ act i_goto ∷ [])
means_goto v = (leaf (goto v), (s_leaf s_goto), refl)

pub means_break : Means n_other (key 'break ∷ act i_break ∷ [])
means_break = ((leaf break), (s_leaf s_break), refl)

pub means_timeout : Means n_other (key 'timeout ∷ act i_timeout ∷ [])
means_timeout = ((leaf timeout), (s_leaf s_timeout), refl)

pub means_else : Means n_other (key 'else ∷ act i_else ∷ [])
means_else = ((leaf else), (s_leaf s_else), refl)

pub means-run : Means n_other (key 'run ∷ tm any_name ∷ act i_run ∷ key 'lpar ∷ nt n_arguments ∷ key 'rpar ∷ act i_end ∷ [])
means-run v ts p (l, x, h) = (leaf (run v l), s_leaf (s_run x), rw h)

options_of : {ts us : List Token} {q : Tree sequence} {os : Tree options} → AnOption ts q → MoreOptions us os → D options (ts ++ us) (option q os)
options_of (an_option x) no_options = rw append-nil (o_last x)
options_of (an_option x) (some_options y) = o_also x y

option_code : (q : Tree sequence) (os : Tree options) → code_option q ++ code_tree os ≡ code_tree (option q os)
option_code q os = ap (i_option ∷◌) (append_assoc (code_tree q) (i_end_option ∷ []) (code_tree os))

select_out : (a b : Item) (p q x y c : List Item) → p ≡ x → q ≡ y → x ++ y ≡ c → a ∷ (p ++ (q ++ (b ∷ []))) ≡ a ∷ c ++ b ∷ []
select_out a b p q x y c h i e = rw (h, i, ← e, append_assoc x)

pub means_if : Means n_other (key 'if ∷ act i_if ∷ nt n_option ∷ nt n_more_options ∷ key 'fi ∷ act i_fi ∷ [])
means_if ts p (q, x, h) us p' (os, y, i) =
    (select (option q os), rw append_assoc at (s_if (options_of x y)), select_out i_if i_fi p p' (code_option q) (code_tree os) (code_tree (option q os)) h i (option_code q os))

pub means_do : Means n_other (key 'do ∷ act i_do ∷ nt n_option ∷ nt n_more_options ∷ key 'od ∷ act i_od ∷ [])
means_do ts p (q, x, h) us p' (os, y, i) =
    (loop (option q os), rw append_assoc at (s_do (options_of x y)), select_out i_do i_od p p' (code_option q) (code_tree os) (code_tree (option q os)) h i (option_code q os))

pub means_sequence : Means n_sequence (nt n_statement ∷ nt n_more_statements ∷ [])
means_sequence ts p (s, x, h) us q f =
    carry_on (D sequence) code_tree p q (code_tree s) (ts ++ (us ++ [])) (ts ++ us) (none_after ts us) h (f ts s x)

pub means-last : Means n_more_statements []
means-last xs s x = (then s end, q_last x none_trails, refl)

pub means_semi : Means n_more_statements (key 'semi ∷ nt n_after_separator ∷ [])
means_semi vs p f xs s x =
    carry (D sequence) code_tree (code_tree s) p (xs ++ ('semi ∷ (vs ++ []))) (xs ++ 'semi ∷ [] ++ vs) (moved-one xs vs 'semi) (f xs ('semi ∷ []) s x (by_semi none_trails))

pub means_arrow : Means n_more_statements (key '-> ∷ nt n_after_separator ∷ [])
means_arrow vs p f xs s x =
    carry (D sequence) code_tree (code_tree s) p (xs ++ ('-> ∷ (vs ++ []))) (xs ++ '-> ∷ [] ++ vs) (moved-one xs vs '->) (f xs ('-> ∷ []) s x (by_arrow none_trails))

pub means_trailing : Means n_after_separator []
means_trailing xs us s x u = (then s end, rw append-nil (q_last x (trails u)), refl)

pub means_more_semi : Means n_after_separator (key 'semi ∷ nt n_after_separator ∷ [])
means_more_semi vs p f xs us s x u =
    carry (D sequence) code_tree (code_tree s) p (xs ++ us ++ ('semi ∷ (vs ++ []))) (xs ++ (us ++ 'semi ∷ []) ++ vs) (moved xs us vs 'semi) (f xs (us ++ 'semi ∷ []) s x (parted_semi u))

pub means_more_arrow : Means n_after_separator (key '-> ∷ nt n_after_separator ∷ [])
means_more_arrow vs p f xs us s x u =
    carry (D sequence) code_tree (code_tree s) p (xs ++ us ++ ('-> ∷ (vs ++ []))) (xs ++ (us ++ '-> ∷ []) ++ vs) (moved xs us vs '->) (f xs (us ++ '-> ∷ []) s x (parted_arrow u))

pub means_then : Means n_after_separator (nt n_sequence ∷ [])
means_then vs p (q, y, h) xs us s x u = (then s q, rw append-nil (q_then x u y), ap (code_tree s ++◌) (append-nil p ∙ h))

pub means_option : Means n_option (key ':: ∷ act i_option ∷ nt n_sequence ∷ act i_end_option ∷ [])
means_option ts p (q, x, h) = (q, rw append-nil (an_option x), rw h)

pub means_no_options : Means n_more_options []
means_no_options = (over, no_options, refl)

pub means_options : Means n_more_options (nt n_option ∷ nt n_more_options ∷ [])
means_options ts p (q, x, h) us p' (os, y, i) = (option q os, rw append-nil (some_options (options_of x y)), out_two p p' (code_option q) (code_tree os) h i ∙ option_code q os)
