-- THE PRINTED TOKENS of statements that hold no other, of declarations and of heads are phrases.
use mathlib.Core.Path.{◌≡◌}
use mathlib.Core.Bool.{Bool, true, false}
use mathlib.Core.List.{List, [], ◌∷◌, ◌++◌, append_assoc, append-nil}
use Prim.Native.Nat.{ℕ, suc, ◌+◌}
use native.Mathlib.Omega.{arith}
use lib.Dec.{T, leb}
use Rattle.base_bytes.specs.Choice.{both}
use Rattle.base_kinds.specs.Kinds.{Token, sym, name, number, text, name_kind, kind_of, level}
use Rattle.spec_grammar.specs.Marks.{'-, 'lpar, 'rpar, '[, '], 'lbrace, 'rbrace, 'comma, 'semi, ':, '->, '=, '++, 'assert, 'break, 'else, 'eval, 'false, 'goto, 'of, 'printf, 'run, 'skip, 'timeout, 'true, '--}
use Rattle.parse_grammar.specs.Marks.{'!, '~, '?, 'len}
use Rattle.spec_grammar.specs.Tree.{Name, Expr, Received, Leaf, Value, Variable, Declaration, Group}
use Rattle.spec_grammar.specs.Grammar.{is_len, is_bang, is_ask, Listed, one, more, MaybeListed, no_list, a_list, Message, commas, call, AName, IsType, is_bit, is_bool, is_byte, is_mtype, is_pid, is_chan, is_short, is_int, AType, a_type, IsUnary, is_minus, is_not, is_flip, E, e_plain, e_index, e_number, e_true, e_false, e_query, e_group, e_choice, e_unary, e_binary, e_up, AnExpression, AReceived, r_into, r_eval, r_number, r_true, r_false, ALeaf, s_express, s_assign, s_increment, s_decrement, s_send, s_receive, s_assert, s_print_alone, s_print, s_skip, s_goto, s_break, s_timeout, s_else, s_run, s_set_run, AValue, v_number, v_minus, v_true, v_false, v_name, AVariable, x_bare, x_set, x_array, x_array_set, x_channel, ADeclaration, declaration, AGroup, a_group}
use Rattle.spec_grammar.specs.Print.{wrap, print_exp, print_whole, join, print_received, print_leaf, print_type, print_value, print_variable, print_declaration, print_name, print_group}
use Rattle.spec_grammar.proofs.Levels.{operator_small}
use Rattle.spec_grammar.proofs.Printed.{join_more, further-more}
use Rattle.parse_grammar.proofs.Tests.{both_left, both_right, below, below_out}
use Rattle.write_lines.specs.Lines.{p_unit, p_body, p_head, place_behind, bodies, starts_line, ends_line}
use Rattle.layout_trees_proof.proofs.Phrases.{Phrase, beside, turn, stays, token}

-- ---- lists
module _ {p : ℕ} (s : Token) (sep : Phrase p (s ∷ [])) {A : Type 0} (X : List Token → A → Type 0) (f : A → List Token) (g : (ts : List Token) (a : A) → X ts a → Phrase p (f a)) where
  listed : {ts : List Token} {l : List A} → Listed s X ts l → Phrase p (join s f l)
  listed (one {ts = ts} {a = a} x) = rw append-nil (g ts a x)
  listed (more {ts = ts} {a = a} x y) = rw (join_more s X f a y) (beside (g ts a x) (beside sep (listed y)))

-- ---- a test that passes at each type
pub each_type : (f : ℕ → Bool) → T (below 8 (λ i. f (38 + i))) → {k : ℕ} → IsType k → T (f k)
each_type f t is_bit = below_out 8 (λ i. f (38 + i)) t 0 (omega arith)
each_type f t is_bool = below_out 8 (λ i. f (38 + i)) t 1 (omega arith)
each_type f t is_byte = below_out 8 (λ i. f (38 + i)) t 2 (omega arith)
each_type f t is_mtype = below_out 8 (λ i. f (38 + i)) t 3 (omega arith)
each_type f t is_pid = below_out 8 (λ i. f (38 + i)) t 4 (omega arith)
each_type f t is_chan = below_out 8 (λ i. f (38 + i)) t 5 (omega arith)
each_type f t is_short = below_out 8 (λ i. f (38 + i)) t 6 (omega arith)
each_type f t is_int = below_out 8 (λ i. f (38 + i)) t 7 (omega arith)

-- ---- expressions, which stand in bodies alone: an operator that the grammar has is none of the kinds that begin or end a line
wrapped : (b : Bool) {ts : List Token} → Phrase p_body ts → Phrase p_body (wrap b ts)
unfolding place_behind starts_line ends_line bodies
wrapped true f = f
wrapped false f = beside (token 'lpar tt) (beside f (token 'rpar tt))

unary_phrase : {o : ℕ} → IsUnary o → Phrase p_body (sym o ∷ [])
unfolding place_behind starts_line ends_line bodies
unary_phrase is_minus = token '- tt
unary_phrase is_not = token '! tt
unary_phrase is_flip = token '~ tt

binary_phrase : (o l : ℕ) → level o ≡ suc l → Phrase p_body (sym o ∷ [])
unfolding place_behind starts_line ends_line bodies
binary_phrase o l e = token (sym o) (below_out 19 (stays p_body) tt o (operator_small o l e))

exp_phrase : {k : ℕ} {ts : List Token} {e : Expr} → E k ts e → (l : ℕ) → Phrase p_body (print_exp e l)
unfolding place_behind starts_line ends_line bodies
exp_phrase (e_plain {w = w}) l = token (name w) tt
exp_phrase (e_index {w = w} x) l = beside (token (name w) tt) (beside (token '[ tt) (beside (exp_phrase x 1) (token '] tt)))
exp_phrase (e_number {n = n}) l = token (number n) tt
exp_phrase e_true l = token 'true tt
exp_phrase e_false l = token 'false tt
exp_phrase (e_query is_len x) l = beside (token 'len tt) (wrapped false (exp_phrase x 12))
exp_phrase (e_group x) l = exp_phrase x l
exp_phrase (e_choice x y z) l =
    wrapped false (beside (beside (exp_phrase x 1) (beside (token '-> tt) (exp_phrase y 1))) (beside (token ': tt) (exp_phrase z 1)))
exp_phrase (e_unary u x) l = beside (unary_phrase u) (exp_phrase x 11)
exp_phrase (e_binary {l = k} {o = o} i x y) l = wrapped (leb l (level o)) (beside (exp_phrase x (level o)) (beside (binary_phrase o k i) (exp_phrase y (suc (level o)))))
exp_phrase (e_up x) l = exp_phrase x l

whole_phrase : (ts : List Token) (e : Expr) → AnExpression ts e → Phrase p_body (print_whole e)
whole_phrase ts e x = exp_phrase x 1

received_phrase : (ts : List Token) (x : Received) → AReceived ts x → Phrase p_body (print_received x)
unfolding place_behind starts_line ends_line bodies
received_phrase ts x (r_into y) = exp_phrase y 12
received_phrase ts x (r_eval y) = beside (token 'eval tt) (wrapped false (exp_phrase y 1))
received_phrase ts x (r_number {n = n}) = token (number n) tt
received_phrase ts x r_true = token 'true tt
received_phrase ts x r_false = token 'false tt

-- ---- statements that hold no other
arguments_phrase : {ts : List Token} {es : List Expr} → Listed 'comma AnExpression ts es → Phrase p_body (join 'comma print_whole es)
unfolding place_behind starts_line ends_line bodies
arguments_phrase x = listed 'comma (token 'comma tt) AnExpression print_whole whole_phrase x

message_phrase : {A : Type 0} (X : List Token → A → Type 0) (f : A → List Token) → ((ts : List Token) (a : A) → X ts a → Phrase p_body (f a)) → {ts : List Token} {l : List A} → Message X ts l → Phrase p_body (join 'comma f l)
unfolding place_behind starts_line ends_line bodies
message_phrase X f g (commas x) = listed 'comma (token 'comma tt) X f g x
message_phrase X f g (call x y) = listed 'comma (token 'comma tt) X f g (more x y)

call_phrase : (w : Name) {ts : List Token} {es : List Expr} → MaybeListed 'comma AnExpression ts es → Phrase p_body ('run ∷ name w ∷ 'lpar ∷ join 'comma print_whole es ++ 'rpar ∷ [])
unfolding place_behind starts_line ends_line bodies
call_phrase w no_list = beside (token 'run tt) (beside (token (name w) tt) (beside (token 'lpar tt) (token 'rpar tt)))
call_phrase w (a_list x) = beside (token 'run tt) (beside (token (name w) tt) (wrapped false (arguments_phrase x)))

pub leaf_phrase : {ts : List Token} {l : Leaf} → ALeaf ts l → Phrase p_body (print_leaf l)
unfolding place_behind starts_line ends_line bodies
leaf_phrase (s_express x) = exp_phrase x 1
leaf_phrase (s_assign x y) = beside (exp_phrase x 12) (beside (token '= tt) (exp_phrase y 1))
leaf_phrase (s_increment x) = beside (exp_phrase x 12) (token '++ tt)
leaf_phrase (s_decrement x) = beside (exp_phrase x 12) (token '-- tt)
leaf_phrase (s_send is_bang x y) = beside (exp_phrase x 12) (beside (token '! tt) (message_phrase AnExpression print_whole whole_phrase y))
leaf_phrase (s_receive is_ask x y) = beside (exp_phrase x 12) (beside (token '? tt) (message_phrase AReceived print_received received_phrase y))
leaf_phrase (s_assert x) = beside (token 'assert tt) (wrapped false (exp_phrase x 1))
leaf_phrase (s_print_alone {w = w}) = beside (token 'printf tt) (wrapped false (token (text w) tt))
leaf_phrase (s_print {w = w} x) = rw (further-more 'comma AnExpression print_whole x) (beside (token 'printf tt) (wrapped false (beside (token (text w) tt) (beside (token 'comma tt) (arguments_phrase x)))))
leaf_phrase s_skip = token 'skip tt
leaf_phrase (s_goto {w = w}) = beside (token 'goto tt) (token (name w) tt)
leaf_phrase s_break = token 'break tt
leaf_phrase s_timeout = token 'timeout tt
leaf_phrase s_else = token 'else tt
leaf_phrase (s_run {w = w} x) = call_phrase w x
leaf_phrase (s_set_run {w = w} x y) = simp append_assoc (beside (exp_phrase x 12) (beside (token '= tt) (call_phrase w y)))

-- ---- declarations, among units or in a body
pub data Scope : ℕ → Type 0 where
  of_units : Scope p_unit
  of_body : Scope p_body

in_scope : {p : ℕ} → Scope p → (c : Token) → T (both (stays p_unit (kind_of c)) (stays p_body (kind_of c))) → Phrase p (c ∷ [])
in_scope of_units c t = token c (both_left (stays p_unit (kind_of c)) _ t)
in_scope of_body c t = token c (both_right (stays p_unit (kind_of c)) _ t)

-- a list in braces is at a place of its own
in_braces : {p : ℕ} {cs : List Token} → Scope p → Phrase (p + 4) cs → Phrase p ('lbrace ∷ cs ++ 'rbrace ∷ [])
unfolding place_behind starts_line ends_line bodies
in_braces of_units f = beside (turn 'lbrace tt) (beside f (turn 'rbrace tt))
in_braces of_body f = beside (turn 'lbrace tt) (beside f (turn 'rbrace tt))

type_phrase : {p : ℕ} → T (below 8 (λ i. stays p (38 + i))) → (ts : List Token) (k : ℕ) → AType ts k → Phrase p (print_type k)
type_phrase {p} t ts k (a_type x) = token (sym k) (each_type (stays p) t x)

types_phrase : {p : ℕ} → Scope p → {ts : List Token} {ks : List ℕ} → Listed 'comma AType ts ks → Phrase (p + 4) (join 'comma print_type ks)
unfolding place_behind starts_line ends_line bodies
types_phrase of_units x = listed 'comma (token 'comma tt) AType print_type (type_phrase tt) x
types_phrase of_body x = listed 'comma (token 'comma tt) AType print_type (type_phrase tt) x

value_phrase : {p : ℕ} → Scope p → {ts : List Token} {v : Value} → AValue ts v → Phrase p (print_value v)
unfolding place_behind starts_line ends_line bodies
value_phrase at (v_number {n = n}) = beside (in_scope at '= tt) (in_scope at (number n) tt)
value_phrase at (v_minus {n = n}) = beside (in_scope at '= tt) (beside (in_scope at '- tt) (in_scope at (number n) tt))
value_phrase at v_true = beside (in_scope at '= tt) (in_scope at 'true tt)
value_phrase at v_false = beside (in_scope at '= tt) (in_scope at 'false tt)
value_phrase at (v_name {w = w}) = beside (in_scope at '= tt) (in_scope at (name w) tt)

size_phrase : {p : ℕ} → Scope p → (n : ℕ) → Phrase p ('[ ∷ number n ∷ '] ∷ [])
unfolding place_behind starts_line ends_line bodies
size_phrase at n = beside (in_scope at '[ tt) (beside (in_scope at (number n) tt) (in_scope at '] tt))

variable_phrase : {p : ℕ} → Scope p → (k : ℕ) (ts : List Token) (x : Variable) → AVariable k ts x → Phrase p (print_variable x)
unfolding place_behind starts_line ends_line bodies
variable_phrase at k ts x (x_bare {w = w}) = in_scope at (name w) tt
variable_phrase at k ts x (x_set {w = w} v) = beside (in_scope at (name w) tt) (value_phrase at v)
variable_phrase at k ts x (x_array {w = w} {n = n}) = beside (in_scope at (name w) tt) (size_phrase at n)
variable_phrase at k ts x (x_array_set {w = w} {n = n} v) = beside (in_scope at (name w) tt) (beside (size_phrase at n) (value_phrase at v))
variable_phrase at k ts x (x_channel {w = w} {n = n} y) =
    beside (in_scope at (name w) tt) (beside (in_scope at '= tt) (beside (size_phrase at n) (beside (in_scope at 'of tt) (in_braces at (types_phrase at y)))))

pub variables_phrase : {p : ℕ} → Scope p → (k : ℕ) {ts : List Token} {xs : List Variable} → Listed 'comma (AVariable k) ts xs → Phrase p (join 'comma print_variable xs)
unfolding place_behind starts_line ends_line bodies
variables_phrase at k x = listed 'comma (in_scope at 'comma tt) (AVariable k) print_variable (variable_phrase at k) x

pub declaration_phrase : {ts : List Token} {d : Declaration} → ADeclaration ts d → Phrase p_body (print_declaration d)
unfolding place_behind starts_line ends_line bodies
declaration_phrase (declaration {k = k} h x) = beside (token (sym k) (each_type (stays p_body) tt h)) (variables_phrase of_body k x)

-- ---- `mtype` lists, and heads behind their first word
names_phrase : {p : ℕ} → T (both (stays p name_kind) (stays p (kind_of 'comma))) → {ts : List Token} {ws : List Name} → Listed 'comma AName ts ws → Phrase p (join 'comma print_name ws)
names_phrase {p} t x = listed 'comma (token 'comma (both_right (stays p name_kind) _ t)) AName print_name (λ ts w n. token (name w) (both_left (stays p name_kind) _ t)) x

pub mtypes_phrase : {ts : List Token} {ws : List Name} → Listed 'comma AName ts ws → Phrase p_unit ('= ∷ 'lbrace ∷ join 'comma print_name ws ++ 'rbrace ∷ [])
unfolding place_behind starts_line ends_line bodies
mtypes_phrase x = beside (token '= tt) (in_braces of_units (names_phrase tt x))

group_phrase : (ts : List Token) (g : Group) → AGroup ts g → Phrase p_head (print_group g)
unfolding place_behind starts_line ends_line bodies
group_phrase ts g (a_group {k = k} h x) = beside (token (sym k) (each_type (stays p_head) tt h)) (names_phrase tt x)

pub parameters_phrase : (w : Name) {ts : List Token} {gs : List Group} → MaybeListed 'semi AGroup ts gs → Phrase p_head (name w ∷ 'lpar ∷ join 'semi print_group gs ++ 'rpar ∷ [])
unfolding place_behind starts_line ends_line bodies
parameters_phrase w no_list = beside (token (name w) tt) (beside (token 'lpar tt) (token 'rpar tt))
parameters_phrase w (a_list x) = beside (token (name w) tt) (beside (token 'lpar tt) (beside (listed 'semi (token 'semi tt) AGroup print_group group_phrase x) (token 'rpar tt)))
