-- How long a code can be: a bound that follows from a test on each right side.
use mathlib.Core.Path.{◌≡◌}
use mathlib.Core.Bool.{Bool}
use mathlib.Core.Option.{some}
use mathlib.Core.List.{List, [], ◌∷◌, ◌++◌}
use Prim.Native.Nat.{ℕ, ◌≤◌, ◌+◌, ◌*◌}
use native.Mathlib.Omega.{arith}
use lib.Dec.{T, leb, leb→le}
use lib.ListN.{length, length-append}
use Rattle.base_kinds.specs.Kinds.{Token, sym, name, number, text}
use Rattle.spec_grammar.specs.Tree.{Model}
use Rattle.spec_grammar.specs.Grammar.{Gram}
use Rattle.base_codes.specs.Items.{Item, i_name, i_number, i_text}
use Rattle.parse_code.specs.Code.{code}
use Rattle.parse_grammar.specs.Engine.{nt, tm, act, L, done, emit, eat, by}
use Rattle.parse_grammar.specs.Productions.{NT, e1, e2, e3, e4, e5, e6, e7, e8, e9, e10, t1, t2, t3, t4, t5, t6, t7, t8, t9, t10, n_operand, n_ref, n_ix, n_opened, n_closing, n_argument, n_arguments, n_more_arguments, n_sent, n_received, n_more_received, n_got, n_statement, n_after_name, n_action, n_after_ref, n_right_side, n_other, n_sequence, n_more_statements, n_after_separator, n_option, n_more_options, n_plain_type, n_type, n_value, n_set, n_variable, n_size, n_more_variables, n_chan_variable, n_chan_rest, n_chan_value, n_field, n_more_fields, n_more_chan_variables, n_declaration, n_body, n_items, n_parted, n_more_parted, n_parameters, n_group, n_more_groups, n_parameter, n_more_parameters, n_unit, n_after_mtype, n_message, n_more_messages, n_activity, n_process, n_model, n_more_units, Ter, sy, any_name, any_number, any_text, Right, eats, prods, G}
use Rattle.parse_grammar.proofs.Tests.{is_some_lem}
use Rattle.parse_grammar.proofs.Numbered.{every}
use Rattle.parse_grammar.proofs.Inst.{all, all_in, sy_in}
use Rattle.parse_grammar.proofs.Link.{into_table}

-- what a nonterminal may still write beyond what its tokens pay, and what it leaves over: two for each item, against five for each token
abbrev pub owes : NT → ℕ
owes e1 = 0
owes e2 = 0
owes e3 = 0
owes e4 = 0
owes e5 = 0
owes e6 = 0
owes e7 = 0
owes e8 = 0
owes e9 = 0
owes e10 = 0
owes t1 = 0
owes t2 = 0
owes t3 = 0
owes t4 = 0
owes t5 = 0
owes t6 = 0
owes t7 = 0
owes t8 = 0
owes t9 = 0
owes t10 = 0
owes n_operand = 0
owes n_ref = 0
owes n_ix = 2
owes n_opened = 0
owes n_closing = 0
owes n_argument = 1
owes n_arguments = 1
owes n_more_arguments = 0
owes n_sent = 0
owes n_received = 1
owes n_more_received = 0
owes n_got = 0
owes n_statement = 1
owes n_after_name = 4
owes n_action = 1
owes n_after_ref = 2
owes n_right_side = 1
owes n_other = 0
owes n_sequence = 1
owes n_more_statements = 0
owes n_after_separator = 1
owes n_option = 0
owes n_more_options = 0
owes n_plain_type = 0
owes n_type = 0
owes n_value = 0
owes n_set = 0
owes n_variable = 0
owes n_size = 0
owes n_more_variables = 0
owes n_chan_variable = 0
owes n_chan_rest = 0
owes n_chan_value = 0
owes n_field = 0
owes n_more_fields = 0
owes n_more_chan_variables = 0
owes n_declaration = 0
owes n_body = 0
owes n_items = 1
owes n_parted = 0
owes n_more_parted = 1
owes n_parameters = 0
owes n_group = 0
owes n_more_groups = 0
owes n_parameter = 0
owes n_more_parameters = 0
owes n_unit = 0
owes n_after_mtype = 3
owes n_message = 0
owes n_more_messages = 0
owes n_activity = 0
owes n_process = 0
owes n_model = 0
owes n_more_units = 0

abbrev pub leaves : NT → ℕ
leaves e1 = 1
leaves e2 = 1
leaves e3 = 1
leaves e4 = 1
leaves e5 = 1
leaves e6 = 1
leaves e7 = 1
leaves e8 = 1
leaves e9 = 1
leaves e10 = 1
leaves t1 = 0
leaves t2 = 0
leaves t3 = 0
leaves t4 = 0
leaves t5 = 0
leaves t6 = 0
leaves t7 = 0
leaves t8 = 0
leaves t9 = 0
leaves t10 = 0
leaves n_operand = 1
leaves n_ref = 1
leaves n_ix = 0
leaves n_opened = 3
leaves n_closing = 5
leaves n_argument = 0
leaves n_arguments = 0
leaves n_more_arguments = 0
leaves n_sent = 0
leaves n_received = 0
leaves n_more_received = 0
leaves n_got = 0
leaves n_statement = 0
leaves n_after_name = 0
leaves n_action = 0
leaves n_after_ref = 0
leaves n_right_side = 0
leaves n_other = 1
leaves n_sequence = 0
leaves n_more_statements = 0
leaves n_after_separator = 0
leaves n_option = 0
leaves n_more_options = 0
leaves n_plain_type = 3
leaves n_type = 3
leaves n_value = 1
leaves n_set = 0
leaves n_variable = 1
leaves n_size = 0
leaves n_more_variables = 0
leaves n_chan_variable = 1
leaves n_chan_rest = 0
leaves n_chan_value = 1
leaves n_field = 1
leaves n_more_fields = 0
leaves n_more_chan_variables = 0
leaves n_declaration = 2
leaves n_body = 5
leaves n_items = 0
leaves n_parted = 4
leaves n_more_parted = 0
leaves n_parameters = 0
leaves n_group = 2
leaves n_more_groups = 0
leaves n_parameter = 1
leaves n_more_parameters = 0
leaves n_unit = 2
leaves n_after_mtype = 0
leaves n_message = 1
leaves n_more_messages = 0
leaves n_activity = 21
leaves n_process = 15
leaves n_model = 2
leaves n_more_units = 0

abbrev pub pays : Ter → ℕ
pays (sy j) = 5
pays any_name = 3
pays any_number = 3
pays any_text = 3

abbrev pub all_owe : Right → ℕ
all_owe [] = 0
all_owe (act a ∷ k) = 2 + all_owe k
all_owe (tm t ∷ k) = all_owe k
all_owe (nt n ∷ k) = owes n + all_owe k

abbrev pub all_leave : Right → ℕ
all_leave [] = 0
all_leave (act a ∷ k) = all_leave k
all_leave (tm t ∷ k) = pays t + all_leave k
all_leave (nt n ∷ k) = leaves n + all_leave k

owe_append : (r k : Right) → all_owe (r ++ k) ≡ all_owe r + all_owe k
owe_append [] k = omega arith
owe_append (act a ∷ r) k = omega (arith, owe_append r k)
owe_append (tm t ∷ r) k = omega (arith, owe_append r k)
owe_append (nt n ∷ r) k = omega (arith, owe_append r k)

leave_append : (r k : Right) → all_leave (r ++ k) ≡ all_leave r + all_leave k
leave_append [] k = omega arith
leave_append (act a ∷ r) k = omega (arith, leave_append r k)
leave_append (tm t ∷ r) k = omega (arith, leave_append r k)
leave_append (nt n ∷ r) k = omega (arith, leave_append r k)

-- the test, computed for every right side
abbrev covered : NT → Right → Bool
covered n r = leb (all_owe r + leaves n) (all_leave r + owes n)

tested : (n : NT) → T (all (covered n) (prods n))
tested n = every (λ m. all (covered m) (prods m)) tt n

pub paid : (t : Ter) (c : Token) (a : List Item) → eats t c ≡ some a → 2 * length a + pays t ≤ 5
paid (sy j) (sym k) a e = rw (← (sy_in j k a e).1) (omega arith)
paid (sy j) (name v) a e = absurd (is_some_lem e)
paid (sy j) (number n) a e = absurd (is_some_lem e)
paid (sy j) (text v) a e = absurd (is_some_lem e)
paid any_name (sym k) a e = absurd (is_some_lem e)
paid any_name (name v) a e = let h : i_name v ∷ [] ≡ a = cc in rw (← h) (omega arith)
paid any_name (number n) a e = absurd (is_some_lem e)
paid any_name (text v) a e = absurd (is_some_lem e)
paid any_number (sym k) a e = absurd (is_some_lem e)
paid any_number (name v) a e = absurd (is_some_lem e)
paid any_number (number n) a e = let h : i_number n ∷ [] ≡ a = cc in rw (← h) (omega arith)
paid any_number (text v) a e = absurd (is_some_lem e)
paid any_text (sym k) a e = absurd (is_some_lem e)
paid any_text (name v) a e = absurd (is_some_lem e)
paid any_text (number n) a e = absurd (is_some_lem e)
paid any_text (text v) a e = let h : i_text v ∷ [] ≡ a = cc in rw (← h) (omega arith)

pub derived_bound : {k : Right} {w : List Token} {o : List Item} → L G k w o → 2 * length o + all_leave k ≤ 5 * length w + all_owe k
derived_bound done = omega arith
derived_bound (emit d) = omega (arith, derived_bound d)
derived_bound (eat {t = t} {c = c} {a = a} {o = o} e d) = omega (arith, derived_bound d, paid t c a e, length-append a o)
derived_bound (by {n = n} {r = r} {k = k} i d) =
    omega (arith, derived_bound d, leb→le (all_owe r + leaves n) (all_leave r + owes n) (all_in (covered n) (prods n) (tested n) r i), owe_append r k, leave_append r k)

-- THE CODE IS AT MOST TWO AND A HALF ITEMS FOR EACH TOKEN of any text of the tree
pub code-bound : (ts : List Token) (m : Model) → Gram ts m → 2 * length (code m) + 2 ≤ 5 * length ts
code-bound ts m x = omega (arith, derived_bound (into_table x))
