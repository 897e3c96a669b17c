-- Mechanism, of proofs alone, but for `item`, held to the specification by `items-mean`, `accepts` (crate `parse_machine`).
-- The numbering of symbols, the one place that says so. A stack holds these numbers; an item that is written has the number of the symbol that it was.
--   1 to 69    the fixed tokens, by their kinds (specs/Kinds.antt of `base_kinds`)
--   70 71 72   any name, any number, any string: a token of that kind is eaten and its item written
--   73 to 146  the nonterminals, in the order of the list below; from 143 on those that go on with what another one began
--   147 to 228 items to write, by their codes (specs/Items.antt of `base_codes`): 146 + o for the binary operator o, 165 166 167 for unary `-` `!` `~`, 130 + k for the type k, 176 to 228 the marks, those of trees' operators with the kinds of their tokens
use Rattle.std.specs.Prelude.{cond, List, [], ◌∷◌, ℕ, zero, suc, ◌-◌, eqb, ltb}
use Rattle.base_codes.specs.Codes.{c_bit, c_len, c_negate, c_or_else, c_plain, c_receive, c_send}
use Rattle.base_codes.specs.Items.{Item, i_type, i_unary, i_binary, i_mark, i_query, i_receive, i_send}
use Rattle.spec_grammar.specs.Marks.{k_bang, k_ask, k_len}
use Rattle.parse_grammar.specs.Engine.{Sym, nt, tm, act}
use Rattle.parse_grammar.specs.Productions.{NT, e1, e2, e3, e4, e5, e6, e7, e8, e9, e10, t1, t2, t3, t4, t5, t6, t7, t8, t9, t10, n_operand, n_ref, n_ix, n_opened, n_closing, n_argument, n_arguments, n_more_arguments, n_sent, n_received, n_more_received, n_got, n_statement, n_after_name, n_action, n_after_ref, n_right_side, n_other, n_sequence, n_more_statements, n_after_separator, n_option, n_more_options, n_plain_type, n_type, n_value, n_set, n_variable, n_size, n_more_variables, n_chan_variable, n_chan_rest, n_chan_value, n_field, n_more_fields, n_more_chan_variables, n_declaration, n_body, n_items, n_parted, n_more_parted, n_parameters, n_group, n_more_groups, n_parameter, n_more_parameters, n_unit, n_after_mtype, n_message, n_more_messages, n_activity, n_process, n_model, n_more_units, Ter, sy, any_name, any_number, any_text}

abbrev pub nonterminals : List NT
nonterminals =
    e1 ∷ e2 ∷ e3 ∷ e4 ∷ e5 ∷ e6 ∷ e7 ∷ e8 ∷ e9 ∷ e10 ∷ t1 ∷ t2 ∷
    t3 ∷ t4 ∷ t5 ∷ t6 ∷ t7 ∷ t8 ∷ t9 ∷ t10 ∷ n_operand ∷ n_ref ∷ n_ix ∷ n_opened ∷
    n_closing ∷ n_argument ∷ n_arguments ∷ n_more_arguments ∷ n_sent ∷ n_received ∷ n_more_received ∷ n_got ∷ n_statement ∷ n_action ∷ n_right_side ∷ n_other ∷
    n_sequence ∷ n_more_statements ∷ n_after_separator ∷ n_option ∷ n_more_options ∷ n_plain_type ∷ n_type ∷ n_value ∷ n_set ∷ n_variable ∷ n_size ∷ n_more_variables ∷
    n_chan_variable ∷ n_chan_rest ∷ n_chan_value ∷ n_field ∷ n_more_fields ∷ n_more_chan_variables ∷ n_declaration ∷ n_body ∷ n_items ∷ n_parted ∷ n_more_parted ∷ n_parameters ∷
    n_group ∷ n_more_groups ∷ n_parameter ∷ n_more_parameters ∷ n_unit ∷ n_message ∷ n_more_messages ∷ n_process ∷ n_model ∷ n_more_units ∷ n_after_name ∷ n_after_ref ∷
    n_after_mtype ∷ n_activity ∷
    []

-- what stands at a place of a list, or else d
abbrev pub nth : {A : Type 0} → List A → ℕ → A → A
nth [] i d = d
nth (a ∷ l) zero d = a
nth (a ∷ l) (suc i) d = nth l i d

abbrev pub terminal : ℕ → Ter
terminal x = cond (eqb x 70) any_name (cond (eqb x 71) any_number (cond (eqb x 72) any_text (sy x)))

abbrev pub nonterminal : ℕ → NT
nonterminal x = nth nonterminals (x - 73) e1

-- a mark, and the kind of its token where trees hold it
abbrev pub mark : ℕ → Item
mark x = cond (eqb x c_len) (i_query k_len) (cond (eqb x c_send) (i_send k_bang) (cond (eqb x c_receive) (i_receive k_ask) (i_mark x)))

abbrev pub item : ℕ → Item
item x = cond (ltb x c_negate) (i_binary (x - 146)) (cond (ltb x c_bit) (i_unary (cond (eqb x c_negate) 15 (x - c_or_else))) (cond (ltb x c_plain) (i_type (x - 130)) (mark x)))

-- the symbol of a number
abbrev pub symbol : ℕ → Sym NT Ter Item
symbol x = cond (ltb x 73) (tm (terminal x)) (cond (ltb x c_or_else) (nt (nonterminal x)) (act (item x)))
