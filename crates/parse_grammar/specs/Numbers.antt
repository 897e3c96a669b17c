-- Mechanism, of proofs alone: so that what is tested of every number holds of every nonterminal (proofs/Numbered.antt).
-- The nonterminals by number, for tables.
use Rattle.std.specs.Prelude.{List, [], ◌∷◌, ℕ, get_or}
use Rattle.parse_grammar.specs.Productions.{NT, e1, e2, e3, e4, e5, e6, e7, e8, e9, e10, t1, t2, t3, t4, t5, t6, t7, t8, t9, t10, n_operand, n_ref, n_ix, n_opened, n_closing, n_argument, n_arguments, n_more_arguments, n_sent, n_received, n_more_received, n_got, n_statement, n_after_name, n_action, n_after_ref, n_right_side, n_other, n_sequence, n_more_statements, n_after_separator, n_option, n_more_options, n_plain_type, n_type, n_value, n_set, n_variable, n_size, n_more_variables, n_chan_variable, n_chan_rest, n_chan_value, n_field, n_more_fields, n_more_chan_variables, n_declaration, n_body, n_items, n_parted, n_more_parted, n_parameters, n_group, n_more_groups, n_parameter, n_more_parameters, n_unit, n_after_mtype, n_message, n_more_messages, n_activity, n_process, n_model, n_more_units}

abbrev pub all_symbols : List NT
all_symbols =
    e1 ∷ e2 ∷ e3 ∷ e4 ∷ e5 ∷ e6 ∷ e7 ∷ e8 ∷ e9 ∷ e10 ∷ t1 ∷ t2 ∷
    t3 ∷ t4 ∷ t5 ∷ t6 ∷ t7 ∷ t8 ∷ t9 ∷ t10 ∷ n_operand ∷ n_ref ∷ n_ix ∷ n_opened ∷
    n_closing ∷ n_argument ∷ n_arguments ∷ n_more_arguments ∷ n_sent ∷ n_received ∷ n_more_received ∷ n_got ∷ n_statement ∷ n_after_name ∷ n_action ∷ n_after_ref ∷
    n_right_side ∷ n_other ∷ n_sequence ∷ n_more_statements ∷ n_after_separator ∷ n_option ∷ n_more_options ∷ n_plain_type ∷ n_type ∷ n_value ∷ n_set ∷ n_variable ∷
    n_size ∷ n_more_variables ∷ n_chan_variable ∷ n_chan_rest ∷ n_chan_value ∷ n_field ∷ n_more_fields ∷ n_more_chan_variables ∷ n_declaration ∷ n_body ∷ n_items ∷ n_parted ∷
    n_more_parted ∷ n_parameters ∷ n_group ∷ n_more_groups ∷ n_parameter ∷ n_more_parameters ∷ n_unit ∷ n_after_mtype ∷ n_message ∷ n_more_messages ∷ n_activity ∷ n_process ∷
    n_model ∷ n_more_units ∷
    []

abbrev pub symbol_at : ℕ → NT
symbol_at i = get_or all_symbols i n_model

abbrev pub number_of : NT → ℕ
number_of e1 = 0
number_of e2 = 1
number_of e3 = 2
number_of e4 = 3
number_of e5 = 4
number_of e6 = 5
number_of e7 = 6
number_of e8 = 7
number_of e9 = 8
number_of e10 = 9
number_of t1 = 10
number_of t2 = 11
number_of t3 = 12
number_of t4 = 13
number_of t5 = 14
number_of t6 = 15
number_of t7 = 16
number_of t8 = 17
number_of t9 = 18
number_of t10 = 19
number_of n_operand = 20
number_of n_ref = 21
number_of n_ix = 22
number_of n_opened = 23
number_of n_closing = 24
number_of n_argument = 25
number_of n_arguments = 26
number_of n_more_arguments = 27
number_of n_sent = 28
number_of n_received = 29
number_of n_more_received = 30
number_of n_got = 31
number_of n_statement = 32
number_of n_after_name = 33
number_of n_action = 34
number_of n_after_ref = 35
number_of n_right_side = 36
number_of n_other = 37
number_of n_sequence = 38
number_of n_more_statements = 39
number_of n_after_separator = 40
number_of n_option = 41
number_of n_more_options = 42
number_of n_plain_type = 43
number_of n_type = 44
number_of n_value = 45
number_of n_set = 46
number_of n_variable = 47
number_of n_size = 48
number_of n_more_variables = 49
number_of n_chan_variable = 50
number_of n_chan_rest = 51
number_of n_chan_value = 52
number_of n_field = 53
number_of n_more_fields = 54
number_of n_more_chan_variables = 55
number_of n_declaration = 56
number_of n_body = 57
number_of n_items = 58
number_of n_parted = 59
number_of n_more_parted = 60
number_of n_parameters = 61
number_of n_group = 62
number_of n_more_groups = 63
number_of n_parameter = 64
number_of n_more_parameters = 65
number_of n_unit = 66
number_of n_after_mtype = 67
number_of n_message = 68
number_of n_more_messages = 69
number_of n_activity = 70
number_of n_process = 71
number_of n_model = 72
number_of n_more_units = 73
