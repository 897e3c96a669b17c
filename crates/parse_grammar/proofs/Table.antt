-- What the productions derive is what the grammar says.
use mathlib.Core.Path.{◌≡◌, refl, ◌∙◌}
use mathlib.Core.List.{List, [], ◌∷◌, append-nil}
use Prim.Native.Nat.{ℕ}
use Rattle.base_kinds.specs.Kinds.{Token}
use Rattle.spec_grammar.specs.Marks.{'comma, 'semi}
use Rattle.spec_grammar.specs.Tree.{Model}
use Rattle.spec_grammar.specs.Grammar.{AName, is_bit, is_bool, is_byte, is_mtype, is_pid, is_chan, is_short, is_int, AType, is_minus, is_not, is_flip, AnExpression, AReceived, AVariable, AGroup, Gram}
use Rattle.base_codes.specs.Items.{Item}
use Rattle.parse_code.specs.Code.{code_argument, code_received, code_field, code_variable, code_parameter, code_group, code_message, code}
use Rattle.parse_grammar.specs.Engine.{nt, L}
use Rattle.parse_grammar.specs.Productions.{NT, e1, e2, e3, e4, e5, e6, e7, e8, e9, e10, t1, t2, t3, t4, t5, t6, t7, t8, t9, t10, n_operand, n_ref, n_ix, n_opened, n_closing, n_argument, n_arguments, n_more_arguments, n_sent, n_received, n_more_received, n_got, n_statement, n_after_name, n_action, n_after_ref, n_right_side, n_other, n_sequence, n_more_statements, n_after_separator, n_option, n_more_options, n_plain_type, n_type, n_value, n_set, n_variable, n_size, n_more_variables, n_chan_variable, n_chan_rest, n_chan_value, n_field, n_more_fields, n_more_chan_variables, n_declaration, n_body, n_items, n_parted, n_more_parted, n_parameters, n_group, n_more_groups, n_parameter, n_more_parameters, n_unit, n_after_mtype, n_message, n_more_messages, n_activity, n_process, n_model, n_more_units, prods, G}
use Rattle.parse_grammar.proofs.Inst.{Each}
use Rattle.parse_grammar.proofs.Meaning.{Phrase, AnyVariable, M, m_nil, m_nt, Means, to_m}
use Rattle.parse_grammar.proofs.MeansE.{an_operator, means-argument, means-arguments, means_choice, means-eval, means_exactly, means_exactly_false, means_exactly_true, means_false, means-group, means_into, means_ix_index, means_ix_plain, means_len, means_no_arguments, means-number, means_operand_opened, means_operand_ref, means-ref, means-round, means_true, means_unary, message_call, message_commas, no_more, no_operator, one_more_lem, tighter}
use Rattle.parse_grammar.proofs.MeansS.{means_action_named, means_action_unnamed, means_arrow, means_assert, means_assign, means_break, means_decrement, means_do, means_else, means_express, means_goto, means_if, means_increment, means-label, means-last, means_more_arrow, means_more_semi, means-named, means_no_label, means_no_options, means_option, means_options, means_other_express, means_print, means_receive, means-run, means_semi, means_send, means_sequence, means-set, means_set_run, means_skip, means_then, means_timeout, means_trailing, means_unnamed}
use Rattle.parse_grammar.proofs.MeansU.{means-active, means_active_many, means-array, means_body, means-channel, means_channel_array, means_channel_bare, means_channel_made, means_channel_set, means_channel_value, means-field, means-global, means_global_chan, means_global_mtype, means_idle, means_init, means_items_declaration, means_items_sequence, means_local, means_local_chan, means_local_mtype, means-message, means-model, means-mtype, means_mtypes, means_no_parameters, means_no_units, means_parameter, means_parameter_group, means_parameters, means_parted_arrow, means_parted_items, means_parted_more_arrow, means_parted_more_semi, means_parted_semi, means_plain_type, means-process, means-scalar, means-setting, means_some_active, means_type, means_type_plain, means_unit_semi, means-units, means_unset, means_value_false, means_value_minus, means_value_name, means_value_number, means_value_true, means_variable}

-- each right side means what its nonterminal means
means : (n : NT) → Each (Means n) (prods n)
means e1 = (tighter 1 e2 t1 (λ us p f. f) (λ us p f. f), tt)
means e2 = (tighter 2 e3 t2 (λ us p f. f) (λ us p f. f), tt)
means e3 = (tighter 3 e4 t3 (λ us p f. f) (λ us p f. f), tt)
means e4 = (tighter 4 e5 t4 (λ us p f. f) (λ us p f. f), tt)
means e5 = (tighter 5 e6 t5 (λ us p f. f) (λ us p f. f), tt)
means e6 = (tighter 6 e7 t6 (λ us p f. f) (λ us p f. f), tt)
means e7 = (tighter 7 e8 t7 (λ us p f. f) (λ us p f. f), tt)
means e8 = (tighter 8 e9 t8 (λ us p f. f) (λ us p f. f), tt)
means e9 = (tighter 9 e10 t9 (λ us p f. f) (λ us p f. f), tt)
means e10 = (tighter 10 n_operand t10 (λ us p f. f) (λ us p f. f), tt)
means t1 = (no_operator 1, (an_operator 0 1 e2 t1 refl (λ us p f. f) (λ us p f. f), tt))
means t2 = (no_operator 2, (an_operator 1 2 e3 t2 refl (λ us p f. f) (λ us p f. f), tt))
means t3 = (no_operator 3, (an_operator 2 3 e4 t3 refl (λ us p f. f) (λ us p f. f), tt))
means t4 = (no_operator 4, (an_operator 3 4 e5 t4 refl (λ us p f. f) (λ us p f. f), tt))
means t5 = (no_operator 5, (an_operator 4 5 e6 t5 refl (λ us p f. f) (λ us p f. f), tt))
means t6 = (no_operator 6, (an_operator 5 6 e7 t6 refl (λ us p f. f) (λ us p f. f), (an_operator 5 7 e7 t6 refl (λ us p f. f) (λ us p f. f), tt)))
means t7 = (no_operator 7, (an_operator 6 8 e8 t7 refl (λ us p f. f) (λ us p f. f), (an_operator 6 9 e8 t7 refl (λ us p f. f) (λ us p f. f), (an_operator 6 10 e8 t7 refl (λ us p f. f) (λ us p f. f), (an_operator 6 11 e8 t7 refl (λ us p f. f) (λ us p f. f), tt)))))
means t8 = (no_operator 8, (an_operator 7 12 e9 t8 refl (λ us p f. f) (λ us p f. f), (an_operator 7 13 e9 t8 refl (λ us p f. f) (λ us p f. f), tt)))
means t9 = (no_operator 9, (an_operator 8 14 e10 t9 refl (λ us p f. f) (λ us p f. f), (an_operator 8 15 e10 t9 refl (λ us p f. f) (λ us p f. f), tt)))
means t10 = (no_operator 10, (an_operator 9 16 n_operand t10 refl (λ us p f. f) (λ us p f. f), (an_operator 9 17 n_operand t10 refl (λ us p f. f) (λ us p f. f), (an_operator 9 18 n_operand t10 refl (λ us p f. f) (λ us p f. f), tt))))
means n_operand = (means_operand_ref, (means_operand_opened, tt))
means n_ref = (means-ref, tt)
means n_ix = (means_ix_plain, (means_ix_index, tt))
means n_opened = (means-number, (means_true, (means_false, (means_len, (means-round, (means_unary 15 is_minus, (means_unary 19 is_not, (means_unary 20 is_flip, tt))))))))
means n_closing = (means-group, (means_choice, tt))
means n_argument = (means-argument, tt)
means n_arguments = (means_no_arguments, (means-arguments, tt))
means n_more_arguments = (no_more 'comma AnExpression code_argument, (one_more_lem 27 n_argument n_more_arguments AnExpression code_argument (λ us p f. f) (λ us p f. f), tt))
means n_sent = (message_commas n_more_arguments AnExpression code_argument (λ us p f. f), (message_call n_argument n_more_arguments AnExpression code_argument (λ us p f. f) (λ us p f. f), tt))
means n_received = (means_into, (means-eval, (means_exactly, (means_exactly_true, (means_exactly_false, tt)))))
means n_more_received = (no_more 'comma AReceived code_received, (one_more_lem 27 n_received n_more_received AReceived code_received (λ us p f. f) (λ us p f. f), tt))
means n_got = (message_commas n_more_received AReceived code_received (λ us p f. f), (message_call n_received n_more_received AReceived code_received (λ us p f. f) (λ us p f. f), tt))
means n_statement = (means-named, (means_unnamed, tt))
means n_after_name = (means-label, (means_no_label, tt))
means n_action = (means_action_named, (means_action_unnamed, tt))
means n_after_ref = (means-set, (means_increment, (means_decrement, (means_send, (means_receive, (means_express, tt))))))
means n_right_side = (means_assign, (means_set_run, tt))
means n_other = (means_other_express, (means_assert, (means_print, (means_skip, (means_goto, (means_break, (means_timeout, (means_else, (means-run, (means_if, (means_do, tt)))))))))))
means n_sequence = (means_sequence, tt)
means n_more_statements = (means-last, (means_semi, (means_arrow, tt)))
means n_after_separator = (means_trailing, (means_more_semi, (means_more_arrow, (means_then, tt))))
means n_option = (means_option, tt)
means n_more_options = (means_no_options, (means_options, tt))
means n_plain_type = (means_plain_type 38 is_bit, (means_plain_type 39 is_bool, (means_plain_type 40 is_byte, (means_plain_type 42 is_pid, (means_plain_type 44 is_short, (means_plain_type 45 is_int, tt))))))
means n_type = (means_type_plain, (means_type 41 is_mtype, (means_type 43 is_chan, tt)))
means n_value = (means_value_number, (means_value_minus, (means_value_true, (means_value_false, (means_value_name, tt)))))
means n_set = (means_unset, (means-setting, tt))
means n_variable = (means_variable, tt)
means n_size = (means-scalar, (means-array, tt))
means n_more_variables = (no_more 'comma AnyVariable code_variable, (one_more_lem 27 n_variable n_more_variables AnyVariable code_variable (λ us p f. f) (λ us p f. f), tt))
means n_chan_variable = (means-channel, tt)
means n_chan_rest = (means_channel_bare, (means_channel_array, (means_channel_set, tt)))
means n_chan_value = (means_channel_value, (means_channel_made, tt))
means n_field = (means-field, tt)
means n_more_fields = (no_more 'comma AType code_field, (one_more_lem 27 n_field n_more_fields AType code_field (λ us p f. f) (λ us p f. f), tt))
means n_more_chan_variables = (no_more 'comma (AVariable 43) code_variable, (one_more_lem 27 n_chan_variable n_more_chan_variables (AVariable 43) code_variable (λ us p f. f) (λ us p f. f), tt))
means n_declaration = (means_local, (means_local_mtype, (means_local_chan, tt)))
means n_body = (means_body, tt)
means n_items = (means_items_declaration, (means_items_sequence, tt))
means n_parted = (means_parted_semi, (means_parted_arrow, tt))
means n_more_parted = (means_parted_more_semi, (means_parted_more_arrow, (means_parted_items, tt)))
means n_parameters = (means_no_parameters, (means_parameters, tt))
means n_group = (means_parameter_group, tt)
means n_more_groups = (no_more 'semi AGroup code_group, (one_more_lem 28 n_group n_more_groups AGroup code_group (λ us p f. f) (λ us p f. f), tt))
means n_parameter = (means_parameter, tt)
means n_more_parameters = (no_more 'comma AName code_parameter, (one_more_lem 27 n_parameter n_more_parameters AName code_parameter (λ us p f. f) (λ us p f. f), tt))
means n_unit = (means-global, (means-mtype, (means_global_chan, (means_idle, (means_some_active, (means_init, tt))))))
means n_after_mtype = (means_mtypes, (means_global_mtype, tt))
means n_message = (means-message, tt)
means n_more_messages = (no_more 'comma AName code_message, (one_more_lem 27 n_message n_more_messages AName code_message (λ us p f. f) (λ us p f. f), tt))
means n_activity = (means-active, (means_active_many, tt))
means n_process = (means-process, tt)
means n_model = (means-model, tt)
means n_more_units = (means_no_units, (means_unit_semi, (means-units, tt)))

text_m : {w : List Token} {o : List Item} → M (nt n_model ∷ []) w o → Phrase Gram code w o
text_m (m_nt ts p (m, x, h) m_nil) = (m, rw append-nil x, append-nil p ∙ h)

-- WHAT THE GRAMMAR AS DATA DERIVES, THE GRAMMAR SAYS, and what is written is the code of the tree
pub from-table : {w : List Token} {o : List Item} → L G (nt n_model ∷ []) w o → (m : Model) × Gram w m × (o ≡ code m)
from-table d = text_m (to_m means d)
