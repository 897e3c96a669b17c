-- Mechanism, held to the specification by `parse-sound`, `parse_complete` (crate `parse_grammar`).
-- THE GRAMMAR AS DATA, left-factored so that one token of lookahead chooses: named nonterminals, their right sides, and the items that are written on the way.
-- It derives exactly the texts of specs/Grammar.antt, each with the code of its tree (proofs/Link.antt, proofs/Table.antt).
use Rattle.std.specs.Prelude.{cond, List, [], ◌∷◌, ◌++◌, map, ℕ, eqb}
use Rattle.std.proofs.Math.Option.{Option, none, some}
use Rattle.base_kinds.specs.Kinds.{Token, sym, name, number, text, kind_of, level}
use Rattle.parse_grammar.specs.Marks.{'!, '?, 'chan, 'len, '~}
use Rattle.spec_grammar.specs.Marks.{'++, '-, '->, ':, '::, '=, '[, '], 'active, 'assert, 'break, 'comma, 'do, 'else, 'eval, 'false, 'fi, 'goto, 'if, 'init, 'lbrace, 'lpar, 'mtype, 'od, 'of, 'printf, 'proctype, 'rbrace, 'rpar, 'run, 'semi, 'skip, 'timeout, 'true, k_len, k_bang, k_ask, '--}
use Rattle.base_codes.specs.Items.{Item, i_active, i_active_many, i_argument, i_assert, i_assign, i_binary, i_body, i_break, i_channel, i_choice, i_constant, i_declared, i_do, i_else, i_end, i_end_body, i_end_option, i_equal, i_express, i_false, i_fi, i_field, i_global, i_goto, i_group, i_if, i_increment, i_index, i_init, i_into, i_label, i_query, i_local, i_message, i_minus, i_mtypes, i_name, i_named, i_number, i_od, i_option, i_otherwise, i_parameter, i_plain, i_proctype, i_receive, i_run, i_send, i_set_run, i_size, i_skip, i_target, i_text, i_timeout, i_true, i_type, i_unary, i_value, i_decrement}
use Rattle.parse_grammar.specs.Engine.{Sym, nt, tm, act, Grammar}

pub data NT : Type 0 where
  -- expressions: those of level l, and the operators of level l that may follow an operand
  e1 e2 e3 e4 e5 e6 e7 e8 e9 e10 t1 t2 t3 t4 t5 t6 t7 t8 t9 t10 : NT
  -- an operand; a reference, and what follows its name; an operand that begins with no name; what follows `(` and an expression
  n_operand n_ref n_ix n_opened n_closing : NT
  -- arguments, and what follows the first of a message
  n_argument n_arguments n_more_arguments n_sent n_received n_more_received n_got : NT
  -- statements; after a name, after a reference, after `=`
  n_statement n_after_name n_action n_after_ref n_right_side n_other n_sequence n_more_statements n_after_separator n_option n_more_options : NT
  -- declarations
  n_plain_type n_type n_value n_set n_variable n_size n_more_variables n_chan_variable n_chan_rest n_chan_value n_field n_more_fields n_more_chan_variables n_declaration : NT
  -- units
  n_body n_items n_parted n_more_parted n_parameters n_group n_more_groups n_parameter n_more_parameters n_unit n_after_mtype n_message n_more_messages n_activity n_process n_model n_more_units : NT

-- terminals: the token of one kind; any name; any number; any string
pub data Ter : Type 0 where
  sy : ℕ → Ter
  any_name any_number any_text : Ter

abbrev pub Right : Type 0
Right = List (Sym NT Ter Item)

abbrev pub key : Token → Sym NT Ter Item
key c = tm (sy (kind_of c))

-- what a terminal eats, and what is then written
abbrev pub eats : Ter → Token → Option (List Item)
eats (sy j) (sym k) = cond (eqb j k) (some []) none
eats (sy j) (name w) = none
eats (sy j) (number n) = none
eats (sy j) (text w) = none
eats any_name (sym k) = none
eats any_name (name w) = some (i_name w ∷ [])
eats any_name (number n) = none
eats any_name (text w) = none
eats any_number (sym k) = none
eats any_number (name w) = none
eats any_number (number n) = some (i_number n ∷ [])
eats any_number (text w) = none
eats any_text (sym k) = none
eats any_text (name w) = none
eats any_text (number n) = none
eats any_text (text w) = some (i_text w ∷ [])

-- the binary operators of a level
abbrev pub pick_level : ℕ → List ℕ → List ℕ
pick_level l [] = []
pick_level l (o ∷ os) = cond (eqb (level o) l) (o ∷ pick_level l os) (pick_level l os)

abbrev pub operators : ℕ → List ℕ
operators l = pick_level l (1 ∷ 2 ∷ 3 ∷ 4 ∷ 5 ∷ 6 ∷ 7 ∷ 8 ∷ 9 ∷ 10 ∷ 11 ∷ 12 ∷ 13 ∷ 14 ∷ 15 ∷ 16 ∷ 17 ∷ 18 ∷ [])

-- an operator, its right operand, and more of its level
abbrev pub operation : NT → NT → ℕ → Right
operation n t o = key (sym o) ∷ nt n ∷ act (i_binary o) ∷ nt t ∷ []

abbrev pub tails : Right → Right
tails k = nt t10 ∷ nt t9 ∷ nt t8 ∷ nt t7 ∷ nt t6 ∷ nt t5 ∷ nt t4 ∷ nt t3 ∷ nt t2 ∷ nt t1 ∷ k

-- a list's further elements, each after the token s
abbrev pub again : Token → NT → NT → List Right
again s n m = [] ∷ (key s ∷ nt n ∷ nt m ∷ []) ∷ []

abbrev pub is_of_type : ℕ → Right
is_of_type k = key (sym k) ∷ act (i_type k) ∷ []

abbrev pub prods : NT → List Right
prods e1 = (nt e2 ∷ nt t1 ∷ []) ∷ []
prods e2 = (nt e3 ∷ nt t2 ∷ []) ∷ []
prods e3 = (nt e4 ∷ nt t3 ∷ []) ∷ []
prods e4 = (nt e5 ∷ nt t4 ∷ []) ∷ []
prods e5 = (nt e6 ∷ nt t5 ∷ []) ∷ []
prods e6 = (nt e7 ∷ nt t6 ∷ []) ∷ []
prods e7 = (nt e8 ∷ nt t7 ∷ []) ∷ []
prods e8 = (nt e9 ∷ nt t8 ∷ []) ∷ []
prods e9 = (nt e10 ∷ nt t9 ∷ []) ∷ []
prods e10 = (nt n_operand ∷ nt t10 ∷ []) ∷ []
prods t1 = [] ∷ map (operation e2 t1) (operators 1)
prods t2 = [] ∷ map (operation e3 t2) (operators 2)
prods t3 = [] ∷ map (operation e4 t3) (operators 3)
prods t4 = [] ∷ map (operation e5 t4) (operators 4)
prods t5 = [] ∷ map (operation e6 t5) (operators 5)
prods t6 = [] ∷ map (operation e7 t6) (operators 6)
prods t7 = [] ∷ map (operation e8 t7) (operators 7)
prods t8 = [] ∷ map (operation e9 t8) (operators 8)
prods t9 = [] ∷ map (operation e10 t9) (operators 9)
prods t10 = [] ∷ map (operation n_operand t10) (operators 10)
prods n_operand = (nt n_ref ∷ []) ∷ (nt n_opened ∷ []) ∷ []
prods n_ref = (tm any_name ∷ nt n_ix ∷ []) ∷ []
prods n_ix = (act i_plain ∷ []) ∷ (key '[ ∷ nt e1 ∷ key '] ∷ act i_index ∷ []) ∷ []
prods n_opened =
    (tm any_number ∷ []) ∷
    (key 'true ∷ act i_true ∷ []) ∷
    (key 'false ∷ act i_false ∷ []) ∷
    (key 'len ∷ key 'lpar ∷ nt n_ref ∷ key 'rpar ∷ act (i_query k_len) ∷ []) ∷
    (key 'lpar ∷ nt e1 ∷ nt n_closing ∷ []) ∷
    (key '- ∷ nt n_operand ∷ act (i_unary 15) ∷ []) ∷
    (key '! ∷ nt n_operand ∷ act (i_unary 19) ∷ []) ∷
    (key '~ ∷ nt n_operand ∷ act (i_unary 20) ∷ []) ∷ []
prods n_closing = (key 'rpar ∷ []) ∷ (key '-> ∷ nt e1 ∷ key ': ∷ act i_otherwise ∷ nt e1 ∷ key 'rpar ∷ act i_choice ∷ []) ∷ []
prods n_argument = (nt e1 ∷ act i_argument ∷ []) ∷ []
prods n_arguments = [] ∷ (nt n_argument ∷ nt n_more_arguments ∷ []) ∷ []
prods n_more_arguments = again 'comma n_argument n_more_arguments
prods n_sent = (nt n_more_arguments ∷ []) ∷ (key 'lpar ∷ nt n_argument ∷ nt n_more_arguments ∷ key 'rpar ∷ []) ∷ []
prods n_received =
    (nt n_ref ∷ act i_into ∷ []) ∷
    (key 'eval ∷ key 'lpar ∷ nt e1 ∷ key 'rpar ∷ act i_equal ∷ []) ∷
    (tm any_number ∷ act i_constant ∷ []) ∷
    (key 'true ∷ act i_true ∷ act i_constant ∷ []) ∷
    (key 'false ∷ act i_false ∷ act i_constant ∷ []) ∷ []
prods n_more_received = again 'comma n_received n_more_received
prods n_got = (nt n_more_received ∷ []) ∷ (key 'lpar ∷ nt n_received ∷ nt n_more_received ∷ key 'rpar ∷ []) ∷ []
prods n_statement = (tm any_name ∷ nt n_after_name ∷ []) ∷ (nt n_other ∷ []) ∷ []
prods n_after_name = (key ': ∷ act i_label ∷ nt n_action ∷ []) ∷ (nt n_ix ∷ nt n_after_ref ∷ []) ∷ []
prods n_action = (tm any_name ∷ nt n_ix ∷ nt n_after_ref ∷ []) ∷ (nt n_other ∷ []) ∷ []
prods n_after_ref =
    (key '= ∷ act i_target ∷ nt n_right_side ∷ []) ∷
    (key '++ ∷ act i_increment ∷ []) ∷
    (key '-- ∷ act i_decrement ∷ []) ∷
    (key '! ∷ act (i_send k_bang) ∷ nt n_argument ∷ nt n_sent ∷ act i_end ∷ []) ∷
    (key '? ∷ act (i_receive k_ask) ∷ nt n_received ∷ nt n_got ∷ act i_end ∷ []) ∷
    (tails (act i_express ∷ [])) ∷ []
prods n_right_side = (nt e1 ∷ act i_assign ∷ []) ∷ (key 'run ∷ tm any_name ∷ act i_set_run ∷ key 'lpar ∷ nt n_arguments ∷ key 'rpar ∷ act i_end ∷ []) ∷ []
prods n_other =
    (nt n_opened ∷ tails (act i_express ∷ [])) ∷
    (key 'assert ∷ key 'lpar ∷ nt e1 ∷ key 'rpar ∷ act i_assert ∷ []) ∷
    (key 'printf ∷ key 'lpar ∷ tm any_text ∷ nt n_more_arguments ∷ key 'rpar ∷ act i_end ∷ []) ∷
    (key 'skip ∷ act i_skip ∷ []) ∷
    (key 'goto ∷ tm any_name ∷ act i_goto ∷ []) ∷
    (key 'break ∷ act i_break ∷ []) ∷
    (key 'timeout ∷ act i_timeout ∷ []) ∷
    (key 'else ∷ act i_else ∷ []) ∷
    (key 'run ∷ tm any_name ∷ act i_run ∷ key 'lpar ∷ nt n_arguments ∷ key 'rpar ∷ act i_end ∷ []) ∷
    (key 'if ∷ act i_if ∷ nt n_option ∷ nt n_more_options ∷ key 'fi ∷ act i_fi ∷ []) ∷
    (key 'do ∷ act i_do ∷ nt n_option ∷ nt n_more_options ∷ key 'od ∷ act i_od ∷ []) ∷ []
prods n_sequence = (nt n_statement ∷ nt n_more_statements ∷ []) ∷ []
prods n_more_statements =
    [] ∷
    (key 'semi ∷ nt n_after_separator ∷ []) ∷
    (key '-> ∷ nt n_after_separator ∷ []) ∷ []
prods n_after_separator =
    [] ∷
    (key 'semi ∷ nt n_after_separator ∷ []) ∷
    (key '-> ∷ nt n_after_separator ∷ []) ∷
    (nt n_sequence ∷ []) ∷ []
prods n_option = (key ':: ∷ act i_option ∷ nt n_sequence ∷ act i_end_option ∷ []) ∷ []
prods n_more_options = [] ∷ (nt n_option ∷ nt n_more_options ∷ []) ∷ []
prods n_plain_type = map is_of_type (38 ∷ 39 ∷ 40 ∷ 42 ∷ 44 ∷ 45 ∷ [])
prods n_type = (nt n_plain_type ∷ []) ∷ is_of_type 41 ∷ is_of_type 43 ∷ []
prods n_value =
    (tm any_number ∷ act i_value ∷ []) ∷
    (key '- ∷ tm any_number ∷ act i_minus ∷ []) ∷
    (key 'true ∷ act i_true ∷ act i_value ∷ []) ∷
    (key 'false ∷ act i_false ∷ act i_value ∷ []) ∷
    (tm any_name ∷ act i_named ∷ []) ∷ []
prods n_set = [] ∷ (key '= ∷ nt n_value ∷ []) ∷ []
prods n_variable = (tm any_name ∷ act i_declared ∷ nt n_size ∷ nt n_set ∷ []) ∷ []
prods n_size = [] ∷ (key '[ ∷ tm any_number ∷ key '] ∷ act i_size ∷ []) ∷ []
prods n_more_variables = again 'comma n_variable n_more_variables
prods n_chan_variable = (tm any_name ∷ act i_declared ∷ nt n_chan_rest ∷ []) ∷ []
prods n_chan_rest =
    [] ∷
    (key '[ ∷ tm any_number ∷ key '] ∷ act i_size ∷ nt n_set ∷ []) ∷
    (key '= ∷ nt n_chan_value ∷ []) ∷ []
prods n_chan_value = (nt n_value ∷ []) ∷ (key '[ ∷ tm any_number ∷ key '] ∷ act i_channel ∷ key 'of ∷ key 'lbrace ∷ nt n_field ∷ nt n_more_fields ∷ key 'rbrace ∷ []) ∷ []
prods n_field = (nt n_type ∷ act i_field ∷ []) ∷ []
prods n_more_fields = again 'comma n_field n_more_fields
prods n_more_chan_variables = again 'comma n_chan_variable n_more_chan_variables
prods n_declaration =
    (nt n_plain_type ∷ act i_local ∷ nt n_variable ∷ nt n_more_variables ∷ []) ∷
    (key 'mtype ∷ act (i_type 41) ∷ act i_local ∷ nt n_variable ∷ nt n_more_variables ∷ []) ∷
    (key 'chan ∷ act (i_type 43) ∷ act i_local ∷ nt n_chan_variable ∷ nt n_more_chan_variables ∷ []) ∷ []
prods n_body = (key 'lbrace ∷ act i_body ∷ nt n_items ∷ key 'rbrace ∷ act i_end_body ∷ []) ∷ []
prods n_items = (nt n_declaration ∷ nt n_parted ∷ []) ∷ (nt n_sequence ∷ []) ∷ []
prods n_parted = (key 'semi ∷ nt n_more_parted ∷ []) ∷ (key '-> ∷ nt n_more_parted ∷ []) ∷ []
prods n_more_parted =
    (key 'semi ∷ nt n_more_parted ∷ []) ∷
    (key '-> ∷ nt n_more_parted ∷ []) ∷
    (nt n_items ∷ []) ∷ []
prods n_parameters = [] ∷ (nt n_group ∷ nt n_more_groups ∷ []) ∷ []
prods n_group = (nt n_type ∷ act i_group ∷ nt n_parameter ∷ nt n_more_parameters ∷ []) ∷ []
prods n_more_groups = again 'semi n_group n_more_groups
prods n_parameter = (tm any_name ∷ act i_parameter ∷ []) ∷ []
prods n_more_parameters = again 'comma n_parameter n_more_parameters
prods n_unit =
    (nt n_plain_type ∷ act i_global ∷ nt n_variable ∷ nt n_more_variables ∷ []) ∷
    (key 'mtype ∷ nt n_after_mtype ∷ []) ∷
    (key 'chan ∷ act (i_type 43) ∷ act i_global ∷ nt n_chan_variable ∷ nt n_more_chan_variables ∷ []) ∷
    (key 'proctype ∷ tm any_name ∷ act i_proctype ∷ nt n_process ∷ []) ∷
    (key 'active ∷ nt n_activity ∷ []) ∷
    (key 'init ∷ act i_init ∷ nt n_body ∷ []) ∷ []
prods n_after_mtype = (key '= ∷ act i_mtypes ∷ key 'lbrace ∷ nt n_message ∷ nt n_more_messages ∷ key 'rbrace ∷ []) ∷ (act (i_type 41) ∷ act i_global ∷ nt n_variable ∷ nt n_more_variables ∷ []) ∷ []
prods n_message = (tm any_name ∷ act i_message ∷ []) ∷ []
prods n_more_messages = again 'comma n_message n_more_messages
prods n_activity = (key 'proctype ∷ tm any_name ∷ act i_active ∷ nt n_process ∷ []) ∷ (key '[ ∷ tm any_number ∷ key '] ∷ key 'proctype ∷ tm any_name ∷ act i_active_many ∷ nt n_process ∷ []) ∷ []
prods n_process = (key 'lpar ∷ nt n_parameters ∷ key 'rpar ∷ nt n_body ∷ []) ∷ []
prods n_model = (nt n_unit ∷ nt n_more_units ∷ []) ∷ []
prods n_more_units =
    [] ∷
    (key 'semi ∷ nt n_more_units ∷ []) ∷
    (nt n_unit ∷ nt n_more_units ∷ []) ∷ []

abbrev pub G : Grammar Token Ter NT Item
G = record { prods = prods; eats = eats }
