-- Mechanism, held to the specification by `parse-sound`, `parse_complete` (crate `parse_grammar`).
-- What helps the machine choose, as data: for each nonterminal the kinds of tokens that may begin it and that may follow it, what is written where it is empty,
-- and a bound on the choices before a token is eaten. Nothing here need be believed: proofs/Inst.antt has the tests that these numbers pass.
-- A kind past the last, which no token of a text has, counts as 73.
use Rattle.std.specs.Prelude.{Bool, false, List, [], ◌∷◌, ℕ, min, eqb, leb}
use Rattle.std.proofs.Math.Option.{Option, none, some}
use Rattle.base_kinds.specs.Kinds.{Token, kind_of}
use Rattle.base_codes.specs.Items.{Item, i_express, i_plain}
use Rattle.parse_grammar.specs.Engine.{nt, Guide, Answer, parse}
use Rattle.parse_grammar.specs.Productions.{NT, e1, e2, e3, e4, e5, e6, e7, e8, e9, e10, t1, t2, t3, t4, t5, t6, t7, t8, t9, t10, n_operand, n_ref, n_ix, n_opened, n_closing, n_argument, n_arguments, n_more_arguments, n_sent, n_received, n_more_received, n_got, n_statement, n_after_name, n_action, n_after_ref, n_right_side, n_other, n_sequence, n_more_statements, n_after_separator, n_option, n_more_options, n_plain_type, n_type, n_value, n_set, n_variable, n_size, n_more_variables, n_chan_variable, n_chan_rest, n_chan_value, n_field, n_more_fields, n_more_chan_variables, n_declaration, n_body, n_items, n_parted, n_more_parted, n_parameters, n_group, n_more_groups, n_parameter, n_more_parameters, n_unit, n_after_mtype, n_message, n_more_messages, n_activity, n_process, n_model, n_more_units, Ter, sy, any_name, any_number, any_text, G}
use Rattle.base_bytes.specs.Choice.{both, either}

-- from the first kind through the second
pub data Span : Type 0 where
  ◌to◌ : ℕ → ℕ → Span

infixl 80 ◌to◌
abbrev pub within : List Span → ℕ → Bool
within [] i = false
within (a to b ∷ l) i = either (both (leb a i) (leb i b)) (within l i)

pub record Row : Type 0 where
  pub begins : List Span
  pub follows : List Span
  pub empty : Option (List Item)
  pub cost : ℕ

abbrev row : List Span → List Span → Option (List Item) → ℕ → Row
row b f e c = record { begins = b; follows = f; empty = e; cost = c }

-- what begins an expression
abbrev operand : List Span
operand = 15 to 15 ∷ 19 to 21 ∷ 52 to 52 ∷ 57 to 57 ∷ 65 to 65 ∷ 70 to 71 ∷ []

-- what may follow one
abbrev ends : List Span
ends = 21 to 22 ∷ 24 to 24 ∷ 26 to 31 ∷ 53 to 53 ∷ 58 to 58 ∷ []

-- what begins a statement
abbrev statements : List Span
statements = 15 to 15 ∷ 19 to 21 ∷ 47 to 50 ∷ 52 to 52 ∷ 54 to 55 ∷ 57 to 57 ∷ 60 to 60 ∷ 62 to 65 ∷ 70 to 71 ∷ []

-- what may follow one, and what may follow a sequence
abbrev closes : List Span
closes = 26 to 26 ∷ 28 to 28 ∷ 30 to 31 ∷ 53 to 53 ∷ 58 to 58 ∷ []

abbrev sequence_ends : List Span
sequence_ends = 26 to 26 ∷ 30 to 30 ∷ 53 to 53 ∷ 58 to 58 ∷ []

-- what may follow a declared name
abbrev variable_ends : List Span
variable_ends = 27 to 28 ∷ 31 to 31 ∷ 38 to 46 ∷ 56 to 56 ∷ 61 to 61 ∷ []

-- what begins a unit, and what may follow one
abbrev units : List Span
units = 38 to 46 ∷ 56 to 56 ∷ 61 to 61 ∷ []

abbrev after_units : List Span
after_units = 28 to 28 ∷ 38 to 46 ∷ 56 to 56 ∷ 61 to 61 ∷ []

-- what may follow a message's argument
abbrev after_item : List Span
after_item = 21 to 22 ∷ 26 to 28 ∷ 30 to 31 ∷ 53 to 53 ∷ 58 to 58 ∷ []

abbrev rows : NT → Row
rows e1 = row operand ends none 13
rows e2 = row operand (1 to 1 ∷ ends) none 12
rows e3 = row operand (1 to 2 ∷ ends) none 11
rows e4 = row operand (1 to 3 ∷ ends) none 10
rows e5 = row operand (1 to 4 ∷ ends) none 9
rows e6 = row operand (1 to 5 ∷ ends) none 8
rows e7 = row operand (1 to 7 ∷ ends) none 7
rows e8 = row operand (1 to 11 ∷ ends) none 6
rows e9 = row operand (1 to 13 ∷ ends) none 5
rows e10 = row operand (1 to 15 ∷ ends) none 4
rows t1 = row (1 to 1 ∷ []) ends (some []) 2
rows t2 = row (2 to 2 ∷ []) (1 to 1 ∷ ends) (some []) 2
rows t3 = row (3 to 3 ∷ []) (1 to 2 ∷ ends) (some []) 2
rows t4 = row (4 to 4 ∷ []) (1 to 3 ∷ ends) (some []) 2
rows t5 = row (5 to 5 ∷ []) (1 to 4 ∷ ends) (some []) 2
rows t6 = row (6 to 7 ∷ []) (1 to 5 ∷ ends) (some []) 2
rows t7 = row (8 to 11 ∷ []) (1 to 7 ∷ ends) (some []) 2
rows t8 = row (12 to 13 ∷ []) (1 to 11 ∷ ends) (some []) 2
rows t9 = row (14 to 15 ∷ []) (1 to 13 ∷ ends) (some []) 2
rows t10 = row (16 to 18 ∷ []) (1 to 15 ∷ ends) (some []) 2
rows n_operand = row operand (1 to 18 ∷ ends) none 3
rows n_ref = row (70 to 70 ∷ []) (1 to 18 ∷ ends) none 2
rows n_ix = row (23 to 23 ∷ []) (1 to 19 ∷ 21 to 22 ∷ 24 to 24 ∷ 26 to 35 ∷ 53 to 53 ∷ 58 to 58 ∷ []) (some (i_plain ∷ [])) 2
rows n_opened = row (15 to 15 ∷ 19 to 21 ∷ 52 to 52 ∷ 57 to 57 ∷ 65 to 65 ∷ 71 to 71 ∷ []) (1 to 18 ∷ ends) none 2
rows n_closing = row (22 to 22 ∷ 31 to 31 ∷ []) (1 to 18 ∷ ends) none 2
rows n_argument = row operand after_item none 14
rows n_arguments = row operand (22 to 22 ∷ []) (some []) 15
rows n_more_arguments = row (27 to 27 ∷ []) (22 to 22 ∷ 26 to 26 ∷ 28 to 28 ∷ 30 to 31 ∷ 53 to 53 ∷ 58 to 58 ∷ []) (some []) 2
rows n_sent = row (21 to 21 ∷ 27 to 27 ∷ []) closes (some []) 3
rows n_received = row (51 to 52 ∷ 65 to 65 ∷ 70 to 71 ∷ []) after_item none 3
rows n_more_received = row (27 to 27 ∷ []) (22 to 22 ∷ 26 to 26 ∷ 28 to 28 ∷ 30 to 31 ∷ 53 to 53 ∷ 58 to 58 ∷ []) (some []) 2
rows n_got = row (21 to 21 ∷ 27 to 27 ∷ []) closes (some []) 3
rows n_statement = row statements closes none 4
rows n_after_name = row (1 to 19 ∷ 23 to 23 ∷ 29 to 29 ∷ 32 to 35 ∷ []) closes (some (i_plain ∷ i_express ∷ [])) 25
rows n_action = row statements closes none 4
rows n_after_ref = row (1 to 19 ∷ 32 to 35 ∷ []) closes (some (i_express ∷ [])) 22
rows n_right_side = row (15 to 15 ∷ 19 to 21 ∷ 52 to 52 ∷ 57 to 57 ∷ 62 to 62 ∷ 65 to 65 ∷ 70 to 71 ∷ []) closes none 14
rows n_other = row (15 to 15 ∷ 19 to 21 ∷ 47 to 50 ∷ 52 to 52 ∷ 54 to 55 ∷ 57 to 57 ∷ 60 to 60 ∷ 62 to 65 ∷ 71 to 71 ∷ []) closes none 3
rows n_sequence = row statements sequence_ends none 5
rows n_more_statements = row (28 to 28 ∷ 31 to 31 ∷ []) sequence_ends (some []) 2
rows n_after_separator = row (15 to 15 ∷ 19 to 21 ∷ 28 to 28 ∷ 31 to 31 ∷ 47 to 50 ∷ 52 to 52 ∷ 54 to 55 ∷ 57 to 57 ∷ 60 to 60 ∷ 62 to 65 ∷ 70 to 71 ∷ []) sequence_ends (some []) 6
rows n_option = row (30 to 30 ∷ []) (30 to 30 ∷ 53 to 53 ∷ 58 to 58 ∷ []) none 2
rows n_more_options = row (30 to 30 ∷ []) (53 to 53 ∷ 58 to 58 ∷ []) (some []) 3
rows n_plain_type = row (38 to 40 ∷ 42 to 42 ∷ 44 to 45 ∷ []) (26 to 27 ∷ 70 to 70 ∷ []) none 2
rows n_type = row (38 to 45 ∷ []) (26 to 27 ∷ 70 to 70 ∷ []) none 3
rows n_value = row (15 to 15 ∷ 52 to 52 ∷ 65 to 65 ∷ 70 to 71 ∷ []) variable_ends none 2
rows n_set = row (32 to 32 ∷ []) variable_ends (some []) 2
rows n_variable = row (70 to 70 ∷ []) variable_ends none 2
rows n_size = row (23 to 23 ∷ []) (27 to 28 ∷ 31 to 32 ∷ 38 to 46 ∷ 56 to 56 ∷ 61 to 61 ∷ []) (some []) 2
rows n_more_variables = row (27 to 27 ∷ []) (28 to 28 ∷ 31 to 31 ∷ 38 to 46 ∷ 56 to 56 ∷ 61 to 61 ∷ []) (some []) 2
rows n_chan_variable = row (70 to 70 ∷ []) variable_ends none 2
rows n_chan_rest = row (23 to 23 ∷ 32 to 32 ∷ []) variable_ends (some []) 2
rows n_chan_value = row (15 to 15 ∷ 23 to 23 ∷ 52 to 52 ∷ 65 to 65 ∷ 70 to 71 ∷ []) variable_ends none 3
rows n_field = row (38 to 45 ∷ []) (26 to 27 ∷ []) none 4
rows n_more_fields = row (27 to 27 ∷ []) (26 to 26 ∷ []) (some []) 2
rows n_more_chan_variables = row (27 to 27 ∷ []) (28 to 28 ∷ 31 to 31 ∷ 38 to 46 ∷ 56 to 56 ∷ 61 to 61 ∷ []) (some []) 2
rows n_declaration = row (38 to 45 ∷ []) (28 to 28 ∷ 31 to 31 ∷ []) none 3
rows n_body = row (25 to 25 ∷ []) after_units none 2
rows n_items = row (15 to 15 ∷ 19 to 21 ∷ 38 to 45 ∷ 47 to 50 ∷ 52 to 52 ∷ 54 to 55 ∷ 57 to 57 ∷ 60 to 60 ∷ 62 to 65 ∷ 70 to 71 ∷ []) (26 to 26 ∷ []) none 6
rows n_parted = row (28 to 28 ∷ 31 to 31 ∷ []) (26 to 26 ∷ []) none 2
rows n_more_parted = row (15 to 15 ∷ 19 to 21 ∷ 28 to 28 ∷ 31 to 31 ∷ 38 to 45 ∷ 47 to 50 ∷ 52 to 52 ∷ 54 to 55 ∷ 57 to 57 ∷ 60 to 60 ∷ 62 to 65 ∷ 70 to 71 ∷ []) (26 to 26 ∷ []) none 7
rows n_parameters = row (38 to 45 ∷ []) (22 to 22 ∷ []) (some []) 5
rows n_group = row (38 to 45 ∷ []) (22 to 22 ∷ 28 to 28 ∷ []) none 4
rows n_more_groups = row (28 to 28 ∷ []) (22 to 22 ∷ []) (some []) 2
rows n_parameter = row (70 to 70 ∷ []) (22 to 22 ∷ 27 to 28 ∷ []) none 2
rows n_more_parameters = row (27 to 27 ∷ []) (22 to 22 ∷ 28 to 28 ∷ []) (some []) 2
rows n_unit = row units after_units none 3
rows n_after_mtype = row (32 to 32 ∷ 70 to 70 ∷ []) after_units none 5
rows n_message = row (70 to 70 ∷ []) (26 to 27 ∷ []) none 2
rows n_more_messages = row (27 to 27 ∷ []) (26 to 26 ∷ []) (some []) 2
rows n_activity = row (23 to 23 ∷ 61 to 61 ∷ []) after_units none 2
rows n_process = row (21 to 21 ∷ []) after_units none 2
rows n_model = row units [] none 4
rows n_more_units = row after_units [] (some []) 4

abbrev takes : Ter → ℕ → Bool
takes (sy j) i = eqb (min j 73) i
takes any_name i = eqb 70 i
takes any_number i = eqb 71 i
takes any_text i = eqb 72 i

abbrev pub U : Guide Token Ter NT Item
U =
    record {
      kind = λ c. min (kind_of c) 73;
      takes = takes;
      starts = λ n. within (rows n).begins;
      fol = λ n. within (rows n).follows;
      nul = λ n. (rows n).empty;
      cost = λ n. (rows n).cost;
    }

-- THE ANSWER for a list of tokens: the code of its tree, or the place of the first token that can continue no text of the grammar
abbrev pub parse_model : List Token → Answer Item
parse_model ts = parse G U (nt n_model ∷ []) ts
