-- Mechanism, held to the specification by `demand2` (crate `demands`), but for `rows`, to which proofs/Sets.antt holds the tests.
-- The sets that items are in: one row for each item (the operators and the types share theirs), and a test for each set. proofs/Sets.antt holds the tests to the rows.
use Rattle.std.specs.Prelude.{ℕ, Bool, false, List, [], ◌∷◌, eqb, leb}
use Rattle.base_bytes.specs.Choice.{pick, both, either}
use Rattle.base_codes.specs.Codes.{c_active, c_active_many, c_argument, c_assert, c_assign, c_bit, c_body, c_break, c_channel, c_choice, c_complement, c_constant, c_declared, c_decrement, c_do, c_else, c_end, c_end_body, c_end_option, c_equal, c_express, c_false, c_fi, c_field, c_global, c_goto, c_group, c_if, c_increment, c_index, c_init, c_int, c_into, c_label, c_len, c_local, c_message, c_minus, c_mtypes, c_name, c_named, c_negate, c_number, c_od, c_option, c_or_else, c_otherwise, c_parameter, c_plain, c_proctype, c_receive, c_remainder, c_run, c_send, c_set_run, c_size, c_skip, c_target, c_text, c_timeout, c_true, c_value}

-- part: of an expression; alone: a statement that begins with its own mark; lead: the mark of one that begins with a phrase; opener: begins a list of arguments;
-- statement: each statement has one such item; naming: a name is declared; unit: begins a unit with a body;
-- what opens and what closes, by number: 0 selections, 1 loops, 2 options, 3 bodies, 4 arguments. What never stands inside its like, 3 and 4, needs no opening
pub data Set : Type 0 where
  part alone lead opener statement naming unit : Set
  opens closes : ℕ → Set

-- the items of codes `first` to `last`: the rule that they are judged by (crate `rule_item`), the class of their links (crate `link_items`), 0 for none, and their sets
pub record Row : Type 0 where
  pub first : ℕ
  pub last : ℕ
  pub rule : ℕ
  pub link : ℕ
  pub sets : List Set

abbrev pub row : ℕ → ℕ → ℕ → ℕ → List Set → Row
row a b r l s = record { first = a; last = b; rule = r; link = l; sets = s }

abbrev pub rows : List Row
rows =
    row c_name c_name 0 5 (part ∷ []) ∷
    row c_number c_number 0 5 (part ∷ []) ∷
    row c_text c_text 1 6 (alone ∷ opener ∷ statement ∷ []) ∷
    row c_or_else c_remainder 0 4 (part ∷ []) ∷
    row c_negate c_complement 0 0 (part ∷ []) ∷
    row c_bit c_int 0 0 [] ∷
    row c_plain c_plain 15 1 (part ∷ []) ∷
    row c_index c_index 15 1 (part ∷ []) ∷
    row c_true c_true 0 5 (part ∷ []) ∷
    row c_false c_false 0 5 (part ∷ []) ∷
    row c_len c_len 0 0 (part ∷ []) ∷
    row c_otherwise c_otherwise 0 4 (part ∷ []) ∷
    row c_choice c_choice 0 4 (part ∷ []) ∷
    row c_argument c_argument 2 0 [] ∷
    row c_into c_into 2 0 [] ∷
    row c_equal c_equal 17 0 [] ∷
    row c_constant c_constant 0 0 [] ∷
    row c_end c_end 16 7 (closes 4 ∷ []) ∷
    row c_label c_label 7 0 [] ∷
    row c_express c_express 2 7 (lead ∷ statement ∷ []) ∷
    row c_target c_target 2 5 (lead ∷ []) ∷
    row c_assign c_assign 2 7 (statement ∷ []) ∷
    row c_increment c_increment 2 7 (lead ∷ statement ∷ []) ∷
    row c_decrement c_decrement 2 7 (lead ∷ statement ∷ []) ∷
    row c_send c_send 2 6 (lead ∷ opener ∷ statement ∷ []) ∷
    row c_receive c_receive 2 6 (lead ∷ opener ∷ statement ∷ []) ∷
    row c_assert c_assert 17 7 (lead ∷ statement ∷ []) ∷
    row c_skip c_skip 0 7 (alone ∷ statement ∷ []) ∷
    row c_goto c_goto 9 8 (lead ∷ statement ∷ []) ∷
    row c_break c_break 3 9 (alone ∷ statement ∷ []) ∷
    row c_timeout c_timeout 0 7 (alone ∷ statement ∷ []) ∷
    row c_else c_else 4 7 (alone ∷ statement ∷ []) ∷
    row c_run c_run 10 3 (lead ∷ opener ∷ statement ∷ []) ∷
    row c_set_run c_set_run 10 3 (opener ∷ statement ∷ []) ∷
    row c_if c_if 0 10 (alone ∷ statement ∷ opens 0 ∷ []) ∷
    row c_fi c_fi 0 7 (closes 0 ∷ []) ∷
    row c_do c_do 0 10 (alone ∷ statement ∷ opens 0 ∷ opens 1 ∷ []) ∷
    row c_od c_od 0 7 (closes 0 ∷ closes 1 ∷ []) ∷
    row c_option c_option 0 11 (opens 2 ∷ []) ∷
    row c_end_option c_end_option 0 0 (closes 2 ∷ []) ∷
    row c_local c_local 0 0 [] ∷
    row c_global c_global 0 0 [] ∷
    row c_declared c_declared 8 14 (naming ∷ []) ∷
    row c_size c_size 11 0 [] ∷
    row c_value c_value 0 0 [] ∷
    row c_minus c_minus 0 0 [] ∷
    row c_named c_named 12 2 [] ∷
    row c_channel c_channel 13 0 [] ∷
    row c_field c_field 14 0 [] ∷
    row c_mtypes c_mtypes 5 0 [] ∷
    row c_message c_message 8 15 (naming ∷ []) ∷
    row c_group c_group 0 0 [] ∷
    row c_parameter c_parameter 8 14 (naming ∷ []) ∷
    row c_proctype c_proctype 8 12 (naming ∷ unit ∷ []) ∷
    row c_active c_active 8 12 (naming ∷ unit ∷ []) ∷
    row c_active_many c_active_many 8 12 (naming ∷ unit ∷ []) ∷
    row c_init c_init 6 12 (unit ∷ []) ∷
    row c_body c_body 0 13 [] ∷
    row c_end_body c_end_body 0 0 (closes 3 ∷ []) ∷
    []

abbrev pub within : ℕ → ℕ → ℕ → Bool
within lo hi c = both (leb lo c) (leb c hi)

-- ## the tests
unfoldable pub is_part : ℕ → Bool
is_part c = either (within c_name c_number c) (either (within c_or_else c_complement c) (within c_plain c_choice c))

-- printf (its string), skip, break, timeout, else, if, do
unfoldable pub is_alone : ℕ → Bool
is_alone c = either (either (eqb c c_text) (eqb c c_skip)) (either (within c_break c_else c) (either (eqb c c_if) (eqb c c_do)))

-- express, target, increment, decrement, send, receive, assert, goto, run
unfoldable pub is_lead : ℕ → Bool
is_lead c = either (within c_express c_target c) (either (within c_increment c_assert c) (either (eqb c c_goto) (eqb c c_run)))

-- printf, send, receive, run, set-run
abbrev pub is_opener : ℕ → Bool
is_opener c = either (eqb c c_text) (either (within c_send c_receive c) (within c_run c_set_run c))

-- printf, express, assign to set-run (with send, receive, assert, skip, goto, break, timeout, else, run), if, do
abbrev pub is_statement : ℕ → Bool
is_statement c = either (either (eqb c c_text) (eqb c c_express)) (either (within c_assign c_if c) (eqb c c_do))

-- declared (a variable), message (an mtype name), parameter, proctype, active, active-many
abbrev pub is_naming : ℕ → Bool
is_naming c = either (eqb c c_declared) (either (eqb c c_message) (within c_parameter c_active_many c))

-- proctype, active, active-many, init
abbrev pub is_unit : ℕ → Bool
is_unit c = within c_proctype c_init c

unfoldable pub is_opening : ℕ → ℕ → Bool
is_opening pair c =
    pick (eqb pair 0) (either (eqb c c_if) (eqb c c_do))
    (pick (eqb pair 1) (eqb c c_do)
    (pick (eqb pair 2) (eqb c c_option) false))

unfoldable pub is_closing : ℕ → ℕ → Bool
is_closing pair c =
    pick (eqb pair 0) (either (eqb c c_fi) (eqb c c_od))
    (pick (eqb pair 1) (eqb c c_od)
    (pick (eqb pair 2) (eqb c c_end_option)
    (pick (eqb pair 3) (eqb c c_end_body)
    (pick (eqb pair 4) (eqb c c_end) false))))

-- ## the rule of an item
unfoldable pub rule_of : ℕ → ℕ
rule_of c =
    -- 1 a string's format
    pick (eqb c c_text) 1
    -- 2 height: argument, into, express, target, assign, increment, decrement, send, receive
    (pick (either (within c_argument c_into c) (within c_express c_receive c)) 2
    -- 3 break, 4 else, 5 mtypes, 6 init
    (pick (eqb c c_break) 3
    (pick (eqb c c_else) 4
    (pick (eqb c c_mtypes) 5
    (pick (eqb c c_init) 6
    -- 7 label
    (pick (eqb c c_label) 7
    -- 8 declared, message, parameter, proctype, active, active-many
    (pick (is_naming c) 8
    -- 9 goto, 10 run and set-run, 11 size, 12 named, 13 channel, 14 field
    (pick (eqb c c_goto) 9
    (pick (within c_run c_set_run c) 10
    (pick (eqb c c_size) 11
    (pick (eqb c c_named) 12
    (pick (eqb c c_channel) 13
    (pick (eqb c c_field) 14
    -- 15 plain, index
    (pick (within c_plain c_index c) 15
    -- 16 end
    (pick (eqb c c_end) 16
    -- 17 height, behind a keyword and its parenthesis: equal, assert
    (pick (either (eqb c c_equal) (eqb c c_assert)) 17 0))))))))))))))))

-- ## the class of an item's link
unfoldable pub class_of : ℕ → ℕ
class_of c =
    -- 1 plain, index: the declaration that its name means, `_pid`: its own name
    pick (within c_plain c_index c) 1
    -- 2 named: the mtype name that is meant
    (pick (eqb c c_named) 2
    -- 3 run, set-run: the item that begins the proctype
    (pick (within c_run c_set_run c) 3
    -- 4 binary, otherwise, choice: where the phrase before it starts
    (pick (either (within c_or_else c_remainder c) (within c_otherwise c_choice c)) 4
    -- 5 name, number, true, false, target: the mark of the phrase that it is in, or that follows
    (pick (either (within c_name c_number c) (either (within c_true c_false c) (eqb c c_target))) 5
    -- 6 printf's string, send, receive: the end of its arguments
    (pick (either (eqb c c_text) (within c_send c_receive c)) 6
    -- 7 the last item of a statement (end, express, assign, increment, decrement, assert, skip, timeout, else, fi, od): the place that follows
    (pick (either (either (eqb c c_end) (eqb c c_express)) (either (either (within c_assign c_decrement c) (within c_assert c_skip c)) (either (within c_timeout c_else c) (either (eqb c c_fi) (eqb c c_od))))) 7
    -- 8 goto: the place of the statement that has the label
    (pick (eqb c c_goto) 8
    -- 9 break: the place behind its loop
    (pick (eqb c c_break) 9
    -- 10 if, do: what closes it
    (pick (either (eqb c c_if) (eqb c c_do)) 10
    -- 11 option: its end
    (pick (eqb c c_option) 11
    -- 12 proctype, active, active-many, init: the end of its body
    (pick (is_unit c) 12
    -- 13 body: its first place
    (pick (eqb c c_body) 13
    -- 14 declared, parameter: the variable, in one number
    (pick (either (eqb c c_declared) (eqb c c_parameter)) 14
    -- 15 message: its number: "mtype names count from 1 in list order"
    (pick (eqb c c_message) 15 0))))))))))))))
