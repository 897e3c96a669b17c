-- Mechanism, held to the specification by `text-normal` (crate `normal_proof`), but for `cells`, the rows in one list, which proofs/Laid.antt holds to them.
-- How a model's items, met from the last to the first, become the tokens of its normal text from the last to the first. A stack says what is still to come on the left:
--   1 to 69    a fixed token, by its kind                        256 + i  what item i holds: a name, a number or a string
--   100 + l    an expression where level l is asked for (112: a reference)
--   120 a name or a number   121 `target`, then a reference   122 a type   123 `otherwise`   124 the number of a channel's `[n] of`
--   130 131    the statements of a body or an option: none is behind, some is     132 133    arguments: none is behind, some is
--   134        the types of a channel, one is behind               135 136    a size or `declared`, `declared`
--   137        a declaration's names, one is behind                138        the options of a selection
--   139        what a body belongs to                              140 141    parameters, groups: one is behind
--   142        an mtype list, one name is behind                   143        units: always at the bottom
-- A row says what a symbol becomes at an item of a code. `c_end_closed` is an `end` whose arguments stand in parentheses. No row: the symbol goes, and nothing is written.
use Rattle.std.specs.Prelude.{List, [], ◌∷◌, ◌++◌, ℕ}
use Rattle.base_codes.specs.Codes.{c_active, c_active_many, c_argument, c_assert, c_assign, c_bit, c_body, c_bool, c_break, c_byte, c_chan, c_channel, c_choice, c_complement, c_constant, c_declared, c_decrement, c_do, c_else, c_end, c_end_body, c_end_closed, c_end_option, c_equal, c_express, c_false, c_fi, c_field, c_global, c_goto, c_group, c_if, c_increment, c_index, c_init, c_int, c_into, c_label, c_len, c_local, c_message, c_minus, c_mtype, c_mtypes, c_name, c_named, c_negate, c_not, c_number, c_od, c_option, c_otherwise, c_parameter, c_pid, c_plain, c_proctype, c_receive, c_run, c_send, c_set_run, c_short, c_size, c_skip, c_target, c_text, c_timeout, c_true, c_value}
use Rattle.text_pens.specs.Sheet.{flat}
use Rattle.text_pens.specs.Sheet.{padded}

-- a symbol, a code, and at most 8 symbols with zeros behind them; 99 stands for what the item holds
abbrev pub row : ℕ → ℕ → List ℕ → List ℕ
row s c xs = s ∷ c ∷ padded 8 xs

-- expressions; the binary operators have no row
abbrev pub expressions : List (List ℕ)
expressions =
    row 101 c_number (99 ∷ []) ∷ row 101 c_true (65 ∷ []) ∷ row 101 c_false (52 ∷ []) ∷ row 101 c_plain (120 ∷ []) ∷ row 101 c_index (24 ∷ 101 ∷ 23 ∷ 120 ∷ []) ∷
    row 101 c_len (22 ∷ 112 ∷ 21 ∷ 57 ∷ []) ∷ row 101 c_negate (111 ∷ 15 ∷ []) ∷ row 101 c_not (111 ∷ 19 ∷ []) ∷ row 101 c_complement (111 ∷ 20 ∷ []) ∷
    row 101 c_choice (22 ∷ 101 ∷ 123 ∷ 101 ∷ 31 ∷ 101 ∷ 21 ∷ []) ∷ row 120 c_name (99 ∷ []) ∷ row 120 c_number (99 ∷ []) ∷ row 121 c_target (112 ∷ []) ∷ row 123 c_otherwise (29 ∷ []) ∷
    []

-- what stands before a value, a size and a declared name, by the mark at its end
abbrev pub variables : ℕ → List ℕ → List ℕ → List (List ℕ)
variables s before after =
    row s c_value (before ++ 101 ∷ 32 ∷ 135 ∷ after) ∷ row s c_minus (before ++ 120 ∷ 15 ∷ 32 ∷ 135 ∷ after) ∷ row s c_named (before ++ 120 ∷ 32 ∷ 135 ∷ after) ∷
    row s c_channel (before ++ 26 ∷ 25 ∷ 59 ∷ 24 ∷ 124 ∷ after) ∷ row s c_field (before ++ 26 ∷ 122 ∷ 134 ∷ after) ∷ row s c_size (before ++ 24 ∷ 120 ∷ 23 ∷ 136 ∷ after) ∷
    row s c_declared (before ++ 120 ∷ after) ∷ []

abbrev pub declarations : List (List ℕ)
declarations =
    row 134 c_field (27 ∷ 122 ∷ 134 ∷ []) ∷ row 134 c_channel (25 ∷ 59 ∷ 24 ∷ 124 ∷ []) ∷ row 124 c_number (99 ∷ 23 ∷ 32 ∷ 135 ∷ []) ∷
    row 135 c_size (24 ∷ 120 ∷ 23 ∷ 136 ∷ []) ∷ row 135 c_declared (120 ∷ []) ∷ row 136 c_declared (120 ∷ []) ∷ row 137 c_local (122 ∷ []) ∷ row 137 c_global (122 ∷ []) ∷
    row 122 c_bit (38 ∷ []) ∷ row 122 c_bool (39 ∷ []) ∷ row 122 c_byte (40 ∷ []) ∷ row 122 c_mtype (41 ∷ []) ∷ row 122 c_pid (42 ∷ []) ∷ row 122 c_chan (43 ∷ []) ∷
    row 122 c_short (44 ∷ []) ∷ row 122 c_int (45 ∷ []) ∷
    []

-- statements, with what stands behind them: nothing, or `;`
abbrev pub statements : ℕ → List ℕ → List (List ℕ)
statements s behind =
    row s c_express (behind ++ 101 ∷ 131 ∷ []) ∷ row s c_assign (behind ++ 101 ∷ 32 ∷ 121 ∷ 131 ∷ []) ∷ row s c_increment (behind ++ 33 ∷ 112 ∷ 131 ∷ []) ∷ row s c_decrement (behind ++ 34 ∷ 112 ∷ 131 ∷ []) ∷
    row s c_end (behind ++ 132 ∷ 131 ∷ []) ∷ row s c_end_closed (behind ++ 22 ∷ 132 ∷ 131 ∷ []) ∷ row s c_assert (behind ++ 22 ∷ 101 ∷ 21 ∷ 47 ∷ 131 ∷ []) ∷ row s c_skip (behind ++ 63 ∷ 131 ∷ []) ∷
    row s c_goto (behind ++ 120 ∷ 54 ∷ 131 ∷ []) ∷ row s c_break (behind ++ 48 ∷ 131 ∷ []) ∷ row s c_timeout (behind ++ 64 ∷ 131 ∷ []) ∷ row s c_else (behind ++ 50 ∷ 131 ∷ []) ∷
    row s c_fi (behind ++ 53 ∷ 138 ∷ 131 ∷ []) ∷ row s c_od (behind ++ 58 ∷ 138 ∷ 131 ∷ []) ∷ row s c_label (29 ∷ 120 ∷ 131 ∷ []) ∷ row s c_option (30 ∷ []) ∷ row s c_body (25 ∷ []) ∷
    row s c_local (28 ∷ 122 ∷ 131 ∷ []) ∷ []

-- arguments, with what stands behind them: nothing, or a comma; and what they are arguments of
abbrev pub arguments : ℕ → List ℕ → List (List ℕ)
arguments s behind =
    row s c_argument (behind ++ 101 ∷ 133 ∷ []) ∷ row s c_into (behind ++ 112 ∷ 133 ∷ []) ∷ row s c_equal (behind ++ 22 ∷ 101 ∷ 21 ∷ 51 ∷ 133 ∷ []) ∷ row s c_constant (behind ++ 101 ∷ 133 ∷ []) ∷
    row s c_send (19 ∷ 112 ∷ []) ∷ row s c_receive (35 ∷ 112 ∷ []) ∷ row s c_text (behind ++ 99 ∷ 21 ∷ 60 ∷ []) ∷ row s c_run (21 ∷ 120 ∷ 62 ∷ []) ∷ row s c_set_run (21 ∷ 120 ∷ 62 ∷ 32 ∷ 121 ∷ []) ∷ []

-- what a body belongs to: a process with its parameters, or `init`; behind them stands `)` or nothing
abbrev pub heads : ℕ → List ℕ → List (List ℕ)
heads s behind =
    row s c_proctype (behind ++ 21 ∷ 120 ∷ 61 ∷ []) ∷ row s c_active (behind ++ 21 ∷ 120 ∷ 61 ∷ 46 ∷ []) ∷ row s c_active_many (behind ++ 21 ∷ 120 ∷ 61 ∷ 24 ∷ 120 ∷ 23 ∷ 46 ∷ []) ∷ []

abbrev pub units : List (List ℕ)
units =
    row 138 c_end_option (130 ∷ 138 ∷ []) ∷ row 138 c_if (55 ∷ []) ∷ row 138 c_do (49 ∷ []) ∷
    row 139 c_init (56 ∷ []) ∷ row 139 c_parameter (22 ∷ 120 ∷ 140 ∷ []) ∷ row 139 c_group (22 ∷ 122 ∷ 141 ∷ []) ∷
    row 140 c_parameter (27 ∷ 120 ∷ 140 ∷ []) ∷ row 140 c_group (122 ∷ 141 ∷ []) ∷ row 141 c_parameter (28 ∷ 120 ∷ 140 ∷ []) ∷ row 141 c_group (28 ∷ 122 ∷ 141 ∷ []) ∷
    row 142 c_message (27 ∷ 120 ∷ 142 ∷ []) ∷ row 142 c_mtypes (25 ∷ 32 ∷ 41 ∷ []) ∷
    row 143 c_end_body (26 ∷ 130 ∷ 139 ∷ 143 ∷ []) ∷ row 143 c_message (26 ∷ 120 ∷ 142 ∷ 143 ∷ []) ∷ row 143 c_mtypes (26 ∷ 25 ∷ 32 ∷ 41 ∷ 143 ∷ []) ∷ row 143 c_global (122 ∷ 143 ∷ []) ∷
    []

unfoldable pub rows : List (List ℕ)
rows =
    expressions ++ (declarations ++ (variables 130 (28 ∷ []) (137 ∷ 131 ∷ []) ++ (variables 131 (28 ∷ []) (137 ∷ 131 ∷ []) ++ (variables 137 (27 ∷ []) (137 ∷ []) ++
    (variables 143 [] (137 ∷ 143 ∷ []) ++ (statements 130 [] ++ (statements 131 (28 ∷ []) ++ (arguments 132 [] ++ (arguments 133 (27 ∷ []) ++
    (heads 139 (22 ∷ []) ++ (heads 141 [] ++ units)))))))))))

-- the rows one after the other
unfoldable pub cells : List ℕ
cells = flat rows
