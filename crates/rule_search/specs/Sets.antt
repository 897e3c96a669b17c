-- Mechanism, held to the specification by `rules` (crate `legal_texts`).
-- The sets of items that the rules and ceilings look for, by number. Items are numbered as the grammar's machine writes them; the comment names each.
use Rattle.std.specs.Prelude.{ℕ, Bool, false, eqb}
use Rattle.base_codes.specs.Codes.{c_active_many, c_argument, c_channel, c_constant, c_declared, c_do, c_global, c_group, c_init, c_label, c_local, c_message, c_mtypes, c_od, c_parameter, c_proctype}
use Rattle.base_codes.specs.Sets.{within, is_statement, is_opener, is_naming, is_unit}
use Rattle.base_bytes.specs.Choice.{pick, either}

unfoldable pub among : ℕ → ℕ → Bool
among set c =
    -- 1 a name is declared: declared (a variable), message (an mtype name), parameter, proctype, active, active-many
    pick (eqb set 1) (is_naming c)
    -- 2 label
    (pick (eqb set 2) (eqb c c_label)
    -- 3 what follows a type before the names of that type: local, global, group
    (pick (eqb set 3) (either (within c_local c_global c) (eqb c c_group))
    -- 4 what begins a list of arguments
    (pick (eqb set 4) (is_opener c)
    -- 5 argument, into, equal, constant
    (pick (eqb set 5) (within c_argument c_constant c)
    -- 6 parameter
    (pick (eqb set 6) (eqb c c_parameter)
    -- 7 do
    (pick (eqb set 7) (eqb c c_do)
    -- 8 od
    (pick (eqb set 8) (eqb c c_od)
    -- 9 mtypes
    (pick (eqb set 9) (eqb c c_mtypes)
    -- 10 init
    (pick (eqb set 10) (eqb c c_init)
    -- 11 a statement
    (pick (eqb set 11) (is_statement c)
    -- 12 message
    (pick (eqb set 12) (eqb c c_message)
    -- 13 proctype, active, active-many
    (pick (eqb set 13) (within c_proctype c_active_many c)
    -- 14 a variable: declared, parameter
    (pick (eqb set 14) (either (eqb c c_declared) (eqb c c_parameter))
    -- 15 a unit with a body: proctype, active, active-many, init
    (pick (eqb set 15) (is_unit c)
    -- 16 channel
    (pick (eqb set 16) (eqb c c_channel) false)))))))))))))))
