-- Which models keep within the ceilings that are judged last: document 01, "Ceilings": "Statements 512; mtype names 64; proctypes 16; global numbers 64; numbers per process 32 .. printf
-- arguments 4; processes 16; channels made 16", and row 6, "any other ceiling passed, or no process starts".
use Rattle.std.specs.Prelude.{ℕ, ◌+◌, ◌*◌, Bool, true, length, leb}
use Rattle.std.proofs.Math.Option.{Option, none, some}
use Rattle.base_ceilings.specs.Ceilings.{channels_most, globals_most, mtypes_most, numbers_most, printed_most, processes_most, proctypes_most, statements_most}
use Rattle.base_bytes.specs.Choice.{both}
use Rattle.spec_grammar.specs.Tree.{Value, unset, set_number, set_minus, set_true, set_false, set_name, set_channel, Declaration, declare, Group, group, Body, body, Activity, idle, once, times, Part, mtypes, global, process, init, Model, Leaf}
use Rattle.spec_grammar.specs.Tree as tree
use Rattle.spec_grammar.specs.Tree.{Sort, Tree, leaf, express, assign, increment, decrement, send, receive, assert, print, skip, goto, break, timeout, else, run, set_run, select, loop, bare, labelled, end, then, over, option}
use Rattle.spec_rules.specs.Statements.{all}
use Rattle.spec_rules.specs.Units.{tally}

-- every statement, `if`, `do` and `else` included; options, labels and declarations are none
abbrev pub statements_in : {k : Sort} → Tree k → ℕ
statements_in (leaf l) = 1
statements_in (select os) = 1 + statements_in os
statements_in (loop os) = 1 + statements_in os
statements_in (bare a) = statements_in a
statements_in (labelled w a) = statements_in a
statements_in end = 0
statements_in (then s q) = statements_in s + statements_in q
statements_in over = 0
statements_in (option q os) = statements_in q + statements_in os

-- "printf arguments 4"
abbrev pub leaf_narrow : Leaf → Bool
leaf_narrow (express e) = true
leaf_narrow (assign r e) = true
leaf_narrow (increment r) = true
leaf_narrow (decrement r) = true
leaf_narrow (send o r es) = true
leaf_narrow (receive o r xs) = true
leaf_narrow (assert e) = true
leaf_narrow (print w es) = leb (length es) printed_most
leaf_narrow skip = true
leaf_narrow (goto w) = true
leaf_narrow break = true
leaf_narrow timeout = true
leaf_narrow else = true
leaf_narrow (run w es) = true
leaf_narrow (set_run r w es) = true

abbrev pub narrow : {k : Sort} → Tree k → Bool
narrow (leaf l) = leaf_narrow l
narrow (select os) = narrow os
narrow (loop os) = narrow os
narrow (bare a) = narrow a
narrow (labelled w a) = narrow a
narrow end = true
narrow (then s q) = both (narrow s) (narrow q)
narrow over = true
narrow (option q os) = both (narrow q) (narrow os)

-- ## numbers: one for a scalar or chan, for an array its size
abbrev pub size_of : Option ℕ → ℕ
size_of none = 1
size_of (some n) = n

abbrev pub size_of_variable : tree.Variable → ℕ
size_of_variable (tree.variable w s v) = size_of s

abbrev pub size_of_declaration : Declaration → ℕ
size_of_declaration (declare k xs) = tally size_of_variable xs

abbrev pub size_of_group : Group → ℕ
size_of_group (group k ws) = length ws

-- ## channels that a declaration makes
abbrev pub channels_by : Value → ℕ
channels_by unset = 0
channels_by (set_number n) = 0
channels_by (set_minus n) = 0
channels_by set_true = 0
channels_by set_false = 0
channels_by (set_name w) = 0
channels_by (set_channel n ks) = 1

abbrev pub made_by_variable : tree.Variable → ℕ
made_by_variable (tree.variable w s v) = channels_by v

abbrev pub made_by_declaration : Declaration → ℕ
made_by_declaration (declare k xs) = tally made_by_variable xs

abbrev pub made_by_body : Body → ℕ
made_by_body (body ds q) = tally made_by_declaration ds

-- ## units
abbrev pub statement_count : Part → ℕ
statement_count (mtypes ws) = 0
statement_count (global d) = 0
statement_count (process a w gs (body ds q)) = statements_in q
statement_count (init (body ds q)) = statements_in q

abbrev pub message_count : Part → ℕ
message_count (mtypes ws) = length ws
message_count (global d) = 0
message_count (process a w gs b) = 0
message_count (init b) = 0

-- `init` is none
abbrev pub proctype_count : Part → ℕ
proctype_count (mtypes ws) = 0
proctype_count (global d) = 0
proctype_count (process a w gs b) = 1
proctype_count (init b) = 0

abbrev pub global_count : Part → ℕ
global_count (mtypes ws) = 0
global_count (global d) = size_of_declaration d
global_count (process a w gs b) = 0
global_count (init b) = 0

-- "numbers per process 32", started or not; and its printfs
abbrev pub light : Part → Bool
light (mtypes ws) = true
light (global d) = true
light (process a w gs (body ds q)) = both (leb (tally size_of_group gs + tally size_of_declaration ds) numbers_most) (narrow q)
light (init (body ds q)) = both (leb (tally size_of_declaration ds) numbers_most) (narrow q)

-- "`active [0]` starts none"
abbrev pub started_by : Activity → ℕ
started_by idle = 0
started_by once = 1
started_by (times n) = n

abbrev pub start_count : Part → ℕ
start_count (mtypes ws) = 0
start_count (global d) = 0
start_count (process a w gs b) = started_by a
start_count (init b) = 1

-- the channels of the initial state: global ones, and of each process that starts its own
abbrev pub channel_count : Part → ℕ
channel_count (mtypes ws) = 0
channel_count (global d) = made_by_declaration d
channel_count (process a w gs b) = started_by a * made_by_body b
channel_count (init b) = made_by_body b

unfoldable pub modest : Model → Bool
modest m =
    both (both (both (leb (tally statement_count m) statements_most) (leb (tally message_count m) mtypes_most)) (both (leb (tally proctype_count m) proctypes_most) (leb (tally global_count m) globals_most)))
    (both (all light m) (both (both (leb 1 (tally start_count m)) (leb (tally start_count m) processes_most)) (leb (tally channel_count m) channels_most)))
