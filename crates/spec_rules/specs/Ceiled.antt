-- Worked examples on both sides of the ceilings that are judged last (crate `spec_rules`), computed: document 01, "Ceilings" and row 6 of "What is answered", "any other ceiling passed, or no process
-- starts". True where a model keeps within them. They count and do not look at names, so that one name does for all.
use Rattle.std.specs.Prelude.{ℕ, zero, suc, ◌≡◌, refl, true, false, [], ◌∷◌, replicate}
use Rattle.std.proofs.Math.Option.{none, some}
use Rattle.base_kinds.specs.Kinds.{bytes}
use Rattle.spec_grammar.specs.Tree.{Name, num, action, sequence, Tree, leaf, print, skip, else, select, loop, bare, labelled, end, then, over, option}
use Rattle.spec_grammar.specs.Tree.{unset, set_number, set_channel, Declaration, declare, group, body, Activity, idle, once, times, Part, mtypes, global, process, init, Model}
use Rattle.spec_grammar.specs.Tree as tree
use Rattle.spec_rules.specs.Ceilings.{modest}

abbrev x : Name
x = bytes "x"

abbrev chan : ℕ
chan = 43

abbrev int : ℕ
int = 45

abbrev one : Tree action → Tree sequence
one s = then (bare s) end

-- n statements before others
abbrev skips : ℕ → Tree sequence → Tree sequence
skips zero q = q
skips (suc n) q = then (bare (leaf skip)) (skips n q)

-- `init{STATEMENTS}`, `init{skip}`, and `ACTIVITY proctype x(){skip}`
abbrev only : Tree sequence → Model
only q = init (body [] q) ∷ []

abbrev rest : Part
rest = init (body [] (one (leaf skip)))

abbrev proctype : Activity → Part
proctype k = process k x [] (body [] (one (leaf skip)))

-- n scalars, an array of n, a channel
abbrev scalars : ℕ → Declaration
scalars n = declare int (replicate n (tree.variable x none unset))

abbrev array : ℕ → Declaration
array n = declare int (tree.variable x (some n) unset ∷ [])

abbrev channels : ℕ → Declaration
channels n = declare chan (replicate n (tree.variable x none (set_channel 1 (int ∷ []))))

-- ## "Statements 512": every statement of the text, over all its bodies, `if`, `do` and `else` included; options and labels are none
statements_512 : (modest (only (skips 512 end)) ≡ true) × (modest (only (skips 513 end)) ≡ false)
unfolding modest
statements_512 = (refl, refl)

statements_of_two_bodies : (modest (process idle x [] (body [] (skips 256 end)) ∷ only (skips 256 end)) ≡ true)
    × (modest (process idle x [] (body [] (skips 256 end)) ∷ only (skips 257 end)) ≡ false)
unfolding modest
statements_of_two_bodies = (refl, refl)

-- `if::skip::else fi` has three statements, `do::x:skip od` two
selection_counts : (modest (only (skips 509 (one (select (option (one (leaf skip)) (option (one (leaf else)) over)))))) ≡ true)
    × (modest (only (skips 510 (one (select (option (one (leaf skip)) (option (one (leaf else)) over)))))) ≡ false)
unfolding modest
selection_counts = (refl, refl)

label_does_not_count : (modest (only (skips 510 (one (loop (option (then (labelled x (leaf skip)) end) over))))) ≡ true)
    × (modest (only (skips 511 (one (loop (option (then (labelled x (leaf skip)) end) over))))) ≡ false)
unfolding modest
label_does_not_count = (refl, refl)

-- ## "mtype names 64; proctypes 16": `init` is no proctype
mtype_names_64 : (modest (mtypes (replicate 64 x) ∷ rest ∷ []) ≡ true) × (modest (mtypes (replicate 65 x) ∷ rest ∷ []) ≡ false)
unfolding modest
mtype_names_64 = (refl, refl)

proctypes_16 : (modest (rest ∷ replicate 16 (proctype idle)) ≡ true) × (modest (rest ∷ replicate 17 (proctype idle)) ≡ false)
unfolding modest
proctypes_16 = (refl, refl)

-- ## "global numbers 64; numbers per process 32": one for a scalar, for an array its size, a chan is one whatever its channel holds; parameters are of the process, started or not
global_numbers_64 : (modest (global (scalars 64) ∷ rest ∷ []) ≡ true) × (modest (global (array 32) ∷ global (scalars 32) ∷ rest ∷ []) ≡ true)
    × (modest (global (scalars 65) ∷ rest ∷ []) ≡ false) × (modest (global (array 32) ∷ global (scalars 33) ∷ rest ∷ []) ≡ false)
unfolding modest
global_numbers_64 = (refl, refl, refl, refl)

process_numbers_32 : (modest (init (body (scalars 32 ∷ []) (one (leaf skip))) ∷ []) ≡ true) × (modest (init (body (array 31 ∷ scalars 1 ∷ []) (one (leaf skip))) ∷ []) ≡ true)
    × (modest (init (body (scalars 33 ∷ []) (one (leaf skip))) ∷ []) ≡ false) × (modest (init (body (array 32 ∷ scalars 1 ∷ []) (one (leaf skip))) ∷ []) ≡ false)
unfolding modest
process_numbers_32 = (refl, refl, refl, refl)

parameters_count : (modest (rest ∷ process idle x (group int (replicate 2 x) ∷ group chan (x ∷ []) ∷ []) (body (scalars 29 ∷ []) (one (leaf skip))) ∷ []) ≡ true)
    × (modest (rest ∷ process idle x (group int (replicate 2 x) ∷ group chan (x ∷ []) ∷ []) (body (scalars 30 ∷ []) (one (leaf skip))) ∷ []) ≡ false)
unfolding modest
parameters_count = (refl, refl)

-- each body for itself, and none of the global ones
numbers_per_process : modest (global (scalars 64) ∷ init (body (scalars 32 ∷ []) (one (leaf skip))) ∷ process once x [] (body (scalars 32 ∷ []) (one (leaf skip))) ∷ []) ≡ true
unfolding modest
numbers_per_process = refl

-- ## "printf arguments 4", wherever it stands
printf_arguments_4 : (modest (only (one (leaf (print [] (replicate 4 (num 1)))))) ≡ true) × (modest (only (one (leaf (print [] (replicate 5 (num 1)))))) ≡ false)
unfolding modest
printf_arguments_4 = (refl, refl)

printf_in_a_selection : (modest (only (one (loop (option (skips 1 (one (leaf (print [] (replicate 4 (num 1)))))) over)))) ≡ true)
    × (modest (only (one (loop (option (skips 1 (one (leaf (print [] (replicate 5 (num 1)))))) over)))) ≡ false)
    × (modest (rest ∷ process idle x [] (body [] (one (leaf (print [] (replicate 5 (num 1)))))) ∷ []) ≡ false)
unfolding modest
printf_in_a_selection = (refl, refl, refl)

-- ## "processes 16", "or no process starts", "`active [0]` starts none"
processes_16 : (modest (proctype (times 16) ∷ []) ≡ true) × (modest (proctype (times 14) ∷ proctype once ∷ rest ∷ []) ≡ true) × (modest (proctype (times 17) ∷ []) ≡ false)
    × (modest (proctype (times 15) ∷ proctype once ∷ rest ∷ []) ≡ false) × (modest (proctype (times 2147483647) ∷ []) ≡ false)
unfolding modest
processes_16 = (refl, refl, refl, refl, refl)

no_process_starts : (modest (proctype once ∷ []) ≡ true) × (modest (proctype idle ∷ rest ∷ []) ≡ true) × (modest (proctype (times 1) ∷ []) ≡ true)
    × (modest (proctype idle ∷ []) ≡ false) × (modest (proctype (times 0) ∷ []) ≡ false) × (modest (global (scalars 1) ∷ []) ≡ false) × (modest [] ≡ false)
unfolding modest
no_process_starts = (refl, refl, refl, refl, refl, refl, refl)

-- ## "channels made 16": the global ones, and those of each process that starts
channels_16 : (modest (global (channels 16) ∷ rest ∷ []) ≡ true) × (modest (global (channels 17) ∷ rest ∷ []) ≡ false)
unfolding modest
channels_16 = (refl, refl)

channels_of_processes : (modest (global (channels 4) ∷ process (times 4) x [] (body (channels 3 ∷ []) (one (leaf skip))) ∷ []) ≡ true)
    × (modest (global (channels 5) ∷ process (times 4) x [] (body (channels 3 ∷ []) (one (leaf skip))) ∷ []) ≡ false)
    × (modest (global (channels 16) ∷ init (body (channels 1 ∷ []) (one (leaf skip))) ∷ []) ≡ false)
unfolding modest
channels_of_processes = (refl, refl, refl)

channels_of_none : (modest (process idle x [] (body (channels 17 ∷ []) (one (leaf skip))) ∷ rest ∷ []) ≡ true)
    × (modest (process (times 0) x [] (body (channels 17 ∷ []) (one (leaf skip))) ∷ rest ∷ []) ≡ true)
unfolding modest
channels_of_none = (refl, refl)

-- a chan that is an array, or has a number for its value, makes no channel
chan_without_a_channel : modest (global (channels 16) ∷ global (declare chan (tree.variable x (some 2) unset ∷ tree.variable x none (set_number 1) ∷ [])) ∷ rest ∷ []) ≡ true
unfolding modest
chan_without_a_channel = refl
