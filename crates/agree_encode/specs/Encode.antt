-- Bridge, for `demand2` (crate `demands`), which cites `encode` as what the numbers of a state mean: the layout of docs/TABLES.md.
-- A PLAIN STATE AS NUMBERS: the layout of docs/TABLES.md, "State", as a function. Units and channels are told by numbers of the tree (specs/Sizes.antt of `spec_machine`).
use Rattle.std.specs.Prelude.{ℕ, zero, suc, ◌+◌, ◌-◌, List, [], ◌∷◌, ◌++◌, length, replicate, ℤ, pos, ltb}
use Rattle.base_ceilings.specs.Ceilings.{capacity_most, channels_most, fields_most, globals_most, processes_most, state_room}
use Rattle.base_bytes.specs.Choice.{pick}
use Rattle.state_layout.specs.Layout.{kept, process_size, channel_size, channel_at}
use Rattle.spec_grammar.specs.Tree.{Variable, variable, Declaration, declare, Group, group, Body, body, Part, mtypes, global, process, init, Model}
use Rattle.spec_machine.specs.Sizes.{size_size, size_variable, size_declaration, size_activity}
use Rattle.spec_machine.specs.State.{Channel, Process, State}
use Rattle.spec_machine.specs.Names.{unit_at}
use Rattle.spec_machine.specs.Begins.{items_before, body_in}

-- exactly n numbers, zeros behind
unfoldable pub pad : ℕ → List ℤ → List ℤ
pad zero l = []
pad (suc n) [] = pos 0 ∷ pad n []
pad (suc n) (x ∷ l) = x ∷ pad n l

-- exactly n rows of z numbers
unfoldable pub rows : {A : Type 0} → (A → List ℤ) → ℕ → ℕ → List A → List ℤ
rows f z zero l = []
rows f z (suc n) [] = pad z [] ++ rows f z n []
rows f z (suc n) (x ∷ l) = pad z (f x) ++ rows f z n l

abbrev pub flat : List (List ℤ) → List ℤ
flat [] = []
flat (x ∷ l) = x ++ flat l

-- ## the number by which a unit is known: the last of its head
abbrev pub head_in : Part → ℕ → ℕ
head_in (mtypes ws) i = i
head_in (global d) i = i
head_in (process a w gs b) i = i + size_activity a - 1
head_in (init b) i = i

abbrev pub head_of : Model → ℕ → ℕ
head_of m k = head_in (unit_at m k) (items_before m k)

-- ## the number by which the channels of variable n are known, behind those of its name, its size and its capacity; the variables' numbers begin with i
abbrev pub channel_in : Variable → ℕ → ℕ
channel_in (variable w z v) i = i + 2 + size_size z + 1

unfoldable pub variable_at : List Variable → ℕ → ℕ → ℕ
variable_at [] n i = i
variable_at (x ∷ xs) zero i = channel_in x i
variable_at (x ∷ xs) (suc n) i = variable_at xs n (i + size_variable x)

abbrev pub variables_in : Declaration → List Variable
variables_in (declare k xs) = xs

unfoldable pub declared_at : List Declaration → ℕ → ℕ → ℕ
declared_at [] n i = i
declared_at (d ∷ ds) n i = pick (ltb n (length (variables_in d))) (variable_at (variables_in d) n (i + 2)) (declared_at ds (n - length (variables_in d)) (i + size_declaration d))

abbrev pub count_group : Group → ℕ
count_group (group k ws) = length ws

abbrev pub count_groups : List Group → ℕ
count_groups [] = 0
count_groups (g ∷ gs) = count_group g + count_groups gs

abbrev pub body_at : Body → ℕ → ℕ → ℕ
body_at (body ds q) n i = declared_at ds n (i + 1)

abbrev pub channel_item_in : Part → ℕ → ℕ → ℕ
channel_item_in (mtypes ws) n i = i
channel_item_in (global d) n i = variable_at (variables_in d) n (i + 2)
channel_item_in (process a w gs b) n i = body_at b (n - count_groups gs) (body_in (process a w gs b) i)
channel_item_in (init b) n i = body_at b n (body_in (init b) i)

abbrev pub channel_item : Model → Channel → ℕ
channel_item m c = channel_item_in (unit_at m c.unit) c.variable (items_before m c.unit)

-- ## the whole
abbrev pub process_row : Model → Process → List ℤ
process_row m x = kept (head_of m x.unit) ∷ kept x.place ∷ flat x.variables

abbrev pub message_row : List ℤ → List ℤ
message_row l = l

abbrev pub channel_row : Model → Channel → List ℤ
channel_row m c = kept (channel_item m c) ∷ kept (length c.held) ∷ rows message_row fields_most capacity_most c.held

unfoldable pub encode : Model → State → List ℤ
encode m σ =
    kept (length σ.processes) ∷ kept (length σ.channels) ∷ pad globals_most (flat σ.globals)
    ++ (rows (process_row m) process_size processes_most σ.processes ++ (rows (channel_row m) channel_size channels_most σ.channels ++ replicate (state_room - channel_at channels_most) (pos 0)))
