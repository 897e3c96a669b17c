-- Bridge, for `demand2` (crate `demands`).
-- Processes that begin, and the initial state, said of trees: document 01, "How it moves", "Variables start at 0 or their value; every element of an array gets it. mtype names count
-- from 1 in list order. Channels count from 1 as made, globals first", "Processes start in text order (`init` included) at 0; a new one takes the next number", and of parameters "those
-- of an `active` process start at 0". `t` are the tables of the model, whose links say of each declaring item where the numbers of its variable are (docs/TABLES.md, "Links"); s is the
-- state before, p the number of a process, i the item at which a thing begins.
use Rattle.std.specs.Prelude.{ℕ, zero, suc, ◌+◌, min, List, [], ◌∷◌, length, get_or, set, ℤ, pos, ltb}
use Rattle.base_ceilings.specs.Ceilings.{processes_most}
use Rattle.base_bytes.specs.Choice.{pick}
use Rattle.spec_grammar.specs.Tree.{Name, Value, unset, set_number, set_minus, set_true, set_false, set_name, set_channel, Variable, variable, Declaration, declare, Group, group, Body, body, Activity, idle, once, times, Part, mtypes, global, process, init, Model}
use Rattle.table_layout.specs.Access.{link_of}
use Rattle.base_values.specs.Types.{cast_of}
use Rattle.base_values.specs.Operators.{unary_of}
use Rattle.state_layout.specs.Layout.{kept, cleared, process_at_lem, processes_of, channels_of}
use Rattle.step_eval.specs.Variables.{type_of, slot_of}
use Rattle.state_start.specs.Starting.{filled, stored, channel_made}
use Rattle.spec_machine.specs.Sizes.{sum, size_size, size_variable, size_declaration, size_group, size_part}
use Rattle.spec_machine.specs.Program.{enter, start_in, end_in}

-- n times
abbrev pub repeated : (List ℤ → List ℤ) → ℕ → List ℤ → List ℤ
repeated f zero s = s
repeated f (suc n) s = repeated f n (f s)

-- "Storing keeps low bits", and "every element of an array gets it"
abbrev pub everywhere : ℕ → ℕ → ℤ → List ℤ → List ℤ
everywhere l p v s = filled l p (cast_of (type_of l) v) s

abbrev pub names_of : Group → List Name
names_of (group k ws) = ws

-- how many processes of a proctype start; no more than fit
abbrev pub starts_in : Activity → ℕ
starts_in idle = 0
starts_in once = 1
starts_in (times n) = min processes_most n

-- the item that begins a proctype, with its name before it
abbrev pub head_in : Activity → ℕ → ℕ
head_in idle i = i + 1
head_in once i = i + 1
head_in (times n) i = i + 2

module _ (t : List ℕ) where
  -- ## variables
  -- the value whose items begin at item k; of a name, the number of the mtype name. A channel gives its own number, below
  abbrev pub value_in : Value → ℕ → ℤ
  value_in unset k = pos 0
  value_in (set_number n) k = kept n
  value_in (set_minus n) k = unary_of 15 (kept n)
  value_in set_true k = pos 1
  value_in set_false k = pos 0
  value_in (set_name w) k = kept (link_of t (link_of t (k + 1)))
  value_in (set_channel n ks) k = pos 0

  -- the variable l gets the value whose items begin at item k; a channel is made first, and its number is the value
  abbrev pub valued_in : ℕ → ℕ → Value → ℕ → List ℤ → List ℤ
  valued_in l p unset k s = everywhere l p (value_in unset k) s
  valued_in l p (set_number n) k s = everywhere l p (value_in (set_number n) k) s
  valued_in l p (set_minus n) k s = everywhere l p (value_in (set_minus n) k) s
  valued_in l p set_true k s = everywhere l p (value_in set_true k) s
  valued_in l p set_false k s = everywhere l p (value_in set_false k) s
  valued_in l p (set_name w) k s = everywhere l p (value_in (set_name w) k) s
  valued_in l p (set_channel n ks) k s = stored l p (kept (channels_of s + 1)) (channel_made (k + 1) s)

  -- a declared name, its `declared` and its size stand before its value
  abbrev pub variable_in : ℕ → Variable → ℕ → List ℤ → List ℤ
  variable_in p (variable w z v) i s = valued_in (link_of t (i + 1)) p v (i + 2 + size_size z) s

  abbrev pub variables_in : ℕ → List Variable → ℕ → List ℤ → List ℤ
  variables_in p [] i s = s
  variables_in p (x ∷ xs) i s = variables_in p xs (i + size_variable x) (variable_in p x i s)

  -- a type and its mark stand before the names
  abbrev pub declaration_in : ℕ → Declaration → ℕ → List ℤ → List ℤ
  declaration_in p (declare k xs) i s = variables_in p xs (i + 2) s

  abbrev pub locals_in : ℕ → List Declaration → ℕ → List ℤ → List ℤ
  locals_in p [] i s = s
  locals_in p (d ∷ ds) i s = locals_in p ds (i + size_declaration d) (declaration_in p d i s)

  -- ## processes
  -- process p of the unit that item u begins, whose body's items begin at item k: at its first statement, with its variables
  abbrev pub set_out : ℕ → ℕ → Body → ℕ → List ℤ → List ℤ
  set_out p u (body ds q) k s =
      locals_in p ds (k + 1) (set (set (set s (process_at_lem p) (kept u)) 0 (kept (p + 1))) (process_at_lem p + 1) (kept (enter q (start_in (body ds q) k) (end_in (body ds q) k))))

  -- the next process, if one more fits
  abbrev pub begins_in : ℕ → Body → ℕ → List ℤ → List ℤ
  begins_in u b k s = pick (ltb (processes_of s) processes_most) (set_out (processes_of s) u b k s) s

  -- ## with arguments
  -- the names of a group get their values of l by their positions, from position n on
  abbrev pub names_in : ℕ → List ℤ → ℕ → List Name → ℕ → List ℤ → List ℤ
  names_in p l n [] i s = s
  names_in p l n (w ∷ ws) i s =
      names_in p l (n + 1) ws (i + 2) (set s (slot_of (link_of t (i + 1)) p 0) (cast_of (type_of (link_of t (i + 1))) (get_or l n (pos 0))))

  -- a type and its mark stand before the names
  abbrev pub groups_in : ℕ → List ℤ → ℕ → List Group → ℕ → List ℤ → List ℤ
  groups_in p l n [] i s = s
  groups_in p l n (g ∷ gs) i s = groups_in p l (n + length (names_of g)) gs (i + size_group g) (names_in p l n (names_of g) (i + 2) s)

  -- the next process of a unit with these groups of parameters, behind its first item
  abbrev pub called_in : ℕ → List Group → Body → ℕ → List ℤ → List ℤ → List ℤ
  called_in u gs b k l s = groups_in (processes_of s) l 0 gs (suc u) (begins_in u b k s)

  -- ## the whole
  abbrev pub global_in : Part → ℕ → List ℤ → List ℤ
  global_in (mtypes ws) i s = s
  global_in (global d) i s = declaration_in 0 d i s
  global_in (process x w gs b) i s = s
  global_in (init b) i s = s

  abbrev pub globals_in : Model → ℕ → List ℤ → List ℤ
  globals_in [] i s = s
  globals_in (x ∷ m) i s = globals_in m (i + size_part x) (global_in x i s)

  abbrev pub started_in : Part → ℕ → List ℤ → List ℤ
  started_in (mtypes ws) i s = s
  started_in (global d) i s = s
  started_in (process x w gs b) i s = repeated (begins_in (head_in x i) b (suc (head_in x i) + sum size_group gs)) (starts_in x) s
  started_in (init b) i s = begins_in i b (i + 1) s

  abbrev pub all_started : Model → ℕ → List ℤ → List ℤ
  all_started [] i s = s
  all_started (x ∷ m) i s = all_started m (i + size_part x) (started_in x i s)

  -- all zeros, then the globals, then the processes, in text order
  abbrev pub initial_in : Model → List ℤ → List ℤ
  initial_in m s = all_started m 0 (globals_in m 0 (cleared s))
