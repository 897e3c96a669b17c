-- Mechanism, held to the specification by `demand2` (crate `demands`).
-- The numbers that are in use: document 01, "A state of the model (refusal 9): .. counts within ceilings, .. unused numbers 0". Into zeros go the counts, each process's
-- unit and place, each channel's declaration and how many messages wait, and the numbers of variables and of waiting messages; nothing else.
-- `t` are tables, `s` the numbers, x what is written so far.
use Rattle.std.specs.Prelude.{ℕ, ◌+◌, min, List, set, replicate, ℤ, pos}
use Rattle.base_ceilings.specs.Ceilings.{capacity_most, channels_most, processes_most, state_room}
use Rattle.base_bytes.specs.Choice.{pick}
use Rattle.table_layout.specs.Access.{link_of}
use Rattle.state_layout.specs.Layout.{process_at_lem, channel_at, field_at, cell_of, processes_of, channels_of, unit_of, place_of, declared_of, waiting_of, kept}
use Rattle.state_layout.specs.Walks.{walk}
use Rattle.step_eval.specs.Variables.{size_of, slot_of}
use Rattle.state_start.specs.Starting.{unit_length, scanned}
use Rattle.step_ready.specs.Channels.{fields_of}
use Rattle.state_types.specs.Fits.{is_global, is_local}

module _ (s : List ℤ) where
  -- "counts within ceilings"
  abbrev pub processes_in : ℕ
  processes_in = min processes_most (processes_of s)

  abbrev pub channels_in : ℕ
  channels_in = min channels_most (channels_of s)

  abbrev pub messages_in : ℕ → ℕ
  messages_in c = min capacity_most (waiting_of s c)

  -- ## numbers
  -- the number at i
  abbrev pub copied : ℕ → List ℤ → List ℤ
  copied i x = set x i (cell_of s i)

  -- number k of the variable l, for process p
  unfoldable pub element_shaped : ℕ → ℕ → ℕ → List ℤ → List ℤ
  element_shaped l p k x = copied (slot_of l p k) x

  unfoldable pub variable_shaped : ℕ → ℕ → List ℤ → List ℤ
  variable_shaped l p x = walk (element_shaped l p) 0 (size_of l) x

  -- field f of message m in the record c
  unfoldable pub field_shaped : ℕ → ℕ → ℕ → List ℤ → List ℤ
  field_shaped c m f x = copied (field_at c m f) x

module _ (t : List ℕ) (s : List ℤ) where
  unfoldable pub global_shaped : ℕ → List ℤ → List ℤ
  global_shaped j x = pick (is_global t j) (variable_shaped s (link_of t j) 0 x) x

  -- ## processes
  unfoldable pub local_shaped : ℕ → ℕ → List ℤ → List ℤ
  local_shaped p j x = pick (is_local t j) (variable_shaped s (link_of t j) p x) x

  -- the variables of process p, whose unit item u begins
  unfoldable pub locals_shaped : ℕ → ℕ → List ℤ → List ℤ
  locals_shaped p u x = walk (λ k y. local_shaped p (u + k) y) 0 (unit_length t u) x

  unfoldable pub process_shaped : ℕ → List ℤ → List ℤ
  process_shaped p x = locals_shaped p (unit_of s p) (set (set x (process_at_lem p) (kept (unit_of s p))) (process_at_lem p + 1) (kept (place_of s p)))

  -- ## channels
  -- message m in the record c, whose channel item d declares
  unfoldable pub message_shaped : ℕ → ℕ → ℕ → List ℤ → List ℤ
  message_shaped c d m x = walk (field_shaped s c m) 0 (fields_of t d) x

  unfoldable pub channel_shaped : ℕ → List ℤ → List ℤ
  channel_shaped c x = walk (message_shaped c (declared_of s c)) 0 (messages_in s c) (set (set x (channel_at c) (kept (declared_of s c))) (channel_at c + 1) (kept (messages_in s c)))

  -- ## the whole
  unfoldable pub shaped_on : List ℤ → List ℤ
  shaped_on x = walk channel_shaped 0 (channels_in s) (walk process_shaped 0 (processes_in s) (walk global_shaped 0 (scanned t) (set (set x 0 (kept (processes_in s))) 1 (kept (channels_in s)))))

  unfoldable pub shaped : List ℤ
  shaped = shaped_on (replicate state_room (pos 0))
