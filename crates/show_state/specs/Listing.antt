-- Mechanism, held to the specification by `globals_shown`, `locals_shown` and `channels-shown` (crate `agree_listing`).
-- How a state is shown, read from the tables `t` of its model and its numbers `s`: items in their order, of which those that declare variables count; channels in the order in which they were made.
use Rattle.std.specs.Prelude.{ℕ, zero, suc, ◌+◌, ◌-◌, List, [], ◌∷◌, ◌++◌, ℤ}
use Rattle.base_bytes.specs.Choice.{pick}
use Rattle.base_kinds.specs.Kinds.{bytes}
use Rattle.spec_text.specs.Formats.{digits_of}
use Rattle.table_layout.specs.Access.{items_of, link_of}
use Rattle.state_layout.specs.Layout.{cell_of, unit_of, channels_of, declared_of, waiting_of}
use Rattle.step_eval.specs.Variables.{size_of, slot_of}
use Rattle.state_start.specs.Starting.{unit_length}
use Rattle.step_ready.specs.Channels.{capacity_of, fields_of}
use Rattle.state_types.specs.Fits.{is_global, is_local}
use Rattle.write_letters.specs.Tokens.{spelled}
use Rattle.spec_account.specs.States.{values_text}
use Rattle.show_words.specs.Words.{message_in}

-- what f says of i, i + 1, .., n of them
unfoldable pub along : (ℕ → List ℕ) → ℕ → ℕ → List ℕ
along f i zero = []
along f i (suc n) = f i ++ along f (i + 1) n

module _ (s : List ℤ) where
  -- the numbers k, k + 1, .. of the variable l of process p, n of them
  unfoldable pub numbers_from : ℕ → ℕ → ℕ → ℕ → List ℤ
  numbers_from l p k zero = []
  numbers_from l p k (suc n) = cell_of s (slot_of l p k) ∷ numbers_from l p (k + 1) n

  abbrev pub numbers_in : ℕ → ℕ → List ℤ
  numbers_in l p = numbers_from l p 0 (size_of l)

  -- the messages of channel c, each of n fields
  abbrev pub messages_in : ℕ → ℕ → List ℕ
  messages_in c n = along (λ m. message_in s c m n) 0 (waiting_of s c)

module _ (t : List ℕ) (s : List ℤ) where
  -- the variable of process p that item j declares, behind a word; its name stands before the item
  abbrev pub variable_in : List ℕ → ℕ → ℕ → List ℕ
  variable_in word p j = word ++ (spelled t (j - 1) ++ (values_text (numbers_in s (link_of t j) p) ++ 10 ∷ []))

  abbrev pub global_in : ℕ → List ℕ
  global_in j = pick (is_global t j) (variable_in (bytes "global ") 0 j) []

  abbrev pub globals_in : List ℕ
  globals_in = along global_in 0 (items_of t)

  -- of process p
  abbrev pub local_in : ℕ → ℕ → List ℕ
  local_in p j = pick (is_local t j) (variable_in (bytes "local ") p j) []

  abbrev pub locals_in : ℕ → List ℕ
  locals_in p = along (λ k. local_in p (unit_of s p + k)) 0 (unit_length t (unit_of s p))

  -- channel c, from 0; shown numbers count from 1
  abbrev pub channel_in : ℕ → List ℕ
  channel_in c = bytes "channel " ++ (digits_of (c + 1) ++ (32 ∷ (digits_of (capacity_of t (declared_of s c)) ++ (messages_in s c (fields_of t (declared_of s c)) ++ 10 ∷ []))))

  abbrev pub channels_in : List ℕ
  channels_in = along channel_in 0 (channels_of s)
