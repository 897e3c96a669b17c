-- Mechanism, held to the specification by `title_shown` and `message-shown` (crate `agree_listing`).
-- Names and messages, read from the tables `t` of a model and the numbers `s` of a state.
use Rattle.std.specs.Prelude.{ℕ, zero, suc, ◌+◌, ◌-◌, List, [], ◌∷◌, ℤ, eqb}
use Rattle.base_bytes.specs.Choice.{pick}
use Rattle.base_kinds.specs.Kinds.{bytes}
use Rattle.base_codes.specs.Codes.{c_init}
use Rattle.table_layout.specs.Access.{code_of}
use Rattle.state_layout.specs.Layout.{field_of}
use Rattle.write_letters.specs.Tokens.{spelled}
use Rattle.spec_account.specs.States.{message_text}

-- the name of the unit that item u begins: what stands before it, or `init`
abbrev pub title_in : List ℕ → ℕ → List ℕ
title_in t u = pick (eqb (code_of t u) c_init) (bytes "init") (spelled t (u - 1))

module _ (s : List ℤ) where
  -- the fields f, f + 1, .. of message m of channel c, n of them
  unfoldable pub fields_in : ℕ → ℕ → ℕ → ℕ → List ℤ
  fields_in c m f zero = []
  fields_in c m f (suc n) = field_of s c m f ∷ fields_in c m (f + 1) n

  -- message m of channel c, both from 0, which has n fields
  abbrev pub message_in : ℕ → ℕ → ℕ → List ℕ
  message_in c m n = message_text (fields_in c m 0 n)
