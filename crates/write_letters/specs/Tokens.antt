-- Mechanism, held to the specification by `text-normal` (crate `normal_proof`), but for `behind`, of contracts alone.
-- The tokens that tables hold, by their numbers: what an item holds, and a token with the space before it (document 01, "Normal text").
use Rattle.std.specs.Prelude.{List, [], ◌∷◌, ◌++◌, ℕ, ◌-◌, get_or, eqb, ltb}
use Rattle.base_codes.specs.Codes.{c_number, c_text}
use Rattle.base_bytes.specs.Choice.{pick}
use Rattle.base_kinds.specs.Kinds.{Token, sym, name, number, text}
use Rattle.spec_text.specs.Writing.{spell}
use Rattle.text_pens.specs.After.{joins_by}
use Rattle.table_layout.specs.Access.{code_of, number_of, name_length, name_byte}
use Rattle.table_layout.specs.Back.{upto}

-- a token behind one of kind k, with the space before it
abbrev pub behind : ℕ → Token → List ℕ
behind k b = pick (joins_by k (get_or (spell b) 0 0)) (32 ∷ []) [] ++ spell b

module _ (t : List ℕ) where
  -- the bytes of a name or a string
  abbrev pub spelled : ℕ → List ℕ
  spelled i = upto (name_byte t i) 0 (name_length t i)

  -- what item i holds
  unfoldable pub held_of : ℕ → Token
  held_of i = pick (eqb (code_of t i) c_number) (number (number_of t i)) (pick (eqb (code_of t i) c_text) (text (spelled i)) (name (spelled i)))

  -- a token by its number: a kind, or 256 and an item
  unfoldable pub token_by : ℕ → Token
  token_by v = pick (ltb v 70) (sym v) (held_of (v - 256))
