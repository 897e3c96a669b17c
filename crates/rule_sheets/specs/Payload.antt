-- Mechanism, held to the specification by `read_legal`, `legal_read` (crate `legal_texts`).
-- What the token of an item says, as one number: names by the first item that has the name, numbers by their value, formats by what they ask for.
-- It is a function of spellings alone: no place of the text is in it. Document 01, "Names" and row 5 of "What is answered".
use Rattle.std.specs.Prelude.{ℕ, ◌+◌, min, Bool, false, List, length, get_or, eqb, ltb}
use Rattle.base_ceilings.specs.Ceilings.{items_most, number_most, text_most}
use Rattle.base_bytes.specs.Choice.{pick}
use Rattle.base_bytes.specs.Lists.{same, piece}
use Rattle.spec_text.specs.Digits.{decimal}
use Rattle.spec_text.specs.Names.{pid}
use Rattle.spec_text.specs.Formats.{format_of}
use Rattle.rule_sheets.specs.Walks.{first, filled}
use Rattle.base_codes.specs.Codes.{c_name, c_number, c_text}

-- the spelling of token t
unfoldable pub spelled : List ℕ → List ℕ → List ℕ → ℕ → List ℕ
spelled text starts ends t = piece text (get_or starts t 0) (get_or ends t 0)

module _ (text starts ends codes toks : List ℕ) where
  abbrev pub word_of : ℕ → List ℕ
  word_of j = spelled text starts ends (get_or toks j 0)

  -- item i is a name, spelled as item j is
  unfoldable pub same_name : ℕ → ℕ → Bool
  same_name j i = pick (eqb (get_or codes i 0) c_name) (same (word_of i) (word_of j)) false

  unfoldable pub first_same : ℕ → ℕ
  first_same j = first (same_name j) 0 j

  -- a name: 0 for `_pid`, else one more than the first item with that name
  unfoldable pub name_arg : ℕ → ℕ
  name_arg j = pick (same (word_of j) pid) 0 (first_same j + 1)

  -- items 70 name, 71 number, 72 string; the others say nothing
  unfoldable pub arg_of : ℕ → ℕ
  arg_of j =
      pick (eqb (get_or codes j 0) c_name) (name_arg j)
      (pick (eqb (get_or codes j 0) c_number) (min (number_most + 1) (decimal (word_of j)))
      (pick (eqb (get_or codes j 0) c_text) (format_of (word_of j)) 0))

  -- the array of these; left as it is where the text or the items pass their ceiling
  unfoldable pub args_of : List ℕ → List ℕ
  args_of args = pick (ltb text_most (length text)) args (pick (ltb items_most (length codes)) args (filled (λ l j. arg_of j) 0 (length codes) args))
