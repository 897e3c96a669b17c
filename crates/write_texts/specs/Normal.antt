-- Mechanism, held to the specification by `text-normal` (crate `normal_proof`), `layout_of` by `text-layout` (crate `layout_proof`), and `tokens_between` by `statement_shown` and `place-shown` (crate `agree_texts`).
-- The normal text that tables hold: document 01, "Normal text". It is defined for any numbers; that it is the normal text of the tree is proved in `write_reprint_proof`.
use Rattle.std.specs.Prelude.{false, List, ℕ, min}
use Rattle.base_ceilings.specs.Ceilings.{items_most}
use Rattle.base_kinds.specs.Kinds.{Token}
use Rattle.spec_text.specs.Writing.{write}
use Rattle.table_layout.specs.Access.{items_of, code_of}
use Rattle.write_letters.specs.Tokens.{token_by}
use Rattle.write_lines.specs.Lines.{lay_all}
use Rattle.write_texts.specs.Turning.{whole, whole_by, marks, blanked}

module _ (t : List ℕ) where
  -- the codes of at most 8,192 items
  unfoldable pub codes_in : List ℕ
  codes_in = marks false (code_of t) 0 (min items_most (items_of t))

  unfoldable pub tokens_of : List Token
  tokens_of = whole (token_by t) codes_in

  abbrev pub normal_of : List ℕ
  normal_of = write tokens_of

  -- the layout that tables hold (request One); that it is that of the tree is proved in `layout_proof`
  abbrev pub layout_of : List ℕ
  layout_of = lay_all tokens_of

  -- the codes before item `to`, those before item `from` blank
  unfoldable pub codes_between : ℕ → ℕ → List ℕ
  codes_between from to = blanked from (marks false (code_of t) 0 (min to (min items_most (items_of t))))

  -- what these items become where the symbol s is asked for; all of them, asked for units, are the normal text
  unfoldable pub tokens_between : ℕ → ℕ → ℕ → List Token
  tokens_between s from to = whole_by s (token_by t) (codes_between from to)
