-- Mechanism: worked examples, computed from its definitions; they are held to nothing else.
-- Statements of the tables of `init{if::skip;x=1::else fi;L:x=2}`: a selection, one inside of it, one behind a label; and where they begin in the normal text.
use Rattle.std.specs.Prelude.{ℕ, ◌≡◌, refl, List, [], ◌∷◌}
use Rattle.base_kinds.specs.Kinds.{bytes}
use Rattle.base_bytes.specs.Lists.{same}
use Rattle.spec_text.specs.Find.{find}
use Rattle.spec_text.specs.Writing.{write_behind}
use Rattle.spec_text.specs.Formats.{digits_by}
use Rattle.spec_grammar.specs.Tree.{Name, Model, plain, num, leaf, assign, skip, else, select, bare, labelled, end, then, over, option, body, init}
use Rattle.base_pens.specs.Pack.{four, packed, digit}
use Rattle.table_entries.specs.Entry.{number, joined}
use Rattle.table_layout.specs.Tables.{argument, item_word, one, item_words, linked, numbers, pool, tables_of}
use Rattle.table_layout.specs.Access.{code_of, pool_byte, name_byte}
use Rattle.table_layout.specs.Back.{upto}
use Rattle.table_layout.specs.Trees.{tables_in}
use Rattle.base_values.specs.Operators.{level_of}
use Rattle.rule_sheets.specs.Walks.{first}
use Rattle.write_rows.specs.Rules.{rows}
use Rattle.write_letters.specs.Tokens.{held_of, token_by}
use Rattle.write_texts.specs.Turning.{cell, row_from, row_of, laid, operated, turned, kept, told, walk, marks, blanked}
use Rattle.write_texts.specs.Normal.{codes_between, tokens_between}
use Rattle.show_statement.specs.Statements.{ends_leaf, is_branching, leaf_end, last_of, statement_in, length_from, place_in}

abbrev x : Name
x = bytes "x"

model : Model
model =
    init (body [] (then (bare (select (option (then (bare (leaf skip)) (then (bare (leaf (assign (plain x) (num 1)))) end)) (option (then (bare (leaf else)) end) over))))
    (then (labelled (bytes "L") (leaf (assign (plain x) (num 2)))) end))) ∷ []

-- the `if`, item 2, is linked to its `fi`, item 14
abbrev t : List ℕ
t = tables_in model (0 ∷ 0 ∷ 14 ∷ [])

texts : (statement_in t 2 ≡ bytes "if::skip;x=1::else fi") × (statement_in t 5 ≡ bytes "x=1") × (statement_in t 17 ≡ bytes "x=2")
unfolding code_of model tables_of argument item_word one item_words linked numbers pool packed four digit number joined pool_byte name_byte upto level_of rows cell row_from row_of laid operated turned kept told walk marks blanked held_of token_by codes_between tokens_between digits_by write_behind find same first ends_leaf is_branching leaf_end last_of statement_in
texts = (refl, refl, refl)

places : (place_in t 2 ≡ 5) × (place_in t 5 ≡ 14) × (place_in t 17 ≡ 29)
unfolding code_of model tables_of argument item_word one item_words linked numbers pool packed four digit number joined pool_byte name_byte upto level_of rows cell row_from row_of laid operated turned kept told walk marks blanked held_of token_by codes_between tokens_between digits_by write_behind find same length_from place_in
places = (refl, refl, refl)
