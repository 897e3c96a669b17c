-- Mechanism: worked examples, computed from its definitions; they are held to nothing else.
-- Normal texts of a few trees, from their tables.
use Rattle.std.specs.Prelude.{◌≡◌, refl, [], ◌∷◌}
use Rattle.base_kinds.specs.Kinds.{bytes}
use Rattle.base_bytes.specs.Lists.{same}
use Rattle.spec_text.specs.Find.{find}
use Rattle.spec_text.specs.Writing.{write_behind}
use Rattle.spec_text.specs.Formats.{digits_by}
use Rattle.spec_grammar.specs.Tree.{Model, num, get, plain, unary, binary, leaf, express, skip, bare, end, then, unset, variable, declare, body, init}
use Rattle.std.proofs.Math.Option.{none}
use Rattle.base_pens.specs.Pack.{four, packed, digit}
use Rattle.table_entries.specs.Entry.{number, joined}
use Rattle.table_layout.specs.Tables.{argument, item_word, one, item_words, linked, numbers, pool, tables_of}
use Rattle.table_layout.specs.Access.{code_of, pool_byte, name_byte}
use Rattle.table_layout.specs.Back.{upto}
use Rattle.table_layout.specs.Trees.{tables_in}
use Rattle.base_values.specs.Operators.{level_of}
use Rattle.write_rows.specs.Rules.{rows}
use Rattle.write_texts.specs.Turning.{cell, row_from, row_of, laid, operated, turned, kept, told, walk, marks}
use Rattle.write_letters.specs.Tokens.{held_of, token_by}
use Rattle.write_texts.specs.Normal.{codes_in, tokens_of, normal_of}

-- P10
sum : Model
sum = init (body [] (then (bare (leaf (express (binary 16 (binary 14 (num 1) (num 2)) (num 3))))) (then (bare (leaf skip)) end))) ∷ []

p10 : normal_of (tables_in sum []) ≡ bytes "init{(1+2)*3;skip}"
unfolding code_of sum tables_of argument item_word one item_words linked numbers pool packed four digit number joined pool_byte name_byte upto level_of rows cell row_from row_of laid operated turned kept told walk marks held_of token_by codes_in tokens_of digits_by write_behind find same
p10 = refl

-- P11
difference : Model
difference =
    init (body (declare 45 (variable (bytes "a") none unset ∷ []) ∷ []) (then (bare (leaf (express (binary 15 (get (plain (bytes "a"))) (unary 15 (get (plain (bytes "a")))))))) end)) ∷ []

p11 : normal_of (tables_in difference []) ≡ bytes "init{int a;a- -a}"
unfolding code_of difference tables_of argument item_word one item_words linked numbers pool packed four digit number joined pool_byte name_byte upto level_of rows cell row_from row_of laid operated turned kept told walk marks held_of token_by codes_in tokens_of digits_by write_behind find same
p11 = refl
