-- Mechanism: worked examples, computed from its definitions; they are held to nothing else.
-- The tables of a few entries, number by number, and what is read from them.
use Rattle.std.specs.Prelude.{◌≡◌, refl, List, [], ◌∷◌, ℕ}
use Rattle.base_codes.specs.Codes.{c_name, c_number, c_plain, c_text}
use Rattle.base_kinds.specs.Kinds.{bytes}
use Rattle.base_pens.specs.Pack.{four, packed, digit}
use Rattle.table_entries.specs.Entry.{Entry, entry, number, joined}
use Rattle.table_layout.specs.Tables.{argument, item_word, one, item_words, linked, numbers, pool, tables_of}
use Rattle.table_layout.specs.Access.{code_of, link_of, number_of, name_length, pool_byte, name_byte}

abbrev some : List Entry
some = entry c_name (bytes "ab") 0 ∷ entry c_number [] 7 ∷ entry c_plain [] 0 ∷ entry c_text (bytes "x") 0 ∷ []

abbrev table : List ℕ
table = 14 ∷ 4 ∷ 1 ∷ 1 ∷ 582 ∷ 71 ∷ c_plain ∷ 65864 ∷ 5 ∷ 0 ∷ 9 ∷ 0 ∷ 7 ∷ 7889505 ∷ []

written : tables_of some (5 ∷ 0 ∷ 9 ∷ []) ≡ table
unfolding tables_of item_words item_word argument one linked numbers number joined pool packed four
written = refl

code : code_of table 2 ≡ c_plain
unfolding code_of
code = refl

link : link_of table 2 ≡ 9
link = refl

value : number_of table 1 ≡ 7
value = refl

size : name_length table 3 ≡ 1
size = refl

letter : name_byte table 3 0 ≡ 120
unfolding name_byte pool_byte digit
letter = refl
