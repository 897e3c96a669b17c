-- Mechanism, held to the specification by `tree_tables`, `tables_tree` (crate `read_accepts_proof`).
-- The tables of a model: numbers that hold exactly what its tree holds (document 01, "Ceilings").
--   [0] how many numbers the tables have; [1] N, how many items; [2] K, how many of them are numbers; [3] P, how many words the pool has
--   N words, one for each item: its code + 256 * its argument, where the argument is for a name (70) or a string (72) the length of its bytes + 128 * their offset
--     in the pool of bytes (at most 131,071), for a number (71) its index among the numbers, else 0
--   N links, one for each item; what a link means is said elsewhere
--   K values, those of the numbers in order
--   P words, the pool: the bytes of all names and strings (strings without their quotes) in order, no spelling shared, four to a word, lowest first, zeros at the end
use Rattle.std.specs.Prelude.{ℕ, zero, suc, ◌+◌, ◌*◌, ◌-◌, min, List, [], ◌∷◌, ◌++◌, length, get_or, eqb}
use Rattle.base_ceilings.specs.Ceilings.{text_most}
use Rattle.base_bytes.specs.Choice.{pick}
use Rattle.base_pens.specs.Pack.{packed}
use Rattle.table_entries.specs.Entry.{Entry, number, bytes, joined}
use Rattle.base_codes.specs.Codes.{c_name, c_number, c_text}

-- offsets in the pool, as an argument keeps them: no text has as many bytes
abbrev pub pool_most : ℕ
pool_most = 2 * text_most - 1

-- the argument of an item of code c with n bytes, where o bytes and k numbers stand before it
unfoldable pub argument : ℕ → ℕ → ℕ → ℕ → ℕ
argument c n o k = pick (eqb c c_number) k (pick (eqb c c_name) (n + 128 * min pool_most o) (pick (eqb c c_text) (n + 128 * min pool_most o) 0))

unfoldable pub item_word : ℕ → ℕ → ℕ → ℕ → ℕ
item_word c n o k = c + 256 * argument c n o k

-- 1 for a number
unfoldable pub one : ℕ → ℕ
one c = pick (eqb c c_number) 1 0

unfoldable pub item_words : ℕ → ℕ → List Entry → List ℕ
item_words o k [] = []
item_words o k (e ∷ es) = item_word e.code (length e.bytes) o k ∷ item_words (o + length e.bytes) (k + one e.code) es

-- the links at i, i + 1, .., n of them; 0 where there is none
unfoldable pub linked : List ℕ → ℕ → ℕ → List ℕ
linked ls i zero = []
linked ls i (suc n) = get_or ls i 0 ∷ linked ls (i + 1) n

unfoldable pub numbers : List Entry → List ℕ
numbers es = joined number es

unfoldable pub pool : List Entry → List ℕ
pool es = packed (joined bytes es)

-- how many numbers: n items, k numbers, p words in the pool
abbrev pub whole : ℕ → ℕ → ℕ → ℕ
whole n k p = 4 + 2 * n + k + p

unfoldable pub tables_of : List Entry → List ℕ → List ℕ
tables_of es ls =
    whole (length es) (length (numbers es)) (length (pool es)) ∷ length es ∷ length (numbers es) ∷ length (pool es)
    ∷ (item_words 0 0 es ++ (linked ls 0 (length es) ++ (numbers es ++ pool es)))
