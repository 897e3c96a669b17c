-- Mechanism, held to the specification by `demand2` (crate `demands`), but for `length_of`, of a contract alone.
-- What tables say, each by a look at one or a few numbers; tables that end too soon are read as if zeros followed.
use Rattle.std.specs.Prelude.{ℕ, ◌+◌, ◌*◌, ◌/◌, ◌%◌, List, get_or, ltb}
use Rattle.base_bytes.specs.Choice.{pick}
use Rattle.base_pens.specs.Pack.{digit}

module _ (t : List ℕ) where
  abbrev pub length_of : ℕ
  length_of = get_or t 0 0

  abbrev pub items_of : ℕ
  items_of = get_or t 1 0

  abbrev pub numbers_of : ℕ
  numbers_of = get_or t 2 0

  -- the word of item i, which holds its code and its argument
  abbrev pub word_of : ℕ → ℕ
  word_of i = get_or t (4 + i) 0

  -- its code; 0 where there is no such item, whatever stands there
  unfoldable pub code_of : ℕ → ℕ
  code_of i = pick (ltb i items_of) (word_of i % 256) 0

  abbrev pub arg_of : ℕ → ℕ
  arg_of i = word_of i / 256

  abbrev pub link_of : ℕ → ℕ
  link_of i = get_or t (4 + items_of + i) 0

  -- the value of item i, if it is a number
  abbrev pub number_of : ℕ → ℕ
  number_of i = get_or t (4 + 2 * items_of + arg_of i) 0

  -- how many bytes item i has, if it is a name or a string
  abbrev pub name_length : ℕ → ℕ
  name_length i = arg_of i % 128

  -- byte j of the pool
  unfoldable pub pool_byte : ℕ → ℕ
  pool_byte j = digit (j % 4) (get_or t (4 + 2 * items_of + numbers_of + j / 4) 0)

  -- byte k of the name or string that item i is; 0 past its end
  unfoldable pub name_byte : ℕ → ℕ → ℕ
  name_byte i k = pick (ltb k (name_length i)) (pool_byte (arg_of i / 128 + k)) 0
