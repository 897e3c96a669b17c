-- Mechanism, held to the specification by `tree_tables`, `tables_tree` (crate `read_accepts_proof`), but for `nothing`, of proofs alone.
-- An entry: what one item of a model says, in numbers, and no place of a text in it.
-- Its code is the number of its symbol; a name (70) and a string (72, without its quotes) have bytes, a number (71) has a value.
use Rattle.std.specs.Prelude.{ℕ, zero, suc, ◌+◌, List, [], ◌∷◌, ◌++◌, eqb}
use Rattle.base_codes.specs.Codes.{c_number}
use Rattle.base_bytes.specs.Choice.{pick}

pub record Entry : Type 0 where
  pub code : ℕ
  pub bytes : List ℕ
  pub value : ℕ

abbrev pub entry : ℕ → List ℕ → ℕ → Entry
entry c s v = record { code = c; bytes = s; value = v }

abbrev pub nothing : Entry
nothing = entry 0 [] 0

-- the number of a number item
unfoldable pub number : Entry → List ℕ
number e = pick (eqb e.code c_number) (e.value ∷ []) []

abbrev pub bytes : Entry → List ℕ
bytes e = e.bytes

-- what f gives for each, one after the other
unfoldable pub joined : (Entry → List ℕ) → List Entry → List ℕ
joined f [] = []
joined f (e ∷ es) = f e ++ joined f es

-- the entries at i, i + 1, .., k of them
unfoldable pub runs : (ℕ → Entry) → ℕ → ℕ → List Entry
runs f i zero = []
runs f i (suc k) = f i ∷ runs f (i + 1) k
