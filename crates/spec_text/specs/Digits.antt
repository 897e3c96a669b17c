-- The number that decimal digits write: document 01, "Numbers are decimal digits".
use Rattle.std.specs.Prelude.{List, [], ◌∷◌, ℕ, ◌+◌, ◌-◌, ◌*◌}

-- after v
unfoldable pub decimal_from : ℕ → List ℕ → ℕ
decimal_from v [] = v
decimal_from v (b ∷ s) = decimal_from (v * 10 + (b - 48)) s

abbrev pub decimal : List ℕ → ℕ
decimal s = decimal_from 0 s
