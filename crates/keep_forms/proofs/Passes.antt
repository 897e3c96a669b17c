-- Items that all fit where they stand, one after the other.
use mathlib.Core.Path.{◌≡◌}
use mathlib.Core.Bool.{true}
use mathlib.Core.List.{List, [], ◌∷◌, ◌++◌}
use Rattle.base_codes.specs.Items.{Item, code_of}
use Rattle.keep_forms.specs.Forms.{Form, step, fits}

-- from s on each item fits, and K holds behind them
abbrev pub Passes : List Item → Form → (Form → Type 0) → Type 0
Passes [] s K = K s
Passes (i ∷ l) s K = (fits s (code_of i) ≡ true) × Passes l (step s (code_of i)) K

pub join : (x y : List Item) (s : Form) (K : Form → Type 0) → Passes x s (λ s. Passes y s K) → Passes (x ++ y) s K
join [] y s K p = p
join (i ∷ x) y s K p = (p.0, join x y (step s (code_of i)) K p.1)
