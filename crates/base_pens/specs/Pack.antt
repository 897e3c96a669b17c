-- Mechanism, held to the specification by `tree_tables`, `tables_tree` (crate `read_accepts_proof`), `digit` by `text-normal` (crate `normal_proof`); how the code packs (`well`, `drip`, `pour`, `settle`) proofs/Pack.antt holds to `packed`; `Bytes` is of proofs alone.
-- Bytes packed four to a number, the first lowest, zeros at the end; the same written as the bytes come; and a byte read out again.
use Rattle.std.specs.Prelude.{ℕ, ◌+◌, ◌*◌, ◌/◌, ◌%◌, ◌<◌, List, [], ◌∷◌, eqb}
use Rattle.base_bytes.specs.Choice.{pick}
use Rattle.base_pens.specs.Pen.{Pen, write}

unfoldable pub four : ℕ → ℕ → ℕ → ℕ → ℕ
four a b c d = a + 256 * b + 65536 * c + 16777216 * d

unfoldable pub packed : List ℕ → List ℕ
packed [] = []
packed (a ∷ []) = four a 0 0 0 ∷ []
packed (a ∷ b ∷ []) = four a b 0 0 ∷ []
packed (a ∷ b ∷ c ∷ []) = four a b c 0 ∷ []
packed (a ∷ b ∷ c ∷ d ∷ s) = four a b c d ∷ packed s

-- numbers that are bytes
abbrev pub Bytes : List ℕ → Type 0
Bytes [] = Unit {0}
Bytes (a ∷ s) = (a < 256) × Bytes s

-- digit k of a number, from the lowest on
unfoldable pub digit : ℕ → ℕ → ℕ
digit k w = pick (eqb k 0) w (pick (eqb k 1) (w / 256) (pick (eqb k 2) (w / 65536) (w / 16777216))) % 256

-- a pen, and the bytes that wait for a fourth: how many, and which, 0 where there is none
pub record Well : Type 0 where
  pub tip : Pen
  pub held : ℕ
  pub a : ℕ
  pub b : ℕ
  pub c : ℕ

abbrev pub well : Pen → ℕ → ℕ → ℕ → ℕ → Well
well w n a b c = record { tip = w; held = n; a = a; b = b; c = c }

-- one byte more
unfoldable pub drip : ℕ → Well → Well
drip x w =
    pick (eqb w.held 0) (well w.tip 1 x 0 0)
    (pick (eqb w.held 1) (well w.tip 2 w.a x 0)
    (pick (eqb w.held 2) (well w.tip 3 w.a w.b x)
    (well (write (four w.a w.b w.c x) w.tip) 0 0 0 0)))

unfoldable pub pour : List ℕ → Well → Well
pour [] w = w
pour (x ∷ s) w = pour s (drip x w)

-- what waits is written
unfoldable pub settle : Well → Pen
settle w = pick (eqb w.held 0) w.tip (write (four w.a w.b w.c 0) w.tip)
