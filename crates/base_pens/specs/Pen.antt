-- Mechanism, held to the specification by `written-normal` (crate `normal_proof`).
-- Writing one number after the other to a lent list. Past its end nothing is written, and the pen stands one past the end.
use Rattle.std.specs.Prelude.{ℕ, ◌+◌, List, [], ◌∷◌, length, set, ltb}
use Rattle.base_bytes.specs.Choice.{pick}

pub record Pen : Type 0 where
  pub list : List ℕ
  pub at : ℕ

abbrev pub pen : List ℕ → ℕ → Pen
pen l p = record { list = l; at = p }

unfoldable pub write : ℕ → Pen → Pen
write v w = pen (set w.list w.at v) (pick (ltb w.at (length w.list)) (w.at + 1) (length w.list + 1))

unfoldable pub puts : List ℕ → Pen → Pen
puts [] w = w
puts (v ∷ vs) w = puts vs (write v w)
