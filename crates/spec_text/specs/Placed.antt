-- Where tokens stand in a text: document 01, "Bytes count from 0".
use Rattle.std.specs.Prelude.{ℕ, ◌+◌}

-- a token in its text: its kind, the place of its first byte, and the place behind its last
pub record Placed : Type 0 where
  pub kind : ℕ
  pub start : ℕ
  pub end : ℕ

-- of kind k, n bytes from place i on
abbrev pub placed : ℕ → ℕ → ℕ → Placed
placed k i n = record { kind = k; start = i; end = i + n }
