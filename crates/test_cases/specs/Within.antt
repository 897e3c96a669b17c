-- Tests: worked examples and stored cases.
-- A case that was read lies within its buffer of n bytes.
use Rattle.std.specs.Prelude.{ℕ, ◌≤◌, Option, Some, None}

abbrev pub Within : ℕ → Option ℕ → Type 0
Within n (Some m) = m ≤ n
Within n None = Unit {0}
