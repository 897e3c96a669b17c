-- Integers as natural numbers.
use Rattle.std.specs.Prelude.{ℕ, ℤ, pos, negsuc}

-- a number below 0 is taken as 0
abbrev pub nat : ℤ → ℕ
nat (pos n) = n
nat (negsuc n) = 0
