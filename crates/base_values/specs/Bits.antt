-- Keeping low bits: document 01, "How it moves", "Values are signed 32-bit. `+ - *`, unary minus and `<<` keep the low 32 bits".
-- A value is an integer, `pos n` for n and `negsuc n` for -(n + 1).
use Rattle.std.specs.Prelude.{ℕ, suc, ◌-◌, ◌%◌, ◌^◌, cond, ℤ, pos, negsuc, nat_lt}

-- the low k bits of z: the number below 2 ^ k that differs from z by a multiple of 2 ^ k
abbrev pub low : ℕ → ℤ → ℕ
low k (pos n) = n % 2 ^ k
low k (negsuc n) = 2 ^ k - suc (n % 2 ^ k)

-- k bits read as a signed number: from half of 2 ^ k on, less 2 ^ k
abbrev pub signed : ℕ → ℕ → ℤ
signed k u = cond (nat_lt u (2 ^ (k - 1))) (pos u) (negsuc (2 ^ k - suc u))

-- the number from -2 ^ (k - 1) to 2 ^ (k - 1) - 1 that differs from z by a multiple of 2 ^ k
abbrev pub wrap : ℕ → ℤ → ℤ
wrap k z = signed k (low k z)

abbrev pub wrap32 : ℤ → ℤ
wrap32 z = wrap 32 z
