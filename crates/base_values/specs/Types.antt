-- Types and what storing keeps: document 01, "How it moves", "Storing keeps low bits: bit and bool 1, byte, mtype, pid and chan 8 unsigned, short 16 signed".
-- A type's number is the token kind of its keyword (specs/Kinds.antt of the crate `base_kinds`): 38 bit, 39 bool, 40 byte, 41 mtype, 42 pid, 43 chan, 44 short, 45 int.
use Rattle.std.specs.Prelude.{ℕ, ◌-◌, ◌^◌, Bool, true, false, cond, ℤ, pos, negsuc, nat_le, nat_lt}
use Rattle.std.specs.Int.Signed.{mag}
use Rattle.base_values.specs.Bits.{low, wrap}

-- how many bits; a number that is no type's is taken as int
unfoldable pub width_of : ℕ → ℕ
width_of t =
    cond (nat_lt t 38) 32
    (cond (nat_lt t 40) 1
    (cond (nat_lt t 44) 8
    (cond (nat_lt t 45) 16 32)))

-- 16 bits and more are signed: short and int
abbrev pub signed_width : ℕ → Bool
signed_width k = nat_le 16 k

-- z kept to k bits, signed or not
abbrev pub keep : Bool → ℕ → ℤ → ℤ
keep true k z = wrap k z
keep false k z = pos (low k z)

unfoldable pub cast_of : ℕ → ℤ → ℤ
cast_of t v = keep (signed_width (width_of t)) (width_of t) v

-- the range of k bits: from -2 ^ (k - 1) to 2 ^ (k - 1) - 1 (`mag` of n and of -(n + 1) is n), or from 0 to 2 ^ k - 1
abbrev pub within : Bool → ℕ → ℤ → Bool
within true k z = nat_lt (mag z) (2 ^ (k - 1))
within false k (pos n) = nat_lt n (2 ^ k)
within false k (negsuc n) = false

-- v is a value of the type
unfoldable pub in_type : ℕ → ℤ → Bool
in_type t v = within (signed_width (width_of t)) (width_of t) v
