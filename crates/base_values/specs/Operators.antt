-- The operators on values, by number: document 01, "How it moves", first paragraph, and "Operators follow table 3.2 of 002".
-- An operator's number is its token kind (specs/Kinds.antt of the crate `base_kinds`): 1 to 18 are || && | ^ & == != < <= > >= << >> + - * / %, 19 and 20 are ! ~.
-- `||` and `&&` here have both operands worked out.
use Rattle.std.specs.Prelude.{ℕ, ◌^◌, Bool, true, false, cond, not, ◌&&◌, ◌||◌, ℤ, pos, negsuc, ◌+ℤ◌, ◌-ℤ◌, ◌*ℤ◌, neg_ℤ, ◌==◌, bit_and, bit_or, bit_xor, int_div, int_le, int_lt, int_rem, nat_lt, Result, Ok, Err}
use Rattle.std.specs.Int.Signed.{shr_z}
use Rattle.base_kinds.specs.Kinds.{level}
use Rattle.base_values.specs.Bits.{low, signed, wrap32}
use Rattle.base_values.specs.declared.Fault.{Fault}
use Rattle.base_values.specs.declared.Fault.TheVariants.{Divide, Shift}

-- the binding levels, which unfold only where a proof asks
unfoldable pub level_of : ℕ → ℕ
level_of op = level op

abbrev pub same : ℤ → ℤ → Bool
same (pos a) (pos b) = a == b
same (pos a) (negsuc b) = false
same (negsuc a) (pos b) = false
same (negsuc a) (negsuc b) = a == b

-- a value as a condition, and a condition as a value
abbrev pub is_true : ℤ → Bool
is_true a = not (same a (pos 0))

abbrev pub one_if : Bool → ℤ
one_if true = pos 1
one_if false = pos 0

-- what was worked out as 0 or 1
abbrev pub truth : Result ℤ Fault → Result ℤ Fault
truth (Ok v) = Ok (one_if (is_true v))
truth (Err f) = Err f

-- 1 where what was worked out is w, else 0
abbrev pub equal_by : Result ℤ Fault → ℤ → Result ℤ Fault
equal_by (Ok v) w = Ok (one_if (same v w))
equal_by (Err f) w = Err f

-- toward zero; the least value by -1 is the one quotient that leaves the range, and gives the least value
unfoldable pub divide_of : ℤ → ℤ → Result ℤ Fault
divide_of a b = cond (same b (pos 0)) (Err Divide) (Ok (wrap32 (int_div a b)))

-- with the dividend's sign
unfoldable pub remainder_of : ℤ → ℤ → Result ℤ Fault
remainder_of a b = cond (same b (pos 0)) (Err Divide) (Ok (int_rem a b))

-- by 0 to 31
abbrev pub shift_by : (ℕ → ℤ) → ℤ → Result ℤ Fault
shift_by f (pos n) = cond (nat_lt n 32) (Ok (f n)) (Err Shift)
shift_by f (negsuc n) = Err Shift

unfoldable pub shift_left_of : ℤ → ℤ → Result ℤ Fault
shift_left_of a b = shift_by (λ n. wrap32 (a *ℤ pos (2 ^ n))) b

-- copying the sign: rounded down
unfoldable pub shift_right_of : ℤ → ℤ → Result ℤ Fault
shift_right_of a b = shift_by (λ n. shr_z a (2 ^ n)) b

-- an operation on the 32 bits of each
abbrev pub on_bits : (ℕ → ℕ → ℕ) → ℤ → ℤ → ℤ
on_bits f a b = signed 32 (f (low 32 a) (low 32 b))

-- a number that is no binary operator leaves the first value
unfoldable pub apply_of : ℕ → ℤ → ℤ → Result ℤ Fault
apply_of op a b =
    cond (op == 1) (Ok (one_if (is_true a || is_true b)))
    (cond (op == 2) (Ok (one_if (is_true a && is_true b)))
    (cond (op == 3) (Ok (on_bits bit_or a b))
    (cond (op == 4) (Ok (on_bits bit_xor a b))
    (cond (op == 5) (Ok (on_bits bit_and a b))
    (cond (op == 6) (Ok (one_if (same a b)))
    (cond (op == 7) (Ok (one_if (not (same a b))))
    (cond (op == 8) (Ok (one_if (int_lt a b)))
    (cond (op == 9) (Ok (one_if (int_le a b)))
    (cond (op == 10) (Ok (one_if (int_lt b a)))
    (cond (op == 11) (Ok (one_if (int_le b a)))
    (cond (op == 12) (shift_left_of a b)
    (cond (op == 13) (shift_right_of a b)
    (cond (op == 14) (Ok (wrap32 (a +ℤ b)))
    (cond (op == 15) (Ok (wrap32 (a -ℤ b)))
    (cond (op == 16) (Ok (wrap32 (a *ℤ b)))
    (cond (op == 17) (divide_of a b)
    (cond (op == 18) (remainder_of a b) (Ok a))))))))))))))))))

-- every bit turned: -a - 1
abbrev pub complement : ℤ → ℤ
complement (pos n) = negsuc n
complement (negsuc n) = pos n

-- minus, `!`, `~`; any other number leaves the value
unfoldable pub unary_of : ℕ → ℤ → ℤ
unary_of op a =
    cond (op == 15) (wrap32 (neg_ℤ a))
    (cond (op == 19) (one_if (same a (pos 0)))
    (cond (op == 20) (complement a) a))
