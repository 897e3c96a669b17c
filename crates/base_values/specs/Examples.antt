-- The sample sheet of document 01 as far as values go, P2 to P7, and the two sides of each boundary, computed from the definitions.
use Rattle.std.specs.Prelude.{◌≡◌, ℕ, true, false, ℤ, pos, neg_ℤ, refl, Ok, Err}
use Rattle.base_values.specs.Operators.{level_of, apply_of, unary_of, divide_of, remainder_of, shift_left_of, shift_right_of}
use Rattle.base_values.specs.Types.{width_of, cast_of, in_type}
use Rattle.base_values.specs.declared.Fault.TheVariants.{Divide, Shift}

abbrev minus : ℕ → ℤ
minus n = neg_ℤ (pos n)

-- P2: -7/2, -7%2; and the other signs
pub division :
    (apply_of 17 (minus 7) (pos 2) ≡ Ok (minus 3)) × (apply_of 18 (minus 7) (pos 2) ≡ Ok (minus 1))
    × (apply_of 17 (pos 7) (minus 2) ≡ Ok (minus 3)) × (apply_of 18 (pos 7) (minus 2) ≡ Ok (pos 1))
    × (apply_of 17 (minus 7) (minus 2) ≡ Ok (pos 3)) × (apply_of 18 (minus 7) (minus 2) ≡ Ok (minus 1))
unfolding apply_of divide_of remainder_of
division = (refl, refl, refl, refl, refl, refl)

-- P3: 479001600*13; the ends of the range
pub wrapping :
    (apply_of 16 (pos 479001600) (pos 13) ≡ Ok (pos 1932053504))
    × (apply_of 14 (pos 2147483646) (pos 1) ≡ Ok (pos 2147483647)) × (apply_of 14 (pos 2147483647) (pos 1) ≡ Ok (minus 2147483648))
    × (apply_of 15 (minus 2147483647) (pos 1) ≡ Ok (minus 2147483648)) × (apply_of 15 (minus 2147483648) (pos 1) ≡ Ok (pos 2147483647))
    × (apply_of 16 (minus 2147483648) (minus 1) ≡ Ok (minus 2147483648)) × (unary_of 15 (minus 2147483648) ≡ minus 2147483648) × (unary_of 15 (minus 2147483647) ≡ pos 2147483647)
unfolding apply_of unary_of
wrapping = (refl, refl, refl, refl, refl, refl, refl, refl)

-- P4: (-2147483647-1)/-1, and its remainder; its neighbour
pub least_by_minus_one :
    (apply_of 17 (minus 2147483648) (minus 1) ≡ Ok (minus 2147483648)) × (apply_of 18 (minus 2147483648) (minus 1) ≡ Ok (pos 0))
    × (apply_of 17 (minus 2147483647) (minus 1) ≡ Ok (pos 2147483647)) × (apply_of 17 (minus 2147483648) (pos 1) ≡ Ok (minus 2147483648))
unfolding apply_of divide_of remainder_of
least_by_minus_one = (refl, refl, refl, refl)

-- P5: 1<<31, 1<<32; a count of -1; `>>` copies the sign
pub shifts :
    (apply_of 12 (pos 1) (pos 31) ≡ Ok (minus 2147483648)) × (apply_of 12 (pos 1) (pos 32) ≡ Err Shift) × (apply_of 12 (pos 1) (minus 1) ≡ Err Shift)
    × (apply_of 12 (pos 3) (pos 31) ≡ Ok (minus 2147483648)) × (apply_of 12 (minus 5) (pos 0) ≡ Ok (minus 5))
    × (apply_of 13 (minus 5) (pos 1) ≡ Ok (minus 3)) × (apply_of 13 (minus 1) (pos 31) ≡ Ok (minus 1)) × (apply_of 13 (pos 2147483647) (pos 31) ≡ Ok (pos 0))
    × (apply_of 13 (pos 1) (pos 32) ≡ Err Shift) × (apply_of 13 (pos 1) (minus 1) ≡ Err Shift)
unfolding apply_of shift_left_of shift_right_of
shifts = (refl, refl, refl, refl, refl, refl, refl, refl, refl, refl)

-- P6: 300 in byte, 40000 in short, -1 in byte, 2 in bit; the ends of the types
pub stores :
    (cast_of 40 (pos 300) ≡ pos 44) × (cast_of 44 (pos 40000) ≡ minus 25536) × (cast_of 40 (minus 1) ≡ pos 255) × (cast_of 38 (pos 2) ≡ pos 0)
    × (cast_of 39 (pos 3) ≡ pos 1) × (cast_of 43 (pos 255) ≡ pos 255) × (cast_of 41 (pos 256) ≡ pos 0) × (cast_of 42 (minus 256) ≡ pos 0)
    × (cast_of 44 (pos 32767) ≡ pos 32767) × (cast_of 44 (pos 32768) ≡ minus 32768) × (cast_of 44 (minus 32768) ≡ minus 32768) × (cast_of 44 (minus 32769) ≡ pos 32767)
    × (cast_of 45 (minus 2147483648) ≡ minus 2147483648) × (cast_of 45 (pos 2147483647) ≡ pos 2147483647)
unfolding cast_of width_of
stores = (refl, refl, refl, refl, refl, refl, refl, refl, refl, refl, refl, refl, refl, refl)

pub ranges :
    (in_type 38 (pos 1) ≡ true) × (in_type 38 (pos 2) ≡ false) × (in_type 40 (pos 255) ≡ true) × (in_type 40 (pos 256) ≡ false) × (in_type 40 (minus 1) ≡ false)
    × (in_type 44 (minus 32768) ≡ true) × (in_type 44 (minus 32769) ≡ false) × (in_type 44 (pos 32767) ≡ true) × (in_type 44 (pos 32768) ≡ false)
    × (in_type 45 (minus 2147483648) ≡ true) × (in_type 45 (pos 2147483648) ≡ false)
unfolding in_type width_of
ranges = (refl, refl, refl, refl, refl, refl, refl, refl, refl, refl, refl)

-- P7: 1/0 is a fault, and so is 1%0; conditions are 0 or 1
pub conditions :
    (apply_of 17 (pos 1) (pos 0) ≡ Err Divide) × (apply_of 18 (pos 1) (pos 0) ≡ Err Divide)
    × (apply_of 2 (pos 0) (pos 5) ≡ Ok (pos 0)) × (apply_of 2 (minus 1) (pos 5) ≡ Ok (pos 1)) × (apply_of 1 (pos 0) (pos 5) ≡ Ok (pos 1)) × (apply_of 1 (pos 0) (pos 0) ≡ Ok (pos 0))
    × (apply_of 8 (minus 1) (pos 0) ≡ Ok (pos 1)) × (apply_of 8 (pos 0) (pos 0) ≡ Ok (pos 0)) × (apply_of 9 (pos 0) (pos 0) ≡ Ok (pos 1)) × (apply_of 11 (minus 1) (pos 0) ≡ Ok (pos 0))
    × (unary_of 19 (pos 0) ≡ pos 1) × (unary_of 19 (minus 7) ≡ pos 0) × (unary_of 20 (pos 0) ≡ minus 1) × (unary_of 20 (minus 2147483648) ≡ pos 2147483647)
unfolding apply_of unary_of divide_of remainder_of
conditions = (refl, refl, refl, refl, refl, refl, refl, refl, refl, refl, refl, refl, refl, refl)

-- table 3.2, each operator's level, and the numbers on either side of the operators
pub levels :
    (level_of 0 ≡ 0) × (level_of 1 ≡ 1) × (level_of 2 ≡ 2) × (level_of 3 ≡ 3) × (level_of 4 ≡ 4) × (level_of 5 ≡ 5) × (level_of 6 ≡ 6) × (level_of 7 ≡ 6)
    × (level_of 8 ≡ 7) × (level_of 11 ≡ 7) × (level_of 12 ≡ 8) × (level_of 13 ≡ 8) × (level_of 14 ≡ 9) × (level_of 15 ≡ 9) × (level_of 16 ≡ 10) × (level_of 18 ≡ 10) × (level_of 19 ≡ 0)
unfolding level_of
levels = (refl, refl, refl, refl, refl, refl, refl, refl, refl, refl, refl, refl, refl, refl, refl, refl, refl)
