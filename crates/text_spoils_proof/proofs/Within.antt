-- The part that refusal 1 or 2 names lies in the text.
use mathlib.Core.Path.{◌≡◌, refl}
use mathlib.Core.List.{List, [], ◌∷◌, ◌++◌}
use Prim.Native.Nat.{ℕ, ◌+◌, ◌≤◌}
use native.Mathlib.Omega.{arith}
use lib.ListN.{length, length-append}
use Rattle.spec_text.specs.Bytes.{quote, backslash}
use Rattle.spec_text.specs.Spoils.{Begins, gap, token, Wrong, stray, bad_byte, bad_escape, unclosed_string, unclosed_escape, unclosed_comment, long_word, large_number, long_string, Breaks, wrong, too_many, Spoils, too_long, broken}

begins-split : {c i j : ℕ} {t s : List ℕ} → Begins c i t j s → i + length t ≡ j + length s
begins-split (gap {g = g} {s = s} G) = omega (arith, length-append g s)
begins-split (token {g = g} {x = x} {r = r} G z l B) = omega (arith, begins-split B, length-append g (x ++ r), length-append x r)

wrong_size : {s : List ℕ} {x n : ℕ} → Wrong s x n → n ≤ length s
wrong_size (stray b s p q r m) = omega arith
wrong_size (bad_byte {x = x} b s z h) = omega (arith, length-append x (b ∷ s))
wrong_size (bad_escape {x = x} b s z h) = omega (arith, length-append x (backslash ∷ b ∷ s))
wrong_size (unclosed_string z) = omega arith
wrong_size (unclosed_escape {x = x} z) = omega (arith, length-append x (backslash ∷ []))
wrong_size (unclosed_comment c u) = omega arith
wrong_size (long_word b x s l a j h) = omega (arith, length-append x s)
wrong_size (large_number b x s d a j h) = omega (arith, length-append x s)
wrong_size (long_string {x = x} s z h) = omega (arith, length-append x (quote ∷ s))

pub spoils_within : {t : List ℕ} {x i n : ℕ} → Spoils t x i n → i + n ≤ length t
spoils_within (too_long h) = omega arith
spoils_within (broken h (wrong B c w)) = omega (arith, begins-split B, wrong_size w)
spoils_within (broken h (too_many {x = x} s B z l)) = omega (arith, begins-split B, length-append x s)
