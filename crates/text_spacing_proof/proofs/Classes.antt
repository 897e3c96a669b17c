-- The classes of bytes keep apart.
use mathlib.Core.Path.{◌≡◌, refl}
use mathlib.Core.Bool.{Bool, true, false}
use mathlib.Core.Logic.{◌⊎◌, inl, inr}
use Prim.Native.Nat.{ℕ, ◌≤◌}
use native.Mathlib.Omega.{arith}
use borrow.Author.Tests.{leb-true, lt-leb, ne_eqb, eqb-true}
use lib.Dec.{leb, eqb}
use Rattle.base_bytes.specs.Choice.{both, either}
use Rattle.base_bytes.proofs.Tests.{both_true, either_true}
use Rattle.spec_text.specs.Bytes.{within, is_blank, is_letter, is_digit}

pub digit_range : (b : ℕ) → is_digit b ≡ true → (48 ≤ b) × (b ≤ 57)
digit_range b e = let (p, q) = both_true (leb 48 b) (leb b 57) e in (leb-true 48 b p, leb-true b 57 q)

pub letter_range : (b : ℕ) → is_letter b ≡ true → (65 ≤ b) × (b ≤ 122)
letter_range b e = go (either_true (within 65 90 b) (either (within 97 122 b) (eqb b 95)) e)
  where
    low : (within 97 122 b ≡ true) ⊎ (eqb b 95 ≡ true) → (65 ≤ b) × (b ≤ 122)
    low (inl q) = let (u, v) = both_true (leb 97 b) (leb b 122) q in (omega (arith, leb-true 97 b u), leb-true b 122 v)
    low (inr q) = let h = eqb-true b 95 q in (omega arith, omega arith)

    go : (within 65 90 b ≡ true) ⊎ (either (within 97 122 b) (eqb b 95) ≡ true) → (65 ≤ b) × (b ≤ 122)
    go (inl q) = let (u, v) = both_true (leb 65 b) (leb b 90) q in (leb-true 65 b u, omega (arith, leb-true b 90 v))
    go (inr q) = low (either_true (within 97 122 b) (eqb b 95) q)

-- from 33 on there is no blank
pub no_blank : (b : ℕ) → 33 ≤ b → is_blank b ≡ false
no_blank b h = rw (ne_eqb b 32 (λ e. omega arith), ne_eqb b 9 (λ e. omega arith), ne_eqb b 13 (λ e. omega arith), ne_eqb b 10 (λ e. omega arith))

pub digit_letter : (b : ℕ) → is_digit b ≡ true → is_letter b ≡ false
digit_letter b e = let (p, q) = digit_range b e in rw (lt-leb 65 b (omega arith), lt-leb 97 b (omega arith), ne_eqb b 95 (λ f. omega arith))

pub digit-blank : (b : ℕ) → is_digit b ≡ true → is_blank b ≡ false
digit-blank b e = no_blank b (omega (arith, (digit_range b e).0))

pub letter_blank : (b : ℕ) → is_letter b ≡ true → is_blank b ≡ false
letter_blank b e = no_blank b (omega (arith, (letter_range b e).0))
