-- Laws of the accessors.
use Prim.Native.Nat.{ℕ, ◌+◌, ◌/◌, ◌%◌, ◌<◌, ◌≤◌}
use mathlib.Core.Path.{◌≡◌, sym, ◌∙◌}
use mathlib.Core.List.{List}
use native.Mathlib.Omega.{arith}
use borrow.Author.Tests.{lt-ltb, le-ltb}
use Rattle.table_layout.specs.Access.{items_of, word_of, code_of, arg_of, name_length, pool_byte, name_byte}

module _ (t : List ℕ) (i k : ℕ) {n : ℕ} (en : n ≡ name_length t i) where
  pub byte_in : k < n → {a r : ℕ} → a ≡ arg_of t i → r ≡ pool_byte t (a / 128 + k) → r ≡ name_byte t i k
  unfolding name_byte
  byte_in h {a} ea er = let g : k < a % 128 = omega arith in er ∙ sym (simp (← ea, lt-ltb _ _ g))

  pub byte_out : n ≤ k → 0 ≡ name_byte t i k
  unfolding name_byte
  byte_out h = let g : name_length t i ≤ k = omega arith in sym (simp (le-ltb _ _ g))

-- the code of an item that there is, and of none
module _ (t : List ℕ) (i : ℕ) {n : ℕ} (en : n ≡ items_of t) where
  pub code_in : i < n → {a : ℕ} → a ≡ word_of t i → a % 256 ≡ code_of t i
  unfolding code_of
  code_in h {a} ea = let g : i < items_of t = omega arith in sym (simp (← ea, lt-ltb _ _ g))

  pub code_out : n ≤ i → 0 ≡ code_of t i
  unfolding code_of
  code_out h = let g : items_of t ≤ i = omega arith in sym (simp (le-ltb _ _ g))
