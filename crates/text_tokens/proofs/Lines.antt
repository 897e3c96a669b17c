-- The laws that counting lines and columns cites.
use mathlib.Core.Path.{◌≡◌}
use mathlib.Core.List.{List}
use Prim.Native.Nat.{ℕ, ◌+◌, ◌≤◌, ◌<◌}
use native.Mathlib.Numerals.{add-one}
use borrow.Author.Tests.{eq-eqb, ne_eqb}
use lib.ListN.{length, get_or, drop, drop_of_length-le}
use lib.Seq.{drop-cons}
use Rattle.text_tokens.specs.Lines.{behind, position}

module _ (t : List ℕ) (i l c : ℕ) where
  pub new_line : i < length t → get_or t i 0 ≡ 10 → behind l c (drop i t) ≡ behind (l + 1) 1 (drop (i + 1) t)
  unfolding behind
  new_line h e = rw (drop-cons t i 0 h, eq-eqb (get_or t i 0) 10 e, add-one i)

  pub same_line : i < length t → (get_or t i 0 ≡ 10 → ⊥) → behind l c (drop i t) ≡ behind l (c + 1) (drop (i + 1) t)
  unfolding behind
  same_line h e = rw (drop-cons t i 0 h, ne_eqb (get_or t i 0) 10 e, add-one i)

  pub arrived : length t ≤ i → behind l c (drop i t) ≡ position l c
  unfolding behind
  arrived h = rw (drop_of_length-le t {i = i} h)
