-- A pen that has passed its room has passed it for the text's length.
use mathlib.Core.Path.{◌≡◌, sym, ap, ◌∙◌}
use mathlib.Core.Logic.{◌⊎◌, inl, inr}
use mathlib.Core.List.{List}
use Prim.Native.Nat.{ℕ, ◌≤◌, ◌<◌}
use native.Mathlib.Omega.{arith}
use borrow.Author.Tests.{lt-ltb, le-ltb}
use lib.Dec.{ltb}
use lib.ListN.{length}
use Rattle.base_ceilings.specs.Ceilings.{normal_most}
use Rattle.base_pens.specs.Pen.{pen, puts}
use Rattle.base_pens.proofs.Pen.{puts_fit, puts-full, at_of}
use Rattle.parse_machine.proofs.Never.{lt_or_ge}
use Rattle.write_texts.specs.Normal.{normal_of}
use Rattle.write_length.specs.Overlong.{overlong}

passed-room : (u old new : List ℕ) (n : ℕ) → pen new n ≡ puts u (pen old 0) → ltb (length old) n ≡ ltb (length old) (length u)
passed-room u old new n e = go (lt_or_ge (length old) (length u))
  where
    go : (length old < length u) ⊎ (length u ≤ length old) → ltb (length old) n ≡ ltb (length old) (length u)
    go (inl k) = lt-ltb (length old) n (omega (arith, at_of (e ∙ puts-full u old k))) ∙ sym (lt-ltb (length old) (length u) k)
    go (inr k) = le-ltb (length old) n (omega (arith, at_of (e ∙ puts_fit u old k))) ∙ sym (le-ltb (length old) (length u) k)

pub is_overlong : (ts blank text : List ℕ) (n : ℕ) → length blank ≡ normal_most → pen text n ≡ puts (normal_of ts) (pen blank 0) → ltb normal_most n ≡ overlong ts
unfolding overlong
is_overlong ts blank text n l e = ap (λ (k : ℕ). ltb k n) (sym l) ∙ passed-room (normal_of ts) blank text n e ∙ ap (λ (k : ℕ). ltb k (length (normal_of ts))) l
