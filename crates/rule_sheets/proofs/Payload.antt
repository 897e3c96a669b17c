-- The laws of formats: one byte more, and the end.
use Prim.Native.Nat.{ℕ, ◌+◌, ◌*◌, ◌≤◌, ◌<◌}
use mathlib.Core.Path.{◌≡◌}
use mathlib.Core.Bool.{Bool, true, false}
use mathlib.Core.List.{List}
use native.Mathlib.Omega.{arith}
use native.Mathlib.Numerals.{add-one}
use lib.ListN.{length, get_or, drop, drop_of_length-le}
use lib.Seq.{drop-cons}
use lib.Dec.{eqb}
use Rattle.base_bytes.specs.Choice.{pick}
use Rattle.spec_text.specs.Formats.{format_from, move_of}

module _ (opened : Bool) (n bad : ℕ) (s : List ℕ) (i : ℕ) where
  pub format-more : {m n2 bad2 : ℕ} → i < length s → m ≡ move_of opened (get_or s i 0) → n2 ≡ pick (eqb m 2) 1 0 → bad2 ≡ pick (eqb m 3) 1 bad →
      format_from (eqb m 1) (n + n2) bad2 (drop (i + 1) s) ≡ format_from opened n bad (drop i s)
  unfolding format_from
  format-more h em en eb = rw (drop-cons s i 0 h, add-one, en, eb, em)

  pub format_end : {b : ℕ} → length s ≤ i → b ≡ pick opened 1 bad → 2 * n + b ≡ format_from opened n bad (drop i s)
  unfolding format_from
  format_end h e = rw (drop_of_length-le s h, e)

-- a choice of 1 or 0 is at most 1
pub one_most : (t : Bool) {r : ℕ} → r ≡ pick t 1 0 → r ≤ 1
one_most true e = omega arith
one_most false e = omega arith

pub chosen_most : (t : Bool) {r b : ℕ} → r ≡ pick t 1 b → b ≤ 1 → r ≤ 1
chosen_most true e h = omega arith
chosen_most false e h = omega arith
