-- One turn of the loop over the kinds, and its end, over plain variables. Assumes nothing.
use Prim.Native.Nat.{ℕ, ◌+◌, ◌≤◌, ◌<◌}
use native.Mathlib.Numerals.{add-one}
use native.Mathlib.Omega.{arith}
use mathlib.Core.Path.{◌≡◌, sym, ◌∙◌}
use mathlib.Core.List.{List}
use lib.ListN.{length, get_or, drop, drop_of_length-le}
use lib.Seq.{drop-cons}
use borrow.Author.Tests.{lt-ltb, le-ltb, lt-leb, le-leb}
use lib.Dec.{leb}
use Rattle.std.specs.Prelude.{None, Some}
use Rattle.std.specs.Bool.{then_some}
use Rattle.base_ceilings.specs.Ceilings.{brackets_most, selections_most}
use Rattle.parse_machine.specs.Depth.{deep, brackets, selections}

-- at place i
module _ (ks : List ℕ) (b s i b' s' whole : ℕ) (h : i < length ks)
    (eb : b' ≡ brackets (get_or ks i 0) b) (es : s' ≡ selections (get_or ks i 0) s)
    (inv : whole ≡ deep (drop i ks) b s i) where
  pub many-brackets : brackets_most < b' → i ≡ whole
  unfolding deep
  many-brackets l = sym (inv ∙ rw (drop-cons ks i 0 h, ← eb, lt-ltb brackets_most b' l))

  pub many-selections : b' ≤ brackets_most → selections_most < s' → i ≡ whole
  unfolding deep
  many-selections m l = sym (inv ∙ rw (drop-cons ks i 0 h, ← eb, ← es, le-ltb brackets_most b' m, lt-ltb selections_most s' l))

  pub none_yet : b' ≤ brackets_most → s' ≤ selections_most → whole ≡ deep (drop (i + 1) ks) b' s' (i + 1)
  unfolding deep
  none_yet m l = inv ∙ rw (drop-cons ks i 0 h, ← eb, ← es, le-ltb brackets_most b' m, le-ltb selections_most s' l, add-one)

pub none_deep : (ks : List ℕ) (b s i whole : ℕ) → i ≡ length ks → whole ≡ deep (drop i ks) b s i → length ks + 1 ≡ whole
unfolding deep
none_deep ks b s i whole e inv =
    let h : length ks ≤ i = omega arith in
    rw (← e) (sym (inv ∙ rw (drop_of_length-le ks h)))

-- a place within is answered as it is; one past the end is no place
pub within : (ks : List ℕ) (i whole : ℕ) → i < length ks → i ≡ whole → Some i ≡ then_some (leb whole (length ks)) whole
within ks i whole h e = rw (← e, le-leb i (length ks) (omega arith))

pub past_end : (ks : List ℕ) (whole : ℕ) → length ks + 1 ≡ whole → None ≡ then_some (leb whole (length ks)) whole
past_end ks whole e = rw (lt-leb whole (length ks) (omega arith))
