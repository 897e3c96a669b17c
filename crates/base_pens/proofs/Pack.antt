-- Laws of packed bytes: poured and settled they are the packed list written; and each comes back.
use Prim.Native.Nat.{ℕ, zero, suc, ◌+◌, ◌/◌, ◌%◌, ◌≤◌, ◌<◌}
use mathlib.Core.Path.{◌≡◌, refl}
use mathlib.Core.List.{List, [], ◌∷◌, ◌++◌}
use native.Mathlib.Omega.{arith}
use native.Mathlib.Numerals.{add-one}
use lib.ListN.{length, get_or, drop, drop_of_length-le}
use lib.Seq.{drop-cons}
use Rattle.base_pens.specs.Pen.{Pen, write, puts}
use Rattle.base_pens.specs.Pack.{four, packed, Bytes, digit, Well, well, drip, pour, settle}

pub pour-append : (xs ys : List ℕ) (w : Well) → pour (xs ++ ys) w ≡ pour ys (pour xs w)
unfolding pour
pour-append [] ys w = refl
pour-append (x ∷ xs) ys w = pour-append xs ys (drip x w)

pub pour-more : (s : List ℕ) (k : ℕ) (w : Well) {w1 : Well} → k < length s → w1 ≡ drip (get_or s k 0) w → pour (drop k s) w ≡ pour (drop (k + 1) s) w1
unfolding pour
pour-more s k w h e = rw (drop-cons s k 0 h, add-one, e)

pub pour_end : (s : List ℕ) (k : ℕ) {w : Well} → length s ≤ k → pour (drop k s) w ≡ w
unfolding pour
pour_end s k h = rw (drop_of_length-le s h)

-- poured and settled is the packed list
pub poured : (s : List ℕ) (w : Pen) → settle (pour s (well w 0 0 0 0)) ≡ puts (packed s) w
unfolding pour drip settle packed puts
poured [] w = refl
poured (a ∷ []) w = refl
poured (a ∷ b ∷ []) w = refl
poured (a ∷ b ∷ c ∷ []) w = refl
poured (a ∷ b ∷ c ∷ d ∷ s) w = poured s (write (four a b c d) w)

pub length-packed : (s : List ℕ) → length (packed s) ≡ (length s + 3) / 4
unfolding packed
length-packed [] = refl
length-packed (a ∷ []) = refl
length-packed (a ∷ b ∷ []) = refl
length-packed (a ∷ b ∷ c ∷ []) = refl
length-packed (a ∷ b ∷ c ∷ d ∷ s) = omega (arith, length-packed s)

module _ (a b c d : ℕ) (ha : a < 256) (hb : b < 256) (hc : c < 256) (hd : d < 256) where
  digit_0 : digit 0 (four a b c d) ≡ a
  unfolding digit four
  digit_0 = omega arith

  digit_1 : digit 1 (four a b c d) ≡ b
  unfolding digit four
  digit_1 = omega arith

  digit_2 : digit 2 (four a b c d) ≡ c
  unfolding digit four
  digit_2 = omega arith

  digit_3 : digit 3 (four a b c d) ≡ d
  unfolding digit four
  digit_3 = omega arith

-- byte k of packed bytes is byte k
pub unpacked : (s : List ℕ) → Bytes s → (k : ℕ) → k < length s → digit (k % 4) (get_or (packed s) (k / 4) 0) ≡ get_or s k 0
unfolding packed
unpacked [] h k lt = absurd (omega arith)
unpacked (a ∷ []) h zero lt = digit_0 a 0 0 0 h.0 (omega arith) (omega arith) (omega arith)
unpacked (a ∷ []) h (suc k) lt = absurd (omega arith)
unpacked (a ∷ b ∷ []) h zero lt = digit_0 a b 0 0 h.0 h.1.0 (omega arith) (omega arith)
unpacked (a ∷ b ∷ []) h (suc zero) lt = digit_1 a b 0 0 h.0 h.1.0 (omega arith) (omega arith)
unpacked (a ∷ b ∷ []) h (suc (suc k)) lt = absurd (omega arith)
unpacked (a ∷ b ∷ c ∷ []) h zero lt = digit_0 a b c 0 h.0 h.1.0 h.1.1.0 (omega arith)
unpacked (a ∷ b ∷ c ∷ []) h (suc zero) lt = digit_1 a b c 0 h.0 h.1.0 h.1.1.0 (omega arith)
unpacked (a ∷ b ∷ c ∷ []) h (suc (suc zero)) lt = digit_2 a b c 0 h.0 h.1.0 h.1.1.0 (omega arith)
unpacked (a ∷ b ∷ c ∷ []) h (suc (suc (suc k))) lt = absurd (omega arith)
unpacked (a ∷ b ∷ c ∷ d ∷ s) h zero lt = digit_0 a b c d h.0 h.1.0 h.1.1.0 h.1.1.1.0
unpacked (a ∷ b ∷ c ∷ d ∷ s) h (suc zero) lt = digit_1 a b c d h.0 h.1.0 h.1.1.0 h.1.1.1.0
unpacked (a ∷ b ∷ c ∷ d ∷ s) h (suc (suc zero)) lt = digit_2 a b c d h.0 h.1.0 h.1.1.0 h.1.1.1.0
unpacked (a ∷ b ∷ c ∷ d ∷ s) h (suc (suc (suc zero))) lt = digit_3 a b c d h.0 h.1.0 h.1.1.0 h.1.1.1.0
unpacked (a ∷ b ∷ c ∷ d ∷ s) h (suc (suc (suc (suc k)))) lt =
    let e : suc (suc (suc (suc k))) % 4 ≡ k % 4 = omega arith in
    let f : suc (suc (suc (suc k))) / 4 ≡ suc (k / 4) = omega arith in
    rw (e, f) (unpacked s h.1.1.1.1 k (omega arith))
