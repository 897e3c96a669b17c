-- The walks over items: one item more, the end, and what stands past the last item.
use Prim.Native.Nat.{ℕ, zero, suc, ◌+◌, ◌-◌, ◌≤◌, ◌<◌}
use mathlib.Core.Path.{◌≡◌, refl}
use mathlib.Core.Bool.{Bool, true, false}
use mathlib.Core.List.{List, [], ◌∷◌}
use native.Mathlib.Omega.{arith}
use lib.ListN.{length, get_or}
use lib.Dec.{eqb}
use Rattle.base_codes.specs.Codes.{c_do}
use Rattle.base_codes.specs.Sets.{is_part, is_alone, is_lead, is_opening, is_closing}
use Rattle.base_bytes.specs.Choice.{both}
use Rattle.rule_sheets.proofs.Walks.{first_end}
use Rattle.link_places.specs.Places.{is_mark, mark_from, is_place, is_stop, place_from, deeper, close_from, close_of_lem, shallower, open_of, past_option, next_from}

pub past : (l : List ℕ) (i : ℕ) → length l ≤ i → get_or l i 0 ≡ 0
past [] i h = refl
past (x ∷ l) zero h = absurd (omega arith)
past (x ∷ l) (suc i) h = past l i (omega arith)

-- ## places
module _ (cs : List ℕ) (p : ℕ) where
  pub place_past : length cs ≤ p → false ≡ is_place cs p
  unfolding is_place is_alone is_part
  place_past h = rw (past cs p h)

  pub place-alone : {b : Bool} → b ≡ is_alone (get_or cs p 0) → b ≡ true → true ≡ is_place cs p
  unfolding is_place
  place-alone eb h = rw (← eb, h)

  pub place_none : {a b : Bool} → a ≡ is_alone (get_or cs p 0) → a ≡ false → b ≡ is_part (get_or cs p 0) → b ≡ false → false ≡ is_place cs p
  unfolding is_place
  place_none ea h eb k = rw (← ea, h, ← eb, k)

  pub place_phrase : {a b m l r : Bool} {k c d : ℕ} → a ≡ is_alone (get_or cs p 0) → a ≡ false → b ≡ is_part (get_or cs p 0) → b ≡ true
      → c ≡ get_or cs (p - 1) 0 → m ≡ is_mark c → k ≡ mark_from cs (p + 1) → d ≡ get_or cs k 0 → l ≡ is_lead d → r ≡ both m l → r ≡ is_place cs p
  unfolding is_place
  place_phrase ea h eb g ec em ek ed el er = rw (← ea, h, ← eb, g, ← ec, ← em, ← ek, ← ed, ← el) er

  pub next_past : (l : List ℕ) → length cs ≤ p → p ≡ next_from cs l p
  unfolding next_from place_from
  next_past l h = rw (past cs p h) (first_end (is_stop cs) p (length cs - p) (omega arith))

-- ## going on
module _ (cs : List ℕ) (pair i d : ℕ) {a t : Bool} (h : i < length cs) (ea : a ≡ is_closing pair (get_or cs i 0)) (et : t ≡ both a (eqb d 1)) where
  pub close_here : t ≡ true → i ≡ close_from cs pair i d (length cs - i)
  unfolding close_from
  close_here q = let s : length cs - i ≡ suc (length cs - (i + 1)) = omega arith in rw (s, ← ea, ← et, q)

  pub close_more : {e : ℕ} → t ≡ false → e ≡ deeper pair (get_or cs i 0) d → close_from cs pair (i + 1) e (length cs - (i + 1)) ≡ close_from cs pair i d (length cs - i)
  unfolding close_from
  close_more q ee = let s : length cs - i ≡ suc (length cs - (i + 1)) = omega arith in rw (s, ← ea, ← et, q, ee)

pub close_end : (cs : List ℕ) (pair i d : ℕ) → length cs ≤ i → i ≡ close_from cs pair i d (length cs - i)
unfolding close_from
close_end cs pair i d h = let s : length cs - i ≡ 0 = omega arith in rw s

-- ## going back
module _ (cs : List ℕ) (k i d : ℕ) {c : ℕ} {a t : Bool} (q : k ≡ suc i) (ec : c ≡ get_or cs i 0) (ea : a ≡ is_opening 0 c) (et : t ≡ both a (eqb d 1)) where
  pub open_here : t ≡ true → i ≡ open_of cs k d
  unfolding open_of
  open_here h = rw (q, ← ec, ← ea, ← et, h)

  pub open_more : {e : ℕ} → t ≡ false → e ≡ shallower c d → open_of cs i e ≡ open_of cs k d
  unfolding open_of
  open_more h ee = rw (q, ← ec, ← ea, ← et, h, ee)

pub open_end : (cs : List ℕ) (k d : ℕ) → k ≡ 0 → 0 ≡ open_of cs k d
unfolding open_of
open_end cs k d e = rw e

-- ## what follows
module _ (cs l : List ℕ) (k : ℕ) {o c : ℕ} (eo : o ≡ open_of cs k 1) (ec : c ≡ get_or cs o 0) where
  pub option_again : c ≡ c_do → o ≡ past_option cs l k
  unfolding past_option
  option_again h = rw (← eo, ← ec, h)

  pub option_out : {m r : ℕ} → eqb c c_do ≡ false → m ≡ close_of_lem cs 0 k → r ≡ get_or l m 0 → r ≡ past_option cs l k
  unfolding past_option
  option_out h em er = rw (← eo, ← ec, h, ← em) er
