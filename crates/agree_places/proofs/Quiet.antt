-- Items among which no place stands, or none but the first: phrases whose marks begin no statement, and statements that hold no other.
use Prim.Native.Nat.{ℕ, suc, ◌+◌, ◌-◌, ◌≤◌, ◌<◌}
use native.Mathlib.Omega.{arith}
use native.Mathlib.Decide.{dec_lt, ℕ_discrete}
use mathlib.Core.Path.{◌≡◌, refl, sym as inv, ap, ◌∙◌, subst}
use mathlib.Core.Bool.{Bool, true, false}
use mathlib.Core.List.{List, [], ◌∷◌, ◌++◌}
use lib.ListN.{length, get_or, length-append}
use Rattle.base_bytes.proofs.Tests.{true_false}
use Rattle.base_codes.specs.Items.{Item, code_of}
use Rattle.base_codes.specs.Sets.{is_part}
use Rattle.parse_code.specs.Code.{code}
use Rattle.table_entries.specs.Items.{AllKnown}
use Rattle.link_places.specs.Places.{is_place, is_stop, place_from}
use Rattle.link_phrases_proof.specs.Phrases.{At}
use Rattle.link_phrases_proof.proofs.Starts.{at_front, at_back}
use Rattle.read_accepts_proof.specs.Meaning.{Accepts}
use Rattle.keep_tables.proofs.Firsts.{first_is, first_most}
use Rattle.agree_eval.specs.Names.{codes_at}
use Rattle.agree_eval.proofs.Operators.{known-front, known-back}
use Rattle.agree_eval.proofs.Ranges.{Every, InPart}
use Rattle.agree_nesting.proofs.Leaves.{quiet, Mark, Phrases, none, said, Leafy, led, alone}
use Rattle.agree_control.proofs.Begins.{stop_if, quiet-not, part_else, Dull, dull_skip}
use Rattle.agree_stage.proofs.Stands.{Lying}
use Rattle.agree_offers.proofs.Places.{at_there, known_there, ends_there}

-- before a number, or not
pub either_side : {R : Type 0} (x m : ℕ) → (x < m → R) → (m ≤ x → R) → R
either_side {R} x m f g = go (dec_lt x m)
  where
    go : Dec (x < m) → R
    go (yes h) = f h
    go (no h) = g (omega arith)

-- what holds of the codes of all items of a list holds of each code where they stand
pub every_at : (P : ℕ → Type 0) (cs : List ℕ) (l : List Item) (k x : ℕ) → Every P l → AllKnown l → At cs k l → k ≤ x → x < k + length l → P (get_or cs x 0)
every_at P cs [] k x e n h g d = absurd (omega arith)
every_at P cs (y ∷ l) k x e n h g d =
    either_side x (suc k) (λ v. subst (λ i. P (get_or cs i 0)) (let z : k ≡ x = omega arith in z) (subst P (inv h.0) (e.0 n.0))) (λ v. every_at P cs l (suc k) x e.1 n.1 h.1 v (omega arith))

tail-dull : {l : List Item} → Phrases (Mark false) l → Dull l
tail-dull none = none
tail-dull (said p y e m q) = said p y e (m.0, m.1) (tail-dull q)

module _ (cs : List ℕ) where
  pub quiet_none : (x c : ℕ) → get_or cs x 0 ≡ c → quiet c ≡ true → is_place cs x ≡ true → ⊥
  quiet_none x c e q h = true_false (inv (stop_if cs x h) ∙ quiet-not cs x c e q)

  dull-none : {l : List Item} → Dull l → AllKnown l → (k x : ℕ) → At cs k l → k + length l ≤ length cs → k ≤ x → x < k + length l → is_place cs x ≡ true → ⊥
  unfolding place_from
  dull-none {l} d n k x h g a b e =
      let s = dull_skip cs d n k h g in
      let m = first_most (is_stop cs) k (length cs - k) x a (stop_if cs x e) in
      let f = (first_is (is_stop cs) (length cs - (k + length l)) (k + length l)).from in
      omega arith

  -- parts of an expression behind another
  part_none : (x : ℕ) → is_part (get_or cs x 0) ≡ true → is_part (get_or cs (x - 1) 0) ≡ true → is_place cs x ≡ true → ⊥
  unfolding is_place
  part_none x p b h = true_false (inv h ∙ rw ((part_else (get_or cs x 0) p).0, p, b))

  parts_none : (p : List Item) → Every InPart p → AllKnown p → (k x : ℕ) → is_part (get_or cs k 0) ≡ true → At cs (suc k) p → k < x → x < suc k + length p → is_place cs x ≡ true → ⊥
  parts_none [] e a k x b h g d z = omega arith
  parts_none (y ∷ p) e a k x b h g d z = go (ℕ_discrete x (suc k)) (parts_none p e.1 a.1 (suc k) x part h.1)
    where
      part : is_part (get_or cs (suc k) 0) ≡ true
      part = ap is_part h.0 ∙ e.0 a.0

      go : Dec (x ≡ suc k) → (suc k < x → x < suc (suc k) + length p → is_place cs x ≡ true → ⊥) → ⊥
      go (yes w) on = part_none x (ap (λ i. is_part (get_or cs i 0)) w ∙ part) (ap (λ i. is_part (get_or cs i 0)) (let v : x - 1 ≡ k = omega arith in v) ∙ b) z
      go (no w) on = on (omega arith) (omega arith) z

  leaf_lone : {b : Bool} {l : List Item} → Leafy b l → AllKnown l → (i x : ℕ) → At cs i l → i + length l ≤ length cs → i ≤ x → x < i + length l → is_place cs x ≡ true → x ≡ i
  leaf_lone (led [] y n e m q) a i x h g b d f = absurd (omega arith)
  leaf_lone (led (z ∷ p) y {l} n e m q) a i x h g b d f = go (ℕ_discrete x i) (dec_lt x j) (ℕ_discrete x j)
    where
      j : ℕ
      j = suc i + length p

      back : At cs j (y ∷ l)
      back = at_back cs p (y ∷ l) (suc i) j refl h.1

      long : length (p ++ y ∷ l) ≡ length p + suc (length l)
      long = length-append p (y ∷ l)

      go : Dec (x ≡ i) → Dec (x < j) → Dec (x ≡ j) → x ≡ i
      go (yes w) v u = w
      go (no w) (yes v) u =
          absurd (parts_none p e.1 (known-front p (y ∷ l) a.1) i x (ap is_part h.0 ∙ e.0 a.0) (at_front cs (suc i) p (y ∷ l) h.1) (omega arith) v f)
      go (no w) (no v) (yes u) = absurd (quiet_none x (code_of y) (ap (λ k. get_or cs k 0) u ∙ back.0) m.0 f)
      go (no w) (no v) (no u) =
          absurd (dull-none (tail-dull q) (known-back p (y ∷ l) a.1).1 (suc j) x back.1 (omega (arith, long)) (omega arith) (omega (arith, long)) f)
  leaf_lone (alone y s c q) a i x h g b d f = go (ℕ_discrete x i)
    where
      go : Dec (x ≡ i) → x ≡ i
      go (yes w) = w
      go (no w) = absurd (dull-none (tail-dull q) a.1 (suc i) x h.1 (omega arith) (omega arith) (omega arith) f)

-- ---- in an accepted text
module _ (t : List ℕ) (a : Accepts t) where
  abbrev pub C : List ℕ
  C = codes_at t a

  abbrev pub L : List Item → ℕ → Type 0
  L l j = Lying (code a.tree) 0 l j

  -- no place among n items from item i on; none but the first
  abbrev pub Quiet : ℕ → ℕ → Type 0
  Quiet i n = (x : ℕ) → i ≤ x → x < i + n → is_place C x ≡ true → ⊥

  abbrev pub Lone : ℕ → ℕ → Type 0
  Lone i n = (x : ℕ) → i ≤ x → x < i + n → is_place C x ≡ true → x ≡ i

  pub dull-quiet : {l : List Item} (j : ℕ) → (AllKnown l → Dull l) → L l j → Quiet j (length l)
  dull-quiet {l} j d p x b e h = let k = known_there t a l j p in dull-none C (d k) k j x (at_there t a l j p) (ends_there t a l j p) b e h

  pub leafy_lone : {b : Bool} {l : List Item} (j : ℕ) → Leafy b l → L l j → Lone j (length l)
  leafy_lone {l = l} j y p x b e h = leaf_lone C y (known_there t a l j p) j x (at_there t a l j p) (ends_there t a l j p) b e h
