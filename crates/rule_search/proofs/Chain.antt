-- That the chain passes no declaration over, and that a search which follows one finds what a search over all items finds. Assumes nothing.
use Prim.Native.Nat.{ℕ, zero, suc, ◌+◌, ◌-◌, ◌≤◌, ◌<◌}
use mathlib.Core.Path.{◌≡◌, refl, sym, ◌∙◌, ap}
use mathlib.Core.Bool.{Bool, true, false}
use mathlib.Core.List.{List}
use native.Mathlib.Omega.{arith}
use native.Mathlib.Decide.{ℕ_discrete}
use lib.ListN.{length, get_or, set, replicate, length-set, length-replicate}
use lib.Seq.{get_or-set_same, get_or-set_other}
use lib.Dec.{eqb, ltb}
use borrow.Author.Tests.{ltb-true, ltb-false, lt-ltb, le-ltb, ne_eqb, eqb-true}
use Rattle.base_ceilings.specs.Ceilings.{items_most}
use Rattle.base_bytes.specs.Choice.{pick, both, either}
use Rattle.base_bytes.proofs.Tests.{both_true, both_no}
use Rattle.rule_sheets.specs.Walks.{filled}
use Rattle.rule_search.specs.Sets.{among}
use Rattle.rule_search.specs.Search.{declares, find}
use Rattle.rule_search.specs.Chain.{is_named, names, Chained, linked, linked_back, chain_of, head_of, next_of}
use Rattle.rule_search.proofs.Rest.{rest, rest-whole, skip}

-- ---- an item that declares no name w is none that a search for w stops at
module _ (cs vs hs : List ℕ) (w h d : ℕ) where
  unheard : (s t v u : Bool) → both (either s t) v ≡ false → (pick s (both v u) false ≡ false) × (pick t (both v u) false ≡ false)
  unheard true true v u e = (rw e, rw e)
  unheard true false v u e = (rw e, refl)
  unheard false true v u e = (refl, rw e)
  unheard false false v u e = (refl, refl)

  quiet : (set : ℕ) → set < 3 → names cs vs w d ≡ false → declares cs vs hs set w h d ≡ false
  unfolding declares names is_named among
  quiet zero l e = refl
  quiet (suc zero) l e = (unheard (among 1 (get_or cs d 0)) (among 2 (get_or cs d 0)) (eqb (get_or vs (d - 1) 0) w) (eqb (get_or hs d 0) h) e).0
  quiet (suc (suc zero)) l e = (unheard (among 1 (get_or cs d 0)) (among 2 (get_or cs d 0)) (eqb (get_or vs (d - 1) 0) w) (eqb (get_or hs d 0) h) e).1
  quiet (suc (suc (suc n))) l e = absurd (omega arith)

-- ---- following a chain
pub both_less : (a : Bool) (d e : ℕ) {b : Bool} → b ≡ both a (ltb d e) → b ≡ true → d < e
both_less a d e eb h = ltb-true d e (both_true a (ltb d e) (sym eb ∙ h)).1

module _ (cs vs hs l : List ℕ) (set w h to : ℕ) (c : Chained cs vs l) (s : set < 3) where
  before_head : (i : ℕ) → i < head_of l w → names cs vs w i ≡ false
  unfolding head_of
  before_head i k = go (ltb w items_most) refl k
    where
      go : (t : Bool) → ltb w items_most ≡ t → i < pick t (get_or l w 0) 0 → names cs vs w i ≡ false
      go true e k = c.heads w i (ltb-true w items_most e) k
      go false e k = absurd (omega arith)

  pub head-start : {d : ℕ} → (w ≡ 0 → ⊥) → d ≡ head_of l w → rest (declares cs vs hs set w h) d to ≡ find cs vs hs set w h to
  unfolding find
  head-start {d} n e =
      skip (declares cs vs hs set w h) 0 d to (omega arith) (λ i a b. quiet cs vs hs w h i set s (before_head i (rw (sym e) b)))
      ∙ rest-whole (declares cs vs hs set w h) to ∙ simp (ne_eqb w 0 n)

  before-next : (d i : ℕ) → d < i → i < next_of vs l w d → names cs vs w i ≡ false
  unfolding next_of
  before-next d i k m = go (eqb (get_or vs (d - 1) 0) w) refl (ltb d (get_or l (d + items_most) 0)) m
    where
      go : (t : Bool) → eqb (get_or vs (d - 1) 0) w ≡ t → (u : Bool) → i < pick (both t u) (get_or l (d + items_most) 0) (d + 1) → names cs vs w i ≡ false
      go true e true m = rw (eqb-true (get_or vs (d - 1) 0) w e) at (c.nexts d i k m)
      go true e false m = absurd (omega arith)
      go false e u m = absurd (omega arith)

  pub go_on : (d : ℕ) {r : ℕ} {b : Bool} → d < r → r ≡ next_of vs l w d → b ≡ declares cs vs hs set w h d → b ≡ false → rest (declares cs vs hs set w h) r to ≡ rest (declares cs vs hs set w h) d to
  go_on d {r} {b} k e eb f = skip (declares cs vs hs set w h) d r to (omega arith) (λ i a m. at i (ltb d i) refl a m)
    where
      at : (i : ℕ) (t : Bool) → ltb d i ≡ t → d ≤ i → i < r → declares cs vs hs set w h i ≡ false
      at i true x a m = quiet cs vs hs w h i set s (before-next d i (ltb-true d i x) (rw (sym e) m))
      at i false x a m = let q : d ≡ i = omega (arith, ltb-false d i x) in rw q at (sym eb ∙ f)

-- ---- filling a chain: one item more, the end, and that the array stays as it is where there is too much
module _ (cs vs : List ℕ) where
  pub back_more : (j i : ℕ) (l m : List ℕ) → j ≡ suc i → m ≡ linked cs vs l i → linked_back cs vs i m ≡ linked_back cs vs j l
  unfolding linked_back
  back_more j i l m q em = rw (q, em)

  pub back_end : (j : ℕ) (l : List ℕ) → j ≡ 0 → l ≡ linked_back cs vs j l
  unfolding linked_back
  back_end j l q = rw q

  pub chain_long : (l : List ℕ) → items_most < length cs → l ≡ chain_of cs vs l
  unfolding chain_of
  chain_long l h = simp (lt-ltb items_most (length cs) h)

  pub chain_filled : (l m k : List ℕ) → length cs ≤ items_most → m ≡ filled (λ q w. length cs) 0 (length cs) l → k ≡ linked_back cs vs (length cs) m → k ≡ chain_of cs vs l
  unfolding chain_of
  chain_filled l m k h em ek = simp (le-ltb items_most (length cs) h, ← em) ek

-- ---- a chain that holds the items from j on
module _ (cs vs : List ℕ) where
  record From (j : ℕ) (l : List ℕ) : Type 0 where
    room : length l ≡ items_most + items_most
    firsts : (w i : ℕ) → w < items_most → j ≤ i → i < get_or l w 0 → names cs vs w i ≡ false
    others : (d i : ℕ) → d < i → i < get_or l (d + items_most) 0 → names cs vs (get_or vs (d - 1) 0) i ≡ false

  unnamed : (w j : ℕ) → is_named (get_or cs j 0) ≡ false → names cs vs w j ≡ false
  unfolding names
  unnamed w j e = rw e

  named_other : (w j : ℕ) → (get_or vs (j - 1) 0 ≡ w → ⊥) → names cs vs w j ≡ false
  unfolding names
  named_other w j n = rw (ne_eqb (get_or vs (j - 1) 0) w n) (both_no (is_named (get_or cs j 0)) refl)

  -- one item more, which declares no w
  one_more_lem : (j w i : ℕ) (l : List ℕ) → From (suc j) l → names cs vs w j ≡ false → w < items_most → j ≤ i → i < get_or l w 0 → names cs vs w i ≡ false
  one_more_lem j w i l f none a b k = go (ltb j i) refl
    where
      go : (t : Bool) → ltb j i ≡ t → names cs vs w i ≡ false
      go true e = f.firsts w i a (omega (arith, ltb-true j i e)) k
      go false e = let q : j ≡ i = omega (arith, ltb-false j i e) in rw q at none

  -- item j stays out of the chain
  unlinked : (j : ℕ) (l : List ℕ) → From (suc j) l → ((w : ℕ) → w < items_most → names cs vs w j ≡ false) → From j l
  unlinked j l f none = record { room = f.room; firsts = λ w i a b k. one_more_lem j w i l f (none w a) a b k; others = f.others }

  -- item j is put before the others of its name v
  module _ (j v : ℕ) (l : List ℕ) (hj : j < items_most) (hv : v < items_most) (ev : get_or vs (j - 1) 0 ≡ v) (f : From (suc j) l) where
    mid : List ℕ
    mid = set l (j + items_most) (get_or l v 0)

    mid_room : length mid ≡ items_most + items_most
    unfolding mid
    mid_room = length-set l (j + items_most) (get_or l v 0) ∙ f.room

    heads_on : (w i : ℕ) → w < items_most → j ≤ i → i < get_or (set mid v j) w 0 → Dec (w ≡ v) → names cs vs w i ≡ false
    unfolding mid
    heads_on w i a b k (yes e) =
        let q : get_or (set mid v j) w 0 ≡ j = ap (λ n. get_or (set mid v j) n 0) e ∙ get_or-set_same mid v j 0 (omega (arith, mid_room)) in
        absurd (omega (arith, q))
    heads_on w i a b k (no n) =
        let q : get_or (set mid v j) w 0 ≡ get_or l w 0 = get_or-set_other mid v w j 0 n ∙ get_or-set_other l (j + items_most) w (get_or l v 0) 0 (λ e. omega arith) in
        one_more_lem j w i l f (named_other w j (λ e. n (sym e ∙ ev))) a b (rw q at k)

    nexts_on : (d i : ℕ) → d < i → i < get_or (set mid v j) (d + items_most) 0 → Dec (d ≡ j) → names cs vs (get_or vs (d - 1) 0) i ≡ false
    unfolding mid
    nexts_on d i a k (yes e) =
        let q : get_or (set mid v j) (d + items_most) 0 ≡ get_or l v 0 = get_or-set_other mid v (d + items_most) j 0 (λ z. omega arith) ∙ ap (λ n. get_or mid (n + items_most) 0) e ∙ get_or-set_same l (j + items_most) (get_or l v 0) 0 (omega (arith, f.room)) in
        let z : get_or vs (d - 1) 0 ≡ v = ap (λ n. get_or vs (n - 1) 0) e ∙ ev in
        rw z (f.firsts v i hv (omega (arith, e)) (rw q at k))
    nexts_on d i a k (no n) =
        let q : get_or (set mid v j) (d + items_most) 0 ≡ get_or l (d + items_most) 0 = get_or-set_other mid v (d + items_most) j 0 (λ z. omega arith) ∙ get_or-set_other l (j + items_most) (d + items_most) (get_or l v 0) 0 (λ z. n (omega arith)) in
        f.others d i a (rw q at k)

    relinked : From j (set (set l (j + items_most) (get_or l v 0)) v j)
    unfolding mid
    relinked = record { room = length-set mid v j ∙ mid_room; firsts = λ w i a b k. heads_on w i a b k (ℕ_discrete w v); others = λ d i a k. nexts_on d i a k (ℕ_discrete d j) }

  one-linked : (j : ℕ) (l : List ℕ) → j < items_most → From (suc j) l → From j (linked cs vs l j)
  unfolding linked
  one-linked j l h f = go (is_named (get_or cs j 0)) refl (ltb (get_or vs (j - 1) 0) items_most) refl
    where
      go : (s : Bool) → is_named (get_or cs j 0) ≡ s → (t : Bool) → ltb (get_or vs (j - 1) 0) items_most ≡ t
          → From j (pick (both s t) (set (set l (j + items_most) (get_or l (get_or vs (j - 1) 0) 0)) (get_or vs (j - 1) 0) j) l)
      go true es true et = relinked j (get_or vs (j - 1) 0) l h (ltb-true (get_or vs (j - 1) 0) items_most et) refl f
      go true es false et = let z = ltb-false (get_or vs (j - 1) 0) items_most et in unlinked j l f (λ w a. named_other w j (λ e. omega (arith, z, e)))
      go false es t et = unlinked j l f (λ w a. unnamed w j es)

  all-linked : (j : ℕ) (l : List ℕ) → j ≤ items_most → From j l → From 0 (linked_back cs vs j l)
  unfolding linked_back
  all-linked zero l h f = f
  all-linked (suc j) l h f = all-linked j (linked cs vs l j) (omega arith) (one-linked j l (omega arith) f)

-- ---- before any item is in it: no number is above that of the items, and those of the second half are 0
module _ (n : ℕ) where
  record Low (l : List ℕ) : Type 0 where
    size : length l ≡ items_most + items_most
    low : (w : ℕ) → get_or l w 0 ≤ n
    still : (d : ℕ) → get_or l (d + items_most) 0 ≡ 0

  low-set : (w : ℕ) (l : List ℕ) → w < items_most → Low l → Low (set l w n)
  low-set w l h f = record { size = length-set l w n ∙ f.size; low = λ v. go v (ℕ_discrete v w); still = λ d. get_or-set_other l w (d + items_most) n 0 (λ e. omega arith) ∙ f.still d }
    where
      go : (v : ℕ) → Dec (v ≡ w) → get_or (set l w n) v 0 ≤ n
      go v (yes e) = let q : get_or (set l w n) v 0 ≡ n = ap (λ k. get_or (set l w n) k 0) e ∙ get_or-set_same l w n 0 (omega (arith, f.size)) in omega (arith, q)
      go v (no e) = let q : get_or (set l w n) v 0 ≡ get_or l v 0 = get_or-set_other l w v n 0 e in omega (arith, q, f.low v)

  low-filled : (i k : ℕ) (l : List ℕ) → i + k ≤ items_most → Low l → Low (filled (λ m w. n) i k l)
  unfolding filled
  low-filled i zero l h f = f
  low-filled i (suc k) l h f = low-filled (i + 1) k (set l i n) (omega arith) (low-set i l (omega arith) f)

get_d_blank : (m k : ℕ) → ◌≡◌ {A = ℕ} (get_or (replicate m 0) k 0) 0
get_d_blank zero k = refl
get_d_blank (suc m) zero = refl
get_d_blank (suc m) (suc k) = get_d_blank m k

-- the chain of a model, in an array of numbers 0
pub chained : (cs vs : List ℕ) → Chained cs vs (chain_of cs vs (replicate (items_most + items_most) 0))
unfolding chain_of
chained cs vs = go (ltb items_most (length cs)) refl
  where
    none : (k : ℕ) → ◌≡◌ {A = ℕ} (get_or (replicate (items_most + items_most) 0) k 0) 0
    none k = get_d_blank (items_most + items_most) k

    low : Low (length cs) (replicate (items_most + items_most) 0)
    low = record { size = length-replicate {A = ℕ} (items_most + items_most) 0; low = λ w. omega (arith, none w); still = λ d. none (d + items_most) }

    start : Low (length cs) (filled (λ m w. length cs) 0 (length cs) (replicate (items_most + items_most) 0)) → From cs vs (length cs) (filled (λ m w. length cs) 0 (length cs) (replicate (items_most + items_most) 0))
    start f = record { room = f.size; firsts = λ w i a b k. absurd (omega (arith, f.low w)); others = λ d i a k. absurd (omega (arith, f.still d)) }

    ended : {l : List ℕ} → From cs vs 0 l → Chained cs vs l
    ended f = record { heads = λ w i a k. f.firsts w i a (omega arith) k; nexts = f.others }

    go : (t : Bool) → ltb items_most (length cs) ≡ t → Chained cs vs (pick t (replicate (items_most + items_most) 0) (linked_back cs vs (length cs) (filled (λ m w. length cs) 0 (length cs) (replicate (items_most + items_most) 0))))
    go true e = record { heads = λ w i a k. absurd (omega (arith, none w)); nexts = λ d i a k. absurd (omega (arith, none (d + items_most))) }
    go false e = let h = ltb-false items_most (length cs) e in ended (all-linked cs vs (length cs) (filled (λ m w. length cs) 0 (length cs) (replicate (items_most + items_most) 0)) h (start (low-filled (length cs) 0 (length cs) (replicate (items_most + items_most) 0) (omega (arith, h)) low)))
