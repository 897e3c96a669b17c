-- What stands in the array of links: at each item its link by its class, where the links behind it are there.
use Prim.Native.Nat.{ℕ, zero, suc, ◌≤◌, ◌<◌, min}
use mathlib.Core.Path.{◌≡◌, refl, sym, ap, ◌∙◌}
use mathlib.Core.List.{List}
use native.Mathlib.Omega.{arith}
use native.Mathlib.Decide.{ℕ_discrete}
use lib.ListN.{length, get_or, set, replicate, length-set, length-replicate}
use lib.Seq.{get_or-set_same, get_or-set_other}
use borrow.Author.Tests.{le-ltb}
use Rattle.base_ceilings.specs.Ceilings.{items_most}
use Rattle.link_items.specs.Links.{link_by, link_at, filled_back, links_of}
use Rattle.keep_tables.specs.Facts.{homes, starts, links_in}
use Rattle.base_codes.specs.Sets.{class_of}

module _ (cs vs hs ss : List ℕ) where
  pub back_keeps : (n : ℕ) (l : List ℕ) (k : ℕ) → n ≤ k → get_or (filled_back cs vs hs ss n l) k 0 ≡ get_or l k 0
  unfolding filled_back
  back_keeps zero l k h = refl
  back_keeps (suc n) l k h = back_keeps n (set l n (link_at cs vs hs ss l n)) k (omega arith) ∙ get_or-set_other l n k (link_at cs vs hs ss l n) 0 (λ e. omega arith)

  -- the link of item k, from an array m that has the links behind it
  back_at : (n : ℕ) (l : List ℕ) (k : ℕ) → k < n → n ≤ length l
      → (m : List ℕ) × (get_or (filled_back cs vs hs ss n l) k 0 ≡ link_at cs vs hs ss m k) × ((i : ℕ) → k < i → get_or m i 0 ≡ get_or (filled_back cs vs hs ss n l) i 0)
  unfolding filled_back
  back_at zero l k h g = absurd (omega arith)
  back_at (suc n) l k h g = go (ℕ_discrete k n) (λ d. back_at n (set l n (link_at cs vs hs ss l n)) k d (let e = length-set l n (link_at cs vs hs ss l n) in omega arith))
    where
      x : List ℕ
      x = set l n (link_at cs vs hs ss l n)

      go : Dec (k ≡ n)
          → (k < n → (m : List ℕ) × (get_or (filled_back cs vs hs ss n (set l n (link_at cs vs hs ss l n))) k 0 ≡ link_at cs vs hs ss m k) × ((i : ℕ) → k < i → get_or m i 0 ≡ get_or (filled_back cs vs hs ss n (set l n (link_at cs vs hs ss l n))) i 0))
          → (m : List ℕ) × (get_or (filled_back cs vs hs ss n (set l n (link_at cs vs hs ss l n))) k 0 ≡ link_at cs vs hs ss m k) × ((i : ℕ) → k < i → get_or m i 0 ≡ get_or (filled_back cs vs hs ss n (set l n (link_at cs vs hs ss l n))) i 0)
      go (yes e) r =
          (l, back_keeps n (set l n (link_at cs vs hs ss l n)) k (omega arith) ∙ ap (get_or' (set l n (link_at cs vs hs ss l n))) e ∙ get_or-set_same l n (link_at cs vs hs ss l n) 0 (omega arith) ∙ ap (link_at cs vs hs ss l) (sym e), λ i b. sym (back_keeps n (set l n (link_at cs vs hs ss l n)) i (omega arith) ∙ get_or-set_other l n i (link_at cs vs hs ss l n) 0 (λ z. omega arith)))
        where
          get_or' : List ℕ → ℕ → ℕ
          get_or' y j = get_or y j 0
      go (no d) r = r (omega arith)

pub link_is : (cs vs : List ℕ) (k : ℕ) → length cs ≤ items_most → k < length cs
    → (m : List ℕ) × (get_or (links_in cs vs) k 0 ≡ min 4294967295 (link_by cs vs (homes cs) (starts cs) (class_of (get_or cs k 0)) m k)) × ((i : ℕ) → k < i → get_or m i 0 ≡ get_or (links_in cs vs) i 0)
unfolding links_of link_at
link_is cs vs k f h = rw (le-ltb items_most (length cs) f) (back_at cs vs (homes cs) (starts cs) (length cs) (replicate items_most 0) k h (omega (arith, length-replicate {A = ℕ} items_most 0)))
