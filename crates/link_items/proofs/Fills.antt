-- How the links are filled: one item more, the end, and that the array stays as it is where there is too much.
use Prim.Native.Nat.{ℕ, suc, ◌≤◌, ◌<◌, min}
use mathlib.Core.Path.{◌≡◌}
use mathlib.Core.List.{List}
use lib.ListN.{length, get_or, set, replicate}
use borrow.Author.Tests.{lt-ltb, le-ltb}
use Rattle.base_ceilings.specs.Ceilings.{items_most}
use Rattle.rule_sheets.specs.Homes.{homes_of}
use Rattle.rule_sheets.specs.Spans.{starts_of}
use Rattle.link_items.specs.Links.{link_by, link_at, filled_back, links_of}
use Rattle.base_codes.specs.Sets.{class_of}

module _ (cs vs hs ss : List ℕ) where
  pub back_more : (j i : ℕ) (l m : List ℕ) {k v : ℕ} → j ≡ suc i → k ≡ class_of (get_or cs i 0) → v ≡ link_by cs vs hs ss k l i → m ≡ set l i (min 4294967295 v)
      → filled_back cs vs hs ss i m ≡ filled_back cs vs hs ss j l
  unfolding filled_back link_at
  back_more j i l m q ek ev em = rw (q, em, ev, ek)

  pub back_end : (j : ℕ) (l : List ℕ) → j ≡ 0 → l ≡ filled_back cs vs hs ss j l
  unfolding filled_back
  back_end j l q = rw q

pub links_long : (cs vs l : List ℕ) → items_most < length cs → l ≡ links_of cs vs l
unfolding links_of
links_long cs vs l h = simp (lt-ltb items_most (length cs) h)

pub links-filled : (cs vs l m : List ℕ) {hs ss : List ℕ} → length cs ≤ items_most → hs ≡ homes_of cs (replicate items_most 0) → ss ≡ starts_of cs (replicate items_most 0)
    → m ≡ filled_back cs vs hs ss (length cs) l → m ≡ links_of cs vs l
unfolding links_of
links-filled cs vs l m h eh es em = simp (le-ltb items_most (length cs) h, ← eh, ← es) em
