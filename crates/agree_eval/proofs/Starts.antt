-- The links of operators, `otherwise` and `choice`: where the phrase before them starts.
use Prim.Native.Nat.{ℕ, zero, suc, ◌+◌, ◌-◌, ◌≤◌, ◌<◌, min}
use native.Mathlib.Omega.{arith}
use native.Mathlib.Decide.{ℕ_discrete}
use mathlib.Core.Path.{◌≡◌, refl, sym, ap, ◌∙◌}
use mathlib.Core.List.{List}
use lib.ListN.{length, get_or, set, replicate, length-set, length-replicate}
use lib.Seq.{get_or-set_same, get_or-set_other}
use borrow.Author.Tests.{le-leb, lt-leb, ne_eqb, le-ltb}
use Rattle.base_ceilings.specs.Ceilings.{items_most}
use Rattle.base_codes.specs.Codes.{c_choice, c_index, c_named, c_or_else, c_otherwise, c_plain, c_remainder, c_run}
use Rattle.base_codes.specs.Sets.{class_of}
use Rattle.rule_search.specs.Search.{lookup}
use Rattle.rule_sheets.specs.Homes.{homes_of}
use Rattle.rule_sheets.specs.Spans.{starts_of}
use Rattle.link_items.specs.Links.{link_by, link_at, filled_back, links_of}

-- ---- the class of such an item
pub binary_class : (o : ℕ) → 1 ≤ o → o ≤ 18 → class_of (146 + o) ≡ 4
unfolding class_of
binary_class o a b =
    let c = 146 + o in
    rw (lt-leb c_plain c (omega arith), ne_eqb c c_named (λ e. omega arith), lt-leb c_run c (omega arith), le-leb c_or_else c (omega arith), le-leb c c_remainder (omega arith))

pub otherwise_class : class_of c_otherwise ≡ 4
unfolding class_of
otherwise_class = refl

pub choice_class : class_of c_choice ≡ 4
unfolding class_of
choice_class = refl

-- ---- what is filled
module _ (cs vs hs ss : List ℕ) where
  link_four : (l : List ℕ) (j : ℕ) → class_of (get_or cs j 0) ≡ 4 → link_at cs vs hs ss l j ≡ min 4294967295 (get_or ss (j - 1) 0)
  unfolding link_at link_by
  link_four l j e = rw e

  back_keeps : (n j : ℕ) (l : List ℕ) → n ≤ j → get_or (filled_back cs vs hs ss n l) j 0 ≡ get_or l j 0
  unfolding filled_back
  back_keeps zero j l h = refl
  back_keeps (suc n) j l h = back_keeps n j (set l n (link_at cs vs hs ss l n)) (omega arith) ∙ get_or-set_other l n j (link_at cs vs hs ss l n) 0 (λ e. omega arith)

  -- a link that does not look at those behind it
  pub back_at : (n j v : ℕ) (l : List ℕ) → j < n → n ≤ length l → ((m : List ℕ) → link_at cs vs hs ss m j ≡ v) → get_or (filled_back cs vs hs ss n l) j 0 ≡ v
  unfolding filled_back
  back_at zero j v l h k e = absurd (omega arith)
  back_at (suc n) j v l h k e = go (ℕ_discrete j n) (λ z. back_at n j v (set l n (link_at cs vs hs ss l n)) z (omega (arith, length-set l n (link_at cs vs hs ss l n))) e)
    where
      go : Dec (j ≡ n) → (j < n → get_or (filled_back cs vs hs ss n (set l n (link_at cs vs hs ss l n))) j 0 ≡ v) → get_or (filled_back cs vs hs ss n (set l n (link_at cs vs hs ss l n))) j 0 ≡ v
      go (yes z) below =
          ap (λ i. get_or (filled_back cs vs hs ss n (set l n (link_at cs vs hs ss l n))) i 0) z ∙ back_keeps n n (set l n (link_at cs vs hs ss l n)) (omega arith)
          ∙ get_or-set_same l n (link_at cs vs hs ss l n) 0 (omega arith) ∙ ap (link_at cs vs hs ss l) (sym z) ∙ e l
      go (no z) below = below (omega arith)

pub link_starts : (cs vs : List ℕ) (j k : ℕ) → length cs ≤ items_most → j < length cs → class_of (get_or cs j 0) ≡ 4 → get_or (starts_of cs (replicate items_most 0)) (j - 1) 0 ≡ k → k ≤ items_most
    → get_or (links_of cs vs (replicate items_most 0)) j 0 ≡ k
unfolding links_of
link_starts cs vs j k few h e q b =
    let ss = starts_of cs (replicate items_most 0) in
    let z : min 4294967295 k ≡ k = omega arith in
    rw (le-ltb items_most (length cs) few)
    (back_at cs vs (homes_of cs (replicate items_most 0)) ss (length cs) j (min 4294967295 (get_or ss (j - 1) 0)) (replicate items_most 0) h (omega (arith, length-replicate items_most zero)) (λ m. link_four cs vs (homes_of cs (replicate items_most 0)) ss m j e)
    ∙ ap (min 4294967295) q ∙ z)

-- ---- the link of a reference: the declaration that its name means
module _ (cs vs : List ℕ) where
  abbrev hs : List ℕ
  hs = homes_of cs (replicate items_most 0)

  abbrev ss : List ℕ
  ss = starts_of cs (replicate items_most 0)

  link_one : (l : List ℕ) (j : ℕ) → class_of (get_or cs j 0) ≡ 1 → link_at cs vs hs ss l j ≡ min 4294967295 (lookup cs vs hs (get_or vs (get_or ss j 0) 0) (get_or hs j 0) (get_or ss j 0))
  unfolding link_at link_by
  link_one l j e = rw e

  pub link_name : (j m : ℕ) → length cs ≤ items_most → j < length cs → class_of (get_or cs j 0) ≡ 1 → get_or ss j 0 ≡ m
      → get_or (links_of cs vs (replicate items_most 0)) j 0 ≡ min 4294967295 (lookup cs vs hs (get_or vs m 0) (get_or hs j 0) m)
  unfolding links_of
  link_name j m few h e q =
      rw (le-ltb items_most (length cs) few)
      (back_at cs vs hs ss (length cs) j (min 4294967295 (lookup cs vs hs (get_or vs (get_or ss j 0) 0) (get_or hs j 0) (get_or ss j 0))) (replicate items_most 0) h (omega (arith, length-replicate items_most zero)) (λ l. link_one l j e)
      ∙ ap (λ n. min 4294967295 (lookup cs vs hs (get_or vs n 0) (get_or hs j 0) n)) q)

pub reference_class : (class_of c_plain ≡ 1) × (class_of c_index ≡ 1)
unfolding class_of
reference_class = (refl, refl)
