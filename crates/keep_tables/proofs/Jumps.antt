-- Labels: what a search for one finds, and where the link of a goto leads.
use Prim.Native.Nat.{ℕ, ◌+◌, ◌-◌, ◌<◌}
use mathlib.Core.Path.{◌≡◌, refl, sym, ap, ◌∙◌}
use mathlib.Core.Bool.{Bool, true, false}
use mathlib.Core.List.{List}
use native.Mathlib.Omega.{arith}
use lib.ListN.{length, get_or}
use lib.Dec.{eqb, ltb}
use borrow.Author.Tests.{eqb-true, ltb-true}
use Rattle.base_codes.specs.Codes.{c_end_body, c_goto, c_label}
use Rattle.base_codes.specs.Sets.{rule_of, class_of}
use Rattle.base_bytes.specs.Choice.{pick, both}
use Rattle.base_bytes.proofs.Tests.{both_true, true_false}
use Rattle.rule_sheets.specs.Walks.{first}
use Rattle.rule_search.specs.Sets.{among}
use Rattle.rule_search.specs.Search.{declares, find}
use Rattle.rule_item.specs.Rules.{bad_goto, bad_by}
use Rattle.table_layout.specs.Access.{link_of}
use Rattle.link_places.specs.Places.{place_from}
use Rattle.link_items.specs.Links.{link_by}
use Rattle.keep_tables.specs.Well.{Unit, Inside}
use Rattle.keep_tables.specs.Held.{Held}
use Rattle.keep_tables.specs.Facts.{homes, starts, heights, links_in, Facts}
use Rattle.keep_tables.proofs.Units.{span_of}
use Rattle.keep_tables.proofs.Homes.{body_inside}
use Rattle.keep_tables.proofs.Firsts.{first_is}

-- ---- what a search finds
module _ (cs vs hs : List ℕ) where
  pub find-says : (set w h to : ℕ) → find cs vs hs set w h to < to → declares cs vs hs set w h (find cs vs hs set w h to) ≡ true
  unfolding find
  find-says set w h to = go (eqb w 0)
    where
      go : (b : Bool) → pick b to (first (declares cs vs hs set w h) 0 to) < to → declares cs vs hs set w h (pick b to (first (declares cs vs hs set w h) 0 to)) ≡ true
      go true l = absurd (omega arith)
      go false l = (first_is (declares cs vs hs set w h) to 0).holds (omega arith)

  pub declared-says : (set w h d : ℕ) → declares cs vs hs set w h d ≡ true → (among set (get_or cs d 0) ≡ true) × (get_or hs d 0 ≡ h)
  unfolding declares
  declared-says set w h d = go (among set (get_or cs d 0)) refl
    where
      go : (b : Bool) → among set (get_or cs d 0) ≡ b → pick b (both (eqb (get_or vs (d - 1) 0) w) (eqb (get_or hs d 0) h)) false ≡ true → (among set (get_or cs d 0) ≡ true) × (get_or hs d 0 ≡ h)
      go true e q = (e, eqb-true (get_or hs d 0) h (both_true (eqb (get_or vs (d - 1) 0) w) (eqb (get_or hs d 0) h) q).1)
      go false e q = absurd (true_false (sym q))

pub label-code : (c : ℕ) → among 2 c ≡ true → c ≡ c_label
unfolding among
label-code c e = eqb-true c c_label e

module _ (t cs vs : List ℕ) (H : Held t cs vs (links_in cs vs)) (K : Facts cs vs) (u : ℕ) (n : Unit t u) where
  abbrev hs : List ℕ
  hs = homes cs

  -- what is in the unit's body stands in it
  pub body_in : (j : ℕ) → j < length cs → (get_or cs j 0 ≡ c_end_body → ⊥) → get_or hs j 0 ≡ u + 1 → Inside t u j
  body_in j h z q = let s = span_of t cs vs H K u n in let r = body_inside cs K.formed K.few u (link_of t u) s.head s.closed j h z q in (r.0, r.1)

  -- ---- goto
  pub goto_rule : (j : ℕ) → j < length cs → get_or cs j 0 ≡ c_goto → find cs vs hs 2 (get_or vs (j - 1) 0) (get_or hs j 0) (length cs) < length cs
  unfolding rule_of bad_by bad_goto
  goto_rule j h c = go (ltb (find cs vs hs 2 (get_or vs (j - 1) 0) (get_or hs j 0) (length cs)) (length cs)) refl (sym (ap (λ c. bad_by cs vs hs (starts cs) (heights cs) (rule_of c) j) c) ∙ K.ruled j h)
    where
      go : (b : Bool) → ltb (find cs vs hs 2 (get_or vs (j - 1) 0) (get_or hs j 0) (length cs)) (length cs) ≡ b → pick {A = ℕ} b 0 4 ≡ 0 → find cs vs hs 2 (get_or vs (j - 1) 0) (get_or hs j 0) (length cs) < length cs
      go true q z = ltb-true _ _ q
      go false q z = absurd (omega arith)

  pub goto_link : (m : List ℕ) (j : ℕ) → get_or cs j 0 ≡ c_goto → link_by cs vs hs (starts cs) (class_of (get_or cs j 0)) m j ≡ place_from cs (find cs vs hs 2 (get_or vs (j - 1) 0) (get_or hs j 0) (length cs))
  unfolding link_by class_of
  goto_link m j c = rw c
