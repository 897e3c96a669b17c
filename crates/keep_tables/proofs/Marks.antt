-- Phrases of the items and their marks, and the places of statements: what the tables say of them is what the items say.
use Prim.Native.Nat.{ℕ, ◌+◌, ◌-◌, ◌≤◌, ◌<◌, min}
use mathlib.Core.Path.{◌≡◌, refl, sym, ap, subst, ◌∙◌}
use mathlib.Core.Bool.{Bool, true, false}
use mathlib.Core.List.{List}
use mathlib.Core.Logic.{◌⊎◌, inl, inr}
use native.Mathlib.Omega.{arith}
use native.Mathlib.Decide.{ℕ_discrete}
use lib.ListN.{length, get_or}
use lib.Dec.{leb}
use borrow.Author.Tests.{eq-eqb, ne_eqb, le-leb, leb-true}
use Rattle.base_codes.specs.Codes.{c_choice, c_complement, c_end_body, c_false, c_index, c_len, c_name, c_number, c_or_else, c_plain, c_true}
use Rattle.base_codes.specs.Sets.{is_part, is_alone, is_lead, within, class_of}
use Rattle.base_bytes.specs.Choice.{pick, both, either}
use Rattle.base_bytes.proofs.Tests.{both_true, either_true, true_false, left-holds, right-holds}
use Rattle.rule_sheets.specs.Walks.{first}
use Rattle.table_layout.specs.Access.{code_of, link_of}
use Rattle.link_places.specs.Places.{is_mark, mark_from, mark_of, is_place, is_stop, place_from}
use Rattle.link_items.specs.Links.{link_by}
use Rattle.state_check.specs.Standing.{place_at}
use Rattle.keep_forms.specs.Forms.{joins}
use Rattle.keep_forms.proofs.Nears.{before-part}
use Rattle.keep_tables.specs.Well.{Unit, Inside, Stop}
use Rattle.keep_tables.specs.Held.{Held}
use Rattle.keep_tables.specs.Facts.{homes, starts, links_in, Facts}
use Rattle.keep_tables.proofs.Links.{link_is}
use Rattle.keep_tables.proofs.Units.{span_of}
use Rattle.keep_tables.proofs.Firsts.{First, first_is, first_most}

-- ---- what a phrase begins with
within_true : (a b c : ℕ) → within a b c ≡ true → (a ≤ c) × (c ≤ b)
within_true a b c e = let x = both_true (leb a c) (leb c b) e in (leb-true a c x.0, leb-true c b x.1)

within-holds : (a b c : ℕ) → a ≤ c → c ≤ b → within a b c ≡ true
within-holds a b c h g = rw (le-leb a c h, le-leb c b g)

joined-part : (c : ℕ) → c_or_else ≤ c → c ≤ c_complement → joins c ≡ true
joined-part c h g = left-holds (within c_or_else c_complement c) _ (within-holds c_or_else c_complement c h g)

joined-ref : (c : ℕ) → c_plain ≤ c → c ≤ c_index → joins c ≡ true
joined-ref c h g = right-holds (within c_or_else c_complement c) _ (left-holds (within c_plain c_index c) _ (within-holds c_plain c_index c h g))

joined-last : (c : ℕ) → c_len ≤ c → c ≤ c_choice → joins c ≡ true
joined-last c h g = right-holds (within c_or_else c_complement c) _ (right-holds (within c_plain c_index c) _ (within-holds c_len c_choice c h g))

pub leaf-class : (c : ℕ) → is_part c ≡ true → joins c ≡ false → class_of c ≡ 5
unfolding is_part class_of
leaf-class c e f = go (ℕ_discrete c c_name) (ℕ_discrete c c_number) (ℕ_discrete c c_true) (ℕ_discrete c c_false)
  where
    no_join : joins c ≡ true → ⊥
    no_join j = true_false (sym j ∙ f)

    last : (c ≡ c_true → ⊥) → (c ≡ c_false → ⊥) → (c_plain ≤ c) × (c ≤ c_choice) → Dec (c ≡ c_plain) → Dec (c ≡ c_index) → ⊥
    last n m b (yes x) y = no_join (joined-ref c (omega arith) (omega arith))
    last n m b (no x) (yes y) = no_join (joined-ref c (omega arith) (omega arith))
    last n m b (no x) (no y) = let p = b.0 in let q = b.1 in no_join (joined-last c (omega arith) (omega arith))

    none : (c ≡ c_name → ⊥) → (c ≡ c_number → ⊥) → (c ≡ c_true → ⊥) → (c ≡ c_false → ⊥) → (within c_name c_number c ≡ true) ⊎ (either (within c_or_else c_complement c) (within c_plain c_choice c) ≡ true) → ⊥
    none n m o p (inl x) = let b = within_true c_name c_number c x in let y = b.0 in let z = b.1 in omega arith
    none n m o p (inr x) = more (either_true (within c_or_else c_complement c) (within c_plain c_choice c) x)
      where
        more : (within c_or_else c_complement c ≡ true) ⊎ (within c_plain c_choice c ≡ true) → ⊥
        more (inl y) = let b = within_true c_or_else c_complement c y in no_join (joined-part c b.0 b.1)
        more (inr y) = last o p (within_true c_plain c_choice c y) (ℕ_discrete c c_plain) (ℕ_discrete c c_index)

    go : Dec (c ≡ c_name) → Dec (c ≡ c_number) → Dec (c ≡ c_true) → Dec (c ≡ c_false) → class_of c ≡ 5
    go (yes z) b g d = rw z
    go (no a) (yes z) g d = rw z
    go (no a) (no b) (yes z) d = rw z
    go (no a) (no b) (no g) (yes z) = rw z
    go (no a) (no b) (no g) (no d) = absurd (none a b g d (either_true (within c_name c_number c) (either (within c_or_else c_complement c) (within c_plain c_choice c)) e))

-- an end of a body is a mark
end_mark : is_mark c_end_body ≡ true
unfolding is_part
end_mark = refl

mark-says : (c : ℕ) → is_mark c ≡ true → is_part c ≡ false
mark-says c = go (is_part c)
  where
    go : (b : Bool) → pick b false true ≡ true → b ≡ false
    go true e = absurd (true_false (sym e))
    go false e = refl

end_stop : (cs : List ℕ) (e : ℕ) → get_or cs e 0 ≡ c_end_body → is_stop cs e ≡ true
unfolding is_stop
end_stop cs e z = rw (eq-eqb (get_or cs e 0) c_end_body z)

stop_place : (cs : List ℕ) (q : ℕ) → is_stop cs q ≡ true → (get_or cs q 0 ≡ c_end_body → ⊥) → is_place cs q ≡ true
unfolding is_stop
stop_place cs q e n = sym (ap (λ b. either b (is_place cs q)) (ne_eqb (get_or cs q 0) c_end_body n)) ∙ e

module _ (t cs vs : List ℕ) (H : Held t cs vs (links_in cs vs)) (K : Facts cs vs) where
  mark_link : (m : List ℕ) (q : ℕ) → class_of (get_or cs q 0) ≡ 5 → link_by cs vs (homes cs) (starts cs) (class_of (get_or cs q 0)) m q ≡ mark_of cs q
  unfolding link_by
  mark_link m q e = rw e

  pub mark-first : (q : ℕ) → First (λ k. is_mark (get_or cs k 0)) (q + 1) (length cs - (q + 1)) (mark_of cs q)
  unfolding mark_from
  mark-first q = first_is (λ k. is_mark (get_or cs k 0)) (length cs - (q + 1)) (q + 1)

  -- the mark of a phrase of the unit, at its end at the latest
  pub mark_in : (u q : ℕ) → Unit t u → Inside t u q → (q < mark_of cs q) × (mark_of cs q ≤ link_of t u)
  unfolding mark_from
  mark_in u q n i =
      let s = span_of t cs vs H K u n in
      let l = i.1 in
      let a = (mark-first q).from in
      (omega arith, first_most (λ k. is_mark (get_or cs k 0)) (q + 1) (length cs - (q + 1)) (link_of t u) (omega arith) (ap is_mark s.closed.2 ∙ end_mark))

  pub mark_is : (u q : ℕ) → Unit t u → Inside t u q → class_of (get_or cs q 0) ≡ 5 → link_of t q ≡ mark_of cs q
  mark_is u q n i e =
      let s = span_of t cs vs H K u n in
      let a = s.closed.1 in
      let b = i.1 in
      let c = (mark_in u q n i).1 in
      let f = K.few in
      let l = link_is cs vs q K.few (omega arith) in
      H.links q (omega arith) ∙ l.1 ∙ ap (min 4294967295) (mark_link l.0 q e) ∙ (let z : min 4294967295 (mark_of cs q) ≡ mark_of cs q = omega arith in z)

  -- what begins a phrase behind a mark is a name, a number, true or false
  pub begun-class : (q : ℕ) → q < length cs → is_part (get_or cs q 0) ≡ true → is_mark (get_or cs (q - 1) 0) ≡ true → class_of (get_or cs q 0) ≡ 5
  unfolding is_part
  begun-class q h e m = go (joins (get_or cs q 0)) refl
    where
      go : (b : Bool) → joins (get_or cs q 0) ≡ b → class_of (get_or cs q 0) ≡ 5
      go false j = leaf-class (get_or cs q 0) e j
      go true j =
          let r = before-part cs K.formed q h j in
          let z : q - 1 ≡ r.0 = let y = r.1 in omega arith in
          absurd (true_false (sym r.2 ∙ mark-says (get_or cs r.0 0) (subst (λ k. is_mark (get_or cs k 0) ≡ true) z m)))

  -- ---- the place of a statement
  pub place-held : (u q : ℕ) → Unit t u → Inside t u q → is_place cs q ≡ true → place_at t q ≡ true
  unfolding is_place place_at
  place-held u q n i e = go (is_alone (get_or cs q 0)) (is_part (get_or cs q 0)) refl refl e
    where
      h : q < length cs
      h = let a = (span_of t cs vs H K u n).closed.1 in let b = i.1 in omega arith

      go : (a b : Bool) → is_alone (get_or cs q 0) ≡ a → is_part (get_or cs q 0) ≡ b → pick a true (pick b (both (is_mark (get_or cs (q - 1) 0)) (is_lead (get_or cs (mark_of cs q) 0))) false) ≡ true
          → pick (is_alone (code_of t q)) true (pick (is_part (code_of t q)) (both (is_mark (code_of t (q - 1))) (is_lead (code_of t (link_of t q)))) false) ≡ true
      go true b x y z = rw (H.codes q h, x)
      go false false x y z = absurd (true_false (sym z))
      go false true x y z =
          let r = both_true (is_mark (get_or cs (q - 1) 0)) (is_lead (get_or cs (mark_of cs q) 0)) z in
          let k = mark_is u q n i (begun-class q h y r.0) in
          let s = (span_of t cs vs H K u n).closed.1 in
          let m = (mark_in u q n i).1 in
          let c : code_of t (link_of t q) ≡ get_or cs (mark_of cs q) 0 = ap (code_of t) k ∙ H.codes (mark_of cs q) (omega arith) in
          rw (H.codes q h, x, y, H.codes (q - 1) (omega arith), r.0, c, r.1)

  -- from a place of the unit on, the next place or the end
  place_stops : (u k : ℕ) → Unit t u → u < k → k ≤ link_of t u → Stop t u (first (is_stop cs) k (length cs - k))
  place_stops u k n a b = go (ℕ_discrete (first (is_stop cs) k (length cs - k)) (link_of t u))
    where
      go : Dec (first (is_stop cs) k (length cs - k) ≡ link_of t u) → Stop t u (first (is_stop cs) k (length cs - k))
      go (yes z) = inl z
      go (no z) =
          let s = (span_of t cs vs H K u n).closed in
          let c = s.1 in
          let f = first_is (is_stop cs) (length cs - k) k in
          let g = f.from in
          let m = first_most (is_stop cs) k (length cs - k) (link_of t u) b (end_stop cs (link_of t u) s.2) in
          let h : first (is_stop cs) k (length cs - k) < link_of t u = omega arith in
          let i : Inside t u (first (is_stop cs) k (length cs - k)) = (omega arith, h) in
          inr (omega arith, h, place-held u (first (is_stop cs) k (length cs - k)) n i (stop_place cs (first (is_stop cs) k (length cs - k)) (f.holds (omega arith)) (s.3 (first (is_stop cs) k (length cs - k)) (omega arith) h).1))

  pub stop_of : (u k : ℕ) → Unit t u → u < k → k ≤ link_of t u → Stop t u (place_from cs k)
  unfolding place_from
  stop_of u k n a b = place_stops u k n a b
