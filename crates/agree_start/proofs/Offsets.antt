-- The parameters of a unit have its first numbers, in text order: as many numbers are before a parameter as there are parameters before it.
use Prim.Native.Nat.{ℕ, suc, ◌+◌, ◌/◌, ◌≤◌, ◌<◌, min}
use native.Mathlib.Omega.{arith}
use mathlib.Core.Path.{◌≡◌, refl, sym as inv, ap, ◌∙◌}
use mathlib.Core.Bool.{Bool, true, false}
use mathlib.Core.Logic.{inr}
use mathlib.Core.List.{List}
use lib.ListN.{length, get_or}
use lib.Dec.{eqb}
use borrow.Author.Tests.{eq-eqb, ne_eqb, eqb-true}
use Rattle.base_codes.specs.Codes.{c_declared, c_end_body, c_number, c_parameter}
use Rattle.base_bytes.specs.Choice.{pick}
use Rattle.base_bytes.proofs.Tests.{true_false}
use Rattle.rule_sheets.specs.Walks.{sum}
use Rattle.rule_search.specs.Sets.{among}
use Rattle.rule_item.specs.Rules.{is_array}
use Rattle.rule_ceilings.specs.Ceilings.{numbers_at}
use Rattle.link_items.specs.Links.{offset_at}
use Rattle.table_layout.specs.Access.{code_of, link_of}
use Rattle.read_passes.specs.Judging.{tables_text}
use Rattle.read_accepts_proof.specs.Meaning.{Accepts}
use Rattle.keep_tables.specs.Well.{Unit, Inside}
use Rattle.keep_tables.specs.Facts.{homes, links_in, Facts}
use Rattle.keep_tables.specs.Held.{Held}
use Rattle.keep_tables.proofs.Tables.{codes_at, said_at, text-held}
use Rattle.keep_tables.proofs.Known.{text_facts}
use Rattle.keep_tables.proofs.Units.{span_of}
use Rattle.keep_tables.proofs.Homes.{body_inside}
use Rattle.keep_tables.proofs.Sums.{sum-next, sum-zero}
use Rattle.keep_tables.proofs.Variables.{slot_of_lem, unit_home}

-- ---- the set of what declares a variable
not_end : among 14 c_end_body ≡ false
unfolding among
not_end = refl

is_parameter : among 14 c_parameter ≡ true
unfolding among
is_parameter = refl

not-among : (c : ℕ) → (c ≡ c_declared → ⊥) → (c ≡ c_parameter → ⊥) → among 14 c ≡ false
unfolding among
not-among c a b = rw (ne_eqb c c_declared a, ne_eqb c c_parameter b)

-- ---- the numbers of an item in a body
none_else : (cs vs hs : List ℕ) (h j : ℕ) → among 14 (get_or cs j 0) ≡ false → numbers_at cs vs hs h j ≡ 0
unfolding numbers_at
none_else cs vs hs h j e = rw e

none_elsewhere : (cs vs hs : List ℕ) (h j : ℕ) → (among 14 (get_or cs j 0) ≡ true → get_or hs j 0 ≡ h → ⊥) → numbers_at cs vs hs h j ≡ 0
unfolding numbers_at
none_elsewhere cs vs hs h j n = go (among 14 (get_or cs j 0)) refl (eqb (get_or hs j 0) h) refl
  where
    go : (b : Bool) → among 14 (get_or cs j 0) ≡ b → (d : Bool) → eqb (get_or hs j 0) h ≡ d → pick b (pick d (pick (is_array cs j) (get_or vs (j + 1) 0) 1) 0) 0 ≡ 0
    go true e true f = absurd (n e (eqb-true (get_or hs j 0) h f))
    go true e false f = refl
    go false e d f = refl

one_there : (cs vs hs : List ℕ) (h j : ℕ) → get_or cs j 0 ≡ c_parameter → get_or hs j 0 ≡ h → (get_or cs (j + 1) 0 ≡ c_number → ⊥) → numbers_at cs vs hs h j ≡ 1
unfolding numbers_at is_array
one_there cs vs hs h j c e n = rw (ap (among 14) c ∙ is_parameter, eq-eqb (get_or hs j 0) h e, ne_eqb (get_or cs (j + 1) 0) c_number n)

offset_is : (cs vs hs : List ℕ) (h j : ℕ) → get_or hs j 0 ≡ h → sum (numbers_at cs vs hs h) 0 j ≤ 65535 → offset_at cs vs hs j ≡ sum (numbers_at cs vs hs h) 0 j
unfolding offset_at
offset_is cs vs hs h j e l = ap (λ x. min 65535 (sum (numbers_at cs vs hs x) 0 j)) e ∙ (let z : min 65535 (sum (numbers_at cs vs hs h) 0 j) ≡ sum (numbers_at cs vs hs h) 0 j = omega arith in z)

module _ (t : List ℕ) (a : Accepts t) where
  abbrev C : List ℕ
  C = codes_at t a

  abbrev S : List ℕ
  S = said_at t a

  H : Held (tables_text t) C S (links_in C S)
  H = text-held t a

  K : Facts C S
  K = text_facts t a

  module _ (u : ℕ) (U : Unit (tables_text t) u) where
    -- how many numbers of the unit are declared before item j
    unfoldable pub before : ℕ → ℕ
    before j = sum (numbers_at C S (homes C) (u + 1)) 0 j

    next : (j : ℕ) → before (suc j) ≡ before j + numbers_at C S (homes C) (u + 1) j
    unfolding before
    next j = ap (sum (numbers_at C S (homes C) (u + 1)) 0) (let z : suc j ≡ j + 1 = omega arith in z) ∙ sum-next (numbers_at C S (homes C) (u + 1)) j

    code_here : (j c : ℕ) → j < length C → code_of (tables_text t) j ≡ c → get_or C j 0 ≡ c
    code_here j c h e = inv (H.codes j h) ∙ e

    -- none before the unit
    pub before-unit : before (suc u) ≡ 0
    unfolding before
    before-unit =
        let s = span_of (tables_text t) C S H K u U in
        let z = s.before in
        sum-zero (numbers_at C S (homes C) (u + 1)) (suc u)
        (λ j g. none_elsewhere C S (homes C) (u + 1) j
        (λ m e. let r = (body_inside C K.formed K.few u (link_of (tables_text t) u) s.head s.closed j (omega arith) (λ y. true_false (inv m ∙ ap (among 14) y ∙ not_end)) e).0 in omega arith))

    -- one for each parameter
    pub before_else : (j c : ℕ) → j < length C → code_of (tables_text t) j ≡ c → (c ≡ c_declared → ⊥) → (c ≡ c_parameter → ⊥) → before (suc j) ≡ before j
    before_else j c h e x y =
        let z = none_else C S (homes C) (u + 1) j (ap (among 14) (code_here j c h e) ∙ not-among c x y) in
        let n = next j in
        omega arith

    module _ (j : ℕ) (h : suc j < length C) (i : Inside (tables_text t) u j) (e : code_of (tables_text t) j ≡ c_parameter) where
      home : get_or (homes C) j 0 ≡ u + 1
      home = unit_home (tables_text t) C S H K u j U i

      pub before_parameter : (code_of (tables_text t) (suc j) ≡ c_number → ⊥) → before (suc j) ≡ before j + 1
      before_parameter n =
          let q : j + 1 ≡ suc j = omega arith in
          let z = one_there C S (homes C) (u + 1) j (code_here j c_parameter (omega arith) e) home (λ x. n (H.codes (suc j) h ∙ ap (λ y. get_or C y 0) (inv q) ∙ x)) in
          let n = next j in
          omega arith

      pub parameter_at : before j ≤ 65535 → link_of (tables_text t) j / 1024 ≡ before j
      unfolding before
      parameter_at l = (slot_of_lem (tables_text t) C S H K j (omega arith) (inr (code_here j c_parameter (omega arith) e))).offset ∙ offset_is C S (homes C) (u + 1) j home l
