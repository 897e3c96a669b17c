-- Units with a body by their parts: what stands behind the item that begins a unit is in its body, and nothing else is.
use Prim.Native.Nat.{ℕ, zero, suc, ◌+◌, ◌-◌, ◌≤◌, ◌<◌}
use native.Mathlib.Omega.{arith}
use mathlib.Core.Path.{◌≡◌, refl, ap, ◌∙◌, subst}
use mathlib.Core.Bool.{Bool, true, false}
use mathlib.Core.Logic.{◌⊎◌, inl, inr}
use mathlib.Core.List.{List, [], ◌∷◌, ◌++◌}
use lib.ListN.{length, get_or, length-append}
use lib.Dec.{eqb}
use borrow.Author.Tests.{lt-leb}
use Rattle.base_codes.specs.Codes.{c_end_body, c_proctype}
use Rattle.base_bytes.specs.Choice.{pick}
use Rattle.spec_grammar.specs.Tree.{sequence, Tree, Declaration, Group, body}
use Rattle.base_codes.specs.Items.{i_body, i_end_body, i_local}
use Rattle.base_codes.specs.Sets.{is_unit}
use Rattle.parse_code.specs.Code.{each, code_tree, code_declaration, code_group, code_body}
use Rattle.rule_sheets.specs.Homes.{inside_of, home_of}
use Rattle.agree_eval.proofs.Ranges.{every_lift, InTree, tree_codes, InDeclaration, local_codes, InGroup, groups_codes}
use Rattle.legal_items.proofs.Standing.{weigh, weigh-append, Lain, lain_front, lain_back, Stood, Inner, inside-head, settled, settled_end}
use Rattle.rule_sheets.proofs.Meaning.{no_head}

-- ---- which body an item can be in
module _ (cs : List ℕ) where
  inside_most : (j : ℕ) → inside_of cs j ≤ j
  unfolding inside_of
  inside_most zero = omega arith
  inside_most (suc j) = go (is_unit (get_or cs j 0)) (eqb (get_or cs j 0) c_end_body) (inside_most j)
    where
      go : (a b : Bool) → inside_of cs j ≤ j → pick a (j + 1) (pick b 0 (inside_of cs j)) ≤ suc j
      go true b r = omega arith
      go false true r = omega arith
      go false false r = omega arith

  pub home_most : (j : ℕ) → home_of cs j ≤ j
  unfolding home_of
  home_most j = go (is_unit (get_or cs j 0)) (inside_most j)
    where
      go : (a : Bool) → inside_of cs j ≤ j → pick a 0 (inside_of cs j) ≤ j
      go true r = omega arith
      go false r = r

  -- behind a place that no body is open at, items are in no body or in a later one
  module _ (e : ℕ) (shut : inside_of cs e ≡ 0) where
    inside_past : (d : ℕ) → (inside_of cs (e + d) ≡ 0) ⊎ (e < inside_of cs (e + d))
    unfolding inside_of
    inside_past zero = inl (ap (inside_of cs) (let z : e + 0 ≡ e = omega arith in z) ∙ shut)
    inside_past (suc d) =
        subst (λ n. (inside_of cs n ≡ 0) ⊎ (e < inside_of cs n)) (let z : suc (e + d) ≡ e + suc d = omega arith in z) (go (is_unit (get_or cs (e + d) 0)) (eqb (get_or cs (e + d) 0) c_end_body) (inside_past d))
      where
        go : (a b : Bool) → (inside_of cs (e + d) ≡ 0) ⊎ (e < inside_of cs (e + d))
            → (pick a (e + d + 1) (pick b 0 (inside_of cs (e + d))) ≡ 0) ⊎ (e < pick a (e + d + 1) (pick b 0 (inside_of cs (e + d))))
        go true b r = inr (omega arith)
        go false true r = inl refl
        go false false r = r

    pub home_past : (j : ℕ) → e ≤ j → (home_of cs j ≡ 0) ⊎ (e < home_of cs j)
    unfolding home_of
    home_past j h = go (is_unit (get_or cs j 0)) (subst (λ n. (inside_of cs n ≡ 0) ⊎ (e < inside_of cs n)) (let z : e + (j - e) ≡ j = omega arith in z) (inside_past (j - e)))
      where
        go : (a : Bool) → (inside_of cs j ≡ 0) ⊎ (e < inside_of cs j) → (pick a 0 (inside_of cs j) ≡ 0) ⊎ (e < pick a 0 (inside_of cs j))
        go true r = inl refl
        go false r = r

-- ---- a unit at item i, whose beginning A ends with item u
module _ (cs vs hs : List ℕ) where
  abbrev Mine : ℕ → Type 0
  Mine = Inner cs vs hs

  pub record Housed (u : ℕ) (gs : List Group) (ds : List Declaration) (q : Tree sequence) : Type 0 where
    pub groups : Stood cs vs hs (u + 1) (suc u) (each code_group gs)
    pub mark : Stood cs vs hs (u + 1) (suc u + length (each code_group gs)) (i_body ∷ [])
    pub declarations : Stood cs vs hs (u + 1) (suc (suc u + length (each code_group gs))) (each (code_declaration i_local) ds)
    pub statements : Stood cs vs hs (u + 1) (suc (suc u + length (each code_group gs)) + length (each (code_declaration i_local) ds)) (code_tree q)
    pub last :
        Stood cs vs hs (u + 1) (suc (suc u + length (each code_group gs)) + length (each (code_declaration i_local) ds) + length (code_tree q)) (i_end_body ∷ [])
    pub shut : inside_of cs (suc (suc (suc u + length (each code_group gs)) + length (each (code_declaration i_local) ds) + length (code_tree q))) ≡ 0

  -- the sum over its body
  pub weigh_body : (f : ℕ → ℕ) (ds : List Declaration) (q : Tree sequence) (k : ℕ)
      → weigh f k (code_body (body ds q))
      ≡ f k + weigh f (suc k) (each (code_declaration i_local) ds) + weigh f (suc k + length (each (code_declaration i_local) ds)) (code_tree q)
      + f (suc k + length (each (code_declaration i_local) ds) + length (code_tree q))
  weigh_body f ds q k =
      let D = each (code_declaration i_local) ds in
      let T = code_tree q in
      let a = weigh-append f (i_body ∷ D ++ T) (i_end_body ∷ []) k (suc k + length D + length T) (omega (arith, length-append (i_body ∷ D) T)) in
      let b = weigh-append f (i_body ∷ D) T k (suc k + length D) (omega arith) in
      omega arith

  module _ (homed : (j : ℕ) → j < length cs → get_or hs j 0 ≡ home_of cs j) where
    pub housed : (u : ℕ) (gs : List Group) (ds : List Declaration) (q : Tree sequence) → is_unit (get_or cs u 0) ≡ true → Lain cs vs (suc u) (each code_group gs)
        → Lain cs vs (suc u + length (each code_group gs)) (code_body (body ds q)) → Housed u gs ds q
    housed u gs ds q e g b =
        let G = each code_group gs in
        let D = each (code_declaration i_local) ds in
        let T = code_tree q in
        let k = suc u + length G in
        let x = settled cs vs hs homed G (u + 1) (suc u) (every_lift InGroup Mine (λ c h. (no_head c (omega arith), λ z. omega arith)) G (groups_codes gs)) g (inside-head cs vs hs u e) in
        let bt = lain_front cs vs k (i_body ∷ D ++ T) (i_end_body ∷ []) b in
        let be = lain_back cs vs (i_body ∷ D ++ T) (i_end_body ∷ []) k (suc k + length D + length T) (omega (arith, length-append (i_body ∷ D) T)) b in
        let bd = lain_front cs vs k (i_body ∷ D) T bt in
        let y = settled cs vs hs homed (i_body ∷ []) (u + 1) k (λ z. (refl, λ w. omega arith), tt) (bd.0, bd.1, bd.2, bd.3, tt) x.1 in
        let d = settled cs vs hs homed D (u + 1) (suc k) (every_lift InDeclaration Mine (λ c h. (no_head c (omega arith), λ z. omega arith)) D (local_codes ds)) bd.4
        (ap (inside_of cs) (let z : suc k ≡ k + 1 = omega arith in z) ∙ y.1) in
        let t = settled cs vs hs homed T (u + 1) (suc k + length D) (every_lift InTree Mine (λ c h. (no_head c (omega arith), λ z. omega arith)) T (tree_codes q))
        (lain_back cs vs (i_body ∷ D) T k (suc k + length D) (omega arith) bt) d.1 in
        let z = settled_end cs vs hs homed (suc k + length D + length T) (u + 1) be t.1 in
        record { groups = x.0; mark = y.0; declarations = d.0; statements = t.0; last = z.0; shut = z.1 }
