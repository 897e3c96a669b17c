-- THE LABELS OF A TREE: the place that `label_in` finds is that of a statement with the label, or there is none.
use Prim.Native.Nat.{ℕ, ◌+◌}
use native.Mathlib.Omega.{arith}
use mathlib.Core.Path.{◌≡◌, refl, sym, ap, ◌∙◌, subst}
use mathlib.Core.Bool.{Bool, true, false}
use mathlib.Core.Logic.{◌⊎◌, inl, inr}
use mathlib.Core.List.{List, [], ◌∷◌, ◌++◌}
use lib.ListN.{length}
use Rattle.base_bytes.specs.Choice.{pick}
use Rattle.base_bytes.specs.Lists.{same}
use Rattle.base_bytes.proofs.Lists.{same_refl, same_eq}
use Rattle.base_bytes.proofs.Tests.{true_false}
use Rattle.spec_grammar.specs.Tree.{Name, Sort, action, Tree, leaf, select, loop, bare, labelled, end, then, over, option}
use Rattle.base_codes.specs.Items.{Item, i_do, i_end_option, i_fi, i_if, i_label, i_name, i_od, i_option}
use Rattle.parse_code.specs.Code.{code_tree}
use Rattle.spec_machine.specs.Sizes.{size_in}
use Rattle.spec_machine.specs.Program.{label_in}
use Rattle.agree_stage.proofs.Stands.{Lying, lying_behind, lying_before, lying_whole}
use Rattle.agree_sizes.proofs.Sizes.{size_tree}

-- in the tree, whose items begin at item i, a statement with the label w has the place j
unfoldable pub Labelled : Name → {k : Sort} → Tree k → ℕ → ℕ → Type 0
Labelled w (leaf l) i j = ⊥
Labelled w (select os) i j = Labelled w os (i + 1) j
Labelled w (loop os) i j = Labelled w os (i + 1) j
Labelled w (bare a) i j = Labelled w a i j
Labelled w (labelled v a) i j = ((v ≡ w) × (j ≡ i + 2)) ⊎ Labelled w a (i + 2) j
Labelled w end i j = ⊥
Labelled w (then s q) i j = Labelled w s i j ⊎ Labelled w q (i + size_in s) j
Labelled w over i j = ⊥
Labelled w (option q os) i j = Labelled w q (i + 1) j ⊎ Labelled w os (i + 2 + size_in q) j

-- found, or there is none
abbrev pub Search : Name → {k : Sort} → Tree k → ℕ → ℕ → Type 0
Search w b i d = Labelled w b i (label_in w b i d) ⊎ ((label_in w b i d ≡ d) × ((j : ℕ) → Labelled w b i j → ⊥))

-- in the first of two parts, or else in the second
two_parts : (A B : ℕ → Type 0) (x y d : ℕ) → A x ⊎ ((x ≡ y) × ((j : ℕ) → A j → ⊥)) → B y ⊎ ((y ≡ d) × ((j : ℕ) → B j → ⊥)) → (A x ⊎ B x) ⊎ ((x ≡ d) × ((j : ℕ) → A j ⊎ B j → ⊥))
two_parts A B x y d (inl p) q = inl (inl p)
two_parts A B x y d (inr p) (inl q) = inl (inr (subst B (sym p.0) q))
two_parts A B x y d (inr p) (inr q) = inr (p.0 ∙ q.0, none)
  where
    none : (j : ℕ) → A j ⊎ B j → ⊥
    none j (inl z) = p.1 j z
    none j (inr z) = q.1 j z

own_label : (v w : Name) (A : ℕ → Type 0) (i x d : ℕ) → A x ⊎ ((x ≡ d) × ((j : ℕ) → A j → ⊥))
    → (((v ≡ w) × (pick (same v w) (i + 2) x ≡ i + 2)) ⊎ A (pick (same v w) (i + 2) x)) ⊎ ((pick (same v w) (i + 2) x ≡ d) × ((j : ℕ) → ((v ≡ w) × (j ≡ i + 2)) ⊎ A j → ⊥))
own_label v w A i x d r = go (same v w) refl r
  where
    go : (b : Bool) → same v w ≡ b → A x ⊎ ((x ≡ d) × ((j : ℕ) → A j → ⊥))
        → (((v ≡ w) × (pick b (i + 2) x ≡ i + 2)) ⊎ A (pick b (i + 2) x)) ⊎ ((pick b (i + 2) x ≡ d) × ((j : ℕ) → ((v ≡ w) × (j ≡ i + 2)) ⊎ A j → ⊥))
    go true e r = inl (inl (same_eq v w e, refl))
    go false e (inl p) = inl (inr p)
    go false e (inr p) = inr (p.0, none)
      where
        none : (j : ℕ) → ((v ≡ w) × (j ≡ i + 2)) ⊎ A j → ⊥
        none j (inl z) = true_false (sym (ap (λ (u : Name). same u w) z.0 ∙ same_refl w) ∙ e)
        none j (inr z) = p.1 j z

pub label_found : (w : Name) {k : Sort} (b : Tree k) (i d : ℕ) → Search w b i d
unfolding Labelled
label_found w (leaf l) i d = inr (refl, λ j z. z)
label_found w (select os) i d = label_found w os (i + 1) d
label_found w (loop os) i d = label_found w os (i + 1) d
label_found w (bare a) i d = label_found w a i d
label_found w (labelled v a) i d = own_label v w (Labelled w a (i + 2)) i (label_in w a (i + 2) d) d (label_found w a (i + 2) d)
label_found w end i d = inr (refl, λ j z. z)
label_found w (then s q) i d =
    two_parts (Labelled w s i) (Labelled w q (i + size_in s)) (label_in w (then s q) i d) (label_in w q (i + size_in s) d) d (label_found w s i (label_in w q (i + size_in s) d)) (label_found w q (i + size_in s) d)
label_found w over i d = inr (refl, λ j z. z)
label_found w (option q os) i d =
    two_parts (Labelled w q (i + 1)) (Labelled w os (i + 2 + size_in q)) (label_in w (option q os) i d) (label_in w os (i + 2 + size_in q) d) d (label_found w q (i + 1) (label_in w os (i + 2 + size_in q) d))
    (label_found w os (i + 2 + size_in q) d)

-- ---- the items of a label stand two before the place of its statement
abbrev pub marked : Name → Tree action → List Item
marked w a = i_name w ∷ i_label ∷ code_tree a

pub record Behind (w : Name) (l : List Item) (i j : ℕ) : Type 0 where
  pub act : Tree action
  pub at : ℕ
  pub two : j ≡ at + 2
  pub lies : Lying l i (marked w act) at

-- more items before them, or behind them
behind_more : {w : Name} (x l y : List Item) (i k j : ℕ) → k ≡ i + length x → Behind w l k j → Behind w (x ++ l ++ y) i j
behind_more {w} x l y i k j e r =
    record { act = r.act; at = r.at; two = r.two; lies = lying_before (x ++ l) y (marked w r.act) i r.at (lying_behind x l (marked w r.act) i k r.at e r.lies) }

pub labelled_lies : {w : Name} {k : Sort} (b : Tree k) (i j : ℕ) → Labelled w b i j → Behind w (code_tree b) i j
unfolding Labelled
labelled_lies (select os) i j p = behind_more (i_if ∷ []) (code_tree os) (i_fi ∷ []) i (i + 1) j refl (labelled_lies os (i + 1) j p)
labelled_lies (loop os) i j p = behind_more (i_do ∷ []) (code_tree os) (i_od ∷ []) i (i + 1) j refl (labelled_lies os (i + 1) j p)
labelled_lies (bare a) i j p = labelled_lies a i j p
labelled_lies {w} (labelled v a) i j (inl p) =
    record { act = a; at = i; two = p.1; lies = subst (λ (u : Name). Lying (marked u a) i (marked w a) i) (sym p.0) (lying_whole (marked w a) i) }
labelled_lies {w} (labelled v a) i j (inr p) =
    let r = labelled_lies a (i + 2) j p in
    record { act = r.act; at = r.at; two = r.two; lies = lying_behind (i_name v ∷ i_label ∷ []) (code_tree a) (marked w r.act) i (i + 2) r.at refl r.lies }
labelled_lies (then s q) i j (inl p) = behind_more [] (code_tree s) (code_tree q) i i j (omega arith) (labelled_lies s i j p)
labelled_lies {w} (then s q) i j (inr p) =
    let r = labelled_lies q (i + size_in s) j p in
    record { act = r.act; at = r.at; two = r.two; lies = lying_behind (code_tree s) (code_tree q) (marked w r.act) i (i + size_in s) r.at (omega (arith, size_tree s)) r.lies }
labelled_lies (option q os) i j (inl p) = behind_more (i_option ∷ []) (code_tree q) (i_end_option ∷ code_tree os) i (i + 1) j refl (labelled_lies q (i + 1) j p)
labelled_lies {w} (option q os) i j (inr p) =
    let r = labelled_lies os (i + 2 + size_in q) j p in
    record {
      act = r.act;
      at = r.at;
      two = r.two;
      lies =
          lying_behind (i_option ∷ code_tree q) (i_end_option ∷ code_tree os) (marked w r.act) i (i + 1 + size_in q) r.at (omega (arith, size_tree q))
          (lying_behind (i_end_option ∷ []) (code_tree os) (marked w r.act) (i + 1 + size_in q) (i + 2 + size_in q) r.at (omega arith) r.lies);
    }
labelled_lies {w = w} over i j p = elim p [ ]
labelled_lies {w = w} end i j p = elim p [ ]
labelled_lies {w = w} (leaf _) i j p = elim p [ ]
