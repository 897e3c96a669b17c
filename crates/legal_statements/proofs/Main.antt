-- THE STATEMENTS OF A BODY: their items have the faults of the specification.
use Prim.Native.Nat.{ℕ, suc, ◌+◌, ◌-◌, ◌≤◌, ◌<◌}
use native.Mathlib.Omega.{arith}
use mathlib.Core.Path.{◌≡◌, refl, sym, ap, ◌∙◌}
use mathlib.Core.Bool.{Bool, true, false, not}
use mathlib.Core.List.{List, [], ◌∷◌}
use lib.ListN.{length, get_or}
use lib.Dec.{eqb, ltb}
use borrow.Author.Tests.{le-ltb, eqb-true, ne_eqb}
use Rattle.base_codes.specs.Codes.{c_argument, c_do, c_end_option, c_label, c_od, c_option}
use Rattle.base_bytes.specs.Choice.{pick, both, either}
use Rattle.base_bytes.specs.Lists.{same}
use Rattle.spec_text.specs.Names.{pid}
use Rattle.base_kinds.specs.Kinds.{Token}
use Rattle.rule_search.specs.Sets.{among}
use Rattle.rule_search.specs.Search.{declares, find, one}
use Rattle.spec_grammar.specs.Tree.{Name, sequence, Tree, Model}
use Rattle.spec_grammar.specs.Grammar.{D}
use Rattle.base_codes.specs.Items.{i_name}
use Rattle.parse_code.specs.Code.{code_tree}
use Rattle.parse_spots.specs.Spots.{Spot, spots_tree}
use Rattle.spec_rules.specs.Statements.{has, labels_of}
use Rattle.spec_faults.specs.Faults.{in_tree}
use Rattle.legal_terms.specs.Says.{Says, item_at}
use Rattle.legal_terms.specs.Faulted.{faults_from, Stand, Statements}
use Rattle.legal_statements.specs.Scene.{Scene, xs, homes, faults, IsSpot, Each, StandsIn, SpotsIn}
use Rattle.legal_statements.proofs.Uses.{pid-told}
use Rattle.legal_statements.proofs.Walks.{any, any-zero, any_none, find-any, find-pid, count_none}
use Rattle.legal_statements.proofs.Passing.{codes_sets, before, label, passing}
use Rattle.legal_statements.proofs.Around.{Prior, Deep, Goes, else_never}
use Rattle.legal_statements.proofs.Trees.{as_long, coded, tree_fault}

module _ (S : Scene) where
  -- ---- the interface's words
  each-spot : (l : List Spot) (i : ℕ) → Stand (xs S) S.toks i l → Each S (IsSpot S) i l
  each-spot [] i p = tt
  each-spot (x ∷ l) i p = ((p.0, p.1), each-spot l (suc i) p.2)

  all-faults : (l : List Spot) (i : ℕ) → faults_from S.cs S.vs S.toks i (length l) ≡ faults S i l
  unfolding faults_from faults
  all-faults [] i = refl
  all-faults (x ∷ l) i = simp (all-faults l (suc i))

  -- ---- what stands in statements alone stands nowhere else in the body
  module _ (j : ℕ) (inside : j < length S.cs) (apart_from : (S.from ≤ j) × (j < S.to) → ⊥) where
    elsewhere : (c : ℕ) → c_argument ≤ c → c ≤ c_end_option → get_or S.cs j 0 ≡ c → eqb (get_or (homes S) j 0) S.h ≡ false
    elsewhere c a b e = ne_eqb (get_or (homes S) j 0) S.h (λ g. apart_from (S.setting.mark_inside j inside g (omega arith) (omega arith)))

    no_label : (x : ℕ) → declares S.cs S.vs (homes S) 2 (get_or S.vs x 0) S.h j ≡ false
    unfolding declares
    no_label x = go (among 2 (get_or S.cs j 0)) refl
      where
        off : (a : Bool) → both a false ≡ false
        off true = refl
        off false = refl

        go : (b : Bool) → among 2 (get_or S.cs j 0) ≡ b → pick b (both (eqb (get_or S.vs (j - 1) 0) (get_or S.vs x 0)) (eqb (get_or (homes S) j 0) S.h)) false ≡ false
        go true e =
            ap (both (eqb (get_or S.vs (j - 1) 0) (get_or S.vs x 0)))
            (elsewhere c_label (omega arith) (omega arith) (eqb-true (get_or S.cs j 0) c_label (sym (codes_sets (get_or S.cs j 0)).0 ∙ e)))
            ∙ off (eqb (get_or S.vs (j - 1) 0) (get_or S.vs x 0))
        go false e = refl

    no_loop : (set c : ℕ) → c_argument ≤ c → c ≤ c_end_option → among set (get_or S.cs j 0) ≡ eqb (get_or S.cs j 0) c → one S.cs (homes S) set S.h j ≡ 0
    unfolding one
    no_loop set c a b f = go (among set (get_or S.cs j 0)) refl
      where
        go : (t : Bool) → among set (get_or S.cs j 0) ≡ t → pick {A = ℕ} t (pick (eqb (get_or (homes S) j 0) S.h) 1 0) 0 ≡ 0
        go true e = ap (λ (u : Bool). pick {A = ℕ} u 1 0) (elsewhere c a b (eqb-true (get_or S.cs j 0) c (sym f ∙ e)))
        go false e = refl

  module _ (q : Tree sequence) (s : StandsIn S S.from (code_tree q)) (ends : S.to ≡ S.from + length (code_tree q)) where
    first-labels : Prior S S.from []
    first-labels x w h e =
        let z : 0 + S.from ≡ S.from = omega arith in
        let p = declares S.cs S.vs (homes S) 2 (get_or S.vs x 0) S.h in
        ap (any p) (sym z) ∙ any_none p S.from 0 (λ j a b. no_label j (let k = S.within in let o = ends in omega arith) (λ r. let o = r.0 in omega arith) x) ∙ any-zero p

    no_loops : (set c : ℕ) → c_argument ≤ c → c ≤ c_end_option → ((n : ℕ) → among set n ≡ eqb n c) → before S set S.from ≡ 0
    no_loops set c a b f =
        count_none S.cs (homes S) set S.h S.from (λ j h. no_loop j (let k = S.within in let o = ends in omega arith) (λ r. let o = r.0 in omega arith) set c a b (f (get_or S.cs j 0)))

    first-loops : Deep S S.from false
    first-loops =
        record {
          depth = 0;
          opened = let a = no_loops 7 c_do (omega arith) (omega arith) (λ n. (codes_sets n).1) in let b = no_loops 8 c_od (omega arith) (omega arith) (λ n. (codes_sets n).2) in omega arith;
          told = refl;
        }

    -- the labels of the body are those of its statements
    all-labels : (x : ℕ) (w : Name) → x < length S.cs → item_at (xs S) x ≡ i_name w → label S x (length S.cs) ≡ has (labels_of q) w
    all-labels x w h e =
        let p = declares S.cs S.vs (homes S) 2 (get_or S.vs x 0) S.h in
        let k = S.within in
        let z : length S.cs ≡ S.to + (length S.cs - S.to) = omega arith in
        ap (any p) z ∙ any_none p (length S.cs - S.to) S.to (λ j a b. no_label j (omega arith) (λ r. let o = r.1 in omega arith) x)
        ∙ (passing S q S.from S.to ends s).labels x w h e ∙ ap (λ (b : Bool). either b (has (labels_of q) w)) (first-labels x w h e)

    goes : S.at.labels ≡ labels_of q → Goes S
    goes own x w low high e = go (same w pid) refl
      where
        go : (b : Bool) → same w pid ≡ b
            → ltb (find S.cs S.vs (homes S) 2 (get_or S.vs x 0) S.h (length S.cs)) (length S.cs) ≡ both (not b) (has S.at.labels w)
        go true p =
            ap (λ m. ltb m (length S.cs)) (find-pid S.cs S.vs (homes S) 2 (get_or S.vs x 0) S.h (length S.cs) (pid-told S x w e low high ∙ p))
            ∙ le-ltb (length S.cs) (length S.cs) (omega arith)
        go false p =
            find-any S.cs S.vs (homes S) 2 (get_or S.vs x 0) S.h (length S.cs) (pid-told S x w e low high ∙ p) ∙ all-labels x w (let k = S.within in omega arith) e
            ∙ ap (λ (l : List Name). has l w) (sym own)

  body_fault : {ts : List Token} {q : Tree sequence} (x : D sequence ts q) (n : ℕ) → SpotsIn S S.from (spots_tree x n) → S.to ≡ S.from + length (spots_tree x n) → S.at.labels ≡ labels_of q
      → (get_or S.cs (S.from - 1) 0 ≡ c_option → ⊥) → faults S S.from (spots_tree x n) ≡ in_tree S.at [] false false x n
  body_fault {q = q} x n s e own no_option =
      let c = coded S x S.from n s in
      let z : S.to ≡ S.from + length (code_tree q) = omega (arith, as_long x n) in
      tree_fault S (goes q c z own) x S.from n false false [] s (first-labels q c z) (first-loops q c z) (else_never S S.from (ne_eqb (get_or S.cs (S.from - 1) 0) c_option no_option))

pub statements-faults : (m : Model) (cs vs toks : List ℕ) → Says m cs vs → Statements m cs vs toks
statements-faults m cs vs toks says ts q x n from to h at stand ends within setting own no_option =
    let S : Scene = record { model = m; cs = cs; vs = vs; toks = toks; says = says; h = h; from = from; to = to; within = within; at = at; setting = setting } in
    let L = spots_tree x n in
    all-faults S L from ∙ body_fault S x n record { items = each-spot S L from stand; low = omega arith; high = omega arith } ends own no_option
