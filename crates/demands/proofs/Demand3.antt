-- DEMAND 3, proved.
use mathlib.Core.Path.{◌≡◌, sym, ap, ap₂, subst, ◌∙◌}
use mathlib.Core.Bool.{Bool, true}
use mathlib.Core.Logic.{◌↔◌}
use mathlib.Core.List.{List}
use borrow.Author.Tests.{le-ltb}
use Prim.Native.Nat.{ℕ, ◌≤◌}
use native.Mathlib.Omega.{arith}
use lib.Dec.{ltb}
use lib.ListN.{length, length-replicate}
use Rattle.base_bytes.specs.Choice.{pick}
use Rattle.base_ceilings.specs.Ceilings.{tables_room}
use Rattle.spec_grammar.specs.Tree.{Model}
use Rattle.std.specs.Prelude.{Result, Ok, Err}
use Rattle.base_refusal.specs.declared.Refusal.{Refusal as Given}
use Rattle.base_refusal.specs.Refusals.{refusal as given}
use Rattle.read_passes.specs.Judging.{judge_of, tables_text}
use Rattle.read_accepts_proof.specs.Meaning.{Accepts}
use Rattle.read_entry.specs.Entries as reader
use Rattle.read_entry.specs.Entries.{read_of, stays}
use Rattle.read_genuine.specs.Genuine.{written, genuine}
use Rattle.spec_refusals.specs.Legal.{Legal}
use Rattle.legal_texts.proofs.Main.{read_legal}
use Rattle.spec_normal.specs.Normal.{normal}
use Rattle.spec_layout.specs.Layout.{layout}
use Rattle.layout_proof.specs.Texts.{layout_text}
use Rattle.layout_proof.proofs.Texts as layouts
use Rattle.layout_proof.proofs.Texts.{text-layout, layout_short, layout_accepted, layout-tables, layout_tree}
use Rattle.normal_proof.proofs.Trees.{normal-reads, printed_tree}
use Rattle.normal_proof.specs.Texts.{normal_text}
use Rattle.normal_proof.proofs.Texts.{text-normal, text_never_longer, text_accepted, normal-tables, equal_texts}
use Rattle.normal_proof.proofs.Owners.{owned_genuine}
use Rattle.normal_entry.specs.Entries as writer
use Rattle.layout_entry.specs.Entries as laying
use Rattle.normal_entry.specs.Entries.{answer_of, answer_from, left_from, roomy, put, written_by, text_answer, text_left, tables_answer, tables_left}
use Rattle.write_texts.specs.Normal.{normal_of, layout_of}
use Rattle.demands.specs.Said as said
use Rattle.demands.specs.Demand3.{Same, Writes, Prints, Demand3}
use Rattle.demands.proofs.Owned.{blank, judged_by, legal_judged, legal_accepts, tree_is, left-roomy, left-wrote}
use Rattle.demands.proofs.Alike.{same_alike}

-- a text written where there is room for it
written_over : (u old : List ℕ) (j : Result ℕ Given) (left : List ℕ) → j ≡ roomy u old → left ≡ put (roomy u old) u old → Writes u old j left
written_over u old j left p q r =
    let e : roomy u old ≡ Ok (length u) = ap (λ (b : Bool). pick {A = Result ℕ Given} b (Err (given 7 0 0)) (Ok (length u))) (le-ltb (length old) (length u) r) in
    (ap said.writer (p ∙ e), q ∙ ap (λ (k : Result ℕ Given). put k u old) e)

module _ (t : List ℕ) (l : Legal t) where
  abbrev ok : judge_of t ≡ Ok tt
  ok = legal_judged t l

  abbrev a : Accepts t
  a = legal_accepts t l

  pub normal_is : normal_text t ≡ normal l.tree
  normal_is = text-normal t a ∙ ap normal (tree_is t l)

  pub layout_is : layout_text t ≡ layout l.tree
  layout_is = text-layout t a ∙ ap layout (tree_is t l)

  -- ---- what is written of the text and of its tables: g of the tables, which is f of the tree
  module _ (f : Model → List ℕ) (g : List ℕ → List ℕ) (is : g (tables_text t) ≡ f l.tree) where
    answered : (out : List ℕ) → Writes (f l.tree) out (text_answer g t out) (text_left g t out)
    answered out =
        subst (λ (u : List ℕ). Writes u out (text_answer g t out) (text_left g t out)) is
        (written_over (g (tables_text t)) out _ _ (ap (λ (j : Result (Unit {0}) Given). written_by j (g (tables_text t)) out) ok) (ap (λ (j : Result (Unit {0}) Given). put (written_by j (g (tables_text t)) out) (g (tables_text t)) out) ok))

    from_tables : (old out : List ℕ) → tables_room ≤ length old → Writes (f l.tree) out (tables_answer g (reader.left_of t old) out) (tables_left g (reader.left_of t old) out)
    unfolding tables_answer
    from_tables old out r =
        let ts = reader.left_of t old in
        let h : genuine ts ≡ true = owned_genuine ts record { text = t; accepted = ok; own = sym (left-wrote t old ok r) } in
        subst (λ (u : List ℕ). Writes u out (tables_answer g ts out) (tables_left g ts out)) (ap g (left-wrote t old ok r) ∙ is)
        (written_over (g (written ts)) out _ _ (ap₂ (λ (x y : Bool). by x y (g (written ts))) (left-roomy t old ok r) h) (ap₂ (λ (x y : Bool). put (by x y (g (written ts))) (g (written ts)) out) (left-roomy t old ok r) h))
      where
        by : Bool → Bool → List ℕ → Result ℕ Given
        by x y v = pick {A = Result ℕ Given} x (Err (given 7 0 0)) (pick {A = Result ℕ Given} y (roomy v out) (Err (given 8 0 0)))

  -- ---- a text of the same tree, u, with the same tables
  module _ (u : List ℕ) (again : judge_of u ≡ Ok tt) (tables_are : tables_text u ≡ tables_text t) where
    back : (old : List ℕ) → (read_of u old ≡ read_of t old) × (reader.left_of u old ≡ reader.left_of t old)
    unfolding read_of reader.left_of
    back old = (ap reads (again ∙ sym ok), ap₂ (λ (j : Result (Unit {0}) Given) (ts : List ℕ). stays (reads j) ts old) (again ∙ sym ok) tables_are)
      where
        reads : Result (Unit {0}) Given → Result (Unit {0}) Given
        reads j = pick {A = Result (Unit {0}) Given} (ltb (length old) tables_room) (Err (given 7 0 0)) j

    is_legal : Legal u
    is_legal = read_legal u blank (judged_by u blank (omega (arith, length-replicate {A = ℕ} tables_room 0)) ∙ again)

    same : (old new : List ℕ) → tables_room ≤ length old → tables_room ≤ length new → Same (reader.left_of t old) (reader.left_of u new)
    same old new r s =
        same_alike (reader.left_of t old) (reader.left_of u new) (left-roomy t old ok r ∙ sym (left-roomy u new again s)) (left-wrote t old ok r ∙ sym (left-wrote u new again s ∙ tables_are))

  -- the same tree, whatever it is read to
  own : (f : Model → List ℕ) → ((c : Accepts (f a.tree)) → c.tree ≡ a.tree) → (k : Legal (f l.tree)) → k.tree ≡ l.tree
  own f h k = sym (tree_is (f l.tree) k) ∙ subst (λ (m : Model). (c : Accepts (f m)) → c.tree ≡ m) (tree_is t l) h (legal_accepts (f l.tree) k)

  again : judge_of (normal l.tree) ≡ Ok tt
  again = ap judge_of (sym normal_is) ∙ text_accepted t a

  tables_are : tables_text (normal l.tree) ≡ tables_text t
  tables_are = ap tables_text (sym normal_is) ∙ normal-tables t a

  prints-normal : Prints normal answer_of writer.left_of answer_from left_from t l.tree
  prints-normal =
      let u = normal l.tree in
      record {
        answered = answered normal normal_of normal_is;
        legal = is_legal u again tables_are;
        own = own normal (printed_tree t a (normal a.tree) (normal-reads t a));
        back = back u again tables_are;
        from_tables = from_tables normal normal_of normal_is;
        same = same u again tables_are;
      }

  -- request One
  laid_is : layout a.tree ≡ layout l.tree
  laid_is = ap layout (tree_is t l)

  laid-again : judge_of (layout l.tree) ≡ Ok tt
  laid-again = ap judge_of (sym laid_is) ∙ layout_accepted t a

  laid-tables : tables_text (layout l.tree) ≡ tables_text t
  laid-tables = ap tables_text (sym laid_is) ∙ layout-tables t a

  prints-layout : Prints layout laying.answer_of laying.left_of laying.answer_from laying.left_from t l.tree
  prints-layout =
      let u = layout l.tree in
      record {
        answered = answered layout layout_of layout_is;
        legal = is_legal u laid-again laid-tables;
        own = own layout (layout_tree t a);
        back = back u laid-again laid-tables;
        from_tables = from_tables layout layout_of layout_is;
        same = same u laid-again laid-tables;
      }

  layout_normal : (out : List ℕ) → (answer_of (layout l.tree) out ≡ answer_of t out) × (writer.left_of (layout l.tree) out ≡ writer.left_of t out)
  layout_normal out = (
    ap₂ (λ (j : Result (Unit {0}) Given) (ts : List ℕ). written_by j (normal_of ts) out) (laid-again ∙ sym ok) laid-tables,
    ap₂ (λ (j : Result (Unit {0}) Given) (ts : List ℕ). put (written_by j (normal_of ts) out) (normal_of ts) out) (laid-again ∙ sym ok) laid-tables,
  )

-- "equal exactly when the trees are"
module _ (t u : List ℕ) (l : Legal t) (k : Legal u) where
  trees_are : (legal_accepts t l).tree ≡ (legal_accepts u k).tree → l.tree ≡ k.tree
  trees_are e = sym (tree_is t l) ∙ e ∙ tree_is u k

  equal_trees : (normal l.tree ≡ normal k.tree) ↔ (l.tree ≡ k.tree)
  equal_trees = (λ e. trees_are (equal_texts t u (legal_accepts t l) (legal_accepts u k) (normal_is t l ∙ e ∙ sym (normal_is u k))), λ e. ap normal e)

  equal_layouts : (layout l.tree ≡ layout k.tree) ↔ (l.tree ≡ k.tree)
  equal_layouts = (
    λ e. trees_are (layouts.equal_layouts t u (legal_accepts t l) (legal_accepts u k) (ap layout (tree_is t l) ∙ e ∙ sym (ap layout (tree_is u k)))),
    λ e. ap layout e,
  )

pub demand3 : Demand3
demand3 =
    record {
      normal_text_lem = prints-normal;
      never_longer = λ t l. omega (arith, ap length (normal_is t l), text_never_longer t (legal_accepts t l));
      equal_trees = equal_trees;
      layout_text_lem = prints-layout;
      layout_short = λ t l. omega (arith, ap length (laid_is t l), layout_short t (legal_accepts t l));
      layout_normal = layout_normal;
      equal_layouts = equal_layouts;
    }
