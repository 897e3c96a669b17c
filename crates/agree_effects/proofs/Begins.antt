-- WHERE THE MARK OF A STATEMENT STANDS: a statement begins with its own mark, or with a phrase, a name or a reference, which links to it. What a run links to is its proctype.
use Prim.Native.Nat.{ℕ, suc, ◌+◌, ◌-◌, ◌≤◌, ◌<◌, min}
use native.Mathlib.Omega.{arith}
use mathlib.Core.Path.{◌≡◌, refl, sym, ap, ◌∙◌}
use mathlib.Core.Bool.{Bool, true, false}
use mathlib.Core.Logic.{◌⊎◌, inl, inr}
use mathlib.Core.List.{List, [], ◌∷◌, ◌++◌}
use lib.ListN.{length, get_or, length-append}
use lib.Dec.{eqb}
use Rattle.base_codes.specs.Codes.{c_assert, c_assign, c_break, c_do, c_else, c_express, c_goto, c_if, c_name, c_run, c_set_run, c_skip, c_target, c_timeout}
use Rattle.base_bytes.specs.Choice.{pick}
use Rattle.spec_grammar.specs.Tree.{Name, Shape, Exp, Expr}
use Rattle.base_codes.specs.Items.{Item, i_assign, i_name, i_plain, i_set_run, i_target}
use Rattle.parse_code.specs.Code.{code_exp, code}
use Rattle.base_codes.specs.Items as items
use Rattle.base_codes.specs.Sets.{is_part, class_of, is_alone}
use Rattle.rule_sheets.specs.Walks.{first}
use Rattle.rule_sheets.proofs.Walks.{first_most}
use Rattle.rule_search.specs.Search.{declares, find}
use Rattle.rule_item.specs.Rules.{global_of}
use Rattle.link_places.specs.Places.{is_mark}
use Rattle.link_items.specs.Links.{link_by}
use Rattle.link_phrases_proof.proofs.Starts.{at_front}
use Rattle.link_phrases_proof.proofs.Inside.{phrase_inside}
use Rattle.table_layout.specs.Access.{code_of, link_of}
use Rattle.read_passes.specs.Judging.{tables_text}
use Rattle.read_accepts_proof.specs.Meaning.{Accepts}
use Rattle.step_ready.specs.Executing.{mark_of, is_own_mark}
use Rattle.agree_stage.specs.Scenes.{size_in}
use Rattle.agree_eval.specs.Names.{first_name, codes_at, said_at, homes_at}
use Rattle.agree_eval.proofs.Main.{items_long}
use Rattle.agree_eval.proofs.Said.{first_said}
use Rattle.keep_tables.specs.Facts.{homes, starts}
use Rattle.keep_tables.proofs.Tables.{text-held}
use Rattle.keep_tables.proofs.Known.{text_facts}
use Rattle.keep_tables.proofs.Links.{link_is}
use Rattle.agree_stage.proofs.Stands.{lying_back}
use Rattle.agree_offers.proofs.Places.{at_there, ends_there}
use Rattle.agree_effects.specs.Stages.{unit_at}
use Rattle.agree_effects.proofs.Parts.{Here, here_lies, first_code}
use Rattle.agree_effects.proofs.Marks.{all_parts, leaf-alone, link_mark}
use Rattle.agree_effects.proofs.Phrases.{proper, linked_there}
use Rattle.agree_effects.proofs.Lists.{leaf_there}

name-class : class_of c_name ≡ 5
unfolding class_of
name-class = refl

target-class : class_of c_target ≡ 5
unfolding class_of
target-class = refl

name-alone : is_own_mark c_name ≡ false
unfolding is_own_mark is_alone
name-alone = refl

name-part : is_mark c_name ≡ false
unfolding is_part
name-part = refl

assign_mark : is_mark c_assign ≡ true
unfolding is_part
assign_mark = refl

set_run_mark : is_mark c_set_run ≡ true
unfolding is_part
set_run_mark = refl

-- express, assert, goto
pub marks : (is_mark c_express ≡ true) × (is_mark c_assert ≡ true) × (is_mark c_goto ≡ true)
unfolding is_part
marks = (refl, refl, refl)

-- skip, break, timeout, else, if, do
pub alones : (is_own_mark c_skip ≡ true) × (is_own_mark c_break ≡ true) × (is_own_mark c_timeout ≡ true) × (is_own_mark c_else ≡ true) × (is_own_mark c_if ≡ true) × (is_own_mark c_do ≡ true)
unfolding is_own_mark is_alone
alones = (refl, refl, refl, refl, refl, refl)

module _ (t : List ℕ) (a : Accepts t) where
  abbrev xs : List Item
  xs = code a.tree

  abbrev C : List ℕ
  C = codes_at t a

  -- it is its own mark
  pub alone-mark : (x : Item) (l : List Item) (j : ℕ) → Here t a (x ∷ l) j → is_own_mark (items.code_of x) ≡ true → mark_of (tables_text t) j ≡ j
  unfolding mark_of
  alone-mark x l j p e = rw (first_code t a x l j p, e)

  -- it begins with a phrase
  pub phrase_mark : {k : Shape} (e : Exp k) (x : Item) (z : List Item) (j : ℕ) → Here t a (code_exp e ++ x ∷ z) j → is_mark (items.code_of x) ≡ true → mark_of (tables_text t) j ≡ j + size_in e
  unfolding mark_of
  phrase_mark e x z j p m = rw (leaf-alone (leaf_there t a e (x ∷ z) j p)) (linked_there t a e x z j p m)

  -- it begins with a name that is no reference
  pub name-mark : (w : Name) (x : Item) (z : List Item) (j : ℕ) → Here t a (i_name w ∷ x ∷ z) j → is_mark (items.code_of x) ≡ true → mark_of (tables_text t) j ≡ j + 1
  unfolding mark_of
  name-mark w x z j p m =
      let c = at_there t a (i_name w ∷ x ∷ z) j p in
      let e : j + 1 ≡ suc j = omega arith in
      rw (first_code t a (i_name w) (x ∷ z) j p, name-alone)
      (link_mark t a j (j + 1) (omega arith) (omega (arith, ends_there t a (i_name w ∷ x ∷ z) j p)) (ap class_of c.0 ∙ name-class) (λ y u v. absurd (omega arith))
      (ap (λ n. is_mark (get_or C n 0)) e ∙ ap is_mark c.1.0 ∙ m))

  -- a target links to the mark behind it
  pub target_assign : (e : Expr) (m : ℕ) → Here t a (i_target ∷ (code_exp e ++ i_assign ∷ [])) m → link_of (tables_text t) m ≡ m + 1 + size_in e
  target_assign e m p =
      let X = code_exp e in
      let q = lying_back xs (i_target ∷ []) (X ++ i_assign ∷ []) 0 m (m + 1) refl p in
      let h = at_there t a (X ++ i_assign ∷ []) (m + 1) q in
      link_mark t a m (m + 1 + size_in e) (omega arith) (omega (arith, ends_there t a (X ++ i_assign ∷ []) (m + 1) q, length-append X (i_assign ∷ [])))
      (ap class_of (at_there t a (i_target ∷ (X ++ i_assign ∷ [])) m p).0 ∙ target-class)
      (λ y u v. all_parts C X (m + 1) y (phrase_inside e (proper t a e i_assign [] (m + 1) q)) (at_front C (m + 1) X (i_assign ∷ []) h) (omega arith) v)
      (ap is_mark (at_there t a (i_assign ∷ []) (m + 1 + size_in e) (lying_back xs X (i_assign ∷ []) 0 (m + 1) (m + 1 + size_in e) refl q)).0 ∙ assign_mark)

  pub target_run : (w : Name) (l : List Item) (m : ℕ) → Here t a (i_target ∷ i_name w ∷ i_set_run ∷ l) m → link_of (tables_text t) m ≡ m + 2
  target_run w l m p =
      let c = at_there t a (i_target ∷ i_name w ∷ i_set_run ∷ l) m p in
      let e : m + 2 ≡ suc (suc m) = omega arith in
      link_mark t a m (m + 2) (omega arith) (omega (arith, ends_there t a (i_target ∷ i_name w ∷ i_set_run ∷ l) m p)) (ap class_of c.0 ∙ target-class)
      (λ y u v. let z : y ≡ suc m = omega arith in ap (λ n. is_mark (get_or C n 0)) z ∙ ap is_mark c.1.0 ∙ name-part) (ap (λ n. is_mark (get_or C n 0)) e ∙ ap is_mark c.1.1.0 ∙ set_run_mark)

  -- ---- a run links to its proctype
  run_link : (m : List ℕ) (j : ℕ) → (get_or C j 0 ≡ c_run) ⊎ (get_or C j 0 ≡ c_set_run) → link_by C (said_at t a) (homes C) (starts C) (class_of (get_or C j 0)) m j ≡ global_of C (said_at t a) (homes C) (j - 1)
  unfolding link_by class_of
  run_link m j (inl e) = rw e
  run_link m j (inr e) = rw e

  unit_most : (w : Name) → unit_at t a w ≤ length C
  unfolding unit_at find
  unit_most w = go (eqb n 0)
    where
      n : ℕ
      n = get_or (said_at t a) (first_name w xs) 0

      go : (b : Bool) → pick b (length C) (first (declares C (said_at t a) (homes_at t a) 1 n 0) 0 (length C)) ≤ length C
      go true = omega arith
      go false = omega (arith, first_most (declares C (said_at t a) (homes_at t a) 1 n 0) 0 (length C))

  pub global-unit : (w : Name) (i : ℕ) → i < length xs → get_or xs i i_plain ≡ i_name w → global_of C (said_at t a) (homes C) i ≡ unit_at t a w
  unfolding global_of unit_at
  global-unit w i h e = ap (λ n. find C (said_at t a) (homes_at t a) 1 n 0 (length C)) (sym (first_said t a w i h e))

  pub run-unit : (w : Name) (x : Item) (l : List Item) (i : ℕ) → Here t a (i_name w ∷ x ∷ l) i → (items.code_of x ≡ c_run) ⊎ (items.code_of x ≡ c_set_run) → link_of (tables_text t) (i + 1) ≡ unit_at t a w
  run-unit w x l i p v =
      let K = text_facts t a in
      let n = ends_there t a (i_name w ∷ x ∷ l) i p in
      let k = link_is C (said_at t a) (i + 1) K.few (omega arith) in
      let f = K.few in
      let u = unit_most w in
      let z : i + 1 - 1 ≡ i = omega arith in
      (text-held t a).links (i + 1) (omega arith) ∙ k.1
      ∙ ap (min 4294967295) (run_link k.0 (i + 1) (coded v) ∙ ap (global_of C (said_at t a) (homes C)) z
      ∙ global-unit w i (omega (arith, items_long t a)) (here_lies t a (i_name w ∷ x ∷ l) i p).0)
      ∙ (let y : min 4294967295 (unit_at t a w) ≡ unit_at t a w = omega arith in y)
    where
      c : get_or C (i + 1) 0 ≡ items.code_of x
      c = let y : i + 1 ≡ suc i = omega arith in ap (λ n. get_or C n 0) y ∙ (at_there t a (i_name w ∷ x ∷ l) i p).1.0

      coded : (items.code_of x ≡ c_run) ⊎ (items.code_of x ≡ c_set_run) → (get_or C (i + 1) 0 ≡ c_run) ⊎ (get_or C (i + 1) 0 ≡ c_set_run)
      coded (inl e) = inl (c ∙ e)
      coded (inr e) = inr (c ∙ e)
