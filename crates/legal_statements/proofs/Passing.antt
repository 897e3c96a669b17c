-- WHAT A TREE CHANGES for what stands behind it: its labels are there; it closes each loop that it opens, and each selection.
use Prim.Native.Nat.{ℕ, suc, ◌+◌, ◌-◌, ◌≤◌, ◌<◌}
use native.Mathlib.Omega.{arith}
use mathlib.Core.Path.{◌≡◌, refl, sym, ap, ap₂, subst, ◌∙◌}
use mathlib.Core.Bool.{Bool, true, false}
use mathlib.Core.List.{List, [], ◌∷◌, ◌++◌}
use lib.ListN.{length, get_or, length-append}
use lib.Dec.{eqb, ltb}
use borrow.Author.Tests.{ne_eqb, eq-eqb, lt-ltb}
use Rattle.base_codes.specs.Codes.{c_do, c_end_option, c_fi, c_if, c_label, c_od, c_option}
use Rattle.base_bytes.specs.Choice.{pick, both, either}
use Rattle.base_bytes.specs.Lists.{same}
use Rattle.base_bytes.proofs.Tests.{true_false}
use Rattle.rule_search.specs.Sets.{among}
use Rattle.rule_search.specs.Search.{declares, one, count}
use Rattle.rule_item.specs.Rules.{twin}
use Rattle.link_phrases_proof.proofs.Inside.{all_inside, phrase_inside}
use Rattle.spec_grammar.specs.Tree.{Name, Shape, Exp, Sort, action, statement, sequence, options, Tree, leaf, select, loop, bare, labelled, end, then, over, option, Leaf}
use Rattle.base_codes.specs.Items.{Item, code_of, i_do, i_end_option, i_fi, i_if, i_label, i_name, i_od, i_option}
use Rattle.parse_code.specs.Code.{code_exp, code_tree, code_leaf}
use Rattle.spec_rules.specs.Statements.{has, labels_of}
use Rattle.legal_terms.specs.Says.{item_at}
use Rattle.legal_statements.specs.Scene.{Scene, xs, homes, StandsIn}
use Rattle.legal_statements.proofs.Stands.{front, back, next, code_at, proper, home}
use Rattle.legal_statements.proofs.Arguments.{inner_code}
use Rattle.legal_statements.proofs.Walks.{any, any_next, count_next, twin-over, twin_in, twin_out, twin-deep}
use Rattle.parse_parts_proof.specs.Parts.{Spoken}
use Rattle.parse_parts_proof.proofs.Closed.{closed-leaf, spoken-code}

-- ---- an item that is no label and opens or closes no selection, and opens no option
abbrev pub dull : ℕ → Bool
dull c = pick (eqb c c_label) false (either (ltb c c_if) (eqb c c_end_option))

off : (c k : ℕ) → dull k ≡ false → dull c ≡ true → eqb c k ≡ false
off c k f d = ne_eqb c k (λ e. true_false (sym d ∙ ap (λ n. dull n) e ∙ f))

abbrev pub Dull : List Item → Type 0
Dull [] = Unit {0}
Dull (x ∷ l) = (dull (code_of x) ≡ true) × Dull l

dull-append : (x y : List Item) → Dull x → Dull y → Dull (x ++ y)
dull-append [] y a b = b
dull-append (c ∷ x) y a b = (a.0, dull-append x y a.1 b)

dull-inside : (l : List Item) → all_inside l → Dull l
dull-inside [] p = tt
dull-inside (x ∷ l) p =
    let c = code_of x in
    let z = inner_code c p.0 in
    ((rw (ne_eqb c c_label (λ e. omega (arith, z.0)), lt-ltb c c_if (omega (arith, z.0))) refl), dull-inside l p.1)

dull-spoken : {x : Item} → Spoken x → dull (code_of x) ≡ true
dull-spoken {x} h = let p = spoken-code h in let c = code_of x in rw (ne_eqb c c_label p.1, lt-ltb c c_if (omega arith)) refl

-- what stands in a set of one code
pub codes_sets : (c : ℕ) → (among 2 c ≡ eqb c c_label) × (among 7 c ≡ eqb c c_do) × (among 8 c ≡ eqb c c_od)
unfolding among
codes_sets c = (refl, refl, refl)

-- how deep, at least, where a walk back may pass over: options are passed over from inside of another selection
abbrev pub least : Sort → ℕ
least action = 1
least statement = 1
least sequence = 1
least options = 2

either-group : (a b c : Bool) → either (either a b) c ≡ either a (either b c)
either-group true b c = refl
either-group false b c = refl

pub has-append : (l k : List Name) (w : Name) → has (l ++ k) w ≡ either (has l w) (has k w)
has-append [] k w = refl
has-append (v ∷ l) k w = ap (either (same v w)) (has-append l k w) ∙ sym (either-group (same v w) (has l w) (has k w))

either-none : (a : Bool) → either a false ≡ a
either-none true = refl
either-none false = refl

module _ (S : Scene) where
  -- how many `do`s (set 7) or `od`s (set 8) of the body stand before item j
  abbrev pub before : ℕ → ℕ → ℕ
  before set j = count S.cs (homes S) set S.h 0 j

  -- a label of the body before item j has the name of item x
  abbrev pub label : ℕ → ℕ → Bool
  label x j = any (declares S.cs S.vs (homes S) 2 (get_or S.vs x 0) S.h) j

  -- from item i to item j, with these labels
  pub record Passing (i j : ℕ) (ls : List Name) (n : ℕ) : Type 0 where
    pub walk : (d : ℕ) → n ≤ d → twin S.cs j d ≡ twin S.cs i d
    pub even : before 7 j + before 8 i ≡ before 8 j + before 7 i
    pub labels : (x : ℕ) (w : Name) → x < length S.cs → item_at (xs S) x ≡ i_name w → label x j ≡ either (label x i) (has ls w)

  pub pass_both : (i k j : ℕ) (ls ms : List Name) (n : ℕ) → Passing i k ls n → Passing k j ms n → Passing i j (ls ++ ms) n
  pass_both i k j ls ms n p q =
      record {
        walk = λ d h. q.walk d h ∙ p.walk d h;
        even = let a = p.even in let b = q.even in omega arith;
        labels = λ x w h e.
            q.labels x w h e ∙ ap (λ (b : Bool). either b (has ms w)) (p.labels x w h e) ∙ either-group (label x i) (has ls w) (has ms w) ∙ ap (either (label x i)) (sym (has-append ls ms w));
      }

  pub pass_deeper : (i j : ℕ) (ls : List Name) → Passing i j ls 1 → Passing i j ls 2
  pass_deeper i j ls p = record { walk = λ d h. p.walk d (omega arith); even = p.even; labels = p.labels }

  pub pass_to : (i j k : ℕ) (ls : List Name) (n : ℕ) → j ≡ k → Passing i j ls n → Passing i k ls n
  pass_to i j k ls n e p = subst (λ m. Passing i m ls n) e p

  pass_none : (i : ℕ) (n : ℕ) → Passing i i [] n
  pass_none i n = record { walk = λ d h. refl; even = omega arith; labels = λ x w h e. sym (either-none (label x i)) }

  -- one item
  none_there : (set i : ℕ) → among set (get_or S.cs i 0) ≡ false → one S.cs (homes S) set S.h i ≡ 0
  unfolding one
  none_there set i e = rw e refl

  one_there : (set i : ℕ) → among set (get_or S.cs i 0) ≡ true → get_or (homes S) i 0 ≡ S.h → one S.cs (homes S) set S.h i ≡ 1
  unfolding one
  one_there set i e g = rw (e, eq-eqb (get_or (homes S) i 0) S.h g) refl

  no_label : (x i : ℕ) → among 2 (get_or S.cs i 0) ≡ false → declares S.cs S.vs (homes S) 2 (get_or S.vs x 0) S.h i ≡ false
  unfolding declares
  no_label x i e = rw e refl

  pub one_no : (set i : ℕ) → among set (get_or S.cs i 0) ≡ false → before set (suc i) ≡ before set i
  one_no set i e = let a = count_next S.cs (homes S) set S.h i in let b = none_there set i e in omega arith

  pub one-yes : (set i : ℕ) → among set (get_or S.cs i 0) ≡ true → get_or (homes S) i 0 ≡ S.h → before set (suc i) ≡ before set i + 1
  one-yes set i e g = let a = count_next S.cs (homes S) set S.h i in let b = one_there set i e g in omega arith

  pub label_no : (x i : ℕ) → among 2 (get_or S.cs i 0) ≡ false → label x (suc i) ≡ label x i
  label_no x i e = any_next (declares S.cs S.vs (homes S) 2 (get_or S.vs x 0) S.h) i ∙ ap (either (label x i)) (no_label x i e) ∙ either-none (label x i)

  pub pass_dull : (x : Item) (l : List Item) (i : ℕ) → StandsIn S i (x ∷ l) → dull (code_of x) ≡ true → Passing i (suc i) [] 1
  pass_dull x l i s d =
      let c = code_of x in
      let it = code_at S x l i s in
      let z = codes_sets c in
      record {
        walk = λ n h. twin-over S.cs i n c it h (ap₂ either (off c c_fi refl d) (off c c_od refl d)) (ap₂ either (off c c_if refl d) (off c c_do refl d)) (off c c_option refl d);
        even = let a = one_no 7 i (ap (among 7) it ∙ z.1 ∙ off c c_do refl d) in let b = one_no 8 i (ap (among 8) it ∙ z.2 ∙ off c c_od refl d) in omega arith;
        labels = λ y w h e. label_no y i (ap (among 2) it ∙ z.0 ∙ off c c_label refl d) ∙ sym (either-none (label y i));
      }

  pub pass_dulls : (l : List Item) (i j : ℕ) → j ≡ i + length l → StandsIn S i l → Dull l → Passing i j [] 1
  pass_dulls [] i j e s d = pass_to i i j [] 1 (let z : i ≡ j = omega arith in z) (pass_none i 1)
  pass_dulls (x ∷ l) i j e s d = pass_both i (suc i) j [] [] 1 (pass_dull x l i s d.0) (pass_dulls l (suc i) j (omega arith) (next S x l i s) d.1)

  -- ---- statements of dull items
  dull_exp : {s : Shape} (e : Exp s) (i : ℕ) → StandsIn S i (code_exp e) → Dull (code_exp e)
  dull_exp e i s = dull-inside (code_exp e) (phrase_inside e (proper S e i s))

  -- wherever these items stand they are dull
  abbrev DullAt : List Item → Type 0
  DullAt l = (i : ℕ) → StandsIn S i l → Dull l

  dull-join : (x y : List Item) → DullAt x → DullAt y → DullAt (x ++ y)
  dull-join x y f g i s = dull-append x y (f i (front S x y i s)) (g (i + length x) (back S x y i (i + length x) refl s))

  dull-leaf : (l : Leaf) → DullAt (code_leaf l)
  dull-leaf l = closed-leaf DullAt (λ i s. tt) dull-join (λ s e. dull_exp e) (λ x h i s. (dull-spoken h, tt)) l

  -- ---- what opens and closes a selection
  pass_select : (x y : Item) (o : List Item) (ls : List Name) (i j : ℕ) → j ≡ suc i + length o → StandsIn S i (x ∷ (o ++ y ∷ []))
      → either (eqb (code_of x) c_if) (eqb (code_of x) c_do) ≡ true → either (eqb (code_of x) c_fi) (eqb (code_of x) c_od) ≡ false → either (eqb (code_of y) c_fi) (eqb (code_of y) c_od) ≡ true
      → (eqb (code_of x) c_option ≡ false) × (eqb (code_of y) c_option ≡ false) × (eqb (code_of x) c_label ≡ false) × (eqb (code_of y) c_label ≡ false)
      → (eqb (code_of x) c_od ≡ false) × (eqb (code_of y) c_do ≡ false) × (eqb (code_of x) c_do ≡ eqb (code_of y) c_od) → Passing (suc i) j ls 2 → Passing i (suc j) ls 1
  pass_select x y o ls i j q s a b c f g p =
      let it = code_at S x (o ++ y ∷ []) i s in
      let ty = back S (x ∷ o) (y ∷ []) i j (omega arith) s in
      let is = code_at S y [] j ty in
      let cx = code_of x in
      let cy = code_of y in
      record {
        walk = λ d h.
            twin_in S.cs j d cy is h c f.1 ∙ p.walk (d + 1) (omega arith) ∙ twin_out S.cs i (d + 1) cx it (omega arith) b a f.0
            ∙ ap (twin S.cs i) (let z : d + 1 - 1 ≡ d = omega arith in z);
        even = both_even it is (home S x (o ++ y ∷ []) i s) (home S y [] j ty) (eqb cy c_od) refl;
        labels = λ z w h e.
            label_no z j (ap (among 2) is ∙ (codes_sets cy).0 ∙ f.3) ∙ p.labels z w h e ∙ ap (λ (t : Bool). either t (has ls w)) (label_no z i (ap (among 2) it ∙ (codes_sets cx).0 ∙ f.2));
      }
    where
      both_even : get_or S.cs i 0 ≡ code_of x → get_or S.cs j 0 ≡ code_of y → get_or (homes S) i 0 ≡ S.h → get_or (homes S) j 0 ≡ S.h → (t : Bool) → eqb (code_of y) c_od ≡ t
          → before 7 (suc j) + before 8 i ≡ before 8 (suc j) + before 7 i
      both_even it is hi hj true e =
          let m = p.even in
          let a1 = one-yes 7 i (ap (among 7) it ∙ (codes_sets (code_of x)).1 ∙ g.2 ∙ e) hi in
          let a2 = one_no 8 i (ap (among 8) it ∙ (codes_sets (code_of x)).2 ∙ g.0) in
          let a3 = one_no 7 j (ap (among 7) is ∙ (codes_sets (code_of y)).1 ∙ g.1) in
          let a4 = one-yes 8 j (ap (among 8) is ∙ (codes_sets (code_of y)).2 ∙ e) hj in
          omega arith
      both_even it is hi hj false e =
          let m = p.even in
          let a1 = one_no 7 i (ap (among 7) it ∙ (codes_sets (code_of x)).1 ∙ g.2 ∙ e) in
          let a2 = one_no 8 i (ap (among 8) it ∙ (codes_sets (code_of x)).2 ∙ g.0) in
          let a3 = one_no 7 j (ap (among 7) is ∙ (codes_sets (code_of y)).1 ∙ g.1) in
          let a4 = one_no 8 j (ap (among 8) is ∙ (codes_sets (code_of y)).2 ∙ e) in
          omega arith

  -- a label, behind its name
  pub pass_label : (w : Name) (l : List Item) (i : ℕ) → StandsIn S i (i_name w ∷ i_label ∷ l) → Passing i (suc (suc i)) (w ∷ []) 1
  unfolding declares
  pass_label w l i s =
      let n = next S (i_name w) (i_label ∷ l) i s in
      let it = code_at S i_label l (suc i) n in
      pass_both i (suc i) (suc (suc i)) [] (w ∷ []) 1 (pass_dull (i_name w) (i_label ∷ l) i s refl)
      record {
        walk = λ d h. twin-over S.cs (suc i) d c_label it h refl refl refl;
        even = let a = one_no 7 (suc i) (ap (among 7) it ∙ (codes_sets c_label).1) in let b = one_no 8 (suc i) (ap (among 8) it ∙ (codes_sets c_label).2) in omega arith;
        labels = λ x v h e.
            any_next (declares S.cs S.vs (homes S) 2 (get_or S.vs x 0) S.h) (suc i)
            ∙ ap (either (label x (suc i)))
            (declared x v it (home S i_label l (suc i) n) (S.says.names i x w v (let a = s.high in let b = S.within in omega arith) h s.items.0 e) ∙ sym (either-none (same w v)));
      }
    where
      declared : (x : ℕ) (v : Name) → get_or S.cs (suc i) 0 ≡ c_label → get_or (homes S) (suc i) 0 ≡ S.h → eqb (get_or S.vs i 0) (get_or S.vs x 0) ≡ same w v
          → pick (among 2 (get_or S.cs (suc i) 0)) (both (eqb (get_or S.vs (suc i - 1) 0) (get_or S.vs x 0)) (eqb (get_or (homes S) (suc i) 0) S.h)) false ≡ same w v
      declared x v it g e =
          let z : suc i - 1 ≡ i = omega arith in
          rw (it, (codes_sets c_label).0, z, eq-eqb (get_or (homes S) (suc i) 0) S.h g, e) (last (same w v))
        where
          last : (b : Bool) → both b true ≡ b
          last true = refl
          last false = refl

  -- an option between its items, seen from inside of another selection
  pass_option : (l : List Item) (i : ℕ) → StandsIn S i (i_option ∷ l) → Passing i (suc i) [] 2
  pass_option l i s =
      let it = code_at S i_option l i s in
      record {
        walk = λ d h. twin-deep S.cs i d it h;
        even = let a = one_no 7 i (ap (among 7) it ∙ (codes_sets c_option).1) in let b = one_no 8 i (ap (among 8) it ∙ (codes_sets c_option).2) in omega arith;
        labels = λ y w h e. label_no y i (ap (among 2) it ∙ (codes_sets c_option).0) ∙ sym (either-none (label y i));
      }

  pub passing : {k : Sort} (t : Tree k) (i j : ℕ) → j ≡ i + length (code_tree t) → StandsIn S i (code_tree t) → Passing i j (labels_of t) (least k)
  passing (leaf l) i j q s = pass_dulls (code_leaf l) i j q s (dull-leaf l i s)
  passing (select os) i j q s =
      let O = code_tree os in
      let k = suc i + length O in
      pass_to i (suc k) j (labels_of os) 1 (let n = length-append O (i_fi ∷ []) in let z : suc k ≡ j = omega arith in z)
      (pass_select i_if i_fi O (labels_of os) i k refl s refl refl refl (refl, refl, refl, refl) (refl, refl, refl)
      (passing os (suc i) k refl (front S O (i_fi ∷ []) (suc i) (next S i_if (O ++ i_fi ∷ []) i s))))
  passing (loop os) i j q s =
      let O = code_tree os in
      let k = suc i + length O in
      pass_to i (suc k) j (labels_of os) 1 (let n = length-append O (i_od ∷ []) in let z : suc k ≡ j = omega arith in z)
      (pass_select i_do i_od O (labels_of os) i k refl s refl refl refl (refl, refl, refl, refl) (refl, refl, refl)
      (passing os (suc i) k refl (front S O (i_od ∷ []) (suc i) (next S i_do (O ++ i_od ∷ []) i s))))
  passing (bare a) i j q s = passing a i j q s
  passing (labelled w a) i j q s =
      pass_both i (suc (suc i)) j (w ∷ []) (labels_of a) 1 (pass_label w (code_tree a) i s)
      (passing a (suc (suc i)) j (omega arith) (next S i_label (code_tree a) (suc i) (next S (i_name w) (i_label ∷ code_tree a) i s)))
  passing end i j q s = pass_dulls [] i j q s tt
  passing (then a b) i j q s =
      let A = code_tree a in
      let B = code_tree b in
      let k = i + length A in
      pass_both i k j (labels_of a) (labels_of b) 1 (passing a i k refl (front S A B i s)) (passing b k j (let n = length-append A B in omega arith) (back S A B i k refl s))
  passing over i j q s = pass_deeper i j [] (pass_dulls [] i j q s tt)
  passing (option a b) i j q s =
      let A = code_tree a in
      let B = code_tree b in
      let k = suc i + length A in
      let n = next S i_option (A ++ i_end_option ∷ B) i s in
      let sb = back S A (i_end_option ∷ B) (suc i) k refl n in
      pass_both i (suc i) j [] (labels_of a ++ labels_of b) 2 (pass_option (A ++ i_end_option ∷ B) i s)
      (pass_both (suc i) k j (labels_of a) (labels_of b) 2 (pass_deeper (suc i) k (labels_of a) (passing a (suc i) k refl (front S A (i_end_option ∷ B) (suc i) n)))
      (pass_both k (suc k) j [] (labels_of b) 2 (pass_deeper k (suc k) [] (pass_dull i_end_option B k sb refl))
      (passing b (suc k) j (let m = length-append A (i_end_option ∷ B) in omega arith) (next S i_end_option B k sb))))
