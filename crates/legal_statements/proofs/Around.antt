-- What stands around a statement: the labels before it, the loops that it is in, and whether an `else` may stand there.
use Prim.Native.Nat.{ℕ, suc, ◌+◌, ◌-◌, ◌≤◌, ◌<◌}
use native.Mathlib.Omega.{arith}
use mathlib.Core.Path.{◌≡◌, refl, sym, ap, ap₂, ◌∙◌}
use mathlib.Core.Bool.{Bool, true, false, not}
use mathlib.Core.List.{List, [], ◌∷◌, ◌++◌}
use lib.ListN.{length, get_or, length-append}
use lib.Dec.{eqb, ltb}
use borrow.Author.Tests.{lt-ltb, le-ltb, ltb-true, ltb-false, ne_eqb}
use Rattle.base_codes.specs.Codes.{c_break, c_do, c_else, c_end_option, c_fi, c_goto, c_if, c_label, c_od, c_option, c_skip, c_timeout}
use Rattle.base_bytes.specs.Choice.{pick, both, either}
use Rattle.base_bytes.specs.Lists.{same}
use Rattle.spec_text.specs.Names.{pid}
use Rattle.rule_search.specs.Sets.{among}
use Rattle.rule_search.specs.Search.{find}
use Rattle.rule_item.specs.Rules.{twin, bad_twice, bad_goto, bad_break, bad_else, bad_by}
use Rattle.link_phrases_proof.proofs.Starts.{some-items}
use Rattle.link_phrases_proof.proofs.Inside.{all_inside, phrase_inside}
use Rattle.spec_grammar.specs.Tree.{Name, Shape, Exp, Sort, action, statement, sequence, options, Tree, leaf, express, assign, increment, decrement, send, receive, assert, print, skip, goto, break, timeout, else, run, set_run, select, loop, bare, labelled, end, then}
use Rattle.base_codes.specs.Items.{Item, code_of, i_assert, i_assign, i_break, i_decrement, i_do, i_else, i_end, i_end_option, i_express, i_fi, i_goto, i_if, i_increment, i_label, i_name, i_od, i_option, i_receive, i_run, i_send, i_set_run, i_skip, i_target, i_text, i_timeout}
use Rattle.base_codes.specs.Sets.{rule_of}
use Rattle.parse_code.specs.Code.{each, code_exp, code_argument, code_received, code_tree}
use Rattle.parse_spots.specs.Spots.{Spot, items}
use Rattle.spec_rules.specs.Statements.{has, is_else_lem}
use Rattle.spec_faults.specs.Faults.{unless}
use Rattle.legal_terms.specs.Says.{item_at}
use Rattle.legal_statements.specs.Scene.{Scene, xs, homes, starts, heights, fault, faults, StandsIn, SpotsIn}
use Rattle.legal_statements.proofs.Stands.{front, back, next, inside, home, erased, code_at, code_of_lem, proper, faults-one, fault_by, place_own, place-before, free_first}
use Rattle.legal_statements.proofs.Uses.{pid-told}
use Rattle.legal_statements.proofs.Phrases.{rules_none}
use Rattle.legal_statements.proofs.Arguments.{inner_code}
use Rattle.legal_statements.proofs.Walks.{find-any, twin_option}
use Rattle.legal_statements.proofs.Passing.{codes_sets, has-append, before, label, Passing, one_no, one-yes, label_no, pass_dull, passing}

-- ---- rules
pub silent : (rule_of c_skip ≡ 0) × (rule_of c_timeout ≡ 0) × (rule_of c_if ≡ 0) × (rule_of c_fi ≡ 0) × (rule_of c_do ≡ 0) × (rule_of c_od ≡ 0) × (rule_of c_option ≡ 0) × (rule_of c_end_option ≡ 0)
unfolding rule_of
silent = (refl, refl, refl, refl, refl, refl, refl, refl)

judged : (rule_of c_label ≡ 7) × (rule_of c_goto ≡ 9) × (rule_of c_break ≡ 3) × (rule_of c_else ≡ 4)
unfolding rule_of
judged = (refl, refl, refl, refl)

-- ---- tests
label-told : (b : Bool) → pick {A = ℕ} b 4 0 ≡ pick (not b) 0 4
label-told true = refl
label-told false = refl

else_told : (b : Bool) → pick {A = ℕ} (not b) 5 0 ≡ pick b 0 5
else_told true = refl
else_told false = refl

less_told : (a d : ℕ) (b : Bool) → ltb 0 d ≡ b → ltb a (a + d) ≡ b
less_told a d true e = lt-ltb a (a + d) (let z = ltb-true 0 d e in omega arith)
less_told a d false e = le-ltb a (a + d) (let z = ltb-false 0 d e in omega arith)

module _ (S : Scene) where
  -- ---- what is known at item i
  -- the labels of the body before it
  abbrev pub Prior : ℕ → List Name → Type 0
  Prior i ls = (x : ℕ) (w : Name) → x < length S.cs → item_at (xs S) x ≡ i_name w → label S x i ≡ has ls w

  -- in how many loops it is, and whether in one
  pub record Deep (i : ℕ) (loops : Bool) : Type 0 where
    pub depth : ℕ
    pub opened : before S 7 i ≡ before S 8 i + depth
    pub told : ltb 0 depth ≡ loops

  -- whether an `else` may stand there; of options, whether no earlier one of the selection begins with it
  abbrev pub Around : Sort → ℕ → Bool → Type 0
  Around action i may = bad_else S.cs i ≡ pick may 0 5
  Around statement i may = bad_else S.cs i ≡ pick may 0 5
  Around sequence i may = bad_else S.cs i ≡ pick may 0 5
  Around options i may = twin S.cs i 1 ≡ not may

  -- behind another item than `option` it may not, behind `option` where the options say so
  pub else_never : (i : ℕ) → eqb (get_or S.cs (i - 1) 0) c_option ≡ false → bad_else S.cs i ≡ 5
  unfolding bad_else
  else_never i e = rw e refl

  pub else_first : (i : ℕ) (may : Bool) → get_or S.cs i 0 ≡ c_option → twin S.cs i 1 ≡ not may → bad_else S.cs (suc i) ≡ pick may 0 5
  unfolding bad_else
  else_first i may e f = let z : suc i - 1 ≡ i = omega arith in rw (z, e, f) (else_told may)

  -- ---- behind one item
  pub prior_next : (x : Item) (l : List Item) (i : ℕ) (ls : List Name) → StandsIn S i (x ∷ l) → eqb (code_of x) c_label ≡ false → Prior i ls → Prior (suc i) ls
  prior_next x l i ls s e p = λ y w h g. label_no S y i (ap (among 2) (code_at S x l i s) ∙ (codes_sets (code_of x)).0 ∙ e) ∙ p y w h g

  pub deep-next : (x : Item) (l : List Item) (i : ℕ) (loops : Bool) → StandsIn S i (x ∷ l) → eqb (code_of x) c_do ≡ false → eqb (code_of x) c_od ≡ false → Deep i loops → Deep (suc i) loops
  deep-next x l i loops s e f p =
      let it = code_at S x l i s in
      record {
        depth = p.depth;
        opened =
            let a = one_no S 7 i (ap (among 7) it ∙ (codes_sets (code_of x)).1 ∙ e) in let b = one_no S 8 i (ap (among 8) it ∙ (codes_sets (code_of x)).2 ∙ f) in let c = p.opened in omega arith;
        told = p.told;
      }

  pub deep_loop : (l : List Item) (i : ℕ) (loops : Bool) → StandsIn S i (i_do ∷ l) → Deep i loops → Deep (suc i) true
  deep_loop l i loops s p =
      let it = code_at S i_do l i s in
      record {
        depth = p.depth + 1;
        opened = let a = one-yes S 7 i (ap (among 7) it ∙ (codes_sets c_do).1) (home S i_do l i s) in let b = one_no S 8 i (ap (among 8) it ∙ (codes_sets c_do).2) in let c = p.opened in omega arith;
        told = lt-ltb 0 (p.depth + 1) (omega arith);
      }

  -- ---- behind a tree
  pub prior_over : (i k : ℕ) (ls ms : List Name) (n : ℕ) → Passing S i k ms n → Prior i ls → Prior k (ls ++ ms)
  prior_over i k ls ms n q p = λ x w h e. q.labels x w h e ∙ ap (λ (b : Bool). either b (has ms w)) (p x w h e) ∙ sym (has-append ls ms w)

  pub deep-over : (i k : ℕ) (ms : List Name) (n : ℕ) (loops : Bool) → Passing S i k ms n → Deep i loops → Deep k loops
  deep-over i k ms n loops q p = record { depth = p.depth; opened = let a = q.even in let b = p.opened in omega arith; told = p.told }

  -- ---- the last item of a statement begins no option
  ends_with : (l : List Item) (y : Item) (i k : ℕ) → k ≡ i + length (l ++ y ∷ []) → StandsIn S i (l ++ y ∷ []) → eqb (code_of y) c_option ≡ false → eqb (get_or S.cs (k - 1) 0) c_option ≡ false
  ends_with l y i k e s f =
      let n = length-append l (y ∷ []) in
      ap (λ c. eqb c c_option) (code_at S y [] (k - 1) (back S l (y ∷ []) i (k - 1) (omega arith) s)) ∙ f

  action_ends : (a : Tree action) (i k : ℕ) → k ≡ i + length (code_tree a) → StandsIn S i (code_tree a) → eqb (get_or S.cs (k - 1) 0) c_option ≡ false
  action_ends (leaf (express e)) i k q s = ends_with (code_exp e) i_express i k q s refl
  action_ends (leaf (assign r e)) i k q s = ends_with (code_exp r ++ i_target ∷ code_exp e) i_assign i k q s refl
  action_ends (leaf (increment r)) i k q s = ends_with (code_exp r) i_increment i k q s refl
  action_ends (leaf (decrement r)) i k q s = ends_with (code_exp r) i_decrement i k q s refl
  action_ends (leaf (send mk r es)) i k q s = ends_with (code_exp r ++ i_send mk ∷ each code_argument es) i_end i k q s refl
  action_ends (leaf (receive mk r es)) i k q s = ends_with (code_exp r ++ i_receive mk ∷ each code_received es) i_end i k q s refl
  action_ends (leaf (assert e)) i k q s = ends_with (code_exp e) i_assert i k q s refl
  action_ends (leaf (print w es)) i k q s = ends_with (i_text w ∷ each code_argument es) i_end i k q s refl
  action_ends (leaf skip) i k q s = ends_with [] i_skip i k q s refl
  action_ends (leaf (goto w)) i k q s = ends_with (i_name w ∷ []) i_goto i k q s refl
  action_ends (leaf break) i k q s = ends_with [] i_break i k q s refl
  action_ends (leaf timeout) i k q s = ends_with [] i_timeout i k q s refl
  action_ends (leaf else) i k q s = ends_with [] i_else i k q s refl
  action_ends (leaf (run w es)) i k q s = ends_with (i_name w ∷ i_run ∷ each code_argument es) i_end i k q s refl
  action_ends (leaf (set_run r w es)) i k q s = ends_with (code_exp r ++ i_target ∷ i_name w ∷ i_set_run ∷ each code_argument es) i_end i k q s refl
  action_ends (select os) i k q s = ends_with (i_if ∷ code_tree os) i_fi i k q s refl
  action_ends (loop os) i k q s = ends_with (i_do ∷ code_tree os) i_od i k q s refl

  pub statement_ends : (a : Tree statement) (i k : ℕ) → k ≡ i + length (code_tree a) → StandsIn S i (code_tree a) → eqb (get_or S.cs (k - 1) 0) c_option ≡ false
  statement_ends (bare a) i k q s = action_ends a i k q s
  statement_ends (labelled w a) i k q s =
      action_ends a (suc (suc i)) k (omega arith) (next S i_label (code_tree a) (suc i) (next S (i_name w) (i_label ∷ code_tree a) i s))

  -- ---- the first item of an option's statements is `else` where they begin with one
  begins-inside : (l m : List Item) (i : ℕ) → all_inside l → 1 ≤ length l → StandsIn S i (l ++ m) → eqb (get_or S.cs i 0) c_else ≡ false
  begins-inside [] m i p h s = absurd (omega arith)
  begins-inside (x ∷ l) m i p h s =
      let c = (inner_code (code_of x) p.0).0 in
      ap (λ n. eqb n c_else) (code_at S x (l ++ m) i s) ∙ ne_eqb (code_of x) c_else (λ e. omega arith)

  begins_exp : {s : Shape} (e : Exp s) (m : List Item) (i : ℕ) → StandsIn S i (code_exp e ++ m) → eqb (get_or S.cs i 0) c_else ≡ false
  begins_exp e m i s = begins-inside (code_exp e) m i (phrase_inside e (proper S e i (front S (code_exp e) m i s))) (some-items e) s

  begins-with : (x : Item) (l : List Item) (i : ℕ) (b : Bool) → StandsIn S i (x ∷ l) → eqb (code_of x) c_else ≡ b → eqb (get_or S.cs i 0) c_else ≡ b
  begins-with x l i b s e = ap (λ n. eqb n c_else) (code_at S x l i s) ∙ e

  action_begins : (a : Tree action) (i : ℕ) → StandsIn S i (code_tree a) → eqb (get_or S.cs i 0) c_else ≡ not (eqb (is_else_lem a) 0)
  action_begins (leaf (express e)) i s = begins_exp e (i_express ∷ []) i s
  action_begins (leaf (assign r e)) i s = begins_exp r (i_target ∷ code_exp e) i (front S (code_exp r ++ i_target ∷ code_exp e) (i_assign ∷ []) i s)
  action_begins (leaf (increment r)) i s = begins_exp r (i_increment ∷ []) i s
  action_begins (leaf (decrement r)) i s = begins_exp r (i_decrement ∷ []) i s
  action_begins (leaf (send mk r es)) i s = begins_exp r (i_send mk ∷ each code_argument es) i (front S (code_exp r ++ i_send mk ∷ each code_argument es) (i_end ∷ []) i s)
  action_begins (leaf (receive mk r es)) i s = begins_exp r (i_receive mk ∷ each code_received es) i (front S (code_exp r ++ i_receive mk ∷ each code_received es) (i_end ∷ []) i s)
  action_begins (leaf (assert e)) i s = begins_exp e (i_assert ∷ []) i s
  action_begins (leaf (print w es)) i s = begins-with (i_text w) (each code_argument es ++ i_end ∷ []) i false s refl
  action_begins (leaf skip) i s = begins-with i_skip [] i false s refl
  action_begins (leaf (goto w)) i s = begins-with (i_name w) (i_goto ∷ []) i false s refl
  action_begins (leaf break) i s = begins-with i_break [] i false s refl
  action_begins (leaf timeout) i s = begins-with i_timeout [] i false s refl
  action_begins (leaf else) i s = begins-with i_else [] i true s refl
  action_begins (leaf (run w es)) i s = begins-with (i_name w) (i_run ∷ (each code_argument es ++ i_end ∷ [])) i false s refl
  action_begins (leaf (set_run r w es)) i s =
      begins_exp r (i_target ∷ i_name w ∷ i_set_run ∷ each code_argument es) i (front S (code_exp r ++ i_target ∷ i_name w ∷ i_set_run ∷ each code_argument es) (i_end ∷ []) i s)
  action_begins (select os) i s = begins-with i_if (code_tree os ++ i_fi ∷ []) i false s refl
  action_begins (loop os) i s = begins-with i_do (code_tree os ++ i_od ∷ []) i false s refl

  option_begins : (q : Tree sequence) (l : List Item) (i : ℕ) → StandsIn S i (code_tree q ++ (i_end_option ∷ l)) → eqb (get_or S.cs i 0) c_else ≡ not (eqb (is_else_lem q) 0)
  option_begins end l i s = begins-with i_end_option l i false s refl
  option_begins (then (bare a) q) l i s = action_begins a i (front S (code_tree a) (code_tree q) i (front S (code_tree a ++ code_tree q) (i_end_option ∷ l) i s))
  option_begins (then (labelled w a) q) l i s = begins-with (i_name w) (i_label ∷ ((code_tree a ++ code_tree q) ++ (i_end_option ∷ l))) i false s refl

  -- ---- behind an option the walk back finds it, where it begins with `else`, or what it found before it
  pub option_seen : (q : Tree sequence) (l : List Item) (i k : ℕ) (may : Bool) → k ≡ suc i + length (code_tree q) → StandsIn S i (i_option ∷ (code_tree q ++ (i_end_option ∷ l)))
      → twin S.cs i 1 ≡ not may → twin S.cs (suc k) 1 ≡ not (both may (eqb (is_else_lem q) 0))
  option_seen q l i k may e s t =
      let Q = code_tree q in
      let n = next S i_option (Q ++ (i_end_option ∷ l)) i s in
      let z : i + 1 ≡ suc i = omega arith in
      (pass_dull S i_end_option l k (back S Q (i_end_option ∷ l) (suc i) k e n) refl).walk 1 (omega arith)
      ∙ (passing S q (suc i) k e (front S Q (i_end_option ∷ l) (suc i) n)).walk 1 (omega arith)
      ∙ twin_option S.cs i (code_at S i_option (Q ++ (i_end_option ∷ l)) i s)
      ∙ ap₂ (λ (a b : Bool). pick a true b) (ap (λ m. eqb (get_or S.cs m 0) c_else) z ∙ option_begins q l (suc i) n) t ∙ turn (eqb (is_else_lem q) 0) may
    where
      turn : (a b : Bool) → pick (not a) true (not b) ≡ not (both b a)
      turn true true = refl
      turn true false = refl
      turn false true = refl
      turn false false = refl

  -- ---- one item each: label, goto, break, else
  -- the name of a goto is found among the labels of the body
  abbrev pub Goes : Type 0
  Goes =
      (x : ℕ) (w : Name) → S.from ≤ x → x < S.to → item_at (xs S) x ≡ i_name w
      → ltb (find S.cs S.vs (homes S) 2 (get_or S.vs x 0) S.h (length S.cs)) (length S.cs) ≡ both (not (same w pid)) (has S.at.labels w)

  goto_is : (i : ℕ) (b : Bool) → get_or (homes S) (suc i) 0 ≡ S.h → ltb (find S.cs S.vs (homes S) 2 (get_or S.vs i 0) S.h (length S.cs)) (length S.cs) ≡ b
      → bad_by S.cs S.vs (homes S) (starts S) (heights S) 9 (suc i) ≡ pick b 0 4
  unfolding bad_by bad_goto
  goto_is i b g e = let z : suc i - 1 ≡ i = omega arith in rw (z, g, e) refl

  pub goto_fault : (w : Name) (i n : ℕ) → SpotsIn S i ((i_name w, n + 1) ∷ (i_goto, n) ∷ []) → Goes
      → faults S i ((i_name w, n + 1) ∷ (i_goto, n) ∷ []) ≡ unless (both (not (same w pid)) (has S.at.labels w)) 4 (n + 1)
  goto_fault w i n s goes =
      let a : Spot = (i_name w, n + 1) in
      let m : Spot = (i_goto, n) in
      let t = next S a (m ∷ []) i s in
      let b = both (not (same w pid)) (has S.at.labels w) in
      free_first S a (m ∷ []) i s rules_none.0
      ∙ faults-one S m (suc i)
      (fault_by S (suc i) c_goto 9 (pick b 0 4) (n + 1) (code_of_lem S m [] (suc i) t) judged.1
      (goto_is i b (home S m [] (suc i) t) (goes i w s.low (inside S a (m ∷ []) i s) s.items.0.0)) (place-before S 9 i (n + 1) refl refl s.items.0.1))

  break_is : (i : ℕ) (b : Bool) → get_or (homes S) i 0 ≡ S.h → ltb (before S 8 i) (before S 7 i) ≡ b → bad_by S.cs S.vs (homes S) (starts S) (heights S) 3 i ≡ pick b 0 5
  unfolding bad_by bad_break
  break_is i b g e = rw (g, e) refl

  pub break_fault : (i n : ℕ) (loops : Bool) → SpotsIn S i ((i_break, n) ∷ []) → Deep i loops → faults S i ((i_break, n) ∷ []) ≡ unless loops 5 n
  break_fault i n loops s p =
      let m : Spot = (i_break, n) in
      faults-one S m i
      (fault_by S i c_break 3 (pick loops 0 5) n (code_of_lem S m [] i s) judged.2
      (break_is i loops (home S m [] i s) (ap (ltb (before S 8 i)) p.opened ∙ less_told (before S 8 i) p.depth loops p.told)) (place_own S 3 i n refl s.items.0.1))

  else_rule : (j : ℕ) → bad_by S.cs S.vs (homes S) (starts S) (heights S) 4 j ≡ bad_else S.cs j
  unfolding bad_by
  else_rule j = refl

  pub else_fault : (i n : ℕ) (may : Bool) → SpotsIn S i ((i_else, n) ∷ []) → bad_else S.cs i ≡ pick may 0 5 → faults S i ((i_else, n) ∷ []) ≡ unless may 5 n
  else_fault i n may s p =
      let m : Spot = (i_else, n) in
      faults-one S m i (fault_by S i c_else 4 (pick may 0 5) n (code_of_lem S m [] i s) judged.3 (else_rule i ∙ p) (place_own S 4 i n refl s.items.0.1))

  label_is : (i : ℕ) (b : Bool) → get_or (homes S) (suc i) 0 ≡ S.h
      → either (eqb (get_or S.vs i 0) 0) (ltb (find S.cs S.vs (homes S) 2 (get_or S.vs i 0) S.h (suc i)) (suc i)) ≡ b
      → bad_by S.cs S.vs (homes S) (starts S) (heights S) 7 (suc i) ≡ pick (not b) 0 4
  unfolding bad_by bad_twice
  label_is i b g e = let z : suc i - 1 ≡ i = omega arith in rw (z, g, e) (label-told b)

  -- a label is none of those before it
  pub label-fault : (w : Name) (l : List Spot) (i n : ℕ) (ls : List Name) → SpotsIn S i ((i_name w, n) ∷ (i_label, n) ∷ l) → Prior i ls
      → fault S (suc i) ≡ unless (not (either (same w pid) (has ls w))) 4 n
  label-fault w l i n ls s p =
      let a : Spot = (i_name w, n) in
      let m : Spot = (i_label, n) in
      let t = next S a (m ∷ l) i s in
      fault_by S (suc i) c_label 7 (pick (not (either (same w pid) (has ls w))) 0 4) n (code_of_lem S m l (suc i) t) judged.0
      (label_is i (either (same w pid) (has ls w)) (home S m l (suc i) t) (go (same w pid) (pid-told S i w s.items.0.0 s.low (inside S a (m ∷ l) i s))))
      (place-before S 7 i n refl refl s.items.0.1)
    where
      go : (b : Bool) → eqb (get_or S.vs i 0) 0 ≡ b
          → either (eqb (get_or S.vs i 0) 0) (ltb (find S.cs S.vs (homes S) 2 (get_or S.vs i 0) S.h (suc i)) (suc i)) ≡ either b (has ls w)
      go true e = ap (λ (t : Bool). either t (ltb (find S.cs S.vs (homes S) 2 (get_or S.vs i 0) S.h (suc i)) (suc i))) e
      go false e =
          ap₂ either e
          (find-any S.cs S.vs (homes S) 2 (get_or S.vs i 0) S.h (suc i) e
          ∙ prior_next (i_name w) (i_label ∷ items l) i ls (erased S ((i_name w, n) ∷ (i_label, n) ∷ l) i s) refl p i w (let a = s.high in let b = S.within in omega arith) s.items.0.0)
