-- EXPRESSIONS MEAN WHAT THEIR TREE SAYS: where the items of an expression stand in the tables and its names link to their declarations, what is worked out over the items is what the tree
-- means, faults and their order included.
use Rattle.std.specs.Prelude.{Result, Ok, Err}
use Prim.Native.Nat.{ℕ, zero, suc, ◌+◌, ◌-◌, ◌≤◌, min}
use mathlib.Core.Path.{◌≡◌, refl, sym, ◌∙◌, ap, ap₂}
use mathlib.Core.Bool.{Bool, true, false, not}
use mathlib.Core.List.{List, [], ◌∷◌, ◌++◌}
use mathlib.Core.Logic.{inl, inr}
use native.Mathlib.Omega.{arith}
use native.Mathlib.Decide.{ℕ_discrete}
use lib.ListN.{length, length-append}
use lib.IntN.{ℤ, pos, negsuc}
use lib.Dec.{eqb, ltb}
use borrow.Author.Tests.{lt-leb, ne_eqb, le-ltb}
use Rattle.base_ceilings.specs.Ceilings.{height_most}
use Rattle.base_codes.specs.Codes.{c_and_then, c_bit_or, c_choice, c_complement, c_false, c_index, c_len, c_message, c_negate, c_not, c_or_else, c_plain, c_remainder, c_true, c_name, c_number}
use Rattle.base_bytes.specs.Choice.{pick}
use Rattle.base_bytes.specs.Lists.{same}
use Rattle.spec_text.specs.Names.{pid}
use Rattle.table_layout.specs.Access.{code_of, link_of}
use Rattle.state_layout.specs.Layout.{kept, cell_of, waiting_of, kept_most}
use Rattle.base_bytes.specs.Numbers.{nat}
use Rattle.base_values.specs.Operators.{is_true, one_if, truth}
use Rattle.spec_grammar.specs.Tree.{Name, Shape, Exp, Ref, plain, indexed, num, tru, fls, get, query, unary, binary, choice}
use Rattle.spec_grammar.specs.Grammar.{IsUnary, is_minus, is_not, is_flip}
use Rattle.link_phrases_proof.specs.Phrases.{Proper}
use Rattle.spec_rules.specs.Heights.{height}
use Rattle.step_eval.specs.declared.Node.{Node}
use Rattle.step_eval.specs.declared.Node.TheVariants.{Number, True, False, Plain, Index, Length, Unary, Lazy, Binary, Choice}
use Rattle.step_eval.specs.Variables.{variable_of, size_of, slot_of, element_of, load_of, made_of, channel_of, length_of}
use Rattle.step_eval.specs.Expressions.{node_of, unary_by, both_by, lazy_by, choice_by, start_of, plain_of, by_node, eval_t, eval_of, locate_of}
use Rattle.spec_machine.specs.Eval.{Scene, element_by, length_by, sign_by, or_by, and_by, join_by, operate_by, choose_by, eval}
use Rattle.agree_stage.specs.Scenes.{number_at, scene_of, size_in, Stands, Meant, Named, locate, Linked}
use Rattle.base_codes.specs.Items.{i_binary, i_choice, i_index, i_query, i_otherwise, i_unary}
use Rattle.parse_code.specs.Code.{code_exp}
use Rattle.base_values.specs.declared.Fault.{Fault}
use Rattle.base_values.specs.declared.Fault.TheVariants as fault
use Rattle.base_codes.specs.Items as items

-- ---- what an item is, by its code
node_number : node_of c_number ≡ Number
unfolding node_of
node_number = refl

node_true : node_of c_true ≡ True
unfolding node_of
node_true = refl

node_false : node_of c_false ≡ False
unfolding node_of
node_false = refl

node_plain : node_of c_plain ≡ Plain
unfolding node_of
node_plain = refl

node_index : node_of c_index ≡ Index
unfolding node_of
node_index = refl

node_length : node_of c_len ≡ Length
unfolding node_of
node_length = refl

node_choice : node_of c_choice ≡ Choice
unfolding node_of
node_choice = refl

node_unary : {o : ℕ} → IsUnary o → node_of (items.code_of (i_unary o)) ≡ Unary o
unfolding node_of
node_unary is_minus = refl
node_unary is_not = refl
node_unary is_flip = refl

node_or : node_of c_or_else ≡ Lazy 1
unfolding node_of
node_or = refl

node_and : node_of c_and_then ≡ Lazy 2
unfolding node_of
node_and = refl

node_binary : (o : ℕ) → 3 ≤ o → o ≤ 18 → node_of (146 + o) ≡ Binary o
unfolding node_of
node_binary o a b =
    let c = 146 + o in
    let z : 146 + o - 146 ≡ o = omega arith in
    rw (ne_eqb c c_number (λ e. omega arith), ne_eqb c c_or_else (λ e. omega arith), ne_eqb c c_and_then (λ e. omega arith), ne_eqb c c_negate (λ e. omega arith), ne_eqb c c_not (λ e. omega arith), ne_eqb c c_complement (λ e. omega arith), ne_eqb c c_plain (λ e. omega arith), ne_eqb c c_index (λ e. omega arith), ne_eqb c c_true (λ e. omega arith), ne_eqb c c_false (λ e. omega arith), ne_eqb c c_len (λ e. omega arith), ne_eqb c c_choice (λ e. omega arith), le-ltb c c_bit_or (omega arith), le-ltb c_remainder c (omega arith)) (ap Binary z)

-- ---- what was worked out, in the words of the tree
or_is : (x y : Result ℤ Fault) → lazy_by 1 x y ≡ or_by x y
or_is (Ok v) y = go (is_true v)
  where
    go : (b : Bool) → pick b (Ok (one_if b)) (truth y) ≡ pick b (Ok (pos 1)) (truth y)
    go true = refl
    go false = refl
or_is (Err f) y = refl

and_is : (x y : Result ℤ Fault) → lazy_by 2 x y ≡ and_by x y
and_is (Ok v) y = go (is_true v)
  where
    go : (b : Bool) → pick (not b) (Ok (one_if b)) (truth y) ≡ pick b (truth y) (Ok (pos 0))
    go true = refl
    go false = refl
and_is (Err f) y = refl

both_is : (o : ℕ) (x y : Result ℤ Fault) → both_by o x y ≡ join_by o x y
both_is o (Ok a) (Ok b) = refl
both_is o (Ok a) (Err f) = refl
both_is o (Err f) y = refl

choice_is : (x y z : Result ℤ Fault) → choice_by x y z ≡ choose_by x y z
choice_is (Ok v) y z = refl
choice_is (Err f) y z = refl

unary_is : (o : ℕ) (x : Result ℤ Fault) → unary_by o x ≡ sign_by o x
unary_is o (Ok v) = refl
unary_is o (Err f) = refl

module _ (t : List ℕ) (s : List ℤ) (p : ℕ) (decl : Name → ℕ) where
  number_is : (d : ℕ) → plain_of t s p d ≡ Ok (number_at t s p d)
  unfolding plain_of number_at
  number_is d = go (eqb (code_of t d) c_message) (eqb (code_of t d) c_name)
    where
      go : (a b : Bool)
          → pick {A = Result ℤ Fault} a (Ok (kept (link_of t d))) (pick b (Ok (pos p)) (Ok (cell_of s (slot_of (link_of t d) p 0))))
          ≡ Ok (pick a (kept (link_of t d)) (pick b (pos p) (cell_of s (slot_of (link_of t d) p 0))))
      go true b = refl
      go false true = refl
      go false false = refl

  pid_is : (d : ℕ) → code_of t d ≡ c_name → number_at t s p d ≡ pos p
  unfolding number_at
  pid_is d e = rw e

  plain_is : (w : Name) (d : ℕ) → Meant t d (decl w) → plain_of t s p d ≡ Ok (number_at t s p (decl w))
  plain_is w d (inl e) = ap (λ k. plain_of t s p k) e ∙ number_is (decl w)
  plain_is w d (inr e) = number_is d ∙ ap Ok (pid_is d e.0 ∙ sym (pid_is (decl w) e.1))

  -- `_pid` is the number of the process
  pid-number : (w : Name) → (same w pid ≡ true → code_of t (decl w) ≡ c_name) → number_at t s p (decl w) ≡ pick (same w pid) (pos p) (number_at t s p (decl w))
  pid-number w h = go (same w pid) h
    where
      go : (b : Bool) → (b ≡ true → code_of t (decl w) ≡ c_name) → number_at t s p (decl w) ≡ pick b (pos p) (number_at t s p (decl w))
      go true h = pid_is (decl w) (h refl)
      go false h = refl

  element_is : (w : Name) (x : Result ℤ Fault) → load_of s (element_of (link_of t (decl w)) p x) ≡ element_by (scene_of t s p decl) w x
  element_is w (Ok (pos i)) = go (ltb i (size_of (link_of t (decl w))))
    where
      go : (b : Bool)
          → load_of s (pick b (Ok (slot_of (link_of t (decl w)) p i)) (Err fault.Index)) ≡ pick b (Ok (cell_of s (slot_of (link_of t (decl w)) p i))) (Err fault.Index)
      go true = refl
      go false = refl
  element_is w (Ok (negsuc i)) = refl
  element_is w (Err f) = refl

  length_is : (x : Result ℤ Fault) → length_of s (channel_of s x) ≡ length_by (scene_of t s p decl) x
  length_is (Ok v) = go (made_of s (nat v))
    where
      go : (b : Bool) → length_of s (pick b (Ok (nat v - 1)) (Err fault.Channel)) ≡ pick b (Ok (pos (waiting_of s (nat v - 1)))) (Err fault.Channel)
      go true = refl
      go false = refl
  length_is (Err f) = refl

  -- ---- the last item decides
  by_last : (h from to j c : ℕ) {n : Node} → 1 ≤ h → to ≡ j + 1 → from ≤ j → code_of t j ≡ c → node_of c ≡ n → eval_t t s p h from to ≡ by_node t s p (λ a b. eval_t t s p (h - 1) a b) from j n
  unfolding eval_t
  by_last zero from to j c k e f q r = absurd (omega arith)
  by_last (suc h) from to j c k e f q r =
      let z : to - 1 ≡ j = omega arith in
      let y : suc h - 1 ≡ h = omega arith in
      rw (lt-leb to from (omega arith), z, q, r, y)

  -- where the phrase before item j starts
  start_is : (from j k : ℕ) → link_of t j ≡ k → from ≤ k → k ≤ j → start_of t from j ≡ k
  start_is from j k e a b = omega arith

  lazy_at : (o h from j k : ℕ) {x y : Result ℤ Fault} → start_of t from j ≡ k → eval_t t s p h from k ≡ x → eval_t t s p h k j ≡ y → by_node t s p (λ a b. eval_t t s p h a b) from j (Lazy o) ≡ lazy_by o x y
  lazy_at o h from j k q ex ey = ap (λ z. lazy_by o (eval_t t s p h from z) (eval_t t s p h z j)) q ∙ ap₂ (lazy_by o) ex ey

  both_at : (o h from j k : ℕ) {x y : Result ℤ Fault} → start_of t from j ≡ k → eval_t t s p h from k ≡ x → eval_t t s p h k j ≡ y → by_node t s p (λ a b. eval_t t s p h a b) from j (Binary o) ≡ both_by o x y
  both_at o h from j k q ex ey = ap (λ z. both_by o (eval_t t s p h from z) (eval_t t s p h z j)) q ∙ ap₂ (both_by o) ex ey

  choice_at : (h from j k m : ℕ) {x y z : Result ℤ Fault} → start_of t from j ≡ k → start_of t from (k - 1) ≡ m → eval_t t s p h from m ≡ x → eval_t t s p h m (k - 1) ≡ y → eval_t t s p h k j ≡ z
      → by_node t s p (λ a b. eval_t t s p h a b) from j Choice ≡ choice_by x y z
  choice_at h from j k m {x} {y} {z} q r ex ey ez =
      ap (λ a. choice_by (eval_t t s p h from (start_of t from (a - 1))) (eval_t t s p h (start_of t from (a - 1)) (a - 1)) (eval_t t s p h a j)) q
      ∙ ap (λ b. choice_by (eval_t t s p h from b) (eval_t t s p h b (k - 1)) (eval_t t s p h k j)) r
      ∙ (λ i. choice_by (ex i) (ey i) (ez i))

  -- an operator, by its number
  operate_at : (o h from j k : ℕ) {x y : Result ℤ Fault} → 1 ≤ o → o ≤ 18 → 1 ≤ h → code_of t j ≡ 146 + o → link_of t j ≡ k → from ≤ k → k ≤ j → from ≤ j
      → eval_t t s p (h - 1) from k ≡ x → eval_t t s p (h - 1) k j ≡ y → eval_t t s p h from (j + 1) ≡ operate_by o x y
  operate_at o h from j k {x} {y} lo hi g c l a b d ex ey = go (ℕ_discrete o 1) (ℕ_discrete o 2)
    where
      q : start_of t from j ≡ k
      q = start_is from j k l a b

      go : Dec (o ≡ 1) → Dec (o ≡ 2) → eval_t t s p h from (j + 1) ≡ operate_by o x y
      go (yes e) z = by_last h from (j + 1) j c_or_else g refl d (c ∙ ap (λ n. 146 + n) e) node_or ∙ lazy_at 1 (h - 1) from j k q ex ey ∙ or_is x y ∙ rw e
      go (no n) (yes e) = by_last h from (j + 1) j c_and_then g refl d (c ∙ ap (λ n. 146 + n) e) node_and ∙ lazy_at 2 (h - 1) from j k q ex ey ∙ and_is x y ∙ rw e
      go (no n) (no m) =
          by_last h from (j + 1) j (146 + o) g refl d c (node_binary o (omega arith) hi) ∙ both_at o (h - 1) from j k q ex ey ∙ both_is o x y ∙ rw (ne_eqb o 1 n, ne_eqb o 2 m)

  -- ---- the whole
  abbrev scene : Scene
  scene = scene_of t s p decl

  pub eval-tables : {k : Shape} (e : Exp k) (i from h : ℕ) → Proper e → Stands t e i → Named t decl e i → from ≤ i → height e ≤ h → eval_t t s p h from (i + size_in e) ≡ eval scene e
  unfolding Stands Named eval
  eval-tables (plain w) i from h r z n f g =
      by_last h from (i + 2) (i + 1) c_plain (omega arith) (omega arith) (omega arith) z node_plain ∙ plain_is w (link_of t (i + 1)) n.0 ∙ ap Ok (pid-number w n.1)
  eval-tables (indexed w e) i from h r z n f g =
      let m = size_in e in
      let q : length (code_exp e ++ i_index ∷ []) ≡ m + 1 = length-append (code_exp e) (i_index ∷ []) in
      let j = i + 1 + m in
      by_last h from (i + size_in (indexed w e)) j c_index (omega arith) (omega arith) (omega arith) z.1 node_index
      ∙ ap (λ d. load_of s (element_of (link_of t d) p (eval_t t s p (h - 1) from j))) n.1
      ∙ ap (λ x. load_of s (element_of (link_of t (decl w)) p x)) (eval-tables e (i + 1) from (h - 1) r z.0 n.0 (omega arith) (omega arith)) ∙ element_is w (eval scene e)
  eval-tables (num v) i from h r z n f g =
      by_last h from (i + 1) i c_number (omega arith) (omega arith) f z.0 node_number
      ∙ ap (λ y. Ok (kept y)) z.1 ∙ (let b = z.2 in let y : min kept_most v ≡ v = omega arith in ap (λ y. Ok (pos y)) y)
  eval-tables tru i from h r z n f g = by_last h from (i + 1) i c_true (omega arith) (omega arith) f z node_true
  eval-tables fls i from h r z n f g = by_last h from (i + 1) i c_false (omega arith) (omega arith) f z node_false
  eval-tables (get v) i from h r z n f g = eval-tables v i from h r z n f g
  eval-tables (query mk v) i from h r z n f g =
      let m = size_in v in
      let q : length (code_exp v ++ i_query mk ∷ []) ≡ m + 1 = length-append (code_exp v) (i_query mk ∷ []) in
      by_last h from (i + size_in (query mk v)) (i + m) c_len (omega arith) (omega arith) (omega arith) z.1 node_length
      ∙ ap (λ x. length_of s (channel_of s x)) (eval-tables v i from (h - 1) r z.0 n f (omega arith)) ∙ length_is (eval scene v)
  eval-tables (unary o e) i from h r z n f g =
      let m = size_in e in
      let q : length (code_exp e ++ i_unary o ∷ []) ≡ m + 1 = length-append (code_exp e) (i_unary o ∷ []) in
      by_last h from (i + size_in (unary o e)) (i + m) (items.code_of (i_unary o)) (omega arith) (omega arith) (omega arith) z.1 (node_unary r.0)
      ∙ ap (unary_by o) (eval-tables e i from (h - 1) r.1 z.0 n f (omega arith)) ∙ unary_is o (eval scene e)
  eval-tables (binary o a b) i from h r z n f g =
      let m = size_in a in
      let k = size_in b in
      let q : length ((code_exp a ++ code_exp b) ++ i_binary o ∷ []) ≡ length (code_exp a ++ code_exp b) + 1 = length-append (code_exp a ++ code_exp b) (i_binary o ∷ []) in
      let q2 : length (code_exp a ++ code_exp b) ≡ m + k = length-append (code_exp a) (code_exp b) in
      let j = i + m + k in
      let e : i + size_in (binary o a b) ≡ j + 1 = omega arith in
      ap (eval_t t s p h from) e
      ∙ operate_at o h from j (i + m) r.0 r.1 (omega arith) z.2 z.3 (omega arith) (omega arith) (omega arith) (eval-tables a i from (h - 1) r.2 z.0 n.0 f (omega arith))
      (eval-tables b (i + m) (i + m) (h - 1) r.3 z.1 n.1 (omega arith) (omega arith))
  eval-tables (choice a b c) i from h r z n f g =
      let A = code_exp a in
      let B = code_exp b in
      let C = code_exp c in
      let m = size_in a in
      let k = size_in b in
      let d = size_in c in
      let q : length (A ++ B ++ i_otherwise ∷ C ++ i_choice ∷ []) ≡ length (A ++ B ++ i_otherwise ∷ C) + 1 = length-append (A ++ B ++ i_otherwise ∷ C) (i_choice ∷ []) in
      let q2 : length (A ++ B ++ i_otherwise ∷ C) ≡ length (A ++ B) + suc d = length-append (A ++ B) (i_otherwise ∷ C) in
      let q3 : length (A ++ B) ≡ m + k = length-append A B in
      let u = i + m + k + 1 in
      let y : i + m + k ≡ u - 1 = omega arith in
      by_last h from (i + size_in (choice a b c)) (u + d) c_choice (omega arith) (omega arith) (omega arith) z.4 node_choice
      ∙ choice_at (h - 1) from (u + d) u (i + m) (start_is from (u + d) u z.5 (omega arith) (omega arith))
      (start_is from (u - 1) (i + m) (ap (link_of t) (sym y) ∙ z.2) (omega arith) (omega arith))
      (eval-tables a i from (h - 1) r.0 z.0 n.0 f (omega arith))
      (ap (eval_t t s p (h - 1) (i + m)) (sym y) ∙ eval-tables b (i + m) (i + m) (h - 1) r.1 z.1 n.1 (omega arith) (omega arith))
      (eval-tables c u u (h - 1) r.2 z.3 n.2 (omega arith) (omega arith)) ∙ choice_is (eval scene a) (eval scene b) (eval scene c)

  -- "expression height 32"
  pub eval_is : {k : Shape} (e : Exp k) (i to : ℕ) → Proper e → Stands t e i → Named t decl e i → height e ≤ height_most → to ≡ i + size_in e → eval_of t s p i to ≡ eval scene e
  eval_is e i to r z n g q = ap (eval_of t s p i) q ∙ eval-tables e i i height_most r z n (omega arith) g

  -- ---- references
  locate_element : (from to j : ℕ) → to - 1 ≡ j → code_of t j ≡ c_index → locate_of t s p from to ≡ element_of (variable_of t j) p (eval_of t s p from j)
  unfolding locate_of
  locate_element from to j q e = rw (q, e)

  locate_plain : (from to j : ℕ) → to - 1 ≡ j → code_of t j ≡ c_plain → locate_of t s p from to ≡ Ok (slot_of (variable_of t j) p 0)
  unfolding locate_of
  locate_plain from to j q e = rw (q, e)

  pub locate_is : (r : Ref) (i to : ℕ) → Proper r → Stands t r i → Named t decl r i → Linked t decl r i → height r ≤ height_most → to ≡ i + size_in r → locate_of t s p i to ≡ locate t s p decl r
  unfolding locate Linked Stands Named
  locate_is (plain w) i to r z n l g q = locate_plain i to (i + 1) (omega arith) z ∙ ap (λ d. Ok (slot_of (link_of t d) p 0)) l
  locate_is (indexed w e) i to r z n l g q =
      let m = size_in e in
      let y : length (code_exp e ++ i_index ∷ []) ≡ m + 1 = length-append (code_exp e) (i_index ∷ []) in
      let j = i + 1 + m in
      locate_element i to j (omega arith) z.1 ∙ ap (λ d. element_of (link_of t d) p (eval_of t s p i j)) l
      ∙ ap (element_of (link_of t (decl w)) p) (eval-tables e (i + 1) i height_most r z.0 n.0 (omega arith) (omega arith))
