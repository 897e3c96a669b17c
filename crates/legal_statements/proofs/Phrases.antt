-- EXPRESSIONS have the faults of their names, and with the mark behind them that of their height.
use Prim.Native.Nat.{ℕ, suc, ◌+◌, ◌-◌, ◌≤◌, min}
use native.Mathlib.Omega.{arith}
use mathlib.Core.Path.{◌≡◌, refl, sym, ap, subst, ◌∙◌}
use mathlib.Core.Bool.{Bool, true, false}
use mathlib.Core.List.{List, [], ◌∷◌, ◌++◌, append-nil}
use lib.ListN.{length, get_or, length-append, length-map, length-replicate}
use lib.Dec.{eqb, ltb, leb}
use borrow.Author.Tests.{lt-ltb, le-ltb, lt-leb, leb-true, leb-false, ne_eqb}
use Rattle.base_ceilings.specs.Ceilings.{height_most, items_most}
use Rattle.base_codes.specs.Codes.{c_argument, c_assert, c_break, c_channel, c_choice, c_declared, c_else, c_end, c_equal, c_express, c_false, c_field, c_goto, c_increment, c_index, c_init, c_into, c_label, c_len, c_message, c_mtypes, c_named, c_negate, c_otherwise, c_parameter, c_plain, c_run, c_send, c_size, c_target, c_true, c_name, c_number, c_text}
use Rattle.base_bytes.specs.Choice.{pick}
use Rattle.rule_least.specs.Faults.{blank, place_by}
use Rattle.rule_item.specs.Rules.{role_of, bad_height, bad_by}
use Rattle.spec_rules.specs.Heights.{height}
use Rattle.link_phrases_proof.proofs.Starts.{phrase_starts}
use Rattle.link_phrases_proof.proofs.Heights.{phrase_heights}
use Rattle.spec_grammar.specs.Tree.{Shape, Exp, Expr, plain, indexed, num, tru, fls, get, query, unary, binary, choice}
use Rattle.spec_grammar.specs.Grammar.{IsUnary, is_minus, is_not, is_flip, E, e_plain, e_index, e_number, e_true, e_false, e_query, e_group, e_choice, e_unary, e_binary, e_up}
use Rattle.spec_rules.specs.Roles.{Role, operand, channel}
use Rattle.spec_rules.specs.Statements.{sense}
use Rattle.spec_faults.specs.Faults.{in_expr, in_whole}
use Rattle.legal_statements.specs.Scene.{Scene, homes, starts, heights, faults, StandsIn, SpotsIn}
use Rattle.legal_statements.proofs.Stands.{front, back, next, inside, home, erased, code_at, code_of_lem, codes_at, proper, faults-both, faults-one, faults-last, fault_by, free_first, free_one, free_last}
use Rattle.legal_statements.proofs.Uses.{number, reference_fault}
use Rattle.base_codes.specs.Items.{Item, code_of, i_binary, i_choice, i_false, i_index, i_query, i_name, i_number, i_otherwise, i_plain, i_true, i_unary}
use Rattle.base_codes.specs.Sets.{rule_of}
use Rattle.parse_code.specs.Code.{code_exp}
use Rattle.base_kinds.specs.Kinds.{Token}
use Rattle.parse_spots.specs.Spots.{Spot, spots_exp}
use Rattle.parse_spots.proofs.Coded.{exp_code}

-- ---- items with no rule, and the roles that they give what stands before them
pub rules_none : (rule_of c_name ≡ 0) × (rule_of c_number ≡ 0) × (rule_of c_true ≡ 0) × (rule_of c_false ≡ 0) × (rule_of c_len ≡ 0) × (rule_of c_otherwise ≡ 0) × (rule_of c_choice ≡ 0)
unfolding rule_of
rules_none = (refl, refl, refl, refl, refl, refl, refl)

rules_used : (rule_of c_plain ≡ 15) × (rule_of c_index ≡ 15)
unfolding rule_of
rules_used = (refl, refl)

unary_free : {o : ℕ} → IsUnary o → (rule_of (code_of (i_unary o)) ≡ 0) × (role_of (code_of (i_unary o)) ≡ 0)
unfolding rule_of role_of
unary_free is_minus = (refl, refl)
unary_free is_not = (refl, refl)
unary_free is_flip = (refl, refl)

binary_rule : (o : ℕ) → 1 ≤ o → o ≤ 18 → rule_of (code_of (i_binary o)) ≡ 0
unfolding rule_of
binary_rule o a b =
    let c = 146 + o in
    let off : (k : ℕ) → c_negate ≤ k → eqb c k ≡ false = λ k h. ne_eqb c k (λ e. omega arith) in
    let low : (k : ℕ) → c_negate ≤ k → leb k c ≡ false = λ k h. lt-leb k c (omega arith) in
    rw (
      ne_eqb c c_text (λ e. omega arith),
      low c_argument (omega arith),
      low c_express (omega arith),
      off c_break (omega arith),
      off c_else (omega arith),
      off c_mtypes (omega arith),
      off c_init (omega arith),
      off c_label (omega arith),
      off c_declared (omega arith),
      off c_message (omega arith),
      low c_parameter (omega arith),
      off c_goto (omega arith),
      low c_run (omega arith),
      off c_size (omega arith),
      off c_named (omega arith),
      off c_channel (omega arith),
      off c_field (omega arith),
      low c_plain (omega arith),
      off c_end (omega arith),
      off c_equal (omega arith),
      off c_assert (omega arith),
    )
    refl

binary_role : (o : ℕ) → 1 ≤ o → o ≤ 18 → role_of (code_of (i_binary o)) ≡ 0
unfolding role_of
binary_role o a b =
    let c = 146 + o in
    rw (ne_eqb c c_len (λ e. omega arith), lt-leb c_send c (omega arith), ne_eqb c c_target (λ e. omega arith), lt-leb c_increment c (omega arith), ne_eqb c c_into (λ e. omega arith)) refl

roles : (role_of c_name ≡ 0) × (role_of c_number ≡ 0) × (role_of c_true ≡ 0) × (role_of c_false ≡ 0) × (role_of c_index ≡ 0) × (role_of c_len ≡ 1) × (role_of c_otherwise ≡ 0) × (role_of c_choice ≡ 0)
unfolding role_of
roles = (refl, refl, refl, refl, refl, refl, refl, refl)

-- ---- heights
height-told : (n k : ℕ) → n ≡ min (height_most + 1) k → pick {A = ℕ} (ltb height_most n) 2 0 ≡ pick (leb k height_most) 0 2
height-told n k e = go (leb k height_most) refl
  where
    go : (b : Bool) → leb k height_most ≡ b → pick {A = ℕ} (ltb height_most n) 2 0 ≡ pick b 0 2
    go true f = rw (le-ltb height_most n (omega (arith, leb-true k height_most f))) refl
    go false f = rw (lt-ltb height_most n (omega (arith, leb-false k height_most f))) refl

module _ (S : Scene) where
  -- the first item of an expression makes what stands before it an operand
  first_role : {s : Shape} (e : Exp s) (l : List Item) (i : ℕ) → StandsIn S i (code_exp e ++ l) → role_of (get_or S.cs i 0) ≡ 0
  first_role (plain w) l i s = ap role_of (code_at S (i_name w) (i_plain ∷ l) i s) ∙ roles.0
  first_role (indexed w e) l i s = ap role_of (code_at S (i_name w) ((code_exp e ++ i_index ∷ []) ++ l) i s) ∙ roles.0
  first_role (num n) l i s = ap role_of (code_at S (i_number n) l i s) ∙ roles.1
  first_role tru l i s = ap role_of (code_at S i_true l i s) ∙ roles.2
  first_role fls l i s = ap role_of (code_at S i_false l i s) ∙ roles.3
  first_role (get r) l i s = first_role r l i s
  first_role (query mk r) l i s = first_role r (i_query mk ∷ []) i (front S (code_exp r ++ i_query mk ∷ []) l i s)
  first_role (unary o e) l i s = first_role e (i_unary o ∷ []) i (front S (code_exp e ++ i_unary o ∷ []) l i s)
  first_role (binary o a b) l i s =
      first_role a (code_exp b) i (front S (code_exp a ++ code_exp b) (i_binary o ∷ []) i (front S (code_exp a ++ code_exp b ++ i_binary o ∷ []) l i s))
  first_role (choice a b c) l i s =
      first_role a (code_exp b) i
      (front S (code_exp a ++ code_exp b) (i_otherwise ∷ code_exp c) i
      (front S (code_exp a ++ code_exp b ++ i_otherwise ∷ code_exp c) (i_choice ∷ []) i
      (front S (code_exp a ++ code_exp b ++ i_otherwise ∷ code_exp c ++ i_choice ∷ []) l i s)))

  first_role_alone : {s : Shape} (e : Exp s) (i : ℕ) → StandsIn S i (code_exp e) → role_of (get_or S.cs i 0) ≡ 0
  first_role_alone e i s = first_role e [] i (subst (λ (l : List Item). StandsIn S i l) (sym (append-nil (code_exp e))) s)

  started : {s : Shape} (e : Exp s) (i j : ℕ) → StandsIn S i (code_exp e) → j ≡ i + length (code_exp e) - 1 → get_or (starts S) j 0 ≡ i
  started e i j s q =
      phrase_starts S.cs blank e (proper S e i s) i j (codes_at S (code_exp e) i s) S.says.few (omega (arith, S.says.few, length-replicate {A = ℕ} items_most 0))
      (omega (arith, s.high, S.within)) q

  risen : {s : Shape} (e : Exp s) (i j : ℕ) → StandsIn S i (code_exp e) → j ≡ i + length (code_exp e) - 1 → get_or (heights S) j 0 ≡ min (height_most + 1) (height e)
  risen e i j s q =
      phrase_heights S.cs blank blank e (proper S e i s) i j (codes_at S (code_exp e) i s) S.says.few (omega (arith, S.says.few, length-replicate {A = ℕ} items_most 0))
      (omega (arith, S.says.few, length-replicate {A = ℕ} items_most 0))
      (omega (arith, s.high, S.within)) q

  -- the items of an expression without their tokens
  coded : {l : ℕ} {ts : List Token} {e : Expr} (x : E l ts e) (i n : ℕ) → SpotsIn S i (spots_exp x n) → StandsIn S i (code_exp e)
  coded x i n s = subst (λ (l : List Item). StandsIn S i l) (exp_code x n) (erased S (spots_exp x n) i s)

  as_long : {l : ℕ} {ts : List Token} {e : Expr} (x : E l ts e) (n : ℕ) → length (spots_exp x n) ≡ length (code_exp e)
  as_long x n = sym (length-map (spots_exp x n) (λ (x : Spot). x.0)) ∙ ap length (exp_code x n)

  phrase_fault : {l : ℕ} {ts : List Token} {e : Expr} (x : E l ts e) (role : Role) (i n k : ℕ) → SpotsIn S i (spots_exp x n) → k ≡ i + length (spots_exp x n)
      → role_of (get_or S.cs k 0) ≡ number role → faults S i (spots_exp x n) ≡ in_expr (sense S.at) role x n
  unfolding in_expr
  phrase_fault (e_plain {w = w}) role i n k s q r =
      let z : suc i + 1 ≡ k = omega arith in
      let a : Spot = (i_name w, n) in
      let m : Spot = (i_plain, n + 1) in
      let t = next S a (m ∷ []) i s in
      free_first S a (m ∷ []) i s rules_none.0
      ∙ faults-one S m (suc i)
      (reference_fault S i w s.items.0.0 s.low (inside S a (m ∷ []) i s) (suc i) c_plain n role false s.items.0.1 (code_of_lem S m [] (suc i) t) rules_used.0 refl
      (started (plain w) i (suc i) (coded (e_plain {w = w}) i n s) (omega arith)) (home S m [] (suc i) t) (ap (λ m. role_of (get_or S.cs m 0)) z ∙ r))
  phrase_fault (e_index {w = w} {e = e} x) role i n k s q r =
      let X = spots_exp x (n + 2) in
      let a : Spot = (i_name w, n) in
      let m : Spot = (i_index, n + 1) in
      let j = suc i + length X in
      let t = next S a (X ++ m ∷ []) i s in
      let b = back S X (m ∷ []) (suc i) j refl t in
      let c = code_of_lem S m [] j b in
      let z : j + 1 ≡ k = omega (arith, length-append X (m ∷ [])) in
      free_first S a (X ++ m ∷ []) i s rules_none.0
      ∙ faults-last S X m (suc i) j refl (phrase_fault x operand (suc i) (n + 2) j (front S X (m ∷ []) (suc i) t) refl (ap role_of c ∙ roles.4))
      (reference_fault S i w s.items.0.0 s.low (inside S a (X ++ m ∷ []) i s) j c_index n role true s.items.0.1 c rules_used.1 refl
      (started (indexed w e) i j (coded (e_index {w = w} x) i n s) (omega (arith, as_long x (n + 2), length-append (code_exp e) (i_index ∷ [])))) (home S m [] j b)
      (ap (λ m. role_of (get_or S.cs m 0)) z ∙ r))
  phrase_fault (e_number {n = v}) role i n k s q r = free_one S (i_number v, n) i s rules_none.1
  phrase_fault e_true role i n k s q r = free_one S (i_true, n) i s rules_none.2
  phrase_fault e_false role i n k s q r = free_one S (i_false, n) i s rules_none.3
  phrase_fault (e_query {o = o} u x) role i n k s q r =
      let X = spots_exp x (n + 2) in
      let m : Spot = (i_query o, n) in
      let j = i + length X in
      free_last S X m i j refl s rules_none.4
      (phrase_fault x channel i (n + 2) j (front S X (m ∷ []) i s) refl (ap role_of (code_of_lem S m [] j (back S X (m ∷ []) i j refl s)) ∙ roles.5))
  phrase_fault (e_group x) role i n k s q r = phrase_fault x role i (n + 1) k s q r
  phrase_fault (e_choice {xs = xs} {ys = ys} {b = b} x y z) role i n k s q r =
      let X = spots_exp x (n + 1) in
      let Y = spots_exp y (n + length xs + 2) in
      let Z = spots_exp z (n + length xs + length ys + 3) in
      let o : Spot = (i_otherwise, n + length xs + 1) in
      let m : Spot = (i_choice, n + length xs + 1) in
      let j = i + length X in
      let d = i + length (X ++ Y) in
      let g = i + length (X ++ Y ++ o ∷ Z) in
      let e : d ≡ j + length Y = omega (arith, length-append X Y) in
      let f : g ≡ suc d + length Z = omega (arith, length-append (X ++ Y) (o ∷ Z)) in
      let xyz = front S (X ++ Y ++ o ∷ Z) (m ∷ []) i s in
      let xy = front S (X ++ Y) (o ∷ Z) i xyz in
      let sy = back S X Y i j refl xy in
      let so = back S (X ++ Y) (o ∷ Z) i d refl xyz in
      free_last S (X ++ Y ++ o ∷ Z) m i g refl s rules_none.6
      (faults-both S (X ++ Y) (o ∷ Z) i d refl
      (faults-both S X Y i j refl (phrase_fault x operand i (n + 1) j (front S X Y i xy) refl (first_role_alone b j (coded y j (n + length xs + 2) sy)))
      (phrase_fault y operand j (n + length xs + 2) d sy e (ap role_of (code_of_lem S o Z d so) ∙ roles.6)))
      (free_first S o Z d so rules_none.5
      ∙ phrase_fault z operand (suc d) (n + length xs + length ys + 3) g (next S o Z d so) f (ap role_of (code_of_lem S m [] g (back S (X ++ Y ++ o ∷ Z) (m ∷ []) i g refl s)) ∙ roles.7)))
  phrase_fault (e_unary {o = o} u x) role i n k s q r =
      let X = spots_exp x (n + 1) in
      let m : Spot = (i_unary o, n) in
      let j = i + length X in
      free_last S X m i j refl s (unary_free u).0
      (phrase_fault x operand i (n + 1) j (front S X (m ∷ []) i s) refl (ap role_of (code_of_lem S m [] j (back S X (m ∷ []) i j refl s)) ∙ (unary_free u).1))
  phrase_fault (e_binary {l = l} {o = o} {xs = xs} {a = a} {b = b} u x y) role i n k s q r =
      let X = spots_exp x n in
      let Y = spots_exp y (n + length xs + 1) in
      let m : Spot = (i_binary o, n + length xs) in
      let p = proper S (binary o a b) i (coded (e_binary {l = l} {o = o} u x y) i n s) in
      let j = i + length X in
      let d = i + length (X ++ Y) in
      let e : d ≡ j + length Y = omega (arith, length-append X Y) in
      let xy = front S (X ++ Y) (m ∷ []) i s in
      let sy = back S X Y i j refl xy in
      free_last S (X ++ Y) m i d refl s (binary_rule o p.0 p.1)
      (faults-both S X Y i j refl (phrase_fault x operand i n j (front S X Y i xy) refl (first_role_alone b j (coded y j (n + length xs + 1) sy)))
      (phrase_fault y operand j (n + length xs + 1) d sy e (ap role_of (code_of_lem S m [] d (back S (X ++ Y) (m ∷ []) i d refl s)) ∙ binary_role o p.0 p.1)))
  phrase_fault (e_up x) role i n k s q r = phrase_fault x role i n k s q r

  -- with the mark behind it, which judges the height
  marked_by : {l : ℕ} {ts : List Token} {e : Expr} (x : E l ts e) (role : Role) (y : Item) (t i n r : ℕ) → SpotsIn S i (spots_exp x n ++ (y, t) ∷ []) → role_of (code_of y) ≡ number role
      → rule_of (code_of y) ≡ r → ((j : ℕ) → bad_by S.cs S.vs (homes S) (starts S) (heights S) r j ≡ bad_height (heights S) j)
      → ((j : ℕ) → get_or S.toks j 0 ≡ t → place_by S.cs (starts S) S.toks r j ≡ n) → faults S i (spots_exp x n ++ (y, t) ∷ []) ≡ in_whole (sense S.at) role x n
  unfolding in_whole bad_height
  marked_by {e = e} x role y t i n r s o u f g =
      let X = spots_exp x n in
      let k = i + length X in
      let b = back S X ((y, t) ∷ []) i k refl s in
      let c = code_of_lem S (y, t) [] k b in
      let X-stands = front S X ((y, t) ∷ []) i s in
      faults-last S X (y, t) i k refl (phrase_fault x role i n k X-stands refl (ap role_of c ∙ o))
      (fault_by S k (code_of y) r (pick (leb (height e) height_most) 0 2) n c u
      (f k ∙ height-told (get_or (heights S) (k - 1) 0) (height e) (risen e i (k - 1) (coded x i n X-stands) (omega (arith, as_long x n))))
      (g k b.items.0.1))

  -- at the mark's own token
  pub marked-fault : {l : ℕ} {ts : List Token} {e : Expr} (x : E l ts e) (role : Role) (y : Item) (i n : ℕ) → SpotsIn S i (spots_exp x n ++ (y, n) ∷ []) → role_of (code_of y) ≡ number role
      → rule_of (code_of y) ≡ 2 → faults S i (spots_exp x n ++ (y, n) ∷ []) ≡ in_whole (sense S.at) role x n
  unfolding bad_by place_by
  marked-fault x role y i n s o u = marked_by x role y n i n 2 s o u (λ j. refl) (λ j e. e)

  -- two tokens on
  pub marked-behind : {l : ℕ} {ts : List Token} {e : Expr} (x : E l ts e) (y : Item) (i n : ℕ) → SpotsIn S i (spots_exp x (n + 2) ++ (y, n) ∷ []) → role_of (code_of y) ≡ 0
      → rule_of (code_of y) ≡ 17 → faults S i (spots_exp x (n + 2) ++ (y, n) ∷ []) ≡ in_whole (sense S.at) operand x (n + 2)
  unfolding bad_by place_by
  marked-behind x y i n s o u = marked_by x operand y n i (n + 2) 17 s o u (λ j. refl) (λ j e. ap (◌+ 2) e)
