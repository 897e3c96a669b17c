-- HOW HIGH AN EXPRESSION IS: at its last item `heights_of` has its height, or 33 where that is more.
use Prim.Native.Nat.{ℕ, suc, ◌+◌, ◌-◌, ◌≤◌, ◌<◌, min, max}
use native.Mathlib.Omega.{arith}
use mathlib.Core.Path.{◌≡◌, refl, ◌∙◌, ap, ap₂}
use mathlib.Core.Bool.{Bool, true, false}
use mathlib.Core.List.{List, [], ◌∷◌, ◌++◌}
use lib.ListN.{length, get_or, length-append}
use lib.Dec.{leb}
use borrow.Author.Tests.{le-ltb, leb-true, leb-false}
use Rattle.base_ceilings.specs.Ceilings.{height_most, items_most}
use Rattle.base_codes.specs.Codes.{c_choice, c_false, c_index, c_len, c_plain, c_true, c_number}
use Rattle.base_bytes.specs.Choice.{pick}
use Rattle.spec_grammar.specs.Tree.{Shape, Exp, plain, indexed, num, tru, fls, get, query, unary, binary, choice}
use Rattle.rule_sheets.specs.Walks.{filled}
use Rattle.rule_sheets.specs.Spans.{shape_of, above, greater, height_of, starts_of, heights_of}
use Rattle.link_phrases_proof.specs.Phrases.{Proper, At}
use Rattle.spec_rules.specs.Heights.{height}
use Rattle.link_phrases_proof.proofs.Fills.{filled-length, filled_keeps, filled-split, filled-last}
use Rattle.link_phrases_proof.proofs.Starts.{at_front, at_back, some-items, unary_shape, binary_shape, shapes, phrase_starts}
use Rattle.base_codes.specs.Items.{code_of, i_binary, i_choice, i_index, i_query, i_otherwise, i_unary}
use Rattle.parse_code.specs.Code.{code_exp}

-- ---- heights that stop at 33
above-min : (h : ℕ) → above (min (height_most + 1) h) ≡ min (height_most + 1) (suc h)
above-min h = omega arith

greater-min : (a b : ℕ) → greater (min (height_most + 1) a) (min (height_most + 1) b) ≡ min (height_most + 1) (max a b)
greater-min a b = go (leb (min (height_most + 1) a) (min (height_most + 1) b)) refl
  where
    go : (t : Bool) → leb (min (height_most + 1) a) (min (height_most + 1) b) ≡ t → pick t (min (height_most + 1) b) (min (height_most + 1) a) ≡ min (height_most + 1) (max a b)
    go true e = omega (arith, leb-true (min (height_most + 1) a) (min (height_most + 1) b) e)
    go false e = omega (arith, leb-false (min (height_most + 1) a) (min (height_most + 1) b) e)

-- ---- a height, by the shape of the last item
module _ (cs ss l : List ℕ) (j c : ℕ) (it : get_or cs j 0 ≡ c) where
  height-leaf : shape_of c ≡ 0 → height_of cs ss l j ≡ 1
  unfolding height_of
  height-leaf h = rw (it, h)

  height_plain : shape_of c ≡ 1 → height_of cs ss l j ≡ 1
  unfolding height_of
  height_plain h = rw (it, h)

  height_index : shape_of c ≡ 2 → height_of cs ss l j ≡ above (get_or l (j - 1) 0)
  unfolding height_of
  height_index h = rw (it, h)

  height-over : shape_of c ≡ 3 → height_of cs ss l j ≡ above (get_or l (j - 1) 0)
  unfolding height_of
  height-over h = rw (it, h)

  height_binary : shape_of c ≡ 4 → height_of cs ss l j ≡ above (greater (get_or l (j - 1) 0) (get_or l (get_or ss (j - 1) 0 - 1) 0))
  unfolding height_of
  height_binary h = rw (it, h)

  height_choice : shape_of c ≡ 5
      → height_of cs ss l j ≡ above (greater (get_or l (j - 1) 0) (greater (get_or l (get_or ss (j - 1) 0 - 2) 0) (get_or l (get_or ss (get_or ss (j - 1) 0 - 2) 0 - 1) 0)))
  unfolding height_of
  height_choice h = rw (it, h)

-- a binary operator's height from those of its operands, a conditional's from those of its parts
max_swap : (a b : ℕ) → max b a ≡ max a b
max_swap a b = omega arith

of_two : (x y a b : ℕ) → x ≡ min (height_most + 1) b → y ≡ min (height_most + 1) a → above (greater x y) ≡ min (height_most + 1) (suc (max a b))
of_two x y a b e f = ap above (ap₂ greater e f ∙ greater-min b a ∙ ap (min (height_most + 1)) (max_swap a b)) ∙ above-min (max a b)

of_three : (x y z a b c : ℕ) → x ≡ min (height_most + 1) c → y ≡ min (height_most + 1) b → z ≡ min (height_most + 1) a → above (greater x (greater y z)) ≡ min (height_most + 1) (suc (max a (max b c)))
of_three x y z a b c e f g =
    ap above (ap₂ greater e (ap₂ greater f g ∙ greater-min b a) ∙ greater-min c (max b a) ∙ ap (min (height_most + 1)) (turned a b c)) ∙ above-min (max a (max b c))
  where
    turned : (a b c : ℕ) → max c (max b a) ≡ max a (max b c)
    turned a b c = omega arith

-- ---- with starts that are right for every expression
module _ (cs ss : List ℕ) (right : (s : Shape) (e : Exp s) → Proper e → (i j : ℕ) → At cs i (code_exp e) → i + length (code_exp e) ≤ length cs → j ≡ i + length (code_exp e) - 1 → get_or ss j 0 ≡ i) where
  abbrev F : List ℕ → ℕ → ℕ
  F = height_of cs ss

  kept : (i a b n p : ℕ) (l : List ℕ) (j : ℕ) → n ≡ a + b → p ≡ i + a → j < p → get_or (filled F i n l) j 0 ≡ get_or (filled F i a l) j 0
  kept i a b n p l j e q h = ap (λ (m : List ℕ). get_or m j 0) (filled-split F a b i n p l e q) ∙ filled_keeps F p b (filled F i a l) j h

  second : (i a b n p : ℕ) (l : List ℕ) (j v : ℕ) → n ≡ a + b → p ≡ i + a → get_or (filled F p b (filled F i a l)) j 0 ≡ v → get_or (filled F i n l) j 0 ≡ v
  second i a b n p l j v e q h = ap (λ (m : List ℕ). get_or m j 0) (filled-split F a b i n p l e q) ∙ h

  height_at : {s : Shape} (e : Exp s) → Proper e → (i n j : ℕ) (l : List ℕ) → n ≡ length (code_exp e) → j ≡ i + n - 1 → At cs i (code_exp e) → i + n ≤ length cs → i + n ≤ length l
      → get_or (filled F i n l) j 0 ≡ min (height_most + 1) (height e)
  height_at (plain w) p i n j l q r h g s =
      let z : j ≡ suc i = omega arith in
      filled-last F 1 i n j l q (omega arith) (omega arith) ∙ height_plain cs ss (filled F i 1 l) j c_plain (rw z h.1.0) shapes.4
  height_at (num v) p i n j l q r h g s =
      let z : j ≡ i = omega arith in
      filled-last F 0 i n j l q (omega arith) (omega arith) ∙ height-leaf cs ss (filled F i 0 l) j c_number (rw z h.0) shapes.1
  height_at tru p i n j l q r h g s =
      let z : j ≡ i = omega arith in
      filled-last F 0 i n j l q (omega arith) (omega arith) ∙ height-leaf cs ss (filled F i 0 l) j c_true (rw z h.0) shapes.2
  height_at fls p i n j l q r h g s =
      let z : j ≡ i = omega arith in
      filled-last F 0 i n j l q (omega arith) (omega arith) ∙ height-leaf cs ss (filled F i 0 l) j c_false (rw z h.0) shapes.3
  height_at (get v) p i n j l q r h g s = height_at v p i n j l q r h g s
  height_at (indexed w e) p i n j l q r h g s =
      let m = length (code_exp e) in
      let t : length (code_exp e ++ i_index ∷ []) ≡ m + 1 = length-append (code_exp e) (i_index ∷ []) in
      let one = at_front cs (suc i) (code_exp e) (i_index ∷ []) h.1 in
      let x = (at_back cs (code_exp e) (i_index ∷ []) (suc i) j (omega (arith, some-items e)) h.1).0 in
      let z : i + 1 ≡ suc i = omega arith in
      let y = height_at e p (i + 1) m (j - 1) (filled F i 1 l) refl (omega (arith, some-items e)) (rw z one) (omega arith) (omega (arith, filled-length F i 1 l)) in
      filled-last F (1 + m) i n j l (omega arith) (omega arith) (omega arith) ∙ height_index cs ss (filled F i (1 + m) l) j c_index x shapes.5
      ∙ ap above (second i 1 m (1 + m) (i + 1) l (j - 1) (min (height_most + 1) (height e)) refl refl y) ∙ above-min (height e)
  height_at (query mk v) p i n j l q r h g s =
      let m = length (code_exp v) in
      let t : length (code_exp v ++ i_query mk ∷ []) ≡ m + 1 = length-append (code_exp v) (i_query mk ∷ []) in
      let x = (at_back cs (code_exp v) (i_query mk ∷ []) i j (omega arith) h).0 in
      filled-last F m i n j l (omega arith) (omega arith) (omega (arith, some-items v)) ∙ height-over cs ss (filled F i m l) j c_len x shapes.6
      ∙ ap above (height_at v p i m (j - 1) l refl (omega arith) (at_front cs i (code_exp v) (i_query mk ∷ []) h) (omega arith) (omega arith)) ∙ above-min (height v)
  height_at (unary o e) p i n j l q r h g s =
      let m = length (code_exp e) in
      let t : length (code_exp e ++ i_unary o ∷ []) ≡ m + 1 = length-append (code_exp e) (i_unary o ∷ []) in
      let x = (at_back cs (code_exp e) (i_unary o ∷ []) i j (omega arith) h).0 in
      filled-last F m i n j l (omega arith) (omega arith) (omega (arith, some-items e)) ∙ height-over cs ss (filled F i m l) j (code_of (i_unary o)) x (unary_shape p.0)
      ∙ ap above (height_at e p.1 i m (j - 1) l refl (omega arith) (at_front cs i (code_exp e) (i_unary o ∷ []) h) (omega arith) (omega arith)) ∙ above-min (height e)
  height_at (binary o a b) p i n j l q r h g s =
      let m = length (code_exp a) in
      let k = length (code_exp b) in
      let t : length ((code_exp a ++ code_exp b) ++ i_binary o ∷ []) ≡ length (code_exp a ++ code_exp b) + 1 = length-append (code_exp a ++ code_exp b) (i_binary o ∷ []) in
      let t2 : length (code_exp a ++ code_exp b) ≡ m + k = length-append (code_exp a) (code_exp b) in
      let ab = at_front cs i (code_exp a ++ code_exp b) (i_binary o ∷ []) h in
      let bb = at_back cs (code_exp a) (code_exp b) i (i + m) refl ab in
      let x = (at_back cs (code_exp a ++ code_exp b) (i_binary o ∷ []) i j (omega arith) h).0 in
      let w : get_or ss (j - 1) 0 ≡ i + m = right _ b p.3 (i + m) (j - 1) bb (omega arith) (omega (arith, some-items b)) in
      let u : get_or (filled F i (m + k) l) (j - 1) 0 ≡ min (height_most + 1) (height b) =
      second i m k (m + k) (i + m) l (j - 1) (min (height_most + 1) (height b)) refl refl
      (height_at b p.3 (i + m) k (j - 1) (filled F i m l) refl (omega (arith, some-items b)) bb (omega arith) (omega (arith, filled-length F i m l))) in
      let v : get_or (filled F i (m + k) l) (i + m - 1) 0 ≡ min (height_most + 1) (height a) =
      kept i m k (m + k) (i + m) l (i + m - 1) refl refl (omega (arith, some-items a)) ∙ height_at a p.2 i m (i + m - 1) l refl refl (at_front cs i (code_exp a) (code_exp b) ab) (omega arith) (omega arith) in
      let v' : get_or (filled F i (m + k) l) (get_or ss (j - 1) 0 - 1) 0 ≡ min (height_most + 1) (height a) = rw w v in
      filled-last F (m + k) i n j l (omega arith) (omega arith) (omega arith) ∙ height_binary cs ss (filled F i (m + k) l) j (code_of (i_binary o)) x (binary_shape o p.0 p.1)
      ∙ of_two _ _ (height a) (height b) u v'
  height_at (choice a b c) p i n j l q r h g s =
      let A = code_exp a in
      let B = code_exp b in
      let C = code_exp c in
      let m = length A in
      let k = length B in
      let d = length C in
      let t : length (A ++ B ++ i_otherwise ∷ C ++ i_choice ∷ []) ≡ length (A ++ B ++ i_otherwise ∷ C) + 1 = length-append (A ++ B ++ i_otherwise ∷ C) (i_choice ∷ []) in
      let t2 : length (A ++ B ++ i_otherwise ∷ C) ≡ length (A ++ B) + suc d = length-append (A ++ B) (i_otherwise ∷ C) in
      let t3 : length (A ++ B) ≡ m + k = length-append A B in
      let abc = at_front cs i (A ++ B ++ i_otherwise ∷ C) (i_choice ∷ []) h in
      let x = (at_back cs (A ++ B ++ i_otherwise ∷ C) (i_choice ∷ []) i j (omega arith) h).0 in
      let ab = at_front cs i (A ++ B) (i_otherwise ∷ C) abc in
      let bb = at_back cs A B i (i + m) refl ab in
      let oc = at_back cs (A ++ B) (i_otherwise ∷ C) i (i + m + k) (omega arith) abc in
      let z : i + m + k + 1 ≡ suc (i + m + k) = omega arith in
      let cc' : At cs (i + m + k + 1) C = rw z oc.1 in
      let sc : get_or ss (j - 1) 0 ≡ i + m + k + 1 = right _ c p.2 (i + m + k + 1) (j - 1) cc' (omega arith) (omega (arith, some-items c)) in
      let sb : get_or ss (i + m + k - 1) 0 ≡ i + m = right _ b p.1 (i + m) (i + m + k - 1) bb (omega arith) refl in
      let u : get_or (filled F i (m + k + 1 + d) l) (j - 1) 0 ≡ min (height_most + 1) (height c) =
      second i (m + k + 1) d (m + k + 1 + d) (i + m + k + 1) l (j - 1) (min (height_most + 1) (height c)) refl (omega arith)
      (height_at c p.2 (i + m + k + 1) d (j - 1) (filled F i (m + k + 1) l) refl (omega (arith, some-items c)) cc' (omega arith) (omega (arith, filled-length F i (m + k + 1) l))) in
      let v : get_or (filled F i (m + k + 1 + d) l) (i + m + k - 1) 0 ≡ min (height_most + 1) (height b) =
      kept i (m + k) (1 + d) (m + k + 1 + d) (i + m + k) l (i + m + k - 1) (omega arith) (omega arith) (omega (arith, some-items a))
      ∙ second i m k (m + k) (i + m) l (i + m + k - 1) (min (height_most + 1) (height b)) refl refl
      (height_at b p.1 (i + m) k (i + m + k - 1) (filled F i m l) refl refl bb (omega arith) (omega (arith, filled-length F i m l))) in
      let w : get_or (filled F i (m + k + 1 + d) l) (i + m - 1) 0 ≡ min (height_most + 1) (height a) =
      kept i m (k + 1 + d) (m + k + 1 + d) (i + m) l (i + m - 1) (omega arith) refl (omega (arith, some-items a)) ∙ height_at a p.0 i m (i + m - 1) l refl refl (at_front cs i A B ab) (omega arith) (omega arith) in
      let y : i + m + k + 1 - 2 ≡ i + m + k - 1 = omega arith in
      let v' : get_or (filled F i (m + k + 1 + d) l) (get_or ss (j - 1) 0 - 2) 0 ≡ min (height_most + 1) (height b) = rw (sc, y) v in
      let w' : get_or (filled F i (m + k + 1 + d) l) (get_or ss (get_or ss (j - 1) 0 - 2) 0 - 1) 0 ≡ min (height_most + 1) (height a) = rw (sc, y, sb) w in
      filled-last F (m + k + 1 + d) i n j l (omega arith) (omega arith) (omega arith) ∙ height_choice cs ss (filled F i (m + k + 1 + d) l) j c_choice x shapes.7
      ∙ of_three _ _ _ (height a) (height b) (height c) u v' w'

-- AT ITS LAST ITEM every expression that stands in the items has its height, up to 33
pub phrase_heights : (cs z y : List ℕ) {s : Shape} (e : Exp s) → Proper e → (i j : ℕ) → At cs i (code_exp e) → length cs ≤ items_most → length cs ≤ length z → length cs ≤ length y
    → i + length (code_exp e) ≤ length cs → j ≡ i + length (code_exp e) - 1 → get_or (heights_of cs (starts_of cs z) y) j 0 ≡ min (height_most + 1) (height e)
unfolding heights_of
phrase_heights cs z y e p i j h few room more in_List q =
    let n = length (code_exp e) in
    let r = length cs - (i + n) in
    let G = height_of cs (starts_of cs z) in
    simp (le-ltb items_most (length cs) few)
    (ap (λ (m : List ℕ). get_or m j 0) (filled-split G (i + n) r 0 (length cs) (i + n) y (omega arith) (omega arith))
    ∙ filled_keeps G (i + n) r (filled G 0 (i + n) y) j (omega (arith, some-items e))
    ∙ ap (λ (m : List ℕ). get_or m j 0) (filled-split G i n 0 (i + n) i y refl (omega arith))
    ∙ height_at cs (starts_of cs z) (λ s' e' p' i' j' h' g' q'. phrase_starts cs z e' p' i' j' h' few room g' q') e p i n j (filled G 0 i y) refl q h in_List (omega (arith, filled-length G 0 i y)))
