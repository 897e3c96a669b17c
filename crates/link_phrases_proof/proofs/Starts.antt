-- WHERE AN EXPRESSION STARTS: at its last item `starts_of` has the place of its first.
use Prim.Native.Nat.{ℕ, suc, ◌+◌, ◌-◌, ◌≤◌, ◌<◌}
use native.Mathlib.Omega.{arith}
use mathlib.Core.Path.{◌≡◌, refl, ◌∙◌, ap}
use mathlib.Core.List.{List, [], ◌∷◌, ◌++◌}
use lib.ListN.{length, get_or, length-append}
use borrow.Author.Tests.{lt-ltb, le-ltb, ne_eqb}
use Rattle.base_ceilings.specs.Ceilings.{items_most}
use Rattle.base_codes.specs.Codes.{c_choice, c_false, c_index, c_len, c_negate, c_plain, c_remainder, c_true, c_name, c_number}
use Rattle.spec_grammar.specs.Tree.{Shape, Exp, plain, indexed, num, tru, fls, get, query, unary, binary, choice}
use Rattle.spec_grammar.specs.Grammar.{IsUnary, is_minus, is_not, is_flip}
use Rattle.rule_sheets.specs.Walks.{filled}
use Rattle.rule_sheets.specs.Spans.{shape_of, start_of, starts_of}
use Rattle.link_phrases_proof.specs.Phrases.{Proper, At}
use Rattle.link_phrases_proof.proofs.Fills.{filled-length, filled_keeps, filled-split, filled-last}
use Rattle.base_codes.specs.Items.{Item, code_of, i_binary, i_choice, i_index, i_query, i_otherwise, i_unary}
use Rattle.parse_code.specs.Code.{code_exp}

-- ---- items side by side
pub at_front : (cs : List ℕ) (i : ℕ) (x y : List Item) → At cs i (x ++ y) → At cs i x
at_front cs i [] y h = tt
at_front cs i (a ∷ x) y h = (h.0, at_front cs (suc i) x y h.1)

pub at_back : (cs : List ℕ) (x y : List Item) (i j : ℕ) → j ≡ i + length x → At cs i (x ++ y) → At cs j y
at_back cs [] y i j e h = let q : j ≡ i = omega arith in rw q h
at_back cs (a ∷ x) y i j e h = at_back cs x y (suc i) j (omega arith) h.1

pub some-items : {s : Shape} (e : Exp s) → 1 ≤ length (code_exp e)
some-items (plain w) = omega arith
some-items (indexed w e) = omega arith
some-items (num n) = omega arith
some-items tru = omega arith
some-items fls = omega arith
some-items (get r) = some-items r
some-items (query mk r) = omega (arith, length-append (code_exp r) (i_query mk ∷ []))
some-items (unary o e) = omega (arith, length-append (code_exp e) (i_unary o ∷ []))
some-items (binary o a b) = omega (arith, length-append (code_exp a ++ code_exp b) (i_binary o ∷ []))
some-items (choice a b c) = omega (arith, length-append (code_exp a ++ code_exp b ++ i_otherwise ∷ code_exp c) (i_choice ∷ []))

-- ---- the shapes of the last items
pub unary_shape : {o : ℕ} → IsUnary o → shape_of (code_of (i_unary o)) ≡ 3
unfolding shape_of
unary_shape is_minus = refl
unary_shape is_not = refl
unary_shape is_flip = refl

pub binary_shape : (o : ℕ) → 1 ≤ o → o ≤ 18 → shape_of (code_of (i_binary o)) ≡ 4
unfolding shape_of
binary_shape o a b =
    rw (ne_eqb (146 + o) c_plain (λ e. omega arith), ne_eqb (146 + o) c_index (λ e. omega arith), ne_eqb (146 + o) c_len (λ e. omega arith), le-ltb c_remainder (146 + o) (omega arith), lt-ltb 146 (146 + o) (omega arith), lt-ltb (146 + o) c_negate (omega arith))

-- the others, by their codes
pub shapes : (shape_of c_name ≡ 0) × (shape_of c_number ≡ 0) × (shape_of c_true ≡ 0) × (shape_of c_false ≡ 0) × (shape_of c_plain ≡ 1) × (shape_of c_index ≡ 2) × (shape_of c_len ≡ 3) × (shape_of c_choice ≡ 5)
unfolding shape_of
shapes = (refl, refl, refl, refl, refl, refl, refl, refl)

-- ---- a start, by the shape of the last item
module _ (cs l : List ℕ) (j c : ℕ) (it : get_or cs j 0 ≡ c) where
  start-leaf : shape_of c ≡ 0 → start_of cs l j ≡ j
  unfolding start_of
  start-leaf h = rw (it, h)

  start_plain : shape_of c ≡ 1 → start_of cs l j ≡ j - 1
  unfolding start_of
  start_plain h = rw (it, h)

  start_index : shape_of c ≡ 2 → start_of cs l j ≡ get_or l (j - 1) 0 - 1
  unfolding start_of
  start_index h = rw (it, h)

  start-over : shape_of c ≡ 3 → start_of cs l j ≡ get_or l (j - 1) 0
  unfolding start_of
  start-over h = rw (it, h)

  start_binary : shape_of c ≡ 4 → start_of cs l j ≡ get_or l (get_or l (j - 1) 0 - 1) 0
  unfolding start_of
  start_binary h = rw (it, h)

  start_choice : shape_of c ≡ 5 → start_of cs l j ≡ get_or l (get_or l (get_or l (j - 1) 0 - 2) 0 - 1) 0
  unfolding start_of
  start_choice h = rw (it, h)

module _ (cs : List ℕ) where
  abbrev F : List ℕ → ℕ → ℕ
  F = start_of cs

  -- what was filled before a part stays while the part is filled
  kept : (i a b n p : ℕ) (l : List ℕ) (j : ℕ) → n ≡ a + b → p ≡ i + a → j < p → get_or (filled F i n l) j 0 ≡ get_or (filled F i a l) j 0
  kept i a b n p l j e q h = ap (λ (m : List ℕ). get_or m j 0) (filled-split F a b i n p l e q) ∙ filled_keeps F p b (filled F i a l) j h

  -- the last place of the second of two parts
  second : (i a b n p : ℕ) (l : List ℕ) (j v : ℕ) → n ≡ a + b → p ≡ i + a → get_or (filled F p b (filled F i a l)) j 0 ≡ v → get_or (filled F i n l) j 0 ≡ v
  second i a b n p l j v e q h = ap (λ (m : List ℕ). get_or m j 0) (filled-split F a b i n p l e q) ∙ h

  start_at : {s : Shape} (e : Exp s) → Proper e → (i n j : ℕ) (l : List ℕ) → n ≡ length (code_exp e) → j ≡ i + n - 1 → At cs i (code_exp e) → i + n ≤ length l → get_or (filled F i n l) j 0 ≡ i
  start_at (plain w) p i n j l q r h s =
      let z : j ≡ suc i = omega arith in
      filled-last F 1 i n j l q (omega arith) (omega arith) ∙ start_plain cs (filled F i 1 l) j c_plain (rw z h.1.0) shapes.4 ∙ omega arith
  start_at (num v) p i n j l q r h s =
      let z : j ≡ i = omega arith in
      filled-last F 0 i n j l q (omega arith) (omega arith) ∙ start-leaf cs (filled F i 0 l) j c_number (rw z h.0) shapes.1 ∙ z
  start_at tru p i n j l q r h s =
      let z : j ≡ i = omega arith in
      filled-last F 0 i n j l q (omega arith) (omega arith) ∙ start-leaf cs (filled F i 0 l) j c_true (rw z h.0) shapes.2 ∙ z
  start_at fls p i n j l q r h s =
      let z : j ≡ i = omega arith in
      filled-last F 0 i n j l q (omega arith) (omega arith) ∙ start-leaf cs (filled F i 0 l) j c_false (rw z h.0) shapes.3 ∙ z
  start_at (get v) p i n j l q r h s = start_at v p i n j l q r h s
  start_at (indexed w e) p i n j l q r h s =
      let m = length (code_exp e) in
      let t : length (code_exp e ++ i_index ∷ []) ≡ m + 1 = length-append (code_exp e) (i_index ∷ []) in
      let one = at_front cs (suc i) (code_exp e) (i_index ∷ []) h.1 in
      let x = (at_back cs (code_exp e) (i_index ∷ []) (suc i) j (omega (arith, some-items e)) h.1).0 in
      let g = start_at e p (i + 1) m (j - 1) (filled F i 1 l) refl (omega (arith, some-items e)) (let z : i + 1 ≡ suc i = omega arith in rw z one) (omega (arith, filled-length F i 1 l)) in
      let u : get_or (filled F i (1 + m) l) (j - 1) 0 ≡ i + 1 = second i 1 m (1 + m) (i + 1) l (j - 1) (i + 1) refl refl g in
      filled-last F (1 + m) i n j l (omega arith) (omega arith) (omega arith) ∙ start_index cs (filled F i (1 + m) l) j c_index x shapes.5 ∙ omega (arith, u)
  start_at (query mk v) p i n j l q r h s =
      let m = length (code_exp v) in
      let t : length (code_exp v ++ i_query mk ∷ []) ≡ m + 1 = length-append (code_exp v) (i_query mk ∷ []) in
      let x = (at_back cs (code_exp v) (i_query mk ∷ []) i j (omega arith) h).0 in
      filled-last F m i n j l (omega arith) (omega arith) (omega (arith, some-items v)) ∙ start-over cs (filled F i m l) j c_len x shapes.6
      ∙ start_at v p i m (j - 1) l refl (omega arith) (at_front cs i (code_exp v) (i_query mk ∷ []) h) (omega arith)
  start_at (unary o e) p i n j l q r h s =
      let m = length (code_exp e) in
      let t : length (code_exp e ++ i_unary o ∷ []) ≡ m + 1 = length-append (code_exp e) (i_unary o ∷ []) in
      let x = (at_back cs (code_exp e) (i_unary o ∷ []) i j (omega arith) h).0 in
      filled-last F m i n j l (omega arith) (omega arith) (omega (arith, some-items e)) ∙ start-over cs (filled F i m l) j (code_of (i_unary o)) x (unary_shape p.0)
      ∙ start_at e p.1 i m (j - 1) l refl (omega arith) (at_front cs i (code_exp e) (i_unary o ∷ []) h) (omega arith)
  start_at (binary o a b) p i n j l q r h s =
      let m = length (code_exp a) in
      let k = length (code_exp b) in
      let t : length ((code_exp a ++ code_exp b) ++ i_binary o ∷ []) ≡ length (code_exp a ++ code_exp b) + 1 = length-append (code_exp a ++ code_exp b) (i_binary o ∷ []) in
      let t2 : length (code_exp a ++ code_exp b) ≡ m + k = length-append (code_exp a) (code_exp b) in
      let ab = at_front cs i (code_exp a ++ code_exp b) (i_binary o ∷ []) h in
      let x = (at_back cs (code_exp a ++ code_exp b) (i_binary o ∷ []) i j (omega arith) h).0 in
      let u : get_or (filled F i (m + k) l) (j - 1) 0 ≡ i + m =
      second i m k (m + k) (i + m) l (j - 1) (i + m) refl refl
      (start_at b p.3 (i + m) k (j - 1) (filled F i m l) refl (omega (arith, some-items b)) (at_back cs (code_exp a) (code_exp b) i (i + m) refl ab) (omega (arith, filled-length F i m l))) in
      let v : get_or (filled F i (m + k) l) (i + m - 1) 0 ≡ i =
      kept i m k (m + k) (i + m) l (i + m - 1) refl refl (omega (arith, some-items a)) ∙ start_at a p.2 i m (i + m - 1) l refl refl (at_front cs i (code_exp a) (code_exp b) ab) (omega arith) in
      filled-last F (m + k) i n j l (omega arith) (omega arith) (omega arith) ∙ start_binary cs (filled F i (m + k) l) j (code_of (i_binary o)) x (binary_shape o p.0 p.1) ∙ rw u v
  start_at (choice a b c) p i n j l q r h s =
      let A = code_exp a in
      let B = code_exp b in
      let C = code_exp c in
      let m = length A in
      let k = length B in
      let d = length C in
      let t : length (A ++ B ++ i_otherwise ∷ C ++ i_choice ∷ []) ≡ length (A ++ B ++ i_otherwise ∷ C) + 1 = length-append (A ++ B ++ i_otherwise ∷ C) (i_choice ∷ []) in
      let t2 : length (A ++ B ++ i_otherwise ∷ C) ≡ length (A ++ B) + suc d = length-append (A ++ B) (i_otherwise ∷ C) in
      let t3 : length (A ++ B) ≡ m + k = length-append A B in
      let abc = at_front cs i (A ++ B ++ i_otherwise ∷ C) (i_choice ∷ []) h in
      let x = (at_back cs (A ++ B ++ i_otherwise ∷ C) (i_choice ∷ []) i j (omega arith) h).0 in
      let ab = at_front cs i (A ++ B) (i_otherwise ∷ C) abc in
      let oc = at_back cs (A ++ B) (i_otherwise ∷ C) i (i + m + k) (omega arith) abc in
      let z : i + m + k + 1 ≡ suc (i + m + k) = omega arith in
      let u : get_or (filled F i (m + k + 1 + d) l) (j - 1) 0 ≡ i + m + k + 1 =
      second i (m + k + 1) d (m + k + 1 + d) (i + m + k + 1) l (j - 1) (i + m + k + 1) refl (omega arith)
      (start_at c p.2 (i + m + k + 1) d (j - 1) (filled F i (m + k + 1) l) refl (omega (arith, some-items c)) (rw z oc.1) (omega (arith, filled-length F i (m + k + 1) l))) in
      let v : get_or (filled F i (m + k + 1 + d) l) (i + m + k - 1) 0 ≡ i + m =
      kept i (m + k) (1 + d) (m + k + 1 + d) (i + m + k) l (i + m + k - 1) (omega arith) (omega arith) (omega (arith, some-items a))
      ∙ second i m k (m + k) (i + m) l (i + m + k - 1) (i + m) refl refl
      (start_at b p.1 (i + m) k (i + m + k - 1) (filled F i m l) refl refl (at_back cs A B i (i + m) refl ab) (omega (arith, filled-length F i m l))) in
      let w : get_or (filled F i (m + k + 1 + d) l) (i + m - 1) 0 ≡ i =
      kept i m (k + 1 + d) (m + k + 1 + d) (i + m) l (i + m - 1) (omega arith) refl (omega (arith, some-items a)) ∙ start_at a p.0 i m (i + m - 1) l refl refl (at_front cs i A B ab) (omega arith) in
      let y : i + m + k + 1 - 2 ≡ i + m + k - 1 = omega arith in
      filled-last F (m + k + 1 + d) i n j l (omega arith) (omega arith) (omega arith) ∙ start_choice cs (filled F i (m + k + 1 + d) l) j c_choice x shapes.7 ∙ rw (u, y, v) w

-- AT ITS LAST ITEM every expression that stands in the items has its first place
pub phrase_starts : (cs z : List ℕ) {s : Shape} (e : Exp s) → Proper e → (i j : ℕ) → At cs i (code_exp e) → length cs ≤ items_most → length cs ≤ length z → i + length (code_exp e) ≤ length cs
    → j ≡ i + length (code_exp e) - 1 → get_or (starts_of cs z) j 0 ≡ i
unfolding starts_of
phrase_starts cs z e p i j h few room in_List q =
    let n = length (code_exp e) in
    let r = length cs - (i + n) in
    simp (le-ltb items_most (length cs) few)
    (ap (λ (m : List ℕ). get_or m j 0) (filled-split (start_of cs) (i + n) r 0 (length cs) (i + n) z (omega arith) (omega arith))
    ∙ filled_keeps (start_of cs) (i + n) r (filled (start_of cs) 0 (i + n) z) j (omega (arith, some-items e))
    ∙ ap (λ (m : List ℕ). get_or m j 0) (filled-split (start_of cs) i n 0 (i + n) i z refl (omega arith))
    ∙ start_at cs e p i n j (filled (start_of cs) 0 i z) refl q h (omega (arith, filled-length (start_of cs) 0 i z)))
