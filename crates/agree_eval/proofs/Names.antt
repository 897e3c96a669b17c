-- THE NAMES OF AN EXPRESSION of an accepted text link to what they mean where it begins: nothing is declared inside of an expression. So what is worked out over the tables is what the tree
-- means, with its names looked up.
use Prim.Native.Nat.{ℕ, zero, suc, ◌+◌, ◌≤◌, ◌<◌, min}
use native.Mathlib.Omega.{arith}
use mathlib.Core.Path.{◌≡◌, refl, sym as inv, ap, ◌∙◌, subst}
use mathlib.Core.Bool.{Bool, true, false}
use mathlib.Core.Logic.{inl, inr}
use mathlib.Core.List.{List, [], ◌∷◌, ◌++◌}
use lib.ListN.{length, get_or, replicate, length-append, length-replicate, get_or-append}
use lib.Seq.{get_or-append-add}
use lib.IntN.{ℤ}
use lib.Dec.{ltb}
use borrow.Author.Tests.{ltb-true, ltb-false, lt-ltb, le-ltb}
use Rattle.base_ceilings.specs.Ceilings.{height_most, items_most}
use Rattle.base_codes.specs.Codes.{c_argument, c_index, c_plain, c_name}
use Rattle.base_bytes.specs.Choice.{pick}
use Rattle.base_bytes.proofs.Tests.{true_false}
use Rattle.spec_grammar.specs.Tree.{Name, Shape, reference, Exp, plain, indexed, num, tru, fls, get, query, unary, binary, choice}
use Rattle.rule_sheets.specs.Homes.{inside_of}
use Rattle.rule_search.specs.Search.{find, lookup}
use Rattle.base_bytes.specs.Lists.{same}
use Rattle.spec_text.specs.Names.{pid}
use Rattle.link_phrases_proof.specs.Phrases.{Proper, At}
use Rattle.spec_rules.specs.Heights.{height}
use Rattle.link_phrases_proof.proofs.Starts.{at_front, at_back, some-items, phrase_starts}
use Rattle.link_phrases_proof.proofs.Inside.{all_inside, phrase_inside, mark-outside}
use Rattle.table_layout.specs.Access.{code_of, link_of}
use Rattle.read_passes.specs.Judging.{tables_text}
use Rattle.read_accepts_proof.specs.Meaning.{Accepts}
use Rattle.read_accepts_proof.proofs.Tables.{text-tables}
use Rattle.step_eval.specs.Expressions.{eval_of}
use Rattle.spec_machine.specs.Eval.{eval}
use Rattle.agree_stage.specs.Scenes.{scene_of, size_in, Meant, Named}
use Rattle.agree_eval.specs.Names.{first_name, codes_at, said_at, homes_at, meant_at, decl_at, Arrays}
use Rattle.agree_eval.proofs.Codes.{codes_few}
use Rattle.agree_eval.proofs.Starts.{reference_class, link_name}
use Rattle.agree_eval.proofs.Items.{link_held, code-held}
use Rattle.agree_eval.proofs.Main.{U, items_long, stands_at, text-eval}
use Rattle.agree_eval.proofs.Lookups.{lookup_most, lookup-further, lookup-none}
use Rattle.agree_eval.proofs.Said.{pid-said, first_said, first_code, home_same}
use Rattle.base_codes.specs.Items.{Item, i_binary, i_choice, i_index, i_query, i_name, i_otherwise, i_plain, i_unary}
use Rattle.parse_code.specs.Code.{code_exp, code}
use Rattle.base_codes.specs.Sets.{class_of, is_part}
use Rattle.base_codes.specs.Items as items

-- ---- items that lie in a list from place k on
abbrev pub Lies : List Item → ℕ → List Item → Type 0
Lies xs k [] = Unit {0}
Lies xs k (x ∷ l) = (get_or xs k i_plain ≡ x) × Lies xs (suc k) l

pub lies_front : (xs : List Item) (k : ℕ) (x y : List Item) → Lies xs k (x ++ y) → Lies xs k x
lies_front xs k [] y h = tt
lies_front xs k (a ∷ x) y h = (h.0, lies_front xs (suc k) x y h.1)

pub lies_back : (xs x y : List Item) (k j : ℕ) → j ≡ k + length x → Lies xs k (x ++ y) → Lies xs j y
lies_back xs [] y k j e h = let q : k ≡ j = omega arith in subst (λ n. Lies xs n y) q h
lies_back xs (a ∷ x) y k j e h = lies_back xs x y (suc k) j (omega arith) h.1

pub lies_all : (xs l : List Item) (k : ℕ) → ((j : ℕ) → j < length l → get_or xs (k + j) i_plain ≡ get_or l j i_plain) → Lies xs k l
lies_all xs [] k h = tt
lies_all xs (x ∷ l) k h =
    let z : k ≡ k + 0 = omega arith in
    (ap (λ n. get_or xs n i_plain) z ∙ h 0 (omega arith), lies_all xs l (suc k) (λ j g. let w : suc k + j ≡ k + suc j = omega arith in ap (λ n. get_or xs n i_plain) w ∙ h (suc j) (omega arith)))

-- an expression's items have low codes
low-code : (c : ℕ) → is_part c ≡ true → c < c_argument
low-code c e = go (ltb c c_argument) refl
  where
    go : (b : Bool) → ltb c c_argument ≡ b → c < c_argument
    go true q = ltb-true c c_argument q
    go false q = absurd (true_false (inv e ∙ mark-outside c (ltb-false c c_argument q)))

pub low_at : (cs : List ℕ) (l : List Item) (k j : ℕ) → all_inside l → At cs k l → k ≤ j → j < k + length l → get_or cs j 0 < c_argument
low_at cs [] k j a h b d = absurd (omega arith)
low_at cs (x ∷ l) k j a h b d = go (ltb k j) refl (low_at cs l (suc k) j a.1 h.1)
  where
    go : (c : Bool) → ltb k j ≡ c → (suc k ≤ j → j < suc k + length l → get_or cs j 0 < c_argument) → get_or cs j 0 < c_argument
    go true q below = let z = ltb-true k j q in below (omega arith) (omega arith)
    go false q below =
        let z = ltb-false k j q in
        let w : j ≡ k = omega arith in
        let u = low-code (items.code_of x) a.0 in
        let v : get_or cs j 0 ≡ items.code_of x = ap (λ n. get_or cs n 0) w ∙ h.0 in
        omega arith

module _ (t : List ℕ) (a : Accepts t) where
  abbrev xs : List Item
  xs = code a.tree

  abbrev C : List ℕ
  C = codes_at t a

  -- an expression stands from item i to before item i + n
  module _ (i n : ℕ) (end : i + n ≤ length C) (low : (x : ℕ) → i ≤ x → x < i + n → get_or C x 0 < c_argument) where
    abbrev pub meaning : Name → ℕ → ℕ
    meaning w k = lookup C (said_at t a) (homes_at t a) (get_or (said_at t a) (first_name w xs) 0) (inside_of C i) k

    -- the link of a reference, whose name is item k and whose last item is j
    pub link_means : (w : Name) (r : Exp reference) (k j c : ℕ) → Proper r → At C k (code_exp r) → i ≤ k → j + 1 ≡ k + length (code_exp r) → j < i + n → get_or xs k i_plain ≡ i_name w
        → get_or C j 0 ≡ c → class_of c ≡ 1 → link_of (U t a) j ≡ meaning w k
    link_means w r k j c p h b q g e d one =
        let s = some-items r in
        let x : j < length xs = omega (arith, items_long t a) in
        let f = first_said t a w k (omega (arith, items_long t a)) e in
        let v = said_at t a in
        let o = homes_at t a in
        link_held t a j x
        ∙ link_name C v j k (codes_few t a) (omega arith) (ap class_of d ∙ one)
        (phrase_starts C (replicate items_most 0) r p k j h (codes_few t a) (omega (arith, codes_few t a, length-replicate items_most zero)) (omega arith) (omega arith))
        ∙ ap (λ y. min 4294967295 (lookup C v o y (get_or o j 0) k)) (inv f)
        ∙ ap (λ y. min 4294967295 (lookup C v o (get_or v (first_name w xs) 0) y k)) (home_same t a i j (omega arith) x (λ y u z. low y u (omega arith)))
        ∙ (let m = lookup_most C v o i k b (λ y u z. low y u (omega arith)) (get_or v (first_name w xs) 0) (inside_of C i) k in let y : min 4294967295 (meaning w k) ≡ meaning w k = omega (arith, codes_few t a) in y)

    -- declared before, or not at all
    pub means_found : (w : Name) (k : ℕ) → i ≤ k → k < i + n → meant_at t a i w < i → meaning w k ≡ decl_at t a i w
    unfolding meant_at decl_at
    means_found w k b g l =
        lookup-further C (said_at t a) (homes_at t a) i k b (λ y u z. low y u (omega arith)) (get_or (said_at t a) (first_name w xs) 0) (inside_of C i) l ∙ inv (rw (lt-ltb (meaning w i) i l))

    pub means-none : (w : Name) (k : ℕ) → i ≤ k → k < i + n → (meant_at t a i w < i → ⊥) → meaning w k ≡ k
    unfolding meant_at
    means-none w k b g l = lookup-none C (said_at t a) (homes_at t a) i k b (λ y u z. low y u (omega arith)) (get_or (said_at t a) (first_name w xs) 0) (inside_of C i) l

    decl-none : (w : Name) → (meant_at t a i w < i → ⊥) → decl_at t a i w ≡ first_name w xs
    unfolding decl_at
    decl-none w l = go (ltb (meant_at t a i w) i) refl
      where
        go : (b : Bool) → ltb (meant_at t a i w) i ≡ b → pick b (meant_at t a i w) (first_name w xs) ≡ first_name w xs
        go true e = absurd (l (ltb-true (meant_at t a i w) i e))
        go false e = refl

    plain_means : (w : Name) (k d : ℕ) → i ≤ k → k < i + n → get_or xs k i_plain ≡ i_name w → d ≡ meaning w k → Meant (U t a) d (decl_at t a i w)
    plain_means w k d b g e q = go (ltb (meant_at t a i w) i) refl
      where
        go : (c : Bool) → ltb (meant_at t a i w) i ≡ c → Meant (U t a) d (decl_at t a i w)
        go true r = inl (q ∙ means_found w k b g (ltb-true (meant_at t a i w) i r))
        go false r =
            let l : meant_at t a i w < i → ⊥ = λ z. (let y = ltb-false (meant_at t a i w) i r in omega arith) in
            let h : k < length xs = omega (arith, items_long t a) in
            let f = first_code t a w k h e in
            inr (ap (code_of (U t a)) (q ∙ means-none w k b g l) ∙ code-held t a k h ∙ ap items.code_of e, ap (code_of (U t a)) (decl-none w l) ∙ code-held t a (first_name w xs) f.0 ∙ f.1)

    -- `_pid` is declared by no item
    pid-declared : (w : Name) (k : ℕ) → i ≤ k → k < i + n → get_or xs k i_plain ≡ i_name w → same w pid ≡ true → code_of (U t a) (decl_at t a i w) ≡ c_name
    unfolding meant_at lookup find
    pid-declared w k b g e q =
        let h : k < length xs = omega (arith, items_long t a) in
        let f = first_code t a w k h e in
        let z : meant_at t a i w ≡ i =
        ap (λ v. lookup C (said_at t a) (homes_at t a) v (inside_of C i) i) (first_said t a w k h e ∙ pid-said t a w k h e q) ∙ rw (le-ltb i i (omega arith)) in
        ap (code_of (U t a)) (decl-none w (λ l. omega arith)) ∙ code-held t a (first_name w xs) f.0 ∙ f.1

    named_in : {s : Shape} (e : Exp s) (k : ℕ) → Proper e → Lies xs k (code_exp e) → At C k (code_exp e) → i ≤ k → k + length (code_exp e) ≤ i + n → Arrays t a i e → Named (U t a) (decl_at t a i) e k
    unfolding Named
    named_in (plain w) k p l h b g r =
        let z : suc k ≡ k + 1 = omega arith in
        let c : get_or C (k + 1) 0 ≡ c_plain = ap (λ y. get_or C y 0) (inv z) ∙ h.1.0 in (
          plain_means w k (link_of (U t a) (k + 1)) b (omega arith) l.0 (link_means w (plain w) k (k + 1) c_plain p h b (omega arith) (omega arith) l.0 c reference_class.0),
          pid-declared w k b (omega arith) l.0,
        )
    named_in (indexed w e) k p l h b g r =
        let m = size_in e in
        let z : suc k ≡ k + 1 = omega arith in
        let q : length (code_exp e ++ i_index ∷ []) ≡ m + 1 = length-append (code_exp e) (i_index ∷ []) in
        let j = k + 1 + m in
        let c = (at_back C (code_exp e) (i_index ∷ []) (suc k) j (omega arith) h.1).0 in (
          named_in e (k + 1) p (subst (λ y. Lies xs y (code_exp e)) z (lies_front xs (suc k) (code_exp e) (i_index ∷ []) l.1))
              (subst (λ y. At C y (code_exp e)) z (at_front C (suc k) (code_exp e) (i_index ∷ []) h.1)) (omega arith) (omega arith) r.1,
          link_means w (indexed w e) k j c_index p h b (omega arith) (omega arith) l.0 c reference_class.1 ∙ means_found w k b (omega arith) r.0,
        )
    named_in (num v) k p l h b g r = tt
    named_in tru k p l h b g r = tt
    named_in fls k p l h b g r = tt
    named_in (get v) k p l h b g r = named_in v k p l h b g r
    named_in (query mk v) k p l h b g r =
        let q : length (code_exp v ++ i_query mk ∷ []) ≡ size_in v + 1 = length-append (code_exp v) (i_query mk ∷ []) in
        named_in v k p (lies_front xs k (code_exp v) (i_query mk ∷ []) l) (at_front C k (code_exp v) (i_query mk ∷ []) h) b (omega arith) r
    named_in (unary o e) k p l h b g r =
        let q : length (code_exp e ++ i_unary o ∷ []) ≡ size_in e + 1 = length-append (code_exp e) (i_unary o ∷ []) in
        named_in e k p.1 (lies_front xs k (code_exp e) (i_unary o ∷ []) l) (at_front C k (code_exp e) (i_unary o ∷ []) h) b (omega arith) r
    named_in (binary o x y) k p l h b g r =
        let X = code_exp x in
        let Y = code_exp y in
        let m = size_in x in
        let q : length ((X ++ Y) ++ i_binary o ∷ []) ≡ length (X ++ Y) + 1 = length-append (X ++ Y) (i_binary o ∷ []) in
        let q2 : length (X ++ Y) ≡ m + size_in y = length-append X Y in
        let ab = at_front C k (X ++ Y) (i_binary o ∷ []) h in
        let lb = lies_front xs k (X ++ Y) (i_binary o ∷ []) l in (
          named_in x k p.2 (lies_front xs k X Y lb) (at_front C k X Y ab) b (omega arith) r.0,
          named_in y (k + m) p.3 (lies_back xs X Y k (k + m) refl lb) (at_back C X Y k (k + m) refl ab) (omega arith) (omega arith) r.1,
        )
    named_in (choice x y z) k p l h b g r =
        let X = code_exp x in
        let Y = code_exp y in
        let Z = code_exp z in
        let m = size_in x in
        let d = size_in y in
        let q : length (X ++ Y ++ i_otherwise ∷ Z ++ i_choice ∷ []) ≡ length (X ++ Y ++ i_otherwise ∷ Z) + 1 = length-append (X ++ Y ++ i_otherwise ∷ Z) (i_choice ∷ []) in
        let q2 : length (X ++ Y ++ i_otherwise ∷ Z) ≡ length (X ++ Y) + suc (size_in z) = length-append (X ++ Y) (i_otherwise ∷ Z) in
        let q3 : length (X ++ Y) ≡ m + d = length-append X Y in
        let abc = at_front C k (X ++ Y ++ i_otherwise ∷ Z) (i_choice ∷ []) h in
        let lbc = lies_front xs k (X ++ Y ++ i_otherwise ∷ Z) (i_choice ∷ []) l in
        let ab = at_front C k (X ++ Y) (i_otherwise ∷ Z) abc in
        let lb = lies_front xs k (X ++ Y) (i_otherwise ∷ Z) lbc in
        let v : suc (k + m + d) ≡ k + m + d + 1 = omega arith in (
          named_in x k p.0 (lies_front xs k X Y lb) (at_front C k X Y ab) b (omega arith) r.0,
          named_in y (k + m) p.1 (lies_back xs X Y k (k + m) refl lb) (at_back C X Y k (k + m) refl ab) (omega arith) (omega arith) r.1,
          named_in z (k + m + d + 1) p.2 (subst (λ j. Lies xs j Z) v (lies_back xs (X ++ Y) (i_otherwise ∷ Z) k (k + m + d) (omega arith) lbc).1)
              (subst (λ j. At C j Z) v (at_back C (X ++ Y) (i_otherwise ∷ Z) k (k + m + d) (omega arith) abc).1) (omega arith) (omega arith) r.2,
        )

  -- ---- an expression of the tree
  module _ {s : Shape} (e : Exp s) (front rest : List Item) (within : code a.tree ≡ front ++ (code_exp e ++ rest)) (p : Proper e) where
    pub text-named : Arrays t a (length front) e → Named (tables_text t) (decl_at t a (length front)) e (length front)
    text-named r =
        let h = stands_at t a e front rest within p in
        subst (λ (l : List ℕ). Named l (decl_at t a (length front)) e (length front)) (inv (text-tables t a))
        (named_in (length front) (length (code_exp e)) (omega (arith, items_long t a, ap length within, length-append front (code_exp e ++ rest), length-append (code_exp e) rest))
        (λ x u v. low_at C (code_exp e) (length front) x (phrase_inside e p) h u v) e (length front) p
        (lies_all xs (code_exp e) (length front) (λ j g. ap (λ (y : List Item). get_or y (length front + j) i_plain) within ∙ get_or-append-add front (code_exp e ++ rest) j i_plain ∙ get_or-append (code_exp e) rest i_plain j g))
        h (omega arith) (omega arith) r)

    -- EVALUATION OVER AN ACCEPTED TEXT'S TABLES IS THE MEANING OF ITS TREE, in every state and for every process
    pub text-means : (st : List ℤ) (pid : ℕ) → Arrays t a (length front) e → height e ≤ height_most
        → eval_of (tables_text t) st pid (length front) (length front + size_in e) ≡ eval (scene_of (tables_text t) st pid (decl_at t a (length front))) e
    text-means st pid r g = text-eval t a e front rest within p st pid (decl_at t a (length front)) (text-named r) g
