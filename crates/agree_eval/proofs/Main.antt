-- EXPRESSIONS OF ACCEPTED TEXTS: an expression whose items stand in the code of an accepted text's tree stands in its tables, links of its operators included; so what is worked out over the
-- tables is what the tree means, in every state, where its names link to their declarations.
use Prim.Native.Nat.{ℕ, zero, suc, ◌+◌, ◌-◌, ◌≤◌, ◌<◌}
use native.Mathlib.Omega.{arith}
use mathlib.Core.Path.{◌≡◌, refl, sym as inv, ap, ◌∙◌, subst}
use mathlib.Core.List.{List, [], ◌∷◌, ◌++◌, map, map-append}
use lib.ListN.{length, get_or, replicate, length-map, length-append, length-replicate}
use lib.IntN.{ℤ}
use Rattle.base_ceilings.specs.Ceilings.{height_most, items_most}
use Rattle.base_codes.specs.Codes.{c_choice, c_otherwise}
use Rattle.spec_grammar.specs.Tree.{Name, Shape, Exp, plain, indexed, num, tru, fls, get, query, unary, binary, choice}
use Rattle.base_codes.specs.Items.{Item, i_binary, i_choice, i_index, i_query, i_otherwise, i_unary}
use Rattle.parse_code.specs.Code.{code_exp, code}
use Rattle.table_entries.specs.Items.{entry_of}
use Rattle.base_codes.specs.Items as items
use Rattle.base_codes.specs.Sets.{class_of}
use Rattle.link_phrases_proof.specs.Phrases.{Proper, At}
use Rattle.spec_rules.specs.Heights.{height}
use Rattle.link_phrases_proof.proofs.Starts.{at_front, at_back, phrase_starts}
use Rattle.link_phrases_proof.proofs.Inside.{stands}
use Rattle.table_layout.specs.Access.{code_of, link_of}
use Rattle.read_passes.specs.Judging.{tables_text}
use Rattle.read_accepts_proof.specs.Meaning.{Accepts}
use Rattle.read_accepts_proof.proofs.Tables.{text-tables}
use Rattle.step_eval.specs.Expressions.{eval_of}
use Rattle.spec_machine.specs.Eval.{eval}
use Rattle.agree_stage.specs.Scenes.{scene_of, size_in, Stands, Named}
use Rattle.agree_stage.proofs.Tables.{eval_is}
use Rattle.agree_eval.specs.Held.{Held}
use Rattle.agree_eval.proofs.Codes.{cs, codes_few, codes_long, codes_are}
use Rattle.agree_eval.proofs.Starts.{binary_class, otherwise_class, choice_class, link_starts}
use Rattle.agree_eval.proofs.Items.{T, held-front, held_back, link_held, part_held}

module _ (t : List ℕ) (a : Accepts t) where
  abbrev pub C : List ℕ
  C = cs t a

  abbrev pub U : List ℕ
  U = T t a

  pub items_long : length C ≡ length (code a.tree)
  items_long = codes_long t a ∙ length-map (code a.tree) entry_of

  -- the link of an item that is an operator, `otherwise` or `choice`, behind a phrase that starts at k
  pub linked : {s : Shape} (e : Exp s) → Proper e → (i j c : ℕ) → At C i (code_exp e) → j ≡ i + length (code_exp e) → j < length C → get_or C j 0 ≡ c → class_of c ≡ 4 → link_of U j ≡ i
  linked e p i j c h q g k w =
      link_held t a j (omega (arith, items_long))
      ∙ link_starts C _ j i (codes_few t a) g (ap class_of k ∙ w)
      (phrase_starts C (replicate items_most 0) e p i (j - 1) h (codes_few t a) (omega (arith, codes_few t a, length-replicate items_most zero)) (omega arith) (omega arith)) (omega (arith, codes_few t a))

  stands_in : {s : Shape} (e : Exp s) (i : ℕ) → Proper e → At C i (code_exp e) → Held U i (code_exp e) → i + length (code_exp e) ≤ length C → Stands U e i
  unfolding Stands
  stands_in (plain w) i p h k l = let z : suc i ≡ i + 1 = omega arith in ap (code_of U) (inv z) ∙ k.2.0
  stands_in (indexed w e) i p h k l =
      let m = size_in e in
      let z : suc i ≡ i + 1 = omega arith in
      let q : length (code_exp e ++ i_index ∷ []) ≡ m + 1 = length-append (code_exp e) (i_index ∷ []) in (
        stands_in e (i + 1) p (subst (λ n. At C n (code_exp e)) z (at_front C (suc i) (code_exp e) (i_index ∷ []) h.1))
            (subst (λ n. Held U n (code_exp e)) z (held-front U (suc i) (code_exp e) (i_index ∷ []) k.2)) (omega arith),
        (held_back U (code_exp e) (i_index ∷ []) (suc i) (i + 1 + m) (omega arith) k.2).0,
      )
  stands_in (num n) i p h k l = let z = k.1 refl in (k.0, z.0, z.1)
  stands_in tru i p h k l = k.0
  stands_in fls i p h k l = k.0
  stands_in (get r) i p h k l = stands_in r i p h k l
  stands_in (query mk r) i p h k l =
      let q : length (code_exp r ++ i_query mk ∷ []) ≡ size_in r + 1 = length-append (code_exp r) (i_query mk ∷ []) in
      (stands_in r i p (at_front C i (code_exp r) (i_query mk ∷ []) h) (held-front U i (code_exp r) (i_query mk ∷ []) k) (omega arith), (held_back U (code_exp r) (i_query mk ∷ []) i (i + size_in r) refl k).0)
  stands_in (unary o e) i p h k l =
      let q : length (code_exp e ++ i_unary o ∷ []) ≡ size_in e + 1 = length-append (code_exp e) (i_unary o ∷ []) in (
        stands_in e i p.1 (at_front C i (code_exp e) (i_unary o ∷ []) h) (held-front U i (code_exp e) (i_unary o ∷ []) k) (omega arith),
        (held_back U (code_exp e) (i_unary o ∷ []) i (i + size_in e) refl k).0,
      )
  stands_in (binary o x y) i p h k l =
      let X = code_exp x in
      let Y = code_exp y in
      let m = size_in x in
      let n = size_in y in
      let q : length ((X ++ Y) ++ i_binary o ∷ []) ≡ length (X ++ Y) + 1 = length-append (X ++ Y) (i_binary o ∷ []) in
      let q2 : length (X ++ Y) ≡ m + n = length-append X Y in
      let ab = at_front C i (X ++ Y) (i_binary o ∷ []) h in
      let hb = held-front U i (X ++ Y) (i_binary o ∷ []) k in
      let j = i + m + n in
      let yy = at_back C X Y i (i + m) refl ab in
      let c = (at_back C (X ++ Y) (i_binary o ∷ []) i j (omega arith) h).0 in (
        stands_in x i p.2 (at_front C i X Y ab) (held-front U i X Y hb) (omega arith),
        stands_in y (i + m) p.3 yy (held_back U X Y i (i + m) refl hb) (omega arith),
        (held_back U (X ++ Y) (i_binary o ∷ []) i j (omega arith) k).0,
        linked y p.3 (i + m) j (146 + o) yy refl (omega arith) c (binary_class o p.0 p.1),
      )
  stands_in (choice x y z) i p h k l =
      let X = code_exp x in
      let Y = code_exp y in
      let Z = code_exp z in
      let m = size_in x in
      let n = size_in y in
      let d = size_in z in
      let q : length (X ++ Y ++ i_otherwise ∷ Z ++ i_choice ∷ []) ≡ length (X ++ Y ++ i_otherwise ∷ Z) + 1 = length-append (X ++ Y ++ i_otherwise ∷ Z) (i_choice ∷ []) in
      let q2 : length (X ++ Y ++ i_otherwise ∷ Z) ≡ length (X ++ Y) + suc d = length-append (X ++ Y) (i_otherwise ∷ Z) in
      let q3 : length (X ++ Y) ≡ m + n = length-append X Y in
      let abc = at_front C i (X ++ Y ++ i_otherwise ∷ Z) (i_choice ∷ []) h in
      let hbc = held-front U i (X ++ Y ++ i_otherwise ∷ Z) (i_choice ∷ []) k in
      let ab = at_front C i (X ++ Y) (i_otherwise ∷ Z) abc in
      let hb = held-front U i (X ++ Y) (i_otherwise ∷ Z) hbc in
      let oc = at_back C (X ++ Y) (i_otherwise ∷ Z) i (i + m + n) (omega arith) abc in
      let ho = held_back U (X ++ Y) (i_otherwise ∷ Z) i (i + m + n) (omega arith) hbc in
      let v : suc (i + m + n) ≡ i + m + n + 1 = omega arith in
      let u = i + m + n + 1 in
      let yy = at_back C X Y i (i + m) refl ab in
      let zz = subst (λ j. At C j Z) v oc.1 in
      let c = (at_back C (X ++ Y ++ i_otherwise ∷ Z) (i_choice ∷ []) i (u + d) (omega arith) h).0 in (
        stands_in x i p.0 (at_front C i X Y ab) (held-front U i X Y hb) (omega arith),
        stands_in y (i + m) p.1 yy (held_back U X Y i (i + m) refl hb) (omega arith),
        linked y p.1 (i + m) (i + m + n) c_otherwise yy refl (omega arith) oc.0 otherwise_class,
        stands_in z u p.2 zz (subst (λ j. Held U j Z) v ho.2) (omega arith),
        (held_back U (X ++ Y ++ i_otherwise ∷ Z) (i_choice ∷ []) i (u + d) (omega arith) k).0,
        linked z p.2 u (u + d) c_choice zz refl (omega arith) c choice_class,
      )

  -- ---- an expression of the tree
  module _ {s : Shape} (e : Exp s) (front rest : List Item) (within : code a.tree ≡ front ++ (code_exp e ++ rest)) (p : Proper e) where
    pub stands_at : At C (length front) (code_exp e)
    stands_at =
        subst (λ (l : List ℕ). At l (length front) (code_exp e)) (inv (codes_are t a ∙ ap (map items.code_of) within ∙ map-append items.code_of front (code_exp e ++ rest)))
        (stands (map items.code_of front) (code_exp e) rest (length front) (inv (length-map front items.code_of)))

    pub text-stands : Stands (tables_text t) e (length front)
    text-stands =
        subst (λ (l : List ℕ). Stands l e (length front)) (inv (text-tables t a))
        (stands_in e (length front) p stands_at (part_held t a front (code_exp e) rest within)
        (omega (arith, items_long, ap length within, length-append front (code_exp e ++ rest), length-append (code_exp e) rest)))

    -- what is worked out over its items is what it means
    pub text-eval : (st : List ℤ) (pid : ℕ) (decl : Name → ℕ) → Named (tables_text t) decl e (length front) → height e ≤ height_most
        → eval_of (tables_text t) st pid (length front) (length front + size_in e) ≡ eval (scene_of (tables_text t) st pid decl) e
    text-eval st pid decl n g = eval_is (tables_text t) st pid decl e (length front) (length front + size_in e) p text-stands n g refl
