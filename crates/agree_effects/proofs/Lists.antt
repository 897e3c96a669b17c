-- THE ARGUMENTS OF A STATEMENT, of a send, a run, a printf or a receive, stand in the tables one behind the other, each with its mark.
use Prim.Native.Nat.{ℕ, ◌+◌, ◌≤◌, ◌<◌}
use native.Mathlib.Omega.{arith}
use mathlib.Core.Path.{◌≡◌, refl, sym, ap, subst, ◌∙◌}
use mathlib.Core.Bool.{true}
use mathlib.Core.List.{List, [], ◌∷◌, ◌++◌, append_assoc}
use lib.ListN.{length, get_or, length-append}
use lib.IntN.{ℤ}
use Rattle.base_codes.specs.Codes.{c_declared, c_into}
use Rattle.spec_grammar.specs.Tree.{Shape, Exp, Expr, Received, into, equal, exactly, exactly_true, exactly_false, num, tru, fls, get}
use Rattle.base_codes.specs.Items.{Item, i_argument, i_constant, i_end, i_equal, i_into}
use Rattle.parse_code.specs.Code.{each, code_exp, code_argument, code_received, code}
use Rattle.base_codes.specs.Items as items
use Rattle.base_codes.specs.Sets.{is_part}
use Rattle.link_phrases_proof.proofs.Starts.{at_front, some-items}
use Rattle.link_places.specs.Places.{is_mark}
use Rattle.table_layout.specs.Access.{code_of}
use Rattle.read_passes.specs.Judging.{tables_text}
use Rattle.read_accepts_proof.specs.Meaning.{Accepts}
use Rattle.step_eval.specs.Expressions.{eval_of}
use Rattle.spec_machine.specs.Eval.{eval}
use Rattle.agree_stage.specs.Scenes.{scene_of, size_in}
use Rattle.agree_eval.specs.Names.{codes_at, decl_at}
use Rattle.keep_tables.proofs.Tables.{text-held}
use Rattle.agree_stage.proofs.Stands.{lying_back}
use Rattle.agree_offers.proofs.Places.{at_there, ends_there}
use Rattle.agree_effects.specs.Walked.{Passed, Compared, Agreed, Got, no_more, one_more_lem}
use Rattle.agree_effects.proofs.Meant.{Quiet, quiet-join}
use Rattle.agree_effects.proofs.Parts.{Here, first_code}
use Rattle.agree_effects.proofs.Marks.{Leaf, begins-leaf, leaf_no_end}
use Rattle.agree_effects.proofs.Phrases.{behind-argument, behind_equal, refers_into, quiet_there, linked_there, works, number_works, true_works, false_works, refers-linked, refers_located}

-- one behind the other
pub regroup : (x : List Item) (m : Item) (y z : List Item) → ((x ++ m ∷ []) ++ y) ++ z ≡ x ++ m ∷ (y ++ z)
regroup x m y z = append_assoc (x ++ m ∷ []) y z ∙ append_assoc x (m ∷ []) (y ++ z)

module _ (t : List ℕ) (a : Accepts t) where
  abbrev xs : List Item
  xs = code a.tree

  abbrev T : List ℕ
  T = tables_text t

  pub quiet-mark : (x : Item) (l : List Item) (m : ℕ) → Here t a (x ∷ l) m → items.code_of x < c_declared → Quiet t a m (m + 1)
  quiet-mark x l m p h y u v =
      let z : y ≡ m = omega arith in let e : get_or (codes_at t a) y 0 ≡ items.code_of x = ap (λ n. get_or (codes_at t a) n 0) z ∙ (at_there t a (x ∷ l) m p).0 in omega arith

  -- a phrase and its mark declare nothing
  pub quiet_phrase : (j i : ℕ) → Quiet t a j i → {k : Shape} (e : Exp k) (x : Item) (z : List Item) → Here t a (code_exp e ++ x ∷ z) i → items.code_of x < c_declared → Quiet t a j (i + size_in e + 1)
  quiet_phrase j i q e x z p h =
      quiet-join t a j i (i + size_in e + 1) q
      (quiet-join t a i (i + size_in e) (i + size_in e + 1) (quiet_there t a e x z i p) (quiet-mark x z (i + size_in e) (lying_back xs (code_exp e) (x ∷ z) 0 i (i + size_in e) refl p) h))

  -- the item behind it
  pub mark_code : {k : Shape} (e : Exp k) (x : Item) (z : List Item) (i : ℕ) → Here t a (code_exp e ++ x ∷ z) i → code_of (tables_text t) (i + size_in e) ≡ items.code_of x
  mark_code e x z i p = first_code t a x z (i + size_in e) (lying_back xs (code_exp e) (x ∷ z) 0 i (i + size_in e) refl p)

  pub behind_there : {k : Shape} (e : Exp k) (x : Item) (z : List Item) (i : ℕ) → Here t a (code_exp e ++ x ∷ z) i → Here t a z (i + size_in e + 1)
  behind_there e x z i p = lying_back xs (x ∷ []) z 0 (i + size_in e) (i + size_in e + 1) refl (lying_back xs (code_exp e) (x ∷ z) 0 i (i + size_in e) refl p)

  pub leaf_there : {k : Shape} (e : Exp k) (z : List Item) (i : ℕ) → Here t a (code_exp e ++ z) i → Leaf (code_of (tables_text t) i)
  leaf_there e z i p =
      let q = ends_there t a (code_exp e ++ z) i p in
      let s = some-items e in
      subst Leaf (sym ((text-held t a).codes i (omega (arith, length-append (code_exp e) z))))
      (begins-leaf (codes_at t a) i e (at_front (codes_at t a) i (code_exp e) z (at_there t a (code_exp e ++ z) i p)))

  -- ---- arguments
  pub arguments_there : (es : List Expr) (j b z : ℕ) → j ≤ b → Quiet t a j b → Here t a (each code_argument es ++ i_end ∷ []) b → z ≡ b + length (each code_argument es)
      → Passed (tables_text t) (decl_at t a j) es b z
  arguments_there [] j b z h q p e = let y : b ≡ z = omega arith in subst (Passed T (decl_at t a j) [] b) y (no_more (first_code t a i_end [] b p))
  arguments_there (x ∷ es) j b z h q p e =
      let X = code_exp x in
      let Y = each code_argument es in
      let r = subst (λ l. Here t a l b) (regroup X i_argument Y (i_end ∷ [])) p in
      let y : length ((X ++ i_argument ∷ []) ++ Y) ≡ size_in x + 1 + length Y = omega (arith, length-append (X ++ i_argument ∷ []) Y, length-append X (i_argument ∷ [])) in
      one_more_lem (b + size_in x) (leaf_no_end (leaf_there x (i_argument ∷ (Y ++ i_end ∷ [])) b r)) (linked_there t a x i_argument (Y ++ i_end ∷ []) b r behind-argument.mark)
      (works t a j b h q x i_argument (Y ++ i_end ∷ []) r behind-argument)
      (arguments_there es j (b + size_in x + 1) z (omega arith) (quiet_phrase j b q x i_argument (Y ++ i_end ∷ []) r (omega arith)) (behind_there x i_argument (Y ++ i_end ∷ []) b r)
      (omega arith))

  -- ---- received arguments
  compared : (j b : ℕ) (y : List Item) (e : Expr) (x : Item) → (items.code_of x ≡ c_into → ⊥) → Here t a (code_exp e ++ x ∷ y) b
      → ((s : List ℤ) (p : ℕ) → eval_of T s p b (b + size_in e) ≡ eval (scene_of T s p (decl_at t a j)) e) → Compared T (decl_at t a j) e b (b + size_in e)
  compared j b y e x n p w = record { mark = λ c. n (sym (mark_code e x y b p) ∙ c); worked = w }

  -- what is received, as an expression and its mark
  abbrev pub said : Received → Expr
  said (into r) = get r
  said (equal e) = e
  said (exactly n) = num n
  said exactly_true = tru
  said exactly_false = fls

  abbrev pub marked : Received → Item
  marked (into r) = i_into
  marked (equal e) = i_equal
  marked (exactly n) = i_constant
  marked exactly_true = i_constant
  marked exactly_false = i_constant

  pub received-code : (x : Received) → code_received x ≡ code_exp (said x) ++ marked x ∷ []
  received-code (into r) = refl
  received-code (equal e) = refl
  received-code (exactly n) = refl
  received-code exactly_true = refl
  received-code exactly_false = refl

  pub marked-mark : (x : Received) → (is_mark (items.code_of (marked x)) ≡ true) × (items.code_of (marked x) < c_declared)
  unfolding is_part
  marked-mark (into r) = (refl, omega arith)
  marked-mark (equal e) = (refl, omega arith)
  marked-mark (exactly n) = (refl, omega arith)
  marked-mark exactly_true = (refl, omega arith)
  marked-mark exactly_false = (refl, omega arith)

  agreed_there : (j b : ℕ) → j ≤ b → Quiet t a j b → (y : List Item) (x : Received) → Here t a (code_exp (said x) ++ marked x ∷ y) b → Agreed T (decl_at t a j) x b (b + size_in (said x))
  agreed_there j b h q y (into r) p =
      record {
        mark = mark_code (get r) i_into y b p;
        declared = refers-linked t a j b h q r i_into y p refers_into;
        worked = works t a j b h q r i_into y p refers_into.behind;
        located = refers_located t a j b h q r i_into y p refers_into;
      }
  agreed_there j b h q y (equal e) p = compared j b y e i_equal (λ c. omega arith) p (works t a j b h q e i_equal y p behind_equal)
  agreed_there j b h q y (exactly n) p = compared j b y (num n) i_constant (λ c. omega arith) p (number_works t a j b h q n i_constant y p)
  agreed_there j b h q y exactly_true p = compared j b y tru i_constant (λ c. omega arith) p (true_works t a j b h q i_constant y p)
  agreed_there j b h q y exactly_false p = compared j b y fls i_constant (λ c. omega arith) p (false_works t a j b h q i_constant y p)

  pub received_there : (ys : List Received) (j b z : ℕ) → j ≤ b → Quiet t a j b → Here t a (each code_received ys ++ i_end ∷ []) b → z ≡ b + length (each code_received ys)
      → Got (tables_text t) (decl_at t a j) ys b z
  received_there [] j b z h q p e = let y : b ≡ z = omega arith in subst (Got T (decl_at t a j) [] b) y (no_more (first_code t a i_end [] b p))
  received_there (x ∷ ys) j b z h q p e =
      let X = code_exp (said x) in
      let m = marked x in
      let Y = each code_received ys in
      let r = subst (λ l. Here t a l b) (ap (λ l. (l ++ Y) ++ i_end ∷ []) (received-code x) ∙ regroup X m Y (i_end ∷ [])) p in
      let y : length (code_received x ++ Y) ≡ size_in (said x) + 1 + length Y = omega (arith, length-append (code_received x) Y, ap length (received-code x), length-append X (m ∷ [])) in
      one_more_lem (b + size_in (said x)) (leaf_no_end (leaf_there (said x) (m ∷ (Y ++ i_end ∷ [])) b r)) (linked_there t a (said x) m (Y ++ i_end ∷ []) b r (marked-mark x).0)
      (agreed_there j b h q (Y ++ i_end ∷ []) x r)
      (received_there ys j (b + size_in (said x) + 1) z (omega arith) (quiet_phrase j b q (said x) m (Y ++ i_end ∷ []) r (marked-mark x).1) (behind_there (said x) m (Y ++ i_end ∷ []) b r)
      (omega arith))
