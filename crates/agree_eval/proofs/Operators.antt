-- The operators of expressions that stand in the code of an accepted text's tree are operators: its items are those that a text can have.
use Prim.Native.Nat.{ℕ, ◌-◌, ◌≤◌}
use mathlib.Core.Path.{◌≡◌, subst}
use mathlib.Core.List.{List, [], ◌∷◌, ◌++◌}
use Rattle.spec_grammar.specs.Tree.{Shape, Exp, plain, indexed, num, tru, fls, get, query, unary, binary, choice}
use Rattle.spec_grammar.specs.Grammar.{IsUnary}
use Rattle.base_codes.specs.Items.{Item, i_binary, i_choice, i_index, i_query, i_otherwise, i_unary}
use Rattle.parse_code.specs.Code.{code_exp, code}
use Rattle.table_entries.specs.Items.{Known, AllKnown, is_unary, is_binary}
use Rattle.link_phrases_proof.specs.Phrases.{Proper}
use Rattle.table_proof.proofs.Accepted.{accepted_known}
use Rattle.read_accepts_proof.specs.Meaning.{Accepts}

binary_is : {o : ℕ} → Known (i_binary o) → (1 ≤ o) × (o ≤ 18)
binary_is (is_binary a b) = (a, b)

unary_is : {o : ℕ} → Known (i_unary o) → IsUnary o
unary_is (is_unary u) = u

-- ---- expressions
pub known-front : (x y : List Item) → AllKnown (x ++ y) → AllKnown x
known-front [] y k = tt
known-front (a ∷ x) y k = (k.0, known-front x y k.1)

pub known-back : (x y : List Item) → AllKnown (x ++ y) → AllKnown y
known-back [] y k = k
known-back (a ∷ x) y k = known-back x y k.1

pub known_proper : {s : Shape} (e : Exp s) → AllKnown (code_exp e) → Proper e
known_proper (plain w) k = tt
known_proper (indexed w e) k = known_proper e (known-front (code_exp e) (i_index ∷ []) k.1)
known_proper (num n) k = tt
known_proper tru k = tt
known_proper fls k = tt
known_proper (get r) k = known_proper r k
known_proper (query mk r) k = known_proper r (known-front (code_exp r) (i_query mk ∷ []) k)
known_proper (unary o e) k = (unary_is (known-back (code_exp e) (i_unary o ∷ []) k).0, known_proper e (known-front (code_exp e) (i_unary o ∷ []) k))
known_proper (binary o x y) k =
    let h = known-front (code_exp x ++ code_exp y) (i_binary o ∷ []) k in
    let b = binary_is (known-back (code_exp x ++ code_exp y) (i_binary o ∷ []) k).0 in
    (b.0, b.1, known_proper x (known-front (code_exp x) (code_exp y) h), known_proper y (known-back (code_exp x) (code_exp y) h))
known_proper (choice x y z) k =
    let X = code_exp x in
    let Y = code_exp y in
    let Z = code_exp z in
    let h = known-front (X ++ Y ++ i_otherwise ∷ Z) (i_choice ∷ []) k in
    let xy = known-front (X ++ Y) (i_otherwise ∷ Z) h in
    (known_proper x (known-front X Y xy), known_proper y (known-back X Y xy), known_proper z (known-back (X ++ Y) (i_otherwise ∷ Z) h).1)

pub text_proper : (t : List ℕ) (a : Accepts t) {s : Shape} (e : Exp s) (front rest : List Item) → code a.tree ≡ front ++ (code_exp e ++ rest) → Proper e
text_proper t a e front rest within =
    known_proper e (known-front (code_exp e) rest (known-back front (code_exp e ++ rest) (subst AllKnown within (accepted_known t a.parts a.tree a.reads a.gram))))
