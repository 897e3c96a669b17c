-- WHAT EXPRESSIONS ARE MADE OF: every item of one is an expression's item, and no mark that stands behind a whole one is. Where the expressions of a list of items stand.
use Prim.Native.Nat.{ℕ, suc, ◌+◌, ◌≤◌}
use native.Mathlib.Omega.{arith}
use mathlib.Core.Path.{◌≡◌, refl}
use mathlib.Core.Bool.{true, false, Bool}
use mathlib.Core.List.{List, [], ◌∷◌, ◌++◌, map}
use lib.ListN.{length, length-append}
use lib.Seq.{get_or-append_seam}
use lib.Dec.{leb}
use borrow.Author.Tests.{le-leb, lt-leb}
use Rattle.base_codes.specs.Codes.{c_argument, c_choice, c_complement, c_name, c_number, c_or_else, c_plain, c_text}
use Rattle.base_codes.specs.Sets.{is_part}
use Rattle.base_bytes.specs.Choice.{either, both}
use Rattle.spec_grammar.specs.Tree.{Shape, Exp, plain, indexed, num, tru, fls, get, query, unary, binary, choice}
use Rattle.spec_grammar.specs.Grammar.{IsUnary, is_minus, is_not, is_flip}
use Rattle.base_codes.specs.Items.{Item, code_of, i_binary, i_choice, i_index, i_query, i_otherwise, i_unary}
use Rattle.parse_code.specs.Code.{code_exp}
use Rattle.link_phrases_proof.specs.Phrases.{Proper, At}

abbrev pub all_inside : List Item → Type 0
all_inside [] = Unit {0}
all_inside (x ∷ l) = (is_part (code_of x) ≡ true) × all_inside l

inside-append : (x y : List Item) → all_inside x → all_inside y → all_inside (x ++ y)
inside-append [] y a b = b
inside-append (c ∷ x) y a b = (a.0, inside-append x y a.1 b)

unary_inside : {o : ℕ} → IsUnary o → is_part (code_of (i_unary o)) ≡ true
unfolding is_part
unary_inside is_minus = refl
unary_inside is_not = refl
unary_inside is_flip = refl

binary_inside : (o : ℕ) → 1 ≤ o → o ≤ 18 → is_part (code_of (i_binary o)) ≡ true
unfolding is_part
binary_inside o a b = rw (lt-leb (146 + o) c_number (omega arith), le-leb c_or_else (146 + o) (omega arith), le-leb (146 + o) c_complement (omega arith)) (no_matter (leb c_name (146 + o)))
  where
    no_matter : (x : Bool) → either (both x false) true ≡ true
    no_matter true = refl
    no_matter false = refl

pub phrase_inside : {s : Shape} (e : Exp s) → Proper e → all_inside (code_exp e)
unfolding is_part
phrase_inside (plain w) p = (refl, (refl, tt))
phrase_inside (indexed w e) p = (refl, inside-append (code_exp e) (i_index ∷ []) (phrase_inside e p) (refl, tt))
phrase_inside (num n) p = (refl, tt)
phrase_inside tru p = (refl, tt)
phrase_inside fls p = (refl, tt)
phrase_inside (get r) p = phrase_inside r p
phrase_inside (query mk r) p = inside-append (code_exp r) (i_query mk ∷ []) (phrase_inside r p) (refl, tt)
phrase_inside (unary o e) p = inside-append (code_exp e) (i_unary o ∷ []) (phrase_inside e p.1) (unary_inside p.0, tt)
phrase_inside (binary o a b) p =
    inside-append (code_exp a ++ code_exp b) (i_binary o ∷ []) (inside-append (code_exp a) (code_exp b) (phrase_inside a p.2) (phrase_inside b p.3)) (binary_inside o p.0 p.1, tt)
phrase_inside (choice a b c) p =
    inside-append (code_exp a ++ code_exp b ++ i_otherwise ∷ code_exp c) (i_choice ∷ [])
    (inside-append (code_exp a ++ code_exp b) (i_otherwise ∷ code_exp c) (inside-append (code_exp a) (code_exp b) (phrase_inside a p.0) (phrase_inside b p.1)) (refl, phrase_inside c p.2))
    (refl, tt)

-- 183 argument to 228 end-body: every other mark
pub mark-outside : (c : ℕ) → c_argument ≤ c → is_part c ≡ false
unfolding is_part
mark-outside c h = rw (le-leb c_name c (omega arith), lt-leb c c_number (omega arith), le-leb c_or_else c (omega arith), lt-leb c c_complement (omega arith), le-leb c_plain c (omega arith), lt-leb c c_choice (omega arith))

-- strings
pub text-outside : is_part c_text ≡ false
unfolding is_part
text-outside = refl

-- ---- the place of items in the codes of a list of items
regroup : (p : List ℕ) (b : ℕ) (q : List ℕ) → (p ++ b ∷ []) ++ q ≡ p ++ b ∷ q
regroup [] b q = refl
regroup (c ∷ p) b q = rw (regroup p b q)

pub stands : (pre : List ℕ) (x rest : List Item) (i : ℕ) → i ≡ length pre → At (pre ++ map code_of (x ++ rest)) i x
stands pre [] rest i e = tt
stands pre (a ∷ x) rest i e = (
  rw e (get_or-append_seam pre (code_of a) (map code_of (x ++ rest)) 0),
  rw (regroup pre (code_of a) (map code_of (x ++ rest))) at (stands (pre ++ code_of a ∷ []) x rest (suc i) (omega (arith, length-append pre (code_of a ∷ [])))),
)
