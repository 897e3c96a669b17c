-- Mechanism, of proofs alone: the words in which `phrase_starts` and `phrase_heights` (crate `link_phrases_proof`) speak of a tree's expressions.
-- Expressions of a tree as phrases of its code: where their items stand.
use Rattle.std.specs.Prelude.{◌≡◌, List, [], ◌∷◌, ℕ, suc, ◌≤◌, get_or}
use Rattle.spec_grammar.specs.Tree.{Shape, Exp, plain, indexed, num, tru, fls, get, query, unary, binary, choice}
use Rattle.spec_grammar.specs.Grammar.{IsUnary}
use Rattle.base_codes.specs.Items.{Item, code_of}

-- its operators are operators
abbrev pub Proper : {s : Shape} → Exp s → Type 0
Proper (plain w) = Unit {0}
Proper (indexed w e) = Proper e
Proper (num n) = Unit {0}
Proper tru = Unit {0}
Proper fls = Unit {0}
Proper (get r) = Proper r
Proper (query mk r) = Proper r
Proper (unary o e) = IsUnary o × Proper e
Proper (binary o a b) = (1 ≤ o) × (o ≤ 18) × Proper a × Proper b
Proper (choice a b c) = Proper a × Proper b × Proper c

-- these items stand at place i of a list of codes
abbrev pub At : List ℕ → ℕ → List Item → Type 0
At cs i [] = Unit {0}
At cs i (x ∷ l) = (get_or cs i 0 ≡ code_of x) × At cs (suc i) l
