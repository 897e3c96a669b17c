-- LISTS OF ARGUMENTS, of sends and receives, formats and `run`.
use Prim.Native.Nat.{ℕ, suc, ◌+◌, ◌-◌}
use native.Mathlib.Omega.{arith}
use mathlib.Core.Path.{◌≡◌, refl, sym as inv, ◌∙◌, ap}
use mathlib.Core.Bool.{Bool, true, false}
use mathlib.Core.Logic.{◌⊎◌, inl, inr}
use mathlib.Core.List.{List, [], ◌∷◌, ◌++◌, append_assoc}
use lib.ListN.{length, get_or, length-append}
use borrow.Author.Tests.{ne_eqb}
use Rattle.base_codes.specs.Codes.{c_argument, c_constant, c_equal, c_into, c_receive, c_run, c_send, c_set_run, c_text}
use Rattle.base_bytes.specs.Choice.{pick}
use Rattle.base_kinds.specs.Kinds.{Token}
use Rattle.spec_grammar.specs.Marks.{'comma}
use Rattle.spec_grammar.specs.Tree.{Shape, Exp, plain, indexed, num, tru, fls, get, query, unary, binary, choice, Expr, Received, into, equal, exactly, exactly_true, exactly_false}
use Rattle.base_codes.specs.Items.{Item, code_of, i_argument, i_binary, i_choice, i_equal, i_index, i_into, i_query, i_otherwise, i_unary}
use Rattle.parse_code.specs.Code.{each, code_exp, code_argument, code_received}
use Rattle.spec_grammar.specs.Print.{print_whole, print_received, further, join}
use Rattle.table_entries.specs.Items.{entry_of}
use Rattle.write_rows.specs.Rules.{rows}
use Rattle.write_texts.specs.Turning.{cell, row_from, row_of, laid, turned, after}
use Rattle.write_reprint_proof.specs.Here.{flagged, Here}
use Rattle.write_reprint_proof.proofs.Walk.{W, emit, go, here-front, here_back}
use Rattle.write_reprint_proof.proofs.Expressions.{walk_exp, sane_binary, sane_unary}

-- a separator, if something is behind
abbrev pub sep : Bool → Token → List Token
sep f t = pick f (t ∷ []) []

abbrev pub some : {A : Type 0} → List A → Bool
some [] = false
some (a ∷ l) = true

-- the symbol of arguments
abbrev pub args : Bool → ℕ
args f = pick f 133 132

-- ---- expressions have no head of arguments in them
pub flagged-append : (x y : List Item) (b : Bool) → flagged b (x ++ y) ≡ flagged (flagged b x) y
flagged-append [] y b = refl
flagged-append (a ∷ x) y b = flagged-append x y (after b (entry_of a).code)

unflagged : (c : ℕ) (b : Bool) → (c ≡ c_send → ⊥) → (c ≡ c_receive → ⊥) → (c ≡ c_text → ⊥) → (c ≡ c_run → ⊥) → (c ≡ c_set_run → ⊥) → after b c ≡ b
unflagged c b p q r s t = rw (ne_eqb c c_send p, ne_eqb c c_receive q, ne_eqb c c_text r, ne_eqb c c_run s, ne_eqb c c_set_run t)

module _ (h : ℕ → Token) (ms : List ℕ) where
  pub flag_exp : {s : Shape} (e : Exp s) (f : Bool) (i : ℕ) → Here h ms f i (code_exp e) → (b : Bool) → flagged b (code_exp e) ≡ b
  flag_exp (plain w) f i p b = refl
  flag_exp (num n) f i p b = refl
  flag_exp tru f i p b = refl
  flag_exp fls f i p b = refl
  flag_exp (get r) f i p b = flag_exp r f i p b
  flag_exp (indexed w e) f i p b = flagged-append (code_exp e) (i_index ∷ []) b ∙ flag_exp e f (suc i) (here-front h ms (code_exp e) (i_index ∷ []) f (suc i) p.3) b
  flag_exp (query mk r) f i p b = flagged-append (code_exp r) (i_query mk ∷ []) b ∙ flag_exp r f i (here-front h ms (code_exp r) (i_query mk ∷ []) f i p) b
  flag_exp (unary o e) f i p b =
      let x = here_back h ms (code_exp e) (i_unary o ∷ []) f i (i + length (code_exp e)) refl p in
      flagged-append (code_exp e) (i_unary o ∷ []) b ∙ by (sane_unary o x.2) (flagged b (code_exp e)) ∙ flag_exp e f i (here-front h ms (code_exp e) (i_unary o ∷ []) f i p) b
    where
      by : (o ≡ 15) ⊎ ((o ≡ 19) ⊎ (o ≡ 20)) → (b : Bool) → after b (code_of (i_unary o)) ≡ b
      by (inl q) b = rw q refl
      by (inr (inl q)) b = rw q refl
      by (inr (inr q)) b = rw q refl
  flag_exp (binary o c d) f i p b =
      let A = code_exp c in
      let B = code_exp d in
      let ab = here-front h ms (A ++ B) (i_binary o ∷ []) f i p in
      let x = here_back h ms (A ++ B) (i_binary o ∷ []) f i (i + length (A ++ B)) refl p in
      let y = sane_binary o x.2 in
      flagged-append (A ++ B) (i_binary o ∷ []) b
      ∙ unflagged (146 + o) (flagged b (A ++ B)) (λ e. omega (arith, y.1)) (λ e. omega (arith, y.1)) (λ e. omega arith) (λ e. omega (arith, y.1)) (λ e. omega (arith, y.1))
      ∙ flagged-append A B b ∙ flag_exp d (flagged f A) (i + length A) (here_back h ms A B f i (i + length A) refl ab) (flagged b A) ∙ flag_exp c f i (here-front h ms A B f i ab) b
  flag_exp (choice c d e) f i p b =
      let A = code_exp c in
      let B = code_exp d in
      let C = code_exp e in
      let abc = here-front h ms (A ++ B ++ i_otherwise ∷ C) (i_choice ∷ []) f i p in
      let ab = here-front h ms (A ++ B) (i_otherwise ∷ C) f i abc in
      let oc = here_back h ms (A ++ B) (i_otherwise ∷ C) f i (i + length (A ++ B)) refl abc in
      flagged-append (A ++ B ++ i_otherwise ∷ C) (i_choice ∷ []) b ∙ flagged-append (A ++ B) (i_otherwise ∷ C) b
      ∙ flag_exp e (flagged f (A ++ B)) (suc (i + length (A ++ B))) oc.3 (flagged b (A ++ B))
      ∙ flagged-append A B b ∙ flag_exp d (flagged f A) (i + length A) (here_back h ms A B f i (i + length A) refl ab) (flagged b A) ∙ flag_exp c f i (here-front h ms A B f i ab) b

-- ---- lists of what may be an argument
pub sep-join : (s : Token) {A : Type 0} (f : A → List Token) (l : List A) → sep (some l) s ++ join s f l ≡ further s f l
sep-join s f [] = refl
sep-join s f (a ∷ l) = refl

module _ (h : ℕ → Token) (ms : List ℕ) (A : Type 0) (code-x : A → List Item) (print-x : A → List Token)
    (one : (x : A) (b : Bool) (i j : ℕ) → j ≡ i + length (code-x x) → Here h ms b i (code-x x) → (f : Bool) (st : List ℕ) (out : List Token)
    → W h ms j (args f ∷ st) out ≡ W h ms i (133 ∷ st) (print-x x ++ (sep f 'comma ++ out)))
    (flag : (x : A) (b : Bool) (i : ℕ) → Here h ms b i (code-x x) → (d : Bool) → flagged d (code-x x) ≡ d) where
  pub walk-list : (l : List A) (b : Bool) (i j : ℕ) → j ≡ i + length (each code-x l) → Here h ms b i (each code-x l) → (st : List ℕ) (out : List Token)
      → W h ms j (132 ∷ st) out ≡ W h ms i (args (some l) ∷ st) (join 'comma print-x l ++ out)
  walk-list [] b i j n p st out = let q : j ≡ i = omega arith in rw q refl
  walk-list (x ∷ l) b i j n p st out =
      let m = i + length (code-x x) in
      let t : length (code-x x ++ each code-x l) ≡ length (code-x x) + length (each code-x l) = length-append (code-x x) (each code-x l) in
      walk-list l (flagged b (code-x x)) m j (omega arith) (here_back h ms (code-x x) (each code-x l) b i m refl p) st out
      ∙ one x b i m refl (here-front h ms (code-x x) (each code-x l) b i p) (some l) st (join 'comma print-x l ++ out)
      ∙ ap (W h ms i (133 ∷ st)) (ap (print-x x ++◌) (inv (append_assoc (sep (some l) 'comma) (join 'comma print-x l) out) ∙ ap (◌++ out) (sep-join 'comma print-x l)) ∙ inv (append_assoc (print-x x) (further 'comma print-x l) out))

  pub flag_list : (l : List A) (b : Bool) (i : ℕ) → Here h ms b i (each code-x l) → (d : Bool) → flagged d (each code-x l) ≡ d
  flag_list [] b i p d = refl
  flag_list (x ∷ l) b i p d =
      flagged-append (code-x x) (each code-x l) d
      ∙ flag_list l (flagged b (code-x x)) (i + length (code-x x)) (here_back h ms (code-x x) (each code-x l) b i (i + length (code-x x)) refl p) (flagged d (code-x x))
      ∙ flag x b i (here-front h ms (code-x x) (each code-x l) b i p) d

-- ---- rows
module _ (i : ℕ) (st : List ℕ) where
  argument-rows : (turned 132 c_argument i st ≡ 101 ∷ 133 ∷ st) × (turned 133 c_argument i st ≡ 27 ∷ 101 ∷ 133 ∷ st)
  unfolding turned row_of row_from cell rows laid
  argument-rows = (refl, refl)

  into_rows : (turned 132 c_into i st ≡ 112 ∷ 133 ∷ st) × (turned 133 c_into i st ≡ 27 ∷ 112 ∷ 133 ∷ st)
  unfolding turned row_of row_from cell rows laid
  into_rows = (refl, refl)

  equal_rows : (turned 132 c_equal i st ≡ 22 ∷ 101 ∷ 21 ∷ 51 ∷ 133 ∷ st) × (turned 133 c_equal i st ≡ 27 ∷ 22 ∷ 101 ∷ 21 ∷ 51 ∷ 133 ∷ st)
  unfolding turned row_of row_from cell rows laid
  equal_rows = (refl, refl)

  constant-rows : (turned 132 c_constant i st ≡ 101 ∷ 133 ∷ st) × (turned 133 c_constant i st ≡ 27 ∷ 101 ∷ 133 ∷ st)
  unfolding turned row_of row_from cell rows laid
  constant-rows = (refl, refl)

module _ (h : ℕ → Token) (ms : List ℕ) where
  -- a comma is written behind an argument if one is there
  comma : (f : Bool) (j i c : ℕ) (st xs : List ℕ) (out : List Token) → j ≡ suc i → get_or ms i 0 ≡ c → (turned 132 c i st ≡ xs) × (turned 133 c i st ≡ 27 ∷ xs) → W h ms j (args f ∷ st) out ≡ W h ms i xs (sep f 'comma ++ out)
  comma false j i c st xs out n g r = go h ms j i 132 c st xs out n refl g r.0
  comma true j i c st xs out n g r = go h ms j i 133 c st (27 ∷ xs) out n refl g r.1 ∙ emit h ms 27 refl i xs out

  argument : (e : Expr) (b : Bool) (i j : ℕ) → j ≡ i + length (code_argument e) → Here h ms b i (code_argument e) → (f : Bool) (st : List ℕ) (out : List Token)
      → W h ms j (args f ∷ st) out ≡ W h ms i (133 ∷ st) (print_whole e ++ (sep f 'comma ++ out))
  argument e b i j n p f st out =
      let k = i + length (code_exp e) in
      let t : length (code_exp e ++ i_argument ∷ []) ≡ length (code_exp e) + 1 = length-append (code_exp e) (i_argument ∷ []) in
      comma f j k c_argument st (101 ∷ 133 ∷ st) out (omega arith) (here_back h ms (code_exp e) (i_argument ∷ []) b i k refl p).0 (argument-rows k st)
      ∙ walk_exp h ms e b i k 1 refl (here-front h ms (code_exp e) (i_argument ∷ []) b i p) (omega arith) (omega arith) _ _

  argument_flag : (e : Expr) (b : Bool) (i : ℕ) → Here h ms b i (code_argument e) → (d : Bool) → flagged d (code_argument e) ≡ d
  argument_flag e b i p d = flagged-append (code_exp e) (i_argument ∷ []) d ∙ flag_exp h ms e b i (here-front h ms (code_exp e) (i_argument ∷ []) b i p) d

  received : (x : Received) (b : Bool) (i j : ℕ) → j ≡ i + length (code_received x) → Here h ms b i (code_received x) → (f : Bool) (st : List ℕ) (out : List Token)
      → W h ms j (args f ∷ st) out ≡ W h ms i (133 ∷ st) (print_received x ++ (sep f 'comma ++ out))
  received (into r) b i j n p f st out =
      let k = i + length (code_exp r) in
      let t : length (code_exp r ++ i_into ∷ []) ≡ length (code_exp r) + 1 = length-append (code_exp r) (i_into ∷ []) in
      comma f j k c_into st (112 ∷ 133 ∷ st) out (omega arith) (here_back h ms (code_exp r) (i_into ∷ []) b i k refl p).0 (into_rows k st)
      ∙ walk_exp h ms r b i k 12 refl (here-front h ms (code_exp r) (i_into ∷ []) b i p) (omega arith) (omega arith) _ _
  received (equal e) b i j n p f st out =
      let k = i + length (code_exp e) in
      let t : length (code_exp e ++ i_equal ∷ []) ≡ length (code_exp e) + 1 = length-append (code_exp e) (i_equal ∷ []) in
      comma f j k c_equal st (22 ∷ 101 ∷ 21 ∷ 51 ∷ 133 ∷ st) out (omega arith) (here_back h ms (code_exp e) (i_equal ∷ []) b i k refl p).0 (equal_rows k st)
      ∙ emit h ms 22 refl _ _ _ ∙ walk_exp h ms e b i k 1 refl (here-front h ms (code_exp e) (i_equal ∷ []) b i p) (omega arith) (omega arith) _ _
      ∙ emit h ms 21 refl _ _ _ ∙ emit h ms 51 refl _ _ _ ∙ simp append_assoc
  received (exactly v) b i j n p f st out =
      comma f j (suc i) c_constant st (101 ∷ 133 ∷ st) out (omega arith) p.3.0 (constant-rows (suc i) st) ∙ walk_exp h ms (num v) b i (suc i) 1 (omega arith) (p.0, p.1, p.2, tt) (omega arith) (omega arith) _ _
  received exactly_true b i j n p f st out =
      comma f j (suc i) c_constant st (101 ∷ 133 ∷ st) out (omega arith) p.3.0 (constant-rows (suc i) st) ∙ walk_exp h ms tru b i (suc i) 1 (omega arith) (p.0, p.1, p.2, tt) (omega arith) (omega arith) _ _
  received exactly_false b i j n p f st out =
      comma f j (suc i) c_constant st (101 ∷ 133 ∷ st) out (omega arith) p.3.0 (constant-rows (suc i) st) ∙ walk_exp h ms fls b i (suc i) 1 (omega arith) (p.0, p.1, p.2, tt) (omega arith) (omega arith) _ _

  received_flag : (x : Received) (b : Bool) (i : ℕ) → Here h ms b i (code_received x) → (d : Bool) → flagged d (code_received x) ≡ d
  received_flag (into r) b i p d = flagged-append (code_exp r) (i_into ∷ []) d ∙ flag_exp h ms r b i (here-front h ms (code_exp r) (i_into ∷ []) b i p) d
  received_flag (equal e) b i p d = flagged-append (code_exp e) (i_equal ∷ []) d ∙ flag_exp h ms e b i (here-front h ms (code_exp e) (i_equal ∷ []) b i p) d
  received_flag (exactly v) b i p d = refl
  received_flag exactly_true b i p d = refl
  received_flag exactly_false b i p d = refl

  pub walk-arguments : (l : List Expr) (b : Bool) (i j : ℕ) → j ≡ i + length (each code_argument l) → Here h ms b i (each code_argument l) → (st : List ℕ) (out : List Token)
      → W h ms j (132 ∷ st) out ≡ W h ms i (args (some l) ∷ st) (join 'comma print_whole l ++ out)
  walk-arguments l = walk-list h ms Expr code_argument print_whole argument argument_flag l

  pub flag_arguments : (l : List Expr) (b : Bool) (i : ℕ) → Here h ms b i (each code_argument l) → (d : Bool) → flagged d (each code_argument l) ≡ d
  flag_arguments l = flag_list h ms Expr code_argument print_whole argument argument_flag l

  pub walk-received : (l : List Received) (b : Bool) (i j : ℕ) → j ≡ i + length (each code_received l) → Here h ms b i (each code_received l) → (st : List ℕ) (out : List Token)
      → W h ms j (132 ∷ st) out ≡ W h ms i (args (some l) ∷ st) (join 'comma print_received l ++ out)
  walk-received l = walk-list h ms Received code_received print_received received received_flag l

  pub flag_received : (l : List Received) (b : Bool) (i : ℕ) → Here h ms b i (each code_received l) → (d : Bool) → flagged d (each code_received l) ≡ d
  flag_received l = flag_list h ms Received code_received print_received received received_flag l
