-- LISTS OF ARGUMENTS have the faults of each argument, and the item that ends them has one where there are not as many as what began them asks for.
use Prim.Native.Nat.{ℕ, suc, ◌+◌, ◌-◌, ◌<◌}
use native.Mathlib.Omega.{arith}
use native.Mathlib.Decide.{dec_lt}
use mathlib.Core.Path.{◌≡◌, refl, sym, ap, ap₂, subst, ◌∙◌}
use mathlib.Core.Bool.{Bool, true, false}
use mathlib.Core.List.{List, [], ◌∷◌, ◌++◌, append-nil, map-append}
use lib.ListN.{length, get_or, length-map}
use lib.Dec.{eqb}
use borrow.Author.Tests.{ne_eqb, eq-eqb, lt-leb}
use Rattle.base_codes.specs.Codes.{c_argument, c_constant, c_end, c_equal, c_false, c_into, c_number, c_run, c_send, c_set_run, c_text, c_true}
use Rattle.base_bytes.specs.Choice.{pick}
use Rattle.base_bytes.proofs.Tests.{true_false}
use Rattle.base_kinds.specs.Kinds.{Token}
use Rattle.rule_sheets.specs.Walks.{after, sum}
use Rattle.rule_search.specs.Sets.{among}
use Rattle.rule_search.specs.Search.{last, opener, one, count}
use Rattle.rule_item.specs.Rules.{role_of, bad_count, bad_end, bad_by}
use Rattle.rule_least.specs.Faults.{place_by}
use Rattle.link_phrases_proof.proofs.Inside.{all_inside, phrase_inside, mark-outside, text-outside}
use Rattle.spec_grammar.specs.Tree.{Shape, Exp, Expr, Received, into, equal, exactly, exactly_true, exactly_false}
use Rattle.spec_grammar.specs.Grammar as gram
use Rattle.spec_grammar.specs.Grammar.{Listed, more, MaybeListed, no_list, a_list, Message, commas, call, AnExpression, AReceived, r_into, r_eval, r_number, r_true, r_false}
use Rattle.base_codes.specs.Items.{Item, code_of, i_argument, i_constant, i_end, i_equal, i_false, i_into, i_number, i_true}
use Rattle.base_codes.specs.Sets.{rule_of, is_part}
use Rattle.parse_code.specs.Code.{each, code_exp, code_argument, code_received}
use Rattle.parse_spots.specs.Spots.{Spot, items, spots_listed, spots_maybe, spots_message, spots_argument, spots_received}
use Rattle.parse_spots.proofs.Coded.{exp_code, listed-code, maybe_code, message-code}
use Rattle.spec_rules.specs.Senses.{Scope}
use Rattle.spec_rules.specs.Roles.{operand, received}
use Rattle.spec_rules.specs.Statements.{sense}
use Rattle.spec_faults.specs.Faults.{Faults, fault_at, in_list, in_maybe, in_message, nothing, in_argument, in_received}
use Rattle.legal_statements.specs.Scene.{Scene, homes, faults, StandsIn, SpotsIn}
use Rattle.legal_statements.proofs.Stands.{front, back, next, home, erased, code_at, code_of_lem, proper, faults-none, faults-both, faults-last, fault_by, free_first, free_one}
use Rattle.legal_statements.proofs.Phrases.{marked-fault, marked-behind, rules_none}

-- ---- items that begin no arguments, and how many mark one
abbrev Unopened : List Item → Type 0
Unopened [] = Unit {0}
Unopened (x ∷ l) = (among 4 (code_of x) ≡ false) × Unopened l

unfoldable marks : List Item → ℕ
marks [] = 0
marks (x ∷ l) = pick (among 5 (code_of x)) 1 0 + marks l

unopened_append : (x y : List Item) → Unopened x → Unopened y → Unopened (x ++ y)
unopened_append [] y a b = b
unopened_append (c ∷ x) y a b = (a.0, unopened_append x y a.1 b)

marks-append : (x y : List Item) → marks (x ++ y) ≡ marks x + marks y
unfolding marks
marks-append [] y = omega arith
marks-append (c ∷ x) y = let e = marks-append x y in omega arith

-- ---- in expressions none
pub inner_code : (c : ℕ) → is_part c ≡ true → (c < c_argument) × (c ≡ c_text → ⊥)
inner_code c e = (low (dec_lt c c_argument), λ z. true_false (sym e ∙ ap is_part z ∙ text-outside))
  where
    low : Dec (c < c_argument) → c < c_argument
    low (yes h) = h
    low (no h) = absurd (true_false (sym e ∙ mark-outside c (omega arith)))

inner_unopened : (c : ℕ) → c < c_argument → (c ≡ c_text → ⊥) → among 4 c ≡ false
unfolding among
inner_unopened c h g = rw (ne_eqb c c_text g, lt-leb c_send c (omega arith), lt-leb c_run c (omega arith)) refl

inner_unmarked : (c : ℕ) → c < c_argument → among 5 c ≡ false
unfolding among
inner_unmarked c h = rw (lt-leb c_argument c h) refl

parts_unopened : (l : List Item) → all_inside l → Unopened l
parts_unopened [] p = tt
parts_unopened (x ∷ l) p = let z = inner_code (code_of x) p.0 in (inner_unopened (code_of x) z.0 z.1, parts_unopened l p.1)

parts_unmarked : (l : List Item) → all_inside l → marks l ≡ 0
unfolding marks
parts_unmarked [] p = refl
parts_unmarked (x ∷ l) p = let z = inner_code (code_of x) p.0 in rw (inner_unmarked (code_of x) z.0) (let e = parts_unmarked l p.1 in omega arith)

-- ---- the marks of arguments
argument-marks : ((among 4 c_argument ≡ false) × (among 4 c_into ≡ false) × (among 4 c_equal ≡ false) × (among 4 c_constant ≡ false))
    × ((among 5 c_argument ≡ true) × (among 5 c_into ≡ true) × (among 5 c_equal ≡ true) × (among 5 c_constant ≡ true))
    × ((among 4 c_number ≡ false) × (among 4 c_true ≡ false) × (among 4 c_false ≡ false)) × ((among 5 c_number ≡ false) × (among 5 c_true ≡ false) × (among 5 c_false ≡ false))
unfolding among
argument-marks = ((refl, refl, refl, refl), (refl, refl, refl, refl), (refl, refl, refl), (refl, refl, refl))

mark_rules : (rule_of c_argument ≡ 2) × (rule_of c_into ≡ 2) × (rule_of c_equal ≡ 17) × (rule_of c_constant ≡ 0) × (rule_of c_end ≡ 16)
unfolding rule_of
mark_rules = (refl, refl, refl, refl, refl)

mark_roles : (role_of c_argument ≡ 0) × (role_of c_into ≡ 3) × (role_of c_equal ≡ 0)
unfolding role_of
mark_roles = (refl, refl, refl)

marked-one : {s : Shape} (e : Exp s) (x : Item) → all_inside (code_exp e) → among 4 (code_of x) ≡ false → among 5 (code_of x) ≡ true → Unopened (code_exp e ++ x ∷ [])
    × (marks (code_exp e ++ x ∷ []) ≡ 1)
unfolding marks
marked-one e x p a b = (
  unopened_append (code_exp e) (x ∷ []) (parts_unopened (code_exp e) p) (a, tt),
  marks-append (code_exp e) (x ∷ []) ∙ ap₂ ◌+◌ (parts_unmarked (code_exp e) p) (ap (λ (t : Bool). pick t 1 0 + 0) b),
)

marked-two : (y x : Item) → among 4 (code_of y) ≡ false → among 5 (code_of y) ≡ false → among 4 (code_of x) ≡ false → among 5 (code_of x) ≡ true → Unopened (y ∷ x ∷ []) × (marks (y ∷ x ∷ []) ≡ 1)
unfolding marks
marked-two y x a b c d = ((a, (c, tt)), rw (b, d) refl)

-- ---- the items of arguments without their tokens
argument-code : (ts : List Token) (e : Expr) (x : AnExpression ts e) (n : ℕ) → items (spots_argument ts e x n) ≡ code_argument e
argument-code ts e x n = simp (map-append, exp_code x n)

received-code : (ts : List Token) (r : Received) (x : AReceived ts r) (n : ℕ) → items (spots_received ts r x n) ≡ code_received r
received-code _ _ (r_into x) n = simp (map-append, exp_code x n)
received-code _ _ (r_eval x) n = simp (map-append, exp_code x (n + 2))
received-code _ _ r_number n = refl
received-code _ _ r_true n = refl
received-code _ _ r_false n = refl

module _ (S : Scene) where
  -- ---- walks over items
  last_step : (i : ℕ) → last S.cs 4 (suc i) ≡ pick (among 4 (get_or S.cs i 0)) (suc i) (last S.cs 4 i)
  unfolding last after
  last_step i = refl

  last-over : (l : List Item) (i j : ℕ) → j ≡ i + length l → StandsIn S i l → Unopened l → last S.cs 4 j ≡ last S.cs 4 i
  last-over [] i j e s u = ap (last S.cs 4) (let z : j ≡ i = omega arith in z)
  last-over (x ∷ l) i j e s u =
      last-over l (suc i) j (omega arith) (next S x l i s) u.1 ∙ last_step i ∙ ap (λ (b : Bool). pick b (suc i) (last S.cs 4 i)) (ap (among 4) (code_at S x l i s) ∙ u.0)

  one_is : (x : Item) (l : List Item) (i : ℕ) → StandsIn S i (x ∷ l) → one S.cs (homes S) 5 S.h i ≡ pick (among 5 (code_of x)) 1 0
  unfolding one
  one_is x l i s =
      rw (code_at S x l i s, eq-eqb (get_or (homes S) i 0) S.h (home S x l i s)) refl

  sum-marks : (l : List Item) (i : ℕ) → StandsIn S i l → sum (one S.cs (homes S) 5 S.h) i (length l) ≡ marks l
  unfolding sum marks
  sum-marks [] i s = refl
  sum-marks (x ∷ l) i s =
      ap₂ ◌+◌ (one_is x l i s) (ap (λ n. sum (one S.cs (homes S) 5 S.h) n (length l)) (let z : i + 1 ≡ suc i = omega arith in z) ∙ sum-marks l (suc i) (next S x l i s))

  count-marks : (x : Item) (l : List Item) (k j : ℕ) → j ≡ suc k + length l → StandsIn S k (x ∷ l) → count S.cs (homes S) 5 S.h k j ≡ marks (x ∷ l)
  unfolding count
  count-marks x l k j e s = ap (sum (one S.cs (homes S) 5 S.h) k) (let z : j - k ≡ suc (length l) = omega arith in z) ∙ sum-marks (x ∷ l) k s

  -- ---- one argument
  argument-fault : (scope : Scope) (ts : List Token) (e : Expr) (x : AnExpression ts e) (i n : ℕ) → SpotsIn S i (spots_argument ts e x n)
      → faults S i (spots_argument ts e x n) ≡ in_argument (sense S.at) scope ts e x n
  argument-fault scope ts e x i n s = marked-fault S x operand i_argument i n s mark_roles.0 mark_rules.0

  argument-one : (e : Expr) (i : ℕ) → StandsIn S i (code_argument e) → Unopened (code_argument e) × (marks (code_argument e) ≡ 1)
  argument-one e i s = marked-one e i_argument (phrase_inside e (proper S e i (front S (code_exp e) (i_argument ∷ []) i s))) argument-marks.0.0 argument-marks.1.0

  constant-fault : (x : Item) (i n : ℕ) → rule_of (code_of x) ≡ 0 → SpotsIn S i ((x, n) ∷ (i_constant, n) ∷ []) → faults S i ((x, n) ∷ (i_constant, n) ∷ []) ≡ []
  constant-fault x i n r s =
      let a : Spot = (x, n) in
      let c : Spot = (i_constant, n) in
      free_first S a (c ∷ []) i s r ∙ free_one S c (suc i) (next S a (c ∷ []) i s) mark_rules.3

  received-fault : (scope : Scope) (ts : List Token) (r : Received) (x : AReceived ts r) (i n : ℕ) → SpotsIn S i (spots_received ts r x n)
      → faults S i (spots_received ts r x n) ≡ in_received (sense S.at) scope ts r x n
  received-fault scope _ _ (r_into x) i n s = marked-fault S x received i_into i n s mark_roles.1 mark_rules.1
  received-fault scope _ _ (r_eval x) i n s = marked-behind S x i_equal i n s mark_roles.2 mark_rules.2
  received-fault scope _ _ (r_number {n = v}) i n s = constant-fault (i_number v) i n rules_none.1 s
  received-fault scope _ _ r_true i n s = constant-fault i_true i n rules_none.2 s
  received-fault scope _ _ r_false i n s = constant-fault i_false i n rules_none.3 s

  received-one : (x : Received) (i : ℕ) → StandsIn S i (code_received x) → Unopened (code_received x) × (marks (code_received x) ≡ 1)
  received-one (into r) i s = marked-one r i_into (phrase_inside r (proper S r i (front S (code_exp r) (i_into ∷ []) i s))) argument-marks.0.1 argument-marks.1.1
  received-one (equal e) i s = marked-one e i_equal (phrase_inside e (proper S e i (front S (code_exp e) (i_equal ∷ []) i s))) argument-marks.0.2 argument-marks.1.2
  received-one (exactly n) i s = marked-two (i_number n) i_constant argument-marks.2.0 argument-marks.3.0 argument-marks.0.3 argument-marks.1.3
  received-one exactly_true i s = marked-two i_true i_constant argument-marks.2.1 argument-marks.3.1 argument-marks.0.3 argument-marks.1.3
  received-one exactly_false i s = marked-two i_false i_constant argument-marks.2.2 argument-marks.3.2 argument-marks.0.3 argument-marks.1.3

  -- ---- lists of them
  module _ {A : Type 0} (X : List Token → A → Type 0) (f : (ts : List Token) (a : A) → X ts a → ℕ → List Spot) (g : Scope → (ts : List Token) (a : A) → X ts a → ℕ → Faults)
      (judged : (scope : Scope) (ts : List Token) (a : A) (x : X ts a) (i n : ℕ) → SpotsIn S i (f ts a x n) → faults S i (f ts a x n) ≡ g scope ts a x n) where
    two-faults : {ts : List Token} {a : A} (x : X ts a) (r : List Spot) (scope : Scope) (i n : ℕ) {h : Faults} → SpotsIn S i (f ts a x n ++ r) → ((k : ℕ) → SpotsIn S k r → faults S k r ≡ h)
        → faults S i (f ts a x n ++ r) ≡ g scope ts a x n ++ h
    two-faults {ts} {a} x r scope i n s h =
        let F = f ts a x n in
        let k = i + length F in
        faults-both S F r i k refl (judged scope ts a x i n (front S F r i s)) (h k (back S F r i k refl s))

    listed-fault : {s : Token} {ts : List Token} {l : List A} (x : Listed s X ts l) (scope : Scope) (i n : ℕ) → SpotsIn S i (spots_listed X f x n)
        → faults S i (spots_listed X f x n) ≡ in_list X g nothing scope x n
    unfolding in_list
    listed-fault (gram.one {ts = ts} {a = a} x) scope i n s = ap (faults S i) (append-nil (f ts a x n)) ∙ judged scope ts a x i n (front S (f ts a x n) [] i s)
    listed-fault (more {ts = ts} {a = a} x y) scope i n s = two-faults x (spots_listed X f y (n + length ts + 1)) scope i n s (λ k t. listed-fault y (scope ++ []) k (n + length ts + 1) t)

    maybe_fault : {s : Token} {ts : List Token} {l : List A} (x : MaybeListed s X ts l) (scope : Scope) (i n : ℕ) → SpotsIn S i (spots_maybe X f x n)
        → faults S i (spots_maybe X f x n) ≡ in_maybe X g nothing scope x n
    unfolding in_maybe
    maybe_fault no_list scope i n s = faults-none S i
    maybe_fault (a_list x) scope i n s = listed-fault x scope i n s

    message-fault : {ts : List Token} {l : List A} (x : Message X ts l) (scope : Scope) (i n : ℕ) → SpotsIn S i (spots_message X f x n)
        → faults S i (spots_message X f x n) ≡ in_message X g nothing scope x n
    unfolding in_message
    message-fault (commas x) scope i n s = listed-fault x scope i n s
    message-fault (call {ts = ts} {a = a} x y) scope i n s = two-faults x (spots_listed X f y (n + length ts + 1)) scope i n s (λ k t. listed-fault y (scope ++ []) k (n + length ts + 1) t)

  -- these are the items of such a list, and wherever they stand they have these faults
  abbrev pub Told : {A : Type 0} → (A → List Item) → List Spot → List A → Faults → Type 0
  Told f M l g = (items M ≡ each f l) × ((i : ℕ) → SpotsIn S i M → faults S i M ≡ g)

  module _ {A : Type 0} (f : A → List Item) (single : (a : A) (i : ℕ) → StandsIn S i (f a) → Unopened (f a) × (marks (f a) ≡ 1)) where
    each_unopened : (l : List A) (i : ℕ) → StandsIn S i (each f l) → Unopened (each f l)
    each_unopened [] i s = tt
    each_unopened (a ∷ l) i s =
        unopened_append (f a) (each f l) (single a i (front S (f a) (each f l) i s)).0 (each_unopened l (i + length (f a)) (back S (f a) (each f l) i (i + length (f a)) refl s))

    each-marks : (l : List A) (i : ℕ) → StandsIn S i (each f l) → marks (each f l) ≡ length l
    unfolding marks
    each-marks [] i s = refl
    each-marks (a ∷ l) i s =
        marks-append (f a) (each f l)
        ∙ ap₂ ◌+◌ (single a i (front S (f a) (each f l) i s)).1 (each-marks l (i + length (f a)) (back S (f a) (each f l) i (i + length (f a)) refl s)) ∙ omega arith

    -- the item that ends them, behind what began them
    end_fault : (x : Spot) (M : List Spot) (l : List A) (t k b p : ℕ) {g : Faults} → SpotsIn S k (x ∷ (M ++ (i_end, t) ∷ [])) → Told f M l g → among 4 (code_of x.0) ≡ true
        → among 5 (code_of x.0) ≡ false → bad_count S.cs S.vs (homes S) k (length l) ≡ b
        → pick (eqb (code_of x.0) c_set_run) (get_or S.toks (k - 2) 0) t ≡ p → faults S (suc k) (M ++ (i_end, t) ∷ []) ≡ g ++ fault_at b p
    unfolding bad_by bad_end opener marks place_by
    end_fault x M l t k b p s told o n c q =
        let L = each f l in
        let y = x.0 in
        let m : Spot = (i_end, t) in
        let j = suc k + length M in
        let e = told.0 in
        let z : items (M ++ m ∷ []) ≡ L ++ i_end ∷ [] = simp (map-append, e) in
        let many : length M ≡ length L = sym (length-map M (λ (x : Spot). x.0)) ∙ ap length e in
        let stands : StandsIn S k (y ∷ (L ++ i_end ∷ [])) = subst (λ (l : List Item). StandsIn S k (y ∷ l)) z (erased S (x ∷ (M ++ m ∷ [])) k s) in
        let L-stands = front S L (i_end ∷ []) (suc k) (next S y (L ++ i_end ∷ []) k stands) in
        let after-x = next S x (M ++ m ∷ []) k s in
        let ends = back S M (m ∷ []) (suc k) j refl after-x in
        let it = code_at S y (L ++ i_end ∷ []) k stands in
        let open' : last S.cs 4 j - 1 ≡ k =
        ap (◌- 1) (last-over L (suc k) j (omega arith) L-stands (each_unopened l (suc k) L-stands) ∙ last_step k ∙ ap (λ (b : Bool). pick b (suc k) (last S.cs 4 k)) (ap (among 4) it ∙ o))
        ∙ omega arith in
        let counted : count S.cs (homes S) 5 S.h k j ≡ length l =
        count-marks y L k j (omega arith) (front S (y ∷ L) (i_end ∷ []) k stands) ∙ rw (n, each-marks l (suc k) L-stands) (omega arith) in
        faults-last S M m (suc k) j refl (told.1 (suc k) (front S M (m ∷ []) (suc k) after-x))
        (fault_by S j c_end 16 b p (code_of_lem S m [] j ends) mark_rules.4 (rw (open', home S m [] j ends, counted) c) (rw (open', it, ends.items.0.1) q))

  -- arguments, and received ones
  module _ (x : Spot) (M : List Spot) where
    pub arguments-fault : (l : List Expr) (t k b p : ℕ) {g : Faults} → SpotsIn S k (x ∷ (M ++ (i_end, t) ∷ [])) → Told code_argument M l g → among 4 (code_of x.0) ≡ true
        → among 5 (code_of x.0) ≡ false → bad_count S.cs S.vs (homes S) k (length l) ≡ b
        → pick (eqb (code_of x.0) c_set_run) (get_or S.toks (k - 2) 0) t ≡ p → faults S (suc k) (M ++ (i_end, t) ∷ []) ≡ g ++ fault_at b p
    arguments-fault = end_fault code_argument argument-one x M

    pub receiveds_fault : (l : List Received) (t k b p : ℕ) {g : Faults} → SpotsIn S k (x ∷ (M ++ (i_end, t) ∷ [])) → Told code_received M l g → among 4 (code_of x.0) ≡ true
        → among 5 (code_of x.0) ≡ false → bad_count S.cs S.vs (homes S) k (length l) ≡ b
        → pick (eqb (code_of x.0) c_set_run) (get_or S.toks (k - 2) 0) t ≡ p → faults S (suc k) (M ++ (i_end, t) ∷ []) ≡ g ++ fault_at b p
    receiveds_fault = end_fault code_received received-one x M

  pub listed-arguments : {s : Token} {ts : List Token} {es : List Expr} (x : Listed s AnExpression ts es) (n : ℕ)
      → Told code_argument (spots_listed AnExpression spots_argument x n) es (in_list AnExpression (in_argument (sense S.at)) nothing [] x n)
  listed-arguments x n =
      (listed-code AnExpression spots_argument code_argument argument-code x n, λ i s. listed-fault AnExpression spots_argument (in_argument (sense S.at)) argument-fault x [] i n s)

  pub maybe_arguments : {s : Token} {ts : List Token} {es : List Expr} (x : MaybeListed s AnExpression ts es) (n : ℕ)
      → Told code_argument (spots_maybe AnExpression spots_argument x n) es (in_maybe AnExpression (in_argument (sense S.at)) nothing [] x n)
  maybe_arguments x n =
      (maybe_code AnExpression spots_argument code_argument argument-code x n, λ i s. maybe_fault AnExpression spots_argument (in_argument (sense S.at)) argument-fault x [] i n s)

  pub message-arguments : {ts : List Token} {es : List Expr} (x : Message AnExpression ts es) (n : ℕ)
      → Told code_argument (spots_message AnExpression spots_argument x n) es (in_message AnExpression (in_argument (sense S.at)) nothing [] x n)
  message-arguments x n =
      (message-code AnExpression spots_argument code_argument argument-code x n, λ i s. message-fault AnExpression spots_argument (in_argument (sense S.at)) argument-fault x [] i n s)

  pub message_receiveds : {ts : List Token} {rs : List Received} (x : Message AReceived ts rs) (n : ℕ)
      → Told code_received (spots_message AReceived spots_received x n) rs (in_message AReceived (in_received (sense S.at)) nothing [] x n)
  message_receiveds x n =
      (message-code AReceived spots_received code_received received-code x n, λ i s. message-fault AReceived spots_received (in_received (sense S.at)) received-fault x [] i n s)
