-- The first item of a statement is a place, and behind a label the item that follows it; declarations and labels are none.
use Prim.Native.Nat.{ℕ, suc, ◌+◌, ◌-◌, ◌≤◌, ◌<◌}
use native.Mathlib.Omega.{arith}
use mathlib.Core.Path.{◌≡◌, refl, sym, ap, ◌∙◌, subst}
use mathlib.Core.Option.{Option, none as no_size, some as a-size}
use mathlib.Core.Bool.{Bool, true, false}
use mathlib.Core.List.{List, [], ◌∷◌, ◌++◌}
use lib.ListN.{length, get_or, length-append}
use lib.Dec.{eqb}
use borrow.Author.Tests.{eq-eqb, ne_eqb, lt-leb}
use Rattle.base_codes.specs.Codes.{c_break, c_do, c_end_body, c_end_option, c_if, c_label, c_name, c_skip, c_text}
use Rattle.base_bytes.specs.Choice.{pick, both, either}
use Rattle.base_bytes.proofs.Tests.{true_false, both_no}
use Rattle.rule_sheets.proofs.Walks.{first_stop, first_more}
use Rattle.spec_grammar.specs.Tree.{Name, action, statement, Tree, leaf, select, loop, bare, labelled, Value, unset, set_number, set_minus, set_true, set_false, set_name, set_channel, Variable, variable, Declaration, declare}
use Rattle.base_codes.specs.Items.{Item, code_of, i_channel, i_declared, i_false, i_field, i_label, i_local, i_minus, i_name, i_named, i_number, i_size, i_true, i_type, i_value}
use Rattle.base_codes.specs.Sets.{is_part, is_alone, is_lead}
use Rattle.parse_code.specs.Code.{each, code_tree, code_field, code_size, code_value, code_variable, code_declaration}
use Rattle.table_entries.specs.Items.{AllKnown}
use Rattle.link_places.specs.Places.{is_mark, mark_from, mark_of, is_place, is_stop, place_from}
use Rattle.link_phrases_proof.specs.Phrases.{At}
use Rattle.link_phrases_proof.proofs.Starts.{at_back}
use Rattle.agree_eval.proofs.Operators.{known-front, known-back}
use Rattle.spec_machine.specs.Sizes.{size_in}
use Rattle.agree_sizes.proofs.Sizes.{size_tree}
use Rattle.spec_machine.specs.Program.{place_in}
use Rattle.agree_eval.proofs.Ranges.{Every, InPart}
use Rattle.agree_nesting.proofs.Leaves.{quiet, part_low, Phrases, none, said, phrases_append, Leafy, led, alone, leafy}
use Rattle.agree_control.proofs.Insides.{Still, type_still}

-- ---- what is no stop, and what is one
quiet-says : (c : ℕ) → quiet c ≡ true → (is_part c ≡ false) × (is_alone c ≡ false) × (eqb c c_end_body ≡ false)
unfolding quiet
quiet-says c = go (is_part c) (is_alone c) (eqb c c_end_body)
  where
    go : (x y z : Bool) → pick x false (pick y false (pick z false true)) ≡ true → (x ≡ false) × (y ≡ false) × (z ≡ false)
    go true y z e = absurd (true_false (sym e))
    go false true z e = absurd (true_false (sym e))
    go false false true e = absurd (true_false (sym e))
    go false false false e = (refl, refl, refl)

pub quiet-mark : (c : ℕ) → quiet c ≡ true → is_mark c ≡ true
quiet-mark c q = ap (λ b. pick b false true) (quiet-says c q).0

-- a part of an expression is no statement of its own, and no end of a body
pub part_else : (c : ℕ) → is_part c ≡ true → (is_alone c ≡ false) × (eqb c c_end_body ≡ false)
unfolding is_alone
part_else c e =
    let h = part_low c e in
    let g = h.0 in
    (rw (ne_eqb c c_text h.1, ne_eqb c c_skip (λ z. omega arith), lt-leb c_break c (omega arith), ne_eqb c c_if (λ z. omega arith), ne_eqb c c_do (λ z. omega arith)), ne_eqb c c_end_body (λ z. omega arith))

module _ (cs : List ℕ) where
  place_here : (k : ℕ) → k < length cs → is_stop cs k ≡ true → place_from cs k ≡ k
  unfolding place_from
  place_here k h e = sym (first_stop (is_stop cs) k (length cs - k) (omega arith) refl e)

  place_on : (k : ℕ) → k < length cs → is_stop cs k ≡ false → place_from cs k ≡ place_from cs (k + 1)
  unfolding place_from
  place_on k h e = sym (first_more (is_stop cs) k (length cs) h refl e)

  pub end_here : (k : ℕ) → k < length cs → get_or cs k 0 ≡ c_end_body → place_from cs k ≡ k
  unfolding is_stop
  end_here k h e = place_here k h (rw (eq-eqb (get_or cs k 0) c_end_body e))

  pub stop_if : (p : ℕ) → is_place cs p ≡ true → is_stop cs p ≡ true
  unfolding is_stop
  stop_if p e = go (eqb (get_or cs p 0) c_end_body)
    where
      go : (b : Bool) → either b (is_place cs p) ≡ true
      go true = refl
      go false = e

  pub quiet-not : (k c : ℕ) → get_or cs k 0 ≡ c → quiet c ≡ true → is_stop cs k ≡ false
  unfolding is_stop is_place
  quiet-not k c e q = let z = quiet-says c q in rw (e, z.2, z.1, z.0)

  mark-here : (k : ℕ) → k < length cs → is_mark (get_or cs k 0) ≡ true → mark_from cs k ≡ k
  unfolding mark_from
  mark-here k h e = sym (first_stop (λ i. is_mark (get_or cs i 0)) k (length cs - k) (omega arith) refl e)

  mark_on : (k : ℕ) → k < length cs → is_mark (get_or cs k 0) ≡ false → mark_from cs k ≡ mark_from cs (k + 1)
  unfolding mark_from
  mark_on k h e = sym (first_more (λ i. is_mark (get_or cs i 0)) k (length cs) h refl e)

  -- a part of an expression whose mark is not that of a statement
  part_stop : (k c : ℕ) → get_or cs k 0 ≡ c → is_part c ≡ true → is_lead (get_or cs (mark_from cs (k + 1)) 0) ≡ false → is_stop cs k ≡ false
  unfolding is_stop is_place
  part_stop k c e p l = let z = part_else c p in rw (e, z.1, z.0, p) (both_no (is_mark (get_or cs (k - 1) 0)) l)

  part-not : (c : ℕ) → is_part c ≡ true → is_mark c ≡ false
  part-not c e = ap (λ b. pick b false true) e

  -- the mark behind parts of an expression
  mark-behind : (l : List Item) → Every InPart l → AllKnown l → (y : Item) (rest : List Item) → is_mark (code_of y) ≡ true
      → (k : ℕ) → At cs k (l ++ y ∷ rest) → k + length l < length cs → mark_from cs k ≡ k + length l
  mark-behind [] p a y rest m k h g = mark-here k (omega arith) (ap is_mark h.0 ∙ m) ∙ (let z : k ≡ k + 0 = omega arith in z)
  mark-behind (x ∷ l) p a y rest m k h g =
      mark_on k (omega arith) (ap is_mark h.0 ∙ part-not (code_of x) (p.0 a.0)) ∙ ap (mark_from cs) (let z : k + 1 ≡ suc k = omega arith in z)
      ∙ mark-behind l p.1 a.1 y rest m (suc k) h.1 (omega arith) ∙ (let z : suc k + length l ≡ k + suc (length l) = omega arith in z)

  -- the mark of the first of them
  mark_led : (x : Item) (l : List Item) → Every InPart (x ∷ l) → AllKnown (x ∷ l) → (y : Item) (rest : List Item) → is_mark (code_of y) ≡ true
      → (k : ℕ) → At cs k (x ∷ l ++ y ∷ rest) → k + suc (length l) < length cs → is_lead (get_or cs (mark_from cs (k + 1)) 0) ≡ is_lead (code_of y)
  mark_led x l p a y rest m k h g =
      ap (λ i. is_lead (get_or cs (mark_from cs i) 0)) (let z : k + 1 ≡ suc k = omega arith in z) ∙ ap (λ i. is_lead (get_or cs i 0)) (mark-behind l p.1 a.1 y rest m (suc k) h.1 (omega arith))
      ∙ ap is_lead (at_back cs l (y ∷ rest) (suc k) (suc k + length l) refl h.1).0

  parts_skip : (p : List Item) → Every InPart p → AllKnown p → (y : Item) (l : List Item) → Still (code_of y) → (k : ℕ) → At cs k (p ++ y ∷ l) → k + length p < length cs → place_from cs k ≡ place_from cs (k + length p)
  parts_skip [] e a y l q k h g = ap (place_from cs) (let z : k ≡ k + 0 = omega arith in z)
  parts_skip (x ∷ p) e a y l q k h g =
      place_on k (omega arith) (part_stop k (code_of x) h.0 (e.0 a.0) (mark_led x p e a y l (quiet-mark (code_of y) q.0) k h g ∙ q.1)) ∙ ap (place_from cs) (let z : k + 1 ≡ suc k = omega arith in z)
      ∙ parts_skip p e.1 a.1 y l q (suc k) h.1 (omega arith) ∙ ap (place_from cs) (let z : suc k + length p ≡ k + suc (length p) = omega arith in z)

-- ---- items among which there is no place, and no end of a body
abbrev pub Dull : List Item → Type 0
Dull l = Phrases Still l

module _ (cs : List ℕ) where
  pub dull_skip : {l : List Item} → Dull l → AllKnown l → (k : ℕ) → At cs k l → k + length l ≤ length cs → place_from cs k ≡ place_from cs (k + length l)
  dull_skip none a k h g = ap (place_from cs) (let z : k ≡ k + 0 = omega arith in z)
  dull_skip (said p y {l} e q d) a k h g =
      let n = length-append p (y ∷ l) in
      let j = k + length p in
      let b = at_back cs p (y ∷ l) k j refl h in
      parts_skip cs p e (known-front p (y ∷ l) a) y l q k h (omega arith) ∙ place_on cs j (omega arith) (quiet-not cs j (code_of y) b.0 q.0)
      ∙ ap (place_from cs) (let z : j + 1 ≡ suc j = omega arith in z) ∙ dull_skip d (known-back p (y ∷ l) a).1 (suc j) b.1 (omega arith)
      ∙ ap (place_from cs) (let z : suc j + length l ≡ k + length (p ++ y ∷ l) = omega arith in z)

  -- the last of them is a mark
  pub dull-last : {l : List Item} → Dull l → (k : ℕ) → is_mark (get_or cs k 0) ≡ true → At cs (suc k) l → is_mark (get_or cs (k + length l) 0) ≡ true
  dull-last none k m h = ap (λ i. is_mark (get_or cs i 0)) (let z : k + 0 ≡ k = omega arith in z) ∙ m
  dull-last (said p y {l} e q d) k m h =
      let n = length-append p (y ∷ l) in
      let b = at_back cs p (y ∷ l) (suc k) (suc k + length p) refl h in
      ap (λ i. is_mark (get_or cs i 0)) (let z : k + length (p ++ y ∷ l) ≡ suc k + length p + length l = omega arith in z)
      ∙ dull-last d (suc k + length p) (ap is_mark b.0 ∙ quiet-mark (code_of y) q.0) b.1

-- ---- declarations
pub dull-each : {A : Type 0} (f : A → List Item) → ((a : A) → AllKnown (f a) → Dull (f a)) → (l : List A) → AllKnown (each f l) → Dull (each f l)
dull-each f h [] k = none
dull-each f h (a ∷ l) k = phrases_append (h a (known-front (f a) (each f l) k)) (dull-each f h l (known-back (f a) (each f l) k))

-- a mark alone, and a name, a number or a truth value and its mark
pub one : (y : Item) {l : List Item} → Still (code_of y) → Dull l → Dull (y ∷ l)
one y q d = said [] y tt q d

pub two : (x y : Item) {l : List Item} → is_part (code_of x) ≡ true → Still (code_of y) → Dull l → Dull (x ∷ y ∷ l)
two x y e q d = said (x ∷ []) y (λ k. e, tt) q d

dull-field : (n : ℕ) → AllKnown (code_field n) → Dull (code_field n)
unfolding quiet is_part is_alone is_lead
dull-field n k = one (i_type n) (type_still k.0) (one i_field (refl, refl) none)

dull-size : (s : Option ℕ) → Dull (code_size s)
unfolding quiet is_part is_alone is_lead
dull-size no_size = none
dull-size (a-size n) = two (i_number n) i_size refl (refl, refl) none

dull_value : (v : Value) → AllKnown (code_value v) → Dull (code_value v)
unfolding quiet is_part is_alone is_lead
dull_value unset k = none
dull_value (set_number n) k = two (i_number n) i_value refl (refl, refl) none
dull_value (set_minus n) k = two (i_number n) i_minus refl (refl, refl) none
dull_value set_true k = two i_true i_value refl (refl, refl) none
dull_value set_false k = two i_false i_value refl (refl, refl) none
dull_value (set_name w) k = two (i_name w) i_named refl (refl, refl) none
dull_value (set_channel n ks) k = two (i_number n) i_channel refl (refl, refl) (dull-each code_field dull-field ks k.1.1)

dull_variable : (v : Variable) → AllKnown (code_variable v) → Dull (code_variable v)
unfolding quiet is_part is_alone is_lead
dull_variable (variable w s v) k = two (i_name w) i_declared refl (refl, refl) (phrases_append (dull-size s) (dull_value v (known-back (code_size s) (code_value v) k.1.1)))

dull_declaration : (d : Declaration) → AllKnown (code_declaration i_local d) → Dull (code_declaration i_local d)
unfolding quiet is_part is_alone is_lead
dull_declaration (declare c vs) k = one (i_type c) (type_still k.0) (one i_local (refl, refl) (dull-each code_variable dull_variable vs k.1.1))

pub dull-declarations : (ds : List Declaration) → AllKnown (each (code_declaration i_local) ds) → Dull (each (code_declaration i_local) ds)
dull-declarations ds k = dull-each (code_declaration i_local) dull_declaration ds k

pub dull-label : (w : Name) → Dull (i_name w ∷ i_label ∷ [])
unfolding quiet is_part is_alone is_lead
dull-label w = two (i_name w) i_label refl (refl, refl) none

-- ---- the first item of a statement
module _ (cs : List ℕ) where
  place_led : (p : ℕ) → is_part (get_or cs p 0) ≡ true → is_mark (get_or cs (p - 1) 0) ≡ true → is_lead (get_or cs (mark_of cs p) 0) ≡ true → is_place cs p ≡ true
  unfolding is_place
  place_led p a b c = go (is_alone (get_or cs p 0))
    where
      go : (x : Bool) → pick x true (pick (is_part (get_or cs p 0)) (both (is_mark (get_or cs (p - 1) 0)) (is_lead (get_or cs (mark_of cs p) 0))) false) ≡ true
      go true = refl
      go false = rw (a, b, c)

  alone-place : (p c : ℕ) → get_or cs p 0 ≡ c → is_alone c ≡ true → is_place cs p ≡ true
  unfolding is_place
  alone-place p c e h = rw (e, h)

  leaf-place : {b : Bool} {x : List Item} → Leafy b x → AllKnown x → (p : ℕ) → At cs p x → p + length x ≤ length cs → is_mark (get_or cs (p - 1) 0) ≡ true → is_place cs p ≡ true
  leaf-place (led [] y n e m q) a p h g b = absurd (omega arith)
  leaf-place (led (x ∷ l) y {l = r} n e m q) a p h g b =
      let w = length-append l (y ∷ r) in
      place_led p (ap is_part h.0 ∙ e.0 a.0) b (mark_led cs x l e (known-front (x ∷ l) (y ∷ r) a) y r (quiet-mark (code_of y) m.0) p h (omega arith) ∙ m.1)
  leaf-place (alone x s i q) a p h g b = alone-place p (code_of x) h.0 s

  action_place : (a : Tree action) → AllKnown (code_tree a) → (p : ℕ) → At cs p (code_tree a) → p + length (code_tree a) ≤ length cs → is_mark (get_or cs (p - 1) 0) ≡ true → is_place cs p ≡ true
  unfolding is_alone
  action_place (leaf l) k p h g b = leaf-place (leafy l) k p h g b
  action_place (select os) k p h g b = alone-place p c_if h.0 refl
  action_place (loop os) k p h g b = alone-place p c_do h.0 refl

  -- an end of an option is no place
  place_not_end : (p : ℕ) → is_place cs p ≡ true → get_or cs p 0 ≡ c_end_option → ⊥
  unfolding is_place is_alone is_part
  place_not_end p e z = true_false (sym e ∙ rw z)

  action_from : (a : Tree action) → AllKnown (code_tree a) → (p : ℕ) → At cs p (code_tree a) → p + size_in a < length cs → is_mark (get_or cs (p - 1) 0) ≡ true → place_from cs p ≡ p
  action_from a k p h g b = place_here cs p (omega arith) (stop_if cs p (action_place a k p h (omega (arith, size_tree a)) b))

  label-mark : (p : ℕ) → get_or cs (suc p) 0 ≡ c_label → is_mark (get_or cs (p + 2 - 1) 0) ≡ true
  unfolding is_part
  label-mark p e = ap (λ i. is_mark (get_or cs i 0)) (let z : p + 2 - 1 ≡ suc p = omega arith in z) ∙ rw e

  -- behind the first item of a statement, or its label
  pub statement_from : (s : Tree statement) → AllKnown (code_tree s) → (p : ℕ) → At cs p (code_tree s) → p + size_in s < length cs → is_mark (get_or cs (p - 1) 0) ≡ true
      → (place_from cs p ≡ place_in s p) × (get_or cs p 0 ≡ c_end_option → ⊥)
  statement_from (bare a) k p h g b = (action_from a k p h g b, place_not_end p (action_place a k p h (omega (arith, size_tree a)) b))
  statement_from (labelled w a) k p h g b =
      let z : suc (suc p) ≡ p + 2 = omega arith in (
        dull_skip cs (dull-label w) (k.0, (k.1.0, tt)) p (h.0, (h.1.0, tt)) (omega arith)
            ∙ action_from a k.1.1 (p + 2) (subst (λ i. At cs i (code_tree a)) z h.1.1) (omega arith) (label-mark p h.1.0),
        λ e. (let w : get_or cs p 0 ≡ c_name = h.0 in omega arith),
      )
