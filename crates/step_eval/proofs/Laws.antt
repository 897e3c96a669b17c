-- Laws of answers and of one level of the evaluator.
use Rattle.std.specs.Prelude.{Result, Ok}
use Prim.Native.Nat.{ℕ, zero, suc, ◌-◌, ◌≤◌, ◌<◌, ◌^◌}
use mathlib.Core.Path.{◌≡◌, refl, sym, ap, ◌∙◌}
use mathlib.Core.Bool.{Bool, true, false, not}
use mathlib.Core.List.{List}
use native.Mathlib.Omega.{arith}
use lib.IntN.{ℤ, pos, negsuc}
use lib.Signed.{mag}
use lib.Dec.{eqb}
use borrow.Author.Tests.{ne_eqb, lt-leb, le-leb}
use mir.Syntax.{w32}
use mir.Val.{to_z, of_z, bool_byte}
use mir.ValLaws.{to_z_pos}
use Rattle.base_codes.specs.Codes.{c_index, c_message, c_name}
use Rattle.base_bytes.specs.Choice.{pick}
use Rattle.table_layout.specs.Access.{code_of, link_of, number_of}
use Rattle.state_layout.proofs.Laws.{back}
use Rattle.state_layout.specs.Layout.{kept, cell_of}
use Rattle.base_values.specs.Operators.{same, one_if, truth}
use Rattle.base_values.specs.declared.Fault.{Fault}
use Rattle.step_eval.specs.Variables.{variable_of, slot_of, element_of, load_of, channel_of, length_of}
use Rattle.step_eval.specs.declared.Node.{Node}
use Rattle.step_eval.specs.declared.Node.TheVariants.{Number, True, False, Plain, Length, Unary, Lazy, Binary, Choice, Other}
use Rattle.step_eval.specs.declared.Node.TheVariants as node
use Rattle.step_eval.specs.Expressions.{node_of, is_fault, holds, unary_by, both_by, decided, choice_by, start_of, plain_of, by_node, eval_t, eval_of, locate_of}

-- ---- a value that an answer holds
zero_test : (v : ℤ) → mag v < 2 ^ 31 → eqb (of_z w32 v) 0 ≡ same v (pos 0)
zero_test (pos n) h = refl
zero_test (negsuc n) h = ne_eqb (2 ^ 32 - suc n) 0 (λ (e : 2 ^ 32 - suc n ≡ 0). omega arith)

pub one_if_lem : (b : Bool) → to_z w32 (bool_byte b) ≡ one_if b
one_if_lem true = refl
one_if_lem false = refl

module _ {x : Result ℤ Fault} {v : ℤ} (e : x ≡ Ok v) (h : mag v < 2 ^ 31) where
  pub holds_value : not (eqb (of_z w32 v) 0) ≡ holds x
  holds_value = ap not (zero_test v h) ∙ ap holds (sym e)

-- ---- a plain reference
module _ (t : List ℕ) (s : List ℤ) (p d : ℕ) {c : ℕ} (ec : c ≡ code_of t d) where
  pub plain_message : c ≡ c_message → {l : ℕ} {r : ℤ} → l ≡ link_of t d → mag r < 2 ^ 31 → r ≡ kept l → Ok (to_z w32 (of_z w32 r)) ≡ plain_of t s p d
  unfolding plain_of
  plain_message k el h er = rw (← ec, k) (ap Ok (back h ∙ er ∙ ap kept el))

  pub plain_pid : c ≡ c_name → p < 256 → Ok (to_z w32 p) ≡ plain_of t s p d
  unfolding plain_of
  plain_pid k h = rw (← ec, k) (ap Ok (to_z_pos w32 p (omega arith)))

  pub plain_variable : (c ≡ c_message → ⊥) → (c ≡ c_name → ⊥) → {l i : ℕ} {r : ℤ} → l ≡ link_of t d → i ≡ slot_of l p 0 → mag r < 2 ^ 31 → r ≡ cell_of s i → Ok (to_z w32 (of_z w32 r)) ≡ plain_of t s p d
  unfolding plain_of
  plain_variable a b el ei h er = rw (← ec, ne_eqb c c_message a, ne_eqb c c_name b) (ap Ok (back h ∙ er ∙ ap (cell_of s) (ei ∙ ap (λ x. slot_of x p 0) el)))

-- ---- a conditional
module _ (x y z : Result ℤ Fault) where
  choice_fault : is_fault x ≡ true → x ≡ choice_by x y z
  choice_fault e = simp e

  choice_second : is_fault x ≡ false → holds x ≡ true → y ≡ choice_by x y z
  choice_second e k = simp (e, k)

  choice_third : is_fault x ≡ false → holds x ≡ false → z ≡ choice_by x y z
  choice_third e k = simp (e, k)

-- ---- one level
pred_of : (h : ℕ) → suc h - 1 ≡ h
pred_of h = omega arith

module _ (t : List ℕ) (s : List ℤ) (p h from to : ℕ) where
  pub too_high : h ≡ 0 → Ok (pos 0) ≡ eval_t t s p h from to
  unfolding eval_t
  too_high e = rw e

  pub nothing : to ≤ from → Ok (pos 0) ≡ eval_t t s p h from to
  unfolding eval_t
  nothing g = go h
    where
      go : (h : ℕ) → Ok (pos 0) ≡ eval_t t s p h from to
      go zero = refl
      go (suc h) = rw (le-leb to from g)

  module _ (hn : h ≡ 0 → ⊥) (g : from < to) {c : ℕ} {n : Node} (ec : c ≡ code_of t (to - 1)) (en : n ≡ node_of c) where
    step : (k : Node) → n ≡ k → eval_t t s p h from to ≡ by_node t s p (λ a b. eval_t t s p (h - 1) a b) from (to - 1) k
    unfolding eval_t
    step k e = go h hn ∙ ap (by_node t s p (λ a b. eval_t t s p (h - 1) a b) from (to - 1)) (ap node_of (sym ec) ∙ sym en ∙ e)
      where
        go : (h : ℕ) → (h ≡ 0 → ⊥) → eval_t t s p h from to ≡ by_node t s p (λ a b. eval_t t s p (h - 1) a b) from (to - 1) (node_of (code_of t (to - 1)))
        go zero z = absurd (z refl)
        go (suc h) z = rw (pred_of h, lt-leb to from g)

    pub number_arm : n ≡ Number → {k : ℕ} {r : ℤ} → k ≡ number_of t (to - 1) → mag r < 2 ^ 31 → r ≡ kept k → Ok (to_z w32 (of_z w32 r)) ≡ eval_t t s p h from to
    number_arm e ek q er = ap Ok (back q ∙ er ∙ ap kept ek) ∙ sym (step Number e)

    pub true_arm : n ≡ True → Ok (pos 1) ≡ eval_t t s p h from to
    true_arm e = sym (step True e)

    pub false_arm : n ≡ False → Ok (pos 0) ≡ eval_t t s p h from to
    false_arm e = sym (step False e)

    pub other_arm : n ≡ Other → Ok (pos 0) ≡ eval_t t s p h from to
    other_arm e = sym (step Other e)

    pub plain_arm : n ≡ Plain → {d : ℕ} {r : Result ℤ Fault} → d ≡ link_of t (to - 1) → r ≡ plain_of t s p d → r ≡ eval_t t s p h from to
    plain_arm e ed er = er ∙ ap (plain_of t s p) ed ∙ sym (step Plain e)

    module _ {x : Result ℤ Fault} (ex : x ≡ eval_t t s p (h - 1) from (to - 1)) where
      pub index_arm : n ≡ node.Index → {l : ℕ} {y : Result ℕ Fault} {r : Result ℤ Fault} → l ≡ variable_of t (to - 1) → y ≡ element_of l p x → r ≡ load_of s y → r ≡ eval_t t s p h from to
      index_arm e el ey er = er ∙ ap (load_of s) (ey ∙ (λ i. element_of (el i) p (ex i))) ∙ sym (step node.Index e)

      pub length_arm : n ≡ Length → {y : Result ℕ Fault} {r : Result ℤ Fault} → y ≡ channel_of s x → r ≡ length_of s y → r ≡ eval_t t s p h from to
      length_arm e ey er = er ∙ ap (length_of s) (ey ∙ ap (channel_of s) ex) ∙ sym (step Length e)

      pub unary_arm : {op : ℕ} → n ≡ Unary op → {r : Result ℤ Fault} → r ≡ unary_by op x → r ≡ eval_t t s p h from to
      unary_arm {op} e er = er ∙ ap (unary_by op) ex ∙ sym (step (Unary op) e)

    -- two parts, the second of which starts at b
    module _ {b : ℕ} (eb : b ≡ start_of t from (to - 1)) {x : Result ℤ Fault} (ex : x ≡ eval_t t s p (h - 1) from b) where
      left : x ≡ eval_t t s p (h - 1) from (start_of t from (to - 1))
      left = ex ∙ ap (eval_t t s p (h - 1) from) eb

      pub decided_arm : {op : ℕ} → n ≡ Lazy op → {z : Bool} {r : Result ℤ Fault} → z ≡ decided op x → z ≡ true → r ≡ truth x → r ≡ eval_t t s p h from to
      decided_arm {op} e ez k er =
          er ∙ sym (ap (λ a. pick a (truth x) (truth (eval_t t s p (h - 1) (start_of t from (to - 1)) (to - 1)))) (sym ez ∙ k))
          ∙ ap (λ a. pick (decided op a) (truth a) (truth (eval_t t s p (h - 1) (start_of t from (to - 1)) (to - 1)))) left ∙ sym (step (Lazy op) e)

      module _ {y : Result ℤ Fault} (ey : y ≡ eval_t t s p (h - 1) b (to - 1)) where
        right : y ≡ eval_t t s p (h - 1) (start_of t from (to - 1)) (to - 1)
        right = ey ∙ ap (λ a. eval_t t s p (h - 1) a (to - 1)) eb

        pub lazy_arm : {op : ℕ} → n ≡ Lazy op → {z : Bool} {r : Result ℤ Fault} → z ≡ decided op x → z ≡ false → r ≡ truth y → r ≡ eval_t t s p h from to
        lazy_arm {op} e ez k er =
            er ∙ sym (ap (λ a. pick a (truth x) (truth y)) (sym ez ∙ k)) ∙ (λ i. pick (decided op (left i)) (truth (left i)) (truth (right i))) ∙ sym (step (Lazy op) e)

        pub binary_arm : {op : ℕ} → n ≡ Binary op → {r : Result ℤ Fault} → r ≡ both_by op x y → r ≡ eval_t t s p h from to
        binary_arm {op} e er = er ∙ (λ i. both_by op (left i) (right i)) ∙ sym (step (Binary op) e)

    -- three parts: the third starts at m, `otherwise` stands at q, the second starts at b
    module _ (e : n ≡ Choice) {m q b : ℕ} (em : m ≡ start_of t from (to - 1)) (eq : q ≡ m - 1) (eb : b ≡ start_of t from q) {x : Result ℤ Fault} (ex : x ≡ eval_t t s p (h - 1) from b) where
      spot : q ≡ start_of t from (to - 1) - 1
      spot = eq ∙ ap (λ a. a - 1) em

      seam : b ≡ start_of t from (start_of t from (to - 1) - 1)
      seam = eb ∙ ap (start_of t from) spot

      test : x ≡ eval_t t s p (h - 1) from (start_of t from (start_of t from (to - 1) - 1))
      test = ex ∙ ap (eval_t t s p (h - 1) from) seam

      second : {r : Result ℤ Fault} → r ≡ eval_t t s p (h - 1) b q → r ≡ eval_t t s p (h - 1) (start_of t from (start_of t from (to - 1) - 1)) (start_of t from (to - 1) - 1)
      second er = er ∙ (λ i. eval_t t s p (h - 1) (seam i) (spot i))

      third : {r : Result ℤ Fault} → r ≡ eval_t t s p (h - 1) m (to - 1) → r ≡ eval_t t s p (h - 1) (start_of t from (to - 1)) (to - 1)
      third er = er ∙ ap (λ a. eval_t t s p (h - 1) a (to - 1)) em

      whole : {r : Result ℤ Fault}
          → r ≡ choice_by x (eval_t t s p (h - 1) (start_of t from (start_of t from (to - 1) - 1)) (start_of t from (to - 1) - 1)) (eval_t t s p (h - 1) (start_of t from (to - 1)) (to - 1))
          → r ≡ eval_t t s p h from to
      whole er =
          er ∙ ap (λ a. choice_by a (eval_t t s p (h - 1) (start_of t from (start_of t from (to - 1) - 1)) (start_of t from (to - 1) - 1)) (eval_t t s p (h - 1) (start_of t from (to - 1)) (to - 1))) test
          ∙ sym (step Choice e)

      pub fault_arm : {z : Bool} → z ≡ is_fault x → z ≡ true → x ≡ eval_t t s p h from to
      fault_arm ez k = whole (choice_fault x _ _ (sym ez ∙ k))

      module _ {z : Bool} (ez : z ≡ is_fault x) (kz : z ≡ false) {w : Bool} (ew : w ≡ holds x) where
        pub middle_arm : w ≡ true → {r : Result ℤ Fault} → r ≡ eval_t t s p (h - 1) b q → r ≡ eval_t t s p h from to
        middle_arm kw er = whole (second er ∙ choice_second x _ _ (sym ez ∙ kz) (sym ew ∙ kw))

        pub last_arm : w ≡ false → {r : Result ℤ Fault} → r ≡ eval_t t s p (h - 1) m (to - 1) → r ≡ eval_t t s p h from to
        last_arm kw er = whole (third er ∙ choice_third x _ _ (sym ez ∙ kz) (sym ew ∙ kw))

-- ---- references
module _ (t : List ℕ) (s : List ℤ) (p from to : ℕ) {j c l : ℕ} (ej : j ≡ to - 1) (ec : c ≡ code_of t j) (el : l ≡ variable_of t j) where
  pub locate_element : c ≡ c_index → {x : Result ℤ Fault} {r : Result ℕ Fault} → x ≡ eval_of t s p from j → r ≡ element_of l p x → r ≡ locate_of t s p from to
  unfolding locate_of
  locate_element k ex er = rw (← ej, ← ec, k) (er ∙ (λ i. element_of (el i) p (ex i)))

  pub locate_plain : (c ≡ c_index → ⊥) → {i : ℕ} → i ≡ slot_of l p 0 → Ok i ≡ locate_of t s p from to
  unfolding locate_of
  locate_plain k ei = rw (← ej, ← ec, ne_eqb c c_index k) (ap Ok (ei ∙ ap (λ x. slot_of x p 0) el))
