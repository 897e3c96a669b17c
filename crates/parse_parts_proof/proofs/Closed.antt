-- What holds of every expression's code and of each further item of statements, and of two codes one behind the other where it holds of both, holds of the code of every tree.
use Prim.Native.Nat.{ℕ, ◌≤◌}
use mathlib.Core.Path.{◌≡◌}
use mathlib.Core.Logic.{◌⊎◌, inl, inr}
use mathlib.Core.List.{List, [], ◌∷◌, ◌++◌}
use native.Mathlib.Omega.{arith}
use Rattle.base_codes.specs.Items.{Item, code_of, i_argument, i_assert, i_assign, i_break, i_constant, i_decrement, i_do, i_else, i_end, i_end_option, i_equal, i_express, i_false, i_fi, i_goto, i_if, i_increment, i_into, i_label, i_name, i_number, i_od, i_option, i_receive, i_run, i_send, i_set_run, i_skip, i_target, i_text, i_timeout, i_true}
use Rattle.spec_grammar.specs.Tree.{Shape, expression, Exp, Expr, Received, into, equal, exactly, exactly_true, exactly_false, Leaf, express, assign, increment, decrement, send, receive, assert, print, skip, goto, break, timeout, else, run, set_run, Sort, Tree, leaf, select, loop, bare, labelled, end, then, over, option}
use Rattle.parse_code.specs.Code.{each, code_exp, code_argument, code_received, code_leaf, code_tree}
use Rattle.parse_parts_proof.specs.Parts.{Spoken, of_name, of_text, of_number, of_mark, of_operator, Framing, of_label, of_frame}
use Rattle.base_codes.specs.Codes.{c_end_option, c_label, c_set_run}

module _ (Q : List Item → Type 0) (none : Q []) (join : (x y : List Item) → Q x → Q y → Q (x ++ y)) (exp : (s : Shape) (e : Exp s) → Q (code_exp e)) (one : (i : Item) → Spoken i → Q (i ∷ [])) where
  -- an item, and what follows it
  item : (i : Item) (x : List Item) → Spoken i → Q x → Q (i ∷ x)
  item i x h q = join (i ∷ []) x (one i h) q

  -- an expression, and what follows it
  phrase : {s : Shape} (e : Exp s) (x : List Item) → Q x → Q (code_exp e ++ x)
  phrase {s} e x q = join (code_exp e) x (exp s e) q

  closed-each : {A : Type 0} (f : A → List Item) → ((a : A) → Q (f a)) → (l : List A) → Q (each f l)
  closed-each f h [] = none
  closed-each f h (a ∷ l) = join (f a) (each f l) (h a) (closed-each f h l)

  pub closed-argument : (e : Expr) → Q (code_argument e)
  closed-argument e = phrase e (i_argument ∷ []) (one i_argument (of_mark (omega arith) (omega arith) (λ e. omega arith)))

  pub closed-arguments : (es : List Expr) → Q (each code_argument es)
  closed-arguments es = closed-each code_argument closed-argument es

  constant : Q (i_constant ∷ [])
  constant = one i_constant (of_mark (omega arith) (omega arith) (λ e. omega arith))

  pub closed-received : (x : Received) → Q (code_received x)
  closed-received (into r) = phrase r (i_into ∷ []) (one i_into (of_mark (omega arith) (omega arith) (λ e. omega arith)))
  closed-received (equal e) = phrase e (i_equal ∷ []) (one i_equal (of_mark (omega arith) (omega arith) (λ e. omega arith)))
  closed-received (exactly n) = item (i_number n) (i_constant ∷ []) of_number constant
  closed-received exactly_true = item i_true (i_constant ∷ []) (of_mark (omega arith) (omega arith) (λ e. omega arith)) constant
  closed-received exactly_false = item i_false (i_constant ∷ []) (of_mark (omega arith) (omega arith) (λ e. omega arith)) constant

  pub closed_receiveds : (xs : List Received) → Q (each code_received xs)
  closed_receiveds xs = closed-each code_received closed-received xs

  -- a list, and the end of it
  ended : (x : List Item) → Q x → Q (x ++ i_end ∷ [])
  ended x q = join x (i_end ∷ []) q (one i_end (of_mark (omega arith) (omega arith) (λ e. omega arith)))

  pub closed-leaf : (l : Leaf) → Q (code_leaf l)
  closed-leaf (express e) = phrase e (i_express ∷ []) (one i_express (of_mark (omega arith) (omega arith) (λ e. omega arith)))
  closed-leaf (assign r e) =
      join (code_exp r ++ i_target ∷ code_exp e) (i_assign ∷ []) (phrase r (i_target ∷ code_exp e) (item i_target (code_exp e) (of_mark (omega arith) (omega arith) (λ e. omega arith)) (exp expression e)))
      (one i_assign (of_mark (omega arith) (omega arith) (λ e. omega arith)))
  closed-leaf (increment r) = phrase r (i_increment ∷ []) (one i_increment (of_mark (omega arith) (omega arith) (λ e. omega arith)))
  closed-leaf (decrement r) = phrase r (i_decrement ∷ []) (one i_decrement (of_mark (omega arith) (omega arith) (λ e. omega arith)))
  closed-leaf (send o r es) =
      ended (code_exp r ++ i_send o ∷ each code_argument es) (phrase r (i_send o ∷ each code_argument es) (item (i_send o) (each code_argument es) (of_operator (omega arith) (omega arith)) (closed-arguments es)))
  closed-leaf (receive o r xs) =
      ended (code_exp r ++ i_receive o ∷ each code_received xs)
      (phrase r (i_receive o ∷ each code_received xs) (item (i_receive o) (each code_received xs) (of_operator (omega arith) (omega arith)) (closed_receiveds xs)))
  closed-leaf (assert e) = phrase e (i_assert ∷ []) (one i_assert (of_mark (omega arith) (omega arith) (λ e. omega arith)))
  closed-leaf (print w es) = item (i_text w) (each code_argument es ++ i_end ∷ []) of_text (ended (each code_argument es) (closed-arguments es))
  closed-leaf skip = one i_skip (of_mark (omega arith) (omega arith) (λ e. omega arith))
  closed-leaf (goto w) = item (i_name w) (i_goto ∷ []) of_name (one i_goto (of_mark (omega arith) (omega arith) (λ e. omega arith)))
  closed-leaf break = one i_break (of_mark (omega arith) (omega arith) (λ e. omega arith))
  closed-leaf timeout = one i_timeout (of_mark (omega arith) (omega arith) (λ e. omega arith))
  closed-leaf else = one i_else (of_mark (omega arith) (omega arith) (λ e. omega arith))
  closed-leaf (run w es) =
      item (i_name w) (i_run ∷ each code_argument es ++ i_end ∷ []) of_name
      (item i_run (each code_argument es ++ i_end ∷ []) (of_mark (omega arith) (omega arith) (λ e. omega arith)) (ended (each code_argument es) (closed-arguments es)))
  closed-leaf (set_run r w es) =
      ended (code_exp r ++ i_target ∷ i_name w ∷ i_set_run ∷ each code_argument es)
      (phrase r (i_target ∷ i_name w ∷ i_set_run ∷ each code_argument es)
      (item i_target (i_name w ∷ i_set_run ∷ each code_argument es) (of_mark (omega arith) (omega arith) (λ e. omega arith))
      (item (i_name w) (i_set_run ∷ each code_argument es) of_name (item i_set_run (each code_argument es) (of_mark (omega arith) (omega arith) (λ e. omega arith)) (closed-arguments es)))))

module _ (Q : List Item → Type 0) (none : Q []) (join : (x y : List Item) → Q x → Q y → Q (x ++ y)) (exp : (s : Shape) (e : Exp s) → Q (code_exp e)) (one : (i : Item) → Spoken i ⊎ Framing i → Q (i ∷ [])) where
  next : (i : Item) (x : List Item) → Spoken i ⊎ Framing i → Q x → Q (i ∷ x)
  next i x h q = join (i ∷ []) x (one i h) q

  pub closed_tree : {k : Sort} (t : Tree k) → Q (code_tree t)
  closed_tree (leaf l) = closed-leaf Q none join exp (λ i h. one i (inl h)) l
  closed_tree (select os) =
      next i_if (code_tree os ++ i_fi ∷ []) (inr (of_frame (omega arith) (omega arith))) (join (code_tree os) (i_fi ∷ []) (closed_tree os) (one i_fi (inr (of_frame (omega arith) (omega arith)))))
  closed_tree (loop os) =
      next i_do (code_tree os ++ i_od ∷ []) (inr (of_frame (omega arith) (omega arith))) (join (code_tree os) (i_od ∷ []) (closed_tree os) (one i_od (inr (of_frame (omega arith) (omega arith)))))
  closed_tree (bare a) = closed_tree a
  closed_tree (labelled w a) = next (i_name w) (i_label ∷ code_tree a) (inl of_name) (next i_label (code_tree a) (inr of_label) (closed_tree a))
  closed_tree end = none
  closed_tree (then s q) = join (code_tree s) (code_tree q) (closed_tree s) (closed_tree q)
  closed_tree over = none
  closed_tree (option q os) =
      next i_option (code_tree q ++ i_end_option ∷ code_tree os) (inr (of_frame (omega arith) (omega arith)))
      (join (code_tree q) (i_end_option ∷ code_tree os) (closed_tree q) (next i_end_option (code_tree os) (inr (of_frame (omega arith) (omega arith))) (closed_tree os)))

-- the code of such an item
pub spoken-code : {i : Item} → Spoken i → (code_of i ≤ c_set_run) × (code_of i ≡ c_label → ⊥)
spoken-code of_name = (omega arith, λ e. omega arith)
spoken-code of_text = (omega arith, λ e. omega arith)
spoken-code of_number = (omega arith, λ e. omega arith)
spoken-code (of_mark a b n) = (b, n)
spoken-code (of_operator a b) = (omega arith, λ e. omega arith)

pub tree_code : {i : Item} → Spoken i ⊎ Framing i → code_of i ≤ c_end_option
tree_code (inl h) = let p = (spoken-code h).0 in omega arith
tree_code (inr of_label) = omega arith
tree_code (inr (of_frame a b)) = b
