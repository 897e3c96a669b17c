-- Mechanism, held to the specification by `demand2` (crate `demands`).
-- Working an expression out over tables `t` and a state `s`, for process `p`: document 01, "How it moves", "`&&`, `||` and the conditional evaluate only what they
-- need". The items from `from` to before `to` hold the expression, and the last of them says what it is.
use Rattle.std.specs.Prelude.{ℕ, zero, suc, ◌-◌, min, max, Bool, true, false, not, List, ℤ, pos, eqb, ltb, leb, Result, Ok, Err}
use Rattle.base_ceilings.specs.Ceilings.{height_most}
use Rattle.base_codes.specs.Codes.{c_and_then, c_bit_or, c_choice, c_complement, c_false, c_index, c_len, c_message, c_negate, c_not, c_or_else, c_plain, c_remainder, c_true, c_name, c_number}
use Rattle.base_bytes.specs.Choice.{pick, either}
use Rattle.table_layout.specs.Access.{code_of, link_of, number_of}
use Rattle.state_layout.specs.Layout.{cell_of, kept}
use Rattle.base_values.specs.Operators.{is_true, apply_of, unary_of, truth}
use Rattle.base_values.specs.declared.Fault.{Fault}
use Rattle.step_eval.specs.declared.Node.{Node}
use Rattle.step_eval.specs.declared.Node.TheVariants.{Number, True, False, Plain, Index, Length, Unary, Lazy, Binary, Choice, Other}
use Rattle.step_eval.specs.Variables.{variable_of, slot_of, element_of, load_of, channel_of, length_of}

-- what an item of a code is: a binary operator, of which `||` and `&&` are lazy; a unary `-` `!` `~`
unfoldable pub node_of : ℕ → Node
node_of c =
    pick (eqb c c_number) Number
    (pick (eqb c c_or_else) (Lazy 1)
    (pick (eqb c c_and_then) (Lazy 2)
    (pick (eqb c c_negate) (Unary 15)
    (pick (eqb c c_not) (Unary 19)
    (pick (eqb c c_complement) (Unary 20)
    (pick (eqb c c_plain) Plain
    (pick (eqb c c_index) Index
    (pick (eqb c c_true) True
    (pick (eqb c c_false) False
    (pick (eqb c c_len) Length
    (pick (eqb c c_choice) Choice
    (pick (ltb c c_bit_or) Other
    (pick (ltb c_remainder c) Other (Binary (c - 146)))))))))))))))

-- ## answers
abbrev pub is_fault : Result ℤ Fault → Bool
is_fault (Ok v) = false
is_fault (Err f) = true

-- a value other than 0
abbrev pub holds : Result ℤ Fault → Bool
holds (Ok v) = is_true v
holds (Err f) = false

abbrev pub unary_by : ℕ → Result ℤ Fault → Result ℤ Fault
unary_by op (Ok v) = Ok (unary_of op v)
unary_by op (Err f) = Err f

-- both operands, the left one's fault first, then the operator
abbrev pub right_by : ℕ → ℤ → Result ℤ Fault → Result ℤ Fault
right_by op a (Ok b) = apply_of op a b
right_by op a (Err f) = Err f

abbrev pub both_by : ℕ → Result ℤ Fault → Result ℤ Fault → Result ℤ Fault
both_by op (Ok a) y = right_by op a y
both_by op (Err f) y = Err f

-- `||` is decided by a left operand that is not 0, `&&` by one that is; a fault decides either
abbrev pub decided : ℕ → Result ℤ Fault → Bool
decided op x = either (is_fault x) (pick (eqb op 1) (holds x) (not (holds x)))

abbrev pub lazy_by : ℕ → Result ℤ Fault → Result ℤ Fault → Result ℤ Fault
lazy_by op x y = pick (decided op x) (truth x) (truth y)

abbrev pub choice_by : Result ℤ Fault → Result ℤ Fault → Result ℤ Fault → Result ℤ Fault
choice_by x y z = pick (is_fault x) x (pick (holds x) y z)

-- ## expressions
-- where the phrase that ends before item j starts; never outside the items that are looked at
abbrev pub start_of : List ℕ → ℕ → ℕ → ℕ
start_of t from j = max from (min (link_of t j) j)

module _ (t : List ℕ) (s : List ℤ) (p : ℕ) where
  -- a plain reference to declaration d: the number of an mtype name, `_pid` (its own name, 70), or a variable
  unfoldable pub plain_of : ℕ → Result ℤ Fault
  plain_of d =
      pick (eqb (code_of t d) c_message) (Ok (kept (link_of t d)))
      (pick (eqb (code_of t d) c_name) (Ok (pos p)) (Ok (cell_of s (slot_of (link_of t d) p 0))))

  -- the expression whose last item is j; `go` works out a part
  abbrev pub by_node : (ℕ → ℕ → Result ℤ Fault) → ℕ → ℕ → Node → Result ℤ Fault
  by_node go from j Number = Ok (kept (number_of t j))
  by_node go from j True = Ok (pos 1)
  by_node go from j False = Ok (pos 0)
  by_node go from j Plain = plain_of (link_of t j)
  by_node go from j Index = load_of s (element_of (variable_of t j) p (go from j))
  by_node go from j Length = length_of s (channel_of s (go from j))
  by_node go from j (Unary op) = unary_by op (go from j)
  by_node go from j (Lazy op) = lazy_by op (go from (start_of t from j)) (go (start_of t from j) j)
  by_node go from j (Binary op) = both_by op (go from (start_of t from j)) (go (start_of t from j) j)
  by_node go from j Choice =
      choice_by (go from (start_of t from (start_of t from j - 1))) (go (start_of t from (start_of t from j - 1)) (start_of t from j - 1)) (go (start_of t from j) j)
  by_node go from j Other = Ok (pos 0)

  -- at most h high; what is higher, or no expression, counts as 0
  unfoldable pub eval_t : ℕ → ℕ → ℕ → Result ℤ Fault
  eval_t zero from to = Ok (pos 0)
  eval_t (suc h) from to = pick (leb to from) (Ok (pos 0)) (by_node (λ a b. eval_t h a b) from (to - 1) (node_of (code_of t (to - 1))))

  -- "expression height 32"
  abbrev pub eval_of : ℕ → ℕ → Result ℤ Fault
  eval_of from to = eval_t height_most from to

  -- ## references
  -- where the reference that the items from `from` to before `to` hold stands: its index is worked out, and must be in range
  unfoldable pub locate_of : ℕ → ℕ → Result ℕ Fault
  locate_of from to =
      pick (eqb (code_of t (to - 1)) c_index) (element_of (variable_of t (to - 1)) p (eval_of from (to - 1))) (Ok (slot_of (variable_of t (to - 1)) p 0))
