-- Document 01, "How it moves": "Values are signed 32-bit. .. `&&`, `||` and the conditional evaluate only what they need", "Faults: zero divisor, shift outside 0 to 31, index out of range,
-- a channel number that was never made, .. (H: `len` of an unmade channel too.)", "Within a statement work goes left to right in the text": both operands, the left one first, then the
-- divisor or the shift count. What expressions mean, where a scene says what names stand for.
use Rattle.std.specs.Prelude.{ℕ, Bool, ℤ, pos, negsuc, eqb, ltb, Result, Ok, Err}
use Rattle.base_bytes.specs.Choice.{pick}
use Rattle.base_values.specs.Operators.{is_true, apply_of, unary_of, truth}
use Rattle.base_values.specs.declared.Fault.{Fault}
use Rattle.base_values.specs.declared.Fault.TheVariants.{Index, Channel}
use Rattle.spec_grammar.specs.Tree.{Name, Shape, Exp, plain, indexed, num, tru, fls, get, query, unary, binary, choice}

-- what names and numbers of channels stand for, in a state and for a process
pub record Scene : Type 0 where
  -- a plain name: a variable, an mtype name or `_pid`
  pub number : Name → ℤ
  -- an array: how many elements, and each
  pub size : Name → ℕ
  pub element : Name → ℕ → ℤ
  -- a channel by its number: was it made, and how many messages wait in it
  pub made : ℤ → Bool
  pub waiting : ℤ → ℕ

-- ## by what was worked out
-- "index out of range"
abbrev pub element_by : Scene → Name → Result ℤ Fault → Result ℤ Fault
element_by c w (Ok (pos i)) = pick (ltb i (c.size w)) (Ok (c.element w i)) (Err Index)
element_by c w (Ok (negsuc i)) = Err Index
element_by c w (Err f) = Err f

-- "a channel number that was never made .. (H: `len` of an unmade channel too.)"
abbrev pub length_by : Scene → Result ℤ Fault → Result ℤ Fault
length_by c (Ok v) = pick (c.made v) (Ok (pos (c.waiting v))) (Err Channel)
length_by c (Err f) = Err f

abbrev pub sign_by : ℕ → Result ℤ Fault → Result ℤ Fault
sign_by o (Ok v) = Ok (unary_of o v)
sign_by o (Err f) = Err f

-- `||`: a left operand that is not 0 decides
abbrev pub or_by : Result ℤ Fault → Result ℤ Fault → Result ℤ Fault
or_by (Ok v) y = pick (is_true v) (Ok (pos 1)) (truth y)
or_by (Err f) y = Err f

-- `&&`: a left operand that is 0 decides
abbrev pub and_by : Result ℤ Fault → Result ℤ Fault → Result ℤ Fault
and_by (Ok v) y = pick (is_true v) (truth y) (Ok (pos 0))
and_by (Err f) y = Err f

-- any other operator: the left operand's fault comes first, then the right one's, then its own
abbrev pub with_by : ℕ → ℤ → Result ℤ Fault → Result ℤ Fault
with_by o a (Ok b) = apply_of o a b
with_by o a (Err f) = Err f

abbrev pub join_by : ℕ → Result ℤ Fault → Result ℤ Fault → Result ℤ Fault
join_by o (Ok a) y = with_by o a y
join_by o (Err f) y = Err f

-- `||` is operator 1, `&&` operator 2
abbrev pub operate_by : ℕ → Result ℤ Fault → Result ℤ Fault → Result ℤ Fault
operate_by o x y = pick (eqb o 1) (or_by x y) (pick (eqb o 2) (and_by x y) (join_by o x y))

-- `(a -> b : c)`
abbrev pub choose_by : Result ℤ Fault → Result ℤ Fault → Result ℤ Fault → Result ℤ Fault
choose_by (Ok v) y z = pick (is_true v) y z
choose_by (Err f) y z = Err f

-- ## expressions
unfoldable pub eval : Scene → {k : Shape} → Exp k → Result ℤ Fault
eval c (plain w) = Ok (c.number w)
eval c (indexed w e) = element_by c w (eval c e)
eval c (num n) = Ok (pos n)
eval c tru = Ok (pos 1)
eval c fls = Ok (pos 0)
eval c (get r) = eval c r
eval c (query o r) = length_by c (eval c r)
eval c (unary o e) = sign_by o (eval c e)
eval c (binary o a b) = operate_by o (eval c a) (eval c b)
eval c (choice a b d) = choose_by (eval c a) (eval c b) (eval c d)
