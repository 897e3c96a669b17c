-- Document 01, "A model is one or more units .. A unit is ..": trees, what a model is made of. All that counts is here and nothing else ("Normal text": the tree ignores
-- blanks, comments, needless parentheses, leading zeros, `->` against `;`, extra or optional separators and the two message notations. All else counts).
-- Operators and types are the kinds of their tokens (specs/Kinds.antt of `base_kinds`); the grammar restricts them.
use Rattle.std.specs.Prelude.{Bool, true, false, List, ℕ}
use Rattle.std.proofs.Math.Option.{Option}

-- the bytes of a name
abbrev pub Name : Type 0
Name = List ℕ

pub data Shape : Type 0 where
  expression reference : Shape

-- expressions, and references: a name, plain or indexed
pub data Exp : Shape → Type 0 where
  plain : Name → Exp reference
  indexed : Name → Exp expression → Exp reference
  num : ℕ → Exp expression
  tru fls : Exp expression
  get : Exp reference → Exp expression
  -- what a word asks of a channel, by the word's kind
  query : ℕ → Exp reference → Exp expression
  unary : ℕ → Exp expression → Exp expression
  binary : ℕ → Exp expression → Exp expression → Exp expression
  choice : Exp expression → Exp expression → Exp expression → Exp expression

abbrev pub Expr : Type 0
Expr = Exp expression

abbrev pub Ref : Type 0
Ref = Exp reference

-- receive arguments: a variable or an mtype name, `eval(e)`, a number, `true`, `false`
pub data Received : Type 0 where
  into : Ref → Received
  equal : Expr → Received
  exactly : ℕ → Received
  exactly_true exactly_false : Received

-- a statement that holds no other; a send and a receive have the kind of their mark
pub data Leaf : Type 0 where
  express : Expr → Leaf
  assign : Ref → Expr → Leaf
  increment : Ref → Leaf
  decrement : Ref → Leaf
  send : ℕ → Ref → List Expr → Leaf
  receive : ℕ → Ref → List Received → Leaf
  assert : Expr → Leaf
  print : List ℕ → List Expr → Leaf
  skip : Leaf
  goto : Name → Leaf
  break : Leaf
  timeout : Leaf
  else : Leaf
  run : Name → List Expr → Leaf
  set_run : Ref → Name → List Expr → Leaf

abbrev pub is_else : Leaf → Bool
is_else (express e) = false
is_else (assign r e) = false
is_else (increment r) = false
is_else (decrement r) = false
is_else (send o r es) = false
is_else (receive o r xs) = false
is_else (assert e) = false
is_else (print w es) = false
is_else skip = false
is_else (goto w) = false
is_else break = false
is_else timeout = false
is_else else = true
is_else (run w es) = false
is_else (set_run r w es) = false

pub data Sort : Type 0 where
  action statement sequence options : Sort

-- a statement without its label (action: a leaf, a selection or a loop), with it, the statements of a body or an option, the options of a selection
pub data Tree : Sort → Type 0 where
  leaf : Leaf → Tree action
  select : Tree options → Tree action
  loop : Tree options → Tree action
  bare : Tree action → Tree statement
  labelled : Name → Tree action → Tree statement
  end : Tree sequence
  then : Tree statement → Tree sequence → Tree sequence
  over : Tree options
  option : Tree sequence → Tree options → Tree options

-- the value that a declaration gives
pub data Value : Type 0 where
  unset : Value
  set_number : ℕ → Value
  set_minus : ℕ → Value
  set_true set_false : Value
  set_name : Name → Value
  set_channel : ℕ → List ℕ → Value

-- a declared name: its size, if it is an array, and its value
pub data Variable : Type 0 where
  variable : Name → Option ℕ → Value → Variable

-- a type and its names; for parameters, which have no size and no value, a group
pub data Declaration : Type 0 where
  declare : ℕ → List Variable → Declaration

pub data Group : Type 0 where
  group : ℕ → List Name → Group

pub data Body : Type 0 where
  body : List Declaration → Tree sequence → Body

-- `proctype`, `active proctype`, `active [n] proctype`
pub data Activity : Type 0 where
  idle once : Activity
  times : ℕ → Activity

pub data Part : Type 0 where
  mtypes : List Name → Part
  global : Declaration → Part
  process : Activity → Name → List Group → Body → Part
  init : Body → Part

-- a model: its units in text order
abbrev pub Model : Type 0
Model = List Part
