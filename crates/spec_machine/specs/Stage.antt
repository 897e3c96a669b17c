-- Document 01, "How it moves": "Executable: ..", "Taking: ..". What a statement sees in a state, and what it can change there: variables, channels, processes, whatever states are. The
-- stage of a plain state is in specs/Plain.antt.
use Rattle.std.specs.Prelude.{ℕ, Bool, List, ℤ}
use Rattle.spec_grammar.specs.Tree.{Name}
use Rattle.spec_machine.specs.Eval.{Scene}

-- a message, wherever it lies: the value of each field, from 0
abbrev pub Message : Type 0
Message = ℕ → ℤ

-- what becomes of a state, whatever states are
abbrev pub Change : Type 0 → Type 0
Change S = S → S

pub record Stage (S : Type 0) : Type 0 where
  -- ## what is seen, in the state before the step
  -- what names and numbers of channels stand for in expressions
  pub scene : Scene
  -- this name is an mtype name
  pub constant : Name → Bool
  -- a channel that was made, by its number: how many messages it can hold, how many fields each has, and each of its messages, from 0, the oldest first
  pub capacity : ℤ → ℕ
  pub fields : ℤ → ℕ
  pub message : ℤ → ℕ → Message
  -- a process of this proctype and its channels still fit, and the number that it would take
  pub room : Name → Bool
  pub newest : ℤ
  -- ## what can be changed
  -- a value stored in number k of a variable: "Storing keeps low bits"
  pub store : Name → ℕ → ℤ → Change S
  -- a message of these values put in a channel as its message k: "Sent values are cast to field types"; its message k taken out
  pub put : ℤ → ℕ → List ℤ → Change S
  pub take : ℤ → ℕ → Change S
  -- one more process of this proctype, with these arguments
  pub begin : Name → List ℤ → Change S
  -- the process itself goes on at this place
  pub go : ℕ → Change S

-- where a process can go on from a statement: the place that follows it, the place behind the loop that it is in, and the places of the statements of its body that have labels
pub record Ways : Type 0 where
  pub next : ℕ
  pub out : ℕ
  pub label : Name → ℕ
