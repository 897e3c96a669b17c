-- Document 01, "How it moves": "a send when the channel is not full; a receive when it is not empty and each constant and `eval` equals its field". The three things that happen to the
-- messages of a channel, at any position, from 0, the oldest first: one is put there, one is found, and the one that lies there is taken out. Their laws are in proofs/Messages.antt.
use Rattle.std.specs.Prelude.{ℕ, zero, suc, ◌+◌, List, ◌∷◌, ◌++◌, take, drop, Result, Ok, Err, ℤ}
use Rattle.base_bytes.specs.Choice.{pick}
use Rattle.base_values.specs.Operators.{is_true}
use Rattle.base_values.specs.declared.Fault.{Fault}

module _ {A : Type 0} where
  -- x becomes number k: those from there on stand behind it
  abbrev pub put_at : ℕ → A → List A → List A
  put_at k x l = take k l ++ x ∷ drop k l

  -- number k goes out: those behind it move up
  abbrev pub take_at_lem : ℕ → List A → List A
  take_at_lem k l = take k l ++ drop (k + 1) l

-- the number of a message that passes a test, or none, or a fault of the test
pub data Finding : Type 0 where
  found : ℕ → Finding
  none : Finding
  spoilt : Fault → Finding

-- by the test of message k, where `rest` is what is found behind it
abbrev pub find_by : ℕ → Result ℤ Fault → Finding → Finding
find_by k (Ok v) rest = pick (is_true v) (found k) rest
find_by k (Err f) rest = spoilt f

-- the first of n messages, from number k on, that passes; a fault ends the search
unfoldable pub find_from : (ℕ → Result ℤ Fault) → ℕ → ℕ → Finding
find_from test k zero = none
find_from test k (suc n) = find_by k (test k) (find_from test (k + 1) n)
