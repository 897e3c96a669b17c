-- Document 01, "How it moves": "Executable: an expression when not 0; a send when the channel is not full; a receive when it is not empty and each constant and `eval` equals its field, ..;
-- `run` when a process and its channels still fit; .. all others always. .. A statement whose test faults counts as executable (H)". `else`, `if` and `do` are judged where steps are
-- offered (specs/Offers.antt).
use Rattle.std.specs.Prelude.{Bool, true, false, List, length, ltb, Result, Ok, Err, ℤ}
use Rattle.base_values.specs.Operators.{is_true}
use Rattle.base_values.specs.declared.Fault.{Fault}
use Rattle.spec_grammar.specs.Tree.{Received, action, Tree, leaf, express, assign, increment, decrement, send, receive, assert, print, skip, goto, break, timeout, else, run, set_run, select, loop, Leaf}
use Rattle.spec_machine.specs.Eval.{eval}
use Rattle.spec_machine.specs.Stage.{Stage}
use Rattle.spec_machine.specs.Arguments.{Reach, channel, astray, reach, finding}
use Rattle.spec_machine.specs.Messages.{Finding, found, none, spoilt}

abbrev pub passes : Result ℤ Fault → Bool
passes (Ok v) = is_true v
passes (Err f) = true

-- "a send when the channel is not full"
abbrev pub sendable : {S : Type 0} → Stage S → Reach → Bool
sendable c (channel v) = ltb (c.scene.waiting v) (c.capacity v)
sendable c (astray f) = true

-- "a receive when it is not empty and each constant and `eval` equals its field"
abbrev pub finds : Finding → Bool
finds (found k) = true
finds none = false
finds (spoilt f) = true

abbrev pub receivable : {S : Type 0} → Stage S → List Received → Reach → Bool
receivable c xs (channel v) = finds (finding c v xs)
receivable c xs (astray f) = true

-- of a statement that holds no other; `late` says whether `timeout` is executable
abbrev pub leaf_ready : {S : Type 0} → Stage S → Bool → Leaf → Bool
leaf_ready c late (express e) = passes (eval c.scene e)
leaf_ready c late (assign r e) = true
leaf_ready c late (increment r) = true
leaf_ready c late (decrement r) = true
leaf_ready c late (send o r es) = sendable c (reach c r (length es))
leaf_ready c late (receive o r xs) = receivable c xs (reach c r (length xs))
leaf_ready c late (assert e) = true
leaf_ready c late (print w es) = true
leaf_ready c late skip = true
leaf_ready c late (goto w) = true
leaf_ready c late break = true
leaf_ready c late timeout = late
leaf_ready c late else = false
leaf_ready c late (run w es) = c.room w
leaf_ready c late (set_run r w es) = true

unfoldable pub ready : {S : Type 0} → Stage S → Bool → Tree action → Bool
ready c late (leaf l) = leaf_ready c late l
ready c late (select os) = false
ready c late (loop os) = false
