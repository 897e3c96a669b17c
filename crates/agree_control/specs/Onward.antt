-- Bridge, for `demand2` (crate `demands`).
-- The statements behind which the next one comes: all but `goto` and `break`. Document 01, "How it moves": "`goto` and `break` are steps of their own (H)".
use Rattle.spec_grammar.specs.Tree.{action, Tree, leaf, express, assign, increment, decrement, send, receive, assert, print, skip, goto, break, timeout, else, run, set_run, select, loop}

abbrev pub Onward : Tree action → Type 0
Onward (leaf (express e)) = Unit {0}
Onward (leaf (assign r e)) = Unit {0}
Onward (leaf (increment r)) = Unit {0}
Onward (leaf (decrement r)) = Unit {0}
Onward (leaf (send mk r es)) = Unit {0}
Onward (leaf (receive mk r xs)) = Unit {0}
Onward (leaf (assert e)) = Unit {0}
Onward (leaf (print w es)) = Unit {0}
Onward (leaf skip) = Unit {0}
Onward (leaf (goto w)) = ⊥
Onward (leaf break) = ⊥
Onward (leaf timeout) = Unit {0}
Onward (leaf else) = Unit {0}
Onward (leaf (run w es)) = Unit {0}
Onward (leaf (set_run r w es)) = Unit {0}
Onward (select os) = Unit {0}
Onward (loop os) = Unit {0}
