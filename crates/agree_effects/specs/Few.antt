-- Bridge, for `demand2` (crate `demands`).
-- A statement has no more arguments than the walks over the tables have room for, 32: mechanism, held by `text_few` (crate `agree_names`), since document 01's ceilings are no higher.
use Rattle.std.specs.Prelude.{◌≤◌, length}
use Rattle.base_ceilings.specs.Ceilings.{numbers_most}
use Rattle.spec_grammar.specs.Tree.{action, Tree, leaf, express, assign, increment, decrement, send, receive, assert, print, skip, goto, break, timeout, else, run, set_run, select, loop}

abbrev pub Few : Tree action → Type 0
Few (leaf (express e)) = Unit {0}
Few (leaf (assign r e)) = Unit {0}
Few (leaf (increment r)) = Unit {0}
Few (leaf (decrement r)) = Unit {0}
Few (leaf (send mk r es)) = Unit {0}
Few (leaf (receive mk r xs)) = Unit {0}
Few (leaf (assert e)) = Unit {0}
Few (leaf (print w es)) = length es ≤ numbers_most
Few (leaf skip) = Unit {0}
Few (leaf (goto w)) = Unit {0}
Few (leaf break) = Unit {0}
Few (leaf timeout) = Unit {0}
Few (leaf else) = Unit {0}
Few (leaf (run w es)) = length es ≤ numbers_most
Few (leaf (set_run r w es)) = length es ≤ numbers_most
Few (select os) = Unit {0}
Few (loop os) = Unit {0}
