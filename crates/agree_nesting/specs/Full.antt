-- Bridge, for `demand2` (crate `demands`).
-- Trees whose options each hold a statement: document 01, "`if`/`do` with one or more options, each `::` and a statement sequence".
use Rattle.std.specs.Prelude.{[], ◌∷◌}
use Rattle.spec_grammar.specs.Tree.{Sort, sequence, Tree, leaf, select, loop, bare, labelled, end, then, over, option, Body, body, Part, mtypes, global, process, init, Model}

-- a statement stands in the sequence
abbrev pub Starts : Tree sequence → Type 0
Starts end = ⊥
Starts (then s q) = Unit {0}

abbrev pub Full : {k : Sort} → Tree k → Type 0
Full (leaf l) = Unit {0}
Full (select os) = Full os
Full (loop os) = Full os
Full (bare a) = Full a
Full (labelled w a) = Full a
Full end = Unit {0}
Full (then s q) = Full s × Full q
Full over = Unit {0}
Full (option q os) = Starts q × Full q × Full os

abbrev pub FullBody : Body → Type 0
FullBody (body ds q) = Full q

abbrev pub FullPart : Part → Type 0
FullPart (mtypes ws) = Unit {0}
FullPart (global d) = Unit {0}
FullPart (process a w gs b) = FullBody b
FullPart (init b) = FullBody b

abbrev pub FullModel : Model → Type 0
FullModel [] = Unit {0}
FullModel (x ∷ m) = FullPart x × FullModel m
