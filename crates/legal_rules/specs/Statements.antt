-- Mechanism, held to the specification by `faults-lawful` (proofs/Lawful.antt): which statements have no fault, said of the tree alone.
use Rattle.std.specs.Prelude.{ℕ, ◌/◌, ◌%◌, Bool, true, false, not, List, [], ◌∷◌, length, eqb, leb}
use Rattle.base_ceilings.specs.Ceilings.{fields_most}
use Rattle.base_bytes.specs.Choice.{pick, both, either}
use Rattle.base_bytes.specs.Lists.{same}
use Rattle.spec_text.specs.Formats.{format_of}
use Rattle.spec_text.specs.Names.{pid}
use Rattle.spec_grammar.specs.Tree.{Name, Received, into, equal, exactly, exactly_true, exactly_false, Sort, Tree, leaf, express, assign, increment, decrement, send, receive, assert, print, skip, goto, break, timeout, else, run, set_run, select, loop, bare, labelled, end, then, over, option, Leaf}
use Rattle.spec_rules.specs.Senses.{Sense, variable, constant, procedure, unknown, is_unknown, sense_in}
use Rattle.spec_rules.specs.Roles.{channel, target, received}
use Rattle.spec_rules.specs.Statements.{Place, all, has, is_else_lem, sense}
use Rattle.legal_rules.specs.Expressions.{lawful, whole}

-- "declared twice": each label once, and none is `_pid`
unfoldable pub apart : List Name → Bool
apart [] = true
apart (w ∷ l) = pick (either (same w pid) (has l w)) false (apart l)

-- "wrong number of arguments" for a proctype
abbrev pub takes : Sense → ℕ → Bool
takes (variable c a) n = false
takes constant n = false
takes (procedure k) n = eqb n k
takes unknown n = false

module _ (at : Place) where
  -- a proctype of the model, "may come later", that no local hides, with as many parameters; `_pid` is none
  unfoldable pub runs : Name → ℕ → Bool
  runs w n = both (not (same w pid)) (both (is_unknown (sense_in at.locals w)) (takes (sense_in at.model w) n))

  abbrev pub receives : Received → Bool
  receives (into r) = lawful (sense at) received r
  receives (equal e) = whole (sense at) e
  receives (exactly n) = true
  receives exactly_true = true
  receives exactly_false = true

  -- a format with bad `%`s has an odd number here, and half of it is how many `%d` there are (specs/Formats.antt of `spec_text`)
  unfoldable pub formats : List ℕ → ℕ → Bool
  formats w n = both (eqb (format_of w % 2) 0) (eqb n (format_of w / 2))

  -- `loops` says that the statement is in a `do`; `first` that it is an option's first statement, unlabelled
  abbrev pub leaf_allowed : Bool → Bool → Leaf → Bool
  leaf_allowed loops first (express e) = whole (sense at) e
  leaf_allowed loops first (assign r e) = both (lawful (sense at) target r) (whole (sense at) e)
  leaf_allowed loops first (increment r) = lawful (sense at) target r
  leaf_allowed loops first (decrement r) = lawful (sense at) target r
  -- "more than 4 message arguments"
  leaf_allowed loops first (send o r es) = both (lawful (sense at) channel r) (both (leb (length es) fields_most) (all (whole (sense at)) es))
  leaf_allowed loops first (receive o r xs) = both (lawful (sense at) channel r) (both (leb (length xs) fields_most) (all receives xs))
  leaf_allowed loops first (assert e) = whole (sense at) e
  leaf_allowed loops first (print w es) = both (formats w (length es)) (all (whole (sense at)) es)
  leaf_allowed loops first skip = true
  leaf_allowed loops first (goto w) = both (not (same w pid)) (has at.labels w)
  leaf_allowed loops first break = loops
  leaf_allowed loops first timeout = true
  leaf_allowed loops first else = first
  leaf_allowed loops first (run w es) = both (runs w (length es)) (all (whole (sense at)) es)
  leaf_allowed loops first (set_run r w es) = both (lawful (sense at) target r) (both (runs w (length es)) (all (whole (sense at)) es))

  unfoldable pub allowed : {k : Sort} → Bool → Bool → Tree k → Bool
  allowed loops first (leaf l) = leaf_allowed loops first l
  -- "once per selection"
  allowed loops first (select os) = both (leb (is_else_lem os) 1) (allowed loops false os)
  allowed loops first (loop os) = both (leb (is_else_lem os) 1) (allowed true false os)
  allowed loops first (bare a) = allowed loops first a
  allowed loops first (labelled w a) = allowed loops false a
  allowed loops first end = true
  allowed loops first (then s q) = both (allowed loops first s) (allowed loops false q)
  allowed loops first over = true
  allowed loops first (option q os) = both (allowed loops true q) (allowed loops false os)
