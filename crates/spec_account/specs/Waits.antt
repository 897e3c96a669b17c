-- WHAT KEEPS A `run` FROM STARTING: a line for the first process that stands at a `run` for which there is no room, at its place or as a first statement of the selection there, at any depth. Document 01: "`run` when a
-- process and its channels still fit", "`v = run` stores 0 where nothing fits", so that one never waits. The line stands behind a tab, above the answer of a run that ends blocked.
use Rattle.std.specs.Prelude.{ℕ, ◌+◌, Bool, List, [], ◌∷◌, ◌++◌, length, ltb}
use Rattle.base_bytes.specs.Choice.{pick}
use Rattle.base_ceilings.specs.Ceilings.{processes_most, channels_most}
use Rattle.base_kinds.specs.Kinds.{bytes}
use Rattle.spec_text.specs.Formats.{digits_of}
use Rattle.spec_grammar.specs.Tree.{Name, action, Sort, Tree, Leaf, leaf, express, assign, increment, decrement, send, receive, assert, print, skip, goto, break, timeout, else, run, set_run, select, loop, bare, labelled, end, then, over, option, Model}
use Rattle.spec_machine.specs.State.{Process, State}
use Rattle.spec_machine.specs.Steps.{Found, nothing, found, standing, stage_of}
use Rattle.spec_account.specs.Bytes.{each_visible}
use Rattle.spec_account.specs.Statements.{statement_text}

module _ (room : Name → Bool) where
  abbrev pub stuck_leaf : Leaf → List (Tree action)
  stuck_leaf (express e) = []
  stuck_leaf (assign r e) = []
  stuck_leaf (increment r) = []
  stuck_leaf (decrement r) = []
  stuck_leaf (send o r es) = []
  stuck_leaf (receive o r xs) = []
  stuck_leaf (assert e) = []
  stuck_leaf (print w es) = []
  stuck_leaf skip = []
  stuck_leaf (goto w) = []
  stuck_leaf break = []
  stuck_leaf timeout = []
  stuck_leaf else = []
  stuck_leaf (run w es) = pick (room w) [] (leaf (run w es) ∷ [])
  stuck_leaf (set_run r w es) = []

  -- those for which there is no room, among the first statements of a tree, in text order
  unfoldable pub stuck_in : {k : Sort} → Tree k → List (Tree action)
  stuck_in (leaf l) = stuck_leaf l
  stuck_in (select os) = stuck_in os
  stuck_in (loop os) = stuck_in os
  stuck_in (bare a) = stuck_in a
  stuck_in (labelled w a) = stuck_in a
  stuck_in end = []
  stuck_in (then s q) = stuck_in s
  stuck_in over = []
  stuck_in (option q os) = stuck_in q ++ stuck_in os

module _ (m : Model) (σ : State) where
  abbrev pub stuck_at : ℕ → Found → List (Tree action)
  stuck_at p nothing = []
  stuck_at p (found a n o) = stuck_in (stage_of m σ p).room a

  -- which ceiling is met: that of processes, or else that of channels
  abbrev pub ceiling_text : List ℕ
  ceiling_text = pick (ltb (length σ.processes) processes_most) (digits_of channels_most ++ bytes " channels are the most\n") (digits_of processes_most ++ bytes " processes are the most\n")

  -- process p, where it stands at some; else `rest`
  abbrev pub wait_text : ℕ → List (Tree action) → List ℕ → List ℕ
  wait_text p [] rest = rest
  wait_text p (a ∷ others) rest = bytes "\tprocess " ++ (digits_of p ++ (bytes " waits at " ++ (each_visible (statement_text a) ++ (bytes ": " ++ ceiling_text))))

  -- the processes from p on, of which the list has as many
  unfoldable pub waits_from : ℕ → List Process → List ℕ
  waits_from p [] = []
  waits_from p (x ∷ xs) = wait_text p (stuck_at p (standing m σ p x.place)) (waits_from (p + 1) xs)

  abbrev pub waits_text : List ℕ
  waits_text = waits_from 0 σ.processes
