-- Document 01, "How it moves": "Taking: target indices are worked out in the state before the step, then stores go left to right. .. A failed assertion or fault changes no state and prints
-- nothing", "a receive's tests come before its targets. Arguments of a send or `run` are worked out only when there is room for it", "`v = run` stores 0 where nothing fits", "`goto` and
-- `break` are steps of their own (H)". What a statement does, and what it prints: what came of it, and the state after.
use Rattle.std.specs.Prelude.{ℕ, ◌+◌, List, [], ◌∷◌, ◌++◌, length, ℤ, pos, negsuc, ◌+ℤ◌, Result, Ok, Err}
use Rattle.base_bytes.specs.Choice.{pick}
use Rattle.base_values.specs.Bits.{wrap32}
use Rattle.base_values.specs.Operators.{is_true}
use Rattle.base_outcome.specs.declared.Taken.{Taken}
use Rattle.base_outcome.specs.declared.Taken.TheVariants.{Done, Refuted, Faulted, Idle}
use Rattle.base_values.specs.declared.Fault.{Fault}
use Rattle.spec_text.specs.Formats.{formatted, opened, counted}
use Rattle.spec_grammar.specs.Tree.{Name, Received, into, equal, exactly, exactly_true, exactly_false, action, Tree, leaf, express, assign, increment, decrement, send, receive, assert, print, skip, goto, break, timeout, else, run, set_run, select, loop, Leaf}
use Rattle.spec_machine.specs.Eval.{eval}
use Rattle.spec_machine.specs.Stage.{Message, Stage, Ways, Change}
use Rattle.spec_machine.specs.Arguments.{name_of, Aim, hit, miss, aim, Reach, channel, astray, reach, WorkedOut, all, stopped, values, finding, Aims, hits, missed, targets}
use Rattle.spec_machine.specs.Messages.{Finding, found, none, spoilt}

-- what came of it, and the state after
abbrev pub Outcome : Type 0 → Type 0
Outcome S = Taken × S

abbrev pub fault : {S : Type 0} → S → Fault → Outcome S
fault s f = (Faulted f, s)

module _ {S : Type 0} (c : Stage S) where
  -- ## stores of a receive: the fields of a message, from field f on, left to right
  abbrev pub delivery : Message → ℕ → Received → ℕ → Change S
  delivery x f (into r) k s = pick (c.constant (name_of r)) s (c.store (name_of r) k (x f) s)
  delivery x f (equal e) k s = s
  delivery x f (exactly n) k s = s
  delivery x f exactly_true k s = s
  delivery x f exactly_false k s = s

  unfoldable pub deliveries : Message → ℕ → List Received → List ℕ → Change S
  deliveries x f [] ks s = s
  deliveries x f (r ∷ rs) [] s = s
  deliveries x f (r ∷ rs) (k ∷ ks) s = deliveries x (f + 1) rs ks (delivery x f r k s)

  -- ## by what was worked out, n being the place that follows
  abbrev pub go_on : ℕ → S → Outcome S
  go_on n s = (Done, c.go n s)

  abbrev pub expressed_by : ℕ → S → Result ℤ Fault → Outcome S
  expressed_by n s (Ok v) = go_on n s
  expressed_by n s (Err f) = fault s f

  abbrev pub asserted_by : ℕ → S → Result ℤ Fault → Outcome S
  asserted_by n s (Ok v) = pick (is_true v) (go_on n s) (Refuted, s)
  asserted_by n s (Err f) = fault s f

  abbrev pub stored_by : ℕ → S → Name → ℕ → Result ℤ Fault → Outcome S
  stored_by n s w k (Ok v) = go_on n (c.store w k v s)
  stored_by n s w k (Err f) = fault s f

  -- the target's index comes first, then the right side
  abbrev pub assigned_by : ℕ → S → Name → Result ℤ Fault → Aim → Outcome S
  assigned_by n s w x (hit k) = stored_by n s w k x
  assigned_by n s w x (miss f) = fault s f

  -- `++` and `--`, by d
  abbrev pub stepped_by : ℕ → S → Name → ℤ → Aim → Outcome S
  stepped_by n s w d (hit k) = go_on n (c.store w k (wrap32 (c.scene.element w k +ℤ d)) s)
  stepped_by n s w d (miss f) = fault s f

  -- behind those that wait
  abbrev pub sent_to : ℕ → S → ℤ → WorkedOut → Outcome S
  sent_to n s v (all vs) = go_on n (c.put v (c.scene.waiting v) vs s)
  sent_to n s v (stopped f) = fault s f

  abbrev pub sent_by : ℕ → S → WorkedOut → Reach → Outcome S
  sent_by n s vs (channel v) = sent_to n s v vs
  sent_by n s vs (astray f) = fault s f

  -- message k goes out, then the stores
  abbrev pub received_at : ℕ → S → ℤ → ℕ → List Received → Aims → Outcome S
  received_at n s v k xs (hits ks) = go_on n (deliveries (c.message v k) 0 xs ks (c.take v k s))
  received_at n s v k xs (missed f) = fault s f

  -- "a receive's tests come before its targets"; one that finds no message is no step
  abbrev pub received_if : ℕ → S → ℤ → List Received → Finding → Outcome S
  received_if n s v xs (found k) = received_at n s v k xs (targets c xs)
  received_if n s v xs none = (Idle, s)
  received_if n s v xs (spoilt f) = fault s f

  abbrev pub received_by : ℕ → S → List Received → Reach → Outcome S
  received_by n s xs (channel v) = received_if n s v xs (finding c v xs)
  received_by n s xs (astray f) = fault s f

  abbrev pub printed_by : ℕ → S → WorkedOut → Outcome S
  printed_by n s (all vs) = go_on n s
  printed_by n s (stopped f) = fault s f

  abbrev pub ran_by : ℕ → S → Name → WorkedOut → Outcome S
  ran_by n s w (all vs) = go_on n (c.begin w vs s)
  ran_by n s w (stopped f) = fault s f

  -- `v = run`: the number of the new process, stored in number k of variable x
  abbrev pub set_by : ℕ → S → Name → ℕ → Name → WorkedOut → Outcome S
  set_by n s x k w (all vs) = go_on n (c.store x k c.newest (c.begin w vs s))
  set_by n s x k w (stopped f) = fault s f

  abbrev pub set_run_by : ℕ → S → Name → Name → WorkedOut → Aim → Outcome S
  set_run_by n s x w vs (hit k) = pick (c.room w) (set_by n s x k w vs) (go_on n (c.store x k (pos 0) s))
  set_run_by n s x w vs (miss f) = fault s f

  -- ## statements that hold no other; a `run` that finds no room or a receive that finds no message is no step
  abbrev pub leaf_effect : Ways → S → Leaf → Outcome S
  leaf_effect h s (express e) = expressed_by h.next s (eval c.scene e)
  leaf_effect h s (assign r e) = assigned_by h.next s (name_of r) (eval c.scene e) (aim c.scene r)
  leaf_effect h s (increment r) = stepped_by h.next s (name_of r) (pos 1) (aim c.scene r)
  leaf_effect h s (decrement r) = stepped_by h.next s (name_of r) (negsuc 0) (aim c.scene r)
  leaf_effect h s (send o r es) = sent_by h.next s (values c.scene es) (reach c r (length es))
  leaf_effect h s (receive o r xs) = received_by h.next s xs (reach c r (length xs))
  leaf_effect h s (assert e) = asserted_by h.next s (eval c.scene e)
  leaf_effect h s (print w es) = printed_by h.next s (values c.scene es)
  leaf_effect h s skip = go_on h.next s
  leaf_effect h s (goto w) = go_on (h.label w) s
  leaf_effect h s break = go_on h.out s
  leaf_effect h s timeout = go_on h.next s
  leaf_effect h s else = go_on h.next s
  leaf_effect h s (run w es) = pick (c.room w) (ran_by h.next s w (values c.scene es)) (Idle, s)
  leaf_effect h s (set_run r w es) = set_run_by h.next s (name_of r) w (values c.scene es) (aim c.scene r)

  -- ## statements; `if` and `do` are "themselves no steps"
  -- It is asked of offered steps alone (specs/Machine.antt); of a statement that is not executable it says what the statement would do, which nothing depends on.
  unfoldable pub effect : Ways → S → Tree action → Outcome S
  effect h s (leaf l) = leaf_effect h s l
  effect h s (select os) = (Idle, s)
  effect h s (loop os) = (Idle, s)

-- ## what is printed
-- the bytes of a format, behind `was`, where k values are written before (specs/Formats.antt of `spec_text`)
unfoldable pub format : List ℤ → ℕ → ℕ → List ℕ → List ℕ
format vs was k [] = []
format vs was k (b ∷ bs) = formatted vs was b k ++ format vs (opened was b) (counted was b k) bs

abbrev pub text_by : List ℕ → WorkedOut → List ℕ
text_by w (all vs) = format vs 0 0 w
text_by w (stopped f) = []

-- a printf its text, any other statement nothing
abbrev pub leaf_prints : {S : Type 0} → Stage S → Leaf → List ℕ
leaf_prints c (express e) = []
leaf_prints c (assign r e) = []
leaf_prints c (increment r) = []
leaf_prints c (decrement r) = []
leaf_prints c (send o r es) = []
leaf_prints c (receive o r xs) = []
leaf_prints c (assert e) = []
leaf_prints c (print w es) = text_by w (values c.scene es)
leaf_prints c skip = []
leaf_prints c (goto w) = []
leaf_prints c break = []
leaf_prints c timeout = []
leaf_prints c else = []
leaf_prints c (run w es) = []
leaf_prints c (set_run r w es) = []

abbrev pub prints : {S : Type 0} → Stage S → Tree action → List ℕ
prints c (leaf l) = leaf_prints c l
prints c (select os) = []
prints c (loop os) = []
