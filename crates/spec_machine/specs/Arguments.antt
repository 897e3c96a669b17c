-- Document 01, "How it moves": "Within a statement work goes left to right in the text, but a channel's number and field count are tested first", "Faults: .. index out of range, a channel
-- number that was never made, wrong field count at run time", "each constant and `eval` equals its field, tried left to right to the first difference". Targets, channel operands and
-- arguments worked out; the first fault ends the work.
use Rattle.std.specs.Prelude.{ℕ, ◌+◌, min, List, [], ◌∷◌, ℤ, pos, negsuc, eqb, ltb, Result, Ok, Err}
use Rattle.base_bytes.specs.Choice.{pick}
use Rattle.base_values.specs.Operators.{is_true, equal_by}
use Rattle.base_values.specs.declared.Fault.{Fault}
use Rattle.base_values.specs.declared.Fault.TheVariants.{Index, Channel, Fields}
use Rattle.spec_grammar.specs.Tree.{Name, Expr, Ref, plain, indexed, Received, into, equal, exactly, exactly_true, exactly_false}
use Rattle.spec_machine.specs.Eval.{Scene, eval}
use Rattle.spec_machine.specs.Stage.{Message, Stage}
use Rattle.spec_machine.specs.Messages.{Finding, find_from}

-- ## references
abbrev pub name_of : Ref → Name
name_of (plain w) = w
name_of (indexed w e) = w

-- which number of its variable a reference means, or a fault
pub data Aim : Type 0 where
  hit : ℕ → Aim
  miss : Fault → Aim

-- "index out of range"
abbrev pub aim_by : Scene → Name → Result ℤ Fault → Aim
aim_by c w (Ok (pos i)) = pick (ltb i (c.size w)) (hit i) (miss Index)
aim_by c w (Ok (negsuc i)) = miss Index
aim_by c w (Err f) = miss f

abbrev pub aim : Scene → Ref → Aim
aim c (plain w) = hit 0
aim c (indexed w e) = aim_by c w (eval c e)

-- ## channel operands
-- the number of a channel that was made, or a fault
pub data Reach : Type 0 where
  channel : ℤ → Reach
  astray : Fault → Reach

-- "a channel number that was never made, wrong field count at run time", for n arguments
abbrev pub reach_by : {S : Type 0} → Stage S → ℕ → ℤ → Reach
reach_by c n v = pick (c.scene.made v) (pick (eqb (c.fields v) n) (channel v) (astray Fields)) (astray Channel)

abbrev pub reach_at : {S : Type 0} → Stage S → ℕ → Name → Aim → Reach
reach_at c n w (hit k) = reach_by c n (c.scene.element w k)
reach_at c n w (miss f) = astray f

abbrev pub reach : {S : Type 0} → Stage S → Ref → ℕ → Reach
reach c r n = reach_at c n (name_of r) (aim c.scene r)

-- ## the arguments of a send, a run or a printf
pub data WorkedOut : Type 0 where
  all : List ℤ → WorkedOut
  stopped : Fault → WorkedOut

abbrev pub first : ℤ → WorkedOut → WorkedOut
first v (all vs) = all (v ∷ vs)
first v (stopped f) = stopped f

abbrev pub values_by : Result ℤ Fault → WorkedOut → WorkedOut
values_by (Ok v) vs = first v vs
values_by (Err f) vs = stopped f

unfoldable pub values : Scene → List Expr → WorkedOut
values c [] = all []
values c (e ∷ es) = values_by (eval c e) (values c es)

-- ## the arguments of a receive, against the fields of a message
-- 1 where it agrees with field f, 0 where it differs; a variable agrees with every field, and is stored to later
abbrev pub agree : {S : Type 0} → Stage S → Message → ℕ → Received → Result ℤ Fault
agree c x f (into r) = pick (c.constant (name_of r)) (equal_by (eval c.scene r) (x f)) (Ok (pos 1))
agree c x f (equal e) = equal_by (eval c.scene e) (x f)
agree c x f (exactly n) = equal_by (Ok (pos n)) (x f)
agree c x f exactly_true = equal_by (Ok (pos 1)) (x f)
agree c x f exactly_false = equal_by (Ok (pos 0)) (x f)

-- "each constant and `eval` equals its field, tried left to right to the first difference"
abbrev pub agree_by : Result ℤ Fault → Result ℤ Fault → Result ℤ Fault
agree_by (Ok v) y = pick (is_true v) y (Ok v)
agree_by (Err f) y = Err f

unfoldable pub agrees : {S : Type 0} → Stage S → Message → ℕ → List Received → Result ℤ Fault
agrees c x f [] = Ok (pos 1)
agrees c x f (r ∷ rs) = agree_by (agree c x f r) (agrees c x (f + 1) rs)

-- ## what a receive finds in channel v: the oldest message alone is tried, where there is one
abbrev pub finding : {S : Type 0} → Stage S → ℤ → List Received → Finding
finding c v xs = find_from (λ k. agrees c (c.message v k) 0 xs) 0 (min 1 (c.scene.waiting v))

-- ## the targets of a receive: which number of its variable each argument means; one that is compared has none
pub data Aims : Type 0 where
  hits : List ℕ → Aims
  missed : Fault → Aims

abbrev pub before : ℕ → Aims → Aims
before k (hits ks) = hits (k ∷ ks)
before k (missed f) = missed f

abbrev pub aims_by : Aim → Aims → Aims
aims_by (hit k) ks = before k ks
aims_by (miss f) ks = missed f

abbrev pub target : {S : Type 0} → Stage S → Received → Aim
target c (into r) = pick (c.constant (name_of r)) (hit 0) (aim c.scene r)
target c (equal e) = hit 0
target c (exactly n) = hit 0
target c exactly_true = hit 0
target c exactly_false = hit 0

unfoldable pub targets : {S : Type 0} → Stage S → List Received → Aims
targets c [] = hits []
targets c (x ∷ xs) = aims_by (target c x) (targets c xs)
