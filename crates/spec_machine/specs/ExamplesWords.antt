-- Few words for worked examples: small models, their states, and their steps. The examples are in the files Examples*.antt beside this one, each computed from the definitions.
use Rattle.std.specs.Prelude.{ℕ, ◌≡◌, List, [], ◌∷◌, ℤ, pos, neg_ℤ}
use Rattle.std.proofs.Math.Option.{Option, none, some}
use Rattle.base_kinds.specs.Kinds.{bytes}
use Rattle.base_values.specs.Operators.{apply_of, unary_of, divide_of, remainder_of, shift_left_of, shift_right_of}
use Rattle.base_values.specs.declared.Fault.{Fault}
use Rattle.base_outcome.specs.declared.Taken.TheVariants.{Done, Refuted, Faulted, Idle}
use Rattle.spec_text.specs.Formats.{digits_by, escaped, formatted, opened, counted}
use Rattle.spec_grammar.specs.Tree.{Name, Expr, plain, num, get, unary, binary, action, sequence, options, Tree, select, loop, bare, end, then, over, option, Value, set_channel, variable, Declaration, declare, Group, body, idle, once, Part, process, init, Model}
use Rattle.spec_machine.specs.Effect.{Outcome, format}
use Rattle.spec_machine.specs.State.{Channel, Process, State}
use Rattle.spec_machine.specs.Begins.{initial}
use Rattle.spec_machine.specs.Machine.{Step, offered, asked, advance}
use Rattle.spec_machine.specs.Steps.{machine_of}
use Rattle.spec_machine.specs.Places.{start_of, end_of}
use Rattle.spec_machine.specs.Examples.{machine}
pub use Rattle.spec_machine.specs.Examples.{offer}

-- to unfold this is to unfold all that the examples compute with
unfoldable pub working : Unit {0}
unfolding machine asked format formatted opened counted escaped digits_by apply_of unary_of divide_of remainder_of shift_left_of shift_right_of
working = tt

-- ## names and numbers
abbrev pub a : Name
a = bytes "a"

abbrev pub b : Name
b = bytes "b"

abbrev pub c : Name
c = bytes "c"

abbrev pub d : Name
d = bytes "d"

abbrev pub i : Name
i = bytes "i"

abbrev pub m : Name
m = bytes "m"

abbrev pub n : Name
n = bytes "n"

abbrev pub P : Name
P = bytes "P"

abbrev pub Q : Name
Q = bytes "Q"

abbrev pub x : Name
x = bytes "x"

abbrev pub y : Name
y = bytes "y"

abbrev pub minus : ℕ → ℤ
minus k = neg_ℤ (pos k)

-- ## types, by the kinds of their tokens
abbrev pub bit : ℕ
bit = 38

abbrev pub bool : ℕ
bool = 39

abbrev pub byte : ℕ
byte = 40

abbrev pub mtype : ℕ
mtype = 41

abbrev pub pid : ℕ
pid = 42

abbrev pub chan : ℕ
chan = 43

abbrev pub short : ℕ
short = 44

abbrev pub int : ℕ
int = 45

-- ## trees
-- the value of a name
abbrev pub of : Name → Expr
of w = get (plain w)

abbrev pub neg : Expr → Expr
neg e = unary 15 e

abbrev pub quotient : Expr → Expr → Expr
quotient e f = binary 17 e f

abbrev pub sum : Expr → Expr → Expr
sum e f = binary 14 e f

abbrev pub greater : Expr → Expr → Expr
greater e f = binary 10 e f

-- `1/0`
abbrev pub faulty : Expr
faulty = quotient (num 1) (num 0)

-- statements without labels, one after the other
abbrev pub line : List (Tree action) → Tree sequence
line [] = end
line (s ∷ l) = then (bare s) (line l)

abbrev pub options_of : List (List (Tree action)) → Tree options
options_of [] = over
options_of (q ∷ l) = option (line q) (options_of l)

-- `if .. fi` and `do .. od` of these options
abbrev pub either : List (List (Tree action)) → Tree action
either l = select (options_of l)

abbrev pub again : List (List (Tree action)) → Tree action
again l = loop (options_of l)

-- `TYPE x=VALUE`, `TYPE a[size]=VALUE`, `chan c=[most]of{TYPES}`
abbrev pub scalar : ℕ → Name → Value → Declaration
scalar k w v = declare k (variable w none v ∷ [])

abbrev pub array : ℕ → Name → ℕ → Value → Declaration
array k w size v = declare k (variable w (some size) v ∷ [])

abbrev pub channel : Name → ℕ → List ℕ → Declaration
channel w most ks = declare chan (variable w none (set_channel most ks) ∷ [])

-- `init{..}`, `active proctype w(){..}`, `proctype w(..){..}`
abbrev pub main : List Declaration → List (Tree action) → Part
main ds l = init (body ds (line l))

abbrev pub active : Name → List Declaration → List (Tree action) → Part
active w ds l = process once w [] (body ds (line l))

abbrev pub proctype : Name → List Group → List Declaration → List (Tree action) → Part
proctype w gs ds l = process idle w gs (body ds (line l))

-- ## states
abbrev pub state : List (List ℤ) → List Process → List Channel → State
state gs ps cs = record { globals = gs; processes = ps; channels = cs }

-- a process of unit u at place j with these variables; a channel made by variable v of unit u
abbrev pub process_at : ℕ → ℕ → List (List ℤ) → Process
process_at u j vs = record { unit = u; place = j; variables = vs }

abbrev pub channel_of : ℕ → ℕ → List (List ℤ) → Channel
channel_of u v held = record { unit = u; variable = v; held = held }

-- one number, and one message of one field
abbrev pub one : ℤ → List ℤ
one v = v ∷ []

-- ## steps
abbrev pub taken_by : Model → State → Option Step → Outcome State
taken_by t σ none = (Idle, σ)
taken_by t σ (some s) = advance (machine_of t) σ s

-- what comes of the k-th offered step of process p; Idle, where there is none
abbrev pub taken : Model → ℕ → ℕ → State → Outcome State
taken t p k σ = taken_by t σ (asked (machine_of t) p k (offered (machine_of t) σ))

-- ## one statement: `init{DS;S}`
abbrev pub only : List Declaration → Tree action → Model
only ds s = main ds (s ∷ []) ∷ []

-- it stands at S, or at its end, with these variables and channels
abbrev pub before : List Declaration → Tree action → List (List ℤ) → List Channel → State
before ds s vs cs = state [] (process_at 0 (start_of (only ds s) 0) vs ∷ []) cs

abbrev pub behind : List Declaration → Tree action → List (List ℤ) → List Channel → State
behind ds s vs cs = state [] (process_at 0 (end_of (only ds s) 0) vs ∷ []) cs

-- in the initial state S is executable, and leaves these variables and channels
abbrev pub Gives : List Declaration → Tree action → List (List ℤ) → List Channel → Type 0
Gives ds s vs cs = taken (only ds s) 0 1 (initial (only ds s)) ≡ (Done, behind ds s vs cs)

abbrev pub Leaves : List Declaration → Tree action → List (List ℤ) → Type 0
Leaves ds s vs = Gives ds s vs []

-- it is executable there, faults and changes nothing; its assertion fails and changes nothing; it is not executable
abbrev pub Faults : List Declaration → Tree action → Fault → Type 0
Faults ds s f = taken (only ds s) 0 1 (initial (only ds s)) ≡ (Faulted f, initial (only ds s))

abbrev pub Refutes : List Declaration → Tree action → Type 0
Refutes ds s = taken (only ds s) 0 1 (initial (only ds s)) ≡ (Refuted, initial (only ds s))

abbrev pub Waits : List Declaration → Tree action → Type 0
Waits ds s = offered (machine_of (only ds s)) (initial (only ds s)) ≡ []

-- the same where S stands in any state: with these variables and channels before, and those after
abbrev pub Turns : List Declaration → Tree action → List (List ℤ) → List Channel → List (List ℤ) → List Channel → Type 0
Turns ds s vs cs ws es = taken (only ds s) 0 1 (before ds s vs cs) ≡ (Done, behind ds s ws es)

abbrev pub FaultsAt : List Declaration → Tree action → List (List ℤ) → List Channel → Fault → Type 0
FaultsAt ds s vs cs f = taken (only ds s) 0 1 (before ds s vs cs) ≡ (Faulted f, before ds s vs cs)

abbrev pub WaitsAt : List Declaration → Tree action → List (List ℤ) → List Channel → Type 0
WaitsAt ds s vs cs = offered (machine_of (only ds s)) (before ds s vs cs) ≡ []
