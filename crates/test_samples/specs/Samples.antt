-- Tests: worked examples and stored cases.
-- The sample sheet of document 01 as one list: "Sample sheet (P: prove as one list, one result for all)". Each sample has its text, what it asks and the answer that the
-- sheet gives; that all of them hold is `samples_hold` (proofs/Sheet.antt). All is worked out from the bytes of the text, by the definitions that contracts name.
-- Each is asked of the public entries: `read` on room for tables, `start` on room for a state, then `step` or `verdict`; refusals of `read`, normal text of `normal`.
use Rattle.std.specs.Prelude.{List, [], ◌∷◌, ◌++◌, ◌≡◌, ℕ, length, replicate, ℤ, pos, neg_ℤ, Ok, Err}
use Rattle.base_ceilings.specs.Ceilings.{print_room, state_room, tables_room}
use Rattle.base_kinds.specs.Kinds.{bytes}
use Rattle.base_refusal.specs.Refusals.{refusal}
use Rattle.read_entry.specs.Entries.{read_of}
use Rattle.read_entry.specs.Entries.{left_of as tables_left}
use Rattle.normal_entry.specs.Entries.{answer_of, left_of}
use Rattle.base_values.specs.declared.Fault.{Fault}
use Rattle.base_values.specs.declared.Fault.TheVariants.{Divide, Shift}
use Rattle.state_layout.specs.Layout.{global_at_lem, cell_of}
use Rattle.step_entry.specs.Entries.{start_left, verdict_for, Outcome, outcome_of}
use Rattle.step_entry.specs.declared.Stepped.TheVariants.{Took}
use Rattle.step_entry.specs.declared.Stepped.TheVariants as stepped
use Rattle.step_entry.specs.declared.Standing.TheVariants.{Blocked}

abbrev pub Bytes : Type 0
Bytes = List ℕ

-- what the sheet says of a text
pub data Sample : Type 0 where
  -- an expression has this value
  gives : Bytes → ℤ → Sample
  -- working an expression out is this fault
  faults : Bytes → Fault → Sample
  -- an expression's value, stored in a variable of this type, is then this number
  stores : Bytes → Bytes → ℤ → Sample
  -- a model is blocked in its initial state
  blocks : Bytes → Sample
  -- a model is refused, with this number, at this byte, over this length
  refuses : Bytes → ℕ → ℕ → ℕ → Sample
  -- a model has this normal text
  becomes : Bytes → Bytes → Sample

abbrev minus : ℕ → ℤ
minus n = neg_ℤ (pos n)

-- ## the sheet
abbrev pub sheet : List Sample
sheet =
    -- P1
    gives (bytes "2+5*3") (pos 17) ∷
    -- P2
    gives (bytes "-7/2") (minus 3) ∷ gives (bytes "-7%2") (minus 1) ∷
    -- P3
    gives (bytes "479001600*13") (pos 1932053504) ∷
    -- P4
    gives (bytes "(-2147483647-1)/-1") (minus 2147483648) ∷
    -- P5
    gives (bytes "1<<31") (minus 2147483648) ∷ faults (bytes "1<<32") Shift ∷
    -- P6
    stores (bytes "300") (bytes "byte") (pos 44) ∷ stores (bytes "40000") (bytes "short") (minus 25536) ∷
    stores (bytes "-1") (bytes "byte") (pos 255) ∷ stores (bytes "2") (bytes "bit") (pos 0) ∷
    -- P7
    gives (bytes "0&&1/0") (pos 0) ∷ faults (bytes "1/0&&0") Divide ∷
    -- P8
    blocks (bytes "init{0}") ∷
    -- P9
    refuses (bytes "init{'}") 1 5 1 ∷
    -- P10
    becomes (bytes "init { /* O'Neill */ (01 + 2) * 3 -> skip ; }") (bytes "init{(1+2)*3;skip}") ∷
    -- P11
    becomes (bytes "init{int a;a-(-a)}") (bytes "init{int a;a- -a}") ∷ []

-- ## what each asks
-- "tables are lent as 16,384 unsigned 32-bit numbers"
abbrev pub lent : List ℕ
lent = replicate tables_room 0

-- what `read` leaves there of a text, and `start` in a state's room, for these tables
abbrev pub tables : Bytes → List ℕ
tables m = tables_left m lent

abbrev pub cleared : List ℤ
cleared = replicate state_room (pos 0)

abbrev pub started : Bytes → List ℤ
started m = start_left (tables m) cleared

-- the first step that process 0 is offered in the initial state, taken with room for what it prints
abbrev pub paper : List ℕ
paper = replicate print_room 0

abbrev pub first_step : Bytes → Outcome
first_step m = outcome_of (tables m) (started m) 0 1 paper

-- `TYPE x;init{x=EXPRESSION}`
abbrev pub storing : Bytes → Bytes → Bytes
storing e w = w ++ (bytes " x;init{x=" ++ (e ++ bytes "}"))

-- it is accepted, the step is taken, prints nothing, and leaves this in x, the first global number
abbrev pub Stored : Bytes → ℤ → Type 0
Stored m z = (read_of m lent ≡ Ok tt) × ((first_step m).answer ≡ Took 0) × (cell_of (first_step m).state (global_at_lem 0) ≡ z)

-- it is accepted, and the step is this fault
abbrev pub Faulted : Bytes → Fault → Type 0
Faulted m f = (read_of m lent ≡ Ok tt) × ((first_step m).answer ≡ stepped.Fault f)

-- normal text: where just its room is lent, it is all that is there afterwards
abbrev pub room_for : Bytes → List ℕ
room_for u = replicate (length u) 0

abbrev pub Holds : Sample → Type 0
-- a value is one that an `int` takes unchanged
Holds (gives e v) = Stored (storing e (bytes "int")) v
Holds (faults e f) = Faulted (storing e (bytes "int")) f
Holds (stores e w z) = Stored (storing e w) z
Holds (blocks m) = (read_of m lent ≡ Ok tt) × (verdict_for (tables m) (started m) ≡ Blocked)
Holds (refuses m x i n) = read_of m lent ≡ Err (refusal x i n)
Holds (becomes m u) = (answer_of m (room_for u) ≡ Ok (length u)) × (left_of m (room_for u) ≡ u)

-- each of a list
abbrev pub All : List Sample → Type 0
All [] = Unit {0}
All (x ∷ xs) = Holds x × All xs
