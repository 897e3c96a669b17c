-- Top: a statement about the entries, over the specification.
-- DEMAND 1: whatever bytes or numbers arrive, every public entry answers and ends, relies on no caller, refuses with the number and place of document 01's table, and leaves each lent buffer as that
-- document says. That it answers and ends, with one answer and one content of lent memory, is its contract, an equation without any condition; here is which refusals there are. What is answered where
-- nothing is refused is demands 2 and 3.
use Rattle.std.specs.Prelude.{ℕ, ◌+◌, ◌≤◌, ◌<◌, ◌≡◌, ◌⊎◌, ◌↔◌, false, List, [], length, take, drop, ℤ, Result}
use Rattle.std.proofs.Math.Option.{none}
use Rattle.base_ceilings.specs.Ceilings.{normal_most, print_room, steps_most, tables_room, trail_most}
use Rattle.spec_text.specs.Placed.{Placed}
use Rattle.spec_text.specs.Writing.{tokens_in}
use Rattle.spec_grammar.specs.Tree.{Model}
use Rattle.spec_grammar.specs.Grammar.{Gram}
use Rattle.spec_grammar.specs.Depth.{too_deep}
use Rattle.spec_faults.specs.Faults.{faults_of}
use Rattle.spec_rules.specs.Ceilings as ceilings
use Rattle.spec_machine.specs.State.{State}
use Rattle.spec_machine.specs.Machine.{Move, step_of}
use Rattle.spec_machine.specs.Begins.{initial}
use Rattle.spec_machine.specs.Steps.{machine_of}
use Rattle.spec_trails.specs.Trails.{Recorded}
use Rattle.spec_trails.specs.Texts.{TextOf}
use Rattle.spec_refusals.specs.Texts.{Tokens}
use Rattle.spec_refusals.specs.Legal.{Legal}
use Rattle.spec_refusals.specs.Rows.{Refusal, Refused}
use Rattle.spec_refusals.specs.Trails.{Misformed}
use Rattle.read_passes.specs.Judging.{judge_of}
use Rattle.read_entry.specs.Entries as reading
use Rattle.read_entry.specs.Entries.{read_of, part_start}
use Rattle.spec_normal.specs.Normal.{normal}
use Rattle.normal_entry.specs.Entries as writing
use Rattle.normal_entry.specs.Entries.{answer_of, answer_from, left_from}
use Rattle.base_refusal.specs.declared.Refusal.{Refusal as Given}
use Rattle.spec_layout.specs.Layout.{layout}
use Rattle.layout_entry.specs.Entries as laying
use Rattle.step_entry.specs.Entries.{foreign_of, refusal_of, start_left, offered_of, verdict_for, outcome_of}
use Rattle.run_entry.specs.Entries.{ran_of}
use Rattle.trail_replay.specs.Entries.{replayed_of}
use Rattle.demands.specs.Lent.{Rooms, Tables, Holds, leaves, Refuses}
use Rattle.demands.specs.Walks.{Offers, Stops}
use Rattle.demands.specs.Said as said
use Rattle.demands.specs.Said.{refusal}

-- ## the reader, and the part that a refusal names
pub record Reader (t : List ℕ) : Type 0 where
  -- each number and place exactly where its row says
  pub refuses : (old : List ℕ) (x i n : ℕ) → (said.reader (read_of t old) ≡ refusal x i n) ↔ Refused t (length old) x i n
  -- 6, of a text that no row before it refuses: "any other ceiling passed, or no process starts", or the normal text too long (request One)
  pub six : (old : List ℕ) (ps : List Placed) (m : Model) → tables_room ≤ length old → Tokens t ps → (g : Gram (tokens_in t ps) m) → too_deep (tokens_in t ps) ≡ none → faults_of g ≡ []
      → (said.reader (read_of t old) ≡ refusal 6 0 0) ↔ ((ceilings.modest m ≡ false) ⊎ (normal_most < length (normal m)))
  -- "A refusal changes no lent number"
  pub unchanged : (old : List ℕ) (x i n : ℕ) → said.reader (read_of t old) ≡ refusal x i n → reading.left_of t old ≡ old
  -- "A further entry returns the part of the caller's text that 1 to 5 name": the bytes that it returns, and how far behind the text's first byte they lie in memory
  pub part : (x i n : ℕ) → Refusal t x i n → (reading.part t (judge_of t) ≡ take n (drop i t)) × (part_start (length t) (judge_of t) ≡ i) × (i + n ≤ length t)
  -- ".. for a text .. not so refused, the empty part at its start"
  pub no_part : Legal t → (reading.part t (judge_of t) ≡ []) × (part_start (length t) (judge_of t) ≡ 0)

-- ## what is written of a text, where f is the normal text or the layout of a tree: the reader's refusals, then "7 .. last for normal text's own room", and so for the layout's (request One)
pub data NotWritten (f : Model → List ℕ) (t : List ℕ) (room : ℕ) : ℕ → ℕ → ℕ → Type 0 where
  text : {x i n : ℕ} → Refusal t x i n → NotWritten f t room x i n
  no_room : (l : Legal t) → room < length (f l.tree) → NotWritten f t room 7 0 0

-- an entry answers, and leaves what is lent, so
pub record Writer (f : Model → List ℕ) (t : List ℕ) (answer : List ℕ → Result ℕ Given) (left : List ℕ → List ℕ) : Type 0 where
  pub refuses : (out : List ℕ) (x i n : ℕ) → (said.writer (answer out) ≡ refusal x i n) ↔ NotWritten f t (length out) x i n
  pub unchanged : (out : List ℕ) (x i n : ℕ) → said.writer (answer out) ≡ refusal x i n → left out ≡ out

-- ## what is written of tables: 7, 8, and 7 for its own room
pub data NotWrittenOf (f : Model → List ℕ) (ts : List ℕ) (room : ℕ) : ℕ → Type 0 where
  too_small : length ts < tables_room → NotWrittenOf f ts room 7
  no_model : tables_room ≤ length ts → ((m : Model) → Tables ts m → ⊥) → NotWrittenOf f ts room 8
  no_room : (m : Model) → tables_room ≤ length ts → Tables ts m → room < length (f m) → NotWrittenOf f ts room 7

pub record TablesWriter (f : Model → List ℕ) (ts : List ℕ) (answer : List ℕ → Result ℕ Given) (left : List ℕ → List ℕ) : Type 0 where
  pub refuses : (out : List ℕ) (x i n : ℕ) → (said.writer (answer out) ≡ refusal x i n) ↔ NotWrittenOf f ts (length out) x × (i ≡ 0) × (n ≡ 0)
  pub unchanged : (out : List ℕ) (x i n : ℕ) → said.writer (answer out) ≡ refusal x i n → left out ≡ out

-- ## the stepper: "Stepping: 7, 8, 9, 11", each at place 0
-- the single step: 7 for its paper too, first; 11 last
pub data NotTaken (ts : List ℕ) (s : List ℤ) (p k room : ℕ) : ℕ → Type 0 where
  no_paper : room < print_room → NotTaken ts s p k room 7
  lent : {x : ℕ} → print_room ≤ room → Refuses ts s x → NotTaken ts s p k room x
  not_offered : (m : Model) (σ : State) → print_room ≤ room → Holds ts s m σ → ((y : Move) → Offers (machine_of m) σ (step_of p k y) → ⊥) → NotTaken ts s p k room 11

pub record Stepper (ts : List ℕ) (s : List ℤ) : Type 0 where
  -- the number alone, 0 for none
  pub number : (x : ℕ) → 0 < x → (refusal_of ts s ≡ x) ↔ Refuses ts s x
  -- `start` has no numbers to judge, so 9 is no refusal of it
  pub start : (x : ℕ) → 0 < x → (foreign_of ts s ≡ x) ↔ Refuses ts s x × ((x ≡ 9) → ⊥)
  pub start_unchanged : (x : ℕ) → 0 < x → foreign_of ts s ≡ x → start_left ts s ≡ s
  pub offered : (n x : ℕ) → (said.list (offered_of ts s n) ≡ refusal x 0 0) ↔ Refuses ts s x
  pub verdict : (x : ℕ) → (said.verdict (verdict_for ts s) ≡ refusal x 0 0) ↔ Refuses ts s x
  pub step : (p k : ℕ) (out : List ℕ) (x : ℕ) → (said.step (outcome_of ts s p k out).answer ≡ refusal x 0 0) ↔ NotTaken ts s p k (length out) x
  pub step_unchanged : (p k : ℕ) (out : List ℕ) (x : ℕ) → said.step (outcome_of ts s p k out).answer ≡ refusal x 0 0 → ((outcome_of ts s p k out).state ≡ s) × ((outcome_of ts s p k out).printed ≡ out)
  pub run : (limit x : ℕ) → (said.run (ran_of ts s limit).0 ≡ refusal x 0 0) ↔ Refuses ts s x
  pub run_unchanged : (limit x : ℕ) → said.run (ran_of ts s limit).0 ≡ refusal x 0 0 → (ran_of ts s limit).1 ≡ s

-- ## replay: "7, length, 8, form .., then steps"; its line, and the numbers left
pub data TrailRefused (ts trail : List ℕ) (s : List ℤ) : ℕ → ℕ → List ℤ → Type 0 where
  no_room : (Rooms ts s → ⊥) → TrailRefused ts trail s 7 0 s
  too_long : Rooms ts s → trail_most < length trail → TrailRefused ts trail s 2 0 s
  no_model : Rooms ts s → length trail ≤ trail_most → ((m : Model) → Tables ts m → ⊥) → TrailRefused ts trail s 8 0 s
  -- 10, or 2 past 2,048 steps
  misformed : {x line : ℕ} (m : Model) → Rooms ts s → Tables ts m → length trail ≤ trail_most → Misformed trail x line → TrailRefused ts trail s x line s
  -- 11 and 12: "replay's 11 and 12 leave the state reached before the refused record"
  stops : {x line v : ℕ} (m : Model) (l : List Recorded) (τ : State) → Rooms ts s → Tables ts m → (f : TextOf steps_most trail l v) → Stops (machine_of m) f.claim l 1 (initial m) x line τ
      → TrailRefused ts trail s x line (leaves s m τ)

abbrev pub Replay : List ℕ → List ℕ → List ℤ → Type 0
Replay ts trail s = (x line : ℕ) (left : List ℤ) → ((said.replay (replayed_of ts trail s).0 ≡ refusal x line 0) × ((replayed_of ts trail s).1 ≡ left)) ↔ TrailRefused ts trail s x line left

-- ## every entry, any input
pub record Demand1 : Type 0 where
  pub reader : (t : List ℕ) → Reader t
  pub writer : (t : List ℕ) → Writer normal t (answer_of t) (writing.left_of t)
  pub tables_writer : (ts : List ℕ) → TablesWriter normal ts (answer_from ts) (left_from ts)
  pub layout_writer : (t : List ℕ) → Writer layout t (laying.answer_of t) (laying.left_of t)
  pub tables_layout_writer : (ts : List ℕ) → TablesWriter layout ts (laying.answer_from ts) (laying.left_from ts)
  pub stepper : (ts : List ℕ) (s : List ℤ) → Stepper ts s
  pub replay : (ts trail : List ℕ) (s : List ℤ) → Replay ts trail s
