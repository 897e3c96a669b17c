-- Document 01, "How it moves": "Offered steps are listed by process number, then text order", "(an ended option leads past `fi`, or back to `do`)", "An ended one keeps its number for the
-- whole run". The machine of a model: what each process is offered and does in a plain state.
use Rattle.std.specs.Prelude.{ℕ, ◌+◌, Bool, List, [], length, get_or, eqb}
use Rattle.base_bytes.specs.Choice.{pick}
use Rattle.spec_grammar.specs.Tree.{Sort, action, Tree, leaf, select, loop, bare, labelled, end, then, over, option, Model}
use Rattle.base_outcome.specs.declared.Taken.TheVariants.{Idle}
use Rattle.spec_machine.specs.Stage.{Stage, Ways}
use Rattle.spec_machine.specs.Ready.{ready}
use Rattle.spec_machine.specs.Effect.{Outcome, effect, prints}
use Rattle.spec_machine.specs.Offers.{offers}
use Rattle.spec_machine.specs.Sizes.{size_in}
use Rattle.spec_machine.specs.Program.{enter, label_in, start_in, end_in, sequence_of}
use Rattle.spec_machine.specs.State.{Process, State, no_process}
use Rattle.spec_machine.specs.Names.{unit_at}
use Rattle.spec_machine.specs.Begins.{items_before, body_in, body_of}
use Rattle.spec_machine.specs.Plain.{plain_stage}
use Rattle.spec_machine.specs.Machine.{Machine, alone}

-- ## the statement at a place: the tree's numbers begin with i, place n follows it, its loop ends before place o
pub data Found : Type 0 where
  nothing : Found
  -- the statement, the place that follows, the place behind its loop
  found : Tree action → ℕ → ℕ → Found

abbrev pub or_found : Found → Found → Found
or_found nothing y = y
or_found (found a n o) y = found a n o

abbrev pub here : Tree action → ℕ → ℕ → ℕ → ℕ → Found
here a i n o j = pick (eqb i j) (found a n o) nothing

unfoldable pub statement_at : {k : Sort} → Tree k → ℕ → ℕ → ℕ → ℕ → Found
statement_at (leaf l) i n o j = here (leaf l) i n o j
-- "an ended option leads past `fi`, or back to `do`"; `break` leads past `od`
statement_at (select os) i n o j = or_found (here (select os) i n o j) (statement_at os (i + 1) n o j)
statement_at (loop os) i n o j = or_found (here (loop os) i n o j) (statement_at os (i + 1) i n j)
statement_at (bare a) i n o j = statement_at a i n o j
statement_at (labelled w a) i n o j = statement_at a (i + 2) n o j
statement_at end i n o j = nothing
statement_at (then s q) i n o j = or_found (statement_at s i (enter q (i + size_in s) n) o j) (statement_at q (i + size_in s) n o j)
statement_at over i n o j = nothing
statement_at (option q os) i n o j = or_found (statement_at q (i + 1) n o j) (statement_at os (i + 2 + size_in q) n o j)

-- ## the machine of a model
module _ (m : Model) (σ : State) (p : ℕ) where
  abbrev me : Process
  me = get_or σ.processes p no_process

  abbrev at : ℕ
  at = body_in (unit_at m me.unit) (items_before m me.unit)

  abbrev pub stage_of : Stage State
  stage_of = plain_stage m p (unit_at m me.unit) σ

  -- what stands at place j of its body
  abbrev pub standing : ℕ → Found
  standing j = statement_at (sequence_of (body_of (unit_at m me.unit))) (start_in (body_of (unit_at m me.unit)) at) (end_in (body_of (unit_at m me.unit)) at) 0 j

  abbrev pub ways_of : ℕ → ℕ → Ways
  ways_of n o = record { next = n; out = o; label = λ w. label_in w (sequence_of (body_of (unit_at m me.unit))) (start_in (body_of (unit_at m me.unit)) at) 0 }

  abbrev pub steps_by : Bool → ℕ → Found → List ℕ
  steps_by late j nothing = []
  steps_by late j (found a n o) = offers (λ y i. ready stage_of late y) a j

  abbrev pub take_by : Found → Outcome State
  take_by nothing = (Idle, σ)
  take_by (found a n o) = effect stage_of (ways_of n o) σ a

  abbrev pub print_by : Found → List ℕ
  print_by nothing = []
  print_by (found a n o) = prints stage_of a

  unfoldable pub steps_of : Bool → List ℕ
  steps_of late = steps_by late me.place (standing me.place)

  unfoldable pub ended_of : Bool
  ended_of = eqb me.place (end_in (body_of (unit_at m me.unit)) at)

  unfoldable pub take_of : ℕ → Outcome State
  take_of j = take_by (standing j)

  unfoldable pub print_of : ℕ → List ℕ
  print_of j = print_by (standing j)

-- no statement has a partner
abbrev pub machine_of : Model → Machine State
machine_of m =
    record {
      processes = λ σ. length σ.processes;
      steps = λ σ late p. alone (steps_of m σ p late);
      ended = λ σ p. ended_of m σ p;
      take = λ σ x. take_of m σ x.process x.place;
      printed = λ σ x. print_of m σ x.process x.place;
    }
