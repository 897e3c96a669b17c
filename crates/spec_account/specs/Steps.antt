-- THE STEPS, told one by one: an offered step with its process, its number among the steps of that process, its proctype and its statement; a step of a trail with its line, its process, its number, its
-- proctype, the place of its statement in the normal text and the statement, and below it, each behind a tab, what it did, what it printed, or why it failed. A record that is not offered ends the list, and
-- two blanks in stands what its process was offered instead.
use Rattle.std.specs.Prelude.{ℕ, ◌+◌, Bool, true, false, List, [], ◌∷◌, ◌++◌, length, get_or, ℤ, pos, eqb, ltb}
use Rattle.std.proofs.Math.Option.{Option, none, some}
use Rattle.base_bytes.specs.Choice.{pick}
use Rattle.base_bytes.specs.Numbers.{nat}
use Rattle.base_kinds.specs.Kinds.{bytes}
use Rattle.base_values.specs.declared.Fault.{Fault}
use Rattle.base_values.specs.declared.Fault.TheVariants.{Divide, Shift, Index, Channel, Fields}
use Rattle.base_outcome.specs.declared.Taken.{Taken}
use Rattle.base_outcome.specs.declared.Taken.TheVariants.{Done, Refuted, Faulted, Idle}
use Rattle.spec_text.specs.Formats.{digits_of, decimal_of}
use Rattle.spec_grammar.specs.Tree.{Name, Ref, plain, indexed, Part, Model}
use Rattle.spec_machine.specs.Arguments.{name_of}
use Rattle.spec_machine.specs.State.{State, no_process}
use Rattle.spec_machine.specs.Names.{unit_at, meant}
use Rattle.spec_machine.specs.Plain.{channel_at, numbers_of}
use Rattle.spec_machine.specs.Machine.{Step, offered, asked, advance}
use Rattle.spec_machine.specs.Steps.{Found, nothing, found, standing, stage_of, print_of, machine_of}
use Rattle.spec_trails.specs.Trails.{Recorded}
use Rattle.spec_account.specs.Bytes.{each_escaped}
use Rattle.spec_account.specs.Statements.{stands_at}
use Rattle.spec_account.specs.Deeds.{Deed, stored, sent, received, started, deeds}
use Rattle.spec_account.specs.States.{message_text, at_text, title_text}

abbrev pub tab : ℕ
tab = 9

-- ## what was done
abbrev pub index_text : Ref → ℕ → List ℕ
index_text (plain w) k = []
index_text (indexed w e) k = 91 ∷ (digits_of k ++ 93 ∷ [])

-- by process p, whose unit is u, in a step that led from σ to τ: what a variable holds and which message was sent is told as it stands in τ, which message was received as it stood in σ
module _ (m : Model) (p : ℕ) (u : Part) (σ τ : State) where
  abbrev pub deed_text : Deed → List ℕ
  deed_text (stored r k v) = bytes "\tstored " ++ (name_of r ++ (index_text r k ++ (32 ∷ (decimal_of (get_or (numbers_of m p τ (meant m u (name_of r))) k (pos 0)) ++ 10 ∷ []))))
  deed_text (sent v k vs) = bytes "\tsent " ++ (digits_of (nat v) ++ (message_text (get_or (channel_at τ v).held k []) ++ 10 ∷ []))
  deed_text (received v k) = bytes "\treceived " ++ (digits_of (nat v) ++ (message_text (get_or (channel_at σ v).held k []) ++ 10 ∷ []))
  deed_text (started w vs) = bytes "\tstarted " ++ (digits_of (length σ.processes) ++ (32 ∷ (w ++ 10 ∷ [])))

  abbrev pub is_started : Deed → Bool
  is_started (stored r k v) = false
  is_started (sent v k vs) = false
  is_started (received v k) = false
  is_started (started w vs) = true

  -- the deeds that start a process, or those that do not
  unfoldable pub deeds_by : Bool → List Deed → List ℕ
  deeds_by b [] = []
  deeds_by true (d ∷ ds) = pick (is_started d) (deed_text d) [] ++ deeds_by true ds
  deeds_by false (d ∷ ds) = pick (is_started d) [] (deed_text d) ++ deeds_by false ds

  -- a process that began is told last
  abbrev pub deeds_text : List Deed → List ℕ
  deeds_text ds = deeds_by false ds ++ deeds_by true ds

abbrev pub printed_text : List ℕ → List ℕ
printed_text [] = []
printed_text (b ∷ l) = bytes "\tprinted " ++ (each_escaped (b ∷ l) ++ 10 ∷ [])

abbrev pub fault_text : Fault → List ℕ
fault_text Divide = bytes "\tfault: a divisor is 0\n"
fault_text Shift = bytes "\tfault: a shift is outside 0 to 31\n"
fault_text Index = bytes "\tfault: an index is out of range\n"
fault_text Channel = bytes "\tfault: the channel was never made\n"
fault_text Fields = bytes "\tfault: the channel has another number of fields\n"

module _ (m : Model) (σ : State) where
  abbrev pub unit_of : ℕ → ℕ
  unit_of p = (get_or σ.processes p no_process).unit

  abbrev pub deeds_at : ℕ → Found → List Deed
  deeds_at p nothing = []
  deeds_at p (found a n o) = deeds (stage_of m σ p) a

  abbrev pub done_text : Step → State → List ℕ
  done_text x τ = deeds_text m x.process (unit_at m (unit_of x.process)) σ τ (deeds_at x.process (standing m σ x.process x.place)) ++ printed_text (print_of m σ x.process x.place)

  -- what came of a step, and the state after
  abbrev pub outcome_text : Step → Taken → State → List ℕ
  outcome_text x Done τ = done_text x τ
  outcome_text x Refuted τ = bytes "\tassert: the assertion is 0\n"
  outcome_text x (Faulted f) τ = fault_text f
  outcome_text x Idle τ = []

  -- ## lines of steps
  abbrev pub statement_of : Step → List ℕ
  statement_of x = at_text m σ (standing m σ x.process x.place)

  abbrev pub offer_text : Step → List ℕ
  offer_text x = digits_of x.process ++ (tab ∷ (digits_of x.number ++ (tab ∷ (title_text m σ x.process ++ (tab ∷ (statement_of x ++ 10 ∷ []))))))

  unfoldable pub offers_text : List Step → List ℕ
  offers_text [] = []
  offers_text (x ∷ xs) = offer_text x ++ offers_text xs

  -- line i of a trail asks for the k-th step of process p
  abbrev pub row_text : ℕ → ℕ → ℕ → List ℕ
  row_text i p k = digits_of i ++ (tab ∷ (digits_of p ++ (tab ∷ (digits_of k ++ tab ∷ []))))

  abbrev pub step_text : ℕ → Step → List ℕ
  step_text i x =
      row_text i x.process x.number
      ++ (title_text m σ x.process ++ (tab ∷ (digits_of (stands_at m (unit_of x.process) x.place) ++ (tab ∷ (statement_of x ++ 10 ∷ [])))))

  -- ## a record that is not offered
  abbrev pub refused_text : ℕ → ℕ → ℕ → List ℕ
  refused_text i p k = row_text i p k ++ bytes "not offered\n"

  unfoldable pub others_text : ℕ → List Step → List ℕ
  others_text p [] = []
  others_text p (x ∷ xs) = pick (eqb x.process p) (bytes "    " ++ (digits_of x.number ++ (tab ∷ (statement_of x ++ 10 ∷ [])))) [] ++ others_text p xs

  abbrev pub or_nothing : List ℕ → List ℕ
  or_nothing [] = bytes "    nothing\n"
  or_nothing (b ∷ l) = b ∷ l

  -- what process p was offered
  abbrev pub instead_text : ℕ → List ℕ
  instead_text p =
      pick (ltb p (length σ.processes))
      (bytes "  process " ++ (digits_of p ++ (bytes " was offered instead:\n" ++ or_nothing (others_text p (offered (machine_of m) σ)))))
      (bytes "  there is no process " ++ (digits_of p ++ 10 ∷ []))

-- ## a trail's records, from a line on, in a state; `failed` says that the step before failed
module _ (m : Model) where
  abbrev pub followed_text : Taken → State → (Bool → State → List ℕ) → List ℕ
  followed_text Done τ rest = rest false τ
  followed_text Refuted τ rest = rest true τ
  followed_text (Faulted f) τ rest = rest true τ
  followed_text Idle τ rest = []

  abbrev pub taken_text : ℕ → State → Recorded → Option Step → (Bool → State → List ℕ) → List ℕ
  taken_text i σ a none rest = refused_text m σ i a.process a.choice ++ instead_text m σ a.process
  taken_text i σ a (some x) rest = step_text m σ i x ++ (outcome_text m σ x (advance (machine_of m) σ x).0 (advance (machine_of m) σ x).1 ++ followed_text (advance (machine_of m) σ x).0 (advance (machine_of m) σ x).1 rest)

  unfoldable pub trail_text : List Recorded → ℕ → Bool → State → List ℕ
  trail_text [] i failed σ = []
  trail_text (a ∷ more) i true σ = refused_text m σ i a.process a.choice ++ bytes "  the step before failed, and nothing follows it\n"
  trail_text (a ∷ more) i false σ = taken_text i σ a (asked (machine_of m) a.process a.choice (offered (machine_of m) σ)) (λ f τ. trail_text more (i + 1) f τ)
