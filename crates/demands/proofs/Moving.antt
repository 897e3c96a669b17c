-- DEMAND 2, in a state of the model, proved: what is listed, taken, the verdict, the run.
use Prim.Native.Nat.{ℕ, zero, suc, ◌≤◌}
use native.Mathlib.Omega.{arith}
use mathlib.Core.Path.{◌≡◌, refl, sym as inv, ap, ◌∙◌, subst}
use mathlib.Core.Option.{Option, none, some}
use mathlib.Core.List.{List, [], ◌∷◌}
use lib.ListN.{length}
use lib.IntN.{ℤ}
use lib.Dec.{eqb}
use Rattle.base_values.specs.declared.Fault.{Fault}
use Rattle.base_values.specs.declared.Fault.TheVariants.{Divide, Shift, Index, Channel, Fields}
use Rattle.base_values.specs.Faults.{fault_number}
use borrow.Author.Tests.{le-ltb}
use Rattle.base_ceilings.specs.Ceilings.{print_room}
use Rattle.base_bytes.specs.Choice.{pick}
use Rattle.spec_grammar.specs.Tree.{Model}
use Rattle.base_outcome.specs.declared.Taken.{Taken}
use Rattle.base_outcome.specs.declared.Taken.TheVariants.{Done, Refuted, Faulted, Idle}
use Rattle.step_entry.specs.Entries.{foreign_of, start_left, Outcome, refused_by, outcome_of}
use Rattle.step_entry.specs.declared.Stepped.{Stepped}
use Rattle.step_entry.specs.declared.Stepped.TheVariants as stepped
use Rattle.spec_machine.specs.State.{State}
use Rattle.spec_machine.specs.Places.{Belongs}
use Rattle.spec_machine.specs.Fits.{Fits}
use Rattle.spec_machine.specs.Machine.{Move, Step, Verdict, finished, blocked, «open», step_of, move_of, offered, advance, verdict, asked}
use Rattle.spec_trails.specs.Runs.{Ending, stood, refuted, faulted, run_from}
use Rattle.spec_machine.specs.Steps.{machine_of}
use Rattle.agree_machine.proofs.Busy.{Busy}
use Rattle.demands.specs.Walks.{Nth, here, later, Offers}
use Rattle.demands.specs.Demand2.{Offering, Steps, Taking, Running, Moving, ended}
use Rattle.demands.specs.Said as said
use Rattle.demands.specs.Said.{values}
use Rattle.step_entry.specs.declared.Listed.TheVariants as listed
use Rattle.run_entry.specs.Runs.{ending_as}
use Rattle.run_entry.specs.declared.Ran.TheVariants as ran
use Rattle.spec_trails.specs.Replays.{standing, claimed}
use mathlib.Core.Logic.{◌↔◌}
use Rattle.demands.proofs.Offers.{asked-offers, offers-asked}
use Rattle.demands.proofs.TextOrder.{one_at_least}
use Rattle.demands.proofs.Walks.{missing, one-run, some-run}
use Rattle.demands.proofs.Good.{good_step}
use Rattle.demands.proofs.ByCases.{starts, by_cases}
use Rattle.demands.proofs.Lent.{foreign_none}
use Rattle.spec_machine.specs.Begins.{initial}
use Rattle.demands.specs.Lent.{Rooms, Tables, Holds, leaves}
use Rattle.demands.proofs.Entries.{a_state, standing_by, listed_by, done_by, taken_by, ran_by, stepped_by}

-- ---- the n-th of a list, and behind it
listed_nth : (all : ℕ) {x : Step} {k : ℕ} {l : List Step} → Nth x k l → (n : ℕ) → k ≡ suc n → listed_by all n l ≡ listed.Step x
listed_nth all here zero e = refl
listed_nth all here (suc n) e = absurd (omega arith)
listed_nth all (later h) zero e = absurd (omega (arith, one_at_least h))
listed_nth all (later h) (suc n) e = listed_nth all h n (omega arith)

listed-behind : (all n : ℕ) (l : List Step) → length l ≤ n → listed_by all n l ≡ listed.Only all
listed-behind all n [] h = refl
listed-behind all zero (x ∷ l) h = absurd (omega arith)
listed-behind all (suc n) (x ∷ l) h = listed-behind all n l (omega arith)

-- ---- what is said of the machine's verdicts
verdict-said : (v : Verdict) → said.verdict (standing_by v) ≡ values (claimed (standing v) ∷ [])
verdict-said finished = refl
verdict-said blocked = refl
verdict-said «open» = refl

ended-said : (e : Ending) (n : ℕ) → said.run (ran.Ended (ending_as e) n) ≡ values (ended e n)
ended-said (stood finished) n = refl
ended-said (stood blocked) n = refl
ended-said (stood «open») n = refl
ended-said refuted n = refl
ended-said (faulted f) n = refl

abbrev is_refused : Stepped → ℕ
is_refused (stepped.Took n) = 0
is_refused stepped.Assert = 0
is_refused (stepped.Fault f) = 0
is_refused (stepped.Refused x) = 1

-- ---- a state of the model
module _ (ts : List ℕ) (s : List ℤ) (m : Model) (σ : State) (h : Holds ts s m σ) where
  offering : Offering ts s m σ
  offering =
      let l = offered (machine_of m) σ in
      let off = (by_cases ts s).offered (a_state m σ h) in
      record {
        listed = λ n x g. ap said.list (off n ∙ listed_nth (length l) g n refl);
        behind = λ n g. ap said.list (off n ∙ listed-behind (length l) n l g);
      }

  -- a step with room for its text
  module _ (p k : ℕ) (out : List ℕ) (long : print_room ≤ length out) where
    roomy : outcome_of ts s p k out ≡ taken_by s m σ out (asked (machine_of m) p k (offered (machine_of m) σ))
    roomy = (by_cases ts s).step (a_state m σ h) p k out ∙ ap (λ b. pick b (refused_by 7 s out) (stepped_by (a_state m σ h) p k out)) (le-ltb (length out) print_room long)

    offered_so : (y : Move) (t : Taken) (τ : State) → Offers (machine_of m) σ (step_of p k y) → advance (machine_of m) σ (step_of p k y) ≡ (t, τ)
        → outcome_of ts s p k out ≡ done_by s out t (leaves s m τ) ((machine_of m).printed σ (step_of p k y))
    offered_so y t τ o e =
        roomy ∙ ap (taken_by s m σ out) (offers-asked (machine_of m) σ (step_of p k y) o) ∙ ap (λ (r : Taken × State). done_by s out r.0 (leaves s m r.1) ((machine_of m).printed σ (step_of p k y))) e

    refused_none : (x : Option Step) → asked (machine_of m) p k (offered (machine_of m) σ) ≡ x → (taken_by s m σ out x).answer ≡ stepped.Refused 11 → (y : Move) → Offers (machine_of m) σ (step_of p k y) → ⊥
    refused_none none e f y o = missing (inv e ∙ offers-asked (machine_of m) σ (step_of p k y) o)
    refused_none (some x) e f y o =
        let r = asked-offers (machine_of m) σ p k x e in
        let g = good_step ts s m h.rooms h.tables σ h.numbers.fits x (subst (Offers (machine_of m) σ) (inv r.0) r.1) in
        go (advance (machine_of m) σ x).0 (leaves s m (advance (machine_of m) σ x).1) ((machine_of m).printed σ x) g.busy f
      where
        go : (t : Taken) (l : List ℤ) (text : List ℕ) → Busy t → (done_by s out t l text).answer ≡ stepped.Refused 11 → ⊥
        go Done l text b e = let z : ◌≡◌ {A = ℕ} 0 1 = ap is_refused e in omega arith
        go Refuted l text b e = let z : ◌≡◌ {A = ℕ} 0 1 = ap is_refused e in omega arith
        go (Faulted f) l text b e = let z : ◌≡◌ {A = ℕ} 0 1 = ap is_refused e in omega arith
        go Idle l text b e = b

    none_refused : ((y : Move) → Offers (machine_of m) σ (step_of p k y) → ⊥) → (x : Option Step) → asked (machine_of m) p k (offered (machine_of m) σ) ≡ x → (taken_by s m σ out x).answer ≡ stepped.Refused 11
    none_refused n none e = refl
    none_refused n (some x) e = absurd (n (move_of x) (asked-offers (machine_of m) σ p k x e).1)

    pub not_offered : ((outcome_of ts s p k out).answer ≡ stepped.Refused 11) ↔ ((y : Move) → Offers (machine_of m) σ (step_of p k y) → ⊥)
    not_offered =
        let o = asked (machine_of m) p k (offered (machine_of m) σ) in
        ((λ e. refused_none o refl (inv (ap (λ (r : Outcome). r.answer) roomy) ∙ e)), (λ n. ap (λ (r : Outcome). r.answer) roomy ∙ none_refused n o refl))

    -- what an outcome says and leaves
    steps : (l : List ℕ) (o : Outcome) → outcome_of ts s p k out ≡ o → said.step o.answer ≡ values l → Steps ts s p k out l o.state o.printed
    steps l o e q = record { says = ap (λ (r : Outcome). said.step r.answer) e ∙ q; leaves_numbers = ap (λ (r : Outcome). r.state) e; leaves_bytes = ap (λ (r : Outcome). r.printed) e }

    taking : (y : Move) → Offers (machine_of m) σ (step_of p k y) → Taking ts s m σ p k out y
    taking y o =
        record {
          done = λ τ e. steps _ _ (offered_so y Done τ o e) refl;
          asserted = λ τ e. steps _ _ (offered_so y Refuted τ o e) refl;
          faulty = λ τ f e. steps _ _ (offered_so y (Faulted f) τ o e) refl;
        }

  running : (limit : ℕ) → Running ts s m σ limit
  running n =
      let M = machine_of m in
      let r = some-run M (Fits (Belongs m) m) (good_step ts s m h.rooms h.tables) n σ h.numbers.fits in
      record {
        steps = r.steps;
        ending = (run_from M n σ).ending;
        state = (run_from M n σ).state;
        runs = r.runs;
        answer = λ l e τ w. (
            let a = (by_cases ts s).run (a_state m σ h) n ∙ ap (ran_by s m) (one-run M w) in (ap (λ z. said.run z.0) a ∙ ended-said e (length l), ap (λ z. z.1) a)
            );
      }

  pub moving : Moving ts s m σ
  moving =
      record {
        offering = offering;
        taking = λ p k out y r o. taking p k out r y o;
        verdict_of = ap said.verdict ((by_cases ts s).verdict (a_state m σ h)) ∙ verdict-said (verdict (machine_of m) σ);
        running = running;
      }

pub starting : (ts : List ℕ) (s : List ℤ) (m : Model) → Rooms ts s → Tables ts m → (foreign_of ts s ≡ 0) × (start_left ts s ≡ leaves s m (initial m))
starting ts s m r h = (foreign_none ts s m r h, starts ts s m r h)

-- ---- the fault with a number
abbrev fault_by : ℕ → Fault
fault_by n = pick (eqb n 1) Divide (pick (eqb n 2) Shift (pick (eqb n 3) Index (pick (eqb n 4) Channel Fields)))

fault-back : (f : Fault) → fault_by (fault_number f) ≡ f
fault-back Divide = refl
fault-back Shift = refl
fault-back Index = refl
fault-back Channel = refl
fault-back Fields = refl

pub faults_apart : (f g : Fault) → fault_number f ≡ fault_number g → f ≡ g
faults_apart f g e = inv (fault-back f) ∙ ap fault_by e ∙ fault-back g
