-- THE LINES OF A STEP: for an accepted text, in any state that fits, the lines that its tables and the numbers of the state give for an offered step are those of the tree and the plain state
-- (`offer-shown`, `step-shown`), and so are those of what came of it (`outcome-shown`); together they are what the code writes when it takes a step (`taken-shown`). A step that is asked for is offered (`asked_in`, Listed.antt).
use Prim.Native.Nat.{ℕ, ◌-◌, ◌≤◌, ◌<◌, min}
use mathlib.Core.Path.{◌≡◌, refl, sym as inv, ap, ap₂, ◌∙◌}
use mathlib.Core.List.{List, [], ◌∷◌, ◌++◌}
use native.Mathlib.Omega.{arith}
use lib.ListN.{length, take, drop, replicate, length-append, length-replicate}
use lib.Seq.{take-append_seam}
use lib.IntN.{ℤ, pos}
use Rattle.base_ceilings.specs.Ceilings.{state_room, print_room}
use Rattle.base_bytes.specs.Lists.{piece}
use Rattle.step_prints.specs.Printing as paper
use Rattle.base_outcome.specs.declared.Taken.{Taken}
use Rattle.base_outcome.specs.declared.Taken.TheVariants.{Done, Refuted, Faulted, Idle}
use Rattle.spec_text.specs.Formats.{digits_of}
use Rattle.spec_grammar.specs.Tree.{Model}
use Rattle.read_passes.specs.Judging.{tables_text}
use Rattle.read_accepts_proof.specs.Meaning.{Accepts}
use Rattle.spec_machine.specs.State.{State}
use Rattle.spec_machine.specs.Places.{Belongs}
use Rattle.spec_machine.specs.Fits.{Fits}
use Rattle.spec_machine.specs.Machine.{Machine, Step, late, offered, advance}
use Rattle.spec_machine.specs.Steps.{steps_of, print_of, machine_of}
use Rattle.spec_account.specs.Statements.{stands_at}
use Rattle.spec_account.specs.States.{at_text, title_text}
use Rattle.spec_account.specs.Steps.{tab, printed_text, unit_of, statement_of, offer_text, row_text, step_text, outcome_text}
use Rattle.agree_encode.specs.Encode.{encode}
use Rattle.agree_transfer.specs.Alike.{In}
use Rattle.agree_transfer.proofs.Statements.{within_found}
use Rattle.agree_tables.proofs.Main.{in_alone}
use Rattle.agree_machine.proofs.Fitted.{text-fits}
use Rattle.agree_machine.proofs.Prints.{Stood, stood, text-printed, text-short}
use Rattle.agree_listing.proofs.Main.{title_shown}
use Rattle.agree_texts.proofs.Main.{seen_shown, place-shown}
use Rattle.agree_deeds.proofs.Main.{deeds-shown}
use Rattle.show_statement.specs.Statements.{seen_in, length_from, place_in}
use Rattle.show_steps.specs.Steps.{padded, title_at, offer_in, step_in, outcome_in, paper_of, printed_in, taken_in}
use Rattle.agree_account.proofs.Listed.{offered-listed}

module _ (t : List ℕ) (a : Accepts t) (rest : List ℤ) (σ : State) (f : Fits (Belongs a.tree) a.tree σ) (x : Step) (i : In x (offered (machine_of a.tree) σ)) where
  abbrev m : Model
  m = a.tree

  abbrev T : List ℕ
  T = tables_text t

  abbrev S : List ℤ
  S = encode m σ ++ rest

  abbrev M : Machine State
  M = machine_of a.tree

  here : x.process < length σ.processes
  here = (offered-listed M σ x i).0

  listed : In x.place (steps_of m σ x.process (late M σ))
  listed = in_alone (steps_of m σ x.process (late M σ)) (offered-listed M σ x i).1

  at : Stood t a rest σ f x.process here x.place
  at = stood t a rest σ f x.process here (late M σ) x.place listed

  -- its statement, its place and its proctype
  pub statement_there : seen_in (tables_text t) x.place ≡ statement_of a.tree σ x
  statement_there =
      let e = within_found at.at in
      seen_shown t a (unit_of m σ x.process) x.place at.act at.next at.out e ∙ ap (at_text m σ) (inv e)

  place_there : length_from T 0 - length_from T x.place ≡ stands_at m (unit_of m σ x.process) x.place
  unfolding place_in
  place_there = place-shown t a (unit_of m σ x.process) x.place at.act at.next at.out (within_found at.at)

  title_there : title_at T S x.process ≡ title_text m σ x.process
  title_there = title_shown t a σ f rest x.process here

  -- AN OFFERED STEP
  pub offer-shown : offer_in (tables_text t) (encode a.tree σ ++ rest) x ≡ offer_text a.tree σ x
  offer-shown = ap₂ (λ (w s : List ℕ). digits_of x.process ++ (tab ∷ (digits_of x.number ++ (tab ∷ (w ++ (tab ∷ (s ++ 10 ∷ []))))))) title_there statement_there

  -- A STEP OF A TRAIL
  pub step-shown : (n : ℕ) → step_in (tables_text t) (encode a.tree σ ++ rest) (length_from (tables_text t) 0) n x ≡ step_text a.tree σ n x
  step-shown n =
      ap₂ (λ (w s : List ℕ). row_text m σ n x.process x.number ++ (w ++ (tab ∷ (digits_of (length_from T 0 - length_from T x.place) ++ (tab ∷ (s ++ 10 ∷ [])))))) title_there statement_there
      ∙ ap (λ (k : ℕ). row_text m σ n x.process x.number ++ (title_text m σ x.process ++ (tab ∷ (digits_of k ++ (tab ∷ (statement_of m σ x ++ 10 ∷ [])))))) place_there

  -- WHAT CAME OF IT
  pub outcome-shown : (r : Taken) (τ : State) → advance (machine_of a.tree) σ x ≡ (r, τ)
      → outcome_in (tables_text t) (encode a.tree σ ++ rest) (encode a.tree τ ++ rest) x (print_of a.tree σ x.process x.place) r ≡ outcome_text a.tree σ x r τ
  unfolding advance
  outcome-shown Done τ e = ap (λ (l : List ℕ). l ++ printed_text (print_of m σ x.process x.place)) (deeds-shown t a rest σ f x.process here (late M σ) x.place listed τ e)
  outcome-shown Refuted τ e = refl
  outcome-shown (Faulted f) τ e = refl
  outcome-shown Idle τ e = refl

  -- what it printed, on the paper that the code lends, which is long enough
  written : (l : List ℕ) → length l ≤ 100 → piece (paper_of l).bytes 0 (paper_of l).at ≡ l
  written l h =
      let z : List ℕ = replicate print_room 0 in
      let e = text-fits l z (omega (arith, length-replicate {A = ℕ} print_room 0)) in
      ap (λ (w : paper.Pen). piece w.bytes 0 w.at) e ∙ whole (drop (length l) z)
    where
      whole : (u : List ℕ) → piece (l ++ u) 0 (length l) ≡ l
      whole u =
          let n : min (length l) (length (l ++ u)) ≡ length l = omega (arith, length-append l u) in
          let k : min 0 (length l) ≡ 0 = omega arith in
          let j : length l - 0 ≡ length l = omega arith in
          rw (n, k, j) (take-append_seam l u)

  printed_there : printed_in T S x ≡ print_of m σ x.process x.place
  printed_there =
      ap (λ (l : List ℕ). piece (paper_of l).bytes 0 (paper_of l).at) (inv (text-printed t a rest σ f x.process here (late M σ) x.place listed))
      ∙ written (print_of m σ x.process x.place) (text-short t a rest σ f x.process here (late M σ) x.place listed)

  -- the numbers of a state are kept as they are
  kept_there : length S ≡ state_room → padded state_room S ≡ S
  kept_there l = ap (λ (n : ℕ). take n (S ++ replicate state_room (pos 0))) (inv l) ∙ take-append_seam S (replicate state_room (pos 0))

  -- BOTH, as the code tells a step that it takes
  pub taken-shown : (n : ℕ) (r : Taken) (τ : State) → length (encode a.tree σ ++ rest) ≡ state_room → advance (machine_of a.tree) σ x ≡ (r, τ)
      → taken_in (tables_text t) (encode a.tree σ ++ rest) (encode a.tree τ ++ rest) (length_from (tables_text t) 0) n x r ≡ step_text a.tree σ n x ++ outcome_text a.tree σ x r τ
  taken-shown n r τ l e = ap₂ ◌++◌ (step-shown n) (ap₂ (λ (k : List ℤ) (w : List ℕ). outcome_in T k (encode m τ ++ rest) x w r) (kept_there l) printed_there ∙ outcome-shown r τ e)
