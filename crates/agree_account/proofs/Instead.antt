-- WHAT A PROCESS WAS OFFERED INSTEAD: for an accepted text, in any state that fits, what its tables and the numbers of the state list is what the tree and the plain state list (`instead_shown`).
use Prim.Native.Nat.{ℕ}
use mathlib.Core.Path.{◌≡◌, refl, sym as inv, ap, ap₂, ◌∙◌}
use mathlib.Core.Bool.{Bool, true, false}
use mathlib.Core.List.{List, [], ◌∷◌, ◌++◌, append-nil}
use lib.ListN.{length}
use lib.IntN.{ℤ}
use lib.Dec.{eqb, ltb}
use Rattle.base_bytes.specs.Choice.{pick}
use Rattle.base_kinds.specs.Kinds.{bytes}
use Rattle.spec_text.specs.Formats.{digits_of}
use Rattle.spec_grammar.specs.Tree.{Model}
use Rattle.read_passes.specs.Judging.{tables_text}
use Rattle.read_accepts_proof.specs.Meaning.{Accepts}
use Rattle.spec_machine.specs.State.{State}
use Rattle.spec_machine.specs.Places.{Belongs}
use Rattle.spec_machine.specs.Fits.{Fits}
use Rattle.spec_machine.specs.Machine.{Step, offered}
use Rattle.spec_machine.specs.Steps.{machine_of}
use Rattle.spec_account.specs.Steps.{tab, statement_of, others_text, or_nothing, instead_text}
use Rattle.agree_encode.specs.Encode.{encode}
use Rattle.step_all.specs.Moving.{machine_in}
use Rattle.agree_transfer.specs.Alike.{In, first, behind}
use Rattle.agree_transfer.proofs.Machines.{offered-same}
use Rattle.agree_machine.proofs.Survey.{Holds, text_same}
use Rattle.show_steps.specs.Steps.{any_of, none_by, others_in, listed_in, instead_in}
use Rattle.agree_account.proofs.Few.{listed-all}
use Rattle.agree_account.proofs.Steps.{statement_there}
use Rattle.agree_account.proofs.Processes.{holding, processes_there}

-- that there is nothing is said where no step is one of the process
or_nothing_lem : (m : Model) (σ : State) (p : ℕ) (l : List Step) → others_text m σ p l ++ none_by (any_of p l) ≡ or_nothing m σ (others_text m σ p l)
unfolding others_text any_of
or_nothing_lem m σ p [] = refl
or_nothing_lem m σ p (x ∷ l) = go (eqb x.process p) (or_nothing_lem m σ p l)
  where
    go : (b : Bool) → others_text m σ p l ++ none_by (any_of p l) ≡ or_nothing m σ (others_text m σ p l)
        → pick b (bytes "    " ++ (digits_of x.number ++ (tab ∷ (statement_of m σ x ++ 10 ∷ [])))) [] ++ others_text m σ p l ++ none_by (pick b true (any_of p l))
        ≡ or_nothing m σ (pick b (bytes "    " ++ (digits_of x.number ++ (tab ∷ (statement_of m σ x ++ 10 ∷ [])))) [] ++ others_text m σ p l)
    go true e = append-nil (bytes "    " ++ (digits_of x.number ++ (tab ∷ (statement_of m σ x ++ 10 ∷ []))) ++ others_text m σ p l)
    go false e = e

module _ (t : List ℕ) (a : Accepts t) (rest : List ℤ) (σ : State) (f : Fits (Belongs a.tree) a.tree σ) where
  abbrev m : Model
  m = a.tree

  abbrev T : List ℕ
  T = tables_text t

  abbrev S : List ℤ
  S = encode m σ ++ rest

  -- all that is offered is listed, and it is what the tree offers
  pub offered-shown : listed_in (tables_text t) (encode a.tree σ ++ rest) ≡ offered (machine_of a.tree) σ
  offered-shown = listed-all T S ∙ inv (offered-same (Holds t a rest) (machine_of m) (machine_in T) (text_same t a rest) (holding t a rest σ f))

  others-shown : (p : ℕ) (l : List Step) → ((x : Step) → In x l → In x (offered (machine_of m) σ)) → others_in T p l ≡ others_text m σ p l
  unfolding others_in others_text
  others-shown p [] h = refl
  others-shown p (x ∷ l) h =
      ap₂ (λ (s k : List ℕ). pick (eqb x.process p) (bytes "    " ++ (digits_of x.number ++ (tab ∷ (s ++ 10 ∷ [])))) [] ++ k) (statement_there t a rest σ f x (h x first)) (others-shown p l (λ z i. h z (behind i)))

  -- WHAT PROCESS p WAS OFFERED
  pub instead_shown : (p : ℕ) → instead_in (tables_text t) (encode a.tree σ ++ rest) p ≡ instead_text a.tree σ p
  instead_shown p =
      ap₂ (λ (n : ℕ) (k : List Step). pick (ltb p n) (bytes "  process " ++ (digits_of p ++ (bytes " was offered instead:\n" ++ (others_in T p k ++ none_by (any_of p k))))) (bytes "  there is no process " ++ (digits_of p ++ 10 ∷ [])))
      (processes_there t a rest σ f) offered-shown
      ∙ ap (λ (w : List ℕ). pick (ltb p (length σ.processes)) (bytes "  process " ++ (digits_of p ++ (bytes " was offered instead:\n" ++ w))) (bytes "  there is no process " ++ (digits_of p ++ 10 ∷ [])))
      (ap (λ (w : List ℕ). w ++ none_by (any_of p (offered (machine_of m) σ))) (others-shown p (offered (machine_of m) σ) (λ x i. i)) ∙ or_nothing_lem m σ p (offered (machine_of m) σ))
