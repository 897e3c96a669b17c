-- Tests: worked examples and stored cases.
-- A LENT STATE THAT PUTS A PROCESS AT AN `else` ITSELF, which no run leads to (docs/DECISIONS.md, 65): `init{if::0::else fi}`, whose `else` has place 8. Computed over the machine.
use Rattle.std.specs.Prelude.{ℕ, ◌≡◌, refl, List, [], ◌∷◌}
use Rattle.spec_grammar.specs.Tree.{num, leaf, express, else, Model}
use Rattle.spec_machine.specs.State.{State}
use Rattle.spec_machine.specs.Machine.{offered, verdict, blocked, «open»}
use Rattle.spec_machine.specs.Steps.{machine_of}
use Rattle.spec_machine.specs.Places.{start_of}
use Rattle.spec_machine.specs.ExamplesWords.{working, either, main, state, process_at, offer}

abbrev model : Model
model = main [] (either ((leaf (express (num 0)) ∷ []) ∷ (leaf else ∷ []) ∷ []) ∷ []) ∷ []

abbrev stands : ℕ → State
stands j = state [] (process_at 0 j [] ∷ []) []

-- at the `else` nothing is offered: it is no option of a selection at which the process stands
at_else : (offered (machine_of model) (stands 8) ≡ []) × (verdict (machine_of model) (stands 8) ≡ blocked)
unfolding working
at_else = (refl, refl)

-- at the `if` it is, since the other option is not executable
at_its_selection : (offered (machine_of model) (stands (start_of model 0)) ≡ offer 0 1 8 ∷ []) × (verdict (machine_of model) (stands (start_of model 0)) ≡ «open»)
unfolding working
at_its_selection = (refl, refl)
