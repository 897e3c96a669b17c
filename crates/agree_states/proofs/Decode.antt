-- WHICH NUMBERS ARE A STATE OF THE MODEL: exactly those that hold a plain state that fits, and each holds one only. For tables that chart the model (specs/Charted.antt).
use Prim.Native.Nat.{ℕ}
use mathlib.Core.Path.{◌≡◌, sym as inv, ◌∙◌}
use mathlib.Core.Bool.{true}
use mathlib.Core.List.{List, ◌++◌}
use lib.ListN.{drop}
use lib.IntN.{ℤ}
use Rattle.base_ceilings.specs.Ceilings.{state_room}
use Rattle.state_check.specs.Standing.{is_state_of}
use Rattle.state_check.proofs.Meaning.{is_state_stands}
use Rattle.state_check.proofs.Exact.{stands_is_state}
use Rattle.spec_grammar.specs.Tree.{Model}
use Rattle.spec_machine.specs.State.{State}
use Rattle.agree_encode.specs.Encode.{encode}
use Rattle.spec_machine.specs.Places.{Belongs}
use Rattle.spec_machine.specs.Fits.{Fits}
use Rattle.agree_states.specs.Charted.{Charted}
use Rattle.agree_states.proofs.Read.{stands-holds}
use Rattle.agree_states.proofs.Held.{fits-stands}
use Rattle.agree_states.proofs.Single.{encode_one}

module _ (m : Model) (T : List ℕ) (X : Charted m T) where
  -- what refusal 9 lets through holds a state that fits
  pub state-holds : (s : List ℤ) → is_state_of T s ≡ true → (σ : State) × (Fits (Belongs m) m σ × (s ≡ encode m σ ++ drop state_room s))
  state-holds s h = stands-holds m T X s (is_state_stands T s h)

  -- what holds a state that fits is let through
  pub state-held : (σ : State) (rest : List ℤ) → Fits (Belongs m) m σ → is_state_of T (encode m σ ++ rest) ≡ true
  state-held σ rest f = stands_is_state T (encode m σ ++ rest) (fits-stands m T X σ f rest)

  -- and it holds one only
  pub state_single : (s : List ℤ) (σ τ : State) (t u : List ℤ) → Fits (Belongs m) m σ → Fits (Belongs m) m τ → s ≡ encode m σ ++ t → s ≡ encode m τ ++ u → σ ≡ τ
  state_single s σ τ t u f g a b = encode_one m T X σ τ f g t u (inv a ∙ b)
