-- DEMAND 2 IN DOCUMENT 01'S WORDS, proved: the machine's list, its verdicts, and that walks can be written.
use Prim.Native.Nat.{ℕ, ◌<◌}
use mathlib.Core.Path.{◌≡◌, ap}
use mathlib.Core.Bool.{true}
use mathlib.Core.Logic.{◌⊎◌, inl, inr}
use mathlib.Core.List.{[]}
use Rattle.spec_grammar.specs.Tree.{Model}
use Rattle.spec_machine.specs.State.{State}
use Rattle.spec_machine.specs.Machine.{alone, Step, late, offered}
use Rattle.spec_machine.specs.Steps.{machine_of}
use Rattle.spec_trails.specs.Replays.{claimed}
use Rattle.spec_trails.specs.Trails.{trail_of}
use Rattle.demands.specs.Lent.{leaves}
use Rattle.demands.specs.Walks.{Nth}
use Rattle.demands.specs.InWords.{Listing, Verdicts, InWords}
use Rattle.demands.proofs.Offers.{Before, listed_exactly, listed_in_order}
use Rattle.demands.proofs.TextOrder.{text_order}
use Rattle.demands.proofs.Verdicts.{finished_exactly, blocked_exactly, opened_exactly}
use Rattle.demands.proofs.Good.{rests}
use Rattle.demands.proofs.Leaves.{states_left}
use Rattle.demands.proofs.Trails.{acceptance, walk_acceptable}

module _ (m : Model) (σ : State) where
  listing : Listing m σ
  listing = record { exactly = listed_exactly (machine_of m) σ; in_order = in_order }
    where
      in_order : (k k' : ℕ) (x y : Step) → k < k' → Nth x k (offered (machine_of m) σ) → Nth y k' (offered (machine_of m) σ)
          → (x.process < y.process) ⊎ ((x.process ≡ y.process) × (x.number < y.number) × (x.place < y.place))
      in_order k k' x y h a b = go (listed_in_order (machine_of m) σ h a b)
        where
          go : Before x.process x.number y.process y.number → (x.process < y.process) ⊎ ((x.process ≡ y.process) × (x.number < y.number) × (x.place < y.place))
          go (inl i) = inl i
          go (inr (e, i)) = inr (e, i, text_order m σ x y ((listed_exactly (machine_of m) σ x).0 (k, a)) ((listed_exactly (machine_of m) σ y).0 (k', b)) e i)

  verdicts : Verdicts m σ
  verdicts =
      let M = machine_of m in
      let R : (p : ℕ) → M.ended σ p ≡ true → M.steps σ (late M σ) p ≡ [] = λ p e. ap alone (rests m σ (late M σ) p e) in
      record { is_finished = finished_exactly M σ R; is_blocked = blocked_exactly M σ R; is_open = opened_exactly M σ R }

pub in_words : InWords
in_words =
    record {
      listing = listing;
      verdicts = verdicts;
      states_left = states_left;
      walks_accepted = λ ts s m l c τ r h few w. (acceptance ts (trail_of l (claimed c)) s (claimed c) (leaves s m τ)).1 (walk_acceptable ts s m l c τ r h few w);
    }
