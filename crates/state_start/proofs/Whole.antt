-- The initial state is one of the tables alone: what stood in the lent numbers is of no matter.
use mathlib.Core.Path.{◌≡◌, sym, ap, ◌∙◌}
use mathlib.Core.List.{List}
use Prim.Native.Nat.{ℕ}
use lib.ListN.{length, replicate}
use lib.IntN.{ℤ, pos}
use Rattle.base_ceilings.specs.Ceilings.{state_room}
use Rattle.state_layout.specs.Layout.{cleared}
use Rattle.state_layout.specs.Walks.{walk}
use Rattle.state_layout.proofs.Laws.{cleared-all}
use Rattle.state_start.specs.Starting.{global_made, unit_started, scanned, initial_of}

pub initial-same : (t : List ℕ) (s s' : List ℤ) → length s ≡ state_room → length s' ≡ state_room → initial_of t s ≡ initial_of t s'
unfolding initial_of
initial-same t s s' h h' =
    let q : cleared s ≡ cleared s' = cleared-all s h ∙ ap (λ n. replicate n (pos 0)) (h ∙ sym h') ∙ sym (cleared-all s' h') in
    ap (λ x. walk (unit_started t) 0 (scanned t) (walk (global_made t) 0 (scanned t) x)) q
