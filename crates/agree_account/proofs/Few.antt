-- A LIST OF STEPS IS NEVER CUT SHORT: tables and numbers offer no more steps than are listed, whatever they hold.
use Prim.Native.Nat.{ℕ, zero, suc, ◌+◌, ◌*◌, ◌≤◌}
use native.Mathlib.Omega.{arith}
use mathlib.Core.Path.{◌≡◌, refl, ap}
use mathlib.Core.Bool.{Bool}
use mathlib.Core.List.{List, [], ◌∷◌}
use lib.ListN.{length, take, length-append}
use lib.IntN.{ℤ}
use Rattle.base_ceilings.specs.Ceilings.{items_most}
use Rattle.state_layout.specs.Layout.{place_of}
use Rattle.spec_machine.specs.Machine.{Move, alone, numbered, late, list_from, offered}
use Rattle.step_offers.specs.Offers.{offers_of}
use Rattle.step_all.specs.Moving.{machine_in, processes}
use Rattle.step_all.proofs.Few.{offers_few}
use Rattle.show_steps.specs.Steps.{listed_most, listed_in}

take_whole : {A : Type 0} (n : ℕ) (l : List A) → length l ≤ n → take n l ≡ l
take_whole zero [] h = refl
take_whole (suc n) [] h = refl
take_whole zero (x ∷ l) h = absurd (omega arith)
take_whole (suc n) (x ∷ l) h = ap (x ∷◌) (take_whole n l (omega arith))

alone_long : (l : List ℕ) → length (alone l) ≡ length l
alone_long [] = refl
alone_long (q ∷ l) = ap suc (alone_long l)

numbered_long : (p n : ℕ) (l : List Move) → length (numbered p n l) ≡ length l
numbered_long p n [] = refl
numbered_long p n (q ∷ l) = ap suc (numbered_long p (n + 1) l)

module _ (t : List ℕ) (s : List ℤ) where
  list_few : (l : Bool) (p n : ℕ) → length (list_from (machine_in t) s l p n) ≤ n * items_most
  unfolding list_from
  list_few l p zero = omega arith
  list_few l p (suc n) =
      let qs = offers_of t s p l (place_of s p) in
      omega (arith, list_few l (p + 1) n, length-append (numbered p 1 (alone qs)) (list_from (machine_in t) s l (p + 1) n), numbered_long p 1 (alone qs), alone_long qs, offers_few t s p l (place_of s p))

  pub offered_few : length (offered (machine_in t) s) ≤ listed_most
  unfolding offered
  offered_few = omega (arith, list_few (late (machine_in t) s) 0 (processes s))

  pub listed-all : listed_in t s ≡ offered (machine_in t) s
  listed-all = take_whole listed_most (offered (machine_in t) s) offered_few
