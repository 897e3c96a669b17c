-- In balanced items what opens a selection or an option has what closes it, inside of whatever it opens in, and that is what `close_of_lem` finds.
use Prim.Native.Nat.{ℕ, suc, ◌+◌, ◌-◌, ◌≤◌, ◌<◌}
use native.Mathlib.Omega.{arith}
use mathlib.Core.Path.{◌≡◌, refl, sym, ap, ◌∙◌}
use mathlib.Core.Bool.{true}
use mathlib.Core.List.{List}
use lib.ListN.{length, get_or}
use Rattle.base_codes.specs.Codes.{c_do, c_if, c_option}
use Rattle.base_codes.specs.Items.{Item}
use Rattle.base_codes.specs.Sets.{is_closing}
use Rattle.link_places.specs.Places.{close_from, close_of_lem}
use Rattle.link_phrases_proof.specs.Phrases.{At}
use Rattle.agree_nesting.specs.Balanced.{Begun, Balanced}
use Rattle.agree_nesting.proofs.Skips.{Kind, selections, options, stop, skip}

-- an item with code c opens a pair p
pub data Opener : ℕ → ℕ → Type 0 where
  is_if : {c : ℕ} → c ≡ c_if → Opener 0 c
  is_do : {c : ℕ} → c ≡ c_do → Opener 0 c
  is_option : {c : ℕ} → c ≡ c_option → Opener 2 c

-- what closes the item j
pub record Match (cs : List ℕ) (p j hi : ℕ) : Type 0 where
  pub at : ℕ
  pub before : at < hi
  pub inner : List Item
  pub begun : p ≡ 2 → Begun inner
  pub balanced : Balanced inner
  pub stands : At cs (suc j) inner
  pub place : at ≡ suc j + length inner
  pub closes : is_closing p (get_or cs at 0) ≡ true

pub kind_of : {p c : ℕ} → Opener p c → Kind p
kind_of (is_if e) = selections
kind_of (is_do e) = selections
kind_of (is_option e) = options

module _ (cs : List ℕ) where
  -- it is found
  pub match_found : (p j hi : ℕ) → Kind p → (m : Match cs p j hi) → hi ≤ length cs → close_of_lem cs p (j + 1) ≡ m.at
  unfolding close_of_lem
  match_found p j hi kd m h =
      let b = m.before in
      let e = m.place in
      let a = length m.inner in
      let z : j + 1 ≡ suc j = omega arith in
      let f = length cs - (suc j + a) - 1 in
      let n : length cs - (j + 1) ≡ a + suc f = omega arith in
      ap (close_from cs p (j + 1) 1) n ∙ ap (λ i. close_from cs p i 1 (a + suc f)) z ∙ skip cs kd m.balanced (suc j) 1 (a + suc f) (suc f) m.stands (omega arith) refl
      ∙ ap (λ i. close_from cs p i 1 (suc f)) (sym e) ∙ stop cs p m.at f (get_or cs m.at 0) refl m.closes
