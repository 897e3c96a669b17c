-- A PLACE OFFERS FEW STEPS: no more than there are items.
use Prim.Native.Nat.{ℕ, zero, suc, ◌+◌, ◌-◌, ◌≤◌, ◌<◌, min}
use native.Mathlib.Omega.{arith}
use mathlib.Core.Path.{◌≡◌, refl}
use mathlib.Core.Bool.{Bool, true, false}
use mathlib.Core.List.{List, [], ◌∷◌, ◌++◌}
use lib.ListN.{length, length-append}
use lib.IntN.{ℤ}
use lib.Dec.{eqb, ltb}
use borrow.Author.Tests.{ltb-true}
use Rattle.base_ceilings.specs.Ceilings.{items_most, selections_most, statements_most}
use Rattle.base_bytes.specs.Choice.{pick, both}
use Rattle.base_bytes.specs.Lists.{or_else}
use Rattle.base_codes.specs.Codes.{c_label, c_option, c_else}
use Rattle.table_layout.specs.Access.{code_of, link_of}
use Rattle.step_ready.specs.Executing.{ready_of}
use Rattle.step_offers.specs.Offers.{is_selection, end_of, first_of, each_option, else_at, offers_from, offers_of}

module _ (t : List ℕ) where
  first-behind : (m : ℕ) → m < first_of t m
  unfolding first_of
  first-behind m = go (eqb (code_of t (m + 2)) c_label)
    where
      go : (b : Bool) → m < pick b (m + 3) (m + 1)
      go true = omega arith
      go false = omega arith

  -- options lie one behind the other, each before `stop`
  options_few : (g : ℕ → ℕ → List ℕ) → ((f e : ℕ) → length (g f e) ≤ suc (e - suc f)) → (n m stop : ℕ) → length (each_option t g n m stop) ≤ stop - m
  unfolding each_option
  options_few g h zero m stop = omega arith
  options_few g h (suc n) m stop = go (ltb m stop) (eqb (code_of t m) c_option) refl (options_few g h n (end_of t m stop + 1) stop)
    where
      here : m < stop → length (each_option t g n (end_of t m stop + 1) stop) ≤ stop - (end_of t m stop + 1) → length (g (first_of t m) (end_of t m stop) ++ each_option t g n (end_of t m stop + 1) stop) ≤ stop - m
      here l c =
          let a = length-append (g (first_of t m) (end_of t m stop)) (each_option t g n (end_of t m stop + 1) stop) in
          let b = h (first_of t m) (end_of t m stop) in
          let d = first-behind m in
          omega arith

      go : (a b : Bool) → ltb m stop ≡ a → length (each_option t g n (end_of t m stop + 1) stop) ≤ stop - (end_of t m stop + 1) → length (pick (both a b) (g (first_of t m) (end_of t m stop) ++ each_option t g n (end_of t m stop + 1) stop) []) ≤ stop - m
      go true true e c = here (ltb-true m stop e) c
      go true false e c = omega arith
      go false b e c = omega arith

  else_few : (f e : ℕ) → length (else_at t f e) ≤ suc (e - suc f)
  else_few f e = go (eqb (code_of t f) c_else)
    where
      go : (b : Bool) → length (pick b (f ∷ []) []) ≤ suc (e - suc f)
      go true = omega arith
      go false = omega arith

  module _ (s : List ℤ) (p : ℕ) (late : Bool) where
    from_few : (d q stop : ℕ) → length (offers_from t s p late d q stop) ≤ suc (stop - suc q)
    unfolding offers_from
    from_few zero q stop = omega arith
    from_few (suc d) q stop = go (is_selection t q) (ready_of t s p late q) (λ f e. from_few d f e)
      where
        within : ℕ
        within = min (link_of t q) stop

        either : (k l : List ℕ) → length k ≤ within - (q + 1) → length l ≤ within - (q + 1) → length (or_else k l) ≤ suc (stop - suc q)
        either [] l a b = omega arith
        either (x ∷ k) l a b = omega arith

        go : (a b : Bool) → ((f e : ℕ) → length (offers_from t s p late d f e) ≤ suc (e - suc f)) → length (pick a (or_else (each_option t (λ f e. offers_from t s p late d f e) statements_most (q + 1) (min (link_of t q) stop)) (each_option t (else_at t) statements_most (q + 1) (min (link_of t q) stop))) (pick b (q ∷ []) []))
            ≤ suc (stop - suc q)
        go true b h =
            either (each_option t (λ f e. offers_from t s p late d f e) statements_most (q + 1) within) (each_option t (else_at t) statements_most (q + 1) within)
            (options_few (λ f e. offers_from t s p late d f e) h statements_most (q + 1) within) (options_few (else_at t) else_few statements_most (q + 1) within)
        go false true h = omega arith
        go false false h = omega arith

    pub offers_few : (q : ℕ) → length (offers_of t s p late q) ≤ items_most
    offers_few q = omega (arith, from_few (selections_most + 1) q items_most)
