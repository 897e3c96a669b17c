-- The list of the steps at a place, one turn of it: no selection, a selection, the end of a body.
use Prim.Native.Nat.{ℕ, zero, suc, ◌+◌, min}
use mathlib.Core.Path.{◌≡◌, refl}
use mathlib.Core.Bool.{Bool, true, false}
use mathlib.Core.List.{List, [], ◌∷◌}
use lib.IntN.{ℤ}
use Rattle.base_ceilings.specs.Ceilings.{statements_most}
use Rattle.base_codes.specs.Codes.{c_end_body}
use Rattle.base_codes.specs.Sets.{is_alone}
use Rattle.base_bytes.specs.Choice.{pick}
use Rattle.base_bytes.specs.Lists.{or_else}
use Rattle.table_layout.specs.Access.{code_of, link_of}
use Rattle.step_ready.specs.Executing.{is_always, mark_of, ready_by, ready_of, is_own_mark}
use Rattle.step_offers.specs.Offers.{is_selection, each_option, else_at, offers_from}

module _ (t : List ℕ) (s : List ℤ) (p : ℕ) (late : Bool) where
  module _ (d q stop : ℕ) where
    pub list_plain : is_selection t q ≡ false → offers_from t s p late (suc d) q stop ≡ pick (ready_of t s p late q) (q ∷ []) []
    unfolding offers_from
    list_plain e = rw e

    pub list_selection : is_selection t q ≡ true → offers_from t s p late (suc d) q stop
        ≡ or_else (each_option t (λ f e. offers_from t s p late d f e) statements_most (q + 1) (min (link_of t q) stop)) (each_option t (else_at t) statements_most (q + 1) (min (link_of t q) stop))
    unfolding offers_from
    list_selection e = rw e

  end_unready : (q : ℕ) → code_of t q ≡ c_end_body → ready_of t s p late q ≡ false
  unfolding ready_by is_always mark_of is_own_mark is_alone
  end_unready q e = rw (e, e)

  pub end_offers : (d q stop : ℕ) → code_of t q ≡ c_end_body → offers_from t s p late d q stop ≡ []
  unfolding offers_from
  end_offers zero q stop e = refl
  end_offers (suc d) q stop e = rw (e, end_unready q e)
