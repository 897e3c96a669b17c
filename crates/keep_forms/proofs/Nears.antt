-- What stands before an item, and which mark comes next.
use Prim.Native.Nat.{ℕ, zero, suc, ◌<◌}
use mathlib.Core.Path.{◌≡◌, refl, sym, ◌∙◌}
use mathlib.Core.Bool.{true, false}
use mathlib.Core.List.{List}
use lib.ListN.{length, get_or}
use lib.Dec.{eqb}
use Rattle.base_codes.specs.Codes.{c_label}
use Rattle.base_codes.specs.Sets.{is_part}
use Rattle.base_bytes.proofs.Tests.{true_false, left-holds}
use Rattle.keep_forms.specs.Forms.{joins, step, form_at, Formed}
use Rattle.keep_forms.proofs.Spans.{said}

module _ (cs : List ℕ) where
  pub part-next : (j : ℕ) → (form_at cs (suc j)).part ≡ is_part (get_or cs j 0)
  unfolding form_at step
  part-next j = refl

  first_part : ((form_at cs 0).part ≡ false) × ((form_at cs 0).ref ≡ false) × ((form_at cs 0).near ≡ 0)
  unfolding form_at
  first_part = (refl, refl, refl)

  module _ (F : Formed cs) where
    -- an operator, `plain` or `index` stands behind a part
    pub before-part : (j : ℕ) → j < length cs → joins (get_or cs j 0) ≡ true → (i : ℕ) × (j ≡ suc i) × (is_part (get_or cs i 0) ≡ true)
    before-part zero h e = absurd (true_false (sym ((said cs F 0 h).joined (left-holds (joins (get_or cs 0 0)) (eqb (get_or cs 0 0) c_label) e)) ∙ first_part.0))
    before-part (suc j) h e = (j, refl, sym (part-next j) ∙ (said cs F (suc j) h).joined (left-holds (joins (get_or cs (suc j) 0)) (eqb (get_or cs (suc j) 0) c_label) e))
