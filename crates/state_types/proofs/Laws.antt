-- Laws that the proofs of `state_types` cite: what its callees say, put together.
use Prim.Native.Nat.{ℕ, suc, min, ◌+◌, ◌-◌, ◌/◌, ◌%◌, ◌≤◌, ◌<◌, ◌^◌}
use mathlib.Core.Path.{◌≡◌, refl, sym, ap, ◌∙◌}
use mathlib.Core.Bool.{Bool, true, false}
use mathlib.Core.List.{List}
use native.Mathlib.Omega.{arith}
use lib.IntN.{ℤ}
use lib.Signed.{mag}
use lib.Dec.{eqb}
use mir.Syntax.{w32}
use mir.Val.{to_z, of_z}
use Rattle.base_codes.specs.Codes.{c_declared, c_parameter}
use Rattle.base_bytes.specs.Choice.{pick, both, either}
use Rattle.table_layout.specs.Access.{code_of, link_of}
use Rattle.base_values.specs.Types.{cast_of}
use Rattle.base_values.specs.Operators.{same}
use Rattle.state_layout.proofs.Laws.{back}
use Rattle.base_values.proofs.Machine.{same_bits}
use Rattle.state_layout.specs.Layout.{kept, field_at, cell_of, count_of}
use Rattle.step_eval.specs.Variables.{type_of, size_of, slot_of}
use Rattle.state_start.specs.Starting.{unit_length}
use Rattle.step_ready.specs.Channels.{fields_of}
use Rattle.step_messages.specs.Messages.{field_type}
use Rattle.state_types.specs.Fits.{every, counts_at, fits_at, element_fits, variable_fits, is_global, is_local, global_fits, local_fits, locals_fit, field_fits, message_fits}

-- ---- items
pub global_of : (t : List ℕ) (j : ℕ) {c l : ℕ} {b : Bool} → c ≡ code_of t j → l ≡ link_of t j → b ≡ both (eqb c c_declared) (eqb (l / 8 % 2) 0) → b ≡ is_global t j
global_of t j ec el e = e ∙ (λ i. both (eqb (ec i) c_declared) (eqb (el i / 8 % 2) 0))

pub local_of : (t : List ℕ) (j : ℕ) {c : ℕ} {b : Bool} → c ≡ code_of t j → b ≡ either (eqb c c_declared) (eqb c c_parameter) → b ≡ is_local t j
local_of t j ec e = e ∙ ap (λ c. either (eqb c c_declared) (eqb c c_parameter)) ec

-- ---- walks that judge
module _ (f : ℕ → Bool) where
  one : (i n : ℕ) → every f i (suc n) ≡ both (f i) (every f (i + 1) n)
  unfolding every
  one i n = refl

  next : (i m : ℕ) → i < m → every f i (m - i) ≡ both (f i) (every f (i + 1) (m - (i + 1)))
  next i m h = let q : m - i ≡ suc (m - (i + 1)) = omega arith in ap (every f i) q ∙ one i (m - (i + 1))

  module _ (i m : ℕ) (h : i < m) {b : Bool} (eb : b ≡ f i) where
    pub every_more : b ≡ true → every f (i + 1) (m - (i + 1)) ≡ every f i (m - i)
    every_more e = sym (next i m h ∙ ap (λ b. both b (every f (i + 1) (m - (i + 1)))) (sym eb ∙ e))

    pub every_stop : b ≡ false → false ≡ every f i (m - i)
    every_stop e = sym (next i m h ∙ ap (λ b. both b (every f (i + 1) (m - (i + 1)))) (sym eb ∙ e))

  pub every_end : (i m : ℕ) → m ≤ i → true ≡ every f i (m - i)
  unfolding every
  every_end i m h = let q : m - i ≡ 0 = omega arith in rw q

-- ---- counts
pub counts_as : (s : List ℤ) (most i : ℕ) {v z : ℤ} {n m : ℕ} → mag v < 2 ^ 31 → v ≡ cell_of s i → n ≡ count_of s i → m ≡ min most n → mag z < 2 ^ 31 → z ≡ kept m → eqb (of_z w32 v) (of_z w32 z) ≡ counts_at s most i
unfolding counts_at
counts_as s most i {v} {z} g ev en em h ez = same_bits v z (record { sfits = g }) (record { sfits = h }) ∙ (λ j. same (ev j) ((ez ∙ ap kept (em ∙ ap (min most) en)) j))

-- ---- values in their types
pub fits_as : (s : List ℤ) (ty i : ℕ) {v z : ℤ} → mag v < 2 ^ 31 → v ≡ cell_of s i → mag z < 2 ^ 31 → z ≡ cast_of ty (to_z w32 (of_z w32 v)) → eqb (of_z w32 z) (of_z w32 v) ≡ fits_at s ty i
unfolding fits_at
fits_as s ty i {v} {z} g ev h ez = same_bits z v (record { sfits = h }) (record { sfits = g }) ∙ (λ j. same ((ez ∙ ap (cast_of ty) (back g ∙ ev)) j) (ev j))

pub element_fits_lem : (s : List ℤ) (l p k : ℕ) {ty i : ℕ} {r : Bool} → ty ≡ type_of l → i ≡ slot_of l p k → r ≡ fits_at s ty i → r ≡ element_fits s l p k
unfolding element_fits
element_fits_lem s l p k et ei e = e ∙ (λ j. fits_at s (et j) (ei j))

pub variable_fits_lem : (s : List ℤ) (l p : ℕ) {n : ℕ} {r : Bool} → n ≡ size_of l → r ≡ every (element_fits s l p) 0 n → r ≡ variable_fits s l p
unfolding variable_fits
variable_fits_lem s l p en e = e ∙ ap (every (element_fits s l p) 0) en

module _ (t : List ℕ) (s : List ℤ) (j : ℕ) where
  module _ {b : Bool} (eb : b ≡ is_global t j) where
    pub global-fits : b ≡ true → {l : ℕ} {r : Bool} → l ≡ link_of t j → r ≡ variable_fits s l 0 → r ≡ global_fits t s j
    unfolding global_fits
    global-fits h el e = e ∙ ap (λ l. variable_fits s l 0) el ∙ sym (ap (λ b. pick b (variable_fits s (link_of t j) 0) true) (sym eb ∙ h))

    pub global_free : b ≡ false → true ≡ global_fits t s j
    unfolding global_fits
    global_free h = sym (ap (λ b. pick b (variable_fits s (link_of t j) 0) true) (sym eb ∙ h))

  module _ (p : ℕ) {b : Bool} (eb : b ≡ is_local t j) where
    pub local_fits_lem : b ≡ true → {l : ℕ} {r : Bool} → l ≡ link_of t j → r ≡ variable_fits s l p → r ≡ local_fits t s p j
    unfolding local_fits
    local_fits_lem h el e = e ∙ ap (λ l. variable_fits s l p) el ∙ sym (ap (λ b. pick b (variable_fits s (link_of t j) p) true) (sym eb ∙ h))

    pub local_free : b ≡ false → true ≡ local_fits t s p j
    unfolding local_fits
    local_free h = sym (ap (λ b. pick b (variable_fits s (link_of t j) p) true) (sym eb ∙ h))

module _ (t : List ℕ) (s : List ℤ) where
  pub locals_fit_lem : (p u : ℕ) {n : ℕ} {r : Bool} → n ≡ unit_length t u → r ≡ every (λ k. local_fits t s p (u + k)) 0 n → r ≡ locals_fit t s p u
  unfolding locals_fit
  locals_fit_lem p u en e = e ∙ ap (every (λ k. local_fits t s p (u + k)) 0) en

  pub field_fits_lem : (c d m f : ℕ) {ty i : ℕ} {r : Bool} → ty ≡ field_type t d f → i ≡ field_at c m f → r ≡ fits_at s ty i → r ≡ field_fits t s c d m f
  unfolding field_fits
  field_fits_lem c d m f et ei e = e ∙ (λ j. fits_at s (et j) (ei j))

  pub message-fits : (c d m : ℕ) {n : ℕ} {r : Bool} → n ≡ fields_of t d → r ≡ every (field_fits t s c d m) 0 n → r ≡ message_fits t s c d m
  unfolding message_fits
  message-fits c d m en e = e ∙ ap (every (field_fits t s c d m) 0) en
