-- Laws that the proofs of `state_used` cite: what its callees say, put together.
use Prim.Native.Nat.{ℕ, min, ◌+◌, ◌<◌, ◌^◌}
use mathlib.Core.Path.{◌≡◌, sym, ap, ◌∙◌}
use mathlib.Core.Bool.{Bool, true, false}
use mathlib.Core.List.{List}
use lib.ListN.{set}
use lib.IntN.{ℤ}
use lib.Signed.{mag}
use mir.Syntax.{w32}
use mir.Val.{to_z, of_z}
use Rattle.base_ceilings.specs.Ceilings.{capacity_most, items_most}
use Rattle.base_bytes.specs.Choice.{pick}
use Rattle.table_layout.specs.Access.{items_of, link_of}
use Rattle.state_layout.proofs.Laws.{back}
use Rattle.state_layout.specs.Layout.{kept, process_at_lem, channel_at, field_at, cell_of, unit_of, place_of, declared_of, waiting_of}
use Rattle.state_layout.specs.Walks.{walk}
use Rattle.step_eval.specs.Variables.{size_of, slot_of}
use Rattle.state_start.specs.Starting.{unit_length, scanned}
use Rattle.step_ready.specs.Channels.{fields_of}
use Rattle.state_types.specs.Fits.{is_global, is_local}
use Rattle.state_used.specs.Shapes.{copied, element_shaped, variable_shaped, global_shaped, local_shaped, locals_shaped, process_shaped, field_shaped, message_shaped, channel_shaped, shaped_on, processes_in, channels_in, messages_in}

-- ---- numbers in use
pub copied_as : (s x x' : List ℤ) (i : ℕ) {v : ℤ} → mag v < 2 ^ 31 → v ≡ cell_of s i → x' ≡ set x i (to_z w32 (of_z w32 v)) → x' ≡ copied s i x
copied_as s x x' i g ev e = e ∙ ap (set x i) (back g ∙ ev)

pub element_as : (s x x' : List ℤ) (l p k : ℕ) {i : ℕ} → i ≡ slot_of l p k → x' ≡ copied s i x → x' ≡ element_shaped s l p k x
unfolding element_shaped
element_as s x x' l p k ei e = e ∙ ap (λ i. copied s i x) ei

pub variable_all : (s x x' : List ℤ) (l p : ℕ) {n : ℕ} → n ≡ size_of l → x' ≡ walk (element_shaped s l p) 0 n x → x' ≡ variable_shaped s l p x
unfolding variable_shaped
variable_all s x x' l p en e = e ∙ ap (λ n. walk (element_shaped s l p) 0 n x) en

pub field_as : (s x x' : List ℤ) (c m f : ℕ) {i : ℕ} → i ≡ field_at c m f → x' ≡ copied s i x → x' ≡ field_shaped s c m f x
unfolding field_shaped
field_as s x x' c m f ei e = e ∙ ap (λ i. copied s i x) ei

-- ---- items
module _ (t : List ℕ) (s x : List ℤ) (j : ℕ) where
  module _ {b : Bool} (eb : b ≡ is_global t j) where
    pub global-here : b ≡ true → {x' : List ℤ} {l : ℕ} → l ≡ link_of t j → x' ≡ variable_shaped s l 0 x → x' ≡ global_shaped t s j x
    unfolding global_shaped
    global-here h el e = e ∙ ap (λ l. variable_shaped s l 0 x) el ∙ sym (ap (λ b. pick b (variable_shaped s (link_of t j) 0 x) x) (sym eb ∙ h))

    pub global_other : b ≡ false → x ≡ global_shaped t s j x
    unfolding global_shaped
    global_other h = sym (ap (λ b. pick b (variable_shaped s (link_of t j) 0 x) x) (sym eb ∙ h))

  module _ (p : ℕ) {b : Bool} (eb : b ≡ is_local t j) where
    pub local_here : b ≡ true → {x' : List ℤ} {l : ℕ} → l ≡ link_of t j → x' ≡ variable_shaped s l p x → x' ≡ local_shaped t s p j x
    unfolding local_shaped
    local_here h el e = e ∙ ap (λ l. variable_shaped s l p x) el ∙ sym (ap (λ b. pick b (variable_shaped s (link_of t j) p x) x) (sym eb ∙ h))

    pub local_other : b ≡ false → x ≡ local_shaped t s p j x
    unfolding local_shaped
    local_other h = sym (ap (λ b. pick b (variable_shaped s (link_of t j) p x) x) (sym eb ∙ h))

-- ---- processes and channels
module _ (t : List ℕ) (s x : List ℤ) where
  pub locals_all : (p u : ℕ) {n : ℕ} {x' : List ℤ} → n ≡ unit_length t u → x' ≡ walk (λ k y. local_shaped t s p (u + k) y) 0 n x → x' ≡ locals_shaped t s p u x
  unfolding locals_shaped
  locals_all p u en e = e ∙ ap (λ n. walk (λ k y. local_shaped t s p (u + k) y) 0 n x) en

  pub process_as : (p : ℕ) {u q i : ℕ} {x₁ x₂ x₃ : List ℤ} → u ≡ unit_of s p → i ≡ process_at_lem p → x₁ ≡ set x i (kept u) → q ≡ place_of s p → x₂ ≡ set x₁ (i + 1) (kept q)
      → x₃ ≡ locals_shaped t s p u x₂ → x₃ ≡ process_shaped t s p x
  unfolding process_shaped
  process_as p eu ei e₁ eq e₂ e₃ =
      e₃ ∙ (λ j. locals_shaped t s p (eu j) ((e₂ ∙ (λ k. set ((e₁ ∙ (λ m. set x (ei m) (kept (eu m)))) k) (ei k + 1) (kept (eq k)))) j))

  pub message-all : (c d m : ℕ) {n : ℕ} {x' : List ℤ} → n ≡ fields_of t d → x' ≡ walk (field_shaped s c m) 0 n x → x' ≡ message_shaped t s c d m x
  unfolding message_shaped
  message-all c d m en e = e ∙ ap (λ n. walk (field_shaped s c m) 0 n x) en

  pub channel_as : (c : ℕ) {d w n i : ℕ} {x₁ x₂ x₃ : List ℤ} → d ≡ declared_of s c → w ≡ waiting_of s c → n ≡ min capacity_most w → i ≡ channel_at c → x₁ ≡ set x i (kept d) → x₂ ≡ set x₁ (i + 1) (kept n)
      → x₃ ≡ walk (message_shaped t s c d) 0 n x₂ → x₃ ≡ channel_shaped t s c x
  unfolding channel_shaped
  channel_as c ed ew en ei e₁ e₂ e₃ =
      let q : _ ≡ messages_in s c = en ∙ ap (min capacity_most) ew in
      e₃ ∙ (λ j. walk (message_shaped t s c (ed j)) 0 (q j) ((e₂ ∙ (λ k. set ((e₁ ∙ (λ m. set x (ei m) (kept (ed m)))) k) (ei k + 1) (kept (q k)))) j))

  pub shaped_as : {p c n m : ℕ} {x₁ x₂ x₃ x₄ x₅ : List ℤ} → p ≡ processes_in s → c ≡ channels_in s → x₁ ≡ set x 0 (kept p) → x₂ ≡ set x₁ 1 (kept c) → m ≡ items_of t → n ≡ min items_most m
      → x₃ ≡ walk (global_shaped t s) 0 n x₂ → x₄ ≡ walk (process_shaped t s) 0 p x₃ → x₅ ≡ walk (channel_shaped t s) 0 c x₄ → x₅ ≡ shaped_on t s x
  unfolding shaped_on scanned
  shaped_as ep ec e₁ e₂ em en e₃ e₄ e₅ =
      let q : _ ≡ min items_most (items_of t) = en ∙ ap (min items_most) em in
      let q₂ : _ ≡ set (set x 0 (kept (processes_in s))) 1 (kept (channels_in s)) = e₂ ∙ (λ j. set ((e₁ ∙ ap (λ p. set x 0 (kept p)) ep) j) 1 (kept (ec j))) in
      let q₃ : _ ≡ walk (global_shaped t s) 0 (min items_most (items_of t)) (set (set x 0 (kept (processes_in s))) 1 (kept (channels_in s))) = e₃ ∙ (λ j. walk (global_shaped t s) 0 (q j) (q₂ j)) in
      e₅ ∙ (λ j. walk (channel_shaped t s) 0 (ec j) ((e₄ ∙ (λ k. walk (process_shaped t s) 0 (ep k) (q₃ k))) j))
