-- Laws that the proofs of `state_start` cite: what its callees say, put together.
use Prim.Native.Nat.{ℕ, min, ◌+◌, ◌-◌, ◌/◌, ◌%◌, ◌≤◌, ◌<◌, ◌^◌}
use mathlib.Core.Path.{◌≡◌, sym, ap, ◌∙◌}
use mathlib.Core.List.{List}
use lib.ListN.{set}
use lib.IntN.{ℤ, pos}
use lib.Signed.{mag}
use borrow.Author.Tests.{ne_eqb, eq-eqb, lt-ltb, le-ltb}
use mir.Syntax.{w32}
use mir.Val.{to_z, of_z, SFits}
use mir.ValLaws.{to_z-of_z}
use Rattle.base_ceilings.specs.Ceilings.{items_most, processes_most}
use Rattle.base_codes.specs.Codes.{c_active, c_active_many, c_body, c_channel, c_declared, c_init, c_minus, c_named, c_true, c_value, c_number}
use Rattle.table_layout.specs.Access.{items_of, code_of, link_of, number_of}
use Rattle.base_values.specs.Operators.{unary_of}
use Rattle.base_values.specs.Types.{cast_of}
use Rattle.state_layout.proofs.Laws.{back}
use Rattle.state_layout.specs.Layout.{kept, cleared, process_at_lem, channel_at, processes_of, channels_of}
use Rattle.state_layout.specs.Walks.{walk}
use Rattle.step_eval.specs.Variables.{type_of, size_of, slot_of}
use Rattle.state_start.specs.Values.{literal_of, value_of}
use Rattle.state_start.specs.Starting.{filled, stored, channel_made, variable_made, declared, entered, unit_length, process_made, global_made, starts_of, unit_started, scanned, initial_of}

-- ---- values
module _ (t : List ℕ) (k : ℕ) {c : ℕ} (ec : c ≡ code_of t k) where
  pub literal_number : c ≡ c_number → {n : ℕ} {r : ℤ} → n ≡ number_of t k → mag r < 2 ^ 31 → r ≡ kept n → to_z w32 (of_z w32 r) ≡ literal_of t k
  unfolding literal_of
  literal_number e en h er = rw (← ec, e) (back h ∙ er ∙ ap kept en)

  pub literal_true : c ≡ c_true → pos 1 ≡ literal_of t k
  unfolding literal_of
  literal_true e = rw (← ec, e)

  pub literal_none : (c ≡ c_number → ⊥) → (c ≡ c_true → ⊥) → pos 0 ≡ literal_of t k
  unfolding literal_of
  literal_none a b = rw (← ec, ne_eqb c c_number a, ne_eqb c c_true b)

module _ (t : List ℕ) (k : ℕ) {c : ℕ} (ec : c ≡ code_of t (k + 1)) where
  pub value_plain : c ≡ c_value → {r : ℤ} → mag r < 2 ^ 31 → r ≡ literal_of t k → to_z w32 (of_z w32 r) ≡ value_of t k
  unfolding value_of
  value_plain e h er = rw (← ec, e) (back h ∙ er)

  pub value_minus : c ≡ c_minus → {x r : ℤ} → mag x < 2 ^ 31 → x ≡ literal_of t k → mag r < 2 ^ 31 → r ≡ unary_of 15 (to_z w32 (of_z w32 x)) → to_z w32 (of_z w32 r) ≡ value_of t k
  unfolding value_of
  value_minus e g ex h er = rw (← ec, e) (back h ∙ er ∙ ap (unary_of 15) (back g ∙ ex))

  pub value_named : c ≡ c_named → {l m : ℕ} {r : ℤ} → l ≡ link_of t (k + 1) → m ≡ link_of t l → mag r < 2 ^ 31 → r ≡ kept m → to_z w32 (of_z w32 r) ≡ value_of t k
  unfolding value_of
  value_named e el em h er = rw (← ec, e) (back h ∙ er ∙ ap kept (em ∙ ap (link_of t) el))

  pub value_none : (c ≡ c_value → ⊥) → (c ≡ c_minus → ⊥) → (c ≡ c_named → ⊥) → pos 0 ≡ value_of t k
  unfolding value_of
  value_none x y z = rw (← ec, ne_eqb c c_value x, ne_eqb c c_minus y, ne_eqb c c_named z)

-- ---- stores
pub stored_as : (s s' : List ℤ) (l p : ℕ) (v : ℤ) {i ty : ℕ} {z : ℤ} → SFits w32 v → i ≡ slot_of l p 0 → ty ≡ type_of l → z ≡ cast_of ty (to_z w32 (of_z w32 v)) → mag z < 2 ^ 31
    → s' ≡ set s i (to_z w32 (of_z w32 z)) → s' ≡ stored l p v s
stored_as s s' l p v f ei et ez h e = e ∙ (λ i. set s (ei i) ((back h ∙ ez ∙ (λ j. cast_of (et j) (to_z-of_z w32 v f j))) i))

pub channel-more : (s s₁ s₂ : List ℤ) (m : ℕ) {c i : ℕ} → c ≡ channels_of s → i ≡ channel_at c → s₁ ≡ set s i (kept m) → s₂ ≡ set s₁ 1 (kept (c + 1)) → s₂ ≡ channel_made m s
unfolding channel_made
channel-more s s₁ s₂ m ec ei e₁ e₂ = e₂ ∙ (λ i. set ((e₁ ∙ (λ j. set s ((ei ∙ ap channel_at ec) j) (kept m))) i) 1 (kept (ec i + 1)))

module _ (t : List ℕ) (s : List ℤ) (l p k : ℕ) {c : ℕ} (ec : c ≡ code_of t (k + 1)) where
  pub variable_channel : c ≡ c_channel → {s₁ s₂ : List ℤ} {n : ℕ} {z : ℤ} → n ≡ channels_of s → s₁ ≡ channel_made (k + 1) s → mag z < 2 ^ 31 → z ≡ kept (n + 1)
      → s₂ ≡ stored l p (to_z w32 (of_z w32 z)) s₁ → s₂ ≡ variable_made t l p k s
  unfolding variable_made
  variable_channel e en e₁ h ez e₂ = rw (← ec, e) (e₂ ∙ (λ i. stored l p ((back h ∙ ez ∙ ap (λ n. kept (n + 1)) en) i) (e₁ i)))

  pub variable_filled : (c ≡ c_channel → ⊥) → {s₁ : List ℤ} {ty : ℕ} {v z : ℤ} → ty ≡ type_of l → mag v < 2 ^ 31 → v ≡ value_of t k → mag z < 2 ^ 31 → z ≡ cast_of ty (to_z w32 (of_z w32 v))
      → s₁ ≡ filled l p (to_z w32 (of_z w32 z)) s → s₁ ≡ variable_made t l p k s
  unfolding variable_made
  variable_filled e et g ev h ez e₁ = rw (← ec, ne_eqb c c_channel e) (e₁ ∙ ap (λ z. filled l p z s) (back h ∙ ez ∙ (λ i. cast_of (et i) ((back g ∙ ev) i))))

-- ---- items
module _ (t : List ℕ) (s : List ℤ) (p j : ℕ) {c : ℕ} (ec : c ≡ code_of t j) where
  pub entered_body : c ≡ c_body → {s₁ : List ℤ} {i l : ℕ} → i ≡ process_at_lem p → l ≡ link_of t j → s₁ ≡ set s (i + 1) (kept l) → s₁ ≡ entered t p j s
  unfolding entered
  entered_body e ei el e₁ = rw (← ec, e) (e₁ ∙ (λ k. set s (ei k + 1) (kept (el k))))

  pub entered_variable : c ≡ c_declared → {s₁ : List ℤ} → s₁ ≡ declared t p j s → s₁ ≡ entered t p j s
  unfolding entered
  entered_variable e e₁ = rw (← ec, e) e₁

  pub entered_other : (c ≡ c_body → ⊥) → (c ≡ c_declared → ⊥) → s ≡ entered t p j s
  unfolding entered
  entered_other a b = rw (← ec, ne_eqb c c_body a, ne_eqb c c_declared b)

module _ (t : List ℕ) (s : List ℤ) (j : ℕ) {c : ℕ} (ec : c ≡ code_of t j) where
  pub global_other : (c ≡ c_declared → ⊥) → s ≡ global_made t j s
  unfolding global_made
  global_other a = rw (← ec, ne_eqb c c_declared a)

  module _ (e : c ≡ c_declared) {l : ℕ} (el : l ≡ link_of t j) where
    pub global-here : l / 8 % 2 ≡ 0 → {s₁ : List ℤ} → s₁ ≡ declared t 0 j s → s₁ ≡ global_made t j s
    unfolding global_made
    global-here z e₁ = rw (← ec, e, eq-eqb (link_of t j / 8 % 2) 0 (ap (λ a. a / 8 % 2) (sym el) ∙ z)) e₁

    pub global_local : (l / 8 % 2 ≡ 0 → ⊥) → s ≡ global_made t j s
    unfolding global_made
    global_local z = rw (← ec, e, ne_eqb (link_of t j / 8 % 2) 0 (λ q. z (ap (λ a. a / 8 % 2) el ∙ q)))

  pub starts-one : c ≡ c_active → 1 ≡ starts_of t j
  unfolding starts_of
  starts-one e = rw (← ec, e)

  pub starts-many : c ≡ c_active_many → {i r : ℕ} → i ≡ j - 2 → r ≡ number_of t i → r ≡ starts_of t j
  unfolding starts_of
  starts-many e ei er = rw (← ec, e) (er ∙ ap (number_of t) ei)

  pub starts_init : c ≡ c_init → 1 ≡ starts_of t j
  unfolding starts_of
  starts_init e = rw (← ec, e)

  pub starts_none : (c ≡ c_active → ⊥) → (c ≡ c_active_many → ⊥) → (c ≡ c_init → ⊥) → 0 ≡ starts_of t j
  unfolding starts_of
  starts_none x y z = rw (← ec, ne_eqb c c_active x, ne_eqb c c_active_many y, ne_eqb c c_init z)

-- ---- units
pub filled-all : (l p : ℕ) (v : ℤ) (s s' : List ℤ) {n : ℕ} → n ≡ size_of l → s' ≡ walk (λ k x. set x (slot_of l p k) v) 0 n s → s' ≡ filled l p v s
unfolding filled
filled-all l p v s s' en e = e ∙ ap (λ n. walk (λ k x. set x (slot_of l p k) v) 0 n s) en

module _ (t : List ℕ) (s : List ℤ) (u : ℕ) {p : ℕ} (ep : p ≡ processes_of s) where
  pub process-full : processes_most ≤ p → s ≡ process_made t u s
  unfolding process_made
  process-full h = rw (← ep, le-ltb p processes_most h)

  pub process-more : p < processes_most → {s₁ s₂ s₃ : List ℤ} {i n : ℕ} → i ≡ process_at_lem p → s₁ ≡ set s i (kept u) → s₂ ≡ set s₁ 0 (kept (p + 1)) → n ≡ unit_length t u
      → s₃ ≡ walk (λ k x. entered t p (u + k) x) 0 n s₂ → s₃ ≡ process_made t u s
  unfolding process_made
  process-more h {s₁} {s₂} ei e₁ e₂ en e₃ =
      let q : s₂ ≡ set (set s (process_at_lem p) (kept u)) 0 (kept (p + 1)) = e₂ ∙ ap (λ x. set x 0 (kept (p + 1))) (e₁ ∙ ap (λ i. set s i (kept u)) ei) in
      rw (← ep, lt-ltb p processes_most h) (e₃ ∙ (λ j. walk (λ k x. entered t p (u + k) x) 0 (en j) (q j)))

pub unit-all : (t : List ℕ) (j : ℕ) (s s' : List ℤ) {n m : ℕ} → m ≡ starts_of t j → n ≡ min processes_most m → s' ≡ walk (λ k x. process_made t j x) 0 n s → s' ≡ unit_started t j s
unfolding unit_started
unit-all t j s s' em en e = e ∙ ap (λ n. walk (λ k x. process_made t j x) 0 n s) (en ∙ ap (min processes_most) em)

module _ (t : List ℕ) (u : ℕ) {e : ℕ} (ee : e ≡ link_of t u) where
  pub length_some : {r : ℕ} → r ≡ min items_most (e - u) → r ≡ unit_length t u
  unfolding unit_length
  length_some er = er ∙ ap (λ a. min items_most (a - u)) ee

pub whole-state : (t : List ℕ) (s s₁ s₂ s₃ : List ℤ) {n m : ℕ} → m ≡ items_of t → n ≡ min items_most m → s₁ ≡ cleared s → s₂ ≡ walk (global_made t) 0 n s₁ → s₃ ≡ walk (unit_started t) 0 n s₂ → s₃ ≡ initial_of t s
unfolding initial_of scanned
whole-state t s s₁ s₂ s₃ em en e₁ e₂ e₃ =
    let q : _ ≡ min items_most (items_of t) = en ∙ ap (min items_most) em in
    e₃ ∙ (λ i. walk (unit_started t) 0 (q i) ((e₂ ∙ (λ j. walk (global_made t) 0 (q j) (e₁ j))) i))
