-- Laws that the proofs of `step_statements` cite: what its callees say, put together.
use Rattle.std.specs.Prelude.{Result, Ok, Err}
use Prim.Native.Nat.{ℕ, suc, ◌+◌, ◌-◌, ◌<◌, ◌^◌}
use mathlib.Core.Path.{◌≡◌, refl, sym, ap, ◌∙◌}
use mathlib.Core.Bool.{true, false, not}
use mathlib.Core.List.{List}
use native.Mathlib.Omega.{arith}
use lib.ListN.{set, replicate}
use lib.IntN.{ℤ, pos, negsuc, ◌+ℤ◌}
use lib.Signed.{mag}
use borrow.Author.Tests.{ne_eqb, eq-eqb}
use mir.Syntax.{w32}
use mir.Val.{to_z, of_z, SFits}
use mir.ValLaws.{to_z-of_z}
use Rattle.base_ceilings.specs.Ceilings.{fields_most, numbers_most}
use Rattle.base_bytes.specs.Choice.{pick}
use Rattle.table_layout.specs.Access.{link_of}
use Rattle.base_values.specs.Bits.{wrap32}
use Rattle.base_values.specs.Operators.{is_true}
use Rattle.base_values.specs.Types.{cast_of}
use Rattle.base_values.specs.declared.Fault.{Fault}
use Rattle.state_layout.proofs.Laws.{back}
use Rattle.state_layout.specs.Layout.{kept, cell_of, process_at_lem, waiting_of, field_of}
use Rattle.step_eval.specs.Variables.{variable_of, type_of}
use Rattle.step_eval.specs.Expressions.{eval_of, locate_of}
use Rattle.step_ready.specs.declared.Found.{Found}
use Rattle.step_ready.specs.declared.Found.TheVariants.{Message, Nothing, Spoilt}
use Rattle.step_ready.specs.Channels.{tried_of, found_from, found_of}
use Rattle.step_ready.specs.Executing.{message_of}
use Rattle.step_messages.specs.Messages.{on_value, on_place, gather_end, gather_list, aim_end, aim_list, put_in, taken_out, delivered}
use Rattle.base_outcome.specs.declared.Taken.{Taken}
use Rattle.base_outcome.specs.declared.Taken.TheVariants.{Done, Refuted, Faulted, Idle}
use Rattle.step_statements.specs.Statements.{Effect, fault, moved, on_end, on_channel, on_found, blank, fetched, stored_at, passed, expressed, asserted, stepped, assigned, sent, received_from, received, printed}

abbrev pub outcome : Taken → List ℤ → Effect
outcome r s = (r, s)

-- ---- going on by what came
pub on_value_lem : {A : Type 0} {x y : Result ℤ Fault} {v : ℤ} (g : ℤ → A) (h : Fault → A) → x ≡ y → x ≡ Ok v → g v ≡ on_value y g h
on_value_lem g h e q = ap (λ a. on_value a g h) (sym q ∙ e)

pub on_fails : {A : Type 0} {x y : Result ℤ Fault} {f : Fault} (g : ℤ → A) (h : Fault → A) → x ≡ y → x ≡ Err f → h f ≡ on_value y g h
on_fails g h e q = ap (λ a. on_value a g h) (sym q ∙ e)

pub on_at : {A : Type 0} {x y : Result ℕ Fault} {i : ℕ} (g : ℕ → A) (h : Fault → A) → x ≡ y → x ≡ Ok i → g i ≡ on_place y g h
on_at g h e q = ap (λ a. on_place a g h) (sym q ∙ e)

pub on_astray : {A : Type 0} {x y : Result ℕ Fault} {f : Fault} (g : ℕ → A) (h : Fault → A) → x ≡ y → x ≡ Err f → h f ≡ on_place y g h
on_astray g h e q = ap (λ a. on_place a g h) (sym q ∙ e)

pub on_upto : {A : Type 0} {x y : Result ℕ Fault} {i : ℕ} (g : ℕ → A) (h : Fault → A) → x ≡ y → x ≡ Ok i → g i ≡ on_end y g h
on_upto g h e q = ap (λ a. on_end a g h) (sym q ∙ e)

pub on_failed : {A : Type 0} {x y : Result ℕ Fault} {f : Fault} (g : ℕ → A) (h : Fault → A) → x ≡ y → x ≡ Err f → h f ≡ on_end y g h
on_failed g h e q = ap (λ a. on_end a g h) (sym q ∙ e)

pub on_record : {A : Type 0} {x y : Result ℕ Fault} {c : ℕ} (g : ℕ → A) (h : Fault → A) → x ≡ y → x ≡ Ok c → g c ≡ on_channel y g h
on_record g h e q = ap (λ a. on_channel a g h) (sym q ∙ e)

pub on_unmade : {A : Type 0} {x y : Result ℕ Fault} {f : Fault} (g : ℕ → A) (h : Fault → A) → x ≡ y → x ≡ Err f → h f ≡ on_channel y g h
on_unmade g h e q = ap (λ a. on_channel a g h) (sym q ∙ e)

-- ---- stores
pub moved_to : (p q : ℕ) (s s' : List ℤ) {i : ℕ} → i ≡ process_at_lem p → s' ≡ set s (i + 1) (kept q) → s' ≡ moved p q s
moved_to p q s s' ei e = e ∙ ap (λ i. set s (i + 1) (kept q)) ei

pub stored_at_lem : (t : List ℕ) (m i : ℕ) (v : ℤ) (s s' : List ℤ) {j l ty : ℕ} {z : ℤ} → SFits w32 v → j ≡ m - 1 → l ≡ variable_of t j → ty ≡ type_of l → z ≡ cast_of ty (to_z w32 (of_z w32 v))
    → mag z < 2 ^ 31 → s' ≡ set s i (to_z w32 (of_z w32 z)) → s' ≡ stored_at t m i v s
stored_at_lem t m i v s s' f ej el et ez h e = e ∙ ap (set s i) (back h ∙ ez ∙ (λ n. cast_of ((et ∙ ap type_of (el ∙ ap (variable_of t) ej)) n) (to_z-of_z w32 v f n)))

-- stored, and then on to place q
pub stored_moved : (t : List ℕ) (p m i q : ℕ) (s s₁ s₂ : List ℤ) {v z : ℤ} {l : ℕ} → mag v < 2 ^ 31 → v ≡ z → s₁ ≡ stored_at t m i (to_z w32 (of_z w32 v)) s → l ≡ q → s₂ ≡ moved p l s₁
    → s₂ ≡ moved p q (stored_at t m i z s)
stored_moved t p m i q s s₁ s₂ h ev e₁ el e₂ = e₂ ∙ (λ n. moved p (el n) ((e₁ ∙ ap (λ z. stored_at t m i z s) (back h ∙ ev)) n))

pub done_moved : (p q : ℕ) (s s₁ s₂ : List ℤ) {x : List ℤ} {l : ℕ} → s₁ ≡ x → l ≡ q → s₂ ≡ moved p l s₁ → outcome Done s₂ ≡ outcome Done (moved p q x)
done_moved p q s s₁ s₂ e₁ el e₂ = ap (λ a. (Done, a)) (e₂ ∙ (λ n. moved p (el n) (e₁ n)))

-- ---- tests for 0
pub is_zero : (v : ℤ) → mag v < 2 ^ 31 → of_z w32 v ≡ 0 → is_true v ≡ false
is_zero (pos n) h e = ap not (eq-eqb n 0 e)
is_zero (negsuc n) h e = absurd (no e)
  where
    no : 2 ^ numbers_most - suc n ≡ 0 → ⊥
    no e = omega arith

pub not-zero : (v : ℤ) → (of_z w32 v ≡ 0 → ⊥) → is_true v ≡ true
not-zero (pos n) e = ap not (ne_eqb n 0 e)
not-zero (negsuc n) e = refl

-- ---- statements
module _ (t : List ℕ) (p q m : ℕ) (s : List ℤ) where
  module _ {x : Result ℤ Fault} (ex : x ≡ eval_of t s p q m) where
    pub express_value : {v : ℤ} {r : Effect} → x ≡ Ok v → r ≡ passed t p m s → r ≡ expressed t p q m s
    unfolding expressed
    express_value e er = er ∙ on_value_lem (λ v. passed t p m s) (fault s) ex e

    pub express_fault : {f : Fault} → x ≡ Err f → outcome (Faulted f) s ≡ expressed t p q m s
    unfolding expressed
    express_fault e = on_fails (λ v. passed t p m s) (fault s) ex e

    pub assert_holds : {v : ℤ} {r : Effect} → x ≡ Ok v → (of_z w32 v ≡ 0 → ⊥) → r ≡ passed t p m s → r ≡ asserted t p q m s
    unfolding asserted
    assert_holds {v} e z er = er ∙ ap (λ b. pick b (passed t p m s) (Refuted, s)) (sym (not-zero v z)) ∙ on_value_lem (λ v. pick (is_true v) (passed t p m s) (Refuted, s)) (fault s) ex e

    pub assert_fails : {v : ℤ} → x ≡ Ok v → mag v < 2 ^ 31 → of_z w32 v ≡ 0 → outcome Refuted s ≡ asserted t p q m s
    unfolding asserted
    assert_fails {v} e h z = ap (λ b. pick b (passed t p m s) (Refuted, s)) (sym (is_zero v h z)) ∙ on_value_lem (λ v. pick (is_true v) (passed t p m s) (Refuted, s)) (fault s) ex e

    pub assert_fault : {f : Fault} → x ≡ Err f → outcome (Faulted f) s ≡ asserted t p q m s
    unfolding asserted
    assert_fault e = on_fails (λ v. pick (is_true v) (passed t p m s) (Refuted, s)) (fault s) ex e

  module _ {x : Result ℕ Fault} (ex : x ≡ locate_of t s p q m) where
    pub step_done : (d : ℤ) → SFits w32 d → {i l : ℕ} {c v : ℤ} {s₁ s₂ : List ℤ} → x ≡ Ok i → mag c < 2 ^ 31 → c ≡ cell_of s i → mag v < 2 ^ 31 → v ≡ wrap32 (to_z w32 (of_z w32 c) +ℤ to_z w32 (of_z w32 d))
        → s₁ ≡ stored_at t m i (to_z w32 (of_z w32 v)) s → l ≡ link_of t m → s₂ ≡ moved p l s₁ → outcome Done s₂ ≡ stepped t p d q m s
    unfolding stepped
    step_done d f {i} {l} {c} {v} {s₁} {s₂} e hc ec hv ev e₁ el e₂ =
        let w : v ≡ wrap32 (cell_of s i +ℤ d) = ev ∙ (λ n. wrap32 ((back hc ∙ ec) n +ℤ to_z-of_z w32 d f n)) in
        ap (λ a. (Done, a)) (stored_moved t p m i (link_of t m) s s₁ s₂ hv w e₁ el e₂)
        ∙ on_at (λ i. (Done, moved p (link_of t m) (stored_at t m i (wrap32 (cell_of s i +ℤ d)) s))) (fault s) ex e

    pub step-fault : (d : ℤ) → {f : Fault} → x ≡ Err f → outcome (Faulted f) s ≡ stepped t p d q m s
    unfolding stepped
    step-fault d e = on_astray (λ i. (Done, moved p (link_of t m) (stored_at t m i (wrap32 (cell_of s i +ℤ d)) s))) (fault s) ex e

    module _ (e : ℕ) where
      pub assign_astray : {f : Fault} → x ≡ Err f → outcome (Faulted f) s ≡ assigned t p q m e s
      unfolding assigned
      assign_astray k = on_astray (λ i. on_value (eval_of t s p (m + 1) e) (λ v. (Done, moved p (link_of t e) (stored_at t m i v s))) (fault s)) (fault s) ex k

      module _ {i : ℕ} (k : x ≡ Ok i) {y : Result ℤ Fault} (ey : y ≡ eval_of t s p (m + 1) e) where
        pub assign_fault : {f : Fault} → y ≡ Err f → outcome (Faulted f) s ≡ assigned t p q m e s
        unfolding assigned
        assign_fault z =
            on_fails (λ v. (Done, moved p (link_of t e) (stored_at t m i v s))) (fault s) ey z
            ∙ on_at (λ i. on_value (eval_of t s p (m + 1) e) (λ v. (Done, moved p (link_of t e) (stored_at t m i v s))) (fault s)) (fault s) ex k

        pub assign_done : {v : ℤ} {l : ℕ} {s₁ s₂ : List ℤ} → y ≡ Ok v → mag v < 2 ^ 31 → s₁ ≡ stored_at t m i (to_z w32 (of_z w32 v)) s → l ≡ link_of t e → s₂ ≡ moved p l s₁
            → outcome Done s₂ ≡ assigned t p q m e s
        unfolding assigned
        assign_done {v} {l} {s₁} {s₂} z h e₁ el e₂ =
            ap (λ a. (Done, a)) (stored_moved t p m i (link_of t e) s s₁ s₂ h refl e₁ el e₂)
            ∙ on_value_lem (λ v. (Done, moved p (link_of t e) (stored_at t m i v s))) (fault s) ey z
            ∙ on_at (λ i. on_value (eval_of t s p (m + 1) e) (λ v. (Done, moved p (link_of t e) (stored_at t m i v s))) (fault s)) (fault s) ex k

  -- ---- send and receive
  module _ {x : Result ℕ Fault} (ex : x ≡ message_of t s p q m) where
    pub send_unmade : {f : Fault} → x ≡ Err f → outcome (Faulted f) s ≡ sent t p q m s
    unfolding sent
    send_unmade k = on_unmade (λ c. on_end (gather_end t s p numbers_most (m + 1)) (λ e. (Done, moved p (link_of t e) (put_in t c (waiting_of s c) (gather_list t s p numbers_most (m + 1) 0 blank) s))) (fault s)) (fault s) ex k

    module _ {c : ℕ} (k : x ≡ Ok c) {g : Result ℕ Fault} (eg : g ≡ gather_end t s p numbers_most (m + 1)) where
      send_by : {r : Effect} → r ≡ on_end (gather_end t s p numbers_most (m + 1)) (λ e. (Done, moved p (link_of t e) (put_in t c (waiting_of s c) (gather_list t s p numbers_most (m + 1) 0 blank) s))) (fault s) → r ≡ sent t p q m s
      unfolding sent
      send_by er = er ∙ on_record (λ c. on_end (gather_end t s p numbers_most (m + 1)) (λ e. (Done, moved p (link_of t e) (put_in t c (waiting_of s c) (gather_list t s p numbers_most (m + 1) 0 blank) s))) (fault s)) (fault s) ex k

      pub send_fault : {f : Fault} → g ≡ Err f → outcome (Faulted f) s ≡ sent t p q m s
      send_fault z = send_by (on_failed (λ e. (Done, moved p (link_of t e) (put_in t c (waiting_of s c) (gather_list t s p numbers_most (m + 1) 0 blank) s))) (fault s) eg z)

      pub send_done : {e l w : ℕ} {v s₁ s₂ : List ℤ} → g ≡ Ok e → v ≡ gather_list t s p numbers_most (m + 1) 0 blank → w ≡ waiting_of s c → s₁ ≡ put_in t c w v s → l ≡ link_of t e → s₂ ≡ moved p l s₁ → outcome Done s₂ ≡ sent t p q m s
      send_done {e} {l} {w} {v} {s₁} {s₂} z ev ew e₁ el e₂ =
          send_by
          (done_moved p (link_of t e) s s₁ s₂ (e₁ ∙ (λ i. put_in t c (ew i) (ev i) s)) el e₂
          ∙ on_upto (λ e. (Done, moved p (link_of t e) (put_in t c (waiting_of s c) (gather_list t s p numbers_most (m + 1) 0 blank) s))) (fault s) eg z)

    pub receive_unmade : {f : Fault} → x ≡ Err f → outcome (Faulted f) s ≡ received t p q m s
    unfolding received
    receive_unmade k = on_unmade (λ c. on_found (found_of t s p c (m + 1)) (λ w. received_from t p (m + 1) c w s) (Idle, s) (fault s)) (fault s) ex k

    module _ {c n : ℕ} (k : x ≡ Ok c) (en : n ≡ tried_of s c) {y : Found} (ey : y ≡ found_from t s p n c 0 (m + 1)) where
      receive_found : {z : Found} → y ≡ z → on_found z (λ w. received_from t p (m + 1) c w s) (Idle, s) (fault s) ≡ received t p q m s
      unfolding received
      receive_found z =
          ap (λ a. on_found a (λ w. received_from t p (m + 1) c w s) (Idle, s) (fault s)) (sym z ∙ ey ∙ ap (λ i. found_from t s p i c 0 (m + 1)) en)
          ∙ on_record (λ c. on_found (found_of t s p c (m + 1)) (λ w. received_from t p (m + 1) c w s) (Idle, s) (fault s)) (fault s) ex k

      pub receive_fault : {f : Fault} → y ≡ Spoilt f → outcome (Faulted f) s ≡ received t p q m s
      receive_fault z = receive_found z

      pub receive_none : y ≡ Nothing → outcome Idle s ≡ received t p q m s
      receive_none z = receive_found z

      pub receive_by : {w : ℕ} {r : Effect} → y ≡ Message w → r ≡ received_from t p (m + 1) c w s → r ≡ received t p q m s
      receive_by z er = er ∙ receive_found z

-- the arguments' places are known, and none is at fault
module _ (t : List ℕ) (p a c w : ℕ) (s : List ℤ) {g : Result ℕ Fault} (eg : g ≡ aim_end t s p fields_most a) where
  pub from-fault : {f : Fault} → g ≡ Err f → outcome (Faulted f) s ≡ received_from t p a c w s
  unfolding received_from
  from-fault z = on_failed (λ e. (Done, moved p (link_of t e) (delivered t fields_most a 0 (aim_list t s p fields_most a 0 (replicate fields_most 0)) (fetched s c w (replicate fields_most (pos 0))) (taken_out c w s)))) (fault s) eg z

  pub from_done : {e l : ℕ} {ps : List ℕ} {v s₁ s₂ s₃ : List ℤ} → g ≡ Ok e → ps ≡ aim_list t s p fields_most a 0 (replicate fields_most 0) → v ≡ fetched s c w (replicate fields_most (pos 0)) → s₁ ≡ taken_out c w s
      → s₂ ≡ delivered t fields_most a 0 ps v s₁ → l ≡ link_of t e → s₃ ≡ moved p l s₂ → outcome Done s₃ ≡ received_from t p a c w s
  unfolding received_from
  from_done {e} {l} {ps} {v} {s₁} {s₂} {s₃} z ep ev e₁ e₂ el e₃ =
      done_moved p (link_of t e) s s₂ s₃ (e₂ ∙ (λ i. delivered t fields_most a 0 (ep i) (ev i) (e₁ i))) el e₃
      ∙ on_upto (λ e. (Done, moved p (link_of t e) (delivered t fields_most a 0 (aim_list t s p fields_most a 0 (replicate fields_most 0)) (fetched s c w (replicate fields_most (pos 0))) (taken_out c w s)))) (fault s) eg z

module _ (t : List ℕ) (p m : ℕ) (s : List ℤ) where
  pub print_fault : {g : Result ℕ Fault} {f : Fault} → g ≡ gather_end t s p numbers_most (m + 1) → g ≡ Err f → outcome (Faulted f) s ≡ printed t p m s
  unfolding printed
  print_fault eg z = on_failed (λ e. (Done, moved p (link_of t e) s)) (fault s) eg z

  pub print_done : {g : Result ℕ Fault} {e l : ℕ} {s₁ : List ℤ} → g ≡ gather_end t s p numbers_most (m + 1) → g ≡ Ok e → l ≡ link_of t e → s₁ ≡ moved p l s → outcome Done s₁ ≡ printed t p m s
  unfolding printed
  print_done {g} {e} {l} {s₁} eg z el e₁ = done_moved p (link_of t e) s s s₁ refl el e₁ ∙ on_upto (λ e. (Done, moved p (link_of t e) s)) (fault s) eg z

-- ---- a message
pub one_field : (s : List ℤ) (c w k : ℕ) (l l' x : List ℤ) {v : ℤ} → l ≡ x → mag v < 2 ^ 31 → v ≡ field_of s c w k → l' ≡ set l k (to_z w32 (of_z w32 v)) → l' ≡ set x k (field_of s c w k)
one_field s c w k l l' x e h ev q = q ∙ (λ i. set (e i) k ((back h ∙ ev) i))
