-- Laws that the proofs of `step_take` cite: what its callees say, put together.
use Rattle.std.specs.Prelude.{Result, Ok, Err}
use Prim.Native.Nat.{ℕ, zero, suc, ◌+◌, ◌/◌, ◌<◌, ◌^◌}
use mathlib.Core.Path.{◌≡◌, refl, sym, ap, ◌∙◌}
use mathlib.Core.Bool.{Bool, true, false}
use mathlib.Core.List.{List}
use lib.ListN.{get_or, set}
use lib.IntN.{ℤ, pos, negsuc}
use lib.Signed.{mag}
use lib.Dec.{ltb, leb}
use borrow.Author.Tests.{ne_eqb, eq-eqb, ltb-true}
use mir.Syntax.{w32}
use mir.Val.{to_z, of_z}
use Rattle.base_ceilings.specs.Ceilings.{channels_most, numbers_most, processes_most}
use Rattle.base_codes.specs.Codes.{c_assert, c_break, c_decrement, c_else, c_end, c_express, c_goto, c_increment, c_parameter, c_receive, c_run, c_send, c_set_run, c_skip, c_target, c_timeout, c_text}
use Rattle.base_bytes.specs.Choice.{pick}
use Rattle.table_layout.specs.Access.{code_of, link_of}
use Rattle.base_values.specs.Types.{cast_of}
use Rattle.base_values.specs.declared.Fault.{Fault}
use Rattle.state_layout.proofs.Laws.{back}
use Rattle.state_layout.specs.Layout.{kept, cell_of, processes_of, channels_of}
use Rattle.state_layout.specs.Walks.{walk}
use Rattle.step_eval.specs.Variables.{type_of, slot_of}
use Rattle.step_eval.specs.Expressions.{locate_of}
use Rattle.state_start.specs.Starting.{unit_length, process_made}
use Rattle.step_ready.specs.Executing.{channels_in, fits_of}
use Rattle.step_messages.specs.Messages.{gather_end, gather_list}
use Rattle.base_outcome.specs.declared.Taken.TheVariants.{Done, Faulted, Idle}
use Rattle.step_statements.specs.Statements.{Effect, fault, moved, on_end, blank, stored_at, passed, expressed, asserted, stepped, assigned, sent, received, printed}
use Rattle.step_statements.proofs.Laws.{outcome, on_at, on_astray, on_upto, on_failed, done_moved}
use Rattle.step_take.specs.Effects.{end_from, parameter_set, called, ran, set_run_at, set_ran, targeted, taken_as, taken_by}
use Rattle.base_bytes.proofs.Tests.{both_left}

-- ---- arguments
module _ (t : List ℕ) where
  pub end_over : (n a : ℕ) {c : ℕ} → c ≡ code_of t a → c ≡ c_end → a ≡ end_from t n a
  unfolding end_from
  end_over zero a ec e = refl
  end_over (suc n) a ec e = rw (← ec, e)

  pub end_more : (n n1 a : ℕ) {c l : ℕ} → n ≡ suc n1 → c ≡ code_of t a → (c ≡ c_end → ⊥) → l ≡ link_of t a → end_from t n1 (l + 1) ≡ end_from t n a
  unfolding end_from
  end_more n n1 a {c} en ec h el = rw (en, ← ec, ne_eqb c c_end h) (ap (λ b. end_from t n1 (b + 1)) el)

  pub end_none : (n a : ℕ) → n ≡ 0 → a ≡ end_from t n a
  unfolding end_from
  end_none n a e = rw e

module _ (t : List ℕ) (p : ℕ) (l : List ℤ) (j : ℕ) (s : List ℤ) {c : ℕ} (ec : c ≡ code_of t j) where
  pub parameter_other : (c ≡ c_parameter → ⊥) → s ≡ parameter_set t p l j s
  unfolding parameter_set
  parameter_other h = rw (← ec, ne_eqb c c_parameter h)

  pub parameter_here : c ≡ c_parameter → {k ty i : ℕ} {v z : ℤ} {s' : List ℤ} → k ≡ link_of t j → ty ≡ type_of k → mag v < 2 ^ 31 → v ≡ cell_of l (k / 1024) → z ≡ cast_of ty (to_z w32 (of_z w32 v)) → mag z < 2 ^ 31
      → i ≡ slot_of k p 0 → s' ≡ set s i (to_z w32 (of_z w32 z)) → s' ≡ parameter_set t p l j s
  unfolding parameter_set
  parameter_here e ek et h ev ez g ei es =
      rw (← ec, e)
      (es
      ∙ (λ n. set s (ei n) ((back g ∙ ez ∙ (λ o. cast_of (et o) ((back h ∙ ev) o))) n))
      ∙ ap (λ k. set s (slot_of k p 0) (cast_of (type_of k) (get_or l (k / 1024) (pos 0)))) ek)

pub called-all : (t : List ℕ) (u : ℕ) (l s s₁ s₂ : List ℤ) {p n : ℕ} → p ≡ processes_of s → s₁ ≡ process_made t u s → n ≡ unit_length t u → s₂ ≡ walk (λ k x. parameter_set t p l (u + k) x) 0 n s₁ → s₂ ≡ called t u l s
unfolding called
called-all t u l s s₁ s₂ ep e₁ en e₂ = e₂ ∙ (λ i. walk (λ k x. parameter_set t (ep i) l (u + k) x) 0 (en i) (e₁ i))

-- where there is room, there are fewer than the most processes
pub room-below : (t : List ℕ) (s : List ℤ) (u : ℕ) {r : Bool} → r ≡ fits_of t s u → r ≡ true → processes_of s < processes_most
unfolding fits_of
room-below t s u er e = ltb-true (processes_of s) processes_most (both_left (ltb (processes_of s) processes_most) (leb (channels_of s + channels_in t u) channels_most) (sym er ∙ e))

-- ---- run
module _ (t : List ℕ) (p m : ℕ) (s : List ℤ) where
  module _ {u : ℕ} (eu : u ≡ link_of t m) {b : Bool} (eb : b ≡ fits_of t s u) where
    fits : fits_of t s (link_of t m) ≡ b
    fits = sym (eb ∙ ap (fits_of t s) eu)

    pub run_idle : b ≡ false → outcome Idle s ≡ ran t p m s
    unfolding ran
    run_idle e = sym (ap (λ z. pick z (on_end (gather_end t s p numbers_most (m + 1)) (λ e. (Done, moved p (link_of t e) (called t (link_of t m) (gather_list t s p numbers_most (m + 1) 0 blank) s))) (fault s)) (Idle, s)) (fits ∙ e))

    module _ (e : b ≡ true) {g : Result ℕ Fault} (eg : g ≡ gather_end t s p numbers_most (m + 1)) where
      run_by_lem : {r : Effect} → r ≡ on_end (gather_end t s p numbers_most (m + 1)) (λ e. (Done, moved p (link_of t e) (called t (link_of t m) (gather_list t s p numbers_most (m + 1) 0 blank) s))) (fault s) → r ≡ ran t p m s
      unfolding ran
      run_by_lem er = er ∙ sym (ap (λ z. pick z (on_end (gather_end t s p numbers_most (m + 1)) (λ e. (Done, moved p (link_of t e) (called t (link_of t m) (gather_list t s p numbers_most (m + 1) 0 blank) s))) (fault s)) (Idle, s)) (fits ∙ e))

      pub run-fault : {f : Fault} → g ≡ Err f → outcome (Faulted f) s ≡ ran t p m s
      run-fault z = run_by_lem (on_failed (λ e. (Done, moved p (link_of t e) (called t (link_of t m) (gather_list t s p numbers_most (m + 1) 0 blank) s))) (fault s) eg z)

      pub run_done : {d l : ℕ} {v s₁ s₂ : List ℤ} → g ≡ Ok d → v ≡ gather_list t s p numbers_most (m + 1) 0 blank → s₁ ≡ called t u v s → l ≡ link_of t d → s₂ ≡ moved p l s₁ → outcome Done s₂ ≡ ran t p m s
      run_done {d} {l} {v} {s₁} {s₂} z ev e₁ el e₂ =
          run_by_lem
          (done_moved p (link_of t d) s s₁ s₂ (e₁ ∙ (λ i. called t (eu i) (ev i) s)) el e₂
          ∙ on_upto (λ e. (Done, moved p (link_of t e) (called t (link_of t m) (gather_list t s p numbers_most (m + 1) 0 blank) s))) (fault s) eg z)

module _ (t : List ℕ) (p q m : ℕ) (s : List ℤ) {x : Result ℕ Fault} (ex : x ≡ locate_of t s p q m) (e : ℕ) where
  pub set_run_astray : {f : Fault} → x ≡ Err f → outcome (Faulted f) s ≡ set_ran t p q m e s
  unfolding set_ran
  set_run_astray k = on_astray (λ i. set_run_at t p i m e s) (fault s) ex k

  pub set_run_at_lem : {i : ℕ} {r : Effect} → x ≡ Ok i → r ≡ set_run_at t p i m e s → r ≡ set_ran t p q m e s
  unfolding set_ran
  set_run_at_lem k er = er ∙ on_at (λ i. set_run_at t p i m e s) (fault s) ex k

-- ---- `v = run`, its target in place i
module _ (t : List ℕ) (p i m e : ℕ) (s : List ℤ) {u : ℕ} (eu : u ≡ link_of t e) {b : Bool} (eb : b ≡ fits_of t s u) where
  new : ℕ → Effect
  new z = (Done, moved p (link_of t z) (stored_at t m i (kept (processes_of s)) (called t (link_of t e) (gather_list t s p numbers_most (e + 1) 0 blank) s)))

  none : Effect
  none = (Done, moved p (link_of t (end_from t numbers_most (e + 1))) (stored_at t m i (pos 0) s))

  chosen : set_run_at t p i m e s ≡ pick b (on_end (gather_end t s p numbers_most (e + 1)) new (fault s)) none
  unfolding set_run_at new none
  chosen = ap (λ z. pick z (on_end (gather_end t s p numbers_most (e + 1)) new (fault s)) none) (sym (eb ∙ ap (fits_of t s) eu))

  pub set_run_none : b ≡ false → {a l : ℕ} {s₁ s₂ : List ℤ} → s₁ ≡ stored_at t m i (pos 0) s → a ≡ end_from t numbers_most (e + 1) → l ≡ link_of t a → s₂ ≡ moved p l s₁ → outcome Done s₂ ≡ set_run_at t p i m e s
  unfolding none
  set_run_none k {a} {l} {s₁} {s₂} e₁ ea el e₂ =
      done_moved p (link_of t (end_from t numbers_most (e + 1))) s s₁ s₂ e₁ (el ∙ ap (link_of t) ea) e₂ ∙ sym (chosen ∙ ap (λ z. pick z (on_end (gather_end t s p numbers_most (e + 1)) new (fault s)) none) k)

  module _ (k : b ≡ true) {g : Result ℕ Fault} (eg : g ≡ gather_end t s p numbers_most (e + 1)) where
    whole : {r : Effect} → r ≡ on_end (gather_end t s p numbers_most (e + 1)) new (fault s) → r ≡ set_run_at t p i m e s
    whole er = er ∙ sym (chosen ∙ ap (λ z. pick z (on_end (gather_end t s p numbers_most (e + 1)) new (fault s)) none) k)

    pub set_run_fault : {f : Fault} → g ≡ Err f → outcome (Faulted f) s ≡ set_run_at t p i m e s
    set_run_fault z = whole (on_failed new (fault s) eg z)

    pub set_run_done : {d n l : ℕ} {v s₁ s₂ s₃ : List ℤ} {w : ℤ} → g ≡ Ok d → v ≡ gather_list t s p numbers_most (e + 1) 0 blank → n ≡ processes_of s → s₁ ≡ called t u v s → mag w < 2 ^ 31 → w ≡ kept n
        → s₂ ≡ stored_at t m i (to_z w32 (of_z w32 w)) s₁ → l ≡ link_of t d → s₃ ≡ moved p l s₂ → outcome Done s₃ ≡ set_run_at t p i m e s
    unfolding new
    set_run_done {d} {n} {l} {v} {s₁} {s₂} {s₃} {w} z ev en e₁ h ew e₂ el e₃ =
        whole
        (done_moved p (link_of t d) s s₂ s₃ (e₂ ∙ (λ j. stored_at t m i ((back h ∙ ew ∙ ap kept en) j) ((e₁ ∙ (λ k. called t (eu k) (ev k) s)) j))) el e₃ ∙ on_upto new (fault s) eg z)

-- ---- which statement
module _ (t : List ℕ) (p q m : ℕ) (s : List ℤ) {e c : ℕ} (ee : e ≡ link_of t m) (ec : c ≡ code_of t e) where
  pub target_run : c ≡ c_set_run → {r : Effect} → r ≡ set_ran t p q m e s → r ≡ targeted t p q m s
  unfolding targeted
  target_run k er =
      er ∙ ap (λ a. set_ran t p q m a s) ee ∙ sym (ap (λ z. pick z (set_ran t p q m (link_of t m) s) (assigned t p q m (link_of t m) s)) (eq-eqb (code_of t (link_of t m)) c_set_run (sym (ec ∙ ap (code_of t) ee) ∙ k)))

  pub target_assign : (c ≡ c_set_run → ⊥) → {r : Effect} → r ≡ assigned t p q m e s → r ≡ targeted t p q m s
  unfolding targeted
  target_assign k er =
      er ∙ ap (λ a. assigned t p q m a s) ee
      ∙ sym (ap (λ z. pick z (set_ran t p q m (link_of t m) s) (assigned t p q m (link_of t m) s)) (ne_eqb (code_of t (link_of t m)) c_set_run (λ z. k (ec ∙ ap (code_of t) ee ∙ z))))

module _ (t : List ℕ) (p q m : ℕ) (s : List ℤ) {c : ℕ} (ec : c ≡ code_of t m) where
  pub by_print : c ≡ c_text → {r : Effect} → r ≡ printed t p m s → r ≡ taken_by t p q m s
  unfolding taken_as
  by_print e er = er ∙ ap (λ k. taken_as t p k q m s) (sym e ∙ ec)

  pub by_express : c ≡ c_express → {r : Effect} → r ≡ expressed t p q m s → r ≡ taken_by t p q m s
  unfolding taken_as
  by_express e er = er ∙ ap (λ k. taken_as t p k q m s) (sym e ∙ ec)

  pub by_target : c ≡ c_target → {r : Effect} → r ≡ targeted t p q m s → r ≡ taken_by t p q m s
  unfolding taken_as
  by_target e er = er ∙ ap (λ k. taken_as t p k q m s) (sym e ∙ ec)

  pub by_more : c ≡ c_increment → {r : Effect} → r ≡ stepped t p (pos 1) q m s → r ≡ taken_by t p q m s
  unfolding taken_as
  by_more e er = er ∙ ap (λ k. taken_as t p k q m s) (sym e ∙ ec)

  pub by_less : c ≡ c_decrement → {r : Effect} → r ≡ stepped t p (negsuc 0) q m s → r ≡ taken_by t p q m s
  unfolding taken_as
  by_less e er = er ∙ ap (λ k. taken_as t p k q m s) (sym e ∙ ec)

  pub by_send : c ≡ c_send → {r : Effect} → r ≡ sent t p q m s → r ≡ taken_by t p q m s
  unfolding taken_as
  by_send e er = er ∙ ap (λ k. taken_as t p k q m s) (sym e ∙ ec)

  pub by_receive : c ≡ c_receive → {r : Effect} → r ≡ received t p q m s → r ≡ taken_by t p q m s
  unfolding taken_as
  by_receive e er = er ∙ ap (λ k. taken_as t p k q m s) (sym e ∙ ec)

  pub by_assert : c ≡ c_assert → {r : Effect} → r ≡ asserted t p q m s → r ≡ taken_by t p q m s
  unfolding taken_as
  by_assert e er = er ∙ ap (λ k. taken_as t p k q m s) (sym e ∙ ec)

  pub by_skip : c ≡ c_skip → {r : Effect} → r ≡ passed t p m s → r ≡ taken_by t p q m s
  unfolding taken_as
  by_skip e er = er ∙ ap (λ k. taken_as t p k q m s) (sym e ∙ ec)

  pub by_goto : c ≡ c_goto → {r : Effect} → r ≡ passed t p m s → r ≡ taken_by t p q m s
  unfolding taken_as
  by_goto e er = er ∙ ap (λ k. taken_as t p k q m s) (sym e ∙ ec)

  pub by_break : c ≡ c_break → {r : Effect} → r ≡ passed t p m s → r ≡ taken_by t p q m s
  unfolding taken_as
  by_break e er = er ∙ ap (λ k. taken_as t p k q m s) (sym e ∙ ec)

  pub by_timeout : c ≡ c_timeout → {r : Effect} → r ≡ passed t p m s → r ≡ taken_by t p q m s
  unfolding taken_as
  by_timeout e er = er ∙ ap (λ k. taken_as t p k q m s) (sym e ∙ ec)

  pub by_else : c ≡ c_else → {r : Effect} → r ≡ passed t p m s → r ≡ taken_by t p q m s
  unfolding taken_as
  by_else e er = er ∙ ap (λ k. taken_as t p k q m s) (sym e ∙ ec)

  pub by_run : c ≡ c_run → {r : Effect} → r ≡ ran t p m s → r ≡ taken_by t p q m s
  unfolding taken_as
  by_run e er = er ∙ ap (λ k. taken_as t p k q m s) (sym e ∙ ec)

  pub by_none : (c ≡ c_text → ⊥) → (c ≡ c_express → ⊥) → (c ≡ c_target → ⊥) → (c ≡ c_increment → ⊥) → (c ≡ c_decrement → ⊥) → (c ≡ c_send → ⊥) → (c ≡ c_receive → ⊥) → (c ≡ c_assert → ⊥) → (c ≡ c_skip → ⊥) → (c ≡ c_goto → ⊥) → (c ≡ c_break → ⊥) → (c ≡ c_timeout → ⊥) → (c ≡ c_else → ⊥) → (c ≡ c_run → ⊥) → outcome Idle s ≡ taken_by t p q m s
  unfolding taken_as
  by_none h72 h189 h190 h192 h193 h194 h195 h196 h197 h198 h199 h200 h201 h202 = rw (← ec, ne_eqb c c_text h72, ne_eqb c c_express h189, ne_eqb c c_target h190, ne_eqb c c_increment h192, ne_eqb c c_decrement h193, ne_eqb c c_send h194, ne_eqb c c_receive h195, ne_eqb c c_assert h196, ne_eqb c c_skip h197, ne_eqb c c_goto h198, ne_eqb c c_break h199, ne_eqb c c_timeout h200, ne_eqb c c_else h201, ne_eqb c c_run h202)
