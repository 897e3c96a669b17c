-- ONLY A STEP THAT IS DONE CHANGES NUMBERS: one that fails, or does nothing, leaves the state.
use Rattle.std.specs.Prelude.{Result, Ok, Err}
use Prim.Native.Nat.{ℕ, ◌+◌}
use mathlib.Core.Path.{◌≡◌, refl}
use mathlib.Core.Bool.{Bool, true, false}
use mathlib.Core.List.{List}
use lib.IntN.{ℤ, pos, negsuc}
use lib.Dec.{eqb}
use Rattle.base_codes.specs.Codes.{c_assert, c_break, c_decrement, c_else, c_express, c_goto, c_increment, c_receive, c_run, c_send, c_set_run, c_skip, c_target, c_timeout}
use Rattle.base_bytes.specs.Choice.{pick}
use Rattle.step_eval.specs.Expressions.{eval_of, locate_of}
use Rattle.step_ready.specs.declared.Found.{Found}
use Rattle.step_ready.specs.declared.Found.TheVariants.{Message, Nothing, Spoilt}
use Rattle.step_ready.specs.Channels.{found_of}
use Rattle.step_ready.specs.Executing.{mark_of, message_of, fits_of}
use Rattle.table_layout.specs.Access.{code_of, link_of}
use Rattle.base_values.specs.Operators.{is_true}
use Rattle.step_messages.specs.Messages.{on_value, on_place, gather_end, aim_end}
use Rattle.step_statements.specs.Statements.{Effect, fault, on_end, on_channel, on_found, expressed, asserted, stepped, assigned, sent, received_from, received, printed}
use Rattle.base_outcome.specs.declared.Taken.{Taken}
use Rattle.base_outcome.specs.declared.Taken.TheVariants.{Done, Refuted, Faulted, Idle}
use Rattle.base_values.specs.declared.Fault.{Fault}
use Rattle.step_take.specs.Effects.{ran, set_run_at, set_ran, targeted, taken_as, taken_of}

abbrev pub Still : {S : Type 0} → S → Taken → S → Type 0
Still s Done x = Unit {0}
Still s Refuted x = x ≡ s
Still s (Faulted f) x = x ≡ s
Still s Idle x = x ≡ s

abbrev StillSo : List ℤ → Effect → Type 0
StillSo s r = Still s r.0 r.1

module _ (s : List ℤ) where
  on_value_lem : (v : Result ℤ Fault) (f : ℤ → Effect) → ((z : ℤ) → StillSo s (f z)) → StillSo s (on_value v f (fault s))
  on_value_lem (Ok v) f h = h v
  on_value_lem (Err e) f h = refl

  on_place_lem : (v : Result ℕ Fault) (f : ℕ → Effect) → ((z : ℕ) → StillSo s (f z)) → StillSo s (on_place v f (fault s))
  on_place_lem (Ok i) f h = h i
  on_place_lem (Err e) f h = refl

  on_end_lem : (v : Result ℕ Fault) (f : ℕ → Effect) → ((z : ℕ) → StillSo s (f z)) → StillSo s (on_end v f (fault s))
  on_end_lem (Ok i) f h = h i
  on_end_lem (Err e) f h = refl

  on_channel_lem : (v : Result ℕ Fault) (f : ℕ → Effect) → ((z : ℕ) → StillSo s (f z)) → StillSo s (on_channel v f (fault s))
  on_channel_lem (Ok i) f h = h i
  on_channel_lem (Err e) f h = refl

  on_found_lem : (v : Found) (f : ℕ → Effect) → ((z : ℕ) → StillSo s (f z)) → StillSo s (on_found v f (Idle, s) (fault s))
  on_found_lem (Message w) f h = h w
  on_found_lem Nothing f h = refl
  on_found_lem (Spoilt e) f h = refl

  on_pick : (b : Bool) (x y : Effect) → StillSo s x → StillSo s y → StillSo s (pick b x y)
  on_pick true x y h g = h
  on_pick false x y h g = g

  module _ (t : List ℕ) (p : ℕ) where
    ok_printed : (m : ℕ) → StillSo s (printed t p m s)
    unfolding printed
    ok_printed m = on_end_lem (gather_end t s p 32 (m + 1)) _ (λ e. tt)

    ok_expressed : (q m : ℕ) → StillSo s (expressed t p q m s)
    unfolding expressed
    ok_expressed q m = on_value_lem (eval_of t s p q m) _ (λ v. tt)

    ok_asserted : (q m : ℕ) → StillSo s (asserted t p q m s)
    unfolding asserted
    ok_asserted q m = on_value_lem (eval_of t s p q m) _ (λ v. on_pick (is_true v) _ _ tt refl)

    ok_stepped : (d : ℤ) (q m : ℕ) → StillSo s (stepped t p d q m s)
    unfolding stepped
    ok_stepped d q m = on_place_lem (locate_of t s p q m) _ (λ i. tt)

    ok_assigned : (q m e : ℕ) → StillSo s (assigned t p q m e s)
    unfolding assigned
    ok_assigned q m e = on_place_lem (locate_of t s p q m) _ (λ i. on_value_lem (eval_of t s p (m + 1) e) _ (λ v. tt))

    ok_sent : (q m : ℕ) → StillSo s (sent t p q m s)
    unfolding sent
    ok_sent q m = on_channel_lem (message_of t s p q m) _ (λ c. on_end_lem (gather_end t s p 32 (m + 1)) _ (λ e. tt))

    ok_received : (q m : ℕ) → StillSo s (received t p q m s)
    unfolding received received_from
    ok_received q m = on_channel_lem (message_of t s p q m) _ (λ c. on_found_lem (found_of t s p c (m + 1)) _ (λ w. on_end_lem (aim_end t s p 4 (m + 1)) _ (λ e. tt)))

    ok_ran : (m : ℕ) → StillSo s (ran t p m s)
    unfolding ran
    ok_ran m = on_pick (fits_of t s (link_of t m)) _ _ (on_end_lem (gather_end t s p 32 (m + 1)) _ (λ e. tt)) refl

    ok_set : (q m e : ℕ) → StillSo s (set_ran t p q m e s)
    unfolding set_ran set_run_at
    ok_set q m e = on_place_lem (locate_of t s p q m) _ (λ i. on_pick (fits_of t s (link_of t e)) _ _ (on_end_lem (gather_end t s p 32 (e + 1)) _ (λ z. tt)) tt)

    ok_targeted : (q m : ℕ) → StillSo s (targeted t p q m s)
    unfolding targeted
    ok_targeted q m = on_pick (eqb (code_of t (link_of t m)) c_set_run) _ _ (ok_set q m (link_of t m)) (ok_assigned q m (link_of t m))

    ok_as : (c q m : ℕ) → StillSo s (taken_as t p c q m s)
    unfolding taken_as
    ok_as c q m =
        on_pick (eqb c 72) _ _ (ok_printed m)
        (on_pick (eqb c c_express) _ _ (ok_expressed q m)
        (on_pick (eqb c c_target) _ _ (ok_targeted q m)
        (on_pick (eqb c c_increment) _ _ (ok_stepped (pos 1) q m)
        (on_pick (eqb c c_decrement) _ _ (ok_stepped (negsuc 0) q m)
        (on_pick (eqb c c_send) _ _ (ok_sent q m)
        (on_pick (eqb c c_receive) _ _ (ok_received q m)
        (on_pick (eqb c c_assert) _ _ (ok_asserted q m)
        (on_pick (eqb c c_skip) _ _ tt
        (on_pick (eqb c c_goto) _ _ tt
        (on_pick (eqb c c_break) _ _ tt
        (on_pick (eqb c c_timeout) _ _ tt
        (on_pick (eqb c c_else) _ _ tt
        (on_pick (eqb c c_run) _ _ (ok_ran m) refl)))))))))))))

    pub taken-still : (q : ℕ) → Still s (taken_of t p q s).0 (taken_of t p q s).1
    taken-still q = ok_as (code_of t (mark_of t q)) q (mark_of t q)
