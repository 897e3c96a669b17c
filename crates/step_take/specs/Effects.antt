-- Mechanism, held to the specification by `demand2` (crate `demands`).
-- Taking the step of the statement at a place: document 01, "How it moves", "Arguments of a send or `run` are worked out only when there is room for it", and "`v = run`
-- stores 0 where nothing fits". `t` are tables, `s` the state before, p the number of the process, q the place, m the statement's mark.
use Rattle.std.specs.Prelude.{ℕ, zero, suc, ◌+◌, ◌/◌, List, get_or, set, ℤ, pos, negsuc, eqb}
use Rattle.base_ceilings.specs.Ceilings.{numbers_most}
use Rattle.base_codes.specs.Codes.{c_assert, c_break, c_decrement, c_else, c_end, c_express, c_goto, c_increment, c_parameter, c_receive, c_run, c_send, c_set_run, c_skip, c_target, c_timeout, c_text}
use Rattle.base_bytes.specs.Choice.{pick}
use Rattle.table_layout.specs.Access.{code_of, link_of}
use Rattle.base_values.specs.Types.{cast_of}
use Rattle.state_layout.specs.Layout.{kept, processes_of}
use Rattle.state_layout.specs.Walks.{walk}
use Rattle.step_eval.specs.Variables.{type_of, slot_of}
use Rattle.step_eval.specs.Expressions.{locate_of}
use Rattle.state_start.specs.Starting.{unit_length, process_made}
use Rattle.step_ready.specs.Executing.{mark_of, fits_of}
use Rattle.step_messages.specs.Messages.{on_place, gather_end, gather_list}
use Rattle.base_outcome.specs.declared.Taken.TheVariants.{Done, Idle}
use Rattle.step_statements.specs.Statements.{Effect, fault, moved, on_end, blank, stored_at, passed, expressed, asserted, stepped, assigned, sent, received, printed}

module _ (t : List ℕ) where
  -- where the arguments from item a on end, at most n of them
  unfoldable pub end_from : ℕ → ℕ → ℕ
  end_from zero a = a
  end_from (suc n) a = pick (eqb (code_of t a) c_end) a (end_from n (link_of t a + 1))

  -- item j, if it is a parameter of process p: it gets its value of l
  unfoldable pub parameter_set : ℕ → List ℤ → ℕ → List ℤ → List ℤ
  parameter_set p l j s = pick (eqb (code_of t j) c_parameter) (set s (slot_of (link_of t j) p 0) (cast_of (type_of (link_of t j)) (get_or l (link_of t j / 1024) (pos 0)))) s

  -- one more process of the unit u, with the arguments l
  unfoldable pub called : ℕ → List ℤ → List ℤ → List ℤ
  called u l s = walk (λ k x. parameter_set (processes_of s) l (u + k) x) 0 (unit_length t u) (process_made t u s)

  module _ (p : ℕ) where
    -- arguments are worked out only where there is room
    unfoldable pub ran : ℕ → List ℤ → Effect
    ran m s =
        pick (fits_of t s (link_of t m))
        (on_end (gather_end t s p numbers_most (m + 1)) (λ e. (Done, moved p (link_of t e) (called (link_of t m) (gather_list t s p numbers_most (m + 1) 0 blank) s))) (fault s)) (Idle, s)

    -- the target stands in place i: "`v = run` stores 0 where nothing fits"
    unfoldable pub set_run_at : ℕ → ℕ → ℕ → List ℤ → Effect
    set_run_at i m e s =
        pick (fits_of t s (link_of t e))
        (on_end (gather_end t s p numbers_most (e + 1))
        (λ z. (Done, moved p (link_of t z) (stored_at t m i (kept (processes_of s)) (called (link_of t e) (gather_list t s p numbers_most (e + 1) 0 blank) s)))) (fault s))
        (Done, moved p (link_of t (end_from numbers_most (e + 1))) (stored_at t m i (pos 0) s))

    unfoldable pub set_ran : ℕ → ℕ → ℕ → List ℤ → Effect
    set_ran q m e s = on_place (locate_of t s p q m) (λ i. set_run_at i m e s) (fault s)

    -- a target's statement: an assignment or `v = run`
    unfoldable pub targeted : ℕ → ℕ → List ℤ → Effect
    targeted q m s = pick (eqb (code_of t (link_of t m)) c_set_run) (set_ran q m (link_of t m) s) (assigned t p q m (link_of t m) s)

    -- by the code of its mark
    unfoldable pub taken_as : ℕ → ℕ → ℕ → List ℤ → Effect
    taken_as c q m s =
        pick (eqb c c_text) (printed t p m s)
        (pick (eqb c c_express) (expressed t p q m s)
        (pick (eqb c c_target) (targeted q m s)
        (pick (eqb c c_increment) (stepped t p (pos 1) q m s)
        (pick (eqb c c_decrement) (stepped t p (negsuc 0) q m s)
        (pick (eqb c c_send) (sent t p q m s)
        (pick (eqb c c_receive) (received t p q m s)
        (pick (eqb c c_assert) (asserted t p q m s)
        -- skip, goto, break, timeout, else
        (pick (eqb c c_skip) (passed t p m s)
        (pick (eqb c c_goto) (passed t p m s)
        (pick (eqb c c_break) (passed t p m s)
        (pick (eqb c c_timeout) (passed t p m s)
        (pick (eqb c c_else) (passed t p m s)
        (pick (eqb c c_run) (ran m s) (Idle, s))))))))))))))

    abbrev pub taken_by : ℕ → ℕ → List ℤ → Effect
    taken_by q m s = taken_as (code_of t m) q m s

    -- the step of the statement at place q
    abbrev pub taken_of : ℕ → List ℤ → Effect
    taken_of q s = taken_by q (mark_of t q) s
