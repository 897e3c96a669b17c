-- Mechanism, held to the specification by `demand2` (crate `demands`).
-- What the statements do, but for `run`: document 01, "How it moves", "Taking: target indices are worked out in the state before the step, then stores go left to right.
-- Sent values are cast to field types. A failed assertion or fault changes no state and prints nothing".
-- `t` are tables, `s` the state before, p the number of the process, q the place, m the statement's mark. Each gives what came of it, and the state after.
use Rattle.std.specs.Prelude.{ℕ, ◌+◌, ◌-◌, List, set, replicate, ℤ, pos, ◌+ℤ◌, Result, Ok, Err}
use Rattle.base_ceilings.specs.Ceilings.{fields_most, numbers_most}
use Rattle.base_bytes.specs.Choice.{pick}
use Rattle.table_layout.specs.Access.{link_of}
use Rattle.base_values.specs.Bits.{wrap32}
use Rattle.base_values.specs.Operators.{is_true}
use Rattle.base_values.specs.Types.{cast_of}
use Rattle.base_values.specs.declared.Fault.{Fault}
use Rattle.state_layout.specs.Layout.{kept, cell_of, process_at_lem, waiting_of, field_of}
use Rattle.step_eval.specs.Variables.{variable_of, type_of}
use Rattle.step_eval.specs.Expressions.{eval_of, locate_of}
use Rattle.step_ready.specs.declared.Found.{Found}
use Rattle.step_ready.specs.declared.Found.TheVariants.{Message, Nothing, Spoilt}
use Rattle.step_ready.specs.Channels.{found_of}
use Rattle.step_ready.specs.Executing.{message_of}
use Rattle.step_messages.specs.Messages.{on_value, on_place, gather_end, gather_list, aim_end, aim_list, put_in, taken_out, delivered}
use Rattle.base_outcome.specs.declared.Taken.{Taken}
use Rattle.base_outcome.specs.declared.Taken.TheVariants.{Done, Refuted, Faulted, Idle}

abbrev pub Effect : Type 0
Effect = Taken × List ℤ

abbrev pub fault : List ℤ → Fault → Effect
fault s f = (Faulted f, s)

-- process p goes on at place q
abbrev pub moved : ℕ → ℕ → List ℤ → List ℤ
moved p q s = set s (process_at_lem p + 1) (kept q)

abbrev pub on_end : {A : Type 0} → Result ℕ Fault → (ℕ → A) → (Fault → A) → A
on_end (Ok e) g h = g e
on_end (Err f) g h = h f

abbrev pub on_channel : {A : Type 0} → Result ℕ Fault → (ℕ → A) → (Fault → A) → A
on_channel (Ok c) g h = g c
on_channel (Err f) g h = h f

abbrev pub on_found : {A : Type 0} → Found → (ℕ → A) → A → (Fault → A) → A
on_found (Message w) g x h = g w
on_found Nothing g x h = x
on_found (Spoilt f) g x h = h f

-- room for the values of arguments
abbrev pub blank : List ℤ
blank = replicate numbers_most (pos 0)

-- the fields of message w of channel c
abbrev pub fetched : List ℤ → ℕ → ℕ → List ℤ → List ℤ
fetched s c w l = set (set (set (set l 0 (field_of s c w 0)) 1 (field_of s c w 1)) 2 (field_of s c w 2)) 3 (field_of s c w 3)

module _ (t : List ℕ) where
  -- z stored in place i of the variable before mark m
  abbrev pub stored_at : ℕ → ℕ → ℤ → List ℤ → List ℤ
  stored_at m i z s = set s i (cast_of (type_of (variable_of t (m - 1))) z)

  module _ (p : ℕ) where
    -- a statement that only goes on
    abbrev pub passed : ℕ → List ℤ → Effect
    passed m s = (Done, moved p (link_of t m) s)

    unfoldable pub expressed : ℕ → ℕ → List ℤ → Effect
    expressed q m s = on_value (eval_of t s p q m) (λ v. passed m s) (fault s)

    unfoldable pub asserted : ℕ → ℕ → List ℤ → Effect
    asserted q m s = on_value (eval_of t s p q m) (λ v. pick (is_true v) (passed m s) (Refuted, s)) (fault s)

    -- `++` and `--`, by d
    unfoldable pub stepped : ℤ → ℕ → ℕ → List ℤ → Effect
    stepped d q m s = on_place (locate_of t s p q m) (λ i. (Done, moved p (link_of t m) (stored_at m i (wrap32 (cell_of s i +ℤ d)) s))) (fault s)

    -- the target's index comes first, then the right side, which ends at item e
    unfoldable pub assigned : ℕ → ℕ → ℕ → List ℤ → Effect
    assigned q m e s =
        on_place (locate_of t s p q m) (λ i. on_value (eval_of t s p (m + 1) e) (λ v. (Done, moved p (link_of t e) (stored_at m i v s))) (fault s)) (fault s)

    unfoldable pub sent : ℕ → ℕ → List ℤ → Effect
    sent q m s =
        on_channel (message_of t s p q m)
        (λ c. on_end (gather_end t s p numbers_most (m + 1)) (λ e. (Done, moved p (link_of t e) (put_in t c (waiting_of s c) (gather_list t s p numbers_most (m + 1) 0 blank) s))) (fault s)) (fault s)

    -- the arguments begin at item a; "target indices are worked out in the state before the step, then stores go left to right"
    unfoldable pub received_from : ℕ → ℕ → ℕ → List ℤ → Effect
    received_from a c w s =
        on_end (aim_end t s p fields_most a)
        (λ e. (Done, moved p (link_of t e) (delivered t fields_most a 0 (aim_list t s p fields_most a 0 (replicate fields_most 0)) (fetched s c w (replicate fields_most (pos 0))) (taken_out c w s)))) (fault s)

    -- "a receive's tests come before its targets"; one that finds no message is no step
    unfoldable pub received : ℕ → ℕ → List ℤ → Effect
    received q m s = on_channel (message_of t s p q m) (λ c. on_found (found_of t s p c (m + 1)) (λ w. received_from (m + 1) c w s) (Idle, s) (fault s)) (fault s)

    -- what is printed is said elsewhere
    unfoldable pub printed : ℕ → List ℤ → Effect
    printed m s = on_end (gather_end t s p numbers_most (m + 1)) (λ e. (Done, moved p (link_of t e) s)) (fault s)
