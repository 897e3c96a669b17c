-- Mechanism, held to the specification by `demand2` (crate `demands`).
-- Which statements are executable: document 01, "How it moves", "Executable: an expression when not 0; a send when the channel is not full; a receive when it is not
-- empty and each constant and `eval` equals its field ..; `run` when a process and its channels still fit; .. all others always", and "A statement whose test faults
-- counts as executable (H)". `else`, `if` and `do` are judged where steps are offered. A statement is told by its place q, its mark m (crate `link_places`).
use Rattle.std.specs.Prelude.{ℕ, zero, suc, ◌+◌, Bool, true, false, List, ℤ, eqb, ltb, leb, Result, Ok, Err}
use Rattle.base_ceilings.specs.Ceilings.{channels_most, processes_most}
use Rattle.base_codes.specs.Codes.{c_assert, c_break, c_channel, c_decrement, c_end_body, c_express, c_goto, c_increment, c_receive, c_run, c_send, c_skip, c_target, c_timeout, c_text}
use Rattle.base_bytes.specs.Choice.{pick, both, either}
use Rattle.table_layout.specs.Access.{code_of, link_of}
use Rattle.state_layout.specs.Layout.{processes_of, channels_of, declared_of, waiting_of}
use Rattle.step_eval.specs.Expressions.{is_fault, holds, eval_of}
use Rattle.state_start.specs.Starting.{unit_length}
use Rattle.step_ready.specs.Channels.{capacity_of, arguments_of, reached_of, finds, found_of, addressed_of}
use Rattle.base_codes.specs.Sets.{is_alone}
use Rattle.base_values.specs.declared.Fault.{Fault}

-- "A statement whose test faults counts as executable"
abbrev pub passes : Result ℤ Fault → Bool
passes x = either (is_fault x) (holds x)

-- an item at a place that is its own mark: a statement that begins with it, or the end of a body
unfoldable pub is_own_mark : ℕ → Bool
is_own_mark c = either (is_alone c) (eqb c c_end_body)

-- one that is always executable: printf, target (of an assignment or `v = run`), `++`, `--`, assert, skip, goto, break
unfoldable pub is_always : ℕ → Bool
is_always c =
    pick (eqb c c_text) true
    (pick (eqb c c_target) true
    (pick (eqb c c_increment) true
    (pick (eqb c c_decrement) true
    (pick (eqb c c_assert) true
    (pick (eqb c c_skip) true
    (pick (eqb c c_goto) true
    (pick (eqb c c_break) true false)))))))

module _ (t : List ℕ) where
  unfoldable pub mark_of : ℕ → ℕ
  mark_of q = pick (is_own_mark (code_of t q)) q (link_of t q)

  -- the channels that a process of the unit makes: its `channel` items, over n items from j on
  unfoldable pub channels_from : ℕ → ℕ → ℕ
  channels_from zero j = 0
  channels_from (suc n) j = pick (eqb (code_of t j) c_channel) 1 0 + channels_from n (j + 1)

  abbrev pub channels_in : ℕ → ℕ
  channels_in u = channels_from (unit_length t u) u

  -- "`run` when a process and its channels still fit"
  unfoldable pub fits_of : List ℤ → ℕ → Bool
  fits_of s u = both (ltb (processes_of s) processes_most) (leb (channels_of s + channels_in u) channels_most)

  -- "a send when the channel is not full"
  abbrev pub sendable : List ℤ → Result ℕ Fault → Bool
  sendable s (Ok c) = ltb (waiting_of s c) (capacity_of t (declared_of s c))
  sendable s (Err f) = true

  -- "a receive when it is not empty and each constant and `eval` equals its field"; a is its first argument
  abbrev pub receivable : List ℤ → ℕ → ℕ → Result ℕ Fault → Bool
  receivable s p a (Ok c) = finds (found_of t s p c a)
  receivable s p a (Err f) = true

  module _ (s : List ℤ) (p : ℕ) where
    -- the channel of a send or a receive, if it is made and has as many fields as there are arguments
    abbrev pub message_of : ℕ → ℕ → Result ℕ Fault
    message_of q m = addressed_of t s (reached_of t s p q m) (arguments_of t (m + 1))

    -- the statement at place q with the mark m; `late` says whether `timeout` is executable
    unfoldable pub ready_by : Bool → ℕ → ℕ → Bool
    ready_by late q m =
        pick (eqb (code_of t m) c_express) (passes (eval_of t s p q m))
        (pick (eqb (code_of t m) c_send) (sendable s (message_of q m))
        (pick (eqb (code_of t m) c_receive) (receivable s p (m + 1) (message_of q m))
        (pick (eqb (code_of t m) c_timeout) late
        (pick (eqb (code_of t m) c_run) (fits_of s (link_of t m)) (is_always (code_of t m))))))

    abbrev pub ready_of : Bool → ℕ → Bool
    ready_of late q = ready_by late q (mark_of q)
