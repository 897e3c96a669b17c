-- Mechanism, of contracts alone: the line of `waits_text` (specs/Waits.antt of `spec_account`), read from the tables `t` of a model and the numbers `s` of a state. `waits-shown` of `agree_waits` says that the two lines are the same.
use Rattle.std.specs.Prelude.{ℕ, zero, suc, ◌+◌, min, Bool, false, not, List, [], ◌∷◌, ◌++◌, ℤ, eqb, ltb}
use Rattle.base_bytes.specs.Choice.{pick}
use Rattle.base_ceilings.specs.Ceilings.{processes_most, channels_most, items_most, selections_most, statements_most}
use Rattle.base_codes.specs.Codes.{c_run}
use Rattle.base_kinds.specs.Kinds.{bytes}
use Rattle.spec_text.specs.Formats.{digits_of}
use Rattle.table_layout.specs.Access.{code_of, link_of}
use Rattle.state_layout.specs.Layout.{processes_of, place_of}
use Rattle.step_ready.specs.Executing.{mark_of, fits_of}
use Rattle.step_offers.specs.Offers.{is_selection, each_option}
use Rattle.show_statement.specs.Statements.{seen_in}

-- which ceiling is met
abbrev pub ceiling_in : List ℤ → List ℕ
ceiling_in s = pick (ltb (processes_of s) processes_most) (digits_of channels_most ++ bytes " channels are the most\n") (digits_of processes_most ++ bytes " processes are the most\n")

module _ (t : List ℕ) (s : List ℤ) where
  -- a `run` for which there is no room
  unfoldable pub is_stuck : ℕ → Bool
  is_stuck q = pick (eqb (code_of t (mark_of t q)) c_run) (not (fits_of t s (link_of t (mark_of t q)))) false

  -- those at place q, where a selection ends before `stop`; selections nest d - 1 deep at the most
  unfoldable pub stuck_from : ℕ → ℕ → ℕ → List ℕ
  stuck_from zero q stop = []
  stuck_from (suc d) q stop = pick (is_selection t q) (each_option t (λ f e. stuck_from d f e) statements_most (q + 1) (min (link_of t q) stop)) (pick (is_stuck q) (q ∷ []) [])

  -- those at which process p stands
  abbrev pub stuck_of : ℕ → List ℕ
  stuck_of p = stuck_from (selections_most + 1) (place_of s p) items_most

  -- process p waits at the statement at place q
  abbrev pub line_in : ℕ → ℕ → List ℕ
  line_in p q = bytes "\tprocess " ++ (digits_of p ++ (bytes " waits at " ++ (seen_in t q ++ (bytes ": " ++ ceiling_in s))))

  abbrev pub wait_in : ℕ → List ℕ → List ℕ → List ℕ
  wait_in p [] rest = rest
  wait_in p (q ∷ others) rest = line_in p q

  -- the processes p, p + 1, .., n of them
  unfoldable pub waits_from : ℕ → ℕ → List ℕ
  waits_from p zero = []
  waits_from p (suc n) = wait_in p (stuck_of p) (waits_from (p + 1) n)

  abbrev pub waits_in : List ℕ
  waits_in = waits_from 0 (min (processes_of s) processes_most)
