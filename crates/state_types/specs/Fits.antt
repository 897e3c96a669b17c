-- Mechanism, held to the specification by `demand2` (crate `demands`).
-- Numbers that count, and numbers that lie in their types: document 01, "A state of the model (refusal 9): values in their types, .. messages in their field types, counts
-- within ceilings". `t` are tables, `s` the numbers, p a process.
use Rattle.std.specs.Prelude.{ℕ, zero, suc, ◌+◌, ◌/◌, ◌%◌, min, Bool, true, List, ℤ, eqb}
use Rattle.base_codes.specs.Codes.{c_declared, c_parameter}
use Rattle.base_bytes.specs.Choice.{pick, both, either}
use Rattle.table_layout.specs.Access.{code_of, link_of}
use Rattle.base_values.specs.Types.{cast_of}
use Rattle.base_values.specs.Operators.{same}
use Rattle.state_layout.specs.Layout.{cell_of, count_of, field_at, kept}
use Rattle.step_eval.specs.Variables.{type_of, size_of, slot_of}
use Rattle.state_start.specs.Starting.{unit_length}
use Rattle.step_ready.specs.Channels.{fields_of}
use Rattle.step_messages.specs.Messages.{field_type}

-- do i, i + 1, .., n of them, all pass f?
unfoldable pub every : (ℕ → Bool) → ℕ → ℕ → Bool
every f i zero = true
every f i (suc n) = both (f i) (every f (i + 1) n)

module _ (s : List ℤ) where
  -- the number at i counts or names something: from 0 to `most`
  unfoldable pub counts_at : ℕ → ℕ → Bool
  counts_at most i = same (cell_of s i) (kept (min most (count_of s i)))

  -- the two numbers from i on
  unfoldable pub counts_from : ℕ → ℕ → ℕ → Bool
  counts_from a b i = both (counts_at a i) (counts_at b (i + 1))

  -- the number at i lies in the type ty: storing keeps it
  unfoldable pub fits_at : ℕ → ℕ → Bool
  fits_at ty i = same (cast_of ty (cell_of s i)) (cell_of s i)

  -- number k of the variable l
  unfoldable pub element_fits : ℕ → ℕ → ℕ → Bool
  element_fits l p k = fits_at (type_of l) (slot_of l p k)

  unfoldable pub variable_fits : ℕ → ℕ → Bool
  variable_fits l p = every (element_fits l p) 0 (size_of l)

module _ (t : List ℕ) where
  -- item j is a `declared` that makes a global variable
  abbrev pub is_global : ℕ → Bool
  is_global j = both (eqb (code_of t j) c_declared) (eqb (link_of t j / 8 % 2) 0)

  -- item j of a unit makes a variable of its processes: `declared` or `parameter`
  abbrev pub is_local : ℕ → Bool
  is_local j = either (eqb (code_of t j) c_declared) (eqb (code_of t j) c_parameter)

  module _ (s : List ℤ) where
    unfoldable pub global_fits : ℕ → Bool
    global_fits j = pick (is_global j) (variable_fits s (link_of t j) 0) true

    unfoldable pub local_fits : ℕ → ℕ → Bool
    local_fits p j = pick (is_local j) (variable_fits s (link_of t j) p) true

    -- the variables of process p, whose unit item u begins
    unfoldable pub locals_fit : ℕ → ℕ → Bool
    locals_fit p u = every (λ k. local_fits p (u + k)) 0 (unit_length t u)

    -- field f of message m in the record c, whose channel item d declares
    unfoldable pub field_fits : ℕ → ℕ → ℕ → ℕ → Bool
    field_fits c d m f = fits_at s (field_type t d f) (field_at c m f)

    unfoldable pub message_fits : ℕ → ℕ → ℕ → Bool
    message_fits c d m = every (field_fits c d m) 0 (fields_of t d)
