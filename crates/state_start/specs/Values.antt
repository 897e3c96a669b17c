-- Mechanism, held to the specification by `demand2` (crate `demands`).
-- What a declaration says its variable starts with: document 01, "How it moves", "Variables start at 0 or their value".
-- Behind the `declared` item d stand, where there are any, a number and `size`, then the value's item and its mark: `value`, `minus`, `named` or
-- `channel`.
use Rattle.std.specs.Prelude.{ℕ, ◌+◌, List, ℤ, pos, eqb}
use Rattle.base_codes.specs.Codes.{c_minus, c_named, c_number, c_size, c_true, c_value}
use Rattle.base_bytes.specs.Choice.{pick}
use Rattle.table_layout.specs.Access.{code_of, link_of, number_of}
use Rattle.state_layout.specs.Layout.{kept}
use Rattle.base_values.specs.Operators.{unary_of}

module _ (t : List ℕ) where
  -- where the value's item stands, if there is a value
  unfoldable pub value_at : ℕ → ℕ
  value_at d = pick (eqb (code_of t (d + 2)) c_size) (d + 3) (d + 1)

  -- a number, `true` or `false`
  unfoldable pub literal_of : ℕ → ℤ
  literal_of k = pick (eqb (code_of t k) c_number) (kept (number_of t k)) (pick (eqb (code_of t k) c_true) (pos 1) (pos 0))

  -- the value whose item is k; of a name, the number of the mtype name; 0 where there is none
  unfoldable pub value_of : ℕ → ℤ
  value_of k =
      pick (eqb (code_of t (k + 1)) c_value) (literal_of k)
      (pick (eqb (code_of t (k + 1)) c_minus) (unary_of 15 (literal_of k))
      (pick (eqb (code_of t (k + 1)) c_named) (kept (link_of t (link_of t (k + 1)))) (pos 0)))
