-- Mechanism, held to the specification by `statement_shown`, `seen_shown` and `place-shown` (crate `agree_texts`).
-- The text of the statement at a place of tables, and where it begins in the normal text: the items of the statement are those from its place through its last one, and the normal text from it on is what
-- the items from its place on become.
use Rattle.std.specs.Prelude.{ℕ, ◌+◌, ◌-◌, min, Bool, List, length, take, eqb}
use Rattle.base_bytes.specs.Choice.{pick, either}
use Rattle.base_ceilings.specs.Ceilings.{items_most, normal_most}
use Rattle.base_codes.specs.Codes.{c_assert, c_assign, c_decrement, c_do, c_else, c_end, c_express, c_if}
use Rattle.base_codes.specs.Sets.{within}
use Rattle.spec_text.specs.Writing.{write}
use Rattle.spec_account.specs.Bytes.{each_visible}
use Rattle.rule_sheets.specs.Walks.{first}
use Rattle.table_layout.specs.Access.{items_of, code_of, link_of}
use Rattle.write_texts.specs.Normal.{tokens_between}

-- the last item of a statement that holds no other: the end of its arguments, an expression, an assignment, `++`, `--`, `assert`, `skip`, `goto`, `break`, `timeout`, `else`
unfoldable pub ends_leaf : ℕ → Bool
ends_leaf c = either (either (eqb c c_end) (eqb c c_express)) (either (within c_assign c_decrement c) (within c_assert c_else c))

unfoldable pub is_branching : ℕ → Bool
is_branching c = either (eqb c c_if) (eqb c c_do)

module _ (t : List ℕ) where
  unfoldable pub leaf_end : ℕ → ℕ
  leaf_end q = first (λ i. ends_leaf (code_of t i)) q (items_of t - q)

  -- the last item of the statement at place q: an `if` and a `do` are linked to what closes them
  unfoldable pub last_of : ℕ → ℕ
  last_of q = pick (is_branching (code_of t q)) (link_of t q) (leaf_end q)

  -- its text, where one statement is asked for (130, specs/Rules.antt of `write_rows`)
  unfoldable pub statement_in : ℕ → List ℕ
  statement_in q = write (tokens_between t 130 q (min items_most (last_of q) + 1))

  -- as it is shown, as far as a normal text may reach
  unfoldable pub seen_in : ℕ → List ℕ
  seen_in q = each_visible (take normal_most (statement_in q))

  -- how long the normal text is from it on, where units are asked for (143); as far as a normal text may reach
  unfoldable pub length_from : ℕ → ℕ
  length_from q = min (normal_most + 1) (length (write (tokens_between t 143 q (items_of t))))

  -- where it begins
  unfoldable pub place_in : ℕ → ℕ
  place_in q = length_from 0 - length_from q
