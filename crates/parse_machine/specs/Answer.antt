-- Mechanism, held to the specification by `items-mean`, `accepts`, `two-means`, `three-means` (crate `parse_machine`).
-- The answer for a list of kinds. Document 01, "What is answered", "Order: 7 first .., then length, .. then grammar with bracket and if/do depth (2, 3).
-- Within a pass the smallest place wins, then the smallest number."
use Rattle.std.specs.Prelude.{ℕ, List, length, ltb, leb}
use Rattle.base_ceilings.specs.Ceilings.{items_most, tokens_most}
use Rattle.base_bytes.specs.Choice.{pick}
use Rattle.parse_machine.specs.Depth.{too_deep}
use Rattle.parse_machine.specs.Machine.{Outcome, done, refused, spent, machine}

-- the items, or the number and the place of a refusal
pub data Answer : Type 0 where
  items : List ℕ → Answer
  refuse : ℕ → ℕ → Answer

-- d is the place of the first token that is too deep, n how many there are
abbrev pub judged : ℕ → ℕ → Outcome → Answer
judged d n (done o) = pick (leb d n) (refuse 2 d) (items o)
judged d n (refused i) = pick (leb d i) (refuse 2 d) (refuse 3 i)
judged d n spent = refuse 6 0

-- room is the length of the shortest array that is lent
unfoldable pub parsed : List ℕ → ℕ → Answer
parsed ks room =
    pick (ltb room items_most) (refuse 7 0)
    (pick (ltb tokens_most (length ks)) (refuse 2 tokens_most) (judged (too_deep ks) (length ks) (machine ks)))
