-- Mechanism, held to the specification by `least-fault` (crate `legal_texts`).
-- The faults of a model with their places, and the least of them: document 01, "Within a pass the smallest place wins, then the smallest number".
-- A place is a token; which one is said by the last column of "What is answered".
use Rattle.std.specs.Prelude.{ℕ, zero, suc, ◌+◌, ◌-◌, List, length, get_or, replicate, eqb, ltb}
use Rattle.base_ceilings.specs.Ceilings.{items_most}
use Rattle.base_codes.specs.Codes.{c_set_run}
use Rattle.base_codes.specs.Sets.{rule_of}
use Rattle.base_bytes.specs.Choice.{pick}
use Rattle.rule_sheets.specs.Homes.{homes_of}
use Rattle.rule_sheets.specs.Spans.{starts_of, heights_of}
use Rattle.rule_search.specs.Search.{opener}
use Rattle.rule_item.specs.Rules.{bad}
use Rattle.rule_least.specs.declared.Fault.{Fault}
use Rattle.rule_least.specs.declared.Fault.TheVariants.{None, At}

-- where the fault of item j by a rule stands, with `toks` the tokens of the items: rules 1 to 6 at the item's own token, 7 to 14 at the name, number or type
-- before it, 15 at the reference's name, 17 two tokens on, behind `assert (` or `eval (`; 16, argument counts, at the statement's first token after a label:
-- that is the token of `end`, for `v = run` that of its target
unfoldable pub place_by : List ℕ → List ℕ → List ℕ → ℕ → ℕ → ℕ
place_by cs ss toks rule j =
    pick (ltb rule 7) (get_or toks j 0)
    (pick (ltb rule 15) (get_or toks (j - 1) 0)
    (pick (eqb rule 15) (get_or toks (get_or ss j 0) 0)
    (pick (eqb rule 17) (get_or toks j 0 + 2)
    (pick (eqb (get_or cs (opener cs j) 0) c_set_run) (get_or toks (opener cs j - 2) 0) (get_or toks j 0)))))

-- the sooner of a fault numbered m at p and another: the smaller place, then the smaller number
unfoldable pub sooner : ℕ → ℕ → Fault → Fault
sooner p m None = At m p
sooner p m (At m2 p2) = pick (ltb p p2) (At m p) (pick (ltb p2 p) (At m2 p2) (pick (ltb m2 m) (At m2 p2) (At m p)))

module _ (cs vs hs ss ts toks : List ℕ) where
  abbrev pub place : ℕ → ℕ
  place j = place_by cs ss toks (rule_of (get_or cs j 0)) j

  -- the fault of item j, if it has one, joined to a fault
  unfoldable pub joined : ℕ → Fault → Fault
  joined j f = pick (eqb (bad cs vs hs ss ts j) 0) f (sooner (place j) (bad cs vs hs ss ts j) f)

  -- the least fault of k items from j on
  unfoldable pub least_from : ℕ → ℕ → Fault
  least_from j zero = None
  least_from j (suc k) = joined j (least_from (j + 1) k)

  unfoldable pub least_of : Fault
  least_of = least_from 0 (length cs)

-- arrays of 8,192 numbers 0
abbrev pub blank : List ℕ
blank = replicate items_most 0

-- the least fault of a model
unfoldable pub checked : List ℕ → List ℕ → List ℕ → Fault
checked cs vs toks = least_of cs vs (homes_of cs blank) (starts_of cs blank) (heights_of cs (starts_of cs blank) blank) toks
