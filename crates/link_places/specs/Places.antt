-- Mechanism, held to the specification by `text-leads` (crate `agree_control`).
-- Where control can stand in a model, over its items `cs` alone: phrases and the marks behind them, the places of statements, what closes what was opened, and
-- which place follows. Document 01, "How it moves": "an ended option leads past `fi`, or back to `do`".
use Rattle.std.specs.Prelude.{ℕ, zero, suc, ◌+◌, ◌-◌, Bool, true, false, List, length, get_or, eqb}
use Rattle.base_codes.specs.Codes.{c_do, c_end_body, c_end_option}
use Rattle.base_codes.specs.Sets.{is_part, is_alone, is_lead, is_opening, is_closing}
use Rattle.base_bytes.specs.Choice.{pick, both, either}
use Rattle.rule_sheets.specs.Walks.{first}

-- ## phrases
abbrev pub is_mark : ℕ → Bool
is_mark c = pick (is_part c) false true

-- the first item from i on that is no part of an expression
unfoldable pub mark_from : List ℕ → ℕ → ℕ
mark_from cs i = first (λ k. is_mark (get_or cs k 0)) i (length cs - i)

-- the mark of the phrase that item j is in: the first such item behind it
abbrev pub mark_of : List ℕ → ℕ → ℕ
mark_of cs j = mark_from cs (j + 1)

-- ## the places of statements
-- the place of a statement is its first item behind a label: one that is its own mark, or the first of a phrase with such a mark
unfoldable pub is_place : List ℕ → ℕ → Bool
is_place cs p = pick (is_alone (get_or cs p 0)) true (pick (is_part (get_or cs p 0)) (both (is_mark (get_or cs (p - 1) 0)) (is_lead (get_or cs (mark_of cs p) 0))) false)

-- a place, or the end of a body
unfoldable pub is_stop : List ℕ → ℕ → Bool
is_stop cs p = either (eqb (get_or cs p 0) c_end_body) (is_place cs p)

-- the first of them from item k on
unfoldable pub place_from : List ℕ → ℕ → ℕ
place_from cs k = first (is_stop cs) k (length cs - k)

-- ## what closes what was opened: pairs by number, as in specs/Sets.antt of `base_codes`
-- behind an item of code c, where d are open before it
unfoldable pub deeper : ℕ → ℕ → ℕ → ℕ
deeper pair c d = pick (is_opening pair c) (d + 1) (pick (is_closing pair c) (d - 1) d)

-- the item that closes the outermost of the d that are open, going on from item k over f items; k + f where none does
unfoldable pub close_from : List ℕ → ℕ → ℕ → ℕ → ℕ → ℕ
close_from cs pair k d zero = k
close_from cs pair k d (suc f) = pick (both (is_closing pair (get_or cs k 0)) (eqb d 1)) k (close_from cs pair (k + 1) (deeper pair (get_or cs k 0) d) f)

-- the item that closes what is open before item k
unfoldable pub close_of_lem : List ℕ → ℕ → ℕ → ℕ
close_of_lem cs pair k = close_from cs pair k 1 (length cs - k)

-- going back: what closes then opens
unfoldable pub shallower : ℕ → ℕ → ℕ
shallower c d = pick (is_closing 0 c) (d + 1) (pick (is_opening 0 c) (d - 1) d)

-- the item that opened the selection in which item k stands, where d are open; 0 where none did
unfoldable pub open_of : List ℕ → ℕ → ℕ → ℕ
open_of cs zero d = 0
open_of cs (suc k) d = pick (both (is_opening 0 (get_or cs k 0)) (eqb d 1)) k (open_of cs k (shallower (get_or cs k 0) d))

-- ## the place that follows, where `l` has at each fi and od the place behind that selection
-- "an ended option leads past `fi`, or back to `do`": item k is the end of an option
unfoldable pub past_option : List ℕ → List ℕ → ℕ → ℕ
past_option cs l k = pick (eqb (get_or cs (open_of cs k 1) 0) c_do) (open_of cs k 1) (get_or l (close_of_lem cs 0 k) 0)

-- behind a statement, where item k stands behind its last
unfoldable pub next_from : List ℕ → List ℕ → ℕ → ℕ
next_from cs l k = pick (eqb (get_or cs k 0) c_end_option) (past_option cs l k) (place_from cs k)

-- behind the loop that item j is in: "`break`"
unfoldable pub past_loop : List ℕ → List ℕ → ℕ → ℕ
past_loop cs l j = get_or l (close_of_lem cs 1 j) 0
