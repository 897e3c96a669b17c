-- Mechanism, held to the specification by `demand2` (crate `demands`); where control goes, also by `text-leads` (crate `agree_control`).
-- The links of a model, one number for each item, so that a stepper finds all it needs at once. They are a function of the items and of what their tokens say, so
-- of the tree alone. `cs` are the items, `vs` what their tokens say, `hs` the bodies that they are in, `ss` where expressions start.
-- Document 01, "Names", "How it moves"; docs/TABLES.md.
use Rattle.std.specs.Prelude.{ℕ, zero, suc, ◌+◌, ◌-◌, ◌*◌, min, List, length, get_or, set, replicate, eqb, ltb}
use Rattle.base_ceilings.specs.Ceilings.{array_most, items_most}
use Rattle.base_codes.specs.Codes.{c_bit}
use Rattle.base_bytes.specs.Choice.{pick}
use Rattle.rule_sheets.specs.Walks.{sum}
use Rattle.rule_sheets.specs.Homes.{homes_of}
use Rattle.rule_sheets.specs.Spans.{starts_of}
use Rattle.rule_search.specs.Search.{find, lookup, last, count}
use Rattle.rule_item.specs.Rules.{is_array, global_of}
use Rattle.rule_ceilings.specs.Ceilings.{numbers_at}
use Rattle.link_places.specs.Places.{mark_of, place_from, close_of_lem, next_from, past_loop}
use Rattle.base_codes.specs.Sets.{class_of}

-- ## variables
-- the type of a variable, which stands before the last local, global or group: bit 0, bool 1, byte 2, mtype 3, pid 4, chan 5, short 6, int 7
unfoldable pub type_at : List ℕ → ℕ → ℕ
type_at cs d = min 7 (get_or cs (last cs 3 d - 2) 0 - c_bit)

-- sizes as a link keeps them: no array has as many numbers
abbrev pub size_kept : ℕ
size_kept = 2 * array_most - 1

-- how many numbers it has: "one per scalar or chan, the size per array"
unfoldable pub size_at : List ℕ → List ℕ → ℕ → ℕ
size_at cs vs d = pick (is_array cs d) (min size_kept (get_or vs (d + 1) 0)) 1

-- 1 for a local
abbrev pub local_at : List ℕ → ℕ → ℕ
local_at hs d = pick (eqb (get_or hs d 0) 0) 0 1

-- where its numbers begin, among the global ones or those of its process: behind those declared before in the same body
unfoldable pub offset_at : List ℕ → List ℕ → List ℕ → ℕ → ℕ
offset_at cs vs hs d = min 65535 (sum (numbers_at cs vs hs (get_or hs d 0)) 0 d)

-- all four in one number
unfoldable pub slot_at : List ℕ → List ℕ → List ℕ → ℕ → ℕ
slot_at cs vs hs d = type_at cs d + 8 * local_at hs d + 16 * size_at cs vs d + 1024 * offset_at cs vs hs d

module _ (cs vs hs ss : List ℕ) where
  -- the link of item j by its class, where `l` has the links behind item j
  unfoldable pub link_by : ℕ → List ℕ → ℕ → ℕ
  link_by class l j =
      pick (eqb class 1) (lookup cs vs hs (get_or vs (get_or ss j 0) 0) (get_or hs j 0) (get_or ss j 0))
      (pick (eqb class 2) (lookup cs vs hs (get_or vs (j - 1) 0) (get_or hs j 0) (j - 1))
      (pick (eqb class 3) (global_of cs vs hs (j - 1))
      (pick (eqb class 4) (get_or ss (j - 1) 0)
      (pick (eqb class 5) (mark_of cs j)
      (pick (eqb class 6) (close_of_lem cs 4 (j + 1))
      (pick (eqb class 7) (next_from cs l (j + 1))
      (pick (eqb class 8) (place_from cs (find cs vs hs 2 (get_or vs (j - 1) 0) (get_or hs j 0) (length cs)))
      (pick (eqb class 9) (past_loop cs l j)
      (pick (eqb class 10) (close_of_lem cs 0 (j + 1))
      (pick (eqb class 11) (close_of_lem cs 2 (j + 1))
      (pick (eqb class 12) (close_of_lem cs 3 (j + 1))
      (pick (eqb class 13) (place_from cs (j + 1))
      (pick (eqb class 14) (slot_at cs vs hs j)
      (pick (eqb class 15) (count cs hs 12 0 0 (j + 1)) 0))))))))))))))

  -- as far as 32 bits reach, which no link of a model passes
  unfoldable pub link_at : List ℕ → ℕ → ℕ
  link_at l j = min 4294967295 (link_by (class_of (get_or cs j 0)) l j)

  -- an array with its first j places filled, the last of them first
  unfoldable pub filled_back : ℕ → List ℕ → List ℕ
  filled_back zero l = l
  filled_back (suc j) l = filled_back j (set l j (link_at l j))

-- the links; where there are too many items the array stays as it is
unfoldable pub links_of : List ℕ → List ℕ → List ℕ → List ℕ
links_of cs vs l = pick (ltb items_most (length cs)) l (filled_back cs vs (homes_of cs (replicate items_most 0)) (starts_of cs (replicate items_most 0)) (length cs) l)
