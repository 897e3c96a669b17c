-- Mechanism, held to the specification by `passed-modest` (crate `legal_items`).
-- The ceilings that are judged last: document 01, "Ceilings" and row 6, "any other ceiling passed, or no process starts".
-- `cs` are the items, `vs` what their tokens say, `hs` the bodies that they are in.
use Rattle.std.specs.Prelude.{ℕ, ◌+◌, ◌-◌, Bool, true, List, length, get_or, replicate, eqb, ltb}
use Rattle.base_ceilings.specs.Ceilings.{channels_most, globals_most, items_most, mtypes_most, numbers_most, printed_most, processes_most, proctypes_most, statements_most}
use Rattle.base_codes.specs.Codes.{c_active, c_active_many, c_channel, c_end, c_init, c_text}
use Rattle.base_bytes.specs.Choice.{pick, either}
use Rattle.rule_sheets.specs.Walks.{sum}
use Rattle.rule_sheets.specs.Homes.{homes_of}
use Rattle.rule_search.specs.Sets.{among}
use Rattle.rule_search.specs.Search.{opener, count}
use Rattle.rule_item.specs.Rules.{is_array}

module _ (cs vs hs : List ℕ) where
  -- the numbers that item j declares for body h: one for a scalar or chan, parameters included, for an array its size
  unfoldable pub numbers_at : ℕ → ℕ → ℕ
  numbers_at h j = pick (among 14 (get_or cs j 0)) (pick (eqb (get_or hs j 0) h) (pick (is_array cs j) (get_or vs (j + 1) 0) 1) 0) 0

  -- those of a body; of body 0, the global ones
  unfoldable pub numbers : ℕ → ℕ
  numbers h = sum (numbers_at h) 0 (length cs)

-- the processes that the unit which item j begins starts: active 1, active-many the number two items before, init 1
unfoldable pub starts_at : List ℕ → List ℕ → ℕ → ℕ
starts_at cs vs j = pick (eqb (get_or cs j 0) c_active) 1 (pick (eqb (get_or cs j 0) c_active_many) (get_or vs (j - 2) 0) (pick (eqb (get_or cs j 0) c_init) 1 0))

-- the channels that a declaration `[n] of` makes at the start: a global one 1, a local one 1 for each process of its unit that starts
unfoldable pub makes_at : List ℕ → List ℕ → List ℕ → ℕ → ℕ
makes_at cs vs hs j = pick (eqb (get_or cs j 0) c_channel) (pick (eqb (get_or hs j 0) 0) 1 (starts_at cs vs (get_or hs j 0 - 1))) 0

-- 1 at the end of a printf with more than 4 arguments
unfoldable pub wide_at : List ℕ → List ℕ → ℕ → ℕ
wide_at cs hs j = pick (eqb (get_or cs j 0) c_end) (pick (eqb (get_or cs (opener cs j) 0) c_text) (pick (ltb printed_most (count cs hs 5 (get_or hs j 0) (opener cs j) j)) 1 0) 0) 0

-- 1 at a unit whose processes have more than 32 numbers, started or not
unfoldable pub heavy_at : List ℕ → List ℕ → List ℕ → ℕ → ℕ
heavy_at cs vs hs j = pick (among 15 (get_or cs j 0)) (pick (ltb numbers_most (numbers cs vs hs (j + 1))) 1 0) 0

unfoldable pub one : ℕ → ℕ → ℕ
one set c = pick (among set c) 1 0

module _ (cs vs hs : List ℕ) where
  -- what item j adds to a sum: 1 statements, 2 mtype names, 3 proctypes (init is none), 4 processes started, 5 channels made, 6 printf too wide, 7 units too heavy
  unfoldable pub weight : ℕ → ℕ → ℕ
  weight which j =
      pick (eqb which 1) (one 11 (get_or cs j 0))
      (pick (eqb which 2) (one 12 (get_or cs j 0))
      (pick (eqb which 3) (one 13 (get_or cs j 0))
      (pick (eqb which 4) (starts_at cs vs j)
      (pick (eqb which 5) (makes_at cs vs hs j)
      (pick (eqb which 6) (wide_at cs hs j)
      (pick (eqb which 7) (heavy_at cs vs hs j) 0))))))

  unfoldable pub total : ℕ → ℕ
  total which = sum (weight which) 0 (length cs)

  unfoldable pub any_passed : Bool
  any_passed =
      -- "Statements 512; mtype names 64; proctypes 16; global numbers 64"
      either (either (either (ltb statements_most (total 1)) (ltb mtypes_most (total 2))) (either (ltb proctypes_most (total 3)) (ltb globals_most (numbers cs vs hs 0))))
      -- "numbers per process 32 .. printf arguments 4; processes 16; channels made 16", and "no process starts"
      (either (either (ltb 0 (total 7)) (ltb 0 (total 6))) (either (either (ltb processes_most (total 4)) (eqb (total 4) 0)) (ltb channels_most (total 5))))

-- the whole question; of more than 8,192 items, too many
unfoldable pub passed : List ℕ → List ℕ → Bool
passed cs vs = pick (ltb items_most (length cs)) true (any_passed cs vs (homes_of cs (replicate items_most 0)))

-- what is held against a ceiling: the global numbers (0), or a sum; nothing of more than 8,192 items. No theorem needs it: it serves to say in words which ceiling was passed
unfoldable pub amount_of : List ℕ → List ℕ → ℕ → ℕ
amount_of cs vs which =
    pick (ltb items_most (length cs)) 0
    (pick (eqb which 0) (numbers cs vs (homes_of cs (replicate items_most 0)) 0) (total cs vs (homes_of cs (replicate items_most 0)) which))
