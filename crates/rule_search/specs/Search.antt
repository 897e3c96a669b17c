-- Mechanism, held to the specification by `rules` (crate `legal_texts`).
-- Searches over items. `cs` are the items, `vs` what their tokens say (a name's number, specs/Payload.antt of `rule_sheets`), `hs` the bodies that they are in.
use Rattle.std.specs.Prelude.{ℕ, ◌-◌, Bool, false, List, get_or, eqb, ltb}
use Rattle.base_bytes.specs.Choice.{pick, both}
use Rattle.rule_sheets.specs.Walks.{first, after, sum}
use Rattle.rule_search.specs.Sets.{among}

module _ (cs vs hs : List ℕ) where
  -- item d is of the set and in body h, and the name before it is w
  unfoldable pub declares : ℕ → ℕ → ℕ → ℕ → Bool
  declares set w h d = pick (among set (get_or cs d 0)) (both (eqb (get_or vs (d - 1) 0) w) (eqb (get_or hs d 0) h)) false

  -- the first such item below `to`; none: `to`. `_pid`, whose number is 0, is never declared.
  unfoldable pub find : ℕ → ℕ → ℕ → ℕ → ℕ
  find set w h to = pick (eqb w 0) to (first (declares set w h) 0 to)

  -- "a local hides any of them from its own name on": the declaration below item m that w means in body h, a local's, or else a global's; none: m
  unfoldable pub lookup : ℕ → ℕ → ℕ → ℕ
  lookup w h m = pick (ltb (find 1 w h m) m) (find 1 w h m) (find 1 w 0 m)

-- one more than the last item of the set below j; 0 if there is none
unfoldable pub last : List ℕ → ℕ → ℕ → ℕ
last cs set j = after (λ i. among set (get_or cs i 0)) j

-- the item that began the arguments which end at item j
unfoldable pub opener : List ℕ → ℕ → ℕ
opener cs j = last cs 4 j - 1

-- how many items of a set and a body there are from a place to a place
unfoldable pub one : List ℕ → List ℕ → ℕ → ℕ → ℕ → ℕ
one cs hs set h j = pick (among set (get_or cs j 0)) (pick (eqb (get_or hs j 0) h) 1 0) 0

unfoldable pub count : List ℕ → List ℕ → ℕ → ℕ → ℕ → ℕ → ℕ
count cs hs set h from to = sum (one cs hs set h) from (to - from)
