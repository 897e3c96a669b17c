-- Bridge, for `demand2` (crate `demands`).
-- What is known of the items of an accepted text: they follow one another as the grammar has it, none has a fault, and no ceiling is passed. `cs` are the items' codes, `vs` what
-- their tokens say. Document 01, rows 3 to 6 of "What is answered".
use Rattle.std.specs.Prelude.{ℕ, ◌≤◌, ◌<◌, ◌≡◌, true, false, List, length, get_or, replicate}
use Rattle.base_ceilings.specs.Ceilings.{items_most}
use Rattle.rule_sheets.specs.Homes.{homes_of}
use Rattle.rule_sheets.specs.Spans.{starts_of, heights_of}
use Rattle.rule_item.specs.Rules.{bad}
use Rattle.rule_ceilings.specs.Ceilings.{any_passed}
use Rattle.link_items.specs.Links.{links_of}
use Rattle.keep_forms.specs.Forms.{Formed}
use Rattle.keep_forms.specs.Aims.{aims, Behind}

-- the arrays beside the items, each in room for 8,192
abbrev pub homes : List ℕ → List ℕ
homes cs = homes_of cs (replicate items_most 0)

abbrev pub starts : List ℕ → List ℕ
starts cs = starts_of cs (replicate items_most 0)

abbrev pub heights : List ℕ → List ℕ
heights cs = heights_of cs (starts cs) (replicate items_most 0)

abbrev pub links_in : List ℕ → List ℕ → List ℕ
links_in cs vs = links_of cs vs (replicate items_most 0)

pub record Facts (cs vs : List ℕ) : Type 0 where
  pub few : length cs ≤ items_most
  pub formed : Formed cs
  pub aimed : (j : ℕ) → j < length cs → aims (get_or cs j 0) ≡ true → Behind cs j
  pub ruled : (j : ℕ) → j < length cs → bad cs vs (homes cs) (starts cs) (heights cs) j ≡ 0
  pub ceiled : any_passed cs vs (homes cs) ≡ false
