-- Bridge, for `all-faults` (crate `legal_texts`).
-- The statements of a body among the items of a model with their tokens, and the faults of these items: document 01, rows 2, 4 and 5 of "What is answered" (specs/Rules.antt of `rule_item`).
use Rattle.std.specs.Prelude.{ℕ, suc, ◌+◌, ◌≤◌, ◌≡◌, List, [], ◌∷◌, ◌++◌, length, get_or}
use Rattle.rule_sheets.specs.Homes.{homes_of}
use Rattle.rule_sheets.specs.Spans.{starts_of, heights_of}
use Rattle.rule_least.specs.Faults.{blank}
use Rattle.spec_grammar.specs.Tree.{Model}
use Rattle.base_codes.specs.Items.{Item}
use Rattle.parse_code.specs.Code.{code}
use Rattle.parse_spots.specs.Spots.{Spot}
use Rattle.spec_rules.specs.Statements.{Place}
use Rattle.spec_faults.specs.Faults.{Faults}
use Rattle.legal_terms.specs.Says.{Says, item_at}
use Rattle.legal_terms.specs.Setting.{Setting}
use Rattle.legal_terms.specs.Faulted.{fault_of}

-- the statements of the body numbered h stand from item `from` to before item `to` of the model
pub record Scene : Type 0 where
  pub model : Model
  pub cs : List ℕ
  pub vs : List ℕ
  pub toks : List ℕ
  pub says : Says model cs vs
  pub h : ℕ
  pub from : ℕ
  pub to : ℕ
  pub within : to ≤ length cs
  pub at : Place
  pub setting : Setting (code model) cs vs (homes_of cs blank) h from to at

module _ (S : Scene) where
  abbrev pub xs : List Item
  xs = code S.model

  abbrev pub homes : List ℕ
  homes = homes_of S.cs blank

  abbrev pub starts : List ℕ
  starts = starts_of S.cs blank

  abbrev pub heights : List ℕ
  heights = heights_of S.cs starts blank

  -- the fault of item j
  abbrev pub fault : ℕ → Faults
  fault j = fault_of S.cs S.vs S.toks j

  -- the faults of these items, which begin at item i
  unfoldable pub faults : ℕ → List Spot → Faults
  faults i [] = []
  faults i (x ∷ l) = fault i ++ faults (suc i) l

  -- item i is this one, with this token
  abbrev pub IsItem : ℕ → Item → Type 0
  IsItem i x = item_at xs i ≡ x

  abbrev pub IsSpot : ℕ → Spot → Type 0
  IsSpot i x = (item_at xs i ≡ x.0) × (get_or S.toks i 0 ≡ x.1)

  module _ {A : Type 0} (P : ℕ → A → Type 0) where
    -- those from item i on are these
    abbrev pub Each : ℕ → List A → Type 0
    Each i [] = Unit {0}
    Each i (x ∷ l) = P i x × Each (suc i) l

    -- they are, among the statements
    pub record In (i : ℕ) (l : List A) : Type 0 where
      pub items : Each i l
      pub low : S.from ≤ i
      pub high : i + length l ≤ S.to

  abbrev pub StandsIn : ℕ → List Item → Type 0
  StandsIn i l = In IsItem i l

  abbrev pub SpotsIn : ℕ → List Spot → Type 0
  SpotsIn i l = In IsSpot i l
