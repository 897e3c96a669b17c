-- Bridge, for `all-faults` (crate `legal_texts`).
-- The faults that the rules give the items of a model, with the tokens of their places, in the order of the items; and what is to be shown of the statements of a body.
-- `xs` are the items, `cs` their codes, `vs` what their tokens say, `toks` their tokens.
use Rattle.std.specs.Prelude.{ℕ, zero, suc, ◌+◌, ◌-◌, ◌≤◌, ◌≡◌, false, List, [], ◌∷◌, ◌++◌, length, get_or}
use Rattle.base_codes.specs.Codes.{c_option}
use Rattle.base_codes.specs.Items.{Item}
use Rattle.base_kinds.specs.Kinds.{Token}
use Rattle.spec_grammar.specs.Tree.{sequence, Tree, Model}
use Rattle.spec_grammar.specs.Grammar.{D}
use Rattle.parse_code.specs.Code.{code}
use Rattle.parse_spots.specs.Spots.{Spot, spots_tree}
use Rattle.rule_sheets.specs.Homes.{homes_of}
use Rattle.rule_sheets.specs.Spans.{starts_of, heights_of}
use Rattle.rule_item.specs.Rules.{bad}
use Rattle.rule_least.specs.Faults.{blank, place}
use Rattle.spec_rules.specs.Statements.{Place, labels_of}
use Rattle.spec_faults.specs.Faults.{Faults, fault_at, in_tree}
use Rattle.legal_terms.specs.Says.{item_at}
use Rattle.legal_terms.specs.Setting.{Setting}

module _ (cs vs toks : List ℕ) where
  abbrev pub homes : List ℕ
  homes = homes_of cs blank

  abbrev pub starts : List ℕ
  starts = starts_of cs blank

  abbrev pub heights : List ℕ
  heights = heights_of cs starts blank

  -- the fault of item j, if it has one
  unfoldable pub fault_of : ℕ → Faults
  fault_of j = fault_at (bad cs vs homes starts heights j) (place cs vs homes starts heights toks j)

  -- the faults of n items from j on
  unfoldable pub faults_from : ℕ → ℕ → Faults
  faults_from j zero = []
  faults_from j (suc n) = fault_of j ++ faults_from (suc j) n

-- these items, with these tokens, stand at item i
abbrev pub Stand : List Item → List ℕ → ℕ → List Spot → Type 0
Stand xs toks i [] = Unit {0}
Stand xs toks i (s ∷ l) = (item_at xs i ≡ s.0) × (get_or toks i 0 ≡ s.1) × Stand xs toks (suc i) l

-- the faults of the statements of each body are those of the specification: crate `legal_statements`
abbrev pub Statements : Model → List ℕ → List ℕ → List ℕ → Type 0
Statements m cs vs toks =
    (ts : List Token) (q : Tree sequence) (x : D sequence ts q) (n from to h : ℕ) (at : Place) → Stand (code m) toks from (spots_tree x n) → to ≡ from + length (spots_tree x n) → to ≤ length cs
    → Setting (code m) cs vs (homes_of cs blank) h from to at → at.labels ≡ labels_of q → (get_or cs (from - 1) 0 ≡ c_option → ⊥)
    → faults_from cs vs toks from (length (spots_tree x n)) ≡ in_tree at [] false false x n
