-- Mechanism, of contracts alone: no theorem holds it to the specification; proofs/Sheet.antt holds it to the fixed spellings. `padded` alone is held, by `text-normal` (crate `normal_proof`).
-- Rows of numbers laid one after the other, each of the same width, and the fixed spellings so laid: document 01, "Marks" and "Keywords".
use Rattle.std.specs.Prelude.{List, [], ◌∷◌, ◌++◌, map, ℕ, zero, suc, ◌-◌, length, get_or}
use Rattle.base_kinds.specs.Kinds.{marks, keywords}

-- a row of width n, zeros behind
abbrev pub padded : ℕ → List ℕ → List ℕ
padded zero xs = []
padded (suc n) [] = 0 ∷ padded n []
padded (suc n) (x ∷ xs) = x ∷ padded n xs

abbrev pub flat : List (List ℕ) → List ℕ
flat [] = []
flat (r ∷ rs) = r ++ flat rs

unfoldable pub sheet : List ℕ
sheet = flat (map (padded 8) (marks ++ keywords))

unfoldable pub sizes : List ℕ
sizes = map length (marks ++ keywords)

-- the spelling of a mark or keyword of kind k
abbrev pub spelled_by : ℕ → List ℕ
spelled_by k = get_or (marks ++ keywords) (k - 1) []
