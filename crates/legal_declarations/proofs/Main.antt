-- ALL FAULTS OF A MODEL'S ITEMS, with their tokens, are those of the specification, given that this is so of the statements of each body.
use Prim.Native.Nat.{ℕ, ◌-◌}
use native.Mathlib.Omega.{arith}
use mathlib.Core.Path.{◌≡◌, refl, ap, ◌∙◌}
use mathlib.Core.Bool.{false}
use mathlib.Core.List.{List, []}
use lib.ListN.{length}
use lib.Dec.{ltb}
use Rattle.base_kinds.specs.Kinds.{Token}
use Rattle.rule_sheets.specs.Walks.{sum}
use Rattle.rule_search.specs.Search.{count}
use Rattle.spec_grammar.specs.Tree.{Model}
use Rattle.spec_grammar.specs.Grammar.{Gram}
use Rattle.parse_code.specs.Code.{code}
use Rattle.parse_spots.specs.Spots.{spots}
use Rattle.parse_spots.proofs.Coded.{spots-code}
use Rattle.spec_rules.specs.Units.{of_model}
use Rattle.spec_faults.specs.Faults.{faults_of}
use Rattle.legal_terms.specs.Says.{Says}
use Rattle.legal_terms.specs.Faulted.{faults_from, Stand, Statements}
use Rattle.legal_declarations.proofs.Standing.{long, items_long}
use Rattle.legal_declarations.proofs.Homes.{inside-none}
use Rattle.legal_declarations.proofs.Scopes.{scoped_start}
use Rattle.legal_declarations.proofs.Judging.{hs}
use Rattle.legal_declarations.proofs.Parts.{units_through}

count-start : (cs hs : List ℕ) (set : ℕ) → ltb 0 (count cs hs set 0 0 0) ≡ false
unfolding count sum
count-start cs hs set = refl

pub all-faults : (m : Model) (cs vs toks : List ℕ) → Says m cs vs → Statements m cs vs toks → (ts : List Token) (g : Gram ts m) → Stand (code m) toks 0 (spots g 0)
    → faults_from cs vs toks 0 (length cs) ≡ faults_of g
all-faults m cs vs toks S ruled ts g y =
    let h = hs m cs vs S in
    let size = items_long (spots g 0) (code m) (spots-code g 0) in
    let lg = long m cs vs S in
    let r = units_through m cs vs toks S ruled g false false [] 0 0 (record { ends = omega arith; room = omega arith; stand = y })
    (record { scope = scoped_start m cs vs h S 0; inside = inside-none cs; nine = count-start cs h 9; ten = count-start cs h 10 }) in
    ap (faults_from cs vs toks 0) (let z : length cs ≡ length cs - 0 = omega arith in z) ∙ (r.gives (of_model m) r.scope).are
