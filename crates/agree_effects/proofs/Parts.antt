-- Parts of the items that stand at a place of an accepted text's tree stand there too; what the tables hold of each.
use Prim.Native.Nat.{ℕ, ◌+◌, ◌<◌}
use native.Mathlib.Omega.{arith}
use mathlib.Core.Path.{◌≡◌, ap, ◌∙◌}
use mathlib.Core.List.{List, ◌∷◌, ◌++◌}
use lib.ListN.{length, get_or, get_or-append}
use lib.Seq.{get_or-append-add}
use Rattle.base_codes.specs.Items.{Item, i_plain}
use Rattle.parse_code.specs.Code.{code}
use Rattle.base_codes.specs.Items as items
use Rattle.table_layout.specs.Access.{code_of}
use Rattle.read_passes.specs.Judging.{tables_text}
use Rattle.read_accepts_proof.specs.Meaning.{Accepts}
use Rattle.agree_eval.specs.Names.{codes_at}
use Rattle.agree_eval.proofs.Names.{Lies, lies_all}
use Rattle.keep_tables.proofs.Tables.{text-held}
use Rattle.agree_stage.proofs.Stands.{Lying}
use Rattle.agree_offers.proofs.Places.{at_there, ends_there}

module _ (t : List ℕ) (a : Accepts t) where
  abbrev xs : List Item
  xs = code a.tree

  -- these items stand in the tree's code from item i on
  abbrev pub Here : List Item → ℕ → Type 0
  Here l i = Lying (code a.tree) 0 l i

  pub here_lies : (l : List Item) (i : ℕ) → Here l i → Lies (code a.tree) i l
  here_lies l i p =
      lies_all xs l i
      (λ j g. let e = p.place in let z : i + j ≡ length p.front + j = omega arith in
      ap (λ (y : List Item). get_or y (i + j) i_plain) p.split ∙ ap (λ n. get_or (p.front ++ (l ++ p.rest)) n i_plain) z ∙ get_or-append-add p.front (l ++ p.rest) j i_plain
      ∙ get_or-append l p.rest i_plain j g)

  -- the first of them
  module _ (x : Item) (l : List Item) (i : ℕ) (p : Here (x ∷ l) i) where
    pub first-inside : i < length (codes_at t a)
    first-inside = omega (arith, ends_there t a (x ∷ l) i p)

    pub first_code : code_of (tables_text t) i ≡ items.code_of x
    first_code = (text-held t a).codes i first-inside ∙ (at_there t a (x ∷ l) i p).0
