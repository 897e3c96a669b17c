-- WHICH TEXTS ARE MODELS, said of texts and trees alone: document 01, "What is answered", all rows that refuse a text turned round. It is laid out in tokens within their ceilings, they have a tree
-- and do not nest too deep, it has no fault of names and rules and is modest, and its normal text is not too long (request One).
use Rattle.std.specs.Prelude.{◌≡◌, true, List, [], ℕ, ◌≤◌, length}
use Rattle.std.proofs.Math.Option.{none}
use Rattle.base_ceilings.specs.Ceilings.{normal_most}
use Rattle.spec_text.specs.Placed.{Placed}
use Rattle.spec_text.specs.Writing.{tokens_in}
use Rattle.spec_grammar.specs.Tree.{Model}
use Rattle.spec_grammar.specs.Grammar.{Gram}
use Rattle.spec_grammar.specs.Depth.{too_deep}
use Rattle.spec_normal.specs.Normal.{normal}
use Rattle.spec_rules.specs.Ceilings as ceilings
use Rattle.spec_faults.specs.Faults.{faults_of}
use Rattle.spec_refusals.specs.Texts.{Tokens}

pub record Legal (t : List ℕ) : Type 0 where
  pub parts : List Placed
  pub reads : Tokens t parts
  pub tree : Model
  pub gram : Gram (tokens_in t parts) tree
  pub shallow : too_deep (tokens_in t parts) ≡ none
  pub faultless : faults_of gram ≡ []
  pub modest : ceilings.modest tree ≡ true
  pub slim : length (normal tree) ≤ normal_most
