-- Document 01, rows 2 and 3 of "What is answered", as far as the grammar goes: "bracket, if/do .. ceiling passed" and "first token that can continue no text of the grammar".
use Rattle.std.specs.Prelude.{◌≡◌, List, ◌++◌, ℕ, ◌<◌, take}
use Rattle.std.proofs.Math.Option.{some}
use Rattle.base_kinds.specs.Kinds.{Token}
use Rattle.spec_grammar.specs.Tree.{Model}
use Rattle.spec_grammar.specs.Grammar.{Gram}
use Rattle.spec_grammar.specs.Viable.{StrayAt}
use Rattle.spec_grammar.specs.Depth.{too_deep}

-- refusal 2 is at the first token that passes a ceiling, and what stands before it can be continued to a text of the grammar
pub record Two (ts : List Token) (i : ℕ) : Type 0 where
  pub place : too_deep ts ≡ some i
  pub viable : (us : List Token) × (m : Model) × Gram (take i ts ++ us) m

-- refusal 3 is at the exact place of the grammar, and no token up to there passes a ceiling
pub record Three (ts : List Token) (i : ℕ) : Type 0 where
  pub place : StrayAt ts i
  pub first : (k : ℕ) → too_deep ts ≡ some k → i < k
