-- Document 01, row 3 of "What is answered": "first token that can continue no text of the grammar, or end of text": THE VIABLE PREFIX.
use Rattle.std.specs.Prelude.{List, ◌++◌, ℕ, suc, ◌<◌, ◌≤◌, length, take}
use Rattle.base_kinds.specs.Kinds.{Token}
use Rattle.spec_grammar.specs.Tree.{Model}
use Rattle.spec_grammar.specs.Grammar.{Gram}

-- token i, or the end of text: what stands before it can be continued to a text of the grammar; with that token it cannot; and the whole is no text of the grammar
pub record StrayAt (ts : List Token) (i : ℕ) : Type 0 where
  pub within : i ≤ length ts
  pub viable : (us : List Token) × (m : Model) × Gram (take i ts ++ us) m
  pub dead : i < length ts → (us : List Token) (m : Model) → Gram (take (suc i) ts ++ us) m → ⊥
  pub no_text : (m : Model) → Gram ts m → ⊥
