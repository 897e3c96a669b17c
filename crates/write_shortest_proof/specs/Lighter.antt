-- Mechanism, of proofs alone: what `model_lighter` (crate `write_shortest_proof`) says of a tree's printed tokens beside any others of that tree.
-- When tokens us may stand for tokens ts wherever these stand: written they are no longer, they are tokens that a text can hold if these are, and they nest no deeper.
use Rattle.std.specs.Prelude.{◌≡◌, List, [], ◌∷◌, ◌++◌, ℕ, ◌≤◌, length}
use Rattle.std.proofs.Math.Option.{none}
use Rattle.base_kinds.specs.Kinds.{Token}
use Rattle.text_spacing_proof.specs.Sound.{AllSound}
use Rattle.spec_text.specs.Writing.{write_behind}
use Rattle.spec_grammar.specs.Depth.{opens_bracket, closes_bracket, opens_selection, closes_selection, count_after, deep_from}

-- how many brackets and selections are open behind these tokens
abbrev pub brackets : ℕ → List Token → ℕ
brackets b [] = b
brackets b (t ∷ ts) = brackets (count_after (opens_bracket t) (closes_bracket t) b) ts

abbrev pub selections : ℕ → List Token → ℕ
selections s [] = s
selections s (t ∷ ts) = selections (count_after (opens_selection t) (closes_selection t) s) ts

pub record Even (ts : List Token) : Type 0 where
  pub of_brackets : (b : ℕ) → brackets b ts ≡ b
  pub of_selections : (s : ℕ) → selections s ts ≡ s

-- behind any token
abbrev pub Shorter : List Token → List Token → Type 0
Shorter vs ws = (a : Token) → length (write_behind a vs) ≤ length (write_behind a ws)

pub record Lighter (us ts : List Token) : Type 0 where
  pub short : (vs ws : List Token) → Shorter vs ws → Shorter (us ++ vs) (ts ++ ws)
  pub sound : AllSound ts → AllSound us
  pub flat : (b c s : ℕ) → c ≤ b → deep_from b s ts ≡ none → deep_from c s us ≡ none
  pub even : Even us
  pub even_before : Even ts
