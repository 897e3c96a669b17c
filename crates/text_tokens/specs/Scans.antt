-- Mechanism, of contracts alone: no theorem holds it to the specification; what the arrays of the code hold.
-- What the pass over the text leaves in the arrays that it works in.
use Rattle.std.specs.Prelude.{◌≡◌, List, [], map, ℕ, ◌≤◌, length, take, Result}
use Rattle.base_ceilings.specs.Ceilings.{tokens_most}
use Rattle.text_tokens.specs.Reading.{Reading, tokens, refused}
use Rattle.spec_text.specs.Placed.{Placed}
use Rattle.text_tokens.specs.Answers.{answer_of}
use Rattle.base_refusal.specs.declared.Refusal.{Refusal}

-- the tokens that were read
abbrev pub read_in : Reading → List Placed
read_in (tokens ps) = ps
read_in (refused x i n) = []

pub record Scanned (x : Reading) (r : Result ℕ Refusal) (ks ss es : List ℕ) : Type 0 where
  pub answer : r ≡ answer_of x
  pub room : length (read_in x) ≤ tokens_most
  pub kinds : take (length (read_in x)) ks ≡ map Placed.kind (read_in x)
  pub starts : take (length (read_in x)) ss ≡ map Placed.start (read_in x)
  pub ends : take (length (read_in x)) es ≡ map Placed.end (read_in x)
