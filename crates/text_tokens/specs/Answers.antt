-- Mechanism, of contracts alone: no theorem holds it to the specification; `reading`, which it cites, is held by `reading_exact` (crate `text_spacing_proof`).
-- What the entry answers, and what stays behind: document 01, "What is answered, and what stays behind".
use Rattle.std.specs.Prelude.{◌≡◌, Bool, List, ◌++◌, map, ℕ, leb, length, drop, Result, Ok, Err}
use Rattle.base_ceilings.specs.Ceilings.{tokens_most}
use Rattle.base_bytes.specs.Choice.{pick, both}
use Rattle.text_tokens.specs.Reading.{Reading, tokens, refused, reading}
use Rattle.spec_text.specs.Placed.{Placed}
use Rattle.base_refusal.specs.declared.Refusal.{Refusal}
use Rattle.base_refusal.specs.Refusals.{refusal}

-- the answer: how many tokens, or the refusal
abbrev pub answer_of : Reading → Result ℕ Refusal
answer_of (tokens ps) = Ok (length ps)
answer_of (refused x i n) = Err (refusal x i n)

-- a lent array: one number of each token, and what lies beyond stays; a refusal changes nothing
abbrev pub left_in : (Placed → ℕ) → Reading → List ℕ → List ℕ
left_in f (tokens ps) old = map f ps ++ drop (length ps) old
left_in f (refused x i n) old = old

abbrev pub roomy : List ℕ → Bool
roomy old = leb tokens_most (length old)

-- refusal 7 comes first, where a lent array has no room for every token that may come
abbrev pub lexing : List ℕ → List ℕ → List ℕ → List ℕ → Reading
lexing t ks ss es = pick (both (roomy ks) (both (roomy ss) (roomy es))) (reading t) (refused 7 0 0)

-- the answer and the three arrays, before and after
pub record Answered (x : Reading) (r : Result ℕ Refusal) (ks ks' ss ss' es es' : List ℕ) : Type 0 where
  pub answer : r ≡ answer_of x
  pub kinds : ks' ≡ left_in Placed.kind x ks
  pub starts : ss' ≡ left_in Placed.start x ss
  pub ends : es' ≡ left_in Placed.end x es
