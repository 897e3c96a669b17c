-- THE ROWS OF DOCUMENT 01'S TABLE "What is answered, and what stays behind" that refuse a text, each with what it stands for, its place, and the passes that came before it:
-- "7 first .., then length, then bytes and tokens (1, 2), then grammar with bracket and if/do depth (2, 3), then names and rules (2, 4, 5), then 6".
use Rattle.std.specs.Prelude.{◌≡◌, false, List, [], ℕ, ◌≤◌, ◌<◌, length}
use Rattle.std.proofs.Math.Option.{none}
use Rattle.base_ceilings.specs.Ceilings.{normal_most, tables_room}
use Rattle.spec_text.specs.Placed.{Placed}
use Rattle.spec_text.specs.Writing.{tokens_in}
use Rattle.spec_text.specs.Spoils.{Spoils}
use Rattle.spec_grammar.specs.Tree.{Model}
use Rattle.spec_grammar.specs.Grammar.{Gram}
use Rattle.spec_grammar.specs.Depth.{too_deep}
use Rattle.spec_grammar.specs.Refusals.{Two, Three}
use Rattle.spec_normal.specs.Normal.{normal}
use Rattle.spec_rules.specs.Ceilings as ceilings
use Rattle.spec_faults.specs.Faults.{faults_of, Least}
use Rattle.spec_refusals.specs.Texts.{Tokens, start_at, size_at}

-- the text t is refused with number x; its part begins at place i and has n bytes
pub data Refusal (t : List ℕ) : ℕ → ℕ → ℕ → Type 0 where
  -- 1 "stray byte, unclosed string or comment, bad byte in a string", 2 "text, token, word, string, number .. ceiling passed"
  bytes : {x i n : ℕ} → Spoils t x i n → Refusal t x i n
  -- 2 "bracket, if/do": token k is the first that passes its ceiling, and what stands before it can be continued to a text of the grammar
  deep : {ps : List Placed} {k : ℕ} → Tokens t ps → Two (tokens_in t ps) k → Refusal t 2 (start_at t ps k) (size_at t ps k)
  -- 3 "first token that can continue no text of the grammar, or end of text": token k
  stop : {ps : List Placed} {k : ℕ} → Tokens t ps → Three (tokens_in t ps) k → Refusal t 3 (start_at t ps k) (size_at t ps k)
  -- 2 "height", 4 and 5: the least fault of names and rules, at token k
  fault : {ps : List Placed} {m : Model} {x k : ℕ} → Tokens t ps → (g : Gram (tokens_in t ps) m) → too_deep (tokens_in t ps) ≡ none → Least (faults_of g) x k → Refusal t x (start_at t ps k) (size_at t ps k)
  -- 6 "any other ceiling passed, or no process starts": 0
  ceiling : {ps : List Placed} {m : Model} → Tokens t ps → (g : Gram (tokens_in t ps) m) → too_deep (tokens_in t ps) ≡ none → faults_of g ≡ [] → ceilings.modest m ≡ false → Refusal t 6 0 0
  -- request One, "one whose normal text exceeds 8,192 is refused with 6": the normal text's length counts, whatever the text's
  overlong : {ps : List Placed} {m : Model} → Tokens t ps → (g : Gram (tokens_in t ps) m) → too_deep (tokens_in t ps) ≡ none → faults_of g ≡ [] → normal_most < length (normal m) → Refusal t 6 0 0

-- the same with the numbers that are lent for tables, of which there are `room`: 7 "a lent buffer shorter than its room" comes first
pub data Refused (t : List ℕ) (room : ℕ) : ℕ → ℕ → ℕ → Type 0 where
  too_small : room < tables_room → Refused t room 7 0 0
  text : {x i n : ℕ} → tables_room ≤ room → Refusal t x i n → Refused t room x i n
