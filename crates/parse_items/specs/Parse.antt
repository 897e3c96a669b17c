-- Mechanism, of contracts alone: no theorem holds it to the specification; `parsed`, which it cites, is held by `items-mean`, `accepts` (crate `parse_machine`).
-- What the entry promises of an answer (specs/Answer.antt of `parse_machine`) and of the lent arrays: "A refusal changes no lent number or byte .. What lies beyond the
-- written part stays" (document 01, "What is answered, and what stays behind").
use Rattle.std.specs.Prelude.{ℕ, ◌≤◌, ◌≡◌, List, ◌++◌, map, length, drop}
use Rattle.base_ceilings.specs.Ceilings.{items_most, tokens_most}
use Rattle.base_kinds.specs.Kinds.{Token, kind_of}
use Rattle.parse_grammar.specs.Judge.{judge}
use Rattle.parse_machine.specs.Machine.{symbol_of, place_of, count_of_lem}
use Rattle.parse_machine.specs.Answer.{Answer, items, refuse, parsed}
use Rattle.parse_machine.specs.Items.{AllProper, meant}
use Rattle.parse_items.specs.declared.Parsed.{Parsed}
use Rattle.parse_items.specs.declared.Parsed.TheVariants.{Items, Refused}

abbrev pub answer : Answer → Parsed
answer (items o) = Items (length o)
answer (refuse k i) = Refused k i

-- an array after an answer, with f of each item
abbrev pub filled : (ℕ → ℕ) → Answer → List ℕ → List ℕ
filled f (items o) l = map f o ++ drop (length o) l
filled f (refuse k i) l = l

-- the answer, and each array: an item is its number, its token and its size; and what that answer means of any tokens of these kinds: the judgement of the grammar's
-- pass (specs/Depth.antt of `spec_grammar`)
pub record Parses (ks : List ℕ) (room : ℕ) (r : Parsed) (codes codes' tokens tokens' sizes sizes' : List ℕ) : Type 0 where
  pub answered : r ≡ answer (parsed ks room)
  pub codes_are : codes' ≡ filled symbol_of (parsed ks room) codes
  pub tokens_are : tokens' ≡ filled place_of (parsed ks room) tokens
  pub sizes_are : sizes' ≡ filled count_of_lem (parsed ks room) sizes
  pub means : (ts : List Token) → map kind_of ts ≡ ks → AllProper ts → length ts ≤ tokens_most → items_most ≤ room → meant ts (parsed ks room) ≡ judge ts
