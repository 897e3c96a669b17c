-- Mechanism, held to the specification by `refused_exact` (crate `legal_texts`): the rows as the passes of the reader give them, bytes by `reading`, names, rules and ceilings over items.
-- The rows of document 01's table "What is answered, and what stays behind" that a reader can give, each with what it stands for, its place, and the passes that came before it:
-- "7 first .., then length, then bytes and tokens (1, 2), then grammar with bracket and if/do depth (2, 3), then names and rules (2, 4, 5), then 6".
use Rattle.std.specs.Prelude.{◌≡◌, Bool, true, List, map, ℕ, ◌≤◌, ◌<◌, ltb, length, replicate}
use Rattle.base_ceilings.specs.Ceilings.{normal_most, tables_room}
use Rattle.text_tokens.specs.Reading.{tokens, refused, reading}
use Rattle.spec_text.specs.Placed.{Placed}
use Rattle.spec_text.specs.Writing.{tokens_in}
use Rattle.spec_grammar.specs.Refusals.{Two, Three}
use Rattle.parse_machine.specs.Machine.{symbol_of, place_of}
use Rattle.rule_least.specs.Faults.{checked}
use Rattle.rule_least.specs.declared.Fault.TheVariants.{None, At}
use Rattle.rule_ceilings.specs.Ceilings.{passed}
use Rattle.base_bytes.specs.Choice.{both, either}
use Rattle.read_passes.specs.Judging.{laid, tables_text, wide_room, front}
use Rattle.write_length.specs.Overlong.{overlong}
use Rattle.spec_refusals.specs.Texts.{start_at, size_at}
use Rattle.read_accepts_proof.specs.Meaning.{Grammatical, said}

-- the normal text of a text that all passes let through is too long (request One)
abbrev pub wide_at : List ℕ → Bool
wide_at t = both (ltb normal_most (length t)) (overlong (front (laid (tables_text t) (replicate wide_room 0))))

-- a ceiling is passed that is judged last: one of the items, or that of the normal text
abbrev pub over_at : (t : List ℕ) → Grammatical t → Bool
over_at t g = either (passed (map symbol_of g.numbers) (said t g)) (wide_at t)

-- a text and the tables that were lent are refused with number x, at place i, length n
pub data Row (t old : List ℕ) (x i n : ℕ) : Type 0 where
  -- 7 "a lent buffer shorter than its room": 0
  short : length old < tables_room → x ≡ 7 → i ≡ 0 → n ≡ 0 → Row t old x i n
  -- 1 "stray byte, unclosed string or comment, bad byte in a string", 2 "text, token, word, string, number .. ceiling passed": the part that the definition of tokens names
  bytes : tables_room ≤ length old → reading t ≡ refused x i n → Row t old x i n
  -- 2 "bracket, if/do": token k is the first that passes its ceiling, and what stands before it can be continued to a text of the grammar
  deep : (ps : List Placed) (k : ℕ) → tables_room ≤ length old → reading t ≡ tokens ps → Two (tokens_in t ps) k → x ≡ 2 → i ≡ start_at t ps k → n ≡ size_at t ps k → Row t old x i n
  -- 3 "first token that can continue no text of the grammar, or end of text": token k
  stop : (ps : List Placed) (k : ℕ) → tables_room ≤ length old → reading t ≡ tokens ps → Three (tokens_in t ps) k → x ≡ 3 → i ≡ start_at t ps k → n ≡ size_at t ps k → Row t old x i n
  -- 2 "height", 4 and 5: the least fault of the items, at token k
  fault : (g : Grammatical t) (k : ℕ) → tables_room ≤ length old → checked (map symbol_of g.numbers) (said t g) (map place_of g.numbers) ≡ At x k
      → i ≡ start_at t g.parts k → n ≡ size_at t g.parts k → Row t old x i n
  -- 6 "any other ceiling passed, or no process starts": 0
  ceiling : (g : Grammatical t) → tables_room ≤ length old → checked (map symbol_of g.numbers) (said t g) (map place_of g.numbers) ≡ None
      → over_at t g ≡ true → x ≡ 6 → i ≡ 0 → n ≡ 0 → Row t old x i n
