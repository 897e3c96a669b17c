-- Bridge: what `accepted_means`, `means_accepted` (crate `read_accepts_proof`) hold `judge_of` to, over trees and their items; over trees alone it is `Legal`, by `read_legal`, `legal_read` (crate `legal_texts`).
-- What it means that a text is accepted: document 01, "What is answered", all rows that refuse a text turned round.
use Rattle.std.specs.Prelude.{◌≡◌, false, List, map, ℕ, ltb, length, replicate}
use Rattle.std.proofs.Math.Option.{none}
use Rattle.base_ceilings.specs.Ceilings.{items_most, normal_most}
use Rattle.base_bytes.specs.Choice.{both}
use Rattle.spec_grammar.specs.Tree.{Model}
use Rattle.spec_grammar.specs.Grammar.{Gram}
use Rattle.parse_code.specs.Code.{code}
use Rattle.text_tokens.specs.Reading.{tokens, reading}
use Rattle.spec_text.specs.Placed.{Placed}
use Rattle.spec_text.specs.Writing.{tokens_in}
use Rattle.spec_grammar.specs.Depth.{too_deep}
use Rattle.parse_machine.specs.Machine.{symbol_of, place_of}
use Rattle.parse_machine.specs.Answer.{items, parsed}
use Rattle.parse_machine.specs.Items.{read}
use Rattle.rule_least.specs.Faults.{checked}
use Rattle.rule_least.specs.declared.Fault.TheVariants.{None}
use Rattle.rule_ceilings.specs.Ceilings.{passed}
use Rattle.write_length.specs.Overlong.{overlong}
use Rattle.link_items.specs.Links.{links_of}
use Rattle.read_passes.specs.Judging.{payload, laid, tables_text, wide_room, front}

-- a text that is right by its tokens and by the grammar, with its one tree and that tree's items
pub record Grammatical (t : List ℕ) : Type 0 where
  pub parts : List Placed
  pub reads : reading t ≡ tokens parts
  pub tree : Model
  pub gram : Gram (tokens_in t parts) tree
  pub shallow : too_deep (tokens_in t parts) ≡ none
  pub numbers : List ℕ
  pub written : parsed (map Placed.kind parts) items_most ≡ items numbers
  pub coded : map (read (tokens_in t parts)) numbers ≡ code tree

-- the codes of its items, and what their tokens say
abbrev pub codes_of : (t : List ℕ) → Grammatical t → List ℕ
codes_of t g = map symbol_of g.numbers

abbrev pub said : (t : List ℕ) → Grammatical t → List ℕ
said t g = payload t (map Placed.start g.parts) (map Placed.end g.parts) (codes_of t g) (map place_of g.numbers)

-- the text has tokens, they have a tree and are not too deep, and the items of that tree, in the tree's order, have no fault and pass no ceiling, and its normal text is not too long
pub record Accepts (t : List ℕ) : Type 0 where
  pub parts : List Placed
  pub reads : reading t ≡ tokens parts
  pub tree : Model
  pub gram : Gram (tokens_in t parts) tree
  pub shallow : too_deep (tokens_in t parts) ≡ none
  pub numbers : List ℕ
  pub written : parsed (map Placed.kind parts) items_most ≡ items numbers
  pub coded : map (read (tokens_in t parts)) numbers ≡ code tree
  pub faultless : checked (map symbol_of numbers) (payload t (map Placed.start parts) (map Placed.end parts) (map symbol_of numbers) (map place_of numbers)) (map place_of numbers) ≡ None
  pub within : passed (map symbol_of numbers) (payload t (map Placed.start parts) (map Placed.end parts) (map symbol_of numbers) (map place_of numbers)) ≡ false
  pub slim : both (ltb normal_most (length t)) (overlong (front (laid (tables_text t) (replicate wide_room 0)))) ≡ false

-- the links of an accepted text: of its items and what they say, so of its tree
abbrev pub links_at : (t : List ℕ) → Accepts t → List ℕ
links_at t a =
    links_of (map symbol_of a.numbers) (payload t (map Placed.start a.parts) (map Placed.end a.parts) (map symbol_of a.numbers) (map place_of a.numbers)) (replicate items_most 0)
