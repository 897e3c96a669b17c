-- Mechanism, held by `judge-two`, `judge-three` (crate `parse_grammar`).
-- The answer of the grammar's whole pass: refusals 2 and 3 are judged in one pass: "Within a pass the smallest place wins, then the smallest number."
use Rattle.std.specs.Prelude.{cond, List, ℕ, leb}
use Rattle.std.proofs.Math.Option.{Option, none, some}
use Rattle.base_kinds.specs.Kinds.{Token}
use Rattle.base_codes.specs.Items.{Item}
use Rattle.spec_grammar.specs.Depth.{too_deep}
use Rattle.parse_grammar.specs.Engine.{Answer, ok, bad}
use Rattle.parse_grammar.specs.Guide.{parse_model}

-- THE ANSWER OF THE PASS: the code of the tree; refusal 2 at a place; refusal 3 at a place
pub data GrammarAnswer : Type 0 where
  accepted : List Item → GrammarAnswer
  refused_2 : ℕ → GrammarAnswer
  refused_3 : ℕ → GrammarAnswer

abbrev pub judged : Answer Item → Option ℕ → GrammarAnswer
judged (ok o) none = accepted o
judged (ok o) (some i) = refused_2 i
judged (bad j) none = refused_3 j
judged (bad j) (some i) = cond (leb i j) (refused_2 i) (refused_3 j)

abbrev pub judge : List Token → GrammarAnswer
judge ts = judged (parse_model ts) (too_deep ts)
