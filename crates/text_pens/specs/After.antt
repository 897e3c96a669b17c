-- Mechanism, of contracts and proofs alone: no theorem holds it to the specification; proofs/After.antt holds it to `write` of `text_spacing_proof`.
-- Tokens written one after the other, where all that is known of what stands before is a kind: document 01, "Normal text": "one space exactly where two tokens
-- side by side would read otherwise". That this is `write` of `text_spacing_proof` is proved in proofs/After.antt.
use Rattle.std.specs.Prelude.{Bool, List, [], ◌∷◌, ◌++◌, ℕ, get_or}
use Rattle.base_bytes.specs.Choice.{pick}
use Rattle.base_kinds.specs.Kinds.{Token, kind_of}
use Rattle.spec_text.specs.Spelled.{joins}
use Rattle.spec_text.specs.Writing.{spell}
use Rattle.text_pens.specs.Sheet.{spelled_by}

-- the byte c would join a token of kind k before it
unfoldable pub joins_by : ℕ → ℕ → Bool
joins_by k c = joins k (spelled_by k) c

unfoldable pub write_after : ℕ → List Token → List ℕ
write_after k [] = []
write_after k (b ∷ ts) = pick (joins_by k (get_or (spell b) 0 0)) (32 ∷ []) [] ++ (spell b ++ write_after (kind_of b) ts)
