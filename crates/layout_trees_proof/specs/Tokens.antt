-- Mechanism, of proofs alone: what `lines-tokens` (crate `layout_trees_proof`) says of the lines of a tree.
-- The tokens of lines, one line behind the other.
use Rattle.std.specs.Prelude.{List, [], ◌∷◌, ◌++◌}
use Rattle.base_kinds.specs.Kinds.{Token}
use Rattle.spec_layout.specs.Layout.{Line}

abbrev pub joined_tokens : List Line → List Token
joined_tokens [] = []
joined_tokens (l ∷ ls) = l.tokens ++ joined_tokens ls
