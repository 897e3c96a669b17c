-- THE ENTRIES OF AN ACCEPTED TEXT: of the arrays that the text leaves, whatever lies beyond their written parts, they are those of its tree.

use Prim.Native.Nat.{ℕ, ◌≤◌, ◌<◌}
use mathlib.Core.Path.{◌≡◌, sym, ◌∙◌, ap}
use mathlib.Core.List.{List, ◌++◌, map}
use native.Mathlib.Omega.{arith}
use lib.ListN.{length, get_or, length-map}
use Rattle.base_ceilings.specs.Ceilings.{items_most, tables_room}
use Rattle.text_tokens.specs.Reading.{tokens, reading}
use Rattle.spec_text.specs.Placed.{Placed}
use Rattle.spec_text.specs.Writing.{tokens_in}
use Rattle.spec_grammar.specs.Tree.{Model}
use Rattle.spec_grammar.specs.Grammar.{Gram}
use Rattle.parse_code.specs.Code.{code}
use Rattle.table_entries.specs.Items.{entry_of}
use Rattle.table_entries.specs.Sources.{entries_of}
use Rattle.table_layout.specs.Trees.{entries_in}
use Rattle.parse_machine.specs.Items.{read_as}
use Rattle.table_proof.specs.Read.{Right}
use Rattle.table_proof.proofs.Accepted.{accepted_items}
use Rattle.table_proof.proofs.Read.{entries-read}

module _ (t : List ℕ) (ps : List Placed) (m : Model) (e : reading t ≡ tokens ps) (h : Gram (tokens_in t ps) m) (x y z : List ℕ) (f g : ℕ → ℕ) (o : List ℕ)
    (right : (j : ℕ) → j < length o → Right ps (f (get_or o j 0)) (g (get_or o j 0))) (items : map (λ v. read_as (tokens_in t ps) (f v) (g v)) o ≡ code m) where
  few : length o ≤ items_most
  few = omega (arith, sym (length-map o (λ v. read_as (tokens_in t ps) (f v) (g v))) ∙ ap length items, length-map (code m) entry_of, accepted_items t ps m e h)

  pub accepted_entries : entries_of t (map Placed.start ps ++ x) (map Placed.end ps ++ y) (map f o) (map g o ++ z) ≡ entries_in m
  accepted_entries = entries-read t ps e x y f g o z few right ∙ ap (map entry_of) items
