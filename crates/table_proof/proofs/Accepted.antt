-- THE TABLES OF EVERY TEXT OF THE GRAMMAR whose normal text is not too long FIT in the room of document 01 ("Ceilings"), those of any other in twice that room; and two texts of the grammar have
-- equal tables only if they are of one tree.
use mathlib.Core.Path.{◌≡◌}
use mathlib.Core.List.{List}
use Prim.Native.Nat.{ℕ, ◌*◌, ◌≤◌}
use native.Mathlib.Omega.{arith}
use lib.ListN.{length, length-map}
use Rattle.base_ceilings.specs.Ceilings.{normal_most, tables_room, text_most, tokens_most}
use Rattle.text_tokens.specs.Reading.{tokens, reading}
use Rattle.spec_text.specs.Placed.{Placed}
use Rattle.spec_text.specs.Writing.{token_in, tokens_in, write}
use Rattle.text_spacing_proof.proofs.Exact.{reading_exact}
use Rattle.text_spacing_proof.proofs.Written.{tokens-sound, written_shortest}
use Rattle.spec_grammar.specs.Tree.{Model}
use Rattle.spec_grammar.specs.Grammar.{Gram}
use Rattle.spec_grammar.specs.Print.{print_model}
use Rattle.spec_grammar.proofs.Printed.{print_in}
use Rattle.parse_code.specs.Code.{code}
use Rattle.parse_grammar.proofs.Link.{into_table}
use Rattle.parse_grammar.proofs.Bound.{code-bound}
use Rattle.table_entries.specs.Entry.{bytes, joined}
use Rattle.table_entries.specs.Items.{entry_of, AllKnown}
use Rattle.table_layout.specs.Tables.{numbers}
use Rattle.table_layout.specs.Back.{AllFair, Small}
use Rattle.table_layout.specs.Trees.{entries_in, tables_in}
use Rattle.table_layout.proofs.Fits.{fits}
use Rattle.table_layout.proofs.Fits as layout
use Rattle.table_layout.proofs.Trees.{items-fair, tables_trees}
use Rattle.table_proof.proofs.Drawn.{Drawn, drawn}
use Rattle.table_proof.proofs.Tokens.{all_held, brought_most}

module _ (t : List ℕ) (ps : List Placed) (m : Model) (e : reading t ≡ tokens ps) (g : Gram (tokens_in t ps) m) where
  from-tokens : Drawn (tokens_in t ps) (code m)
  from-tokens = drawn (into_table g) tt

  pub accepted_known : AllKnown (code m)
  accepted_known = from-tokens.known (all_held (tokens_in t ps) (tokens-sound t ps e))

  pub accepted_fair : AllFair (entries_in m)
  accepted_fair = items-fair (code m) accepted_known

  tokens-count : length (tokens_in t ps) ≤ tokens_most
  tokens-count = omega (arith, ((reading_exact t ps).0 e).2, length-map ps (token_in t))

  pub accepted_bytes : length (joined bytes (entries_in m)) ≤ text_most
  accepted_bytes = omega (arith, from-tokens.spelled, brought_most (tokens_in t ps), written_shortest t ps e, ((reading_exact t ps).0 e).1)

  pub accepted_small : Small (entries_in m)
  accepted_small = omega (arith, accepted_bytes)

  pub accepted_items : length (entries_in m) ≤ 5119
  accepted_items = omega (arith, length-map (code m) entry_of, code-bound (tokens_in t ps) m g, tokens-count)

  pub accepted_numbers : length (numbers (entries_in m)) ≤ tokens_most
  unfolding numbers
  accepted_numbers = omega (arith, from-tokens.counted, tokens-count)

  -- names and strings stand in the normal text too
  printed-bytes : length (joined bytes (entries_in m)) ≤ length (write (print_model m))
  printed-bytes = omega (arith, (drawn (into_table (print_in g)) tt).spelled, brought_most (print_model m))

  pub accepted_fits : (ls : List ℕ) → length (write (print_model m)) ≤ normal_most → length (tables_in m ls) ≤ tables_room
  accepted_fits ls h = fits (entries_in m) ls accepted_items accepted_numbers (omega (arith, printed-bytes))

  pub fits-twice : (ls : List ℕ) → length (tables_in m ls) ≤ 2 * tables_room
  fits-twice ls = layout.fits-twice (entries_in m) ls accepted_items accepted_numbers accepted_bytes

pub accepted_trees : (t u : List ℕ) (ps qs : List Placed) (m n : Model) → reading t ≡ tokens ps → Gram (tokens_in t ps) m → reading u ≡ tokens qs → Gram (tokens_in u qs) n
    → (ls ms : List ℕ) → tables_in m ls ≡ tables_in n ms → m ≡ n
accepted_trees t u ps qs m n e g f h ls ms =
    tables_trees m n ls ms (accepted_known t ps m e g) (accepted_known u qs n f h) (accepted_small t ps m e g) (accepted_small u qs n f h)
