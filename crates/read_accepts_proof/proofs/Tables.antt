-- AN ACCEPTED TEXT'S TABLES are those of its tree, with links that are the tree's too; they fit in the room of document 01; tables are equal exactly where trees are; and
-- what the reader leaves is the tables, and behind them what was there. Assumes nothing.
use Prim.Native.Nat.{ℕ, ◌≤◌}
use mathlib.Core.Path.{◌≡◌, refl, sym as inv, ap, ap₂, ◌∙◌}
use mathlib.Core.List.{List, ◌++◌, map}
use native.Mathlib.Omega.{arith}
use lib.ListN.{length, drop}
use Rattle.base_ceilings.specs.Ceilings.{tables_room}
use Rattle.spec_text.specs.Writing.{tokens_in}
use Rattle.parse_code.specs.Code.{code}
use Rattle.parse_machine.specs.Items.{read}
use Rattle.base_pens.specs.Pen.{pen, puts}
use Rattle.table_layout.specs.Trees.{tables_in}
use Rattle.table_layout.proofs.Fits.{written}
use Rattle.table_proof.proofs.Accepted.{accepted_trees, accepted_fits}
use Rattle.read_passes.specs.Judging.{laid, tables_text}
use Rattle.read_accepts_proof.specs.Meaning.{Accepts, links_at}
use Rattle.read_accepts_proof.proofs.Alike.{tables_are, accepted_slim, same_codes, same-payload}

pub equal_tables : (t u : List ℕ) (a : Accepts t) (b : Accepts u) (ls ms : List ℕ) → tables_in a.tree ls ≡ tables_in b.tree ms → a.tree ≡ b.tree
equal_tables t u a b ls ms = accepted_trees t u a.parts b.parts a.tree b.tree a.reads a.gram b.reads b.gram ls ms

-- ---- the tables that the passes build
module _ (t : List ℕ) (a : Accepts t) where
  pub text-tables : tables_text t ≡ tables_in a.tree (links_at t a)
  text-tables = tables_are t a.parts a.tree a.reads a.gram a.numbers a.written a.coded

  pub text-fits : length (tables_text t) ≤ tables_room
  text-fits = rw text-tables (accepted_fits t a.parts a.tree a.reads a.gram (links_at t a) (accepted_slim t a))

  -- in the room of document 01 the tables stand at the front, and behind them what was there
  pub text-laid : (old : List ℕ) → tables_room ≤ length old → laid (tables_text t) old ≡ tables_text t ++ drop (length (tables_text t)) old
  text-laid old h = (written (tables_text t) old (laid (tables_text t) old) (puts (tables_text t) (pen old 0)).at (omega (arith, text-fits)) refl).0

module _ (t u : List ℕ) (a : Accepts t) (b : Accepts u) where
  pub tree_links : a.tree ≡ b.tree → links_at t a ≡ links_at u b
  tree_links e =
      let s : map (read (tokens_in t a.parts)) a.numbers ≡ map (read (tokens_in u b.parts)) b.numbers = a.coded ∙ ap code e ∙ inv b.coded in
      rw (same-payload t a.parts a.reads a.numbers a.written u b.parts b.reads b.numbers b.written s, same_codes t a.parts a.reads a.numbers a.written u b.parts b.reads b.numbers b.written s)

  -- "Tables hold exactly what the tree holds"
  pub tree_tables : a.tree ≡ b.tree → tables_text t ≡ tables_text u
  tree_tables e = text-tables t a ∙ ap₂ tables_in e (tree_links e) ∙ inv (text-tables u b)

  pub tables_tree : tables_text t ≡ tables_text u → a.tree ≡ b.tree
  tables_tree e = equal_tables t u a b (links_at t a) (links_at u b) (inv (text-tables t a) ∙ e ∙ text-tables u b)
