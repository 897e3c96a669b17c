-- THE LAYOUT OF AN ACCEPTED TEXT (request One): it is the layout of its tree; has at most 65,536 bytes; is accepted; "Reading a layout gives the tables it came from, and its normal text is the
-- old one"; and two accepted texts have equal layouts exactly when their trees are equal. Assumes nothing.
use Prim.Native.Nat.{ℕ, ◌≤◌}
use native.Mathlib.Omega.{arith}
use mathlib.Core.Path.{◌≡◌, ◌∙◌, ap}
use mathlib.Core.List.{List}
use lib.ListN.{length}
use Rattle.base_ceilings.specs.Ceilings.{text_most}
use Rattle.spec_grammar.specs.Print.{print_model}
use Rattle.spec_layout.specs.Layout.{layout}
use Rattle.std.specs.Prelude.{Ok}
use Rattle.read_passes.specs.Judging.{judge_of, tables_text}
use Rattle.read_accepts_proof.specs.Meaning.{Accepts, links_at}
use Rattle.read_accepts_proof.proofs.Main.{accepted_means}
use Rattle.read_accepts_proof.proofs.Alike.{accepted_slim}
use Rattle.read_accepts_proof.proofs.Tables.{text-tables, tree_tables}
use Rattle.table_proof.proofs.Accepted.{accepted_known, accepted_small, accepted_items}
use Rattle.write_lines.specs.Lines.{lay_all}
use Rattle.write_lines_proof.proofs.Main.{lay_back, lay_fits}
use Rattle.layout_trees_proof.proofs.Main.{lines-laid}
use Rattle.write_texts.specs.Normal.{normal_of, layout_of}
use Rattle.write_reprint_proof.proofs.Main.{tokens_are}
use Rattle.write_shortest_proof.proofs.Main.{printed-sound, printed_few, printed_shallow}
use Rattle.normal_proof.specs.Texts.{normal_text}
use Rattle.normal_proof.proofs.Trees.{Prints, printed_accepted, printed_tree, printed-alike}
use Rattle.layout_proof.specs.Texts.{layout_text}

module _ (t : List ℕ) (a : Accepts t) where
  pub text-layout : layout_text t ≡ layout a.tree
  text-layout =
      ap layout_of (text-tables t a)
      ∙ ap lay_all (tokens_are a.tree (links_at t a) (accepted_known t a.parts a.tree a.reads a.gram) (accepted_small t a.parts a.tree a.reads a.gram)
      (omega (arith, accepted_items t a.parts a.tree a.reads a.gram)))
      ∙ lines-laid a.gram

  -- "the reader takes texts up to 65,536 bytes": no layout has more
  pub layout_short : length (layout a.tree) ≤ text_most
  layout_short =
      rw (← lines-laid a.gram) (lay_fits (print_model a.tree) (printed_shallow t a.parts a.tree a.reads a.gram a.shallow) (accepted_slim t a)
      (printed_few t a.parts a.tree a.reads a.gram))

  pub layout-reads : Prints (layout a.tree) a.tree
  layout-reads =
      rw (← lines-laid a.gram) (lay_back (print_model a.tree) (printed-sound t a.parts a.tree a.reads a.gram) (rw (lines-laid a.gram) layout_short)
      (printed_few t a.parts a.tree a.reads a.gram))

  pub layout_accepted : judge_of (layout a.tree) ≡ Ok tt
  layout_accepted = printed_accepted t a (layout a.tree) layout-reads

  pub layout_tree : (c : Accepts (layout a.tree)) → c.tree ≡ a.tree
  layout_tree = printed_tree t a (layout a.tree) layout-reads

  pub layout-tables : tables_text (layout a.tree) ≡ tables_text t
  layout-tables = let c = accepted_means (layout a.tree) layout_accepted in tree_tables (layout a.tree) t c a (layout_tree c)

  pub layout_normal : normal_text (layout a.tree) ≡ normal_text t
  layout_normal = ap normal_of layout-tables

pub equal_layouts : (t u : List ℕ) (a : Accepts t) (b : Accepts u) → layout a.tree ≡ layout b.tree → a.tree ≡ b.tree
equal_layouts t u a b = printed-alike t u a b (layout a.tree) (layout b.tree) (layout-reads t a) (layout-reads u b)
