-- DEMAND 3 FOR TEXTS: the normal text of an accepted text is the normal text of its tree; never longer than the text, nor than any text of that tree; accepted; it reads back to the
-- same tables; it is its own normal text; and two accepted texts have equal normal texts exactly when their trees are equal. Assumes nothing.
use Prim.Native.Nat.{ℕ, ◌≤◌}
use native.Mathlib.Omega.{arith}
use mathlib.Core.Path.{◌≡◌, sym, ◌∙◌, ap}
use mathlib.Core.List.{List}
use lib.ListN.{length}
use Rattle.base_ceilings.specs.Ceilings.{normal_most}
use Rattle.std.specs.Prelude.{Ok}
use Rattle.read_passes.specs.Judging.{judge_of, tables_text}
use Rattle.read_accepts_proof.specs.Meaning.{Accepts, links_at}
use Rattle.read_accepts_proof.proofs.Main.{accepted_means}
use Rattle.read_accepts_proof.proofs.Alike.{accepted_slim}
use Rattle.read_accepts_proof.proofs.Tables.{text-tables, tree_tables}
use Rattle.write_texts.specs.Normal.{normal_of}
use Rattle.spec_normal.specs.Normal.{normal}
use Rattle.normal_proof.proofs.Trees.{never_longer, normal-reads, tables-normal, printed_accepted, printed_tree, printed-alike}
use Rattle.normal_proof.specs.Texts.{normal_text}

module _ (t : List ℕ) (a : Accepts t) where
  pub text-normal : normal_text t ≡ normal a.tree
  text-normal = ap normal_of (text-tables t a) ∙ tables-normal t a (links_at t a)

  pub text_never_longer : length (normal_text t) ≤ length t
  text_never_longer = omega (arith, ap length text-normal, never_longer t a)

  pub text-short : length (normal_text t) ≤ normal_most
  text-short = omega (arith, ap length text-normal, accepted_slim t a)

  pub text_accepted : judge_of (normal_text t) ≡ Ok tt
  text_accepted = ap judge_of text-normal ∙ printed_accepted t a (normal a.tree) (normal-reads t a)

  again : Accepts (normal a.tree)
  again = accepted_means (normal a.tree) (printed_accepted t a (normal a.tree) (normal-reads t a))

  -- "reads back to the same tables": so every entry that takes tables answers alike for a text and its normal text
  pub normal-tables : tables_text (normal_text t) ≡ tables_text t
  normal-tables = ap tables_text text-normal ∙ tree_tables (normal a.tree) t again a (printed_tree t a (normal a.tree) (normal-reads t a) again)

  pub own_normal : normal_text (normal_text t) ≡ normal_text t
  own_normal = ap normal_of normal-tables

module _ (t u : List ℕ) (a : Accepts t) (b : Accepts u) where
  pub equal_texts : normal_text t ≡ normal_text u → a.tree ≡ b.tree
  equal_texts e = printed-alike t u a b (normal a.tree) (normal b.tree) (normal-reads t a) (normal-reads u b) (sym (text-normal t a) ∙ e ∙ text-normal u b)

  pub same_texts : a.tree ≡ b.tree → normal_text t ≡ normal_text u
  same_texts e = text-normal t a ∙ ap normal e ∙ sym (text-normal u b)
