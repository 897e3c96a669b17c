-- A TEXT OF THE PRINTED TOKENS of an accepted text's tree is accepted and is of that tree alone. The normal text is one, is never longer than the text, and is what the writer makes of its tables.
-- Assumes nothing.
use Prim.Native.Nat.{ℕ, ◌≤◌}
use native.Mathlib.Omega.{arith}
use mathlib.Core.Path.{◌≡◌, sym as inv, ◌∙◌, ap, subst}
use mathlib.Core.List.{List, ◌++◌}
use lib.ListN.{length, drop}
use Rattle.base_kinds.specs.Kinds.{Token}
use Rattle.text_tokens.specs.Reading.{tokens, reading}
use Rattle.spec_text.specs.Placed.{Placed}
use Rattle.spec_text.specs.Writing.{tokens_in}
use Rattle.text_spacing_proof.proofs.Exact.{reading_exact}
use Rattle.text_spacing_proof.proofs.Written.{reads-back}
use Rattle.spec_grammar.specs.Tree.{Model}
use Rattle.spec_grammar.specs.Grammar.{Gram}
use Rattle.spec_grammar.specs.Print.{print_model}
use Rattle.spec_grammar.proofs.Printed.{print_in}
use Rattle.parse_grammar.proofs.Main.{one_tree, print_injective}
use Rattle.base_pens.specs.Pen.{Pen, pen, puts}
use Rattle.base_pens.proofs.Pen.{puts_fit}
use Rattle.table_layout.specs.Trees.{tables_in}
use Rattle.table_proof.proofs.Accepted.{accepted_known, accepted_small, accepted_items}
use Rattle.write_texts.specs.Normal.{normal_of}
use Rattle.write_reprint_proof.proofs.Main.{normal_text_lem}
use Rattle.write_shortest_proof.proofs.Main.{normal_shortest, printed-sound, printed_few, printed_shallow}
use Rattle.std.specs.Prelude.{Ok}
use Rattle.read_passes.specs.Judging.{judge_of}
use Rattle.read_accepts_proof.specs.Meaning.{Accepts}
use Rattle.read_accepts_proof.proofs.Alike.{same_tree}
use Rattle.spec_normal.specs.Normal.{normal}

-- a text whose tokens are the printed ones of a tree
abbrev pub Prints : List ℕ → Model → Type 0
Prints u m = (qs : List Placed) × (reading u ≡ tokens qs) × (tokens_in u qs ≡ print_model m)

-- ---- a text of the printed tokens of an accepted text's tree is accepted, and of no other tree
module _ (t : List ℕ) (a : Accepts t) (u : List ℕ) (r : Prints u a.tree) where
  pub printed_accepted : judge_of u ≡ Ok tt
  printed_accepted = let (qs, e, s) = r in same_tree t u a qs e (rw s (print_in a.gram)) (rw s (printed_shallow t a.parts a.tree a.reads a.gram a.shallow))

  pub printed_tree : (c : Accepts u) → c.tree ≡ a.tree
  printed_tree c =
      let (qs, e, s) = r in
      let p : c.parts ≡ qs = (let x : tokens c.parts ≡ tokens qs = inv c.reads ∙ e in cc) in
      one_tree (print_model a.tree) c.tree a.tree (subst (λ (z : List Token). Gram z c.tree) (ap (tokens_in u) p ∙ s) c.gram) (print_in a.gram)

-- two accepted texts whose printed tokens one text has are of one tree
pub printed-alike : (t u : List ℕ) (a : Accepts t) (b : Accepts u) (v w : List ℕ) → Prints v a.tree → Prints w b.tree → v ≡ w → a.tree ≡ b.tree
printed-alike t u a b v w x y h =
    let (qs, e, s) = x in
    let (rs, f, z) = y in
    let p : qs ≡ rs = (let x : tokens qs ≡ tokens rs = inv e ∙ ap reading h ∙ f in cc) in
    let k : print_model a.tree ≡ print_model b.tree = inv s ∙ ap (λ (o : List ℕ). tokens_in o qs) h ∙ ap (tokens_in w) p ∙ z in
    print_injective (tokens_in t a.parts) (tokens_in u b.parts) a.tree b.tree a.gram b.gram k

module _ (t : List ℕ) (a : Accepts t) where
  pub never_longer : length (normal a.tree) ≤ length t
  never_longer = normal_shortest t a.parts a.tree a.reads a.gram

  -- it reads back to the printed tokens
  pub normal-reads : Prints (normal a.tree) a.tree
  normal-reads =
      reads-back (print_model a.tree) (printed-sound t a.parts a.tree a.reads a.gram) (omega (arith, never_longer, ((reading_exact t a.parts).0 a.reads).1))
      (printed_few t a.parts a.tree a.reads a.gram)

  -- the writer makes it of the text's tables, with any links
  pub tables-normal : (ls : List ℕ) → normal_of (tables_in a.tree ls) ≡ normal a.tree
  tables-normal ls =
      normal_text_lem a.tree ls (accepted_known t a.parts a.tree a.reads a.gram) (accepted_small t a.parts a.tree a.reads a.gram)
      (omega (arith, accepted_items t a.parts a.tree a.reads a.gram))

  -- in plain words: the text and behind it what was there, and its length
  pub written-normal : (ls old new : List ℕ) (r : ℕ) → pen new r ≡ puts (normal_of (tables_in a.tree ls)) (pen old 0) → length (normal a.tree) ≤ length old
      → (new ≡ normal a.tree ++ drop (length (normal a.tree)) old) × (r ≡ length (normal a.tree))
  written-normal ls old new r e h =
      let p = e ∙ ap (λ (x : List ℕ). puts x (pen old 0)) (tables-normal ls) ∙ puts_fit (normal a.tree) old h in
      (ap Pen.list p, ap Pen.at p)
