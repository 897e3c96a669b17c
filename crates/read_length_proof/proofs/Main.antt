-- A TEXT IS REFUSED FOR ITS NORMAL TEXT EXACTLY WHERE THAT IS TOO LONG (request One): the question that the code asks of a text's tables is that of its tree. Assumes nothing.
use Prim.Native.Nat.{ℕ, ◌≤◌, ◌<◌, min}
use native.Mathlib.Omega.{arith}
use mathlib.Core.Path.{◌≡◌, sym as inv, ◌∙◌, ap}
use mathlib.Core.Logic.{◌⊎◌, inl, inr}
use mathlib.Core.List.{List, ◌++◌}
use borrow.Author.Tests.{lt-ltb, le-ltb}
use lib.Dec.{ltb}
use lib.ListN.{length, get_or, take, drop, replicate, length-replicate}
use lib.Seq.{take_at}
use Rattle.base_ceilings.specs.Ceilings.{normal_most}
use Rattle.base_bytes.specs.Choice.{both}
use Rattle.text_tokens.specs.Reading.{tokens, reading}
use Rattle.spec_text.specs.Placed.{Placed}
use Rattle.spec_text.specs.Writing.{tokens_in}
use Rattle.spec_grammar.specs.Tree.{Model}
use Rattle.spec_grammar.specs.Grammar.{Gram}
use Rattle.parse_machine.proofs.Never.{lt_or_ge}
use Rattle.base_pens.specs.Pen.{Pen}
use Rattle.base_pens.proofs.Pen.{puts_fit}
use Rattle.table_entries.specs.Entry.{Entry}
use Rattle.table_layout.specs.Tables.{tables_of}
use Rattle.table_layout.specs.Trees.{entries_in, tables_in}
use Rattle.table_layout.proofs.Fits.{length-tables}
use Rattle.table_proof.proofs.Accepted.{accepted_known, accepted_small, accepted_items, fits-twice}
use Rattle.write_texts.specs.Normal.{normal_of}
use Rattle.write_reprint_proof.proofs.Main.{normal_text_lem}
use Rattle.write_shortest_proof.proofs.Main.{normal_shortest}
use Rattle.write_length.specs.Overlong.{overlong}
use Rattle.read_passes.specs.Judging.{laid, wide_room, front}
use Rattle.spec_normal.specs.Normal.{normal}

-- the first number of tables says how many there are
first_is : (es : List Entry) (ls r : List ℕ) → get_or (tables_of es ls ++ r) 0 0 ≡ length (tables_of es ls)
unfolding tables_of
first_is es ls r = inv (length-tables es ls)

-- tables that fit are all there
front_fits : (es : List Entry) (ls : List ℕ) → length (tables_of es ls) ≤ wide_room → front (laid (tables_of es ls) (replicate wide_room 0)) ≡ tables_of es ls
front_fits es ls h =
    let ts = tables_of es ls in
    let rest : List ℕ = drop (length ts) (replicate wide_room 0) in
    let r = length-replicate {A = ℕ} wide_room 0 in
    let k : min (get_or (ts ++ rest) 0 0) wide_room ≡ length ts = omega (arith, first_is es ls rest) in
    ap (λ (w : Pen). front w.list) (puts_fit ts (replicate wide_room 0) (omega arith)) ∙ ap (λ (n : ℕ). take n (ts ++ rest)) k ∙ take_at ts rest (length ts) (omega arith)

module _ (t : List ℕ) (ps : List Placed) (m : Model) (e : reading t ≡ tokens ps) (g : Gram (tokens_in t ps) m) where
  tables-overlong : (ls : List ℕ) → overlong (front (laid (tables_in m ls) (replicate wide_room 0))) ≡ ltb normal_most (length (normal m))
  unfolding overlong
  tables-overlong ls =
      ap (λ (u : List ℕ). ltb normal_most (length (normal_of u))) (front_fits (entries_in m) ls (fits-twice t ps m e g ls))
      ∙ ap (λ (u : List ℕ). ltb normal_most (length u)) (normal_text_lem m ls (accepted_known t ps m e g) (accepted_small t ps m e g) (omega (arith, accepted_items t ps m e g)))

  pub overlong_exact : (ls : List ℕ) → both (ltb normal_most (length t)) (overlong (front (laid (tables_in m ls) (replicate wide_room 0)))) ≡ ltb normal_most (length (normal m))
  overlong_exact ls = go (lt_or_ge normal_most (length t))
    where
      go : (normal_most < length t) ⊎ (length t ≤ normal_most) → both (ltb normal_most (length t)) (overlong (front (laid (tables_in m ls) (replicate wide_room 0)))) ≡ ltb normal_most (length (normal m))
      go (inl h) = rw (lt-ltb normal_most (length t) h) (tables-overlong ls)
      go (inr h) = rw (le-ltb normal_most (length t) h) (inv (le-ltb normal_most (length (normal m)) (omega (arith, normal_shortest t ps m e g))))
