-- THE PARSER GIVES EACH ITEM THE TOKEN OF THE DERIVATION: what is written for a text of the grammar has, item for item, the tokens that `spots` says. Assumes nothing.
use Prim.Native.Nat.{ℕ, ◌≤◌}
use native.Mathlib.Omega.{arith}
use mathlib.Core.Path.{◌≡◌, refl, ap}
use mathlib.Core.Bool.{Bool, true, false}
use mathlib.Core.List.{List, map}
use lib.ListN.{length}
use lib.Dec.{ltb, leb}
use borrow.Author.Tests.{ltb-false}
use Rattle.base_ceilings.specs.Ceilings.{items_most, tokens_most}
use Rattle.base_bytes.specs.Choice.{pick}
use Rattle.base_kinds.specs.Kinds.{Token, kind_of}
use Rattle.spec_grammar.specs.Tree.{Model}
use Rattle.spec_grammar.specs.Grammar.{Gram}
use Rattle.parse_machine.specs.Answer.{items, refuse, judged, parsed}
use Rattle.parse_machine.specs.Depth.{too_deep}
use Rattle.parse_machine.specs.Machine.{place_of, Outcome, done, refused, spent, machine}
use Rattle.parse_machine.proofs.Same.{many}
use Rattle.parse_spots.specs.Spots.{tokens, spots}
use Rattle.parse_spots_proof.proofs.Units.{spots_derived}
use Rattle.parse_spots_proof.proofs.Follows.{machine-says}

no_items : (k i : ℕ) (o : List ℕ) → refuse k i ≡ items o → ⊥
no_items k i o e = let z : ◌≡◌ {A = ℕ} 0 1 = cc in omega arith

judged_done : (d n : ℕ) (m : Outcome) (o : List ℕ) → judged d n m ≡ items o → m ≡ done o
judged_done d n (done l) o e = by_depth (leb d n) e
  where
    by_depth : (b : Bool) → pick b (refuse 2 d) (items l) ≡ items o → done l ≡ done o
    by_depth true h = absurd (no_items 2 d o h)
    by_depth false h = let z : l ≡ o = cc in ap done z
judged_done d n (refused i) o e = by_depth (leb d i) e
  where
    by_depth : (b : Bool) → pick b (refuse 2 d) (refuse 3 i) ≡ items o → refused i ≡ done o
    by_depth true h = absurd (no_items 2 d o h)
    by_depth false h = absurd (no_items 3 i o h)
judged_done d n spent o e = absurd (no_items 6 0 o e)

parsed_done : (ks : List ℕ) (room : ℕ) (o : List ℕ) → parsed ks room ≡ items o → (length ks ≤ tokens_most) × (machine ks ≡ done o)
unfolding parsed
parsed_done ks room o e = by_room (ltb room items_most) (ltb tokens_most (length ks)) refl e
  where
    by_room : (a b : Bool) → ltb tokens_most (length ks) ≡ b → pick a (refuse 7 0) (pick b (refuse 2 tokens_most) (judged (too_deep ks) (length ks) (machine ks))) ≡ items o →
        (length ks ≤ tokens_most) × (machine ks ≡ done o)
    by_room true b g h = absurd (no_items 7 0 o h)
    by_room false true g h = absurd (no_items 2 tokens_most o h)
    by_room false false g h = (ltb-false tokens_most (length ks) g, judged_done (too_deep ks) (length ks) (machine ks) o h)

pub items-spots : (ts : List Token) (m : Model) (g : Gram ts m) (room : ℕ) (numbers : List ℕ) → parsed (map kind_of ts) room ≡ items numbers → map place_of numbers ≡ tokens (spots g 0)
items-spots ts m g room numbers e =
    let (short, d) = parsed_done (map kind_of ts) room numbers e in
    machine-says ts (rw (many ts) at short) (spots g 0) (spots_derived g 0) numbers d
