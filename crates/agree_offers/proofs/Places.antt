-- Items that stand in the code of an accepted text's tree stand in its tables, and those that open a selection or an option link to what closes it.
use Prim.Native.Nat.{ℕ, suc, ◌+◌, ◌≤◌, ◌<◌}
use native.Mathlib.Omega.{arith}
use mathlib.Core.Path.{◌≡◌, refl, sym as inv, ap, subst, ◌∙◌}
use mathlib.Core.Bool.{true}
use mathlib.Core.List.{List, ◌∷◌, ◌++◌}
use lib.ListN.{length, length-append}
use Rattle.base_codes.specs.Items.{Item}
use Rattle.parse_code.specs.Code.{code}
use Rattle.base_codes.specs.Items.{code_of as itemCode}
use Rattle.base_codes.specs.Sets.{is_closing}
use Rattle.table_entries.specs.Items.{AllKnown}
use Rattle.link_phrases_proof.specs.Phrases.{At}
use Rattle.link_phrases_proof.proofs.Starts.{at_front, at_back}
use Rattle.table_layout.specs.Access.{link_of}
use Rattle.table_proof.proofs.Accepted.{accepted_known}
use Rattle.read_accepts_proof.specs.Meaning.{Accepts}
use Rattle.agree_eval.specs.Held.{Held}
use Rattle.agree_eval.specs.Names.{codes_at}
use Rattle.agree_eval.proofs.Items.{T, part_held}
use Rattle.agree_eval.proofs.Main.{items_long}
use Rattle.agree_eval.proofs.Operators.{known-front, known-back}
use Rattle.agree_stage.proofs.Stands.{Lying}
use Rattle.agree_nesting.specs.Balanced.{Begun, Balanced}
use Rattle.agree_nesting.proofs.Matches.{Opener, Match}
use Rattle.agree_nesting.proofs.Main.{all_at, linked_to}

module _ (t : List ℕ) (a : Accepts t) where
  abbrev pub xs : List Item
  xs = code a.tree

  module _ (x : List Item) (i : ℕ) (l : Lying xs 0 x i) where
    at_place : i ≡ 0 + length l.front
    at_place = l.place

    pub held_there : Held (T t a) i x
    held_there = let e = at_place in let z : length l.front ≡ i = omega arith in subst (λ n. Held (T t a) n x) z (part_held t a l.front x l.rest l.split)

    pub at_there : At (codes_at t a) i x
    at_there = at_front (codes_at t a) i x l.rest (at_back (codes_at t a) l.front (x ++ l.rest) 0 i at_place (subst (At (codes_at t a) 0) l.split (all_at t a)))

    pub inside_there : i + length x ≤ length xs
    inside_there = omega (arith, at_place, ap length l.split, length-append l.front (x ++ l.rest), length-append x l.rest)

    pub ends_there : i + length x ≤ length (codes_at t a)
    ends_there = omega (arith, inside_there, items_long t a)

    pub known_there : AllKnown x
    known_there = known-front x l.rest (known-back l.front (x ++ l.rest) (subst AllKnown l.split (accepted_known t a.parts a.tree a.reads a.gram)))

  -- the item y closes what x opens, with balanced items m between them
  pub linked_there : (p : ℕ) (x y : Item) (m r : List Item) (i : ℕ) → Opener p (itemCode x) → is_closing p (itemCode y) ≡ true → (p ≡ 2 → Begun m) → Balanced m
      → Lying xs 0 (x ∷ (m ++ (y ∷ r))) i → link_of (T t a) i ≡ i + 1 + length m
  linked_there p x y m r i o c g b l =
      let h = at_there (x ∷ (m ++ (y ∷ r))) i l in
      let w = inside_there (x ∷ (m ++ (y ∷ r))) i l in
      let n = length-append m (y ∷ r) in
      let k : i + 1 + length m ≡ suc i + length m = omega arith in
      linked_to t a i p (length xs) (omega arith) (subst (Opener p) (inv h.0) o) (closing h (omega arith)) (omega arith) ∙ inv k
    where
      closing : At (codes_at t a) i (x ∷ (m ++ (y ∷ r))) → suc i + length m < length xs → Match (codes_at t a) p i (length xs)
      closing h w =
          record {
            at = suc i + length m;
            before = w;
            inner = m;
            begun = g;
            balanced = b;
            stands = at_front (codes_at t a) (suc i) m (y ∷ r) h.1;
            place = refl;
            closes = ap (is_closing p) (at_back (codes_at t a) m (y ∷ r) (suc i) (suc i + length m) refl h.1).0 ∙ c;
          }
