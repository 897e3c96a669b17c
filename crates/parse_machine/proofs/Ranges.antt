-- EVERY ITEM IS IN RANGE: its token is one of the tokens or the end, and its size reaches no further back than the first item. Assumes nothing.
use Prim.Native.Nat.{ℕ, zero, suc, ◌+◌, ◌-◌, ◌*◌, ◌/◌, ◌%◌, ◌≤◌, ◌<◌}
use native.Mathlib.Omega.{arith}
use mathlib.Core.Path.{◌≡◌, refl}
use mathlib.Core.Bool.{Bool, true, false}
use mathlib.Core.List.{List, [], ◌∷◌, ◌++◌}
use lib.ListN.{length}
use lib.Dec.{T, eqb, ltb, leb, ltb→lt, lit≤}
use borrow.Author.Tests.{ltb-true, ltb-false, eqb-false}
use Rattle.base_ceilings.specs.Ceilings.{items_most, tokens_most}
use Rattle.base_codes.specs.Codes.{c_or_else}
use Rattle.base_bytes.specs.Choice.{pick, both}
use Rattle.parse_grammar.proofs.Tests.{both_left, both_right}
use Rattle.parse_tables.specs.Tables.{production, right}
use Rattle.parse_tables.proofs.Tables.{at_right}
use Rattle.parse_machine.specs.Machine.{packed, symbol_of, place_of, count_of_lem, column, Config, Outcome, done, refused, spent, Next, output_of, write, eat, mark, marked, expand, step_on, next, run, start, machine, most_steps, most_stack, place_room}
use Rattle.parse_machine.specs.Items.{InRange, AllInRange}
use Rattle.parse_machine.proofs.Never.{column-low, length-written}
use Rattle.parse_machine.proofs.Same.{solid?, solid_rights, solid_all}

-- ---- packing and unpacking
module _ (x at m : ℕ) (hx : x < 256) (ha : at < place_room) (hm : m < 65536) where
  place-back : place_of (packed x at m) ≡ at
  place-back = omega arith

  count-back : count_of_lem (packed x at m) ≡ m
  count-back = omega arith

  symbol-back : symbol_of (packed x at m) ≡ x
  symbol-back = omega arith

-- ---- the stack's numbers
record Entry (pos n v : ℕ) : Type 0 where
  place : place_of v ≤ pos
  count : count_of_lem v ≤ n

abbrev Entries : ℕ → ℕ → List ℕ → Type 0
Entries pos n [] = Unit {0}
Entries pos n (v ∷ st) = Entry pos n v × Entries pos n st

later-entries : (st : List ℕ) {pos pos' n n' : ℕ} → pos ≤ pos' → n ≤ n' → Entries pos n st → Entries pos' n' st
later-entries [] h g e = tt
later-entries (v ∷ st) h g e = (record { place = omega (arith, e.0.place); count = omega (arith, e.0.count) }, later-entries st h g e.1)

now-entry : (y pos n : ℕ) → y < 256 → pos < place_room → n < 65536 → Entry pos n (y + (256 * pos + 1048576 * n))
now-entry y pos n hy hp hn = record { place = omega arith; count = omega arith }

then_entry : (y v pos n : ℕ) → y < 256 → Entry pos n v → Entry pos n (y + (v - v % 256))
then_entry y v pos n hy e =
    let p : (y + (v - v % 256)) / 256 ≡ v / 256 = omega arith in
    let q : (y + (v - v % 256)) / 1048576 ≡ v / 1048576 = omega arith in
    record { place = rw p e.place; count = rw q e.count }

mark-entry : (b : Bool) (y v pos n : ℕ) → y < 256 → pos < place_room → n < 65536 → Entry pos n v → Entry pos n (y + pick b (256 * pos + 1048576 * n) (v - v % 256))
mark-entry true y v pos n hy hp hn e = now-entry y pos n hy hp hn
mark-entry false y v pos n hy hp hn e = then_entry y v pos n hy e

marked-entries : (v pos : ℕ) (out r st : List ℕ) → T (solid? r) → pos < place_room → length out < 65536 → Entry pos (length out) v → Entries pos (length out) st →
    Entries pos (length out) (marked (mark v pos out) r ++ st)
marked-entries v pos out [] st t hp hn e es = es
marked-entries v pos out (y ∷ r) st t hp hn e es =
    let h : y < 256 = ltb→lt y 256 (both_right (ltb 0 y) (ltb y 256) (both_left (both (ltb 0 y) (ltb y 256)) (solid? r) t)) in
    (mark-entry (ltb (symbol_of v) 143) y v pos (length out) h hp hn e, marked-entries v pos out r st (both_right (both (ltb 0 y) (ltb y 256)) (solid? r) t) hp hn e es)

-- ---- items
range_snoc : (n i : ℕ) (o : List ℕ) (v : ℕ) → AllInRange n i o → InRange n (i + length o) v → AllInRange n i (o ++ v ∷ [])
range_snoc n i [] v a r = (let e : i + 0 ≡ i = omega arith in rw e at r, tt)
range_snoc n i (x ∷ o) v a r = (a.0, range_snoc n (suc i) o v a.1 (let e : i + suc (length o) ≡ suc i + length o = omega arith in rw e at r))

item_range : (n v at : ℕ) (out : List ℕ) → at ≤ n → n ≤ tokens_most → length out ≤ items_most → (v % 256 < 73 → at < n) → InRange n (length out) (packed (symbol_of v) at (length out - count_of_lem v))
item_range n v at out h g l own =
    let x : v % 256 < 256 = omega arith in
    let p = place-back (symbol_of v) at (length out - count_of_lem v) x (omega arith) (omega arith) in
    let c = count-back (symbol_of v) at (length out - count_of_lem v) x (omega arith) (omega arith) in
    let s = symbol-back (symbol_of v) at (length out - count_of_lem v) x (omega arith) (omega arith) in
    record { token = rw p h; size = rw c (omega arith); own = λ k. rw p (own (rw s at k)) }

-- ---- a configuration, and what is done
record Within (ks st : List ℕ) (pos : ℕ) (out : List ℕ) : Type 0 where
  entries : Entries pos (length out) st
  inside : pos ≤ length ks
  room : length out ≤ items_most
  fine : AllInRange (length ks) 0 out

abbrev pub Ranged : List ℕ → Outcome → Type 0
Ranged ks (done o) = AllInRange (length ks) 0 o
Ranged ks (refused i) = i ≤ length ks
Ranged ks spent = Unit {0}

ranged-pick : (ks : List ℕ) (b : Bool) (x y : Next) (f : Config → Outcome) → (b ≡ true → Ranged ks (next f x)) → (b ≡ false → Ranged ks (next f y)) → Ranged ks (next f (pick b x y))
ranged-pick ks true x y f p q = p refl
ranged-pick ks false x y f p q = q refl

ranged_end : (ks : List ℕ) (b : Bool) (i : ℕ) (o : List ℕ) → i ≤ length ks → AllInRange (length ks) 0 o → Ranged ks (pick b (refused i) (done o))
ranged_end ks true i o h a = h
ranged_end ks false i o h a = a

module _ (ks : List ℕ) (short : length ks ≤ tokens_most) (f : Config → Outcome) (ih : (c : Config) → Within ks c.st c.pos c.out → Ranged ks (f c))
    (v : ℕ) (st : List ℕ) (pos : ℕ) (out : List ℕ) (w : Within ks (v ∷ st) pos out) where
  write-ranged : (at pos' : ℕ) → at ≤ length ks → (v % 256 < 73 → at < length ks) → pos ≤ pos' → pos' ≤ length ks → Ranged ks (next f (write v at st pos' out))
  unfolding write
  write-ranged at pos' h own g k =
      ranged-pick ks (ltb (length out) items_most) _ _ f
      (λ e.
      let l : length out < items_most = ltb-true (length out) items_most e in
      ih (record { st = st; pos = pos'; out = output_of v at out })
      (record {
        entries = rw (length-written v at out) (later-entries st g (omega arith) w.entries.1);
        inside = k;
        room = rw (length-written v at out) (omega arith);
        fine = range_snoc (length ks) 0 out _ w.fine (let z : 0 + length out ≡ length out = omega arith in rw z (item_range (length ks) v at out h short w.room own));
      }))
      (λ e. tt)

  eat-ranged : Ranged ks (next f (eat ks v st pos out))
  unfolding eat
  eat-ranged =
      ranged-pick ks (ltb pos (length ks)) _ _ f
      (λ h.
      let k : pos < length ks = ltb-true pos (length ks) h in
      ranged-pick ks (eqb (symbol_of v) (column ks pos)) _ _ f
      (λ e. ranged-pick ks (ltb (symbol_of v) 70) _ _ f
      (λ g. ih (record { st = st; pos = pos + 1; out = out })
      (record { entries = later-entries st (omega arith) (omega arith) w.entries.1; inside = omega arith; room = w.room; fine = w.fine }))
      (λ g. write-ranged pos (pos + 1) (omega arith) (λ z. k) (omega arith) (omega arith)))
      (λ e. w.inside))
      (λ h. w.inside)

  expand-ranged : 73 ≤ v % 256 → v % 256 < c_or_else → Ranged ks (next f (expand v st pos out (production (v % 256) (column ks pos))))
  unfolding expand solid_rights
  expand-ranged lo hi =
      let p : ℕ = production (v % 256) (column ks pos) in
      ranged-pick ks (eqb p 0) _ _ f (λ e. w.inside)
      (λ e. ranged-pick ks (leb (length (right p) + length st) most_stack) _ _ f
      (λ g. ih (record { st = marked (mark v pos out) (right p) ++ st; pos = pos; out = out })
      (record {
        entries =
            marked-entries v pos out (right p) st (at_right solid_rights solid_all (v % 256) (column ks pos) lo hi (column-low ks pos) (eqb-false p 0 e))
            (omega (arith, w.inside)) (omega (arith, w.room)) w.entries.0 w.entries.1;
        inside = w.inside;
        room = w.room;
        fine = w.fine;
      }))
      (λ g. tt))

turn_ranged : (ks : List ℕ) → length ks ≤ tokens_most → (f : Config → Outcome) → ((c : Config) → Within ks c.st c.pos c.out → Ranged ks (f c)) → (st : List ℕ) (pos : ℕ) (out : List ℕ) →
    Within ks st pos out → Ranged ks (next f (step_on ks st pos out))
unfolding step_on
turn_ranged ks short f ih [] pos out w = ranged_end ks (ltb pos (length ks)) pos out w.inside w.fine
turn_ranged ks short f ih (v ∷ st) pos out w =
    ranged-pick ks (ltb (symbol_of v) 73) _ _ f (λ e. eat-ranged ks short f ih v st pos out w)
    (λ e. ranged-pick ks (ltb (symbol_of v) c_or_else) _ _ f (λ g. expand-ranged ks short f ih v st pos out w (ltb-false (symbol_of v) 73 e) (ltb-true (symbol_of v) c_or_else g))
    (λ g. write-ranged ks short f ih v st pos out w (place_of v) pos (omega (arith, w.entries.0.place, w.inside)) (λ z. absurd (omega (arith, ltb-false (symbol_of v) 73 e))) (omega arith) w.inside))

run-ranged : (ks : List ℕ) → length ks ≤ tokens_most → (f : ℕ) (c : Config) → Within ks c.st c.pos c.out → Ranged ks (run ks f c)
unfolding run
run-ranged ks short zero c w = tt
run-ranged ks short (suc f) c w = turn_ranged ks short (run ks f) (run-ranged ks short f) c.st c.pos c.out w

pub items_in_range : (ks : List ℕ) → length ks ≤ tokens_most → Ranged ks (machine ks)
items_in_range ks short =
    run-ranged ks short most_steps start (record { entries = (record { place = lit≤ tt; count = lit≤ tt }, tt); inside = omega arith; room = lit≤ tt; fine = tt })
