-- What the parsing machine writes stands right: a name, number or string at a token of its kind, and marks that have a number.
use Prim.Native.Nat.{ℕ, zero, suc, ◌+◌, ◌-◌, ◌*◌, ◌%◌, ◌≤◌, ◌<◌, min}
use mathlib.Core.Path.{◌≡◌, refl, sym, ◌∙◌}
use mathlib.Core.Bool.{Bool, true, false}
use mathlib.Core.Logic.{◌⊎◌, inl, inr}
use mathlib.Core.List.{List, [], ◌∷◌, ◌++◌, map}
use native.Mathlib.Omega.{arith}
use lib.ListN.{length, get_or, length-map}
use lib.Dec.{T, eqb, ltb, leb, leb→le}
use borrow.Author.Tests.{lt-ltb, ltb-true, ltb-false, eqb-true}
use Rattle.base_ceilings.specs.Ceilings.{items_most, tokens_most}
use Rattle.base_codes.specs.Codes.{c_end_body, c_or_else, c_name, c_text}
use Rattle.base_bytes.specs.Choice.{pick, both}
use Rattle.spec_text.specs.Placed.{Placed}
use Rattle.parse_tables.specs.Tables.{rights, span, right}
use Rattle.parse_machine.specs.Machine.{packed, symbol_of, place_of, count_of_lem, clipped, column, Config, Outcome, done, refused, spent, go, stop, output_of, write, eat, mark, marked, expand, step_on, next, run, start, machine, most_stack, most_steps, place_room}
use Rattle.parse_machine.proofs.Never.{mark_plain}
use Rattle.table_proof.specs.Read.{nowhere, Right}
use Rattle.table_proof.proofs.Marks.{both_parts}
use Rattle.table_proof.proofs.Read.{get_only}

abbrev lows : List ℕ → Bool
lows [] = true
lows (x ∷ l) = both (leb x c_end_body) (lows l)

all-low : T (lows rights)
unfolding rights
all-low = tt

low_at : (l : List ℕ) → T (lows l) → (i : ℕ) → get_or l i 0 ≤ c_end_body
low_at [] t i = omega arith
low_at (x ∷ l) t zero = leb→le x c_end_body (both_parts (leb x c_end_body) (lows l) t).0
low_at (x ∷ l) t (suc i) = low_at l (both_parts (leb x c_end_body) (lows l) t).1 i

-- a stack of such symbols
abbrev Low : List ℕ → Type 0
Low [] = Unit {0}
Low (v ∷ st) = (v % 256 ≤ c_end_body) × Low st

low-mark : (x b : ℕ) → x ≤ c_end_body → b % 256 ≡ 0 → (x + b) % 256 ≤ c_end_body
low-mark x b h e = omega arith

low-span : (i n b : ℕ) (st : List ℕ) → b % 256 ≡ 0 → Low st → Low (marked b (span i n) ++ st)
unfolding span
low-span i zero b st e s = s
low-span i (suc n) b st e s = (low-mark (get_or rights i 0) b (low_at rights all-low i) e, low-span (i + 1) n b st e s)

low-right : (p b : ℕ) (st : List ℕ) → b % 256 ≡ 0 → Low st → Low (marked b (right p) ++ st)
unfolding right
low-right p b st e s = low-span (p * 13 + 1) (get_or rights (p * 13) 0) b st e s

-- what is written
abbrev pub Wrote : List ℕ → ℕ → Type 0
Wrote ks v = ((c_name ≤ symbol_of v) × (symbol_of v ≤ c_text) × (place_of v < length ks) × (get_or ks (place_of v) 0 ≡ symbol_of v)) ⊎ ((c_or_else ≤ symbol_of v) × (symbol_of v ≤ c_end_body))

abbrev All : List ℕ → List ℕ → Type 0
All ks [] = Unit {0}
All ks (v ∷ o) = Wrote ks v × All ks o

all_snoc : (ks o : List ℕ) (v : ℕ) → All ks o → Wrote ks v → All ks (o ++ v ∷ [])
all_snoc ks [] v a w = (w, tt)
all_snoc ks (x ∷ o) v a w = (a.0, all_snoc ks o v a.1 w)

all_at : (ks o : List ℕ) → All ks o → (j : ℕ) → j < length o → Wrote ks (get_or o j 0)
all_at ks [] a j h = absurd (omega arith)
all_at ks (v ∷ o) a zero h = a.0
all_at ks (v ∷ o) a (suc j) h = all_at ks o a.1 j (omega arith)

packed-symbol : (s at n : ℕ) → s < 256 → symbol_of (packed s at n) ≡ s
packed-symbol s at n h = omega arith

packed-place : (s at n : ℕ) → s < 256 → at < place_room → place_of (packed s at n) ≡ at
packed-place s at n h k = omega arith

clipped_kind : (k s : ℕ) → s ≤ c_text → s ≡ clipped k → k ≡ s
clipped_kind k s h e = by (eqb k 0) refl e
  where
    by : (b : Bool) → eqb k 0 ≡ b → s ≡ pick b 73 (min k 73) → k ≡ s
    by true t f = absurd (omega arith)
    by false t f = omega arith

-- an outcome
abbrev Good : List ℕ → Outcome → Type 0
Good ks (done o) = All ks o
Good ks (refused i) = Unit {0}
Good ks spent = Unit {0}

module _ (ks : List ℕ) (short : length ks ≤ tokens_most) (f : Config → Outcome) (ih : (c : Config) → Low c.st → All ks c.out → Good ks (f c)) where
  write_good : (v at : ℕ) (st : List ℕ) (pos : ℕ) (out : List ℕ) → Low st → All ks out → Wrote ks (packed (symbol_of v) at (length out - count_of_lem v)) → Good ks (next f (write v at st pos out))
  unfolding write
  write_good v at st pos out l a w = by (ltb (length out) items_most)
    where
      by : (b : Bool) → Good ks (next f (pick b (go (record { st = st; pos = pos; out = output_of v at out })) (stop spent)))
      by true = ih (record { st = st; pos = pos; out = output_of v at out }) l (all_snoc ks out (packed (symbol_of v) at (length out - count_of_lem v)) a w)
      by false = tt

  token_wrote : (v pos n : ℕ) → pos < length ks → symbol_of v < 73 → c_name ≤ symbol_of v → symbol_of v ≡ column ks pos → Wrote ks (packed (symbol_of v) pos n)
  unfolding column
  token_wrote v pos n h lt ge e =
      let s = symbol_of v in
      let a : symbol_of (packed s pos n) ≡ s = packed-symbol s pos n (omega arith) in
      let b : place_of (packed s pos n) ≡ pos = packed-place s pos n (omega arith) (omega arith) in
      let k : get_or ks pos 0 ≡ s = clipped_kind (get_or ks pos 0) s (omega arith) (rw (lt-ltb pos (length ks) h) at e) in
      inl (rw a ge, rw a (omega arith), rw b h, rw (a, b) k)

  eat_good : (v : ℕ) (st : List ℕ) (pos : ℕ) (out : List ℕ) → Low st → All ks out → symbol_of v < 73 → Good ks (next f (eat ks v st pos out))
  unfolding eat
  eat_good v st pos out l a lt = by (ltb pos (length ks)) refl
    where
      in_it : (b : Bool) → ltb (symbol_of v) 70 ≡ b → pos < length ks → symbol_of v ≡ column ks pos
          → Good ks (next f (pick b (go (record { st = st; pos = pos + 1; out = out })) (write v pos st (pos + 1) out)))
      in_it true e h k = ih (record { st = st; pos = pos + 1; out = out }) l a
      in_it false e h k = write_good v pos st (pos + 1) out l a (token_wrote v pos (length out - count_of_lem v) h lt (ltb-false (symbol_of v) c_name e) k)

      at_it : (b : Bool) → eqb (symbol_of v) (column ks pos) ≡ b → pos < length ks
          → Good ks (next f (pick b (pick (ltb (symbol_of v) 70) (go (record { st = st; pos = pos + 1; out = out })) (write v pos st (pos + 1) out)) (stop (refused pos))))
      at_it true e h = in_it (ltb (symbol_of v) 70) refl h (eqb-true (symbol_of v) (column ks pos) e)
      at_it false e h = tt

      by : (b : Bool) → ltb pos (length ks) ≡ b
          → Good ks (next f (pick b (pick (eqb (symbol_of v) (column ks pos)) (pick (ltb (symbol_of v) 70) (go (record { st = st; pos = pos + 1; out = out })) (write v pos st (pos + 1) out)) (stop (refused pos))) (stop (refused pos))))
      by true e = at_it (eqb (symbol_of v) (column ks pos)) refl (ltb-true pos (length ks) e)
      by false e = tt

  expand_good : (v : ℕ) (st : List ℕ) (pos : ℕ) (out : List ℕ) (p : ℕ) → Low st → All ks out → Good ks (next f (expand v st pos out p))
  unfolding expand
  expand_good v st pos out p l a = by (eqb p 0) (leb (length (right p) + length st) most_stack)
    where
      by : (b c : Bool) → Good ks (next f (pick b (stop (refused pos)) (pick c (go (record { st = marked (mark v pos out) (right p) ++ st; pos = pos; out = out })) (stop spent))))
      by true c = tt
      by false true = ih (record { st = marked (mark v pos out) (right p) ++ st; pos = pos; out = out }) (low-right p (mark v pos out) st (mark_plain v pos out) l) a
      by false false = tt

  mark-wrote : (v n : ℕ) → c_or_else ≤ symbol_of v → symbol_of v ≤ c_end_body → Wrote ks (packed (symbol_of v) (place_of v) n)
  mark-wrote v n a b = let e : symbol_of (packed (symbol_of v) (place_of v) n) ≡ symbol_of v = packed-symbol (symbol_of v) (place_of v) n (omega arith) in inr (rw e a, rw e b)

  turn_good : (st : List ℕ) (pos : ℕ) (out : List ℕ) → Low st → All ks out → Good ks (next f (step_on ks st pos out))
  unfolding step_on
  turn_good [] pos out l a = by (ltb pos (length ks))
    where
      by : (b : Bool) → Good ks (pick b (refused pos) (done out))
      by true = tt
      by false = a
  turn_good (v ∷ st) pos out l a = by (ltb (symbol_of v) 73) refl (ltb (symbol_of v) c_or_else) refl
    where
      by : (b : Bool) → ltb (symbol_of v) 73 ≡ b → (c : Bool) → ltb (symbol_of v) c_or_else ≡ c
          → Good ks (next f (pick b (eat ks v st pos out) (pick c (expand v st pos out (Rattle.parse_tables.specs.Tables.production (symbol_of v) (column ks pos))) (write v (place_of v) st pos out))))
      by true e c g = eat_good v st pos out l.1 a (ltb-true (symbol_of v) 73 e)
      by false e true g = expand_good v st pos out (Rattle.parse_tables.specs.Tables.production (symbol_of v) (column ks pos)) l.1 a
      by false e false g = write_good v (place_of v) st pos out l.1 a (mark-wrote v (length out - count_of_lem v) (ltb-false (symbol_of v) c_or_else g) l.0)

run_good : (ks : List ℕ) → length ks ≤ tokens_most → (f : ℕ) (c : Config) → Low c.st → All ks c.out → Good ks (run ks f c)
unfolding run
run_good ks short zero c l a = tt
run_good ks short (suc f) c l a = turn_good ks short (run ks f) (run_good ks short f) c.st c.pos c.out l a

-- THE MACHINE'S NUMBERS ARE RIGHT for the tokens whose kinds it read
pub machine-right : (ps : List Placed) (o : List ℕ) → length ps ≤ tokens_most → machine (map Placed.kind ps) ≡ done o → (j : ℕ) → j < length o → Right ps (symbol_of (get_or o j 0)) (place_of (get_or o j 0))
machine-right ps o short e j h = by (all_at (map Placed.kind ps) o all j h)
  where
    many : length (map Placed.kind ps) ≡ length ps
    many = length-map ps Placed.kind

    all : All (map Placed.kind ps) o
    all = rw e at (run_good (map Placed.kind ps) (rw many short) most_steps start (omega arith, tt) tt)

    by : Wrote (map Placed.kind ps) (get_or o j 0) → Right ps (symbol_of (get_or o j 0)) (place_of (get_or o j 0))
    by (inl w) = let l : place_of (get_or o j 0) < length ps = rw many at w.2 in inl (w.0, w.1, l, sym (get_only Placed.kind ps (place_of (get_or o j 0)) nowhere 0 l) ∙ w.3)
    by (inr w) = inr w
