-- Laws on lists that the loops cite, over plain variables. Assumes nothing.
use Prim.Native.Nat.{ℕ, zero, suc, ◌+◌, ◌-◌, ◌≤◌, ◌<◌}
use native.Mathlib.Omega.{arith}
use native.Mathlib.Nat.{le_of_suc-le-suc, not-suc-le-zero}
use native.Mathlib.Numerals.{add-one}
use Rattle.std.specs.Prelude.{Option, None, Some}
use Rattle.std.specs.Option.{unwrap_or, IfSome}
use mathlib.Core.Path.{◌≡◌, refl, sym, ap, subst, ◌∙◌}
use mathlib.Core.List.{List, [], ◌∷◌, ◌++◌, map}
use lib.ListN.{length, get_or, take, drop, set}
use Rattle.parse_tables.specs.Tables.{choices, rights, production, production_by, span}
use Rattle.parse_machine.specs.Machine.{marked, symbol_of, place_of, count_of_lem}
use Rattle.parse_items.specs.Views.{Spread}

-- ---- items into an array: one turn
spread_suc : (f : ℕ → ℕ) (s d : List ℕ) (i v : ℕ) → i < length s → i < length d → v ≡ f (get_or s i 0) → set (map f (take i s) ++ drop i d) i v ≡ map f (take (suc i) s) ++ drop (suc i) d
spread_suc f [] d i v h g e = absurd (not-suc-le-zero h)
spread_suc f (x ∷ s) [] i v h g e = absurd (not-suc-le-zero g)
spread_suc f (x ∷ s) (y ∷ d) zero v h g e = ap (λ (z : ℕ). z ∷ d) e
spread_suc f (x ∷ s) (y ∷ d) (suc i) v h g e = ap (f x ∷◌) (spread_suc f s d i v (le_of_suc-le-suc h) (le_of_suc-le-suc g) e)

pub spread_law : (f : ℕ → ℕ) (s d e : List ℕ) (i v : ℕ) → i < length s → i < length d → v ≡ f (get_or s i 0) → e ≡ map f (take i s) ++ drop i d →
    set e i v ≡ map f (take (i + 1) s) ++ drop (i + 1) d
spread_law f s d e i v h g q p = rw (p, add-one) (spread_suc f s d i v h g q)

pub spread_end : (i n : ℕ) (work codes codes' tokens tokens' sizes sizes' : List ℕ) → n ≤ i → i ≤ n → codes' ≡ map symbol_of (take i work) ++ drop i codes →
    tokens' ≡ map place_of (take i work) ++ drop i tokens → sizes' ≡ map count_of_lem (take i work) ++ drop i sizes → Spread n work codes codes' tokens tokens' sizes sizes'
spread_end i n work codes codes' tokens tokens' sizes sizes' h g a b c =
    let e : i ≡ n = omega arith in
    record { codes_are = rw e at a; tokens_are = rw e at b; sizes_are = rw e at c }

-- ---- a right side on the stack: one turn, from the last symbol to the first
push-suc : (l : List ℕ) (j v : ℕ) → j < length l → drop j (set l j v) ≡ v ∷ drop (suc j) l
push-suc [] j v h = absurd (not-suc-le-zero h)
push-suc (a ∷ l) zero v h = refl
push-suc (a ∷ l) (suc j) v h = push-suc l j v (le_of_suc-le-suc h)

pub push_law : (l below : List ℕ) (at at' k k' first size b v : ℕ) → at ≡ suc at' → k ≡ suc k' → k ≤ size → at' < length l →
    v ≡ get_or rights (first + k') 0 + b → drop at l ≡ marked b (span (first + k) (size - k)) ++ below →
    drop at' (set l at' v) ≡ marked b (span (first + k') (size - k')) ++ below
unfolding span
push_law l below at at' k k' first size b v ea ek h g ev inv =
    let e : size - k' ≡ suc (size - k) = omega arith in
    let f : first + k' + 1 ≡ first + k = omega arith in
    push-suc l at' v g ∙ rw (ev, ← ea, inv, e, f)

pub span-length : (i n : ℕ) → length (span i n) ≡ n
unfolding span
span-length i zero = refl
span-length i (suc n) = ap suc (span-length (i + 1) n)

pub push-start : (l : List ℕ) (top first n b : ℕ) → n ≤ top → drop (top - n + n) l ≡ marked b (span (first + n) (n - n)) ++ drop top l
unfolding span
push-start l top first n b h =
    let e : n - n ≡ 0 = omega arith in
    let f : top - n + n ≡ top = omega arith in
    rw (e, f)

pub push_end : (l below : List ℕ) (at first n b k : ℕ) → k ≤ 0 → drop (at + k) l ≡ marked b (span (first + k) (n - k)) ++ below → drop at l ≡ marked b (span first n) ++ below
push_end l below at first n b k h inv =
    let x : at + k ≡ at = omega arith in
    let z : first + k ≡ first = omega arith in
    let y : n - k ≡ n = omega arith in
    rw (x, z, y) at inv

-- ---- the tables that are lent
pub side_at : (sides : List ℕ) (i b x y : ℕ) → sides ≡ rights → x ≡ y → y ≡ get_or sides i 0 → x + b ≡ get_or rights i 0 + b
side_at sides i b x y e p q = rw (← e, ← q, p)

pub size_at : (sides : List ℕ) (i x y : ℕ) → sides ≡ rights → x ≡ y → y ≡ get_or sides i 0 → x ≡ get_or rights i 0
size_at sides i x y e p q = rw (← e, ← q, p)

pub by_choices : (rows : List ℕ) (x k r : ℕ) → rows ≡ choices → r ≡ production_by rows x k → r ≡ production x k
unfolding production
by_choices rows x k r e p = p ∙ ap (λ (t : List ℕ). production_by t x k) e

-- a number that is there, or none, which stands as 0
pub none_read : (o : Option ℕ) → o ≡ None → unwrap_or o 0 ≡ 0
none_read o e = ap (λ (q : Option ℕ). unwrap_or q 0) e

pub some_read : (o : Option ℕ) (p : ℕ) → o ≡ Some p → p ≡ unwrap_or o 0
some_read o p e = sym (ap (λ (q : Option ℕ). unwrap_or q 0) e)

pub some_above : (o : Option ℕ) (p : ℕ) → o ≡ Some p → IfSome o (λ q. (0 < q) × (q < 512)) → p ≡ 0 → ⊥
some_above o p e h z = let w : (0 < p) × (p < 512) = subst (λ (q : Option ℕ). IfSome q (λ r. (0 < r) × (r < 512))) e h in absurd (omega (arith, w.0))
