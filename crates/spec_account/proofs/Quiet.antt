-- WHATEVER IS HANDED ON GUARDED, no line of it begins like an answer or a heading; and where none did, it is what it was.
use Prim.Native.Nat.{ℕ, suc, ◌*◌, ◌≤◌}
use mathlib.Core.Path.{◌≡◌, refl, sym, ap}
use mathlib.Core.Bool.{Bool, true, false}
use mathlib.Core.List.{List, [], ◌∷◌, ◌++◌}
use native.Mathlib.Omega.{arith}
use lib.ListN.{length}
use lib.Dec.{eqb}
use Rattle.base_bytes.specs.Choice.{pick, both}
use Rattle.base_bytes.proofs.Tests.{true_false}
use borrow.Author.Tests.{eqb-true}
use Rattle.spec_account.specs.Bytes.{shown, indented}
use Rattle.spec_account.specs.Quiet.{is_front, quiet, guarded}
use Rattle.spec_account.proofs.Bytes.{shown-indented}

blank : is_front 32 ≡ false
unfolding is_front
blank = refl

pub guarded-quiet : (f : Bool) (l : List ℕ) → quiet f (guarded f l) ≡ true
unfolding quiet guarded
guarded-quiet f [] = refl
guarded-quiet f (b ∷ l) = by f (is_front b) refl (guarded-quiet (eqb b 10) l)
  where
    by : (g p : Bool) → is_front b ≡ p → quiet (eqb b 10) (guarded (eqb b 10) l) ≡ true → quiet g (pick (both g p) (32 ∷ 32 ∷ []) [] ++ b ∷ guarded (eqb b 10) l) ≡ true
    by true true e h = rw blank h
    by true false e h = rw e h
    by false p e h = h

pub guarded-same : (f : Bool) (l : List ℕ) → quiet f l ≡ true → guarded f l ≡ l
unfolding quiet guarded
guarded-same f [] h = refl
guarded-same f (b ∷ l) h = by f (is_front b) refl h (guarded-same (eqb b 10) l)
  where
    by : (g p : Bool) → is_front b ≡ p → pick (both g p) false (quiet (eqb b 10) l) ≡ true → (quiet (eqb b 10) l ≡ true → guarded (eqb b 10) l ≡ l) → pick (both g p) (32 ∷ 32 ∷ []) [] ++ b ∷ guarded (eqb b 10) l ≡ b ∷ l
    by true true e k ih = absurd (true_false (sym k))
    by true false e k ih = ap (b ∷◌) (ih k)
    by false p e k ih = ap (b ∷◌) (ih k)

pub guarded-short : (f : Bool) (l : List ℕ) → length (guarded f l) ≤ 3 * length l
unfolding guarded
guarded-short f [] = omega arith
guarded-short f (b ∷ l) = by (both f (is_front b)) (guarded-short (eqb b 10) l)
  where
    by : (p : Bool) → length (guarded (eqb b 10) l) ≤ 3 * length l → length (pick p (32 ∷ 32 ∷ []) [] ++ b ∷ guarded (eqb b 10) l) ≤ 3 * suc (length l)
    by true h = omega (arith, h)
    by false h = omega (arith, h)

-- lines that have their margin are quiet; so is what a run shows of what its model prints
pub indented-quiet : (f : Bool) (l : List ℕ) → indented f l ≡ true → quiet f l ≡ true
unfolding indented quiet
indented-quiet f [] h = refl
indented-quiet true (a ∷ []) h = absurd (true_false (sym h))
indented-quiet true (a ∷ b ∷ l) h = by (eqb a 32) (eqb b 32) refl refl h (indented-quiet false l)
  where
    by : (p q : Bool) → eqb a 32 ≡ p → eqb b 32 ≡ q → pick p (pick q (indented false l) false) false ≡ true → (indented false l ≡ true → quiet false l ≡ true)
        → pick (both true (is_front a)) false (pick (both (eqb a 10) (is_front b)) false (quiet (eqb b 10) l)) ≡ true
    by true true e d k ih = let x : a ≡ 32 = eqb-true a 32 e in let y : b ≡ 32 = eqb-true b 32 d in rw (x, y, blank) (ih k)
    by true false e d k ih = absurd (true_false (sym k))
    by false q e d k ih = absurd (true_false (sym k))
indented-quiet false (b ∷ l) h = indented-quiet (eqb b 10) l h

pub shown-quiet : (f : Bool) (l : List ℕ) → quiet f (shown f l) ≡ true
shown-quiet f l = indented-quiet f (shown f l) (shown-indented f l)
