-- Tests that antt computes, and the facts that follow where they pass.
use mathlib.Core.Path.{◌≡◌, refl}
use mathlib.Core.Bool.{Bool, true, false, cond}
use mathlib.Core.Logic.{◌⊎◌, inl, inr}
use mathlib.Core.Option.{Option, none, some}
use mathlib.Core.List.{List, [], ◌∷◌}
use Prim.Native.Nat.{ℕ, zero, suc, ◌<◌}
use native.Mathlib.Omega.{arith}
use native.Mathlib.Decide.{dec_lt}
use native.Mathlib.Nat.{not-suc-le-zero}
use lib.Dec.{T}
use Rattle.base_bytes.specs.Choice.{both, either}
use Rattle.parse_grammar.specs.Engine.{In, here, there, is_some, pick}
use Rattle.spec_grammar.specs.Depth.{one_later}

-- tests
abbrev pub never : ℕ → Bool
never i = false

abbrev pub implies : Bool → Bool → Bool
implies true b = b
implies false b = true

pub implies_out : (a b : Bool) → T (implies a b) → T a → T b
implies_out true b t u = t
implies_out false b t u = absurd u

pub both_left : (a b : Bool) → T (both a b) → T a
both_left true b t = tt
both_left false b t = t

pub both_right : (a b : Bool) → T (both a b) → T b
both_right true b t = t
both_right false b t = absurd t

pub both_in : (a b : Bool) → T a → T b → T (both a b)
both_in true b s t = t
both_in false b s t = s

pub either_left : (a b : Bool) → T a → T (either a b)
either_left true b t = tt
either_left false b t = absurd t

pub either-right : (a b : Bool) → T b → T (either a b)
either-right true b t = tt
either-right false b t = t

pub either_out : (a n x : Bool) → T (either a (both n x)) → T a ⊎ (T n × T x)
either_out true n x t = inl tt
either_out false n x t = inr (both_left n x t, both_right n x t)

-- a test passes at each number below n
abbrev pub below : ℕ → (ℕ → Bool) → Bool
below zero f = true
below (suc n) f = both (f n) (below n f)

pub below_out : (n : ℕ) (f : ℕ → Bool) → T (below n f) → (i : ℕ) → i < n → T (f i)
below_out zero f t i h = absurd (not-suc-le-zero h)
below_out (suc n) f t i h = go (dec_lt i n) (below_out n f (both_right (f n) (below n f) t) i)
  where
    go : Dec (i < n) → (i < n → T (f i)) → T (f i)
    go (yes l) r = r l
    go (no l) r = let e : n ≡ i = omega arith in rw e at (both_left (f n) (below n f) t)

pub is_some_lem : {X : Type 0} {o : Option X} {x : X} → o ≡ some x → T (is_some o)
is_some_lem e = rw e tt

-- at most one of a list passes
abbrev pub none_of : {X : Type 0} → (X → Bool) → List X → Bool
none_of p [] = true
none_of p (x ∷ l) = both (implies (p x) false) (none_of p l)

abbrev pub one_of : {X : Type 0} → (X → Bool) → List X → Bool
one_of p [] = true
one_of p (x ∷ l) = both (implies (p x) (none_of p l)) (one_of p l)

pub none_of_out : {X : Type 0} (p : X → Bool) (l : List X) (y : X) → T (none_of p l) → In y l → T (p y) → ⊥
none_of_out p (x ∷ l) y t here u = implies_out (p x) false (both_left (implies (p x) false) (none_of p l) t) u
none_of_out p (x ∷ l) y t (there m) u = none_of_out p l y (both_right (implies (p x) false) (none_of p l) t) m u
none_of_out {X = X} p [] y t x3 u = elim x3 [ ]

pub pick_sel : {X : Type 0} (p : X → Bool) (l : List X) (y : X) → T (one_of p l) → In y l → T (p y) → pick p l ≡ some y
pick_sel p (x ∷ l) y t here u = go (p x) u
  where
    go : (b : Bool) → T b → cond b (some x) (pick p l) ≡ some x
    go true u' = refl
    go false u' = absurd u'
pick_sel p (x ∷ l) y t (there m) u = go (p x) (both_left (implies (p x) (none_of p l)) (one_of p l) t) (pick_sel p l y (both_right (implies (p x) (none_of p l)) (one_of p l) t) m u)
  where
    go : (b : Bool) → T (implies b (none_of p l)) → pick p l ≡ some y → cond b (some x) (pick p l) ≡ some y
    go true t' e = absurd (none_of_out p l y t' m u)
    go false t' e = e
pick_sel {X = X} p [] y t x3 u = elim x3 [ ]

pub pick_in : {X : Type 0} (p : X → Bool) (l : List X) (y : X) → pick p l ≡ some y → In y l
pick_in p [] y e = absurd (is_some_lem e)
pick_in p (x ∷ l) y e = go (p x) e (pick_in p l y)
  where
    go : (b : Bool) → cond b (some x) (pick p l) ≡ some y → (pick p l ≡ some y → In y l) → In y (x ∷ l)
    go true e' f = let q : x ≡ y = cc in rw q here
    go false e' f = there (f e')

-- what is written where a right side is empty agrees with what is written where its nonterminal is
abbrev pub Fits : {A : Type 0} → Option (List A) → Option (List A) → Type 0
Fits none y = Unit {0}
Fits (some a) none = ⊥
Fits (some a) (some b) = a ≡ b

pub some-none : (i : ℕ) → some i ≡ none → ⊥
some-none i e = let z : ◌≡◌ {A = ℕ} 0 1 = cc in omega arith

pub later-none : (o : Option ℕ) → one_later o ≡ none → o ≡ none
later-none none e = refl
later-none (some i) e = absurd (some-none (suc i) e)
