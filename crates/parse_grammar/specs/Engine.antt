-- Mechanism, held to the specification by `parse-sound`, `parse_complete` (crate `parse_grammar`), but for `In` and `L`, of proofs alone.
-- A grammar as data, with outputs; what it derives; and a predictive machine over it, with one token of lookahead.
-- Document 01, "first token that can continue no text of the grammar", is answered by this machine for any grammar that passes the tests of proofs/Core.antt.
use Rattle.std.specs.Prelude.{◌≡◌, Bool, true, false, cond, List, [], ◌∷◌, ◌++◌, ℕ, zero, suc, ◌+◌}
use Rattle.std.proofs.Math.Option.{Option, none, some}
use Rattle.base_bytes.specs.Choice.{both, either}

-- a symbol of a right side: a nonterminal, a terminal, or an output to write
pub data Sym (N S A : Type 0) : Type 0 where
  nt : N → Sym N S A
  tm : S → Sym N S A
  act : A → Sym N S A

pub data In {X : Type 0} (x : X) : List X → Type 0 where
  here : {l : List X} → In x (x ∷ l)
  there : {y : X} {l : List X} → In x l → In x (y ∷ l)

-- the grammar: the right sides of each nonterminal, and the tokens that a terminal eats, with what is then written
pub record Grammar (C S N A : Type 0) : Type 0 where
  pub prods : N → List (List (Sym N S A))
  pub eats : S → C → Option (List A)

-- what helps the machine choose: a token's kind; the kinds that a terminal eats, that start a nonterminal, that follow it;
-- what is written where a nonterminal is empty; and a bound on the choices before a token is eaten
pub record Guide (C S N A : Type 0) : Type 0 where
  pub kind : C → ℕ
  pub takes : S → ℕ → Bool
  pub starts : N → ℕ → Bool
  pub fol : N → ℕ → Bool
  pub nul : N → Option (List A)
  pub cost : N → ℕ

pub data Answer (A : Type 0) : Type 0 where
  ok : List A → Answer A
  bad : ℕ → Answer A

abbrev pub is_some : {X : Type 0} → Option X → Bool
is_some none = false
is_some (some x) = true

abbrev pub pick : {X : Type 0} → (X → Bool) → List X → Option X
pick p [] = none
pick p (x ∷ l) = cond (p x) (some x) (pick p l)

abbrev pub later : {A : Type 0} → List A → Answer A → Answer A
later o (ok p) = ok (o ++ p)
later o (bad i) = bad (suc i)

abbrev pub wrote : {A : Type 0} → List A → Option (List A) → Option (List A)
wrote a none = none
wrote a (some o) = some (a ++ o)

abbrev pub left_out : {A : Type 0} → Option (List A) → Option (List A) → Option (List A)
left_out none x = none
left_out (some a) x = wrote a x

abbrev pub ended : {A : Type 0} → Option (List A) → Answer A
ended none = bad 0
ended (some o) = ok o

module _ {C S N A : Type 0} (G : Grammar C S N A) where
  -- what a list of symbols derives: the tokens and the output
  pub data L : List (Sym N S A) → List C → List A → Type 0 where
    done : L [] [] []
    emit : {a : A} {k : List (Sym N S A)} {w : List C} {o : List A} → L k w o → L (act a ∷ k) w (a ∷ o)
    eat : {t : S} {c : C} {a : List A} {k : List (Sym N S A)} {w : List C} {o : List A} → G.eats t c ≡ some a → L k w o → L (tm t ∷ k) (c ∷ w) (a ++ o)
    by : {n : N} {r k : List (Sym N S A)} {w : List C} {o : List A} → In r (G.prods n) → L (r ++ k) w o → L (nt n ∷ k) w o

abbrev pub Moved : Type 0 → Type 0 → Type 0 → Type 0
Moved N S A = List A × List (Sym N S A)

abbrev pub emitted : {N S A : Type 0} → List A → Option (Moved N S A) → Option (Moved N S A)
emitted a none = none
emitted a (some p) = some (a ++ p.0, p.1)

abbrev pub eaten : {N S A : Type 0} → Option (List A) → List (Sym N S A) → Option (Moved N S A)
eaten none k = none
eaten (some a) k = some (a, k)

abbrev pub chosen : {N S A : Type 0} → Option (List (Sym N S A)) → (List (Sym N S A) → Option (Moved N S A)) → Option (Moved N S A)
chosen none f = none
chosen (some r) f = f r

abbrev pub next : {N S A : Type 0} → Option (Moved N S A) → (List (Sym N S A) → Answer A) → Answer A
next none f = bad 0
next (some p) f = later p.0 (f p.1)

abbrev pub or_more : {A : Type 0} → Option (List A) → ℕ → ℕ → ℕ
or_more none c v = c
or_more (some a) c v = c + v

module _ {C S N A : Type 0} (G : Grammar C S N A) (U : Guide C S N A) where
  -- the kinds that may come first in what the symbols derive, with F after them
  abbrev pub first : List (Sym N S A) → (ℕ → Bool) → ℕ → Bool
  first [] F i = F i
  first (act a ∷ k) F i = first k F i
  first (tm t ∷ k) F i = U.takes t i
  first (nt n ∷ k) F i = either (U.starts n i) (both (is_some (U.nul n)) (first k F i))

  -- the right side to use where a token of kind i is next
  abbrev pub choose : N → ℕ → Option (List (Sym N S A))
  choose n i = pick (λ r. first r (U.fol n) i) (G.prods n)

  -- a bound on the choices before a token is eaten
  abbrev pub bound : List (Sym N S A) → ℕ
  bound [] = 0
  bound (act a ∷ k) = suc (bound k)
  bound (tm t ∷ k) = 1
  bound (nt n ∷ k) = or_more (U.nul n) (U.cost n) (bound k)

  -- one token: the output written, and the symbols that are left
  abbrev pub step : ℕ → List (Sym N S A) → C → Option (Moved N S A)
  step zero k c = none
  step (suc f) [] c = none
  step (suc f) (act a ∷ k) c = emitted (a ∷ []) (step f k c)
  step (suc f) (tm t ∷ k) c = eaten (G.eats t c) k
  step (suc f) (nt n ∷ k) c = chosen (choose n (U.kind c)) (λ r. step f (r ++ k) c)

  abbrev pub finish : List (Sym N S A) → Option (List A)
  finish [] = some []
  finish (act a ∷ k) = wrote (a ∷ []) (finish k)
  finish (tm t ∷ k) = none
  finish (nt n ∷ k) = left_out (U.nul n) (finish k)

  -- the whole input: the output, or the place of the token that was refused
  abbrev pub parse : List (Sym N S A) → List C → Answer A
  parse k [] = ended (finish k)
  parse k (c ∷ w) = next (step (bound k) k c) (λ k'. parse k' w)
