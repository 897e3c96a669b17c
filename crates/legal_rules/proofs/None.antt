-- NO FAULT, as a test, over what faults are joined of.
use Prim.Native.Nat.{ℕ, suc, ◌+◌}
use native.Mathlib.Omega.{arith}
use mathlib.Core.Path.{◌≡◌, refl, sym, ap, ap₂, ◌∙◌}
use mathlib.Core.Bool.{Bool, true, false}
use mathlib.Core.List.{List, [], ◌∷◌, ◌++◌}
use lib.ListN.{length}
use lib.Dec.{eqb}
use borrow.Author.Tests.{ne_eqb}
use Rattle.base_bytes.specs.Choice.{pick, both}
use Rattle.base_kinds.specs.Kinds.{Token}
use Rattle.spec_grammar.specs.Grammar.{Listed, one, more, MaybeListed, no_list, a_list, Message, commas, call}
use Rattle.spec_rules.specs.Senses.{Scope}
use Rattle.spec_rules.specs.Statements.{all}
use Rattle.spec_faults.specs.Faults.{Faults, fault_at, unless, in_list, in_maybe, in_message, nothing}

abbrev pub none : Faults → Bool
none [] = true
none (f ∷ l) = false

pub none-append : (a b : Faults) → none (a ++ b) ≡ both (none a) (none b)
none-append [] b = refl
none-append (f ∷ a) b = refl

pub none_at : (x i : ℕ) → none (fault_at x i) ≡ eqb x 0
none_at x i = go (eqb x 0)
  where
    go : (b : Bool) → none (pick b [] (record { number = x; token = i } ∷ [])) ≡ b
    go true = refl
    go false = refl

pub none-unless : (ok : Bool) (x i : ℕ) → none (unless ok (suc x) i) ≡ ok
none-unless true x i = refl
none-unless false x i = none_at (suc x) i ∙ ne_eqb (suc x) 0 (λ e. omega arith)

pub both_end : (a : Bool) → both a true ≡ a
both_end true = refl
both_end false = refl

pub both_assoc : (a b c : Bool) → both (both a b) c ≡ both a (both b c)
both_assoc true b c = refl
both_assoc false b c = refl

pub both_turn : (a b : Bool) → both a b ≡ both b a
both_turn true true = refl
both_turn true false = refl
both_turn false true = refl
both_turn false false = refl

pub two : (a b : Faults) (p q : Bool) → none a ≡ p → none b ≡ q → none (a ++ b) ≡ both p q
two a b p q e f = none-append a b ∙ ap₂ both e f

pub three : (a b c : Faults) (p q r : Bool) → none a ≡ p → none b ≡ q → none c ≡ r → none (a ++ b ++ c) ≡ both p (both q r)
three a b c p q r e f g = none-append (a ++ b) c ∙ ap₂ both (two a b p q e f) g ∙ both_assoc p q r

-- ---- lists
module _ {A : Type 0} (X : List Token → A → Type 0) (f : Scope → (ts : List Token) (a : A) → X ts a → ℕ → Faults) (g : A → Scope) (ok : Scope → A → Bool)
    (e : (scope : Scope) (ts : List Token) (a : A) (x : X ts a) (i : ℕ) → none (f scope ts a x i) ≡ ok scope a) where
  -- each where those before it have declared what they do
  abbrev pub each_ok : Scope → List A → Bool
  each_ok scope [] = true
  each_ok scope (a ∷ l) = both (ok scope a) (each_ok (scope ++ g a) l)

  pub list_ok : {s : Token} {ts : List Token} {l : List A} (scope : Scope) (y : Listed s X ts l) (i : ℕ) → none (in_list X f g scope y i) ≡ each_ok scope l
  unfolding in_list
  list_ok scope (one {ts = ts} {a = a} x) i = e scope ts a x i ∙ sym (both_end (ok scope a))
  list_ok scope (more {ts = ts} {a = a} {l = l} x y) i =
      two (f scope ts a x i) (in_list X f g (scope ++ g a) y (i + length ts + 1)) (ok scope a) (each_ok (scope ++ g a) l) (e scope ts a x i) (list_ok (scope ++ g a) y (i + length ts + 1))

  pub maybe_ok : {s : Token} {ts : List Token} {l : List A} (scope : Scope) (y : MaybeListed s X ts l) (i : ℕ) → none (in_maybe X f g scope y i) ≡ each_ok scope l
  unfolding in_maybe
  maybe_ok scope no_list i = refl
  maybe_ok scope (a_list x) i = list_ok scope x i

  pub message_ok : {ts : List Token} {l : List A} (scope : Scope) (y : Message X ts l) (i : ℕ) → none (in_message X f g scope y i) ≡ each_ok scope l
  unfolding in_message
  message_ok scope (commas x) i = list_ok scope x i
  message_ok scope (call {ts = ts} {a = a} {l = l} x y) i =
      two (f scope ts a x i) (in_list X f g (scope ++ g a) y (i + length ts + 1)) (ok scope a) (each_ok (scope ++ g a) l) (e scope ts a x i) (list_ok (scope ++ g a) y (i + length ts + 1))

-- arguments, which declare nothing
pub each_all : {A : Type 0} (X : List Token → A → Type 0) (f : Scope → (ts : List Token) (a : A) → X ts a → ℕ → Faults) (ok : A → Bool)
    (e : (scope : Scope) (ts : List Token) (a : A) (x : X ts a) (i : ℕ) → none (f scope ts a x i) ≡ ok a) (scope : Scope) (l : List A) → each_ok X f nothing (λ _. ok) e scope l ≡ all ok l
each_all X f ok e scope [] = refl
each_all X f ok e scope (a ∷ l) = ap (both (ok a)) (each_all X f ok e (scope ++ []) l)
