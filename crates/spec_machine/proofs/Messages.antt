-- PUT, FIND, TAKE: what holds of messages at any position. What was put is found there and can be taken out again, the others keep their order; what is found lies among those that were tried,
-- passes, and is the first that does.
use Rattle.std.specs.Prelude.{Result, Ok, Err, ℤ}
use Prim.Native.Nat.{ℕ, zero, suc, ◌+◌, ◌-◌, ◌<◌, ◌≤◌}
use native.Mathlib.Omega.{arith}
use native.Mathlib.Decide.{ℕ_discrete, dec_lt}
use mathlib.Core.Path.{◌≡◌, refl, sym, ap, ap₂, subst, ◌∙◌}
use mathlib.Core.Bool.{Bool, true, false}
use mathlib.Core.List.{List, [], ◌∷◌, ◌++◌}
use lib.ListN.{length, get_or, take, drop, length-append, length-take, length-drop, take-append-drop, get_or-append}
use lib.Seq.{length-take-le, drop-append-add, take-length, drop-length, drop-cons, take_at, drop_at, get_or_at, get_or-append-add, get_or-take, get_or-drop}
use Rattle.base_bytes.specs.Choice.{pick}
use Rattle.base_values.specs.Operators.{is_true}
use Rattle.base_values.specs.declared.Fault.{Fault}
use Rattle.spec_machine.specs.Messages.{put_at, take_at_lem, Finding, found, none, spoilt, find_by, find_from}

module _ {A : Type 0} where
  -- ---- how many there are
  pub put-length : (k : ℕ) (x : A) (l : List A) → length (put_at k x l) ≡ suc (length l)
  put-length k x l = let a = length-append (take k l) (x ∷ drop k l) in let b = length-take k l in let c = length-drop k l in omega arith

  pub take_length_less : (k : ℕ) (l : List A) → k < length l → suc (length (take_at_lem k l)) ≡ length l
  take_length_less k l h = let a = length-append (take k l) (drop (k + 1) l) in let b = length-take k l in let c = length-drop (k + 1) l in omega arith

  -- ---- at the ends
  pub put_last : (x : A) (l : List A) → put_at (length l) x l ≡ l ++ x ∷ []
  put_last x l = ap₂ (λ (a b : List A). a ++ x ∷ b) (take-length l) (drop-length l)

  pub take-first : (l : List A) → take_at_lem 0 l ≡ drop 1 l
  take-first l = refl

  -- ---- one after the other
  front : (k : ℕ) (l : List A) → k ≤ length l → length (take k l) ≡ k
  front k l h = length-take-le k l h

  pub take_put : (k : ℕ) (x : A) (l : List A) → k ≤ length l → take_at_lem k (put_at k x l) ≡ l
  take_put k x l h =
      ap₂ ◌++◌ (take_at (take k l) (x ∷ drop k l) k (front k l h)) behind ∙ take-append-drop k l
    where
      behind : drop (k + 1) (take k l ++ x ∷ drop k l) ≡ drop k l
      behind =
          let n : k + 1 ≡ length (take k l) + 1 = omega (arith, front k l h) in
          ap (λ i. drop i (take k l ++ x ∷ drop k l)) n ∙ drop-append-add (take k l) (x ∷ drop k l) 1

  pub put-take : (k : ℕ) (l : List A) (d : A) → k < length l → put_at k (get_or l k d) (take_at_lem k l) ≡ l
  put-take k l d h =
      ap₂ (λ (a b : List A). a ++ get_or l k d ∷ b) (take_at (take k l) (drop (k + 1) l) k (front k l (omega arith))) (drop_at (take k l) (drop (k + 1) l) k (front k l (omega arith)))
      ∙ ap (λ (b : List A). take k l ++ b) (ap (λ i. get_or l k d ∷ drop i l) (let n : k + 1 ≡ suc k = omega arith in n) ∙ sym (drop-cons l k d h)) ∙ take-append-drop k l

  -- ---- each by its number: those before stay where they are, those behind move by one
  pub put-here : (k : ℕ) (x : A) (l : List A) (d : A) → k ≤ length l → get_or (put_at k x l) k d ≡ x
  put-here k x l d h = get_or_at (take k l) x (drop k l) d k (front k l h)

  before : (k i : ℕ) (l m : List A) (d : A) → k ≤ length l → i < k → get_or (take k l ++ m) i d ≡ get_or l i d
  before k i l m d h g = get_or-append (take k l) m d i (omega (arith, front k l h)) ∙ get_or-take k l i d g

  -- number i of those behind the first k
  behind : (k i j : ℕ) (l m : List A) (d : A) → k ≤ length l → j ≡ k + i → get_or (take k l ++ m) j d ≡ get_or m i d
  behind k i j l m d h e = ap (λ n. get_or (take k l ++ m) n d) (let n : j ≡ length (take k l) + i = omega (arith, front k l h) in n) ∙ get_or-append-add (take k l) m i d

  pub put-before : (k i : ℕ) (x : A) (l : List A) (d : A) → k ≤ length l → i < k → get_or (put_at k x l) i d ≡ get_or l i d
  put-before k i x l d h g = before k i l (x ∷ drop k l) d h g

  pub put-behind : (k i : ℕ) (x : A) (l : List A) (d : A) → k ≤ length l → k ≤ i → get_or (put_at k x l) (i + 1) d ≡ get_or l i d
  put-behind k i x l d h g =
      behind k (suc (i - k)) (i + 1) l (x ∷ drop k l) d h (omega arith) ∙ get_or-drop k l (i - k) d ∙ ap (λ n. get_or l n d) (let n : k + (i - k) ≡ i = omega arith in n)

  pub take-before : (k i : ℕ) (l : List A) (d : A) → k ≤ length l → i < k → get_or (take_at_lem k l) i d ≡ get_or l i d
  take-before k i l d h g = before k i l (drop (k + 1) l) d h g

  pub take_behind : (k i : ℕ) (l : List A) (d : A) → k ≤ length l → k ≤ i → get_or (take_at_lem k l) i d ≡ get_or l (i + 1) d
  take_behind k i l d h g =
      behind k (i - k) i l (drop (k + 1) l) d h (omega arith) ∙ get_or-drop (k + 1) l (i - k) d ∙ ap (λ n. get_or l n d) (let n : k + 1 + (i - k) ≡ i + 1 = omega arith in n)

  -- ---- what holds of each: of all that there were and of what is put, so of all that there are; of all that there were, so of all that are left
  module _ (Q : A → Type 0) (k : ℕ) (l : List A) (d : A) (all : (i : ℕ) → i < length l → Q (get_or l i d)) where
    pub put-each : (x : A) → k ≤ length l → Q x → (i : ℕ) → i < length (put_at k x l) → Q (get_or (put_at k x l) i d)
    put-each x h q i g = go (dec_lt i k) (ℕ_discrete i k)
      where
        go : Dec (i < k) → Dec (i ≡ k) → Q (get_or (put_at k x l) i d)
        go (yes a) b = subst Q (sym (put-before k i x l d h a)) (all i (omega arith))
        go (no a) (yes b) = subst Q (sym (ap (λ n. get_or (put_at k x l) n d) b ∙ put-here k x l d h)) q
        go (no a) (no b) =
            let e = put-length k x l in
            subst Q (sym (ap (λ n. get_or (put_at k x l) n d) (let n : i ≡ i - 1 + 1 = omega arith in n) ∙ put-behind k (i - 1) x l d h (omega arith))) (all (i - 1) (omega arith))

    pub take-each : k < length l → (i : ℕ) → i < length (take_at_lem k l) → Q (get_or (take_at_lem k l) i d)
    take-each h i g = go (dec_lt i k)
      where
        go : Dec (i < k) → Q (get_or (take_at_lem k l) i d)
        go (yes a) = subst Q (sym (take-before k i l d (omega arith) a)) (all i (omega arith))
        go (no a) = let e = take_length_less k l h in subst Q (sym (take_behind k i l d (omega arith) (omega arith))) (all (i + 1) (omega arith))

-- ---- what is found
abbrev number_in : Finding → ℕ
number_in (found k) = k
number_in none = 0
number_in (spoilt f) = 0

abbrev IsFound : Finding → Type 0
IsFound (found k) = Unit {0}
IsFound none = ⊥
IsFound (spoilt f) = ⊥

-- number j is the first of the n from number k on that passes
pub record First (test : ℕ → Result ℤ Fault) (k n j : ℕ) : Type 0 where
  pub from : k ≤ j
  pub below : j < k + n
  pub passes : find_by j (test j) none ≡ found j
  pub others : (i : ℕ) → k ≤ i → i < j → find_by i (test i) none ≡ none

pub found_first : (test : ℕ → Result ℤ Fault) (n k j : ℕ) → find_from test k n ≡ found j → First test k n j
unfolding find_from
found_first test zero k j e = absurd (subst IsFound (sym e) tt)
found_first test (suc n) k j e = go (λ q. found_first test n (k + 1) j q) (test k) refl e
  where
    here : find_by k (test k) none ≡ found k → k ≡ j → First test k (suc n) j
    here p q = record { from = omega arith; below = omega arith; passes = subst (λ i. find_by i (test i) none ≡ found i) q p; others = λ i a b. absurd (omega arith) }

    later : find_by k (test k) none ≡ none → First test (k + 1) n j → First test k (suc n) j
    later p r =
        let a = r.from in
        let b = r.below in
        record { from = omega arith; below = omega arith; passes = r.passes; others = λ i c d. between i c d (ℕ_discrete i k) }
      where
        between : (i : ℕ) → k ≤ i → i < j → Dec (i ≡ k) → find_by i (test i) none ≡ none
        between i c d (yes e) = subst (λ i. find_by i (test i) none ≡ none) (sym e) p
        between i c d (no e) = r.others i (omega arith) d

    go : (find_from test (k + 1) n ≡ found j → First test (k + 1) n j) → (x : Result ℤ Fault) → test k ≡ x → find_by k x (find_from test (k + 1) n) ≡ found j → First test k (suc n) j
    go rest (Ok v) t q = on (is_true v) refl q
      where
        on : (b : Bool) → is_true v ≡ b → pick b (found k) (find_from test (k + 1) n) ≡ found j → First test k (suc n) j
        on true e q = here (rw (t, e)) (ap number_in q)
        on false e q = later (rw (t, e)) (rest q)
    go rest (Err f) t q = absurd (subst IsFound (sym q) tt)

-- the same tests find the same
pub find-same : (test like : ℕ → Result ℤ Fault) (n k : ℕ) → ((i : ℕ) → k ≤ i → i < k + n → test i ≡ like i) → find_from test k n ≡ find_from like k n
unfolding find_from
find-same test like zero k h = refl
find-same test like (suc n) k h = ap₂ (find_by k) (h k (omega arith) (omega arith)) (find-same test like n (k + 1) (λ i a b. h i (omega arith) (omega arith)))
