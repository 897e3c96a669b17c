-- Laws of pens that write lines of steps: one pen behind the other, and one offered step more of a list.
use Prim.Native.Nat.{ℕ, zero, suc, ◌+◌, ◌≤◌, ◌<◌}
use mathlib.Core.Path.{◌≡◌, refl, sym, ap, ap₂, ◌∙◌}
use mathlib.Core.Bool.{Bool, true, false}
use mathlib.Core.List.{List, [], ◌∷◌, ◌++◌, append_assoc}
use native.Mathlib.Omega.{arith}
use native.Mathlib.Numerals.{add-one}
use lib.ListN.{length, set, take, drop, replicate, length-take, length-append, length-replicate, drop_of_length-le}
use lib.Seq.{take_all, take-suc, take-suc-set}
use lib.IntN.{ℤ, pos}
use lib.Dec.{eqb}
use borrow.Author.Tests.{eq-eqb, ne_eqb}
use Rattle.base_ceilings.specs.Ceilings.{state_room}
use Rattle.base_kinds.specs.Kinds.{bytes}
use Rattle.base_pens.specs.Pen.{Pen, puts}
use Rattle.base_pens.proofs.Pen.{puts-append, then_puts}
use Rattle.spec_account.specs.Bytes.{each_escaped}
use Rattle.spec_account.specs.Steps.{printed_text}
use Rattle.spec_machine.specs.Machine.{Step}
use Rattle.step_all.specs.declared.Offer.TheVariants as offer
use Rattle.step_all.specs.Moving.{nth_in}
use Rattle.base_codes.specs.Codes.{c_end_body}
use Rattle.spec_text.specs.Formats.{digits_of}
use Rattle.table_layout.specs.Access.{code_of}
use Rattle.show_statement.specs.Statements.{seen_in}
use Rattle.base_outcome.specs.declared.Taken.{Taken}
use Rattle.state_layout.specs.Layout.{cell_of}
use Rattle.show_steps.specs.Steps.{padded, row_in, step_in, outcome_in, printed_in, taken_in, other_in, others_in, any_of, none_by, standing_in}

-- pens with what is written regrouped
pub puts-same : (a b : List ℕ) (w x : Pen) → x ≡ puts a w → a ≡ b → x ≡ puts b w
puts-same a b w x e f = e ∙ ap (λ l. puts l w) f

pub regroup : (a b c : List ℕ) → (a ++ b) ++ c ≡ a ++ (b ++ c)
regroup a b c = append_assoc a b c

-- what was printed
pub printed-none : (l : List ℕ) (w : Pen) → length l ≡ 0 → w ≡ puts (printed_text l) w
unfolding puts
printed-none [] w h = refl
printed-none (b ∷ l) w h = absurd (omega arith)

pub printed-some : (l : List ℕ) (w x : Pen) → (length l ≡ 0 → ⊥) → x ≡ puts (bytes "\tprinted " ++ (each_escaped l ++ 10 ∷ [])) w → x ≡ puts (printed_text l) w
printed-some [] w x h e = absurd (h refl)
printed-some (b ∷ l) w x h e = e

-- ---- one offered step more
there : (n : ℕ) (l : List Step) (x : Step) (m : ℕ) → n < m → offer.Step x ≡ nth_in n l → drop n (take m l) ≡ x ∷ drop (suc n) (take m l)
unfolding nth_in
there n [] x m h e = absurd (let z : ◌≡◌ {A = ℕ} 0 1 = cc in omega arith)
there zero (y ∷ l) x zero h e = absurd (omega arith)
there zero (y ∷ l) x (suc m) h e = let z : y ≡ x = cc in ap (λ z. z ∷ take m l) z
there (suc n) (y ∷ l) x zero h e = absurd (omega arith)
there (suc n) (y ∷ l) x (suc m) h e = there n l x m (omega arith) e

beyond : (n : ℕ) (l : List Step) (k : ℕ) → offer.Beyond k ≡ nth_in n l → length l ≤ n
unfolding nth_in
beyond n [] k e = omega arith
beyond zero (y ∷ l) k e = absurd (let z : ◌≡◌ {A = ℕ} 0 1 = cc in omega arith)
beyond (suc n) (y ∷ l) k e = let z = beyond n l k e in omega arith

module _ (n : ℕ) (l : List Step) (m : ℕ) where
  pub listed_there : (x : Step) → n < m → offer.Step x ≡ nth_in n l → drop n (take m l) ≡ x ∷ drop (n + 1) (take m l)
  listed_there x h e = there n l x m h e ∙ ap (λ k. x ∷ drop k (take m l)) (sym (add-one n))

  pub listed_beyond : (k : ℕ) → offer.Beyond k ≡ nth_in n l → drop n (take m l) ≡ []
  listed_beyond k e = drop_of_length-le (take m l) {i = n} (omega (arith, length-take m l, beyond n l k e))

  pub listed_end : m ≤ n → drop n (take m l) ≡ []
  listed_end h = drop_of_length-le (take m l) {i = n} (omega (arith, length-take m l))

module _ (t : List ℕ) (p : ℕ) (d e : List Step) (w : Pen) where
  pub others-more : (x : Step) (y : Pen) → d ≡ x ∷ e → y ≡ puts (other_in t p x) w → puts (others_in t p e) y ≡ puts (others_in t p d) w
  unfolding others_in
  others-more x y h g = sym (ap (λ z. puts (others_in t p z) w) h ∙ puts-append (other_in t p x) (others_in t p e) w ∙ ap (puts (others_in t p e)) (sym g))

  pub others_end : d ≡ [] → puts (others_in t p d) w ≡ w
  unfolding others_in puts
  others_end h = rw h refl

module _ (p : ℕ) (d e : List Step) where
  pub any_there : (x : Step) → d ≡ x ∷ e → eqb x.process p ≡ true → any_of p d ≡ true
  unfolding any_of
  any_there x h g = rw (h, g) refl

  pub any-more : (x : Step) → d ≡ x ∷ e → eqb x.process p ≡ false → any_of p e ≡ any_of p d
  unfolding any_of
  any-more x h g = sym (rw (h, g) refl)

  pub any_end : d ≡ [] → any_of p d ≡ false
  unfolding any_of
  any_end h = rw h refl

-- ---- fields parted by tabs
pub offer-put : (a b : ℕ) (title : List ℕ) (last : List ℕ) (w x y z v : Pen) → x ≡ puts (digits_of a ++ 9 ∷ []) w → y ≡ puts (digits_of b ++ 9 ∷ []) x → z ≡ puts title y → v ≡ puts (9 ∷ last) z
    → v ≡ puts (digits_of a ++ (9 ∷ (digits_of b ++ (9 ∷ (title ++ 9 ∷ last))))) w
offer-put a b title last w x y z v e f g h =
    puts-same _ _ w v (then_puts (digits_of a ++ 9 ∷ []) _ w x v e (then_puts (digits_of b ++ 9 ∷ []) _ x y v f (then_puts title (9 ∷ last) y z v g h)))
    (regroup (digits_of a) (9 ∷ []) _ ∙ ap (λ l. digits_of a ++ 9 ∷ l) (regroup (digits_of b) (9 ∷ []) _))

pub row_put : (i p k : ℕ) (w x y z : Pen) → x ≡ puts (digits_of i ++ 9 ∷ []) w → y ≡ puts (digits_of p ++ 9 ∷ []) x → z ≡ puts (digits_of k ++ 9 ∷ []) y → z ≡ puts (row_in i p k) w
row_put i p k w x y z e f g =
    puts-same _ _ w z (then_puts (digits_of i ++ 9 ∷ []) _ w x z e (then_puts (digits_of p ++ 9 ∷ []) _ x y z f g))
    (regroup (digits_of i) (9 ∷ []) _ ∙ ap (λ l. digits_of i ++ 9 ∷ l) (regroup (digits_of p) (9 ∷ []) _))

pub count-put : (n m : ℕ) (w x : Pen) → n ≡ m → x ≡ puts (digits_of n) w → x ≡ puts (digits_of m) w
count-put n m w x e f = f ∙ ap (λ k. puts (digits_of k) w) e

pub none_by_lem : (a b : Bool) (w x : Pen) → a ≡ b → x ≡ puts (none_by a) w → x ≡ puts (none_by b) w
none_by_lem a b w x e f = f ∙ ap (λ c. puts (none_by c) w) e

-- ---- where a process stands
module _ (t : List ℕ) (q c : ℕ) (w x : Pen) (e : c ≡ code_of t q) where
  pub ended-put : c ≡ c_end_body → x ≡ puts (bytes " ended") w → x ≡ puts (standing_in t q) w
  ended-put h g = rw (← e, eq-eqb c c_end_body h) g

  pub at_put : (c ≡ c_end_body → ⊥) → x ≡ puts (bytes " at " ++ seen_in t q) w → x ≡ puts (standing_in t q) w
  at_put h g = rw (← e, ne_eqb c c_end_body h) g

pub standing-put : (t : List ℕ) (q r : ℕ) (w x : Pen) → q ≡ r → x ≡ puts (standing_in t q) w → x ≡ puts (standing_in t r) w
standing-put t q r w x e f = f ∙ ap (λ k. puts (standing_in t k) w) e

-- ---- the numbers before a step, kept
pub kept_more : (s b : List ℤ) (i : ℕ) (v : ℤ) → i < length s → i < length b → v ≡ cell_of s i → take i b ≡ take i s → take (i + 1) (set b i v) ≡ take (i + 1) s
kept_more s b i v h k e g =
    ap (λ n. take n (set b i v)) (add-one i) ∙ take-suc-set b i v k ∙ ap₂ (λ l w. l ++ w ∷ []) g e ∙ sym (take-suc s i (pos 0) h) ∙ ap (λ n. take n s) (sym (add-one i))

pub kept-all : (s b : List ℤ) (n i : ℕ) → n ≤ i → length b ≡ n → i ≤ n → take i b ≡ take i s → b ≡ take n s
kept-all s b n i h k l e = let q : i ≡ n = omega arith in sym (take_all n b (omega (arith, k))) ∙ ap (λ j. take j b) (sym q) ∙ e ∙ ap (λ j. take j s) q

zeros : (n i : ℕ) → cell_of (replicate n (pos 0)) i ≡ pos 0
zeros zero i = refl
zeros (suc n) zero = refl
zeros (suc n) (suc i) = zeros n i

pub padded-cell : (s : List ℤ) (n i : ℕ) → cell_of (s ++ replicate n (pos 0)) i ≡ cell_of s i
padded-cell [] n i = zeros n i
padded-cell (x ∷ s) n zero = refl
padded-cell (x ∷ s) n (suc i) = padded-cell s n i

pub padded_long : (s : List ℤ) (n i : ℕ) → i < n → i < length (s ++ replicate n (pos 0))
padded_long s n i h = omega (arith, length-append s (replicate n (pos 0)), length-replicate {A = ℤ} n (pos 0))

-- ---- a step taken and told
pub taken-put : (t : List ℕ) (s kept after : List ℤ) (whole i : ℕ) (x : Step) (r : Taken) (printed : List ℕ) (w a b : Pen) → kept ≡ padded state_room s → printed ≡ printed_in t s x → a ≡ puts (step_in t s whole i x) w → b ≡ puts (outcome_in t kept after x printed r) a
    → b ≡ puts (taken_in t s after whole i x r) w
taken-put t s kept after whole i x r printed w a b e f g h = then_puts (step_in t s whole i x) (outcome_in t (padded state_room s) after x (printed_in t s x) r) w a b g (h ∙ ap₂ (λ k l. puts (outcome_in t k after x l r) a) e f)
