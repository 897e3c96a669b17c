-- THE TEXT OF SOUND TOKENS IS PAIRED: strings alone have backslashes, and the rule of strings lets each stand before `n`, `t`, a quote or a backslash.
use Prim.Native.Nat.{ℕ, suc, ◌+◌, ◌<◌}
use native.Mathlib.Omega.{arith}
use mathlib.Core.Path.{◌≡◌, refl, sym, ap, ◌∙◌}
use mathlib.Core.Bool.{Bool, true, false}
use mathlib.Core.Logic.{⊎_elim}
use mathlib.Core.List.{List, [], ◌∷◌, ◌++◌, append_assoc, append-nil}
use borrow.Author.Tests.{eqb-true, leb-true}
use lib.Dec.{eqb, leb}
use Rattle.base_bytes.specs.Choice.{pick, both, either}
use Rattle.base_bytes.specs.Lists.{same}
use Rattle.base_bytes.proofs.Tests.{true_false, both_true, both_hold, either_true, right-holds}
use Rattle.base_bytes.proofs.Lists.{same_eq}
use Rattle.base_kinds.specs.Kinds.{Token, marks}
use Rattle.spec_text.specs.Bytes.{within, is_letter, is_digit, is_word, is_plain, is_escape, quote, backslash}
use Rattle.spec_text.specs.Find.{find}
use Rattle.spec_text.specs.Spelled.{all, Between, empty, plain, escape, Spelled, word, digits, string, mark}
use Rattle.spec_text.specs.Writing.{apart, write_behind, write}
use Rattle.text_spacing_proof.specs.Sound.{AllSound}
use Rattle.text_spacing_proof.proofs.Tokens.{sound-spelled}
use Rattle.spec_account.specs.Bytes.{is_escapable, is_paired_from, is_paired}
use Rattle.spec_account.proofs.Bytes.{Bytes}

-- ---- bytes whose backslashes are paired, so that what follows them is read as if it stood alone
pub record Fair (x : List ℕ) : Type 0 where
  pub below : Bytes x
  pub passed : (s : List ℕ) → is_paired (x ++ s) ≡ is_paired s

pub fair_paired : {x : List ℕ} → Fair x → is_paired x ≡ true
unfolding is_paired_from
fair_paired {x} f = ap is_paired (sym (append-nil x)) ∙ f.passed []

nothing : Fair []
nothing = record { below = tt; passed = λ s. refl }

below_both : (x y : List ℕ) → Bytes x → Bytes y → Bytes (x ++ y)
below_both [] y h k = k
below_both (b ∷ x) y h k = (h.0, below_both x y h.1 k)

beside : {x y : List ℕ} → Fair x → Fair y → Fair (x ++ y)
beside {x} {y} f g = record { below = below_both x y f.below g.below; passed = λ s. ap is_paired (append_assoc x y s) ∙ f.passed (y ++ s) ∙ g.passed s }

one : (b : ℕ) → b < 256 → eqb b backslash ≡ false → Fair (b ∷ [])
unfolding is_paired_from
one b h e = record { below = (h, tt); passed = λ s. ap (λ (p : Bool). is_paired_from p s) e }

-- ---- bytes of a class that has no backslash
not-backslash : (p : ℕ → Bool) (b : ℕ) → p backslash ≡ false → p b ≡ true → eqb b backslash ≡ false
not-backslash p b e h = go (eqb b backslash) refl
  where
    go : (x : Bool) → eqb b backslash ≡ x → x ≡ false
    go true q = absurd (true_false (sym h ∙ ap p (eqb-true b backslash q) ∙ e))
    go false q = refl

each-fair : (p : ℕ → Bool) → p backslash ≡ false → ((b : ℕ) → p b ≡ true → b < 256) → (x : List ℕ) → all p x ≡ true → Fair x
unfolding all
each-fair p e h [] a = nothing
each-fair p e h (b ∷ x) a = let q = both_true (p b) (all p x) a in beside (one b (h b q.0) (not-backslash p b e q.0)) (each-fair p e h x q.1)

within-below : (lo hi b : ℕ) → hi < 256 → within lo hi b ≡ true → b < 256
within-below lo hi b h e = omega (arith, leb-true b hi (both_true (leb lo b) (leb b hi) e).1)

digit-below : (b : ℕ) → is_digit b ≡ true → b < 256
digit-below b = within-below 48 57 b (omega arith)

letter_below : (b : ℕ) → is_letter b ≡ true → b < 256
letter_below b e =
    ⊎_elim (within-below 65 90 b (omega arith)) (λ h. ⊎_elim (within-below 97 122 b (omega arith)) (λ i. omega (arith, eqb-true b 95 i)) (either_true (within 97 122 b) (eqb b 95) h))
    (either_true (within 65 90 b) (either (within 97 122 b) (eqb b 95)) e)

word_below : (b : ℕ) → is_word b ≡ true → b < 256
word_below b e = ⊎_elim (digit-below b) (letter_below b) (either_true (is_digit b) (is_letter b) e)

plain_below : (b : ℕ) → is_plain b ≡ true → b < 256
plain_below b e = ⊎_elim (within-below 32 126 b (omega arith)) (within-below 128 255 b (omega arith)) (either_true (within 32 126 b) (within 128 255 b) e)

-- ---- marks: none of the table has a backslash
abbrev clear : ℕ → Bool
clear b = pick (eqb b backslash) false (leb b 126)

clear-below : (b : ℕ) → clear b ≡ true → b < 256
clear-below b = go (eqb b backslash)
  where
    go : (p : Bool) → pick p false (leb b 126) ≡ true → b < 256
    go true e = absurd (true_false (sym e))
    go false e = omega (arith, leb-true b 126 e)

abbrev clears : List (List ℕ) → Bool
clears [] = true
clears (x ∷ l) = both (all clear x) (clears l)

found_clear : (x : List ℕ) (l : List (List ℕ)) (i k : ℕ) → clears l ≡ true → find x l i ≡ suc k → all clear x ≡ true
unfolding find
found_clear x [] i k h e = absurd (omega (arith, e))
found_clear x (y ∷ l) i k h e = let q = both_true (all clear y) (clears l) h in go (same x y) refl q.0 (found_clear x l (i + 1) k q.1) e
  where
    go : (p : Bool) → same x y ≡ p → all clear y ≡ true → (find x l (i + 1) ≡ suc k → all clear x ≡ true) → pick p i (find x l (i + 1)) ≡ suc k → all clear x ≡ true
    go true s c f g = ap (all clear) (same_eq x y s) ∙ c
    go false s c f g = f g

marks-clear : clears marks ≡ true
unfolding all
marks-clear = refl

-- ---- strings
escapable : (b : ℕ) → is_escape b ≡ true → (b < 256) × (is_escapable b ≡ true)
unfolding is_escapable
escapable b h = go (eqb b 110) (eqb b 116) (eqb b 34) (eqb b 92) refl refl refl refl h
  where
    go : (p q r s : Bool) → eqb b 110 ≡ p → eqb b 116 ≡ q → eqb b 34 ≡ r → eqb b 92 ≡ s → either p (either q (either r s)) ≡ true → (b < 256) × (either (either p q) (either r s) ≡ true)
    go true q r s e f g i z = (omega (arith, eqb-true b 110 e), refl)
    go false true r s e f g i z = (omega (arith, eqb-true b 116 f), refl)
    go false false true s e f g i z = (omega (arith, eqb-true b 34 g), refl)
    go false false false true e f g i z = (omega (arith, eqb-true b 92 i), refl)
    go false false false false e f g i z = absurd (true_false (sym z))

escape_fair : (b : ℕ) → is_escape b ≡ true → Fair (backslash ∷ b ∷ [])
unfolding is_paired_from
escape_fair b h = let e = escapable b h in record { below = (omega arith, (e.0, tt)); passed = λ s. ap (λ (p : Bool). both p (is_paired s)) e.1 }

between_fair : {s : List ℕ} → Between s → Fair s
between_fair empty = nothing
between_fair (plain {b = b} p q r z) = beside (one b (plain_below b p) r) (between_fair z)
between_fair (escape {b = b} p z) = beside (escape_fair b p) (between_fair z)

quote-fair : Fair (quote ∷ [])
quote-fair = one quote (omega arith) refl

-- ---- tokens
spelled-fair : {k : ℕ} {x : List ℕ} → Spelled k x → Fair x
unfolding all
spelled-fair (word {b = b} {s = s} p q h) = each-fair is_word refl word_below (b ∷ s) (both_hold (is_word b) (all is_word s) (right-holds (is_digit b) (is_letter b) p) q)
spelled-fair (digits {b = b} {s = s} p q h) = each-fair is_digit refl digit-below (b ∷ s) (both_hold (is_digit b) (all is_digit s) p q)
spelled-fair (string z h) = beside quote-fair (beside (between_fair z) quote-fair)
spelled-fair (mark {k = k} {x = x} f) = each-fair clear refl clear-below x (found_clear x marks 1 k marks-clear f)

space_fair : (p : Bool) → Fair (pick p (32 ∷ []) [])
space_fair true = one 32 (omega arith) refl
space_fair false = nothing

behind-fair : (a : Token) (ts : List Token) → AllSound ts → Fair (write_behind a ts)
unfolding write_behind
behind-fair a [] h = nothing
behind-fair a (b ∷ ts) h = beside (space_fair (apart a b)) (beside (spelled-fair (sound-spelled b h.0)) (behind-fair b ts h.1))

pub write-fair : (ts : List Token) → AllSound ts → Fair (write ts)
write-fair [] h = nothing
write-fair (a ∷ ts) h = beside (spelled-fair (sound-spelled a h.0)) (behind-fair a ts h.1)
