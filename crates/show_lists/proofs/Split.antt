-- THE WORDS THAT THE CODE WRITES ARE THOSE OF THE LINE, and where it stands at the end tells what is wrong with a line that has none (`words_split`).
use Prim.Native.Nat.{ℕ}
use mathlib.Core.Path.{◌≡◌, refl, sym, ap}
use mathlib.Core.Bool.{Bool, true, false, not}
use mathlib.Core.List.{List, [], ◌∷◌, ◌++◌}
use lib.Dec.{eqb}
use Rattle.base_bytes.specs.Choice.{pick, either}
use Rattle.base_bytes.proofs.Tests.{true_false}
use Rattle.show_lists.specs.declared.words.Place.{Place}
use Rattle.show_lists.specs.declared.words.Place.TheVariants.{Apart, Plain, Quoted, Slashed, Closed, Stray, Crowded}
use Rattle.show_lists.specs.Words.{is_blank, is_slashed, Line, words, unended, stray, crowded, ended, longer, split_last, split_next, split, behind, added, added_last, words_from, end_from, joined, Says}

-- a line that begins inside a word has one
abbrev is_some : List (List ℕ) → Bool
is_some [] = false
is_some (w ∷ ws) = true

abbrev Some : Bool → Line → Type 0
Some inside (words ws) = either (not inside) (is_some ws) ≡ true
Some inside unended = Unit {0}
Some inside stray = Unit {0}
Some inside crowded = Unit {0}

abbrev Said : Bool → Line → List ℕ → Place → Type 0
Said inside m out y = Says m out y × Some inside m

longer_said : (b : ℕ) (m : Line) (out : List ℕ) (y : Place) → Said true m out y → Said true (longer b m) (b ∷ out) y
unfolding joined
longer_said b (words []) out y h = absurd (true_false (sym h.1))
longer_said b (words (w ∷ ws)) out y h = ((ap (b ∷◌) h.0.0, h.0.1), refl)
longer_said b unended out y h = h
longer_said b stray out y h = h
longer_said b crowded out y h = h

ended-said : (m : Line) (out : List ℕ) (y : Place) → Said false m out y → Said true (ended m) (10 ∷ out) y
unfolding joined
ended-said (words ws) out y h = ((ap (10 ∷◌) h.0.0, h.0.1), refl)
ended-said unended out y h = h
ended-said stray out y h = h
ended-said crowded out y h = h

outside-said : (m : Line) (out : List ℕ) (y : Place) → Said true m out y → Said false m out y
outside-said (words ws) out y h = (h.0, refl)
outside-said unended out y h = h
outside-said stray out y h = h
outside-said crowded out y h = h

-- all but where a word may begin
abbrev is_inside : Place → Bool
is_inside Apart = false
is_inside Plain = true
is_inside Quoted = true
is_inside Slashed = true
is_inside Closed = true
is_inside Stray = true
is_inside Crowded = true

last-said : (x : Place) → Said (is_inside x) (split_last x) (added_last x) x
unfolding joined
last-said Apart = ((refl, refl), refl)
last-said Plain = ((refl, refl), refl)
last-said Quoted = (refl, tt)
last-said Slashed = (refl, tt)
last-said Closed = ((refl, refl), refl)
last-said Stray = (refl, tt)
last-said Crowded = (refl, tt)

-- behind what is wrong nothing is read
stray_end : (l : List ℕ) → end_from Stray l ≡ Stray
unfolding end_from
stray_end [] = refl
stray_end (b ∷ l) = stray_end l

crowded_end : (l : List ℕ) → end_from Crowded l ≡ Crowded
unfolding end_from
crowded_end [] = refl
crowded_end (b ∷ l) = crowded_end l

module _ (l : List ℕ) (h : (y : Place) → Said (is_inside y) (split y l) (words_from y l) (end_from y l)) (b : ℕ) where
  abbrev next : Place → Line
  next x = split_next (λ y. split y l) b x

  apart-said : (p q : Bool) → Said false (pick p (split Apart l) (pick q (split Quoted l) (longer b (split Plain l)))) (pick (not (either p q)) (b ∷ []) [] ++ words_from (pick p Apart (pick q Quoted Plain)) l) (end_from (pick p Apart (pick q Quoted Plain)) l)
  apart-said true q = h Apart
  apart-said false true = outside-said (split Quoted l) (words_from Quoted l) (end_from Quoted l) (h Quoted)
  apart-said false false = outside-said (longer b (split Plain l)) (b ∷ words_from Plain l) (end_from Plain l) (longer_said b (split Plain l) (words_from Plain l) (end_from Plain l) (h Plain))

  plain_said : (p : Bool) → Said true (pick p (ended (split Apart l)) (longer b (split Plain l))) (pick (not p) (b ∷ []) (pick p (10 ∷ []) []) ++ words_from (pick p Apart Plain) l) (end_from (pick p Apart Plain) l)
  plain_said true = ended-said (split Apart l) (words_from Apart l) (end_from Apart l) (h Apart)
  plain_said false = longer_said b (split Plain l) (words_from Plain l) (end_from Plain l) (h Plain)

  quoted-said : (p q : Bool) → Said true (pick p (split Closed l) (pick q (split Slashed l) (longer b (split Quoted l)))) (pick (not (either p q)) (b ∷ []) [] ++ words_from (pick p Closed (pick q Slashed Quoted)) l) (end_from (pick p Closed (pick q Slashed Quoted)) l)
  quoted-said true q = h Closed
  quoted-said false true = h Slashed
  quoted-said false false = longer_said b (split Quoted l) (words_from Quoted l) (end_from Quoted l) (h Quoted)

  slashed_said : (p : Bool) → Said true (pick p (longer b (split Quoted l)) stray) (pick p (b ∷ []) [] ++ words_from (pick p Quoted Stray) l) (end_from (pick p Quoted Stray) l)
  slashed_said true = longer_said b (split Quoted l) (words_from Quoted l) (end_from Quoted l) (h Quoted)
  slashed_said false = (stray_end l, tt)

  closed_said : (p : Bool) → Said true (pick p (ended (split Apart l)) crowded) (pick p (10 ∷ []) [] ++ words_from (pick p Apart Crowded) l) (end_from (pick p Apart Crowded) l)
  closed_said true = ended-said (split Apart l) (words_from Apart l) (end_from Apart l) (h Apart)
  closed_said false = (crowded_end l, tt)

  next-said : (x : Place) → Said (is_inside x) (next x) (added x b ++ words_from (behind x b) l) (end_from (behind x b) l)
  next-said Apart = apart-said (is_blank b) (eqb b 34)
  next-said Plain = plain_said (is_blank b)
  next-said Quoted = quoted-said (eqb b 34) (eqb b 92)
  next-said Slashed = slashed_said (is_slashed b)
  next-said Closed = closed_said (is_blank b)
  next-said Stray = (stray_end l, tt)
  next-said Crowded = (crowded_end l, tt)

all_said : (l : List ℕ) (x : Place) → Said (is_inside x) (split x l) (words_from x l) (end_from x l)
unfolding split words_from end_from
all_said [] x = last-said x
all_said (b ∷ l) x = next-said l (λ y. all_said l y) b x

pub words_split : (l : List ℕ) → Says (split Apart l) (words_from Apart l) (end_from Apart l)
words_split l = (all_said l Apart).0
