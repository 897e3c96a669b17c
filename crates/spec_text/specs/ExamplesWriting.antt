-- Written tokens: where a space stands and where none does.
use Rattle.std.specs.Prelude.{◌≡◌, refl, List, [], ◌∷◌, ℕ}
use Rattle.base_bytes.specs.Lists.{same}
use Rattle.spec_text.specs.Find.{find}
use Rattle.base_kinds.specs.Kinds.{bytes, Token, sym, name, number, text}
use Rattle.spec_text.specs.Writing.{write_behind, write}
use Rattle.spec_text.specs.Formats.{digits_by}

-- `init{if::1fi}`: a number and a word need no space
number_word : write (sym 56 ∷ sym 25 ∷ sym 55 ∷ sym 30 ∷ number 1 ∷ sym 53 ∷ sym 26 ∷ []) ≡ bytes "init{if::1fi}"
unfolding write_behind digits_by find same
number_word = refl

-- `int a;a- -a`, `! !a`, `a/ *`
needed : write (sym 45 ∷ name (bytes "a") ∷ sym 28 ∷ name (bytes "a") ∷ sym 15 ∷ sym 15 ∷ name (bytes "a") ∷ sym 28 ∷ sym 19 ∷ sym 19 ∷ name (bytes "a") ∷ []) ≡ bytes "int a;a- -a;! !a"
unfolding write_behind digits_by find same
needed = refl

marks-apart : write (sym 17 ∷ sym 16 ∷ sym 29 ∷ sym 30 ∷ sym 19 ∷ sym 6 ∷ sym 15 ∷ sym 10 ∷ sym 10 ∷ sym 32 ∷ []) ≡ bytes "/ *: ::! ==- > > ="
unfolding write_behind digits_by find same
marks-apart = refl

number-number : write (number 1932053504 ∷ number 0 ∷ name (bytes "x") ∷ number 10 ∷ text (bytes "O'Neill\\n") ∷ text [] ∷ sym 45 ∷ []) ≡ bytes "1932053504 0x 10\"O'Neill\\n\"\"\"int"
unfolding write_behind digits_by find same
number-number = refl
