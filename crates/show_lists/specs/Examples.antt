-- Worked examples: words parted by several blanks and a tab, with blanks around them; words in quotes, with a blank, a quote, a backslash, and nothing in them; a quote inside a word, and a backslash outside quotes; each
-- of the three that are wrong; lines that are no commands, and line ends; the status of a list, and what is told behind it.
use Rattle.std.specs.Prelude.{◌≡◌, refl, true, false, [], ◌∷◌, Some, None}
use Rattle.base_kinds.specs.Kinds.{bytes}
use Rattle.spec_text.specs.Formats.{digits_by}
use Rattle.show_lists.specs.declared.words.Place.TheVariants.{Apart}
use Rattle.show_lists.specs.Words.{words, unended, stray, crowded, split, words_from, is_passed, without_return}
use Rattle.show_statuses.specs.declared.Status.TheVariants.{Fine, Wrong, Error}
use Rattle.show_lists.specs.Tally.{batch_status, each_of, numbers_text, expected_text, tally_text}

parted : (split Apart (bytes "read x.pml") ≡ words (bytes "read" ∷ bytes "x.pml" ∷ [])) × (split Apart (bytes "  run \t x  9 ") ≡ words (bytes "run" ∷ bytes "x" ∷ bytes "9" ∷ [])) × (split Apart [] ≡ words [])
unfolding split
parted = (refl, refl, refl)

quoted : (split Apart (bytes "read \"a b\"") ≡ words (bytes "read" ∷ bytes "a b" ∷ [])) × (split Apart (bytes "\"a\\\"b\\\\\" \"\"") ≡ words (bytes "a\"b\\" ∷ [] ∷ [])) × (split Apart (bytes "a\"b c\\d") ≡ words (bytes "a\"b" ∷ bytes "c\\d" ∷ []))
unfolding split
quoted = (refl, refl, refl)

wrong : (split Apart (bytes "read \"a b") ≡ unended) × (split Apart (bytes "read \"a\\") ≡ unended) × (split Apart (bytes "read \"a\\n\"") ≡ stray) × (split Apart (bytes "read \"a\"b") ≡ crowded) × (split Apart (bytes "read \"a\"\"b\"") ≡ crowded)
unfolding split
wrong = (refl, refl, refl, refl, refl)

-- as the code writes them
written : (words_from Apart (bytes " read  \"a b\"\t") ≡ bytes "read\na b\n") × (words_from Apart (bytes "read \"\" x") ≡ bytes "read\n\nx\n")
unfolding words_from
written = (refl, refl)

passed : (is_passed [] ≡ true) × (is_passed (bytes " \t ") ≡ true) × (is_passed (bytes "# read x") ≡ true) × (is_passed (bytes "  #") ≡ true) × (is_passed (bytes "read # x") ≡ false) × (is_passed (bytes "\"#\"") ≡ false)
unfolding is_passed
passed = (refl, refl, refl, refl, refl, refl)

returns : (without_return (bytes "read x\r") ≡ bytes "read x") × (without_return (bytes "\r") ≡ []) × (without_return (bytes "a\r\r") ≡ bytes "a\r") × (without_return (bytes "a\rb") ≡ bytes "a\rb") × (without_return [] ≡ [])
returns = (refl, refl, refl, refl, refl)

-- no command, whatever is expected; one too many, one too few; an error, something wrong, both, neither
statuses : (batch_status None 0 0 0 ≡ Error) × (batch_status (Some 0) 0 0 0 ≡ Error) × (batch_status (Some 4) 5 0 0 ≡ Error) × (batch_status (Some 6) 5 0 0 ≡ Error) × (batch_status (Some 5) 5 0 0 ≡ Fine) × (batch_status (Some 5) 5 1 0 ≡ Wrong) × (batch_status None 5 0 1 ≡ Error)
    × (batch_status None 5 1 1 ≡ Error) × (batch_status None 5 5 0 ≡ Wrong) × (batch_status None 5 0 0 ≡ Fine)
unfolding batch_status
statuses = (refl, refl, refl, refl, refl, refl, refl, refl, refl, refl)

told : (numbers_text (bytes "wrong:") (3 ∷ 17 ∷ 204 ∷ 0 ∷ []) 3 ≡ bytes "wrong: 3 17 204\n") × (numbers_text (bytes "wrong:") (3 ∷ []) 0 ≡ []) × (expected_text None 0 ≡ bytes "  the list holds no command\n") × (expected_text (Some 3) 0 ≡ bytes "  the list holds no command\n")
    × (expected_text (Some 3) 2 ≡ bytes "  2 commands were worked off, and 3 were expected\n") × (expected_text (Some 2) 2 ≡ []) × (expected_text None 2 ≡ []) × (tally_text 5 1 2 ≡ bytes "5 commands, 1 wrong, 2 errors\n")
unfolding numbers_text each_of expected_text tally_text digits_by
told = (refl, refl, refl, refl, refl, refl, refl, refl)
