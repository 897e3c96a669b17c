-- Worked examples: bytes on both sides of what is shown as itself; a model that prints an answer, a line in two steps, an empty line; lines that begin like an answer; a refused part at the start of a text, in
-- its second line, behind its end, and one that spans lines.
use Rattle.std.specs.Prelude.{◌≡◌, refl, true, false, List, [], ◌∷◌, ◌++◌}
use Rattle.base_kinds.specs.Kinds.{bytes}
use Rattle.spec_text.specs.Formats.{digits_by}
use Rattle.spec_account.specs.Bytes.{hex_digit, is_visible, visible, each_visible, is_escapable, is_paired_from, is_paired, is_plain, escaped, each_escaped, margin, shown_byte, shown, indented}
use Rattle.spec_account.specs.Quiet.{is_front, quiet, guarded}
use Rattle.spec_account.specs.Answers.{error_line, heading_line, status_line}
use Rattle.spec_account.specs.Steps.{printed_text}
use Rattle.spec_account.specs.Refused.{first_line, last_line, ends, refused_at}

-- a model that prints `open` and a line end
an_answer : shown true (bytes "open\n") ≡ bytes "  open\n"
unfolding shown shown_byte margin escaped is_plain
an_answer = refl

-- `op`, then `en`, each by a step of its own, then an empty line
in_two : (shown true (bytes "op") ≡ bytes "  op") × (shown false (bytes "en\n\n") ≡ bytes "en\n  \n")
unfolding shown shown_byte margin escaped is_plain
in_two = (refl, refl)

-- 31 and 32, the backslash and its neighbours, 126 and 127, 255
escapes : (escaped 31 ≡ bytes "\\x1f") × (escaped 32 ≡ bytes " ") × (escaped 91 ≡ bytes "[") × (escaped 92 ≡ bytes "\\x5c") × (escaped 93 ≡ bytes "]") × (escaped 126 ≡ bytes "~") × (escaped 127 ≡ bytes "\\x7f") × (escaped 255 ≡ bytes "\\xff")
unfolding escaped is_plain hex_digit
escapes = (refl, refl, refl, refl, refl, refl, refl, refl)

-- in a line of a text and in a statement the backslash stands as itself, in a name, a heading and what a step printed by its number
seen : (each_visible (9 ∷ 92 ∷ 126 ∷ 127 ∷ []) ≡ bytes "\\x09\\~\\x7f") × (each_escaped (9 ∷ 92 ∷ 126 ∷ 127 ∷ []) ≡ bytes "\\x09\\x5c~\\x7f")
unfolding each_visible visible is_visible each_escaped escaped is_plain hex_digit
seen = (refl, refl)

-- a name with a backslash and an escape, a heading with a carriage return, a status
lines : (error_line (bytes "error: cannot read ") (bytes "a\\x" ++ 27 ∷ []) ≡ bytes "error: cannot read a\\x5cx\\x1b\n") × (heading_line 17 (bytes "read a" ++ 13 ∷ []) ≡ bytes "== 17 read a\\x0d\n") × (status_line 2 ≡ bytes "status 2\n")
unfolding each_escaped escaped is_plain hex_digit digits_by
lines = (refl, refl, refl)

-- a step that printed a backslash and a line end
printed : (printed_text (bytes "a\\\n") ≡ bytes "\tprinted a\\x5c\\x0a\n") × (printed_text [] ≡ [])
unfolding each_escaped escaped is_plain hex_digit
printed = (refl, refl)

-- `"a\\n\\x"`, where the second backslash is written twice, and with a lone one
pairs : (is_paired (bytes "\"a\\n\\\\x\"") ≡ true) × (is_paired (bytes "\"\\x\"") ≡ false) × (is_paired (bytes "a\\") ≡ false)
unfolding is_paired_from is_escapable
pairs = (refl, refl, refl)

-- a line with one blank, and none, is not indented
margins : (indented true (bytes " a") ≡ false) × (indented true (bytes "  a") ≡ true) × (indented false (bytes "a\na") ≡ false)
unfolding indented
margins = (refl, refl, refl)

-- `accepted` at the start of a line, and inside one; a heading of a batch; a step list's lines, a state's and an explanation's
guards : (guarded true (bytes "accepted finished\n") ≡ bytes "  accepted finished\n") × (guarded true (bytes "\tprinted accepted\n") ≡ bytes "\tprinted accepted\n") × (guarded true (bytes "1\n== x\n") ≡ bytes "1\n  == x\n")
    × (quiet true (bytes "1\t0\t1\tP\t9\tskip\n\tstored x 1\nglobal x 1\nprocess 0 P ended\nlocal y 2\nchannel 1 2 (3)\n  line 1\n") ≡ true) × (quiet true (bytes "1\nrefused 1 1 1\n") ≡ false)
unfolding guarded quiet is_front
guards = (refl, refl, refl, refl, refl)

-- the apostrophe of `init{'a}`, the second line of a text, the end of one, and a part over two lines, of which the first is marked
refusals : (refused_at (bytes "init{'a}") 5 1 ≡ bytes "  line 1 column 6\n  init{'a}\n       ^\n") × (refused_at (bytes "init{\nskip)}") 10 1 ≡ bytes "  line 2 column 5\n  skip)}\n      ^\n")
    × (refused_at (bytes "init{") 5 0 ≡ bytes "  line 1 column 6\n  init{\n       ^\n") × (refused_at (bytes "a\"b\nc") 1 4 ≡ bytes "  line 1 column 2\n  a\"b\n   ^^\n")
unfolding refused_at first_line last_line ends each_visible visible is_visible digits_by
refusals = (refl, refl, refl, refl)
