-- Mechanism, held to the specification by `text-normal` (crate `normal_proof`), and `blanked` by `statement_shown` (crate `agree_texts`), but for `turn_room`, of contracts alone.
-- Items turned into tokens from the back, by the rows of specs/Rules.antt of `write_rows`. Binary operators by their levels (document 01, "Operators follow table 3.2 of 002"):
-- parentheses exactly around what is looser than what is asked for, so a right operand of the same level keeps them.
use Rattle.std.specs.Prelude.{Bool, true, false, List, [], ◌∷◌, ℕ, zero, suc, ◌+◌, ◌-◌, ◌*◌, length, get_or, drop, eqb, ltb}
use Rattle.base_ceilings.specs.Ceilings.{items_most}
use Rattle.base_codes.specs.Codes.{c_end, c_end_closed, c_negate, c_receive, c_run, c_send, c_set_run, c_text}
use Rattle.base_bytes.specs.Choice.{pick, both, either}
use Rattle.base_values.specs.Operators.{level_of}
use Rattle.write_rows.specs.Rules.{rows}

-- room for what the items become, at most eight symbols for each
abbrev pub turn_room : ℕ
turn_room = 8 * items_most + 8

unfoldable pub cell : ℕ → ℕ → ℕ
cell r k = get_or (get_or rows r []) k 0

abbrev pub is_row : ℕ → ℕ → ℕ → Bool
is_row s c r = both (eqb (cell r 0) s) (eqb (cell r 1) c)

-- the row of a symbol at a code, from row r on; there are k more
unfoldable pub row_from : ℕ → ℕ → ℕ → ℕ → ℕ
row_from s c r zero = r
row_from s c r (suc k) = pick (is_row s c r) r (row_from s c (r + 1) k)

-- all levels share the rows of level 1
abbrev pub shared : ℕ → ℕ
shared s = pick (both (ltb 100 s) (ltb s 113)) 101 s

unfoldable pub row_of : ℕ → ℕ → ℕ
row_of s c = row_from (shared s) c 0 (length rows)

-- 99 stands for item i
abbrev pub said : ℕ → ℕ → ℕ
said i v = pick (eqb v 99) (256 + i) v

abbrev pub unless_none : ℕ → List ℕ → List ℕ
unless_none v st = pick (eqb v 0) st (v ∷ st)

-- the first k symbols of a row, on a stack
unfoldable pub laid : ℕ → ℕ → ℕ → List ℕ → List ℕ
laid r i zero st = st
laid r i (suc k) st = laid r i k (unless_none (said i (cell r (2 + k))) st)

-- `)` right operand, operator, left operand `(`: the parentheses only around what is looser
unfoldable pub operated : ℕ → ℕ → List ℕ → List ℕ
operated s o st =
    unless_none (pick (ltb (100 + level_of o) s) 22 0)
    (unless_none (101 + level_of o) (unless_none o (unless_none (100 + level_of o) (unless_none (pick (ltb (100 + level_of o) s) 21 0) st))))

abbrev pub is_binary : ℕ → ℕ → Bool
is_binary s c = both (eqb (shared s) 101) (both (ltb 146 c) (ltb c c_negate))

-- what the symbol s becomes at item i of code c
unfoldable pub turned : ℕ → ℕ → ℕ → List ℕ → List ℕ
turned s c i st = pick (is_binary s c) (operated s (c - 146) st) (laid (row_of s c) i 8 st)

abbrev pub is_token : ℕ → Bool
is_token v = either (ltb v 70) (ltb 255 v)

-- tokens on top of the stack are written, in front of those before
unfoldable pub kept : List ℕ → List ℕ
kept [] = []
kept (v ∷ st) = pick (is_token v) (kept st) (v ∷ st)

unfoldable pub told : {A : Type 0} → (ℕ → A) → List ℕ → List A → List A
told f [] out = out
told f (v ∷ st) out = pick (is_token v) (told f st (f v ∷ out)) out

-- i items are left, of these codes; f is what a token's number stands for
unfoldable pub walk : {A : Type 0} → (ℕ → A) → List ℕ → ℕ → List ℕ → List A → List A
walk f cs zero st out = told f st out
walk f cs (suc i) st out = walk f cs i (turned (get_or (kept st) 0 0) (get_or cs i 0) i (drop 1 (kept st))) (told f st out)

-- all items, where at first the symbol s is asked for, or units
abbrev pub whole_by : {A : Type 0} → ℕ → (ℕ → A) → List ℕ → List A
whole_by s f cs = walk f cs (length cs) (unless_none s []) []

abbrev pub whole : {A : Type 0} → (ℕ → A) → List ℕ → List A
whole f cs = whole_by 143 f cs

-- which `end` closes arguments in parentheses: those of a format, `run` and `v = run`, not those of a send or a receive. The last of these items decides
abbrev pub after : Bool → ℕ → Bool
after b c = pick (either (eqb c c_send) (eqb c c_receive)) false (pick (either (eqb c c_text) (either (eqb c c_run) (eqb c c_set_run))) true b)

abbrev pub marked : Bool → ℕ → ℕ
marked b c = pick (both (eqb c c_end) b) c_end_closed c

unfoldable pub marks : Bool → (ℕ → ℕ) → ℕ → ℕ → List ℕ
marks b f i zero = []
marks b f i (suc k) = marked b (f i) ∷ marks (after b (f i)) f (i + 1) k

-- the first k codes made 0: no row has it, so a symbol goes at each and nothing is written
unfoldable pub blanked : ℕ → List ℕ → List ℕ
blanked zero cs = cs
blanked (suc k) [] = []
blanked (suc k) (c ∷ cs) = 0 ∷ blanked k cs
