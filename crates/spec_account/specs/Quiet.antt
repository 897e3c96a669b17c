-- NOTHING SHOWN CAN BE TAKEN FOR AN ANSWER. Answers and headings begin with one of a few words; what is shown before the answer is handed on `guarded`: a line of it that begins with the first byte of one of
-- these words gets two blanks in front. So no line before the last begins like an answer or a heading (`guarded-quiet`, proofs/Quiet.antt), whatever a model or a trail holds.
use Rattle.std.specs.Prelude.{ℕ, Bool, true, false, List, [], ◌∷◌, ◌++◌, get_or, eqb}
use Rattle.base_kinds.specs.Kinds.{bytes}
use Rattle.base_bytes.specs.Choice.{pick, both, either}

-- what answers and the headings of a batch begin with
abbrev pub fronts : List (List ℕ)
fronts = bytes "accepted" ∷ bytes "refused" ∷ bytes "open" ∷ bytes "blocked" ∷ bytes "finished" ∷ bytes "assert" ∷ bytes "fault" ∷ bytes "error" ∷ bytes "== " ∷ []

abbrev pub any_begins : List (List ℕ) → ℕ → Bool
any_begins [] b = false
any_begins (w ∷ ws) b = either (eqb b (get_or w 0 0)) (any_begins ws b)

-- one of them begins with this byte
unfoldable pub is_front : ℕ → Bool
is_front b = any_begins fronts b

-- no line that begins in the list begins so; `fresh` says that one begins where the list does
unfoldable pub quiet : Bool → List ℕ → Bool
quiet fresh [] = true
quiet fresh (b ∷ l) = pick (both fresh (is_front b)) false (quiet (eqb b 10) l)

unfoldable pub guarded : Bool → List ℕ → List ℕ
guarded fresh [] = []
guarded fresh (b ∷ l) = pick (both fresh (is_front b)) (32 ∷ 32 ∷ []) [] ++ b ∷ guarded (eqb b 10) l
