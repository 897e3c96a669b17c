-- Mechanism, held to the specification by `demand2` (crate `demands`), but for `size_of`, of a contract alone.
-- What a printf writes: document 01, "Strings", "a backslash must be followed by `n`, `t`, `"` or a backslash", and row 5, "`%` in a format not followed by `d` or `%`".
-- A number is written in signed decimal, whatever its type. `l` holds the values of the arguments.
use Rattle.std.specs.Prelude.{ℕ, zero, suc, ◌+◌, List, [], ◌∷◌, ◌++◌, length, set, replicate, ℤ, pos, negsuc, eqb, ltb, Result, Ok, Err}
use Rattle.base_ceilings.specs.Ceilings.{numbers_most}
use Rattle.base_bytes.specs.Choice.{pick}
use Rattle.spec_text.specs.Formats.{formatted, opened, counted}
use Rattle.table_layout.specs.Access.{code_of, name_length, name_byte}
use Rattle.step_messages.specs.Messages.{gather_end, gather_list}
use Rattle.base_codes.specs.Codes.{c_text}
use Rattle.base_values.specs.declared.Fault.{Fault}

-- ## a pen over bytes, which stops at the end
pub record Pen : Type 0 where
  pub bytes : List ℕ
  pub at : ℕ

abbrev pub pen : List ℕ → ℕ → Pen
pen l i = record { bytes = l; at = i }

abbrev pub put_p : ℕ → Pen → Pen
put_p b w = pen (set w.bytes w.at b) (pick (ltb w.at (length w.bytes)) (w.at + 1) w.at)

unfoldable pub puts : List ℕ → Pen → Pen
puts [] w = w
puts (b ∷ bs) w = puts bs (put_p b w)

-- ## numbers
-- how far a value is from 0
abbrev pub size_of : ℤ → ℕ
size_of (pos n) = n
size_of (negsuc n) = n + 1

-- ## a format, its bytes at i, i + 1, ..
module _ (t : List ℕ) (l : List ℤ) where
  unfoldable pub written_from : ℕ → ℕ → ℕ → ℕ → ℕ → List ℕ
  written_from zero j i was k = []
  written_from (suc n) j i was k = formatted l was (name_byte t j i) k ++ written_from n j (i + 1) (opened was (name_byte t j i)) (counted was (name_byte t j i) k)

  -- the text that the format which is item j writes
  abbrev pub text_of : ℕ → List ℕ
  text_of j = written_from (name_length t j) j 0 0 0

-- the text, unless an argument is at fault: "A failed assertion or fault changes no state and prints nothing"
abbrev pub unless_failed : Result ℕ Fault → List ℕ → List ℕ
unless_failed (Ok e) xs = xs
unless_failed (Err f) xs = []

-- what the step of the statement at place q prints, in the state before it: a printf (72) its text, any other nothing
unfoldable pub printed_at : List ℕ → List ℤ → ℕ → ℕ → List ℕ
printed_at t s p q = pick (eqb (code_of t q) c_text) (unless_failed (gather_end t s p numbers_most (q + 1)) (text_of t (gather_list t s p numbers_most (q + 1) 0 (replicate numbers_most (pos 0))) q)) []
