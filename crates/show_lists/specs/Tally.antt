-- Program: held by stored output and by `tests/program` beyond what its contracts say.
-- WHAT A LIST COUNTS of its commands, by the status of each, what is told behind the last one, and THE STATUS OF A LIST: an error where it holds no command, another number than was expected, or an error; else wrong where something is
-- wrong; else fine.
use Rattle.std.specs.Prelude.{ℕ, zero, suc, ◌+◌, ◌-◌, min, Bool, true, List, [], ◌∷◌, ◌++◌, get_or, set, eqb, ltb, Option, Some, None}
use Rattle.base_bytes.specs.Choice.{pick}
use Rattle.base_kinds.specs.Kinds.{bytes}
use Rattle.spec_text.specs.Formats.{digits_of}
use Rattle.show_statuses.specs.declared.Status.{Status}
use Rattle.show_statuses.specs.declared.Status.TheVariants.{Fine, Wrong, Error}
use Rattle.show_statuses.specs.Statuses.{number}

abbrev pub digits : ℕ → List ℕ
digits n = digits_of n

-- ## counting
-- one more, unless there are as many as can be counted
unfoldable pub more : ℕ → ℕ
more n = pick (ltb n 4294967295) (n + 1) n

-- one more of those that end with status x
unfoldable pub more_if : Status → Status → ℕ → ℕ
more_if x status n = pick (eqb (number status) (number x)) (more n) n

-- the number of a command is kept behind n others
abbrev pub kept_if : Status → Status → ℕ → List ℕ → ℕ → List ℕ
kept_if x status k kept n = pick (eqb (number status) (number x)) (set kept n k) kept

-- ## the status
-- any number of commands is as it should be where none is expected
abbrev pub is_expected : Option ℕ → ℕ → Bool
is_expected None n = true
is_expected (Some k) n = eqb n k

unfoldable pub batch_status : Option ℕ → ℕ → ℕ → ℕ → Status
batch_status x commands wrong errors = pick (eqb commands 0) Error (pick (is_expected x commands) (pick (ltb 0 errors) Error (pick (ltb 0 wrong) Wrong Fine)) Error)

-- ## what is told
-- so many numbers are told
abbrev pub kept_most : ℕ
kept_most = 16384

-- n of them from number k on, each behind a blank
unfoldable pub each_of : List ℕ → ℕ → ℕ → List ℕ
each_of kept k zero = []
each_of kept k (suc n) = 32 ∷ (digits_of (get_or kept k 0) ++ each_of kept (k + 1) n)

abbrev pub further_text : ℕ → List ℕ
further_text n = pick (eqb n 0) [] (bytes " and " ++ (digits_of n ++ bytes " more"))

-- the numbers of the commands of one kind, of which there are n
unfoldable pub numbers_text : List ℕ → List ℕ → ℕ → List ℕ
numbers_text word kept n = pick (eqb n 0) [] (word ++ (each_of kept 0 (min n kept_most) ++ (further_text (n - min n kept_most) ++ 10 ∷ [])))

abbrev pub other_text : ℕ → ℕ → List ℕ
other_text n k = pick (eqb n k) [] (bytes "  " ++ (digits_of n ++ (bytes " commands were worked off, and " ++ (digits_of k ++ bytes " were expected\n"))))

abbrev pub expected_by : Option ℕ → ℕ → List ℕ
expected_by None n = []
expected_by (Some k) n = other_text n k

-- what is wrong with the number of commands
unfoldable pub expected_text : Option ℕ → ℕ → List ℕ
expected_text x n = pick (eqb n 0) (bytes "  the list holds no command\n") (expected_by x n)

unfoldable pub tally_text : ℕ → ℕ → ℕ → List ℕ
tally_text commands wrong errors = digits_of commands ++ (bytes " commands, " ++ (digits_of wrong ++ (bytes " wrong, " ++ (digits_of errors ++ bytes " errors\n"))))
