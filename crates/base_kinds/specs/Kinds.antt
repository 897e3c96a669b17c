-- Tokens, and the number of each kind: document 01, "Bytes: .. Marks" and "Keywords". The one place where kinds are numbered.
--   0        no token: the end of the text
--   1 to 18  the binary operators, loosest first, so that ranges give the binding levels of table 3.2 of source document 002
--   19, 20   `!` and `~`
--   21 to 37 the other marks; 36 and 37 have no use yet
--   38 to 45 the types, so that ranges give the widths that storing keeps
--   46 to 69 the other keywords; 66 to 69 have no use yet
--   70, 71, 72 a name, a number, a string
use Rattle.std.specs.Prelude.{cond, List, [], ◌∷◌, ℕ, ltb}
use Prim.Native.Char.{code}
use Prim.Native.String.{String}

-- the bytes of a text of plain characters
abbrev pub bytes : String → List ℕ
bytes String.[] = []
bytes (String.◌∷◌ c s) = code c ∷ bytes s

-- kinds 1 to 37
abbrev pub marks : List (List ℕ)
marks =
    bytes "||" ∷ bytes "&&" ∷ bytes "|" ∷ bytes "^" ∷ bytes "&" ∷ bytes "==" ∷ bytes "!=" ∷ bytes "<" ∷ bytes "<=" ∷ bytes ">" ∷
    bytes ">=" ∷ bytes "<<" ∷ bytes ">>" ∷ bytes "+" ∷ bytes "-" ∷ bytes "*" ∷ bytes "/" ∷ bytes "%" ∷ bytes "!" ∷ bytes "~" ∷
    bytes "(" ∷ bytes ")" ∷ bytes "[" ∷ bytes "]" ∷ bytes "{" ∷ bytes "}" ∷ bytes "," ∷ bytes ";" ∷ bytes ":" ∷ bytes "::" ∷
    bytes "->" ∷ bytes "=" ∷ bytes "++" ∷ bytes "--" ∷ bytes "?" ∷ bytes "!!" ∷ bytes "??" ∷
    []

-- kinds 38 to 69
abbrev pub keywords : List (List ℕ)
keywords =
    bytes "bit" ∷ bytes "bool" ∷ bytes "byte" ∷ bytes "mtype" ∷ bytes "pid" ∷ bytes "chan" ∷ bytes "short" ∷ bytes "int" ∷ bytes "active" ∷ bytes "assert" ∷
    bytes "break" ∷ bytes "do" ∷ bytes "else" ∷ bytes "eval" ∷ bytes "false" ∷ bytes "fi" ∷ bytes "goto" ∷ bytes "if" ∷ bytes "init" ∷ bytes "len" ∷
    bytes "od" ∷ bytes "of" ∷ bytes "printf" ∷ bytes "proctype" ∷ bytes "run" ∷ bytes "skip" ∷ bytes "timeout" ∷ bytes "true" ∷ bytes "atomic" ∷ bytes "d_step" ∷
    bytes "typedef" ∷ bytes "unless" ∷
    []

abbrev pub name_kind : ℕ
name_kind = 70

abbrev pub number_kind : ℕ
number_kind = 71

abbrev pub string_kind : ℕ
string_kind = 72

-- a token: a mark or keyword by its kind, a name with its spelling, a number with its value, a string with the bytes between its quotes
pub data Token : Type 0 where
  sym : ℕ → Token
  name : List ℕ → Token
  number : ℕ → Token
  text : List ℕ → Token

abbrev pub kind_of : Token → ℕ
kind_of (sym k) = k
kind_of (name w) = name_kind
kind_of (number n) = number_kind
kind_of (text w) = string_kind

-- the level of a binary operator by table 3.2 of 002, 1 the loosest: 1 ||, 2 &&, 3 |, 4 ^, 5 &, 6 == !=, 7 < <= > >=, 8 << >>, 9 + -, 10 * / %; 0 for what is none
abbrev pub level : ℕ → ℕ
level o =
    cond (ltb o 1) 0 (cond (ltb o 2) 1 (cond (ltb o 3) 2 (cond (ltb o 4) 3 (cond (ltb o 5) 4 (cond (ltb o 6) 5
    (cond (ltb o 8) 6 (cond (ltb o 12) 7 (cond (ltb o 14) 8 (cond (ltb o 16) 9 (cond (ltb o 19) 10 0))))))))))
