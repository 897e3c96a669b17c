-- The ceilings: document 01, "Ceilings", in its order. The numbers stand here, and as constants in src/lib.rt, and nowhere else; `ceiling` holds the two together.
use Rattle.std.specs.Prelude.{ℕ, List, [], ◌∷◌}

-- "Text 8,192 bytes"; request One, "the reader takes texts up to 65,536 bytes"
abbrev pub text_most : ℕ
text_most = 65536

-- request One, "one whose normal text exceeds 8,192 is refused with 6"
abbrev pub normal_most : ℕ
normal_most = 8192

-- the items of a tree: at most four for each token
abbrev pub items_most : ℕ
items_most = 8192

-- "tokens 2,048"
abbrev pub tokens_most : ℕ
tokens_most = 2048

-- "word 32 bytes"
abbrev pub word_most : ℕ
word_most = 32

-- "string 64 bytes between quotes"
abbrev pub string_most : ℕ
string_most = 64

-- "number 2,147,483,647"
abbrev pub number_most : ℕ
number_most = 2147483647

-- "open brackets 32"
abbrev pub brackets_most : ℕ
brackets_most = 32

-- "open if/do 8"
abbrev pub selections_most : ℕ
selections_most = 8

-- "expression height 32 (operand 1; operator, index, `len` 1 above its highest part)"
abbrev pub height_most : ℕ
height_most = 32

-- "Statements 512"
abbrev pub statements_most : ℕ
statements_most = 512

-- "mtype names 64"
abbrev pub mtypes_most : ℕ
mtypes_most = 64

-- "proctypes 16"
abbrev pub proctypes_most : ℕ
proctypes_most = 16

-- "global numbers 64"
abbrev pub globals_most : ℕ
globals_most = 64

-- "numbers per process 32"
abbrev pub numbers_most : ℕ
numbers_most = 32

-- "array 1 to 32"
abbrev pub array_least : ℕ
array_least = 1

abbrev pub array_most : ℕ
array_most = 32

-- "message fields 1 to 4"; the arguments of a message are as many
abbrev pub fields_least : ℕ
fields_least = 1

abbrev pub fields_most : ℕ
fields_most = 4

-- "capacity 1 to 8"
abbrev pub capacity_least : ℕ
capacity_least = 1

abbrev pub capacity_most : ℕ
capacity_most = 8

-- "printf arguments 4"
abbrev pub printed_most : ℕ
printed_most = 4

-- "processes 16"
abbrev pub processes_most : ℕ
processes_most = 16

-- "channels made 16"
abbrev pub channels_most : ℕ
channels_most = 16

-- "Trail 32,768 bytes"
abbrev pub trail_most : ℕ
trail_most = 32768

-- "and 2,048 steps"
abbrev pub steps_most : ℕ
steps_most = 2048

-- "Room: tables are lent as 16,384 unsigned 32-bit numbers"
abbrev pub tables_room : ℕ
tables_room = 16384

-- "a state as 2,048 signed ones"
abbrev pub state_room : ℕ
state_room = 2048

-- "printed text of one step as 128 bytes"
abbrev pub print_room : ℕ
print_room = 128

-- ## all of them, in this order
abbrev pub ceilings : List ℕ
ceilings = text_most ∷ normal_most ∷ items_most ∷ tokens_most ∷ word_most ∷ string_most ∷ number_most ∷ brackets_most ∷ selections_most ∷ height_most ∷ statements_most ∷ mtypes_most ∷ proctypes_most ∷ globals_most ∷ numbers_most ∷ array_least ∷ array_most ∷ fields_least ∷ fields_most ∷ capacity_least ∷ capacity_most ∷ printed_most ∷ processes_most ∷ channels_most ∷ trail_most ∷ steps_most ∷ tables_room ∷ state_room ∷ print_room ∷ []
