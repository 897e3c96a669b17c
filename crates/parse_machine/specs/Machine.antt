-- Mechanism, held to the specification by `items-mean`, `accepts` (crate `parse_machine`).
-- The parsing machine: a stack of symbols (specs/Numbering.antt of `parse_tables`), top first, a place in the list of kinds, and the items written so far.
-- Document 01, "first token that can continue no text of the grammar", is the place where it refuses (proofs/Same.antt, proofs/Main.antt).
-- A number on the stack is a symbol, with the place and the count of items at which its right side was begun. An item is a symbol, with the place of its token
-- and the count of items written since then.
use Rattle.std.specs.Prelude.{ℕ, zero, suc, ◌+◌, ◌-◌, ◌*◌, ◌/◌, ◌%◌, min, List, [], ◌∷◌, ◌++◌, length, get_or, ltb, leb, eqb}
use Rattle.base_ceilings.specs.Ceilings.{items_most, tokens_most}
use Rattle.base_codes.specs.Codes.{c_or_else}
use Rattle.base_bytes.specs.Choice.{pick}
use Rattle.parse_tables.specs.Tables.{production, right}

-- a symbol or item, a place or token, and a count or size, as one number
abbrev pub packed : ℕ → ℕ → ℕ → ℕ
packed x at n = x + 256 * at + 1048576 * n

abbrev pub symbol_of : ℕ → ℕ
symbol_of v = v % 256

-- room for a place, more than tokens need
abbrev pub place_room : ℕ
place_room = 4096

abbrev pub place_of : ℕ → ℕ
place_of v = v / 256 % place_room

abbrev pub count_of_lem : ℕ → ℕ
count_of_lem v = v / 1048576 % 65536

-- the column of the tables for a kind: 73 for what is none
abbrev pub clipped : ℕ → ℕ
clipped k = pick (eqb k 0) 73 (min k 73)

-- and for a place: 0 at the end
unfoldable pub column : List ℕ → ℕ → ℕ
column ks pos = pick (ltb pos (length ks)) (clipped (get_or ks pos 0)) 0

pub record Config : Type 0 where
  pub st : List ℕ
  pub pos : ℕ
  pub out : List ℕ

-- the items; the place of a token that can continue nothing; no fuel or room left, which never happens (proofs/Never.antt)
pub data Outcome : Type 0 where
  done : List ℕ → Outcome
  refused : ℕ → Outcome
  spent : Outcome

pub data Next : Type 0 where
  go : Config → Next
  stop : Outcome → Next

-- the fuel and the room of the stack, by what a token asks for at most
abbrev pub most_steps : ℕ
most_steps = 40 * tokens_most

abbrev pub most_stack : ℕ
most_stack = 20 * tokens_most

-- an item at the end, for the stack's number v and a token
abbrev pub output_of : ℕ → ℕ → List ℕ → List ℕ
output_of v at out = out ++ packed (symbol_of v) at (length out - count_of_lem v) ∷ []

-- a symbol that writes
unfoldable pub write : ℕ → ℕ → List ℕ → ℕ → List ℕ → Next
write v at st pos out = pick (ltb (length out) items_most) (go (record { st = st; pos = pos; out = output_of v at out })) (stop spent)

-- a terminal is eaten where its kind stands; a name, a number or a string writes its item
unfoldable pub eat : List ℕ → ℕ → List ℕ → ℕ → List ℕ → Next
eat ks v st pos out =
    pick (ltb pos (length ks))
    (pick (eqb (symbol_of v) (column ks pos)) (pick (ltb (symbol_of v) 70) (go (record { st = st; pos = pos + 1; out = out })) (write v pos st (pos + 1) out)) (stop (refused pos)))
    (stop (refused pos))

-- what is added to each symbol of a right side: the place and the count now; from symbol 143 on those of v, which goes on with what was begun there
abbrev pub mark : ℕ → ℕ → List ℕ → ℕ
mark v pos out = pick (ltb (symbol_of v) 143) (256 * pos + 1048576 * length out) (v - symbol_of v)

abbrev pub marked : ℕ → List ℕ → List ℕ
marked b [] = []
marked b (x ∷ r) = (x + b) ∷ marked b r

-- a nonterminal: the symbols of its right side p take its place
unfoldable pub expand : ℕ → List ℕ → ℕ → List ℕ → ℕ → Next
expand v st pos out p =
    pick (eqb p 0) (stop (refused pos))
    (pick (leb (length (right p) + length st) most_stack) (go (record { st = marked (mark v pos out) (right p) ++ st; pos = pos; out = out })) (stop spent))

unfoldable pub step_on : List ℕ → List ℕ → ℕ → List ℕ → Next
step_on ks [] pos out = stop (pick (ltb pos (length ks)) (refused pos) (done out))
step_on ks (v ∷ st) pos out =
    pick (ltb (symbol_of v) 73) (eat ks v st pos out)
    (pick (ltb (symbol_of v) c_or_else) (expand v st pos out (production (symbol_of v) (column ks pos)))
    (write v (place_of v) st pos out))

abbrev pub step : List ℕ → Config → Next
step ks c = step_on ks c.st c.pos c.out

abbrev pub next : (Config → Outcome) → Next → Outcome
next f (go c) = f c
next f (stop o) = o

unfoldable pub run : List ℕ → ℕ → Config → Outcome
run ks zero c = spent
run ks (suc f) c = next (run ks f) (step ks c)

-- the number of the model's nonterminal
abbrev pub start : Config
start = record { st = 141 ∷ []; pos = 0; out = [] }

abbrev pub machine : List ℕ → Outcome
machine ks = run ks most_steps start
