-- Mechanism, held to the specification by `items-mean`, `accepts` (crate `parse_machine`), but for `answer_of`, `meant`, `InRange`, `AllInRange`, of proofs alone.
-- What the machine's numbers say of a list of tokens: the items of a tree's code, each name, number and string with what its token holds; and the answer as `parse_grammar` gives it.
-- THE LAYOUT OF ITEMS (their order is that of specs/Code.antt of `parse_code`, their numbers those of specs/Numbering.antt of `parse_tables`). Each has a token and a size,
-- the number of items just before it that belong to it. Token and size are
--   binary: the operator, its right operand · unary: the operator, its operand · index: `[`, the index · len: `len`, the reference · plain: the token after the name, 0
--   otherwise: `->`, the part between `->` and `:` · choice: `->`, that part, otherwise and the last part
--   argument: the expression's first token (`(` included), the expression · equal: `eval`, the expression · into: the name, the reference · constant: its token, 1
--   express: the expression's first token, the expression · assign: the right side's first token, the right side · assert: `assert`, the expression
--   target, increment, decrement, send, receive: the name, the reference · label, declared, message, parameter, named: the name, 1 · goto, run, set-run: the keyword, 1
--   end: of a send or receive the channel's name, of printf, run and `v = run` that keyword; the items from that token on
--   fi, od, end-option, end-body: the token that opened (`if`, `do`, `::`, `{`), the items from the opening one on · if, do, option, body, mtypes, init, skip ..: its keyword or mark, 0
--   local, global, group, field: the type, 1 · size, channel: `[`, 1 · value: its token, 1 · minus: `-`, 1 · proctype: `proctype`, 1 · active: `active`, 1 · active-many: `active`, 2
use Rattle.std.specs.Prelude.{ℕ, suc, ◌≤◌, ◌<◌, cond, List, [], ◌∷◌, map, ◌⊎◌, get_or, eqb, ltb}
use Rattle.base_codes.specs.Codes.{c_or_else}
use Rattle.base_kinds.specs.Kinds.{Token, sym, name, number, text}
use Rattle.base_codes.specs.Items.{Item, i_name, i_number, i_plain, i_text}
use Rattle.parse_grammar.specs.Engine.{Answer as Parse, ok, bad}
use Rattle.parse_grammar.specs.Judge.{GrammarAnswer, accepted, refused_2, refused_3}
use Rattle.parse_tables.specs.Numbering.{item}
use Rattle.parse_machine.specs.Machine.{Outcome, done, refused, spent, symbol_of, place_of, count_of_lem}
use Rattle.parse_machine.specs.Answer.{Answer, items, refuse}

-- what a token holds
abbrev pub held : Token → Item
held (sym k) = i_plain
held (name w) = i_name w
held (number n) = i_number n
held (text w) = i_text w

-- the item of code c at token k: below the codes of marks the symbol is a terminal, and its token has what it holds
abbrev pub read_as : List Token → ℕ → ℕ → Item
read_as ts c k = cond (ltb c c_or_else) (held (get_or ts k (sym 0))) (item c)

-- the item of a number
abbrev pub read : List Token → ℕ → Item
read ts v = read_as ts (symbol_of v) (place_of v)

abbrev pub answer_of : List Token → Outcome → Parse Item
answer_of ts (done o) = ok (map (read ts) o)
answer_of ts (refused i) = bad i
answer_of ts spent = bad 0

-- names, numbers and strings have their kinds to themselves
abbrev pub Proper : Token → Type 0
Proper (sym k) = (k < 70) ⊎ (72 < k)
Proper (name w) = Unit {0}
Proper (number n) = Unit {0}
Proper (text w) = Unit {0}

abbrev pub AllProper : List Token → Type 0
AllProper [] = Unit {0}
AllProper (c ∷ ts) = Proper c × AllProper ts

-- an answer as `parse_grammar` judges: the items, refusal 2 or refusal 3 at a place
abbrev pub meant : List Token → Answer → GrammarAnswer
meant ts (items o) = accepted (map (read ts) o)
meant ts (refuse k i) = cond (eqb k 2) (refused_2 i) (refused_3 i)

-- the item at place i, where there are n tokens: its token is one of them or the end, one that it holds surely one of them, and its size reaches no further than the first item
pub record InRange (n i v : ℕ) : Type 0 where
  pub token : place_of v ≤ n
  pub size : count_of_lem v ≤ i
  pub own : symbol_of v < 73 → place_of v < n

abbrev pub AllInRange : ℕ → ℕ → List ℕ → Type 0
AllInRange n i [] = Unit {0}
AllInRange n i (v ∷ o) = InRange n i v × AllInRange n (suc i) o
