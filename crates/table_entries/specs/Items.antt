-- Bridge: the tree's side of `text-tables` (crate `read_accepts_proof`), to which the tables of a text are held; `item_of`, `Known`, `AllKnown` are of proofs alone.
-- The entry of an item of a tree's code, and the item of an entry.
use Rattle.std.specs.Prelude.{ℕ, ◌≤◌, ◌≡◌, List, [], ◌∷◌, length, eqb}
use Rattle.base_ceilings.specs.Ceilings.{string_most}
use Rattle.base_codes.specs.Codes.{c_end_body, c_len, c_plain, c_name, c_number, c_receive, c_send, c_text}
use Rattle.base_bytes.specs.Choice.{pick}
use Rattle.parse_tables.specs.Numbering.{mark, item}
use Rattle.base_pens.specs.Pack.{Bytes}
use Rattle.table_entries.specs.Entry.{Entry, entry}
use Rattle.base_codes.specs.Items.{Item, i_name, i_text, i_number, i_type, i_unary, i_binary, i_mark, i_operator, code_of}
use Rattle.spec_grammar.specs.Grammar.{IsUnary, IsQuery, IsSend, IsReceive}

abbrev pub held_bytes : Item → List ℕ
held_bytes (i_name w) = w
held_bytes (i_text w) = w
held_bytes (i_number n) = []
held_bytes (i_type k) = []
held_bytes (i_unary o) = []
held_bytes (i_binary o) = []
held_bytes (i_mark c) = []
held_bytes (i_operator c o) = []

abbrev pub held_value : Item → ℕ
held_value (i_name w) = 0
held_value (i_text w) = 0
held_value (i_number n) = n
held_value (i_type k) = 0
held_value (i_unary o) = 0
held_value (i_binary o) = 0
held_value (i_mark c) = 0
held_value (i_operator c o) = 0

abbrev pub entry_of : Item → Entry
entry_of x = entry (code_of x) (held_bytes x) (held_value x)

-- the item that an entry is of
abbrev pub item_of : Entry → Item
item_of e = pick (eqb e.code c_name) (i_name e.bytes) (pick (eqb e.code c_number) (i_number e.value) (pick (eqb e.code c_text) (i_text e.bytes) (item e.code)))

-- the marks that hold the kinds of their tokens
pub data Operator : ℕ → ℕ → Type 0 where
  queries : {o : ℕ} → IsQuery o → Operator c_len o
  sends : {o : ℕ} → IsSend o → Operator c_send o
  receives : {o : ℕ} → IsReceive o → Operator c_receive o

-- an item that a text can have: names and strings of at most 64 bytes, numbers, the types, the operators, and the marks
pub data Known : Item → Type 0 where
  is_name_lem : {w : List ℕ} → length w ≤ string_most → Bytes w → Known (i_name w)
  is_text : {w : List ℕ} → length w ≤ string_most → Bytes w → Known (i_text w)
  is_number : {n : ℕ} → Known (i_number n)
  is_type : {k : ℕ} → 38 ≤ k → k ≤ 45 → Known (i_type k)
  is_unary : {o : ℕ} → IsUnary o → Known (i_unary o)
  is_binary : {o : ℕ} → 1 ≤ o → o ≤ 18 → Known (i_binary o)
  is_mark_lem : {c : ℕ} → c_plain ≤ c → c ≤ c_end_body → mark c ≡ i_mark c → Known (i_mark c)
  is_operator : {c o : ℕ} → Operator c o → Known (i_operator c o)

abbrev pub AllKnown : List Item → Type 0
AllKnown [] = Unit {0}
AllKnown (i ∷ l) = Known i × AllKnown l
