-- EQUAL TABLES ARE OF EQUAL TREES, and equal trees with equal links have equal tables: document 01, "Tables hold exactly what the tree holds".
use Prim.Native.Nat.{ℕ, ◌≤◌, ◌+◌}
use mathlib.Core.Path.{◌≡◌, refl}
use mathlib.Core.List.{List, [], ◌∷◌, map}
use native.Mathlib.Omega.{arith}
use Rattle.base_codes.specs.Codes.{c_complement, c_end_body, c_negate, c_not, c_or_else}
use Rattle.spec_grammar.specs.Tree.{Model}
use Rattle.spec_grammar.specs.Grammar.{is_minus, is_not, is_flip}
use Rattle.base_codes.specs.Items.{Item}
use Rattle.parse_code.specs.Code.{code}
use Rattle.parse_code.proofs.Built.{code_injective}
use Rattle.table_entries.specs.Entry.{entry}
use Rattle.table_entries.specs.Items.{entry_of, Known, is_name_lem, is_text, is_number, is_mark_lem, AllKnown, is_type, is_unary, is_binary, is_operator}
use Rattle.table_entries.proofs.Items.{entries_injective, operator_code}
use Rattle.table_layout.specs.Back.{Fair, AllFair, Small}
use Rattle.table_layout.specs.Trees.{entries_in, tables_in}
use Rattle.table_layout.proofs.Back.{tables_determine}

mark-fair : (x : ℕ) → c_or_else ≤ x → x ≤ c_end_body → Fair (entry x [] 0)
mark-fair x a b = record { coded = omega arith; short = omega arith; low = tt; bare = λ p q. refl; still = λ p. refl }

pub item-fair : {i : Item} → Known i → Fair (entry_of i)
item-fair (is_name_lem a b) = record { coded = omega arith; short = a; low = b; bare = λ p q. absurd (p refl); still = λ p. refl }
item-fair (is_text a b) = record { coded = omega arith; short = a; low = b; bare = λ p q. absurd (q refl); still = λ p. refl }
item-fair is_number = record { coded = omega arith; short = omega arith; low = tt; bare = λ p q. refl; still = λ p. absurd (p refl) }
item-fair (is_type {k} a b) = mark-fair (130 + k) (omega arith) (omega arith)
item-fair (is_unary is_minus) = mark-fair c_negate (omega arith) (omega arith)
item-fair (is_unary is_not) = mark-fair c_not (omega arith) (omega arith)
item-fair (is_unary is_flip) = mark-fair c_complement (omega arith) (omega arith)
item-fair (is_binary {o} a b) = mark-fair (146 + o) (omega arith) (omega arith)
item-fair (is_mark_lem {c} a b e) = mark-fair c (omega arith) (omega arith)
item-fair (is_operator {c} x) = let p = operator_code x in mark-fair c (omega arith) (omega arith)

pub items-fair : (l : List Item) → AllKnown l → AllFair (map entry_of l)
items-fair [] k = tt
items-fair (i ∷ l) k = (item-fair k.0, items-fair l k.1)

pub tables_trees : (m n : Model) (ls ms : List ℕ) → AllKnown (code m) → AllKnown (code n) → Small (entries_in m) → Small (entries_in n) → tables_in m ls ≡ tables_in n ms → m ≡ n
tables_trees m n ls ms a b p q t =
    code_injective m n (entries_injective (code m) (code n) a b (tables_determine (entries_in m) (entries_in n) ls ms (items-fair (code m) a) (items-fair (code n) b) p q t))
