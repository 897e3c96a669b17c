-- The codes of types and of all items of statements are below 210: none of them declares, opens or ends anything.
use Prim.Native.Nat.{ℕ, ◌<◌}
use native.Mathlib.Omega.{arith}
use mathlib.Core.List.{List}
use Rattle.base_codes.specs.Codes.{c_local}
use Rattle.base_codes.specs.Items.{Item, code_of, i_type}
use Rattle.spec_grammar.specs.Tree.{Sort, Tree}
use Rattle.parse_code.specs.Code.{code_tree}
use Rattle.table_entries.specs.Items.{Known}
use Rattle.table_entries.proofs.Items.{type_code}
use Rattle.agree_eval.proofs.Ranges.{Every, every_lift, InTree, tree_codes}

pub type_below : (k : ℕ) → Known (i_type k) → code_of (i_type k) < c_local
type_below k e = let h = (type_code e).1 in omega arith

abbrev pub Below : List Item → Type 0
Below l = Every (λ c. c < c_local) l

pub below_tree : {k : Sort} (x : Tree k) → Below (code_tree x)
below_tree x = every_lift InTree (λ c. c < c_local) (λ c h. omega arith) (code_tree x) (tree_codes x)
