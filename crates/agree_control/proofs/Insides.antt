-- What codes the items inside of a unit have: none, but for its head and its body's bounds, has a code of those; a type is no place, and no part of an expression.
use Prim.Native.Nat.{ℕ, ◌+◌, ◌<◌}
use native.Mathlib.Omega.{arith}
use mathlib.Core.Path.{◌≡◌}
use mathlib.Core.Bool.{true, false}
use mathlib.Core.Logic.{inl, inr}
use mathlib.Core.List.{List, ◌++◌}
use borrow.Author.Tests.{le-leb, lt-leb, ne_eqb}
use Rattle.base_codes.specs.Codes.{c_break, c_complement, c_do, c_end_body, c_express, c_goto, c_if, c_increment, c_name, c_number, c_or_else, c_plain, c_proctype, c_run, c_skip, c_text}
use Rattle.base_codes.specs.Items.{Item, code_of, i_type, i_local, i_global}
use Rattle.base_codes.specs.Sets.{is_part, is_alone, is_lead}
use Rattle.spec_grammar.specs.Tree.{Name, Sort, Tree, Declaration, Group, mtypes}
use Rattle.parse_code.specs.Code.{each, code_tree, code_declaration, code_group, code_part, code_message}
use Rattle.table_entries.specs.Items.{Known, is_type}
use Rattle.agree_nesting.proofs.Leaves.{quiet}
use Rattle.agree_eval.proofs.Ranges.{Every, every_append, every_lift, InTree, tree_codes, InDeclaration, local_codes, global_codes, InGroup, groups_codes, InMessages, messages_codes}

-- a mark that begins no statement
abbrev pub Still : ℕ → Type 0
Still c = (quiet c ≡ true) × (is_lead c ≡ false)

pub type_still : {k : ℕ} → Known (i_type k) → Still (code_of (i_type k))
unfolding quiet is_part is_alone is_lead
type_still (is_type {k} a b) = (
  rw (
    le-leb c_name (130 + k) (omega arith),
    lt-leb (130 + k) c_number (omega arith),
    le-leb c_or_else (130 + k) (omega arith),
    lt-leb (130 + k) c_complement (omega arith),
    lt-leb c_plain (130 + k) (omega arith),
    ne_eqb (130 + k) c_text (λ z. omega arith),
    ne_eqb (130 + k) c_skip (λ z. omega arith),
    lt-leb c_break (130 + k) (omega arith),
    ne_eqb (130 + k) c_if (λ z. omega arith),
    ne_eqb (130 + k) c_do (λ z. omega arith),
    ne_eqb (130 + k) c_end_body (λ z. omega arith),
  ),
  rw (lt-leb c_express (130 + k) (omega arith), lt-leb c_increment (130 + k) (omega arith), ne_eqb (130 + k) c_goto (λ z. omega arith), ne_eqb (130 + k) c_run (λ z. omega arith)),
)

-- ---- items inside of a unit
abbrev pub InUnit : ℕ → Type 0
InUnit c = c < c_proctype

abbrev pub Inner : List Item → Type 0
Inner l = Every InUnit l

pub inner-append : (x y : List Item) → Inner x → Inner y → Inner (x ++ y)
inner-append x y a b = every_append InUnit x y a b

pub inner_tree : {k : Sort} (x : Tree k) → Inner (code_tree x)
inner_tree x = every_lift InTree InUnit (λ c h. omega arith) (code_tree x) (tree_codes x)

pub inner-declarations : (ds : List Declaration) → Inner (each (code_declaration i_local) ds)
inner-declarations ds = every_lift InDeclaration InUnit (λ c h. let z = h.0 in omega arith) (each (code_declaration i_local) ds) (local_codes ds)

pub inner-global : (d : Declaration) → Inner (code_declaration i_global d)
inner-global d = every_lift InDeclaration InUnit (λ c h. let z = h.0 in omega arith) (code_declaration i_global d) (global_codes d)

pub inner_groups : (gs : List Group) → Inner (each code_group gs)
inner_groups gs = every_lift InGroup InUnit (λ c h. let z = h.0 in omega arith) (each code_group gs) (groups_codes gs)

pub inner_mtypes : (ws : List Name) → Inner (code_part (mtypes ws))
inner_mtypes ws = (λ k. omega arith, every_lift InMessages InUnit low (each code_message ws) (messages_codes ws))
  where
    low : (c : ℕ) → InMessages c → c < c_proctype
    low c (inl e) = omega arith
    low c (inr e) = omega arith
