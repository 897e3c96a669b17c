-- Which codes the items of expressions, statements, declarations and parameters have, where they are items that a text can have.
use Prim.Native.Nat.{ℕ, ◌+◌, ◌≤◌}
use native.Mathlib.Omega.{arith}
use mathlib.Core.Path.{◌≡◌, refl, sym, ap, ◌∙◌}
use mathlib.Core.Bool.{Bool, true, false}
use mathlib.Core.Option.{Option, none, some}
use mathlib.Core.Logic.{◌⊎◌, inl, inr}
use mathlib.Core.List.{List, [], ◌∷◌, ◌++◌}
use lib.Dec.{leb}
use borrow.Author.Tests.{leb-true, leb-false, le-leb, lt-leb}
use Rattle.base_bytes.proofs.Tests.{true_false}
use Rattle.base_codes.specs.Codes.{c_argument, c_choice, c_complement, c_constant, c_end_option, c_field, c_group, c_int, c_local, c_message, c_name, c_number, c_or_else, c_parameter, c_plain, c_size, c_text}
use Rattle.base_codes.specs.Sets.{is_part}
use Rattle.spec_grammar.specs.Tree.{Name, Shape, Exp, plain, indexed, num, tru, fls, get, query, unary, binary, choice, Expr, Received, into, equal, exactly, exactly_true, exactly_false, Sort, Tree, Value, unset, set_number, set_minus, set_true, set_false, set_name, set_channel, Variable, variable, Declaration, declare, Group, group}
use Rattle.base_codes.specs.Items.{Item, code_of, i_argument, i_binary, i_choice, i_equal, i_global, i_index, i_into, i_query, i_local, i_otherwise, i_type, i_unary}
use Rattle.parse_code.specs.Code.{each, code_exp, code_argument, code_received, code_tree, code_field, code_size, code_value, code_variable, code_declaration, code_parameter, code_group, code_message}
use Rattle.spec_grammar.specs.Grammar.{is_minus, is_not, is_flip}
use Rattle.table_entries.specs.Items.{Known, is_unary, is_binary}
use Rattle.table_entries.proofs.Items.{type_code}
use Rattle.link_phrases_proof.proofs.Inside.{mark-outside, text-outside}
use Rattle.parse_parts_proof.specs.Parts.{Spoken, Framing}
use Rattle.parse_parts_proof.proofs.Closed.{closed_tree, tree_code}

-- types: below all marks
abbrev pub Low : ℕ → Type 0
Low c = (73 ≤ c) × (c ≤ c_int)

pub type_low : (o : ℕ) → Known (i_type o) → Low (code_of (i_type o))
type_low o k = let h = type_code k in (omega arith, h.1)

-- ---- what holds of the codes of all items of a list
abbrev pub Every : (ℕ → Type 0) → List Item → Type 0
Every P [] = Unit {0}
Every P (x ∷ l) = (Known x → P (code_of x)) × Every P l

module _ (P : ℕ → Type 0) where
  pub every_append : (x y : List Item) → Every P x → Every P y → Every P (x ++ y)
  every_append [] y a b = b
  every_append (c ∷ x) y a b = (a.0, every_append x y a.1 b)

  pub every-each : {A : Type 0} (f : A → List Item) → ((a : A) → Every P (f a)) → (l : List A) → Every P (each f l)
  every-each f h [] = tt
  every-each f h (a ∷ l) = every_append (f a) (each f l) (h a) (every-each f h l)

pub every_lift : (P Q : ℕ → Type 0) → ((c : ℕ) → P c → Q c) → (l : List Item) → Every P l → Every Q l
every_lift P Q h [] a = tt
every_lift P Q h (x ∷ l) a = (λ k. h (code_of x) (a.0 k), every_lift P Q h l a.1)

-- ---- expressions: parts of them alone, so no string, and no mark beyond them
abbrev pub InPart : ℕ → Type 0
InPart c = is_part c ≡ true

binary_part : {o : ℕ} → Known (i_binary o) → InPart (code_of (i_binary o))
unfolding is_part
binary_part (is_binary {o} a b) =
    rw (le-leb c_name (146 + o) (omega arith), lt-leb (146 + o) c_number (omega arith), le-leb c_or_else (146 + o) (omega arith), le-leb (146 + o) c_complement (omega arith))

unary_part : {o : ℕ} → Known (i_unary o) → InPart (code_of (i_unary o))
unfolding is_part
unary_part (is_unary is_minus) = refl
unary_part (is_unary is_not) = refl
unary_part (is_unary is_flip) = refl

pub exp_parts : {s : Shape} (e : Exp s) → Every InPart (code_exp e)
unfolding is_part
exp_parts (plain w) = (λ k. refl, (λ k. refl, tt))
exp_parts (indexed w e) = (λ k. refl, every_append InPart (code_exp e) (i_index ∷ []) (exp_parts e) (λ k. refl, tt))
exp_parts (num n) = (λ k. refl, tt)
exp_parts tru = (λ k. refl, tt)
exp_parts fls = (λ k. refl, tt)
exp_parts (get r) = exp_parts r
exp_parts (query mk r) = every_append InPart (code_exp r) (i_query mk ∷ []) (exp_parts r) (λ k. refl, tt)
exp_parts (unary o e) = every_append InPart (code_exp e) (i_unary o ∷ []) (exp_parts e) (unary_part, tt)
exp_parts (binary o a b) = every_append InPart (code_exp a ++ code_exp b) (i_binary o ∷ []) (every_append InPart (code_exp a) (code_exp b) (exp_parts a) (exp_parts b)) (binary_part, tt)
exp_parts (choice a b c) =
    every_append InPart (code_exp a ++ code_exp b ++ i_otherwise ∷ code_exp c) (i_choice ∷ [])
    (every_append InPart (code_exp a ++ code_exp b) (i_otherwise ∷ code_exp c) (every_append InPart (code_exp a) (code_exp b) (exp_parts a) (exp_parts b)) (λ k. refl, exp_parts c)) (λ k. refl, tt)

abbrev pub InExp : ℕ → Type 0
InExp c = (c ≤ c_choice) × (c ≡ c_text → ⊥)

part_exp : (c : ℕ) → InPart c → InExp c
part_exp c e = (low (leb c c_choice) refl, λ z. true_false (sym e ∙ ap is_part z ∙ text-outside))
  where
    low : (b : Bool) → leb c c_choice ≡ b → c ≤ c_choice
    low true q = leb-true c c_choice q
    low false q = absurd (let z = leb-false c c_choice q in true_false (sym e ∙ mark-outside c (omega arith)))

pub exp_codes : {s : Shape} (e : Exp s) → Every InExp (code_exp e)
exp_codes e = every_lift InPart InExp part_exp (code_exp e) (exp_parts e)

-- ---- arguments: expressions, each with its mark
abbrev pub InArgs : ℕ → Type 0
InArgs c = (c ≤ c_constant) × (c ≡ c_text → ⊥)

exp_args : {s : Shape} (e : Exp s) → Every InArgs (code_exp e)
exp_args e = every_lift InExp InArgs (λ c h. (omega arith, h.1)) (code_exp e) (exp_codes e)

pub args_codes : (es : List Expr) → Every InArgs (each code_argument es)
args_codes es = every-each InArgs code_argument (λ e. every_append InArgs (code_exp e) (i_argument ∷ []) (exp_args e) (λ k. (omega arith, λ e. omega arith), tt)) es

received_codes : (x : Received) → Every InArgs (code_received x)
received_codes (into r) = every_append InArgs (code_exp r) (i_into ∷ []) (exp_args r) (λ k. (omega arith, λ e. omega arith), tt)
received_codes (equal e) = every_append InArgs (code_exp e) (i_equal ∷ []) (exp_args e) (λ k. (omega arith, λ e. omega arith), tt)
received_codes (exactly n) = (λ k. (omega arith, λ e. omega arith), (λ k. (omega arith, λ e. omega arith), tt))
received_codes exactly_true = (λ k. (omega arith, λ e. omega arith), (λ k. (omega arith, λ e. omega arith), tt))
received_codes exactly_false = (λ k. (omega arith, λ e. omega arith), (λ k. (omega arith, λ e. omega arith), tt))

pub all_received_codes : (xs : List Received) → Every InArgs (each code_received xs)
all_received_codes xs = every-each InArgs code_received received_codes xs

-- ---- statements
abbrev pub InTree : ℕ → Type 0
InTree c = c ≤ c_end_option

exp_tree : {s : Shape} (e : Exp s) → Every InTree (code_exp e)
exp_tree e = every_lift InExp InTree (λ c h. omega arith) (code_exp e) (exp_codes e)

one_code : (i : Item) → Spoken i ⊎ Framing i → Every InTree (i ∷ [])
one_code i h = (λ k. tree_code h, tt)

pub tree_codes : {k : Sort} (t : Tree k) → Every InTree (code_tree t)
tree_codes t = closed_tree (Every InTree) tt (every_append InTree) (λ s e. exp_tree e) one_code t

-- ---- declarations: nothing that stands in statements alone
abbrev pub InDeclaration : ℕ → Type 0
InDeclaration c = (c ≤ c_field) × (c ≡ c_text → ⊥) × (c_argument ≤ c → c_local ≤ c)

-- what stands behind a declared name
abbrev pub InValue : ℕ → Type 0
InValue c = (c ≤ c_field) × (c ≡ c_text → ⊥) × (c_argument ≤ c → c_size ≤ c)

field_codes : (n : ℕ) → Every InValue (code_field n)
field_codes n = (λ k. let h = type_low n k in (omega arith, λ e. omega arith, λ e. omega arith), (λ k. (omega arith, λ e. omega arith, λ e. omega arith), tt))

pub size_codes : (s : Option ℕ) → Every InValue (code_size s)
size_codes none = tt
size_codes (some n) = (λ k. (omega arith, λ e. omega arith, λ e. omega arith), (λ k. (omega arith, λ e. omega arith, λ e. omega arith), tt))

pub value_codes : (v : Value) → Every InValue (code_value v)
value_codes unset = tt
value_codes (set_number n) = (λ k. (omega arith, λ e. omega arith, λ e. omega arith), (λ k. (omega arith, λ e. omega arith, λ e. omega arith), tt))
value_codes (set_minus n) = (λ k. (omega arith, λ e. omega arith, λ e. omega arith), (λ k. (omega arith, λ e. omega arith, λ e. omega arith), tt))
value_codes set_true = (λ k. (omega arith, λ e. omega arith, λ e. omega arith), (λ k. (omega arith, λ e. omega arith, λ e. omega arith), tt))
value_codes set_false = (λ k. (omega arith, λ e. omega arith, λ e. omega arith), (λ k. (omega arith, λ e. omega arith, λ e. omega arith), tt))
value_codes (set_name w) = (λ k. (omega arith, λ e. omega arith, λ e. omega arith), (λ k. (omega arith, λ e. omega arith, λ e. omega arith), tt))
value_codes (set_channel n ks) =
    (λ k. (omega arith, λ e. omega arith, λ e. omega arith), (λ k. (omega arith, λ e. omega arith, λ e. omega arith), every-each InValue code_field field_codes ks))

pub variable_codes : (x : Variable) → Every InDeclaration (code_variable x)
variable_codes (variable w s v) =
    let behind = every_append InValue (code_size s) (code_value v) (size_codes s) (value_codes v) in (
      λ k. (omega arith, λ e. omega arith, λ e. omega arith),
      (
        λ k. (omega arith, λ e. omega arith, λ e. omega arith),
        every_lift InValue InDeclaration (λ c h. (h.0, h.1, λ z. let y = h.2 z in omega arith)) (code_size s ++ code_value v) behind,
      ),
    )

-- the mark of a declaration is `local` or `global`
declaration_codes : (i : Item) → InDeclaration (code_of i) → (d : Declaration) → Every InDeclaration (code_declaration i d)
declaration_codes i m (declare n xs) =
    (λ k. let h = type_low n k in (omega arith, λ e. omega arith, λ e. omega arith), (λ k. m, every-each InDeclaration code_variable variable_codes xs))

pub local_codes : (ds : List Declaration) → Every InDeclaration (each (code_declaration i_local) ds)
local_codes ds = every-each InDeclaration (code_declaration i_local) (declaration_codes i_local (omega arith, λ e. omega arith, λ e. omega arith)) ds

pub global_codes : (d : Declaration) → Every InDeclaration (code_declaration i_global d)
global_codes d = declaration_codes i_global (omega arith, λ e. omega arith, λ e. omega arith) d

-- ---- parameters and mtype names
abbrev pub InGroup : ℕ → Type 0
InGroup c = (c ≤ c_parameter) × (c ≡ c_text → ⊥) × (c_plain ≤ c → c_group ≤ c)

group_codes : (g : Group) → Every InGroup (code_group g)
group_codes (group n ws) =
    (λ k. let h = type_low n k in (omega arith, λ e. omega arith, λ e. omega arith), (λ k. (omega arith, λ e. omega arith, λ e. omega arith), every-each InGroup code_parameter named ws))
  where
    named : (w : Name) → Every InGroup (code_parameter w)
    named w = (λ k. (omega arith, λ e. omega arith, λ e. omega arith), (λ k. (omega arith, λ e. omega arith, λ e. omega arith), tt))

pub groups_codes : (gs : List Group) → Every InGroup (each code_group gs)
groups_codes gs = every-each InGroup code_group group_codes gs

abbrev pub InMessages : ℕ → Type 0
InMessages c = (c ≡ c_name) ⊎ (c ≡ c_message)

pub messages_codes : (ws : List Name) → Every InMessages (each code_message ws)
messages_codes ws = every-each InMessages code_message (λ w. (λ k. inl refl, (λ k. inr refl, tt))) ws
