-- Bridge, for `demand2` (crate `demands`).
-- The scene that tables and a state make, and that an expression of a tree stands in the tables: docs/TABLES.md, the rows of items and of links.
-- `t` are tables, `s` a state, p the number of the process; `decl` has for each name the item that declares it, and for `_pid` any item that is a name.
use Rattle.std.specs.Prelude.{ℕ, ◌+◌, ◌-◌, ◌≤◌, ◌≡◌, List, ◌⊎◌, length, ℤ, pos, eqb, true, Result, Ok}
use Rattle.base_ceilings.specs.Ceilings.{number_most}
use Rattle.base_codes.specs.Codes.{c_choice, c_false, c_index, c_len, c_message, c_plain, c_true, c_name, c_number}
use Rattle.base_bytes.specs.Choice.{pick}
use Rattle.base_bytes.specs.Lists.{same}
use Rattle.spec_text.specs.Names.{pid}
use Rattle.table_layout.specs.Access.{code_of, link_of, number_of}
use Rattle.state_layout.specs.Layout.{kept, cell_of, waiting_of}
use Rattle.base_bytes.specs.Numbers.{nat}
use Rattle.spec_grammar.specs.Tree.{Name, Shape, Exp, Ref, plain, indexed, num, tru, fls, get, query, unary, binary, choice}
use Rattle.step_eval.specs.Variables.{size_of, slot_of, made_of, element_of}
use Rattle.spec_machine.specs.Eval.{Scene, eval}
use Rattle.base_codes.specs.Items.{i_binary, i_unary}
use Rattle.parse_code.specs.Code.{code_exp}
use Rattle.base_codes.specs.Items as items
use Rattle.base_values.specs.declared.Fault.{Fault}

-- a plain reference to declaration d: the number of an mtype name, `_pid` (its own name, 70), or a variable
unfoldable pub number_at : List ℕ → List ℤ → ℕ → ℕ → ℤ
number_at t s p d = pick (eqb (code_of t d) c_message) (kept (link_of t d)) (pick (eqb (code_of t d) c_name) (pos p) (cell_of s (slot_of (link_of t d) p 0)))

abbrev pub scene_of : List ℕ → List ℤ → ℕ → (Name → ℕ) → Scene
scene_of t s p decl =
    record {
      number = λ w. pick (same w pid) (pos p) (number_at t s p (decl w));
      size = λ w. size_of (link_of t (decl w));
      element = λ w i. cell_of s (slot_of (link_of t (decl w)) p i);
      made = λ v. made_of s (nat v);
      waiting = λ v. waiting_of s (nat v - 1);
    }

-- how many items an expression has
abbrev pub size_in : {k : Shape} → Exp k → ℕ
size_in e = length (code_exp e)

-- the items of the expression stand in the tables from item i on; an operator and the two parts of a conditional link to where the phrase before them starts
unfoldable pub Stands : List ℕ → {k : Shape} → Exp k → ℕ → Type 0
Stands t (plain w) i = code_of t (i + 1) ≡ c_plain
Stands t (indexed w e) i = Stands t e (i + 1) × (code_of t (i + 1 + size_in e) ≡ c_index)
Stands t (num n) i = (code_of t i ≡ c_number) × (number_of t i ≡ n) × (n ≤ number_most)
Stands t tru i = code_of t i ≡ c_true
Stands t fls i = code_of t i ≡ c_false
Stands t (get r) i = Stands t r i
Stands t (query mk r) i = Stands t r i × (code_of t (i + size_in r) ≡ c_len)
Stands t (unary o e) i = Stands t e i × (code_of t (i + size_in e) ≡ items.code_of (i_unary o))
Stands t (binary o a b) i =
    Stands t a i × Stands t b (i + size_in a) × (code_of t (i + size_in a + size_in b) ≡ items.code_of (i_binary o)) × (link_of t (i + size_in a + size_in b) ≡ i + size_in a)
Stands t (choice a b c) i =
    Stands t a i × Stands t b (i + size_in a) × (link_of t (i + size_in a + size_in b) ≡ i + size_in a) × Stands t c (i + size_in a + size_in b + 1)
    × (code_of t (i + size_in a + size_in b + 1 + size_in c) ≡ c_choice) × (link_of t (i + size_in a + size_in b + 1 + size_in c) ≡ i + size_in a + size_in b + 1)

-- item d is what a name stands for, if that is item k; `_pid`, which is not declared, stands for itself wherever it is (70)
abbrev pub Meant : List ℕ → ℕ → ℕ → Type 0
Meant t d k = (d ≡ k) ⊎ ((code_of t d ≡ c_name) × (code_of t k ≡ c_name))

-- each name in it links to what `decl` has for it
unfoldable pub Named : List ℕ → (Name → ℕ) → {k : Shape} → Exp k → ℕ → Type 0
Named t decl (plain w) i = Meant t (link_of t (i + 1)) (decl w) × (same w pid ≡ true → code_of t (decl w) ≡ c_name)
Named t decl (indexed w e) i = Named t decl e (i + 1) × (link_of t (i + 1 + size_in e) ≡ decl w)
Named t decl (num n) i = Unit {0}
Named t decl tru i = Unit {0}
Named t decl fls i = Unit {0}
Named t decl (get r) i = Named t decl r i
Named t decl (query mk r) i = Named t decl r i
Named t decl (unary o e) i = Named t decl e i
Named t decl (binary o a b) i = Named t decl a i × Named t decl b (i + size_in a)
Named t decl (choice a b c) i = Named t decl a i × Named t decl b (i + size_in a) × Named t decl c (i + size_in a + size_in b + 1)

-- ## references: targets, channel operands, received variables
-- where a reference stands in the state: "target indices are worked out", and must be in range
unfoldable pub locate : List ℕ → List ℤ → ℕ → (Name → ℕ) → Ref → Result ℕ Fault
locate t s p decl (plain w) = Ok (slot_of (link_of t (decl w)) p 0)
locate t s p decl (indexed w e) = element_of (link_of t (decl w)) p (eval (scene_of t s p decl) e)

-- it links to the declaration of its name
unfoldable pub Linked : List ℕ → (Name → ℕ) → Ref → ℕ → Type 0
Linked t decl (plain w) i = link_of t (i + 1) ≡ decl w
Linked t decl (indexed w e) i = link_of t (i + 1 + size_in e) ≡ decl w
