-- What items of a model stand where, and what their classes say of their codes: items of statements, of declarations, of values.
use Prim.Native.Nat.{ℕ, ◌+◌, ◌-◌, ◌≤◌}
use native.Mathlib.Omega.{arith}
use mathlib.Core.Path.{◌≡◌, refl, sym, ap, ◌∙◌}
use mathlib.Core.Bool.{Bool, true, false}
use mathlib.Core.Option.{Option, none, some}
use mathlib.Core.Logic.{◌⊎◌, inl, inr}
use mathlib.Core.List.{List, [], ◌∷◌, ◌++◌}
use lib.Dec.{eqb, ltb, leb}
use borrow.Author.Tests.{ltb-true, leb-true, lt-ltb, lt-leb}
use Rattle.base_codes.specs.Codes.{c_bit, c_end_option, c_false, c_field, c_group, c_int, c_len, c_local, c_message, c_mtypes, c_parameter, c_size, c_text, c_true}
use Rattle.base_bytes.specs.Choice.{pick, both, either}
use Rattle.base_bytes.proofs.Tests.{both_true, either_true}
use Rattle.spec_grammar.specs.Tree.{Name, Shape, Exp, plain, indexed, num, tru, fls, get, query, unary, binary, choice, Sort, Tree, Value, unset, set_number, set_minus, set_true, set_false, set_name, set_channel, Variable, variable, Declaration, declare, Group, group}
use Rattle.base_codes.specs.Items.{Item, code_of, i_binary, i_choice, i_global, i_index, i_query, i_local, i_name, i_number, i_otherwise, i_text, i_type, i_unary, i_mark, i_operator}
use Rattle.base_codes.specs.Sets.{within}
use Rattle.parse_code.specs.Code.{each, code_exp, code_tree, code_field, code_size, code_value, code_variable, code_declaration, code_parameter, code_group}
use Rattle.table_entries.specs.Items.{Known}
use Rattle.table_entries.proofs.Items.{known-passes}
use Rattle.parse_parts_proof.specs.Parts.{Spoken, of_name, of_text, of_number, of_mark, of_operator, Framing, of_label, of_frame}
use Rattle.parse_parts_proof.proofs.Closed.{closed_tree}

-- ---- classes: 0 what stands in values of declarations, and 5 types there; 1 in statements alone; 2 in both; 3 other marks of declarations, and 6 of parameters; 4 the others
unfoldable pub class : Item → ℕ
class (i_name w) = 2
class (i_number n) = 2
class (i_text w) = 1
class (i_binary o) = 1
class (i_unary o) = 1
class (i_type k) = 5
class (i_operator c o) = 1
class (i_mark c) =
    pick (ltb c c_local) (pick (within c_true c_false c) 2 1)
    (pick (ltb c c_size) 3
    (pick (ltb c c_mtypes) 0
    (pick (within c_group c_parameter c) 6 4)))

unfoldable pub spoken : Item → Bool
spoken x = within 1 2 (class x)

unfoldable pub valued : Item → Bool
valued x = either (eqb (class x) 0) (either (eqb (class x) 2) (eqb (class x) 5))

unfoldable pub settled : Item → Bool
settled x = either (valued x) (eqb (class x) 3)

unfoldable pub declaring : Item → Bool
declaring x = either (settled x) (eqb (class x) 6)

-- ---- what a class says of a code
abbrev low : ℕ → Bool
low c = either (ltb c c_text) (either (within c_bit c_int c) (either (within c_true c_false c) (within c_size c_field c)))

abbrev calm : ℕ → Bool
calm c = either (ltb c c_text) (either (within c_bit c_int c) (either (within c_true c_false c) (either (within c_local c_field c) (within c_group c_parameter c))))

unfoldable fair : Item → Bool
fair x =
    both (pick (spoken x) (leb (code_of x) c_end_option) true)
    (both (pick (valued x) (low (code_of x)) true) (both (pick (declaring x) (calm (code_of x)) true) (both (pick (eqb (class x) 5) (within c_bit c_int (code_of x)) true)
    (pick (settled x) (leb (code_of x) c_field) true))))

known-fair : {x : Item} → Known x → fair x ≡ true
unfolding fair spoken valued settled declaring class
known-fair k = known-passes fair (λ w. refl) (λ w. refl) (λ n. refl) refl k

pub spoken-code : (x : Item) → Known x → spoken x ≡ true → code_of x ≤ c_end_option
unfolding fair
spoken-code x k e = leb-true (code_of x) c_end_option (sym (ap (λ b. pick b (leb (code_of x) c_end_option) true) e) ∙ (both_true (pick (spoken x) (leb (code_of x) c_end_option) true) _ (known-fair k)).0)

within_true : (a b c : ℕ) → within a b c ≡ true → (a ≤ c) × (c ≤ b)
within_true a b c e = let h = both_true (leb a c) (leb c b) e in (leb-true a c h.0, leb-true c b h.1)

-- codes of values, and of what stands in declarations and parameters
pub record Low (c : ℕ) : Type 0 where
  pub most : c ≤ c_field
  pub string : c ≡ c_text → ⊥
  pub high : c_len ≤ c → c_size ≤ c

pub record Calm (c : ℕ) : Type 0 where
  pub most : c ≤ c_parameter
  pub string : c ≡ c_text → ⊥
  pub high : c_len ≤ c → c_local ≤ c
  pub mtypes : c ≡ c_mtypes → ⊥

low_is : (c : ℕ) → low c ≡ true → Low c
low_is c e = first (either_true (ltb c c_text) _ e)
  where
    fourth : ((c_true ≤ c) × (c ≤ c_false)) ⊎ ((c_size ≤ c) × (c ≤ c_field)) → Low c
    fourth (inl h) = let a = h.0 in let b = h.1 in record { most = omega arith; string = λ z. omega arith; high = λ z. omega arith }
    fourth (inr h) = let a = h.0 in let b = h.1 in record { most = omega arith; string = λ z. omega arith; high = λ z. omega arith }

    third : (within c_true c_false c ≡ true) ⊎ (within c_size c_field c ≡ true) → Low c
    third (inl h) = fourth (inl (within_true c_true c_false c h))
    third (inr h) = fourth (inr (within_true c_size c_field c h))

    second : (within c_bit c_int c ≡ true) ⊎ (either (within c_true c_false c) (within c_size c_field c) ≡ true) → Low c
    second (inl h) = let a = (within_true c_bit c_int c h).0 in let b = (within_true c_bit c_int c h).1 in record { most = omega arith; string = λ z. omega arith; high = λ z. omega arith }
    second (inr h) = third (either_true (within c_true c_false c) (within c_size c_field c) h)

    first : (ltb c c_text ≡ true) ⊎ (either (within c_bit c_int c) (either (within c_true c_false c) (within c_size c_field c)) ≡ true) → Low c
    first (inl h) = let a = ltb-true c c_text h in record { most = omega arith; string = λ z. omega arith; high = λ z. omega arith }
    first (inr h) = second (either_true (within c_bit c_int c) _ h)

calm_is : (c : ℕ) → calm c ≡ true → Calm c
calm_is c e = first (either_true (ltb c c_text) _ e)
  where
    by : (a b : ℕ) → a ≤ c → c ≤ b → b ≤ c_parameter → 73 ≤ a → (c_len ≤ b → c_local ≤ a) → (b ≤ c_field) ⊎ (c_message ≤ a) → Calm c
    by a b h g u v w (inl z) = record { most = omega arith; string = λ y. omega arith; high = λ y. (let t = w (omega arith) in omega arith); mtypes = λ y. omega arith }
    by a b h g u v w (inr z) = record { most = omega arith; string = λ y. omega arith; high = λ y. (let t = w (omega arith) in omega arith); mtypes = λ y. omega arith }

    fourth : (within c_local c_field c ≡ true) ⊎ (within c_group c_parameter c ≡ true) → Calm c
    fourth (inl h) = let z = within_true c_local c_field c h in by c_local c_field z.0 z.1 (omega arith) (omega arith) (λ y. omega arith) (inl (omega arith))
    fourth (inr h) = let z = within_true c_group c_parameter c h in by c_group c_parameter z.0 z.1 (omega arith) (omega arith) (λ y. omega arith) (inr (omega arith))

    third : (within c_true c_false c ≡ true) ⊎ (either (within c_local c_field c) (within c_group c_parameter c) ≡ true) → Calm c
    third (inl h) = let z = within_true c_true c_false c h in by c_true c_false z.0 z.1 (omega arith) (omega arith) (λ y. omega arith) (inl (omega arith))
    third (inr h) = fourth (either_true (within c_local c_field c) (within c_group c_parameter c) h)

    second : (within c_bit c_int c ≡ true) ⊎ (either (within c_true c_false c) (either (within c_local c_field c) (within c_group c_parameter c)) ≡ true) → Calm c
    second (inl h) = let z = within_true c_bit c_int c h in by c_bit c_int z.0 z.1 (omega arith) (omega arith) (λ y. omega arith) (inl (omega arith))
    second (inr h) = third (either_true (within c_true c_false c) _ h)

    first : (ltb c c_text ≡ true) ⊎ (either (within c_bit c_int c) (either (within c_true c_false c) (either (within c_local c_field c) (within c_group c_parameter c))) ≡ true) → Calm c
    first (inl h) = let a = ltb-true c c_text h in record { most = omega arith; string = λ z. omega arith; high = λ z. omega arith; mtypes = λ z. omega arith }
    first (inr h) = second (either_true (within c_bit c_int c) _ h)

pub valued-code : (x : Item) → Known x → valued x ≡ true → Low (code_of x)
unfolding fair
valued-code x k e =
    let a = (both_true (pick (spoken x) (leb (code_of x) c_end_option) true) _ (known-fair k)).1 in
    low_is (code_of x) (sym (ap (λ b. pick b (low (code_of x)) true) e) ∙ (both_true (pick (valued x) (low (code_of x)) true) _ a).0)

pub declaring-code : (x : Item) → Known x → declaring x ≡ true → Calm (code_of x)
unfolding fair
declaring-code x k e =
    let a = (both_true (pick (spoken x) (leb (code_of x) c_end_option) true) _ (known-fair k)).1 in
    let b = (both_true (pick (valued x) (low (code_of x)) true) _ a).1 in
    calm_is (code_of x) (sym (ap (λ b. pick b (calm (code_of x)) true) e) ∙ (both_true (pick (declaring x) (calm (code_of x)) true) _ b).0)

pub settled-code : (x : Item) → Known x → settled x ≡ true → code_of x ≤ c_field
unfolding fair
settled-code x k e =
    let a = (both_true (pick (spoken x) (leb (code_of x) c_end_option) true) _ (known-fair k)).1 in
    let b = (both_true (pick (valued x) (low (code_of x)) true) _ a).1 in
    let c = (both_true (pick (declaring x) (calm (code_of x)) true) _ b).1 in
    leb-true (code_of x) c_field (sym (ap (λ b. pick b (leb (code_of x) c_field) true) e) ∙ (both_true (pick (eqb (class x) 5) (within c_bit c_int (code_of x)) true) _ c).1)

-- ---- all items of a list
abbrev pub All : (Item → Bool) → List Item → Type 0
All p [] = Unit {0}
All p (x ∷ l) = (p x ≡ true) × All p l

pub all_append : (p : Item → Bool) (x y : List Item) → All p x → All p y → All p (x ++ y)
all_append p [] y a b = b
all_append p (c ∷ x) y a b = (a.0, all_append p x y a.1 b)

pub all-each : {A : Type 0} (p : Item → Bool) (f : A → List Item) → ((a : A) → All p (f a)) → (l : List A) → All p (each f l)
all-each p f h [] = tt
all-each p f h (a ∷ l) = all_append p (f a) (each f l) (h a) (all-each p f h l)

-- ---- statements
all_exp : {s : Shape} (e : Exp s) → All spoken (code_exp e)
unfolding spoken class
all_exp (plain w) = (refl, (refl, tt))
all_exp (indexed w e) = (refl, all_append spoken (code_exp e) (i_index ∷ []) (all_exp e) (refl, tt))
all_exp (num n) = (refl, tt)
all_exp tru = (refl, tt)
all_exp fls = (refl, tt)
all_exp (get r) = all_exp r
all_exp (query mk r) = all_append spoken (code_exp r) (i_query mk ∷ []) (all_exp r) (refl, tt)
all_exp (unary o e) = all_append spoken (code_exp e) (i_unary o ∷ []) (all_exp e) (refl, tt)
all_exp (binary o a b) = all_append spoken (code_exp a ++ code_exp b) (i_binary o ∷ []) (all_append spoken (code_exp a) (code_exp b) (all_exp a) (all_exp b)) (refl, tt)
all_exp (choice a b c) =
    all_append spoken (code_exp a ++ code_exp b ++ i_otherwise ∷ code_exp c) (i_choice ∷ [])
    (all_append spoken (code_exp a ++ code_exp b) (i_otherwise ∷ code_exp c) (all_append spoken (code_exp a) (code_exp b) (all_exp a) (all_exp b)) (refl, all_exp c)) (refl, tt)

one-spoken : (i : Item) → Spoken i ⊎ Framing i → All spoken (i ∷ [])
unfolding spoken class
one-spoken i (inl of_name) = (refl, tt)
one-spoken i (inl of_text) = (refl, tt)
one-spoken i (inl of_number) = (refl, tt)
one-spoken i (inl (of_mark {c} a b n)) = (rw (lt-ltb c c_local (omega arith)) (known (within c_true c_false c)), tt)
  where
    known : (x : Bool) → within 1 2 (pick x 2 1) ≡ true
    known true = refl
    known false = refl
one-spoken i (inl (of_operator a b)) = (refl, tt)
one-spoken i (inr of_label) = (refl, tt)
one-spoken i (inr (of_frame {c} a b)) = (rw (lt-ltb c c_local (omega arith), lt-leb c c_false (omega arith)) (known (leb c_true c)), tt)
  where
    known : (x : Bool) → within 1 2 (pick (both x false) 2 1) ≡ true
    known true = refl
    known false = refl

pub all_tree : {k : Sort} (x : Tree k) → All spoken (code_tree x)
all_tree x = closed_tree (All spoken) tt (all_append spoken) (λ s e. all_exp e) one-spoken x

-- ---- declarations and parameters
all-field : (k : ℕ) → All valued (code_field k)
unfolding valued class
all-field k = (refl, (refl, tt))

pub all-size : (s : Option ℕ) → All valued (code_size s)
unfolding valued class
all-size none = tt
all-size (some n) = (refl, (refl, tt))

pub all_value : (v : Value) → All valued (code_value v)
unfolding valued class
all_value unset = tt
all_value (set_number n) = (refl, (refl, tt))
all_value (set_minus n) = (refl, (refl, tt))
all_value set_true = (refl, (refl, tt))
all_value set_false = (refl, (refl, tt))
all_value (set_name w) = (refl, (refl, tt))
all_value (set_channel n ks) = (refl, (refl, all-each valued code_field all-field ks))

valued-settled : (l : List Item) → All valued l → All settled l
unfolding settled
valued-settled [] a = tt
valued-settled (x ∷ l) a = (rw a.0, valued-settled l a.1)

pub settled-declaring : (x : Item) → settled x ≡ true → declaring x ≡ true
unfolding declaring
settled-declaring x e = rw e

all_variable : (v : Variable) → All settled (code_variable v)
unfolding settled valued class
all_variable (variable w s v) = (refl, (refl, valued-settled (code_size s ++ code_value v) (all_append valued (code_size s) (code_value v) (all-size s) (all_value v))))

pub all_declaration : (i : Item) → settled i ≡ true → (d : Declaration) → All settled (code_declaration i d)
unfolding settled valued class
all_declaration i e (declare k vs) = (refl, (e, all-each settled code_variable all_variable vs))

pub local_settled : settled i_local ≡ true
unfolding settled valued class
local_settled = refl

pub global-settled : settled i_global ≡ true
unfolding settled valued class
global-settled = refl

pub all-declarations : (ds : List Declaration) → All settled (each (code_declaration i_local) ds)
all-declarations ds = all-each settled (code_declaration i_local) (all_declaration i_local local_settled) ds

all_parameter : (w : Name) → All declaring (code_parameter w)
unfolding declaring settled valued class
all_parameter w = (refl, (refl, tt))

all-group : (g : Group) → All declaring (code_group g)
unfolding declaring settled valued class
all-group (group k ws) = (refl, (refl, all-each declaring code_parameter all_parameter ws))

pub all_groups : (gs : List Group) → All declaring (each code_group gs)
all_groups gs = all-each declaring code_group all-group gs
