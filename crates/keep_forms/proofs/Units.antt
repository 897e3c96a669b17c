-- Declarations and units fit, and so does a whole model.
use Prim.Native.Nat.{ℕ}
use mathlib.Core.Path.{◌≡◌, refl, sym, subst}
use mathlib.Core.Bool.{Bool, true, false}
use mathlib.Core.List.{List, [], ◌∷◌, ◌++◌}
use lib.Dec.{eqb}
use Rattle.base_bytes.specs.Choice.{pick}
use Rattle.base_kinds.specs.Kinds.{Token}
use Rattle.spec_grammar.specs.Tree.{Tree, sequence, Name, Variable, Declaration, Group, Body, body, Activity, idle, once, times, Part, Model}
use Rattle.spec_grammar.specs.Grammar.{IsType, is_bit, is_bool, is_byte, is_mtype, is_pid, is_chan, is_short, is_int, AName, AType, a_type, v_number, v_minus, v_true, v_false, v_name, AVariable, x_bare, x_set, x_array, x_array_set, x_channel, ADeclaration, declaration, AGroup, a_group, Items, statements, declared, ABody, a_body, AUnit, u_mtypes, u_global, u_process, u_init, Gram, g_last, g_more}
use Rattle.base_codes.specs.Items.{Item, i_active_many, i_body, i_end_body, i_field, i_global, i_group, i_init, i_local, i_mtypes, i_name, i_type}
use Rattle.base_codes.specs.Sets.{is_part, is_alone, is_lead}
use Rattle.parse_code.specs.Code.{each, code_tree, code_field, code_variable, code_declaration, code_parameter, code_group, code_body, code_activity, code_message, code_part, code}
use Rattle.keep_forms.specs.Forms.{Form, form, step, fits}
use Rattle.keep_forms.proofs.Passes.{Passes, join}
use Rattle.keep_forms.proofs.Statements.{All, listed-all, maybe_all, each-passes, fine}

-- between declarations, where the item before may be a declared name
abbrev flat : ℕ → ℕ → Form
flat z n = form z 0 0 false false false false 0 n

abbrev Flat : ℕ → Form → Type 0
Flat z s = (n : ℕ) × (s ≡ flat z n)

-- ---- types
type_passes : {k : ℕ} → IsType k → (z n : ℕ) (i : List Item) (K : Form → Type 0) → Passes i (flat z 0) K → Passes (i_type k ∷ i) (flat z n) K
unfolding fits step is_part is_alone is_lead
type_passes is_bit z n i K k = (refl, k)
type_passes is_bool z n i K k = (refl, k)
type_passes is_byte z n i K k = (refl, k)
type_passes is_mtype z n i K k = (refl, k)
type_passes is_pid z n i K k = (refl, k)
type_passes is_chan z n i K k = (refl, k)
type_passes is_short z n i K k = (refl, k)
type_passes is_int z n i K k = (refl, k)

type_of : (ts : List Token) (k : ℕ) → AType ts k → IsType k
type_of _ _ (a_type x) = x

-- over each of a list, in a zone
module _ (z : ℕ) where
  flats : {A : Type 0} (P : A → Type 0) (f : A → List Item) → ((a : A) → P a → (n : ℕ) (K : Form → Type 0) → ((n : ℕ) → K (flat z n)) → Passes (f a) (flat z n) K)
      → (l : List A) → All P l → (n : ℕ) (K : Form → Type 0) → ((n : ℕ) → K (flat z n)) → Passes (each f l) (flat z n) K
  flats P f h l a n K k =
      each-passes P f (Flat z) (λ x p s q K k. subst (λ s. Passes (f x) s K) (sym q.1) (h x p q.0 K (λ n. k (flat z n) (n, refl)))) l a (flat z n) (n, refl) K
      (λ s q. subst K (sym q.1) (k q.0))

  -- ---- variables
  field-passes : (k : ℕ) → IsType k → (n : ℕ) (K : Form → Type 0) → ((n : ℕ) → K (flat z n)) → Passes (code_field k) (flat z n) K
  unfolding fits step is_part is_alone is_lead
  field-passes k t n K h = type_passes t z n (i_field ∷ []) K (refl, h 0)

  variable_passes : {c : ℕ} (ts : List Token) (v : Variable) → AVariable c ts v → (n : ℕ) (K : Form → Type 0) → ((n : ℕ) → K (flat z n)) → Passes (code_variable v) (flat z n) K
  unfolding fits step is_part is_alone is_lead
  variable_passes _ _ x_bare n K h = (refl, (refl, h 1))
  variable_passes _ _ (x_set v_number) n K h = (refl, (refl, (refl, (refl, h 0))))
  variable_passes _ _ (x_set v_minus) n K h = (refl, (refl, (refl, (refl, h 0))))
  variable_passes _ _ (x_set v_true) n K h = (refl, (refl, (refl, (refl, h 0))))
  variable_passes _ _ (x_set v_false) n K h = (refl, (refl, (refl, (refl, h 0))))
  variable_passes _ _ (x_set v_name) n K h = (refl, (refl, (refl, (refl, h 0))))
  variable_passes _ _ x_array n K h = (refl, (refl, (refl, (refl, h 0))))
  variable_passes _ _ (x_array_set v_number) n K h = (refl, (refl, (refl, (refl, (refl, (refl, h 0))))))
  variable_passes _ _ (x_array_set v_minus) n K h = (refl, (refl, (refl, (refl, (refl, (refl, h 0))))))
  variable_passes _ _ (x_array_set v_true) n K h = (refl, (refl, (refl, (refl, (refl, (refl, h 0))))))
  variable_passes _ _ (x_array_set v_false) n K h = (refl, (refl, (refl, (refl, (refl, (refl, h 0))))))
  variable_passes _ _ (x_array_set v_name) n K h = (refl, (refl, (refl, (refl, (refl, (refl, h 0))))))
  variable_passes _ _ (x_channel {ks = ks} x) n K h = (refl, (refl, (refl, (refl, flats IsType code_field (λ k t n K h. field-passes k t n K h) ks (listed-all IsType _ AType type_of _ ks x) 0 K h))))

  -- the mark is `local` or `global`
  declaration_passes : (i : Item) → ((K : Form → Type 0) → K (flat z 0) → Passes (i ∷ []) (flat z 0) K) → (ts : List Token) (d : Declaration) → ADeclaration ts d
      → (n : ℕ) (K : Form → Type 0) → ((n : ℕ) → K (flat z n)) → Passes (code_declaration i d) (flat z n) K
  declaration_passes i m _ _ (declaration {k = c} {xs = xs} t x) n K h =
      type_passes t z n (i ∷ each code_variable xs) K
      (join (i ∷ []) (each code_variable xs) (flat z 0) K
      (m (λ s. Passes (each code_variable xs) s K)
      (flats (λ v. (ts : List Token) × AVariable c ts v) code_variable (λ v p n K h. variable_passes p.0 v p.1 n K h) xs (listed-all _ _ (AVariable c) (λ ts v p. (ts, p)) _ xs x) 0 K h)))

local_passes : (K : Form → Type 0) → K (flat 2 0) → Passes (i_local ∷ []) (flat 2 0) K
unfolding fits step is_part is_alone is_lead
local_passes K k = (refl, k)

global-passes : (K : Form → Type 0) → K (flat 0 0) → Passes (i_global ∷ []) (flat 0 0) K
unfolding fits step is_part is_alone is_lead
global-passes K k = (refl, k)

-- ---- bodies
end_passes : (K : Form → Type 0) → K (flat 0 0) → Passes (i_end_body ∷ []) (flat 2 0) K
unfolding fits step is_part is_alone is_lead
end_passes K k = (refl, k)

items-passes : (ts : List Token) (ds : List Declaration) (q : Tree sequence) → Items ts (body ds q) → (n : ℕ) (K : Form → Type 0) → K (flat 0 0)
    → Passes (each (code_declaration i_local) ds) (flat 2 n) (λ s. Passes (code_tree q) s (λ s. Passes (i_end_body ∷ []) s K))
items-passes _ _ q (statements x) n K k = fine x 0 0 false n _ (end_passes K k)
items-passes _ _ q (declared {d = d} {ds = ds} x y z) n K k =
    join (code_declaration i_local d) (each (code_declaration i_local) ds) (flat 2 n) _ (declaration_passes 2 i_local local_passes _ d x n _ (λ n. items-passes _ ds q z n K k))

body_passes : (ts : List Token) (b : Body) → ABody ts b → (n : ℕ) (K : Form → Type 0) → K (flat 0 0) → Passes (code_body b) (flat 1 n) K
unfolding fits step is_part is_alone is_lead
body_passes _ (body ds q) (a_body x) n K k =
    join (i_body ∷ each (code_declaration i_local) ds ++ code_tree q) (i_end_body ∷ []) (flat 1 n) K
    (join (i_body ∷ each (code_declaration i_local) ds) (code_tree q) (flat 1 n) _ (refl, items-passes _ ds q x 0 K k))

-- ---- units
parameter_passes : (w : Name) → (n : ℕ) (K : Form → Type 0) → ((n : ℕ) → K (flat 1 n)) → Passes (code_parameter w) (flat 1 n) K
unfolding fits step is_part is_alone is_lead
parameter_passes w n K h = (refl, (refl, h 0))

message-passes : (w : Name) → (n : ℕ) (K : Form → Type 0) → ((n : ℕ) → K (flat 0 n)) → Passes (code_message w) (flat 0 n) K
unfolding fits step is_part is_alone is_lead
message-passes w n K h = (refl, (refl, h 0))

any_name : (ts : List Token) (w : Name) → AName ts w → Unit {0}
any_name ts w x = tt

group-passes : (ts : List Token) (g : Group) → AGroup ts g → (n : ℕ) (K : Form → Type 0) → ((n : ℕ) → K (flat 1 n)) → Passes (code_group g) (flat 1 n) K
unfolding fits step is_part is_alone is_lead
group-passes _ _ (a_group {ws = ws} t x) n K h =
    type_passes t 1 n (i_group ∷ each code_parameter ws) K (refl, flats 1 (λ w. Unit {0}) code_parameter (λ w p n K h. parameter_passes w n K h) ws (listed-all _ _ AName any_name _ ws x) 0 K h)

-- the number of an active-many may stand behind a declared name
many-passes : (w : Name) (b : Bool) (K : Form → Type 0) → K (flat 1 0) → Passes (i_name w ∷ i_active_many ∷ []) (form 0 0 0 true false false false 0 (pick b 2 3)) K
unfolding fits step is_part is_alone is_lead
many-passes w true K k = (refl, (refl, k))
many-passes w false K k = (refl, (refl, k))

activity_passes : (a : Activity) (w : Name) (n : ℕ) (K : Form → Type 0) → K (flat 1 0) → Passes (code_activity a w) (flat 0 n) K
unfolding fits step is_part is_alone is_lead
activity_passes idle w n K k = (refl, (refl, k))
activity_passes once w n K k = (refl, (refl, k))
activity_passes (times v) w n K k = (refl, many-passes w (eqb n 1) K k)

init_passes : (b : Body) (n : ℕ) (K : Form → Type 0) → Passes (code_body b) (flat 1 0) K → Passes (i_init ∷ code_body b) (flat 0 n) K
unfolding fits step is_part is_alone is_lead
init_passes b n K k = (refl, k)

mtypes_passes : (l : List Item) (n : ℕ) (K : Form → Type 0) → Passes l (flat 0 0) K → Passes (i_mtypes ∷ l) (flat 0 n) K
unfolding fits step is_part is_alone is_lead
mtypes_passes l n K k = (refl, k)

unit-passes : (ts : List Token) (u : Part) → AUnit ts u → (n : ℕ) (K : Form → Type 0) → ((n : ℕ) → K (flat 0 n)) → Passes (code_part u) (flat 0 n) K
unit-passes _ _ (u_mtypes {ws = ws} x) n K h =
    mtypes_passes (each code_message ws) n K (flats 0 (λ w. Unit {0}) code_message (λ w p n K h. message-passes w n K h) ws (listed-all _ _ AName any_name _ ws x) 0 K h)
unit-passes _ _ (u_global {d = d} x) n K h = declaration_passes 0 i_global global-passes _ d x n K h
unit-passes _ _ (u_process {a = a} {w = w} {gs = gs} {b = b} x y z) n K h =
    join (code_activity a w ++ each code_group gs) (code_body b) (flat 0 n) K
    (join (code_activity a w) (each code_group gs) (flat 0 n) _
    (activity_passes a w n _
    (flats 1 (λ g. (ts : List Token) × AGroup ts g) code_group (λ g p n K h. group-passes p.0 g p.1 n K h) gs (maybe_all _ _ AGroup (λ ts g p. (ts, p)) _ gs y) 0 _
    (λ n. body_passes _ b z n K (h 0)))))
unit-passes _ _ (u_init {b = b} x) n K h = init_passes b n K (body_passes _ b x 0 K (h 0))

pub model-passes : (ts : List Token) (m : Model) → Gram ts m → (n : ℕ) (K : Form → Type 0) → ((n : ℕ) → K (flat 0 n)) → Passes (code m) (flat 0 n) K
model-passes _ _ (g_last {u = u} x y) n K h = join (code_part u) [] (flat 0 n) K (unit-passes _ u x n _ h)
model-passes _ _ (g_more {u = u} {m = m} x y z) n K h = join (code_part u) (code m) (flat 0 n) K (unit-passes _ u x n _ (λ n. model-passes _ m z n K h))
