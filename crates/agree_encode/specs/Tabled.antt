-- Mechanism, of proofs alone: what `stages_agree` (crate `agree_tables`) asks of tables, on the way to `demand2` (crate `demands`).
-- WHAT TABLES MUST SAY OF A MODEL, so that the stage which they make agrees with the plain one: for the statements of unit u, where names stand for what `at` says, `decl` has for each name the
-- item that declares it, and `head` for each proctype the item that begins it. These are the facts that remain to be proved of the tables of accepted texts.
use Rattle.std.specs.Prelude.{ℕ, zero, suc, ◌+◌, ◌≤◌, ◌<◌, ◌≡◌, Bool, true, false, List, [], ◌∷◌, ◌++◌, length, get_or, ℤ, eqb}
use Rattle.base_ceilings.specs.Ceilings.{capacity_most, channels_most, fields_most, globals_most, items_most, mtypes_most, numbers_most, processes_most}
use Rattle.base_codes.specs.Codes.{c_message, c_name}
use Rattle.base_bytes.specs.Lists.{same}
use Rattle.spec_text.specs.Names.{pid}
use Rattle.table_layout.specs.Access.{code_of, link_of}
use Rattle.state_layout.specs.Layout.{local_at, global_at_lem}
use Rattle.step_eval.specs.Variables.{type_of, size_of, slot_of}
use Rattle.step_ready.specs.Channels.{capacity_of, fields_of}
use Rattle.step_ready.specs.Executing.{channels_in}
use Rattle.step_messages.specs.Messages.{field_type}
use Rattle.step_take.specs.Effects.{called}
use Rattle.spec_grammar.specs.Tree.{Name, set_channel, Model}
use Rattle.spec_rules.specs.Senses.{is_constant}
use Rattle.spec_rules.specs.Roles.{operand, received}
use Rattle.legal_rules.specs.Expressions.{usable}
use Rattle.spec_rules.specs.Ceilings.{made_by_body}
use Rattle.spec_rules.specs.Statements.{Place, sense}
use Rattle.legal_rules.specs.Statements.{runs}
use Rattle.agree_transfer.specs.Agrees.{storable}
use Rattle.spec_machine.specs.State.{Channel, State}
use Rattle.spec_machine.specs.Names.{Var, Meaning, local, global, message, self, unknown, variables_of, globals_of, unit_at, proctype_of, meant}
use Rattle.spec_machine.specs.Begins.{body_of, begins}
use Rattle.spec_machine.specs.Plain.{no_var, declared_by, is_message}
use Rattle.agree_encode.specs.Encode.{channel_item, encode}
use Rattle.spec_machine.specs.Fits.{Fits}

-- how many numbers the first i variables have, and all of them
abbrev pub offset_of : List Var → ℕ → ℕ
offset_of [] i = 0
offset_of (x ∷ xs) zero = 0
offset_of (x ∷ xs) (suc i) = x.size + offset_of xs i

abbrev pub total_of : List Var → ℕ
total_of [] = 0
total_of (x ∷ xs) = x.size + total_of xs

-- a name's meaning is a variable
abbrev pub is_variable : Meaning → Bool
is_variable (local i x) = true
is_variable (global i x) = true
is_variable (message n) = false
is_variable self = false
is_variable unknown = false

-- the link l is that of the variable x, whose numbers begin at `at` of each process
pub record Linked (l : ℕ) (x : Var) (at : ℕ → ℕ → ℕ) (i : ℕ) : Type 0 where
  pub type : type_of l ≡ x.type
  pub size : size_of l ≡ x.size
  pub slot : (p k : ℕ) → k < x.size → slot_of l p k ≡ at p (i + k)

-- what item d is, for a name of this meaning
pub data Item (T : List ℕ) (m : Model) (u d : ℕ) : Meaning → Type 0 where
  of_local : {i : ℕ} {x : Var} → i < length (variables_of (unit_at m u)) → get_or (variables_of (unit_at m u)) i no_var ≡ x → 1 ≤ x.size → eqb (code_of T d) c_message ≡ false → eqb (code_of T d) c_name ≡ false
      → Linked (link_of T d) x local_at (offset_of (variables_of (unit_at m u)) i) → Item T m u d (local i x)
  of_global : {i : ℕ} {x : Var} → i < length (globals_of m) → get_or (globals_of m) i no_var ≡ x → 1 ≤ x.size → eqb (code_of T d) c_message ≡ false → eqb (code_of T d) c_name ≡ false
      → Linked (link_of T d) x (λ p k. global_at_lem k) (offset_of (globals_of m) i) → Item T m u d (global i x)
  of_message : {n : ℕ} → code_of T d ≡ c_message → link_of T d ≡ n → n ≤ mtypes_most → Item T m u d (message n)

pub record Tabled (P : ℕ → ℕ → Type 0) (m : Model) (u : ℕ) (at : Place) (T : List ℕ) (decl head : Name → ℕ) : Type 0 where
  -- ## names
  pub names : (w : Name) → same w pid ≡ false → usable (sense at) operand false w ≡ true → Item T m u (decl w) (meant m (unit_at m u) w)
  pub stores : (w : Name) → storable (sense at) w ≡ true → (Item T m u (decl w) (meant m (unit_at m u) w)) × (is_variable (meant m (unit_at m u) w) ≡ true)
  pub constants : (w : Name) (i : Bool) → usable (sense at) received i w ≡ true → (is_message m 0 (meant m (unit_at m u) w) ≡ is_constant (sense at w)) × (eqb (code_of T (decl w)) c_message ≡ is_constant (sense at w))
  -- ## ceilings
  pub globals : total_of (globals_of m) ≤ globals_most
  pub locals : total_of (variables_of (unit_at m u)) ≤ numbers_most
  -- ## channels by their declarations
  pub channels : (c : Channel) (n : ℕ) (ks : List ℕ) → declared_by m c ≡ set_channel n ks
      → (channel_item m c ≤ items_most) × (capacity_of T (channel_item m c) ≡ n) × (fields_of T (channel_item m c) ≡ length ks) × (n ≤ capacity_most) × (length ks ≤ fields_most)
  pub fields : (c : Channel) (n : ℕ) (ks : List ℕ) → declared_by m c ≡ set_channel n ks → (f : ℕ) → f < length ks → field_type T (channel_item m c) f ≡ get_or ks f 0
  -- ## proctypes
  pub makes : (w : Name) (n : ℕ) → runs at w n ≡ true → channels_in T (head w) ≡ made_by_body (body_of (unit_at m (proctype_of m w)))
  pub begins : (w : Name) (vs : List ℤ) → runs at w (length vs) ≡ true → (σ : State) (t : List ℤ) → Fits P m σ → length σ.processes < processes_most
      → length σ.channels + made_by_body (body_of (unit_at m (proctype_of m w))) ≤ channels_most
      → (called T (head w) vs (encode m σ ++ t) ≡ encode m (begins m (proctype_of m w) vs σ) ++ t) × Fits P m (begins m (proctype_of m w) vs σ)
