-- Bridge, for `demand2` (crate `demands`).
-- WHAT TABLES MUST SAY OF A MODEL'S STATES: the one seam to tables here. `T` are tables, m the model.
use Rattle.std.specs.Prelude.{ℕ, ◌+◌, ◌≤◌, ◌<◌, ◌≡◌, true, false, List, ◌⊎◌, length, get_or, pos}
use Rattle.base_ceilings.specs.Ceilings.{capacity_most, fields_most, globals_most, items_most, numbers_most}
use Rattle.base_codes.specs.Codes.{c_channel, c_init, c_proctype}
use Rattle.table_layout.specs.Access.{items_of, code_of, link_of}
use Rattle.state_layout.specs.Layout.{kept, global_at_lem, local_at}
use Rattle.state_start.specs.Starting.{unit_length, scanned}
use Rattle.step_ready.specs.Channels.{capacity_of, fields_of}
use Rattle.state_types.specs.Fits.{is_global, is_local}
use Rattle.state_check.specs.Standing.{place_at}
use Rattle.agree_start.specs.Beginnings.{value_in}
use Rattle.spec_grammar.specs.Tree.{Name, set_name, set_channel, Model}
use Rattle.spec_machine.specs.State.{Channel}
use Rattle.spec_machine.specs.Names.{variables_of, globals_of, messages_of, unit_at, message_from, number_of}
use Rattle.spec_machine.specs.Begins.{value_of}
use Rattle.spec_machine.specs.Plain.{no_var, declared_by}
use Rattle.agree_encode.specs.Encode.{head_of, channel_item}
use Rattle.spec_machine.specs.Places.{Bodied, Belongs}
use Rattle.agree_encode.specs.Tabled.{offset_of, total_of, Linked}
use Rattle.step_messages.specs.Messages.{field_type}
use Rattle.agree_states.specs.Sites.{chan, no_site, global_sites, sites_at}

-- the item of variable i of the globals
abbrev pub global_item : Model → ℕ → ℕ
global_item m i = (get_or (global_sites m 0) i no_site).item

-- and of unit k
abbrev pub local_item : Model → ℕ → ℕ → ℕ
local_item m k i = (get_or (sites_at m k) i no_site).item

-- where refusal 9 lets a process of the unit that item u begins stand
abbrev pub Placed : List ℕ → ℕ → ℕ → Type 0
Placed T u q = (q ≡ link_of T u) ⊎ ((u < q) × (q < link_of T u) × (place_at T q ≡ true))

-- the `channel` item d has this capacity and these field types
pub record Channelled (T : List ℕ) (d n : ℕ) (ks : List ℕ) : Type 0 where
  pub capacity : capacity_of T d ≡ n
  pub fields : fields_of T d ≡ length ks
  pub types : (f : ℕ) → f < length ks → field_type T d f ≡ get_or ks f 0
  pub room : n ≤ capacity_most
  pub narrow : length ks ≤ fields_most

-- the channel of d is made by a declaration of the model
pub record Made (m : Model) (d : ℕ) : Type 0 where
  pub channel : Channel
  pub capacity : ℕ
  pub types : List ℕ
  pub declared : declared_by m channel ≡ set_channel capacity types
  pub is : channel_item m channel ≡ d

pub record Charted (m : Model) (T : List ℕ) : Type 0 where
  -- ## ceilings
  pub few : items_of T ≤ items_most
  pub globals_few : total_of (globals_of m) ≤ globals_most
  pub locals_few : (k : ℕ) → Bodied (unit_at m k) → total_of (variables_of (unit_at m k)) ≤ numbers_most
  -- ## variables: the items that declare them, and no others
  pub globals : (i : ℕ) → i < length (globals_of m)
      → (global_item m i < scanned T) × (is_global T (global_item m i) ≡ true) × Linked (link_of T (global_item m i)) (get_or (globals_of m) i no_var) (λ p n. global_at_lem n) (offset_of (globals_of m) i)
  pub globals_only : (j : ℕ) → j < scanned T → is_global T j ≡ true → (i : ℕ) × ((i < length (globals_of m)) × (global_item m i ≡ j))
  pub locals : (k : ℕ) → Bodied (unit_at m k) → (i : ℕ) → i < length (variables_of (unit_at m k))
      → (head_of m k ≤ local_item m k i) × (local_item m k i < head_of m k + unit_length T (head_of m k)) × (is_local T (local_item m k i) ≡ true)
      × Linked (link_of T (local_item m k i)) (get_or (variables_of (unit_at m k)) i no_var) local_at (offset_of (variables_of (unit_at m k)) i)
  pub locals_only : (k : ℕ) → Bodied (unit_at m k) → (j : ℕ) → j < unit_length T (head_of m k) → is_local T (head_of m k + j) ≡ true
      → (i : ℕ) × ((i < length (variables_of (unit_at m k))) × (local_item m k i ≡ head_of m k + j))
  -- ## what they start with: a value that makes no channel is the tree's; a channel is no array
  pub worths : (k i : ℕ) → i < length (sites_at m k) → chan (get_or (sites_at m k) i no_site).var.value ≡ false
      → value_in T (get_or (sites_at m k) i no_site).var.value (get_or (sites_at m k) i no_site).worth ≡ value_of m (get_or (sites_at m k) i no_site).var.value
  pub singles : (k i : ℕ) → i < length (sites_at m k) → chan (get_or (sites_at m k) i no_site).var.value ≡ true → (get_or (sites_at m k) i no_site).var.size ≡ 1
  -- ## units, and their places
  pub units : (k : ℕ) → Bodied (unit_at m k) → (c_proctype ≤ code_of T (head_of m k)) × (code_of T (head_of m k) ≤ c_init)
  pub units_only : (u : ℕ) → c_proctype ≤ code_of T u → code_of T u ≤ c_init → (k : ℕ) × (Bodied (unit_at m k) × (head_of m k ≡ u))
  pub places : (k j : ℕ) → Belongs m k j → Placed T (head_of m k) j × (j < items_of T)
  pub places_only : (k j : ℕ) → Bodied (unit_at m k) → Placed T (head_of m k) j → Belongs m k j
  -- ## channels by their declarations
  pub channels : (c : Channel) (n : ℕ) (ks : List ℕ) → declared_by m c ≡ set_channel n ks → Channelled T (channel_item m c) n ks
  pub channel_codes : (c : Channel) (n : ℕ) (ks : List ℕ) → declared_by m c ≡ set_channel n ks → code_of T (channel_item m c) ≡ c_channel
  pub channels_only : (d : ℕ) → code_of T d ≡ c_channel → Made m d

-- what of it is said by names and links; of this the rest follows for accepted texts (`text_charted`, proofs/Charts.antt)
pub record Surveyed (m : Model) (T : List ℕ) : Type 0 where
  pub globals : (i : ℕ) → i < length (globals_of m) → Linked (link_of T (global_item m i)) (get_or (globals_of m) i no_var) (λ p n. global_at_lem n) (offset_of (globals_of m) i)
  pub locals : (k : ℕ) → Bodied (unit_at m k) → (i : ℕ) → i < length (variables_of (unit_at m k))
      → Linked (link_of T (local_item m k i)) (get_or (variables_of (unit_at m k)) i no_var) local_at (offset_of (variables_of (unit_at m k)) i)
  -- a value that is an mtype name is its number
  pub messages : (k i : ℕ) (w : Name) → i < length (sites_at m k) → (get_or (sites_at m k) i no_site).var.value ≡ set_name w
      → kept (link_of T (link_of T ((get_or (sites_at m k) i no_site).worth + 1))) ≡ pos (number_of (message_from 1 (messages_of m) w))
  pub places : (k j : ℕ) → Belongs m k j → Placed T (head_of m k) j × (j < items_of T)
  pub channels : (c : Channel) (n : ℕ) (ks : List ℕ) → declared_by m c ≡ set_channel n ks → Channelled T (channel_item m c) n ks
