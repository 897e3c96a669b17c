-- Document 01, "How it moves": "Storing keeps low bits", "Channels count from 1 as made", "a send when the channel is not full; a receive when it is not empty", "`run` when a process and
-- its channels still fit", "Sent values are cast to field types", "a new one takes the next number". The stage of a process in a plain state: what its statements see there and can change.
use Rattle.std.specs.Prelude.{ℕ, ◌+◌, ◌-◌, Bool, true, false, List, [], ◌∷◌, length, get_or, set, ℤ, pos, ltb, leb}
use Rattle.base_ceilings.specs.Ceilings.{channels_most, processes_most}
use Rattle.base_bytes.specs.Choice.{both}
use Rattle.base_bytes.specs.Numbers.{nat}
use Rattle.base_values.specs.Types.{cast_of}
use Rattle.spec_grammar.specs.Tree.{Value, unset, set_number, set_minus, set_true, set_false, set_name, set_channel, Part, Model}
use Rattle.spec_rules.specs.Ceilings.{made_by_body}
use Rattle.spec_machine.specs.Eval.{Scene}
use Rattle.spec_machine.specs.Stage.{Stage}
use Rattle.spec_machine.specs.Messages.{put_at, take_at_lem}
use Rattle.spec_machine.specs.State.{Channel, Process, State, no_channel, no_process}
use Rattle.spec_machine.specs.Names.{Var, Meaning, local, global, message, self, unknown, variables_of, unit_at, proctype_of, meant}
use Rattle.spec_machine.specs.Begins.{body_of, begins}

-- ## channels by their numbers, from 1; capacity and field types are those of the declaration
abbrev pub channel_at : State → ℤ → Channel
channel_at σ v = get_or σ.channels (nat v - 1) no_channel

abbrev pub capacity_in : Value → ℕ
capacity_in unset = 0
capacity_in (set_number n) = 0
capacity_in (set_minus n) = 0
capacity_in set_true = 0
capacity_in set_false = 0
capacity_in (set_name w) = 0
capacity_in (set_channel n ks) = n

abbrev pub types_in : Value → List ℕ
types_in unset = []
types_in (set_number n) = []
types_in (set_minus n) = []
types_in set_true = []
types_in set_false = []
types_in (set_name w) = []
types_in (set_channel n ks) = ks

abbrev pub no_var : Var
no_var = record { name = []; type = 0; size = 0; value = unset }

-- the value of the declaration that made it
abbrev pub declared_by : Model → Channel → Value
declared_by m c = (get_or (variables_of (unit_at m c.unit)) c.variable no_var).value

-- ## changes
abbrev pub one_stored : List (List ℤ) → ℕ → ℕ → ℤ → List (List ℤ)
one_stored l i k v = set l i (set (get_or l i []) k v)

abbrev pub with_globals : List (List ℤ) → State → State
with_globals l σ = record { globals = l; processes = σ.processes; channels = σ.channels }

abbrev pub with_process : ℕ → Process → State → State
with_process p x σ = record { globals = σ.globals; processes = set σ.processes p x; channels = σ.channels }

abbrev pub with_channel : ℕ → List (List ℤ) → State → State
with_channel n held σ =
    record {
      globals = σ.globals;
      processes = σ.processes;
      channels = set σ.channels n record { unit = (get_or σ.channels n no_channel).unit; variable = (get_or σ.channels n no_channel).variable; held = held };
    }

-- "Sent values are cast to field types"
abbrev pub cast_all : List ℕ → List ℤ → List ℤ
cast_all [] vs = []
cast_all (k ∷ ks) [] = []
cast_all (k ∷ ks) (v ∷ vs) = cast_of k v ∷ cast_all ks vs

module _ (m : Model) (p : ℕ) where
  abbrev pub process_at_lem : State → Process
  process_at_lem σ = get_or σ.processes p no_process

  -- ## variables
  abbrev pub numbers_of : State → Meaning → List ℤ
  numbers_of σ (local i x) = get_or (process_at_lem σ).variables i []
  numbers_of σ (global i x) = get_or σ.globals i []
  numbers_of σ (message n) = pos n ∷ []
  numbers_of σ self = pos p ∷ []
  numbers_of σ unknown = []

  abbrev pub size_meant : Meaning → ℕ
  size_meant (local i x) = x.size
  size_meant (global i x) = x.size
  size_meant (message n) = 1
  size_meant self = 1
  size_meant unknown = 0

  abbrev pub is_message : Meaning → Bool
  is_message (local i x) = false
  is_message (global i x) = false
  is_message (message n) = true
  is_message self = false
  is_message unknown = false

  -- "Storing keeps low bits"
  abbrev pub stored : Meaning → ℕ → ℤ → State → State
  stored (local i x) k v σ =
      with_process p record { unit = (process_at_lem σ).unit; place = (process_at_lem σ).place; variables = one_stored (process_at_lem σ).variables i k (cast_of x.type v) } σ
  stored (global i x) k v σ = with_globals (one_stored σ.globals i k (cast_of x.type v)) σ
  stored (message n) k v σ = σ
  stored self k v σ = σ
  stored unknown k v σ = σ

  abbrev pub goes : ℕ → State → State
  goes n σ = with_process p record { unit = (process_at_lem σ).unit; place = n; variables = (process_at_lem σ).variables } σ

  -- the scene and the stage of process p, whose unit is u, in the state σ
  abbrev pub plain_scene : Part → State → Scene
  plain_scene u σ =
      record {
        number = λ w. get_or (numbers_of σ (meant m u w)) 0 (pos 0);
        size = λ w. size_meant (meant m u w);
        element = λ w k. get_or (numbers_of σ (meant m u w)) k (pos 0);
        made = λ v. both (ltb 0 (nat v)) (leb (nat v) (length σ.channels));
        waiting = λ v. length (channel_at σ v).held;
      }

  abbrev pub plain_stage : Part → State → Stage State
  plain_stage u σ =
      record {
        scene = plain_scene u σ;
        constant = λ w. is_message (meant m u w);
        capacity = λ v. capacity_in (declared_by m (channel_at σ v));
        fields = λ v. length (types_in (declared_by m (channel_at σ v)));
        message = λ v k f. get_or (get_or (channel_at σ v).held k []) f (pos 0);
        room = λ w. both (ltb (length σ.processes) processes_most) (leb (length σ.channels + made_by_body (body_of (unit_at m (proctype_of m w)))) channels_most);
        newest = pos (length σ.processes);
        store = λ w k v x. stored (meant m u w) k v x;
        put = λ v k l x. with_channel (nat v - 1) (put_at k (cast_all (types_in (declared_by m (channel_at x v))) l) (channel_at x v).held) x;
        take = λ v k x. with_channel (nat v - 1) (take_at_lem k (channel_at x v).held) x;
        begin = λ w l x. begins m (proctype_of m w) l x;
        go = λ n x. goes n x;
      }
