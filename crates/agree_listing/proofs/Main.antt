-- WHAT IS SHOWN OF THE NUMBERS OF A STATE OF AN ACCEPTED TEXT, with its tables, is what the specification shows of the plain state, with the tree: with no hypothesis but that the state fits.
use Prim.Native.Nat.{ℕ, ◌-◌, ◌<◌}
use mathlib.Core.Path.{◌≡◌}
use mathlib.Core.List.{List, [], ◌++◌}
use lib.ListN.{length, get_or}
use lib.IntN.{ℤ, pos}
use Rattle.read_passes.specs.Judging.{tables_text}
use Rattle.read_accepts_proof.specs.Meaning.{Accepts}
use Rattle.table_layout.specs.Access.{link_of}
use Rattle.state_layout.specs.Layout.{cell_of, unit_of, declared_of}
use Rattle.step_eval.specs.Variables.{slot_of}
use Rattle.step_ready.specs.Channels.{fields_of}
use Rattle.spec_machine.specs.State.{State, no_channel, no_process}
use Rattle.spec_machine.specs.Names.{variables_of, globals_of, unit_at}
use Rattle.spec_machine.specs.Plain.{no_var}
use Rattle.spec_machine.specs.Places.{Bodied, Belongs}
use Rattle.spec_machine.specs.Fits.{Fits}
use Rattle.agree_encode.specs.Encode.{head_of, encode}
use Rattle.agree_states.specs.Charted.{global_item, local_item, Charted}
use Rattle.agree_states.proofs.Charts.{text_charted}
use Rattle.agree_machine.proofs.Survey.{text-modest, text_surveyed}
use Rattle.write_letters.specs.Tokens.{spelled}
use Rattle.spec_account.specs.Statements.{title_of}
use Rattle.spec_account.specs.States.{message_text, globals_text, locals_text, title_text, channels_text}
use Rattle.show_words.specs.Words.{title_in, message_in}
use Rattle.show_state.specs.Listing.{globals_in, locals_in, channels_in}
use Rattle.agree_listing.proofs.Told.{text-told, unit_titled}
use Rattle.agree_listing.proofs.Shown as shown

module _ (t : List ℕ) (a : Accepts t) where
  pub charted : Charted a.tree (tables_text t)
  charted = text_charted t a (text-modest t a) (text_surveyed t a)

  -- the name of a unit, and of a variable, by the item that declares it
  pub unit_title : (k : ℕ) → Bodied (unit_at a.tree k) → title_in (tables_text t) (head_of a.tree k) ≡ title_of (unit_at a.tree k)
  unit_title k b = unit_titled (tables_text t) a.tree (text-told t a) k b

  pub global-name : (i : ℕ) → i < length (globals_of a.tree) → spelled (tables_text t) (global_item a.tree i - 1) ≡ (get_or (globals_of a.tree) i no_var).name
  global-name i h = shown.global-name a.tree (tables_text t) charted (text-told t a) i h

  pub local_name : (k : ℕ) → Bodied (unit_at a.tree k) → (i : ℕ) → i < length (variables_of (unit_at a.tree k))
      → spelled (tables_text t) (local_item a.tree k i - 1) ≡ (get_or (variables_of (unit_at a.tree k)) i no_var).name
  local_name k b i h = shown.local_name a.tree (tables_text t) charted (text-told t a) k b i h

  module _ (σ : State) (F : Fits (Belongs a.tree) a.tree σ) (rest : List ℤ) where
    -- GLOBALS
    pub globals_shown : globals_in (tables_text t) (encode a.tree σ ++ rest) ≡ globals_text a.tree σ
    globals_shown = shown.globals_shown a.tree (tables_text t) charted (text-told t a) σ F rest

    -- number k of a global variable, for any process
    pub global_number : (i k p : ℕ) → i < length (globals_of a.tree) → k < (get_or (globals_of a.tree) i no_var).size
        → cell_of (encode a.tree σ ++ rest) (slot_of (link_of (tables_text t) (global_item a.tree i)) p k) ≡ get_or (get_or σ.globals i []) k (pos 0)
    global_number = shown.global_number a.tree (tables_text t) charted (text-told t a) σ F rest

    -- PROCESSES
    module _ (p : ℕ) (h : p < length σ.processes) where
      pub title_shown : title_in (tables_text t) (unit_of (encode a.tree σ ++ rest) p) ≡ title_text a.tree σ p
      title_shown = shown.title_shown a.tree (tables_text t) charted (text-told t a) σ F rest p h

      pub locals_shown : locals_in (tables_text t) (encode a.tree σ ++ rest) p ≡ locals_text a.tree σ p
      locals_shown = shown.locals_shown a.tree (tables_text t) charted (text-told t a) σ F rest p h

      pub local_number : (i k : ℕ) → i < length (variables_of (unit_at a.tree (get_or σ.processes p no_process).unit)) → k < (get_or (variables_of (unit_at a.tree (get_or σ.processes p no_process).unit)) i no_var).size
          → cell_of (encode a.tree σ ++ rest) (slot_of (link_of (tables_text t) (local_item a.tree (get_or σ.processes p no_process).unit i)) p k) ≡ get_or (get_or (get_or σ.processes p no_process).variables i []) k (pos 0)
      local_number = shown.local_number a.tree (tables_text t) charted (text-told t a) σ F rest p h

    -- CHANNELS
    pub channels-shown : channels_in (tables_text t) (encode a.tree σ ++ rest) ≡ channels_text a.tree σ 1 σ.channels
    channels-shown = shown.channels-shown a.tree (tables_text t) charted (text-told t a) σ F rest

    -- message k of channel c, from 0
    pub message-shown : (c : ℕ) → c < length σ.channels → (k : ℕ) → k < length (get_or σ.channels c no_channel).held
        → message_in (encode a.tree σ ++ rest) c k (fields_of (tables_text t) (declared_of (encode a.tree σ ++ rest) c)) ≡ message_text (get_or (get_or σ.channels c no_channel).held k [])
    message-shown c h k g = shown.message-shown a.tree (tables_text t) charted (text-told t a) σ F rest c h k g
