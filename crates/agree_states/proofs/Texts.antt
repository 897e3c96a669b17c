-- THE TABLES OF AN ACCEPTED TEXT, where they say of its tree what `Surveyed` names: which numbers are a state, the initial state, and one process more, as the code of the stepper makes them.
use Prim.Native.Nat.{ℕ, zero, suc, ◌+◌, ◌-◌, ◌<◌, ◌≤◌}
use native.Mathlib.Omega.{arith}
use mathlib.Core.Path.{◌≡◌, refl, ap, ◌∙◌}
use mathlib.Core.Bool.{true}
use mathlib.Core.List.{List, [], ◌∷◌, ◌++◌}
use lib.ListN.{length, drop}
use lib.IntN.{ℤ}
use Rattle.base_ceilings.specs.Ceilings.{channels_most, processes_most, state_room}
use Rattle.spec_grammar.specs.Tree.{Group, mtypes, global, process, init, Model}
use Rattle.base_codes.specs.Items.{i_init}
use Rattle.parse_code.specs.Code.{each, code_group, code_body, code_activity, code_part, code}
use Rattle.read_passes.specs.Judging.{tables_text}
use Rattle.read_accepts_proof.specs.Meaning.{Accepts}
use Rattle.state_check.specs.Standing.{is_state_of}
use Rattle.state_start.specs.Starting.{initial_of}
use Rattle.step_take.specs.Effects.{called}
use Rattle.spec_rules.specs.Ceilings.{made_by_body, modest}
use Rattle.agree_stage.proofs.Stands.{lying_behind, lying_before, lying_whole}
use Rattle.agree_places.proofs.Heads.{Between}
use Rattle.agree_start.specs.Beginnings.{called_in}
use Rattle.agree_start.proofs.Called.{text-called}
use Rattle.agree_start.proofs.Initial.{text-initial}
use Rattle.spec_machine.specs.Sizes.{size_activity, size_part}
use Rattle.agree_sizes.proofs.Sizes.{size_groups, size_activity_lem, size-part}
use Rattle.spec_machine.specs.State.{State}
use Rattle.spec_machine.specs.Names.{unit_at}
use Rattle.spec_machine.specs.Begins.{items_before, body_in, body_of, begins, initial}
use Rattle.agree_encode.specs.Encode.{head_in, head_of, encode}
use Rattle.spec_machine.specs.Places.{Bodied, body_at, Belongs}
use Rattle.spec_machine.specs.Fits.{Fits}
use Rattle.agree_encode.proofs.Units.{unit-holds}
use Rattle.agree_states.specs.Sites.{groups_of}
use Rattle.agree_states.specs.Charted.{Surveyed, Charted}
use Rattle.agree_states.proofs.Sites.{some-items}
use Rattle.agree_states.proofs.Decode.{state-holds, state-held, state_single}
use Rattle.agree_states.proofs.Charts.{text_charted}
use Rattle.agree_states.proofs.Begun.{called-begins}
use Rattle.agree_states.proofs.Lasting.{begins-fits}
use Rattle.agree_states.proofs.Initial.{initial_is, initially}

-- the parameters of unit k stand between its first item and its body
pub record Params (m : Model) (i k j : ℕ) : Type 0 where
  pub between : Between (code m) i (head_in (unit_at m k) j) (body_in (unit_at m k) j)
  pub groups : between.groups ≡ groups_of (unit_at m k)

unit_between : (m : Model) (k i j : ℕ) → j ≡ i + items_before m k → Bodied (unit_at m k) → Params m i k j
unfolding items_before
unit_between [] k i j e b = absurd b
unit_between (mtypes ws ∷ m) zero i j e b = absurd b
unit_between (global d ∷ m) zero i j e b = absurd b
unit_between (process a w gs x ∷ m) zero i j e b =
    let A = code_activity a w in
    let G = each code_group gs in
    let l = some-items a in
    let y = size_activity_lem a w in
    let z = size_groups gs in
    let u = j + size_activity a - 1 in
    let q : suc (j + size_activity a - 1) ≡ i + length (code_activity a w) = omega arith in
    record {
      between = record {
        groups = gs;
        lies = lying_before (A ++ G ++ code_body x) (code m) G i (suc u) (lying_before (A ++ G) (code_body x) G i (suc u) (lying_behind A G G i (suc u) (suc u) q (lying_whole G (suc u))));
        ends = omega arith;
      };
      groups = refl;
    }
unit_between (init x ∷ m) zero i j e b =
    record {
      between = record { groups = []; lies = record { front = i_init ∷ []; rest = code_body x ++ code m; split = refl; place = omega arith }; ends = omega arith };
      groups = refl;
    }
unit_between (u ∷ m) (suc k) i j e b =
    let r = unit_between m k (i + size_part u) j (omega arith) b in
    record {
      between = record {
        groups = r.between.groups;
        lies = lying_behind (code_part u) (code m) (each code_group r.between.groups) i (i + size_part u) (suc (head_in (unit_at m k) j)) (omega (arith, size-part u)) r.between.lies;
        ends = r.between.ends;
      };
      groups = r.groups;
    }

module _ (t : List ℕ) (a : Accepts t) (small : modest a.tree ≡ true) (S : Surveyed a.tree (tables_text t)) where
  abbrev m : Model
  m = a.tree

  abbrev T : List ℕ
  T = tables_text t

  X : Charted a.tree (tables_text t)
  X = text_charted t a small S

  -- WHAT REFUSAL 9 LETS THROUGH: exactly the numbers that hold a state that fits, and each holds one only
  pub text-holds : (s : List ℤ) → is_state_of (tables_text t) s ≡ true → (σ : State) × (Fits (Belongs a.tree) a.tree σ × (s ≡ encode a.tree σ ++ drop state_room s))
  text-holds s h = state-holds m T X s h

  pub text_held_state : (σ : State) (rest : List ℤ) → Fits (Belongs a.tree) a.tree σ → is_state_of (tables_text t) (encode a.tree σ ++ rest) ≡ true
  text_held_state σ rest f = state-held m T X σ rest f

  pub text_single : (s : List ℤ) (σ τ : State) (x y : List ℤ) → Fits (Belongs a.tree) a.tree σ → Fits (Belongs a.tree) a.tree τ → s ≡ encode a.tree σ ++ x → s ≡ encode a.tree τ ++ y → σ ≡ τ
  text_single s σ τ x y f g p q = state_single m T X s σ τ x y f g p q

  -- THE INITIAL STATE
  pub text-starts : (s : List ℤ) → state_room ≤ length s → initial_of (tables_text t) s ≡ encode a.tree (initial a.tree) ++ drop state_room s
  text-starts s h = text-initial t a s ∙ initial_is m T X small s h

  pub text_initially : Fits (Belongs a.tree) a.tree (initial a.tree)
  text_initially = initially m T X small

  -- ONE MORE PROCESS of unit k, with arguments
  pub text-begins : (k : ℕ) → Bodied (unit_at a.tree k) → (vs : List ℤ) (σ : State) (rest : List ℤ) → Fits (Belongs a.tree) a.tree σ → length σ.processes < processes_most
      → length σ.channels + made_by_body (body_of (unit_at a.tree k)) ≤ channels_most
      → (called (tables_text t) (head_of a.tree k) vs (encode a.tree σ ++ rest) ≡ encode a.tree (begins a.tree k vs σ) ++ rest) × Fits (Belongs a.tree) a.tree (begins a.tree k vs σ)
  text-begins k b vs σ rest F few room =
      let r = unit_between m k 0 (items_before m k) (omega arith) b in (
        text-called t a (unit-holds m k 0 (items_before m k) (omega arith) b) r.between vs (encode m σ ++ rest)
            ∙ ap (λ (gs : List Group). called_in T (head_of m k) gs (body_of (unit_at m k)) (body_at m k) vs (encode m σ ++ rest)) r.groups
            ∙ called-begins m T X k b σ rest few room vs,
        begins-fits m T X k b σ F few room vs,
      )
