-- WHAT A STEP DOES TO A STATE OF THE MODEL leaves one: values stored, messages put and taken, places.
use Prim.Native.Nat.{ℕ, zero, suc, ◌+◌, ◌<◌, ◌≤◌}
use native.Mathlib.Omega.{arith}
use mathlib.Core.Path.{◌≡◌, refl, sym as inv, ap, ap₂, ◌∙◌, subst}
use mathlib.Core.List.{List, [], ◌∷◌, ◌++◌}
use lib.ListN.{length, get_or, set, length-append, length-set}
use lib.IntN.{ℤ, pos}
use Rattle.base_ceilings.specs.Ceilings.{channels_most, processes_most}
use Rattle.base_values.specs.Types.{cast_of}
use Rattle.base_values.proofs.Laws.{cast_twice}
use Rattle.spec_grammar.specs.Tree.{Model}
use Rattle.spec_machine.specs.State.{Channel, Process, State, no_channel, no_process}
use Rattle.spec_machine.specs.Names.{Var, globals_of}
use Rattle.spec_machine.specs.Plain.{no_var, one_stored, with_globals, with_process, with_channel, cast_all, goes}
use Rattle.agree_encode.specs.Encode.{flat}
use Rattle.spec_machine.specs.Fits.{Typed, Filled, Fielded, ChannelFits, ProcessFits, Fits}
use Rattle.agree_encode.specs.Tabled.{offset_of, total_of}
use Rattle.agree_encode.proofs.Rows.{ahead}

-- ---- one element changed, one added
pub at_set : {A : Type 0} (Q : ℕ → A → Type 0) (l : List A) (p : ℕ) (y d : A) → ((q : ℕ) → q < length l → Q q (get_or l q d)) → (p < length l → Q p y) → (q : ℕ) → q < length l
    → Q q (get_or (set l p y) q d)
at_set Q [] p y d h g q e = absurd (omega arith)
at_set Q (x ∷ l) zero y d h g zero e = g (omega arith)
at_set Q (x ∷ l) zero y d h g (suc q) e = h (suc q) e
at_set Q (x ∷ l) (suc p) y d h g zero e = h 0 e
at_set Q (x ∷ l) (suc p) y d h g (suc q) e = at_set (λ i. Q (suc i)) l p y d (λ i k. h (suc i) (omega arith)) (λ k. g (omega arith)) q (omega arith)

pub at_more : {A : Type 0} (Q : A → Type 0) (l : List A) (y d : A) → ((q : ℕ) → q < length l → Q (get_or l q d)) → Q y → (q : ℕ) → q < length (l ++ y ∷ []) → Q (get_or (l ++ y ∷ []) q d)
at_more Q [] y d h g zero e = g
at_more Q [] y d h g (suc q) e = absurd (omega arith)
at_more Q (x ∷ l) y d h g zero e = h 0 (omega arith)
at_more Q (x ∷ l) y d h g (suc q) e = at_more Q l y d (λ i k. h (suc i) (omega arith)) g q (omega arith)

-- ---- variables
pub ahead_is : (xs : List Var) (l : List (List ℤ)) → length l ≡ length xs → ((i : ℕ) → i < length xs → length (get_or l i []) ≡ (get_or xs i no_var).size) → (i : ℕ) → ahead l i ≡ offset_of xs i
ahead_is [] [] e h i = refl
ahead_is [] (y ∷ l) e h i = absurd (omega arith)
ahead_is (x ∷ xs) [] e h i = absurd (omega arith)
ahead_is (x ∷ xs) (y ∷ l) e h zero = refl
ahead_is (x ∷ xs) (y ∷ l) e h (suc i) = ap₂ ◌+◌ (h 0 (omega arith)) (ahead_is xs l (omega arith) (λ j k. h (suc j) (omega arith)) i)

pub flat_long : (xs : List Var) (l : List (List ℤ)) → length l ≡ length xs → ((i : ℕ) → i < length xs → length (get_or l i []) ≡ (get_or xs i no_var).size) → length (flat l) ≡ total_of xs
flat_long [] [] e h = refl
flat_long [] (y ∷ l) e h = absurd (omega arith)
flat_long (x ∷ xs) [] e h = absurd (omega arith)
flat_long (x ∷ xs) (y ∷ l) e h = length-append y (flat l) ∙ ap₂ ◌+◌ (h 0 (omega arith)) (flat_long xs l (omega arith) (λ j k. h (suc j) (omega arith)))

typed_set : (ty : ℕ) (l : List ℤ) (k : ℕ) (v : ℤ) → Typed ty l → cast_of ty v ≡ v → Typed ty (set l k v)
typed_set ty l k v h e i g = at_set (λ j z. cast_of ty z ≡ z) l k v (pos 0) h (λ q. e) i (subst (i <◌) (length-set l k v) g)

pub values-stored : (xs : List Var) (l : List (List ℤ)) (i k : ℕ) (v : ℤ) → i < length xs → Filled xs l → Filled xs (one_stored l i k (cast_of (get_or xs i no_var).type v))
values-stored xs l i k v h w =
    let ty = (get_or xs i no_var).type in
    let y = set (get_or l i []) k (cast_of (get_or xs i no_var).type v) in
    record {
      all = length-set l i y ∙ w.all;
      sized = λ j g. at_set (λ n z. length z ≡ (get_or xs n no_var).size) l i y [] (λ n q. w.sized n (subst (n <◌) w.all q)) (λ q. length-set (get_or l i []) k (cast_of ty v) ∙ w.sized i h) j
          (subst (j <◌) (inv w.all) g);
      typed = λ j g. at_set (λ n z. Typed (get_or xs n no_var).type z) l i y [] (λ n q. w.typed n (subst (n <◌) w.all q))
          (λ q. typed_set ty (get_or l i []) k (cast_of ty v) (w.typed i h) (cast_twice ty v)) j (subst (j <◌) (inv w.all) g);
    }

-- ---- messages
pub cast_message : (ks : List ℕ) (vs : List ℤ) → length vs ≡ length ks → Fielded ks (cast_all ks vs)
cast_message [] vs e = record { long = refl; typed = λ i h. absurd (omega arith) }
cast_message (k ∷ ks) [] e = absurd (omega arith)
cast_message (k ∷ ks) (v ∷ vs) e = let r = cast_message ks vs (omega arith) in record { long = ap suc r.long; typed = go r.typed }
  where
    go : ((i : ℕ) → i < length ks → cast_of (get_or ks i 0) (get_or (cast_all ks vs) i (pos 0)) ≡ get_or (cast_all ks vs) i (pos 0)) → (i : ℕ) → i < suc (length ks)
        → cast_of (get_or (k ∷ ks) i 0) (get_or (cast_of k v ∷ cast_all ks vs) i (pos 0)) ≡ get_or (cast_of k v ∷ cast_all ks vs) i (pos 0)
    go r zero h = cast_twice k v
    go r (suc i) h = r i (omega arith)

module _ (P : ℕ → ℕ → Type 0) (m : Model) (σ : State) (f : Fits P m σ) where
  pub process-fits : (p : ℕ) (y : Process) → ProcessFits P m y → Fits P m (with_process p y σ)
  process-fits p y s =
      record {
        globals = f.globals;
        processes = subst (◌≤ processes_most) (inv (length-set σ.processes p y)) f.processes;
        channels = f.channels;
        each = λ q h. at_set (λ i z. ProcessFits P m z) σ.processes p y no_process f.each (λ g. s) q (subst (q <◌) (length-set σ.processes p y) h);
        queues = f.queues;
      }

  pub globals_fit : (l : List (List ℤ)) → Filled (globals_of m) l → Fits P m (with_globals l σ)
  globals_fit l v = record { globals = v; processes = f.processes; channels = f.channels; each = f.each; queues = f.queues }

  pub channel-fits : (c : ℕ) (held : List (List ℤ))
      → ChannelFits m (record { unit = (get_or σ.channels c no_channel).unit; variable = (get_or σ.channels c no_channel).variable; held = held }) → Fits P m (with_channel c held σ)
  channel-fits c held s =
      let y : Channel = record { unit = (get_or σ.channels c no_channel).unit; variable = (get_or σ.channels c no_channel).variable; held = held } in
      record {
        globals = f.globals;
        processes = f.processes;
        channels = subst (◌≤ channels_most) (inv (length-set σ.channels c y)) f.channels;
        each = f.each;
        queues = λ q h. at_set (λ i z. ChannelFits m z) σ.channels c y no_channel f.queues (λ g. s) q (subst (q <◌) (length-set σ.channels c y) h);
      }

  pub go_fits : (p n : ℕ) → p < length σ.processes → P (get_or σ.processes p no_process).unit n → Fits P m (goes m p n σ)
  go_fits p n h g = let x = get_or σ.processes p no_process in process-fits p record { unit = x.unit; place = n; variables = x.variables } record { place = g; values = (f.each p h).values }
