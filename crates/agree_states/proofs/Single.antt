-- A STATE THAT FITS IS DETERMINED BY ITS NUMBERS (`encode_one`), for tables that chart the model.
use Prim.Native.Nat.{ℕ, suc, ◌+◌, ◌<◌}
use native.Mathlib.Omega.{arith}
use mathlib.Core.Path.{◌≡◌, refl, sym as inv, ap, ap₂, ◌∙◌, subst}
use mathlib.Core.List.{List, [], ◌∷◌, ◌++◌}
use lib.ListN.{length, get_or}
use lib.IntN.{ℤ, pos}
use Rattle.state_layout.specs.Layout.{cell_of, global_at_lem, local_at, field_at, processes_of, channels_of, unit_of, place_of, declared_of, waiting_of}
use Rattle.step_ready.specs.Channels.{fields_of}
use Rattle.spec_grammar.specs.Tree.{Model}
use Rattle.spec_machine.specs.State.{Channel, Process, State, no_channel, no_process}
use Rattle.spec_machine.specs.Names.{Var, variables_of, globals_of, unit_at}
use Rattle.spec_machine.specs.Plain.{no_var}
use Rattle.agree_encode.specs.Encode.{flat, channel_item, encode}
use Rattle.spec_machine.specs.Places.{Belongs}
use Rattle.spec_machine.specs.Fits.{Filled, Fits}
use Rattle.agree_encode.specs.Tabled.{offset_of, total_of}
use Rattle.agree_states.specs.Charted.{Charted}
use Rattle.agree_states.proofs.Slices.{offset_reach}
use Rattle.agree_states.proofs.Held.{values-cell, processes_are, channels_are, bodied, unit_is, place_is, local_cell, declared_is, waiting_is, field-cell, global-cell, held_few, chart, H}
use Rattle.agree_states.proofs.Sites.{head-one, channel-one}

-- ---- lists that are the same in each place
pub lists_same : {A : Type 0} (d : A) (l k : List A) → length l ≡ length k → ((i : ℕ) → i < length l → get_or l i d ≡ get_or k i d) → l ≡ k
lists_same d [] [] e h = refl
lists_same d [] (y ∷ k) e h = absurd (omega arith)
lists_same d (x ∷ l) [] e h = absurd (omega arith)
lists_same d (x ∷ l) (y ∷ k) e h = ap₂ (λ a b. a ∷ b) (h 0 (omega arith)) (lists_same d l k (omega arith) (λ i g. h (suc i) (omega arith)))

values_same : (xs : List Var) (l k : List (List ℤ)) → Filled xs l → Filled xs k → ((n : ℕ) → n < total_of xs → get_or (flat l) n (pos 0) ≡ get_or (flat k) n (pos 0)) → l ≡ k
values_same xs l k v w h =
    lists_same [] l k (v.all ∙ inv w.all)
    (λ i g.
    let g1 : i < length xs = subst (i <◌) v.all g in
    lists_same (pos 0) (get_or l i []) (get_or k i []) (v.sized i g1 ∙ inv (w.sized i g1))
    (λ j q.
    let q1 : j < (get_or xs i no_var).size = subst (j <◌) (v.sized i g1) q in
    inv (values-cell xs l v i j g1 q1) ∙ h (offset_of xs i + j) (offset_reach xs i j g1 q1) ∙ values-cell xs k w i j g1 q1))

process-same : (x y : Process) → x.unit ≡ y.unit → x.place ≡ y.place → x.variables ≡ y.variables → x ≡ y
process-same x y a b c =
    ap₂ (λ (u p : ℕ). record { unit = u; place = p; variables = x.variables }) a b ∙ ap (λ (v : List (List ℤ)). record { unit = y.unit; place = y.place; variables = v }) c

channel-same : (x y : Channel) → x.unit ≡ y.unit → x.variable ≡ y.variable → x.held ≡ y.held → x ≡ y
channel-same x y a b c =
    ap₂ (λ (u v : ℕ). record { unit = u; variable = v; held = x.held }) a b ∙ ap (λ (h : List (List ℤ)). record { unit = y.unit; variable = y.variable; held = h }) c

state-same : (x y : State) → x.globals ≡ y.globals → x.processes ≡ y.processes → x.channels ≡ y.channels → x ≡ y
state-same x y a b c =
    ap₂ (λ (g : List (List ℤ)) (p : List Process). record { globals = g; processes = p; channels = x.channels }) a b
    ∙ ap (λ (c : List Channel). record { globals = y.globals; processes = y.processes; channels = c }) c

module _ (m : Model) (T : List ℕ) (X : Charted m T) (σ τ : State) (F : Fits (Belongs m) m σ) (G : Fits (Belongs m) m τ) (t u : List ℤ) (e : encode m σ ++ t ≡ encode m τ ++ u) where
  as_many : length σ.processes ≡ length τ.processes
  as_many = inv (processes_are m T X σ F t) ∙ ap processes_of e ∙ processes_are m T X τ G u

  as_many_made : length σ.channels ≡ length τ.channels
  as_many_made = inv (channels_are m T X σ F t) ∙ ap channels_of e ∙ channels_are m T X τ G u

  globals_same : σ.globals ≡ τ.globals
  globals_same =
      values_same (globals_of m) σ.globals τ.globals F.globals G.globals
      (λ n h.
      let w = X.globals_few in
      inv (global-cell m T X σ F t n (omega arith)) ∙ ap (λ s. cell_of s (global_at_lem n)) e ∙ global-cell m T X τ G u n (omega arith))

  module _ (p : ℕ) (h : p < length σ.processes) (g : p < length τ.processes) where
    abbrev x : Process
    x = get_or σ.processes p no_process

    abbrev y : Process
    y = get_or τ.processes p no_process

    same-unit : x.unit ≡ y.unit
    same-unit = head-one m x.unit y.unit (bodied m T X σ F t p h) (bodied m T X τ G u p g) (inv (unit_is m T X σ F t p h) ∙ ap (λ s. unit_of s p) e ∙ unit_is m T X τ G u p g)

    same-process : x ≡ y
    same-process =
        process-same x y same-unit (inv (place_is m T X σ F t p h) ∙ ap (λ s. place_of s p) e ∙ place_is m T X τ G u p g)
        (values_same (variables_of (unit_at m x.unit)) x.variables y.variables (F.each p h).values
        (subst (λ k. Filled (variables_of (unit_at m k)) y.variables) (inv same-unit) (G.each p g).values)
        (λ n q.
        let w = X.locals_few x.unit (bodied m T X σ F t p h) in
        inv (local_cell m T X σ F t p h n (omega arith)) ∙ ap (λ s. cell_of s (local_at p n)) e ∙ local_cell m T X τ G u p g n (omega arith)))

  module _ (c : ℕ) (h : c < length σ.channels) (g : c < length τ.channels) where
    abbrev a : Channel
    a = get_or σ.channels c no_channel

    abbrev b : Channel
    b = get_or τ.channels c no_channel

    same-items : channel_item m a ≡ channel_item m b
    same-items = inv (declared_is m T X σ F t c h) ∙ ap (λ s. declared_of s c) e ∙ declared_is m T X τ G u c g

    same-fields : length (H m T X σ F t c h).types ≡ length (H m T X τ G u c g).types
    same-fields = inv (chart m T X σ F t c h).fields ∙ ap (fields_of T) same-items ∙ (chart m T X τ G u c g).fields

    same-channel : a ≡ b
    same-channel =
        let o = channel-one m a b (H m T X σ F t c h).capacity (H m T X τ G u c g).capacity (H m T X σ F t c h).types (H m T X τ G u c g).types (H m T X σ F t c h).declared
        (H m T X τ G u c g).declared same-items in
        let n : length a.held ≡ length b.held = inv (waiting_is m T X σ F t c h) ∙ ap (λ s. waiting_of s c) e ∙ waiting_is m T X τ G u c g in
        channel-same a b o.0 o.1
        (lists_same [] a.held b.held n
        (λ i q.
        let r : i < length b.held = subst (i <◌) n q in
        let A = ((H m T X σ F t c h).messages i q).long in
        let B = ((H m T X τ G u c g).messages i r).long in
        lists_same (pos 0) (get_or a.held i []) (get_or b.held i []) (A ∙ same-fields ∙ inv B)
        (λ f z.
        let w = (chart m T X σ F t c h).narrow in
        let k = held_few m T X σ F t c h in
        inv (field-cell m T X σ F t c h i f (omega arith) (omega arith)) ∙ ap (λ s. cell_of s (field_at c i f)) e ∙ field-cell m T X τ G u c g i f (omega arith) (omega arith))))

  -- THE SAME NUMBERS, the same state
  pub encode_one : σ ≡ τ
  encode_one =
      state-same σ τ globals_same
      (lists_same no_process σ.processes τ.processes as_many (λ p h. same-process p h (subst (p <◌) as_many h)))
      (lists_same no_channel σ.channels τ.channels as_many_made (λ c h. same-channel c h (subst (c <◌) as_many_made h)))
