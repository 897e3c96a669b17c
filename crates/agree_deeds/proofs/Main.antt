-- WHAT IS SHOWN OF A STEP IS WHAT IT DID: for an accepted text, in any state that fits, the lines that its tables and the numbers of the states before and after give for an offered step that is done are
-- the text of its deeds (`deeds-shown`); and so for a step that is asked for (`asked-shown`).
use Prim.Native.Nat.{ℕ, ◌<◌}
use native.Mathlib.Omega.{arith}
use mathlib.Core.Path.{◌≡◌, refl, sym as inv, ap, ◌∙◌, subst}
use mathlib.Core.Bool.{Bool}
use mathlib.Core.Option.{some}
use mathlib.Core.List.{List, [], ◌++◌}
use lib.ListN.{length, get_or}
use lib.IntN.{ℤ}
use Rattle.base_bytes.proofs.Tests.{true_false}
use Rattle.base_outcome.specs.declared.Taken.TheVariants.{Done}
use Rattle.spec_grammar.specs.Tree.{Model}
use Rattle.spec_rules.specs.Statements.{has}
use Rattle.spec_rules.specs.Units.{of_model}
use Rattle.read_passes.specs.Judging.{tables_text}
use Rattle.read_accepts_proof.specs.Meaning.{Accepts}
use Rattle.spec_machine.specs.Effect.{Outcome, effect}
use Rattle.spec_machine.specs.Program.{sequence_of}
use Rattle.agree_sizes.specs.Bodies.{Statement}
use Rattle.spec_machine.specs.State.{State, no_process}
use Rattle.spec_machine.specs.Names.{unit_at}
use Rattle.spec_machine.specs.Begins.{items_before, body_of}
use Rattle.spec_machine.specs.Plain.{plain_stage}
use Rattle.spec_machine.specs.Places.{body_at, start_of, end_of, Belongs, ends, stands}
use Rattle.agree_encode.specs.Settings.{setting_of}
use Rattle.spec_machine.specs.Fits.{Fits}
use Rattle.spec_machine.specs.Machine.{Step, late, offered, advance, asked}
use Rattle.spec_machine.specs.Steps.{standing, ways_of, take_by, steps_of, take_of, machine_of}
use Rattle.spec_account.specs.Steps.{deeds_text, unit_of, deeds_at}
use Rattle.agree_encode.specs.Encode.{head_of, encode}
use Rattle.agree_encode.specs.Tabled.{Tabled}
use Rattle.agree_encode.proofs.Units.{unit-holds, setting-labels}
use Rattle.agree_stage.specs.Tables.{stage_in}
use Rattle.agree_stage.proofs.Stands.{statement_lies}
use Rattle.agree_eval.specs.Names.{decl_at}
use Rattle.agree_transfer.specs.Alike.{In}
use Rattle.agree_transfer.proofs.Transfer.{effect-same}
use Rattle.agree_transfer.proofs.Statements.{within_found}
use Rattle.agree_transfer.proofs.Ways.{leads, label}
use Rattle.agree_effects.specs.Stages as stages
use Rattle.agree_effects.proofs.Bodies.{body_names}
use Rattle.agree_tables.proofs.Agreed.{Kept, stages_agree}
use Rattle.agree_tables.proofs.Main.{in_alone}
use Rattle.agree_names.proofs.Main.{text-tabled}
use Rattle.agree_names.proofs.Texts.{text-lawful}
use Rattle.agree_machine.proofs.Survey.{text_begin}
use Rattle.agree_machine.proofs.Prints.{Stood, stood}
use Rattle.agree_machine.proofs.Asked.{asked-listed}
use Rattle.show_deeds.specs.Deeds.{deeds_in}
use Rattle.agree_deeds.proofs.Statements.{Finished, statement_shown}

module _ (t : List ℕ) (a : Accepts t) (rest : List ℤ) (σ : State) (f : Fits (Belongs a.tree) a.tree σ) where
  module _ (p : ℕ) (g : p < length σ.processes) where
    abbrev m : Model
    m = a.tree

    abbrev T : List ℕ
    T = tables_text t

    abbrev k : ℕ
    k = (get_or σ.processes p no_process).unit

    abbrev S : List ℤ
    S = encode m σ ++ rest

    -- a step that is offered and done
    module _ (q : ℕ) (r : Stood t a rest σ f p g q) (τ : State) (e : effect (plain_stage m p (unit_at m k) σ) (ways_of m σ p r.next r.out) σ r.act ≡ (Done, τ)) where
      abbrev X : Tabled (Belongs m) m k (setting_of m k) T (decl_at t a (start_of m k)) (stages.unit_at t a)
      X = text-tabled t a (text-lawful t a) (text_begin t a) k r.bodied

      abbrev K : State → List ℤ → Type 0
      K = Kept (Belongs m) m k (setting_of m k) T (decl_at t a (start_of m k)) (stages.unit_at t a) X p rest

      before : K σ S
      before = record { fits = f; is = refl; here = g; unit = refl }

      -- the state after it fits too, with the same process
      after : K τ (encode m τ ++ rest)
      after =
          let b = r.bodied in
          let l = r.law in
          let z = effect-same K (Belongs m k) (setting_of m k) (plain_stage m p (unit_at m k) σ) σ (stage_in T S p (decl_at t a (start_of m k)) (stages.unit_at t a)) S
          (stages_agree (Belongs m) m k (setting_of m k) T (decl_at t a (start_of m k)) (stages.unit_at t a) X p rest σ before) l.loops l.first (ways_of m σ p r.next r.out)
          record {
            next = leads (Belongs m k) r.at (λ y c d e z. stands b z) (ends b refl);
            out = l.out;
            label = λ z e. label (Belongs m k) z (sequence_of (body_of (unit_at m k))) (start_of m k) (end_of m k) 0 0 (λ y c d i u. stands b u)
                (λ i. absurd (true_false (inv e ∙ ap (λ l. has l z) (setting-labels (of_model m) [] m k b) ∙ i)));
          }
          r.act l.law r.takes in
          let y = subst (λ χ. K χ (effect (stage_in T S p (decl_at t a (start_of m k)) (stages.unit_at t a)) (ways_of m σ p r.next r.out) S r.act).1) (ap (λ (o : Outcome State). o.1) e) z.1 in
          record { fits = y.fits; is = refl; here = y.here; unit = y.unit }

      done_shown : deeds_in T S (encode m τ ++ rest) p q ≡ deeds_text m p (unit_at m k) σ τ (deeds_at m σ p (standing m σ p q))
      done_shown =
          let held = unit-holds m k 0 (items_before m k) (omega arith) r.bodied in
          let st : Statement m (head_of m k) r.act q (ways_of m σ p r.next r.out) =
          record { own = body_of (unit_at m k); at = body_at m k; held = held; inside = r.at; labels = λ v. refl } in
          statement_shown t a k X p rest σ τ before after r.act q (statement_lies st) (body_names t a (body_of (unit_at m k)) (head_of m k) (body_at m k) held r.at) r.law.loops r.law.first r.law.law
          (ways_of m σ p r.next r.out) (subst Finished (inv (ap (λ (o : Outcome State). o.0) e)) tt) (ap (λ (o : Outcome State). o.1) e)
          ∙ ap (λ z. deeds_text m p (unit_at m k) σ τ (deeds_at m σ p z)) (inv (within_found r.at))

    pub deeds-shown : (late : Bool) (q : ℕ) → In q (steps_of a.tree σ p late) → (τ : State) → take_of a.tree σ p q ≡ (Done, τ)
        → deeds_in (tables_text t) (encode a.tree σ ++ rest) (encode a.tree τ ++ rest) p q
        ≡ deeds_text a.tree p (unit_at a.tree (unit_of a.tree σ p)) σ τ (deeds_at a.tree σ p (standing a.tree σ p q))
    unfolding take_of
    deeds-shown late q h τ e = let r = stood t a rest σ f p g late q h in done_shown q r τ (ap (take_by m σ p) (inv (within_found r.at)) ∙ e)

  -- of the step that is asked for
  pub asked-shown : (p n : ℕ) (x : Step) → asked (machine_of a.tree) p n (offered (machine_of a.tree) σ) ≡ some x → (τ : State) → advance (machine_of a.tree) σ x ≡ (Done, τ)
      → deeds_in (tables_text t) (encode a.tree σ ++ rest) (encode a.tree τ ++ rest) x.process x.place
      ≡ deeds_text a.tree x.process (unit_at a.tree (unit_of a.tree σ x.process)) σ τ (deeds_at a.tree σ x.process (standing a.tree σ x.process x.place))
  unfolding advance
  asked-shown p n x e τ h =
      let M = machine_of a.tree in
      let l = asked-listed M σ p n x e in
      deeds-shown x.process l.0 (late M σ) x.place (in_alone (steps_of a.tree σ x.process (late M σ)) l.1) τ h
