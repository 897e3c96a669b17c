-- TAKING A STEP: the entry `step` answers what the machine of the tree says, leaves the numbers of the state after it, and the text that it prints, whole; a step that fails changes nothing and prints nothing.
use Prim.Native.Nat.{ℕ, ◌≤◌}
use native.Mathlib.Omega.{arith}
use mathlib.Core.Path.{◌≡◌, refl, sym as inv, ap, ap₂, ◌∙◌, subst}
use mathlib.Core.Bool.{true}
use mathlib.Core.Option.{none, some}
use mathlib.Core.List.{List, [], ◌∷◌, ◌++◌}
use lib.ListN.{length, drop}
use lib.IntN.{ℤ}
use lib.Dec.{eqb}
use borrow.Author.Tests.{le-ltb}
use Rattle.base_bytes.specs.Choice.{pick}
use Rattle.step_prints.specs.Printing.{Pen, pen, puts}
use Rattle.base_outcome.specs.declared.Taken.{Taken}
use Rattle.base_outcome.specs.declared.Taken.TheVariants.{Done, Refuted, Faulted, Idle}
use Rattle.spec_grammar.specs.Tree.{action, Tree, leaf, express, assign, increment, decrement, send, receive, assert, print, skip, goto, break, timeout, else, run, set_run, select, loop, Model}
use Rattle.read_passes.specs.Judging.{tables_text}
use Rattle.read_accepts_proof.specs.Meaning.{Accepts}
use Rattle.read_genuine.specs.Genuine.{written, genuine}
use Rattle.step_entry.specs.Entries.{Outcome, took_by, refused_by, outcome_by, asked_in, step_refusal, outcome_of}
use Rattle.spec_machine.specs.Stage.{Stage, Ways}
use Rattle.spec_machine.specs.Arguments.{WorkedOut, all, stopped, values}
use Rattle.spec_machine.specs.Effect.{printed_by, effect, text_by, prints}
use Rattle.spec_machine.specs.State.{State}
use Rattle.agree_encode.specs.Encode.{encode}
use Rattle.spec_machine.specs.Places.{Belongs}
use Rattle.spec_machine.specs.Fits.{Fits}
use Rattle.spec_machine.specs.Machine.{Machine, Step, late, offered, advance, asked}
use Rattle.spec_machine.specs.Steps.{ways_of, take_by, print_by, steps_of, take_of, print_of, machine_of}
use Rattle.step_all.specs.Moving.{machine_in}
use Rattle.agree_states.proofs.Texts.{text_single}
use Rattle.agree_machine.proofs.Survey.{text-modest, text_surveyed, Holds, text_same}
use Rattle.agree_machine.proofs.Asked.{asked-listed}
use Rattle.step_take.proofs.Still.{Still}
use Rattle.step_all.proofs.Laws.{advance-still}
use Rattle.agree_transfer.proofs.Machines.{advance-same}
use Rattle.agree_tables.proofs.Main.{in_alone}
use Rattle.agree_machine.proofs.Prints.{text-printed, text-short}
use Rattle.agree_machine.proofs.Fitted.{text-fits}
use Rattle.agree_machine.proofs.Entries.{none_refused, holding, same-offered}
use Rattle.base_ceilings.specs.Ceilings.{print_room, tables_room}
use Rattle.spec_machine.specs.Steps as steps

-- ---- "A failed assertion or fault .. prints nothing": only a step that is done does
abbrev pub Silent : Taken → List ℕ → Type 0
Silent Done l = Unit {0}
Silent Refuted l = l ≡ []
Silent (Faulted f) l = l ≡ []
Silent Idle l = l ≡ []

hush : (k : Taken) → Silent k []
hush Done = tt
hush Refuted = refl
hush (Faulted f) = refl
hush Idle = refl

module _ {S : Type 0} (c : Stage S) (h : Ways) (s : S) where
  silent : (x : Tree action) → Silent (effect c h s x).0 (prints c x)
  unfolding effect
  silent (leaf (express e)) = hush (effect c h s (leaf (express e))).0
  silent (leaf (assign r e)) = hush (effect c h s (leaf (assign r e))).0
  silent (leaf (increment r)) = hush (effect c h s (leaf (increment r))).0
  silent (leaf (decrement r)) = hush (effect c h s (leaf (decrement r))).0
  silent (leaf (send mk r es)) = hush (effect c h s (leaf (send mk r es))).0
  silent (leaf (receive mk r xs)) = hush (effect c h s (leaf (receive mk r xs))).0
  silent (leaf (assert e)) = hush (effect c h s (leaf (assert e))).0
  silent (leaf (print w es)) = go (values c.scene es)
    where
      go : (vs : WorkedOut) → Silent (printed_by c h.next s vs).0 (text_by w vs)
      go (all vs) = tt
      go (stopped f) = refl
  silent (leaf skip) = tt
  silent (leaf (goto w)) = tt
  silent (leaf break) = tt
  silent (leaf timeout) = tt
  silent (leaf else) = tt
  silent (leaf (run w es)) = hush (effect c h s (leaf (run w es))).0
  silent (leaf (set_run r w es)) = hush (effect c h s (leaf (set_run r w es))).0
  silent (select os) = refl
  silent (loop os) = refl

take-silent : (m : Model) (σ : State) (p q : ℕ) → Silent (take_of m σ p q).0 (print_of m σ p q)
unfolding take_of print_of
take-silent m σ p q = go (steps.standing m σ p q)
  where
    go : (f : steps.Found) → Silent (take_by m σ p f).0 (print_by m σ p f)
    go steps.nothing = refl
    go (steps.found a n o) = silent (steps.stage_of m σ p) (ways_of m σ p n o) σ a

pub advance-silent : (m : Model) (σ : State) (x : Step) → Silent (advance (machine_of m) σ x).0 ((machine_of m).printed σ x)
unfolding advance
advance-silent m σ x = take-silent m σ x.process x.place

-- the outcome of what came of a step, the numbers after it and the bytes as far as written
abbrev leaves : Taken → List ℤ → Pen → Outcome
leaves k s n = record { answer = took_by k n.at; state = s; printed = n.bytes }

-- which step is asked for does not depend on the machine
asked-any : {S T : Type 0} (M : Machine S) (N : Machine T) (p k : ℕ) (l : List Step) → asked M p k l ≡ asked N p k l
unfolding asked
asked-any M N p k [] = refl
asked-any M N p k (x ∷ l) = ap (λ o. pick (eqb x.process p) (pick (eqb x.number k) (some x) o) o) (asked-any M N p k l)

-- ---- the entry
module _ (ts : List ℕ) (big : tables_room ≤ length ts) (real : genuine ts ≡ true) (t : List ℕ) (a : Accepts t) (own : written ts ≡ tables_text t) where
  abbrev m : Model
  m = a.tree

  abbrev T : List ℕ
  T = tables_text t

  abbrev MP : Machine State
  MP = machine_of a.tree

  module _ (σ : State) (rest : List ℤ) (f : Fits (Belongs a.tree) a.tree σ) where
    abbrev E : List ℤ
    E = encode m σ ++ rest

    -- a step that fails, or does nothing, leaves the state
    pub step-still : (p k : ℕ) (x : Step) → asked (machine_of a.tree) p k (offered (machine_of a.tree) σ) ≡ some x
        → Still σ (advance (machine_of a.tree) σ x).0 (advance (machine_of a.tree) σ x).1
    step-still p k x e =
        let l = asked-listed MP σ p k x e in
        let R = advance-same (Holds t a rest) MP (machine_in T) (text_same t a rest) (holding ts big real t a own σ rest f) (late MP σ) x l.0 l.1 in
        let N = advance (machine_in T) E x in
        still_by (advance MP σ x).0 (advance MP σ x).1 N.1 R.1.fits R.1.is (subst (λ y. Still E y N.1) (inv R.0) (advance-still T E x))
      where
        still_by : (k : Taken) (τ : State) (s : List ℤ) → Fits (Belongs m) m τ → s ≡ encode m τ ++ rest → Still E k s → Still σ k τ
        still_by Done τ s g e q = tt
        still_by Refuted τ s g e q = text_single t a (text-modest t a) (text_surveyed t a) s τ σ rest rest g f e q
        still_by (Faulted h) τ s g e q = text_single t a (text-modest t a) (text_surveyed t a) s τ σ rest rest g f e q
        still_by Idle τ s g e q = text_single t a (text-modest t a) (text_surveyed t a) s τ σ rest rest g f e q

    module _ (p k : ℕ) (out : List ℕ) (long : print_room ≤ length out) where
      none_refuses : step_refusal ts E out ≡ 0
      unfolding step_refusal
      none_refuses = rw (le-ltb (length out) print_room long, none_refused ts big real t a own σ rest f)

      let_through : outcome_of ts E p k out ≡ outcome_by (asked MP p k (offered MP σ)) T E out
      unfolding outcome_of
      let_through =
          ap (λ (i : ℕ). pick (eqb i 0) (outcome_by (asked_in (written ts) E p k) (written ts) E out) (refused_by i E out)) none_refuses
          ∙ ap (λ w. outcome_by (asked_in w E p k) w E out) own
          ∙ ap (λ o. outcome_by o T E out) (ap (asked (machine_in T) p k) (same-offered ts big real t a own σ rest f) ∙ asked-any (machine_in T) MP p k (offered MP σ))

      pub step-none : asked (machine_of a.tree) p k (offered (machine_of a.tree) σ) ≡ none → outcome_of ts (encode a.tree σ ++ rest) p k out ≡ refused_by 11 (encode a.tree σ ++ rest) out
      step-none e = let_through ∙ ap (λ o. outcome_by o T E out) e

      -- the answer, the state and the text of step x
      abbrev pub taken : Step → Outcome
      taken x =
          record {
            answer = took_by (advance (machine_of a.tree) σ x).0 (length ((machine_of a.tree).printed σ x));
            state = encode a.tree (advance (machine_of a.tree) σ x).1 ++ rest;
            printed = (machine_of a.tree).printed σ x ++ drop (length ((machine_of a.tree).printed σ x)) out;
          }

      pub step-some : (x : Step) → asked (machine_of a.tree) p k (offered (machine_of a.tree) σ) ≡ some x → outcome_of ts (encode a.tree σ ++ rest) p k out ≡ taken x
      step-some x e =
          let i = x.process in
          let j = x.place in
          let l = asked-listed MP σ p k x e in
          let h = in_alone (steps_of m σ i (late MP σ)) l.1 in
          let R = advance-same (Holds t a rest) MP (machine_in T) (text_same t a rest) (holding ts big real t a own σ rest f) (late MP σ) x l.0 l.1 in
          let w = text-short t a rest σ f i l.0 (late MP σ) j h in
          let_through ∙ ap (λ o. outcome_by o T E out) e
          ∙ ap₂ (λ (y : Taken) (text : List ℕ). leaves y (advance (machine_in T) E x).1 (puts text (pen out 0))) (inv R.0) (inv (text-printed t a rest σ f i l.0 (late MP σ) j h))
          ∙ ap₂ (λ (s : List ℤ) (n : Pen). leaves (advance MP σ x).0 s n) R.1.is (text-fits (print_of m σ i j) out (omega arith))
