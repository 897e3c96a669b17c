-- THE MACHINE OF AN ACCEPTED TEXT'S TABLES IS THAT OF ITS MODEL, where its tables say of the model what specs/Tabled.antt of `agree_encode` names.
use Prim.Native.Nat.{ℕ, suc, ◌+◌, ◌≤◌, ◌<◌, min}
use native.Mathlib.Omega.{arith}
use mathlib.Core.Path.{◌≡◌, refl, sym as inv, ap, ◌∙◌, subst}
use mathlib.Core.Bool.{Bool, true, false}
use mathlib.Core.List.{List, [], ◌∷◌, ◌++◌}
use lib.ListN.{length, get_or}
use lib.IntN.{ℤ}
use lib.Dec.{eqb, leb}
use Rattle.base_ceilings.specs.Ceilings.{processes_most}
use Rattle.base_codes.specs.Codes.{c_end_body}
use Rattle.base_bytes.specs.Choice.{both}
use Rattle.base_bytes.proofs.Tests.{true_false, both_true}
use Rattle.spec_grammar.specs.Tree.{action, Tree, Body, body, Model}
use Rattle.read_passes.specs.Judging.{tables_text}
use Rattle.read_accepts_proof.specs.Meaning.{Accepts}
use Rattle.state_layout.specs.Layout.{processes_of, place_of, kept_most}
use Rattle.table_layout.specs.Access.{code_of}
use borrow.Author.Tests.{eq-eqb, ne_eqb}
use Rattle.step_offers.specs.Offers.{offers_of}
use Rattle.step_take.specs.Effects.{taken_of}
use Rattle.spec_rules.specs.Statements.{has}
use Rattle.legal_rules.specs.Statements.{allowed}
use Rattle.spec_rules.specs.Units.{of_model, tally}
use Rattle.legal_rules.specs.Units.{parts_lawful, mtypes_in, inits_in, model_lawful}
use Rattle.spec_machine.specs.Stage.{Ways}
use Rattle.spec_machine.specs.Effect.{effect}
use Rattle.spec_machine.specs.Sizes.{size_in}
use Rattle.spec_machine.specs.Program.{start_in, end_in, label_in, sequence_of}
use Rattle.agree_sizes.specs.Bodies.{Statement}
use Rattle.agree_stage.specs.Tables.{stage_in}
use Rattle.agree_eval.specs.Names.{decl_at}
use Rattle.agree_offers.proofs.Main.{text-ended, text-ends}
use Rattle.agree_effects.specs.Stages as doing
use Rattle.agree_tables.proofs.Statements.{within-within, statement_offers, statement_takes}
use Rattle.agree_transfer.specs.Agrees.{Agrees, Related}
use Rattle.spec_machine.specs.State.{State, no_process}
use Rattle.spec_machine.specs.Names.{unit_at}
use Rattle.spec_machine.specs.Begins.{items_before, body_of}
use Rattle.spec_machine.specs.Plain.{plain_stage}
use Rattle.agree_transfer.specs.Alike.{In, first, behind, Alike}
use Rattle.spec_machine.specs.Machine.{Move, alone}
use Rattle.agree_effects.specs.Few.{Few}
use Rattle.step_all.specs.Moving.{machine_in}
use Rattle.spec_machine.specs.Steps.{steps_by, take_by, steps_of, ended_of, take_of, machine_of}
use Rattle.agree_encode.specs.Encode.{head_of, encode}
use Rattle.spec_machine.specs.Places.{Bodied, body_at, start_of, end_of, At, Belongs, ends, stands}
use Rattle.agree_encode.specs.Settings.{setting_of}
use Rattle.spec_machine.specs.Fits.{Fits}
use Rattle.agree_encode.specs.Tabled.{Tabled}
use Rattle.agree_transfer.proofs.Transfer.{offers-same, effect-same}
use Rattle.agree_encode.proofs.Numbers.{processes_are, place_is}
use Rattle.agree_tables.proofs.Agreed.{Kept, stages_agree}
use Rattle.agree_transfer.proofs.Statements.{within_range, within_found, end_nothing, offers_there}
use Rattle.agree_transfer.proofs.Ways.{Lawful, leads, within-lawful, label}
use Rattle.agree_encode.proofs.Units.{unit-holds, unit-allowed, setting-labels}

pub none_in : {A B : Type 0} {q : B} → In q [] → A
none_in {B = B} {q = q} h = absurd (go h refl)
  where
    go : {l : List B} → In q l → l ≡ [] → ⊥
    go {l = z ∷ l} first e = let n : suc (length l) ≡ 0 = ap length e in omega arith
    go {l = z ∷ l} (behind h) e = let n : suc (length l) ≡ 0 = ap length e in omega arith
    go {l = []} x'' e = elim x'' [ ]

-- a move of these places is at one of them
pub in_alone : {y : Move} (l : List ℕ) → In y (alone l) → In y.place l
in_alone [] h = none_in h
in_alone (q ∷ l) first = first
in_alone (q ∷ l) (behind h) = behind (in_alone l h)

module _ (t : List ℕ) (a : Accepts t) (legal : model_lawful a.tree ≡ true) where
  abbrev m : Model
  m = a.tree

  abbrev T : List ℕ
  T = tables_text t

  -- what remains to be proved of the tables
  abbrev Told : Type 0
  Told = (k : ℕ) → Bodied (unit_at m k) → Tabled (Belongs m) m k (setting_of m k) T (decl_at t a (start_of m k)) (doing.unit_at t a)

  lawful : (k : ℕ) → Bodied (unit_at m k) → allowed (setting_of m k) false false (sequence_of (body_of (unit_at m k))) ≡ true
  unfolding model_lawful
  lawful k b =
      unit-allowed (of_model m) [] m k (both_true (both (leb (tally mtypes_in m) 1) (leb (tally inits_in m) 1)) (parts_lawful (of_model m) [] m) legal).1 b

  -- what begins a statement is no `end_Body`
  abbrev Begun : Type 0
  Begun = (k : ℕ) → Bodied (unit_at m k) → (x : Tree action) (j n o : ℕ) → At m k x j n o → eqb (code_of T j) c_end_body ≡ false

  -- and it has few arguments
  abbrev Spare : Type 0
  Spare = (k : ℕ) → Bodied (unit_at m k) → (x : Tree action) (j n o : ℕ) → At m k x j n o → Few x

  module _ (X : Told) (small : (k j : ℕ) → Belongs m k j → j ≤ kept_most) (begun : Begun) (few : Spare) (rest : List ℤ) where
    -- the numbers s hold the state σ
    pub record Holding (σ : State) (s : List ℤ) : Type 0 where
      pub fits : Fits (Belongs m) m σ
      pub is : s ≡ encode m σ ++ rest

    module _ (σ : State) (f : Fits (Belongs m) m σ) (p : ℕ) (g : p < length σ.processes) where
      abbrev S : List ℤ
      S = encode m σ ++ rest

      abbrev k : ℕ
      k = (get_or σ.processes p no_process).unit

      abbrev j : ℕ
      j = (get_or σ.processes p no_process).place

      abbrev ways : ℕ → ℕ → Ways
      ways n o = record { next = n; out = o; label = λ w. label_in w (sequence_of (body_of (unit_at m k))) (start_of m k) 0 }

      abbrev stated : Bodied (unit_at m k) → (x : Tree action) (i n o : ℕ) → At m k x i n o → Statement m (head_of m k) x i (ways n o)
      stated b x i n o w = record { own = body_of (unit_at m k); at = body_at m k; held = unit-holds m k 0 (items_before m k) (omega arith) b; inside = w; labels = λ v. refl }

      module _ (b : Bodied (unit_at m k)) where
        kept : Kept (Belongs m) m k (setting_of m k) T (decl_at t a (start_of m k)) (doing.unit_at t a) (X k b) p rest σ S
        kept = record { fits = f; is = refl; here = g; unit = refl }

        agree : Agrees (Kept (Belongs m) m k (setting_of m k) T (decl_at t a (start_of m k)) (doing.unit_at t a) (X k b) p rest) (Belongs m k) (setting_of m k)
            (plain_stage m p (unit_at m k) σ) σ (stage_in T S p (decl_at t a (start_of m k)) (doing.unit_at t a)) S
        agree = stages_agree (Belongs m) m k (setting_of m k) T (decl_at t a (start_of m k)) (doing.unit_at t a) (X k b) p rest σ kept

        law_at : (x : Tree action) (i n o : ℕ) → At m k x i n o → Lawful (Belongs m k) (setting_of m k) x o
        law_at x i n o w =
            within-lawful (Belongs m k) (setting_of m k) w false false (lawful k b) (λ y c d e v. stands b v) (ends b refl) (λ e. absurd (true_false (inv e)))

      place_there : place_of S p ≡ j
      place_there = place_is m rest σ p g f.processes (small k j (f.each p g).place)

      end_past : j ≡ end_of m k → start_of m k + size_in (sequence_of (body_of (unit_at m k))) ≤ j
      end_past e = subst (λ z. start_of m k + size_in (sequence_of (body_of (unit_at m k))) ≤ z) (inv e) (end_is (body_of (unit_at m k)) (body_at m k))
        where
          end_is : (b : Body) (i : ℕ) → start_in b i + size_in (sequence_of b) ≤ end_in b i
          end_is (body ds q) i = omega arith

      -- WHAT IS OFFERED
      steps_same : (late : Bool) → steps_of m σ p late ≡ offers_of T S p late (place_of S p)
      unfolding steps_of
      steps_same late = go (f.each p g).place ∙ ap (offers_of T S p late) (inv place_there)
        where
          go : Belongs m k j → steps_of m σ p late ≡ offers_of T S p late j
          go (ends b e) =
              ap (steps_by m σ p late j) (end_nothing (sequence_of (body_of (unit_at m k))) (start_of m k) (end_of m k) 0 j (end_past e))
              ∙ inv (text-ended t a S p late j (text-ends t a record { own = body_of (unit_at m k); at = body_at m k; held = unit-holds m k 0 (items_before m k) (omega arith) b; ends = e }))
          go (stands {x = x} {n = n} {o = o} b w) =
              let l = law_at b x j n o w in
              ap (steps_by m σ p late j) (within_found w)
              ∙ offers-same (Kept (Belongs m) m k (setting_of m k) T (decl_at t a (start_of m k)) (doing.unit_at t a) (X k b) p rest) (Belongs m k) (setting_of m k)
              (plain_stage m p (unit_at m k) σ) σ (stage_in T S p (decl_at t a (start_of m k)) (doing.unit_at t a)) S (agree b) late l.loops l.first x j l.law
              ∙ inv (statement_offers t a (stated b x j n o w) S p late)

      -- WHAT IS DONE by a step that is offered
      take_same : (late : Bool) (q : ℕ) → In q (steps_of m σ p late) → Related Holding (take_of m σ p q) (taken_of T p q S)
      unfolding steps_of take_of
      take_same late q h = go (f.each p g).place h
        where
          go : Belongs m k j → In q (steps_of m σ p late) → Related Holding (take_of m σ p q) (taken_of T p q S)
          go (ends b e) h =
              none_in (subst (λ z. In q (steps_by m σ p late j z)) (end_nothing (sequence_of (body_of (unit_at m k))) (start_of m k) (end_of m k) 0 j (end_past e)) h)
          go (stands {x = x} {n = n} {o = o} b w) h =
              let r = offers_there (plain_stage m p (unit_at m k) σ) late x j n o q (subst (λ z. In q (steps_by m σ p late j z)) (within_found w) h) in
              let v : At m k r.act q r.next r.out = within-within w r.within in
              let l = law_at b r.act q r.next r.out v in
              let c = effect-same (Kept (Belongs m) m k (setting_of m k) T (decl_at t a (start_of m k)) (doing.unit_at t a) (X k b) p rest) (Belongs m k) (setting_of m k)
              (plain_stage m p (unit_at m k) σ) σ (stage_in T S p (decl_at t a (start_of m k)) (doing.unit_at t a)) S (agree b) l.loops l.first (ways r.next r.out)
              record {
                next = leads (Belongs m k) v (λ y c d e z. stands b z) (ends b refl);
                out = l.out;
                label = λ z e. label (Belongs m k) z (sequence_of (body_of (unit_at m k))) (start_of m k) (end_of m k) 0 0 (λ y c d i u. stands b u)
                    (λ i. absurd (true_false (inv e ∙ ap (λ l. has l z) (setting-labels (of_model m) [] m k b) ∙ i)));
              }
              r.act l.law r.takes in
              subst (λ z. Related Holding (take_by m σ p z) (taken_of T p q S)) (inv (within_found v))
              (subst (λ z. Related Holding (effect (plain_stage m p (unit_at m k) σ) (ways r.next r.out) σ r.act) z) (inv (statement_takes t a (stated b r.act q r.next r.out v) S p (few k b r.act q r.next r.out v)))
              (c.0, record { fits = c.1.fits; is = c.1.is }))

      -- WHETHER IT HAS ENDED
      ended_same : ended_of m σ p ≡ eqb (code_of T (place_of S p)) c_end_body
      unfolding ended_of
      ended_same = go (f.each p g).place ∙ ap (λ i. eqb (code_of T i) c_end_body) (inv place_there)
        where
          go : Belongs m k j → eqb j (end_of m k) ≡ eqb (code_of T j) c_end_body
          go (ends b e) =
              eq-eqb j (end_of m k) e
              ∙ inv (eq-eqb (code_of T j) c_end_body (text-ends t a record { own = body_of (unit_at m k); at = body_at m k; held = unit-holds m k 0 (items_before m k) (omega arith) b; ends = e }))
          go (stands {x = x} {n = n} {o = o} b w) =
              let r = (within_range w).1 in
              let e = end_most (body_of (unit_at m k)) (body_at m k) in
              ne_eqb j (end_of m k) (λ z. omega arith) ∙ inv (begun k b x j n o w)
            where
              end_most : (b : Body) (i : ℕ) → start_in b i + size_in (sequence_of b) ≤ end_in b i
              end_most (body ds q) i = omega arith

    -- THE TWO MACHINES ARE ALIKE
    pub machines_alike : Alike Holding (machine_of m) (machine_in T)
    machines_alike =
        record {
          processes = λ {x} {y} r.
              let n = r.fits.processes in
              inv (ap (λ s. min processes_most (processes_of s)) r.is ∙ ap (min processes_most) (processes_are m rest x n) ∙ (let z : min processes_most (length x.processes) ≡ length x.processes = omega arith in z));
          steps = λ {x} {y} r late p h. ap alone (steps_same x r.fits p h late ∙ ap (λ s. offers_of T s p late (place_of s p)) (inv r.is));
          ended = λ {x} {y} r p h. ended_same x r.fits p h ∙ ap (λ s. eqb (code_of T (place_of s p)) c_end_body) (inv r.is);
          take = λ {x} {y} r late z h i.
              subst (λ s. Related Holding (take_of m x z.process z.place) (taken_of T z.process z.place s)) (inv r.is) (take_same x r.fits z.process h late z.place (in_alone (steps_of m x z.process late) i));
        }
