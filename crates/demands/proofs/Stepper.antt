-- THE STEPPER refuses with 7, 8, 9 and 11 exactly where the table says, and then leaves what is lent as it was.
use Prim.Native.Nat.{ℕ, zero, suc, ◌≤◌, ◌<◌}
use native.Mathlib.Omega.{arith}
use mathlib.Core.Path.{◌≡◌, refl, sym, ap, subst, ◌∙◌}
use mathlib.Core.Bool.{Bool, true, false}
use mathlib.Core.Logic.{◌↔◌}
use mathlib.Core.Option.{Option, none, some}
use mathlib.Core.List.{List, [], ◌∷◌}
use borrow.Author.Tests.{lt-ltb, le-ltb, ltb-true, ltb-false}
use lib.Dec.{ltb}
use lib.ListN.{length}
use lib.IntN.{ℤ}
use Rattle.base_ceilings.specs.Ceilings.{print_room}
use Rattle.base_bytes.specs.Choice.{pick}
use Rattle.base_outcome.specs.declared.Taken.{Taken}
use Rattle.base_outcome.specs.declared.Taken.TheVariants.{Done, Refuted, Faulted, Idle}
use Rattle.spec_grammar.specs.Tree.{Model}
use Rattle.spec_machine.specs.State.{State}
use Rattle.spec_machine.specs.Machine.{Step, Verdict, finished, blocked, «open», offered, advance, verdict, asked}
use Rattle.spec_machine.specs.Steps.{machine_of}
use Rattle.step_entry.specs.Entries.{Outcome, refused_by, foreign_of, start_left, offered_of, verdict_for, outcome_of}
use Rattle.step_entry.specs.declared.Stepped.TheVariants as stepped
use Rattle.run_entry.specs.Entries.{ran_of}
use Rattle.demands.specs.Said as said
use Rattle.demands.specs.Said.{Said, refusal, values}
use Rattle.demands.proofs.Told.{number, values_in, not-values}
use Rattle.demands.specs.Demand1.{NotTaken, no_paper, lent, not_offered, Stepper}
use Rattle.demands.proofs.Lent.{refusal_is, to_case, of_case}
use Rattle.demands.proofs.Leaves.{unchanged}
use Rattle.demands.proofs.Moving as moving
use Rattle.demands.proofs.ByCases.{by_cases}
use Rattle.demands.specs.Lent.{Refuses, leaves}
use Rattle.demands.proofs.Entries.{Lent, no_room, no_model, no_state, a_state, standing_by, listed_by, done_by, taken_by, refusal_by, start_by, offered_by, verdict_by, stepped_by, run_by}

module _ (ts : List ℕ) (s : List ℤ) where
  -- what is said in each case
  abbrev case_said : Lent ts s → List ℕ → Said
  case_said (no_room h) l = refusal 7 0 0
  case_said (no_model r h) l = refusal 8 0 0
  case_said (no_state m r h g) l = refusal 9 0 0
  case_said (a_state m σ h) l = values l

  said-number : (c : Lent ts s) (l : List ℕ) (x : ℕ) → case_said c l ≡ refusal x 0 0 → (refusal_by c ≡ x) × (0 < x)
  said-number (no_room h) l x e = let z : 7 ≡ x = ap number e in (z, omega arith)
  said-number (no_model r h) l x e = let z : 8 ≡ x = ap number e in (z, omega arith)
  said-number (no_state m r h g) l x e = let z : 9 ≡ x = ap number e in (z, omega arith)
  said-number (a_state m σ h) l x e = not-values e

  number-said : (c : Lent ts s) (l : List ℕ) (x : ℕ) → refusal_by c ≡ x → 0 < x → case_said c l ≡ refusal x 0 0
  number-said (no_room h) l x e p = ap (λ y. refusal y 0 0) e
  number-said (no_model r h) l x e p = ap (λ y. refusal y 0 0) e
  number-said (no_state m r h g) l x e p = ap (λ y. refusal y 0 0) e
  number-said (a_state m σ h) l x e p = absurd (omega arith)

  -- the case has one number, whichever way it was found
  same_number : (c d : Lent ts s) → refusal_by c ≡ refusal_by d
  same_number c d = sym (refusal_is ts s c) ∙ refusal_is ts s d

  refuses_so : (A : Said) (l : List ℕ) (c : Lent ts s) → A ≡ case_said c l → (x : ℕ) → (A ≡ refusal x 0 0) ↔ Refuses ts s x
  refuses_so A l c q x = (
    λ e. (let z = said-number c l x (sym q ∙ e) in of_case ts s c x z.0 z.1),
    λ r. (let d = to_case ts s r in q ∙ number-said c l x (same_number c d.0 ∙ d.1) d.2),
  )

  the_case : Lent ts s
  the_case = (by_cases ts s).some_case

  -- ---- each entry
  list-said : (c : Lent ts s) (n : ℕ) → said.list (offered_by c n) ≡ case_said c (values_in (said.list (offered_by c n)))
  list-said (no_room h) n = refl
  list-said (no_model r h) n = refl
  list-said (no_state m r h g) n = refl
  list-said (a_state m σ h) n = go (length (offered (machine_of m) σ)) n (offered (machine_of m) σ)
    where
      go : (all n : ℕ) (l : List Step) → said.list (listed_by all n l) ≡ values (values_in (said.list (listed_by all n l)))
      go all n [] = refl
      go all zero (x ∷ l) = refl
      go all (suc n) (x ∷ l) = go all n l

  verdict-said : (c : Lent ts s) → said.verdict (verdict_by c) ≡ case_said c (values_in (said.verdict (verdict_by c)))
  verdict-said (no_room h) = refl
  verdict-said (no_model r h) = refl
  verdict-said (no_state m r h g) = refl
  verdict-said (a_state m σ h) = go (verdict (machine_of m) σ)
    where
      go : (v : Verdict) → said.verdict (standing_by v) ≡ values (values_in (said.verdict (standing_by v)))
      go finished = refl
      go blocked = refl
      go «open» = refl

  run-said : (c : Lent ts s) (n : ℕ) → said.run (run_by c n).0 ≡ case_said c (values_in (said.run (run_by c n).0))
  run-said (no_room h) n = refl
  run-said (no_model r h) n = refl
  run-said (no_state m r h g) n = refl
  run-said (a_state m σ h) n = refl

  run-left : (c : Lent ts s) (n x : ℕ) → said.run (run_by c n).0 ≡ refusal x 0 0 → (run_by c n).1 ≡ s
  run-left (no_room h) n x e = refl
  run-left (no_model r h) n x e = refl
  run-left (no_state m r h g) n x e = refl
  run-left (a_state m σ h) n x e = not-values e

  -- ---- `start`
  start_refuses : (x : ℕ) → 0 < x → (foreign_of ts s ≡ x) ↔ Refuses ts s x × ((x ≡ 9) → ⊥)
  start_refuses x p = (λ e. to the_case (ap (λ r. r.0) ((by_cases ts s).start the_case)) e, λ r. (let d = to_case ts s r.0 in from the_case (ap (λ r. r.0) ((by_cases ts s).start the_case)) (same_number the_case d.0 ∙ d.1) r.1))
    where
      to : (c : Lent ts s) → foreign_of ts s ≡ (start_by c).0 → foreign_of ts s ≡ x → Refuses ts s x × ((x ≡ 9) → ⊥)
      to (no_room h) q e = let z : 7 ≡ x = sym q ∙ e in (of_case ts s (no_room h) x z p, λ n. omega arith)
      to (no_model r h) q e = let z : 8 ≡ x = sym q ∙ e in (of_case ts s (no_model r h) x z p, λ n. omega arith)
      to (no_state m r h g) q e = absurd (let z : 0 ≡ x = sym q ∙ e in omega arith)
      to (a_state m σ h) q e = absurd (let z : 0 ≡ x = sym q ∙ e in omega arith)

      from : (c : Lent ts s) → foreign_of ts s ≡ (start_by c).0 → refusal_by c ≡ x → ((x ≡ 9) → ⊥) → foreign_of ts s ≡ x
      from (no_room h) q e n = q ∙ e
      from (no_model r h) q e n = q ∙ e
      from (no_state m r h g) q e n = absurd (n (sym e))
      from (a_state m σ h) q e n = absurd (omega arith)

  start_left_lem : (x : ℕ) → 0 < x → foreign_of ts s ≡ x → start_left ts s ≡ s
  start_left_lem x p e = go the_case ((by_cases ts s).start the_case)
    where
      go : (c : Lent ts s) → (foreign_of ts s, start_left ts s) ≡ start_by c → start_left ts s ≡ s
      go (no_room h) q = ap (λ r. r.1) q
      go (no_model r h) q = ap (λ r. r.1) q
      go (no_state m r h g) q = absurd (let z : foreign_of ts s ≡ 0 = ap (λ r. r.0) q in omega arith)
      go (a_state m σ h) q = absurd (let z : foreign_of ts s ≡ 0 = ap (λ r. r.0) q in omega arith)

  -- ---- `step`
  module _ (p k : ℕ) (out : List ℕ) (x : ℕ) where
    refused_eleven : (m : Model) (σ : State) → said.step (taken_by s m σ out (asked (machine_of m) p k (offered (machine_of m) σ))).answer ≡ refusal x 0 0
        → ((taken_by s m σ out (asked (machine_of m) p k (offered (machine_of m) σ))).answer ≡ stepped.Refused 11) × (x ≡ 11)
    refused_eleven m σ e = go (asked (machine_of m) p k (offered (machine_of m) σ)) e
      where
        done : (r : Taken) (after : List ℤ) (text : List ℕ) → said.step (done_by s out r after text).answer ≡ refusal x 0 0 → ((done_by s out r after text).answer ≡ stepped.Refused 11) × (x ≡ 11)
        done Done after text e = not-values e
        done Refuted after text e = not-values e
        done (Faulted f) after text e = not-values e
        done Idle after text e = (refl, sym (ap number e))

        go : (o : Option Step) → said.step (taken_by s m σ out o).answer ≡ refusal x 0 0 → ((taken_by s m σ out o).answer ≡ stepped.Refused 11) × (x ≡ 11)
        go none e = (refl, sym (ap number e))
        go (some y) e = done (advance (machine_of m) σ y).0 (leaves s m (advance (machine_of m) σ y).1) ((machine_of m).printed σ y) e

    narrow : length out < print_room → (c : Lent ts s) → (outcome_of ts s p k out).answer ≡ stepped.Refused 7
    narrow h c = ap (λ (o : Outcome). o.answer) ((by_cases ts s).step c p k out) ∙ ap (λ (b : Bool). (pick b (refused_by 7 s out) (stepped_by c p k out)).answer) (lt-ltb (length out) print_room h)

    wide : print_room ≤ length out → (c : Lent ts s) → (outcome_of ts s p k out).answer ≡ (stepped_by c p k out).answer
    wide h c = ap (λ (o : Outcome). o.answer) ((by_cases ts s).step c p k out) ∙ ap (λ (b : Bool). (pick b (refused_by 7 s out) (stepped_by c p k out)).answer) (le-ltb (length out) print_room h)

    to_taken : said.step (outcome_of ts s p k out).answer ≡ refusal x 0 0 → NotTaken ts s p k (length out) x
    to_taken e = go (ltb (length out) print_room) refl
      where
        by_case : print_room ≤ length out → (c : Lent ts s) → NotTaken ts s p k (length out) x
        by_case h (no_room g) = let z : 7 ≡ x = ap number (ap said.step (sym (wide h (no_room g))) ∙ e) in lent h (of_case ts s (no_room g) x z (omega arith))
        by_case h (no_model r g) = let z : 8 ≡ x = ap number (ap said.step (sym (wide h (no_model r g))) ∙ e) in lent h (of_case ts s (no_model r g) x z (omega arith))
        by_case h (no_state m r g f) = let z : 9 ≡ x = ap number (ap said.step (sym (wide h (no_state m r g f))) ∙ e) in lent h (of_case ts s (no_state m r g f) x z (omega arith))
        by_case h (a_state m σ g) =
            let z = refused_eleven m σ (ap said.step (sym (wide h (a_state m σ g))) ∙ e) in
            subst (NotTaken ts s p k (length out)) (sym z.1) (not_offered m σ h g ((moving.not_offered ts s m σ g p k out h).0 (wide h (a_state m σ g) ∙ z.0)))

        go : (b : Bool) → ltb (length out) print_room ≡ b → NotTaken ts s p k (length out) x
        go true h =
            let g = ltb-true (length out) print_room h in
            let z : 7 ≡ x = ap number (ap said.step (sym (narrow g the_case)) ∙ e) in
            subst (NotTaken ts s p k (length out)) z (no_paper g)
        go false h = by_case (ltb-false (length out) print_room h) the_case

  from-taken : (p k : ℕ) (out : List ℕ) (x : ℕ) → NotTaken ts s p k (length out) x → said.step (outcome_of ts s p k out).answer ≡ refusal x 0 0
  from-taken p k out _ (no_paper h) = ap said.step (narrow p k out 7 h the_case)
  from-taken p k out x (lent h r) = let d = to_case ts s r in ap said.step (wide p k out x h d.0) ∙ go d.0 d.1 d.2
    where
      go : (c : Lent ts s) → refusal_by c ≡ x → 0 < x → said.step (stepped_by c p k out).answer ≡ refusal x 0 0
      go (no_room q) e g = ap (λ y. refusal y 0 0) e
      go (no_model r q) e g = ap (λ y. refusal y 0 0) e
      go (no_state m r q f) e g = ap (λ y. refusal y 0 0) e
      go (a_state m σ q) e g = absurd (omega arith)
  from-taken p k out _ (not_offered m σ h g n) = ap said.step ((moving.not_offered ts s m σ g p k out h).1 n)

  pub stepper : Stepper ts s
  stepper =
      record {
        number = λ x p. (
          λ e. of_case ts s the_case x (sym (refusal_is ts s the_case) ∙ e) p,
          λ r. (let d = to_case ts s r in refusal_is ts s d.0 ∙ d.1),
        );
        start = start_refuses;
        start_unchanged = start_left_lem;
        offered = λ n x. refuses_so (said.list (offered_of ts s n)) _ the_case (ap said.list ((by_cases ts s).offered the_case n) ∙ list-said the_case n) x;
        verdict = λ x. refuses_so (said.verdict (verdict_for ts s)) _ the_case (ap said.verdict ((by_cases ts s).verdict the_case) ∙ verdict-said the_case) x;
        step = λ p k out x. (to_taken p k out x, from-taken p k out x);
        step_unchanged = λ p k out x e. unchanged ts s p k out (λ n q. not-values (sym (ap said.step q) ∙ e));
        run = λ n x. refuses_so (said.run (ran_of ts s n).0) _ the_case (ap (λ r. said.run r.0) ((by_cases ts s).run the_case n) ∙ run-said the_case n) x;
        run_unchanged = λ n x e. ap (λ r. r.1) ((by_cases ts s).run the_case n) ∙ run-left the_case n x (sym (ap (λ r. said.run r.0) ((by_cases ts s).run the_case n)) ∙ e);
      }
