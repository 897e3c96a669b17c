-- The laws that the entries cite.
use Prim.Native.Nat.{ℕ, ◌+◌, ◌≤◌, ◌<◌}
use mathlib.Core.Path.{◌≡◌, refl, sym, ◌∙◌, ap, ap₂}
use mathlib.Core.Bool.{Bool, true, false}
use mathlib.Core.Option.{Option}
use mathlib.Core.List.{List}
use native.Mathlib.Omega.{arith}
use borrow.Author.Tests.{lt-ltb, le-ltb, ne_eqb}
use lib.ListN.{length}
use lib.IntN.{ℤ}
use lib.Dec.{eqb}
use Rattle.read_genuine.specs.Genuine.{written, genuine}
use Rattle.state_start.specs.Starting.{initial_of}
use Rattle.state_check.specs.Standing.{is_state_of}
use Rattle.spec_machine.specs.Machine.{offered, advance, verdict}
use Rattle.step_all.specs.Moving.{machine_in, offer_as, step_in, nth_in, verdict_as}
use Rattle.step_all.proofs.Laws.{offer-back}
use Rattle.step_all.specs.declared.Offer.{Offer}
use Rattle.step_all.proofs.Laws.{beyond_rest}
use Rattle.step_all.specs.declared.Verdict.{Verdict}
use Rattle.base_bytes.specs.Choice.{pick}
use Rattle.step_prints.specs.Printing.{Pen, pen, puts}
use Rattle.base_outcome.specs.declared.Taken.{Taken}
use Rattle.step_statements.specs.Statements.{Effect}
use Rattle.step_entry.specs.declared.Stepped.{Stepped}
use Rattle.step_entry.specs.declared.Standing.{Standing}
use Rattle.step_entry.specs.declared.Standing.TheVariants.{Refused}
use Rattle.step_entry.specs.Entries.{foreign_of, refusal_of, start_left, standing_of, verdict_for, offer_by, offered_of, took_by, Outcome, refused_by, took_at, outcome_by, asked_in, step_refusal, outcome_of}
use Rattle.base_ceilings.specs.Ceilings.{print_room, state_room, tables_room}
use Rattle.spec_machine.specs.Machine as machine
use Rattle.step_all.specs.declared.Offer.TheVariants as offer
use Rattle.step_entry.specs.declared.Listed.TheVariants as listed
use Rattle.step_entry.specs.declared.Stepped.TheVariants as stepped

module _ (ts : List ℕ) (s : List ℤ) where
  pub tables-short : length ts < tables_room → 7 ≡ foreign_of ts s
  unfolding foreign_of
  tables-short h = simp (lt-ltb (length ts) tables_room h)

  pub state-short : tables_room ≤ length ts → length s < state_room → 7 ≡ foreign_of ts s
  unfolding foreign_of
  state-short h k = simp (le-ltb (length ts) tables_room h, lt-ltb (length s) state_room k)

  module _ {b : Bool} (h : tables_room ≤ length ts) (k : state_room ≤ length s) (e : b ≡ genuine ts) where
    pub own : b ≡ true → 0 ≡ foreign_of ts s
    unfolding foreign_of
    own q = rw (le-ltb (length ts) tables_room h, le-ltb (length s) state_room k, ← e, q)

    pub not_own : b ≡ false → 8 ≡ foreign_of ts s
    unfolding foreign_of
    not_own q = rw (le-ltb (length ts) tables_room h, le-ltb (length s) state_room k, ← e, q)

  module _ {x : ℕ} (e : x ≡ foreign_of ts s) where
    pub refused_before : (x ≡ 0 → ⊥) → x ≡ refusal_of ts s
    unfolding refusal_of
    refused_before n = rw (← e, ne_eqb x 0 n)

    module _ {b : Bool} {w : List ℕ} (z : x ≡ 0) (ew : w ≡ written ts) (eb : b ≡ is_state_of w s) where
      pub is_state : b ≡ true → 0 ≡ refusal_of ts s
      unfolding refusal_of
      is_state q = rw (← e, z, ← ew, ← eb, q)

      pub no_state : b ≡ false → 9 ≡ refusal_of ts s
      unfolding refusal_of
      no_state q = rw (← e, z, ← ew, ← eb, q)

    pub start_refused : (x ≡ 0 → ⊥) → s ≡ start_left ts s
    unfolding start_left
    start_refused n = rw (← e, ne_eqb x 0 n)

    pub started : {w : List ℕ} {new : List ℤ} → x ≡ 0 → w ≡ written ts → new ≡ initial_of w s → (0 ≡ foreign_of ts s) × (new ≡ start_left ts s)
    unfolding start_left
    started z ew en = (sym z ∙ e, rw (← e, z, ← ew) en)

  module _ {x : ℕ} (e : x ≡ refusal_of ts s) where
    pub verdict_refused : (x ≡ 0 → ⊥) → Refused x ≡ verdict_for ts s
    unfolding verdict_for
    verdict_refused n = rw (← e, ne_eqb x 0 n)

    pub verdict_is : {w : List ℕ} {v : Verdict} {r : Standing} → x ≡ 0 → w ≡ written ts → v ≡ verdict_as (verdict (machine_in w) s) → r ≡ standing_of v → r ≡ verdict_for ts s
    unfolding verdict_for
    verdict_is z ew ev er = rw (← e, z, ← ew, ← ev) er

    pub offered_refused : (n : ℕ) → (x ≡ 0 → ⊥) → listed.Refused x ≡ offered_of ts s n
    unfolding offered_of
    offered_refused n z = rw (← e, ne_eqb x 0 z)

    pub offered_is : {w : List ℕ} {o : Offer} (n : ℕ) → x ≡ 0 → w ≡ written ts → o ≡ nth_in n (offered (machine_in w) s) → (o' : Offer) → o ≡ o' → offer_by o' n ≡ offered_of ts s n
    unfolding offered_of
    offered_is n z ew eo o' g = rw (← e, z, ← ew, ← eo, g)

-- ---- the n-th step
-- no more are left to pass than were asked for
pub left-within : (t : List ℕ) (s : List ℤ) (n m : ℕ) {o : Offer} → o ≡ nth_in n (offered (machine_in t) s) → o ≡ offer.Beyond m → m ≤ n
left-within t s n m e f = let h : n ≡ m + length (offered (machine_in t) s) = beyond_rest n (offered (machine_in t) s) m (sym e ∙ f) in omega arith

-- ---- taking a step
module _ (w : List ℕ) (s : List ℤ) (x : machine.Step) (out new : List ℕ) (n : ℕ) (e : pen new n ≡ puts ((machine_in w).printed s x) (pen out 0)) (r : Taken) (s' : List ℤ) (f : (r, s') ≡ advance (machine_in w) s x) where
  taken_is : r ≡ (advance (machine_in w) s x).0
  taken_is = ap (λ (z : Effect). z.0) f

  pub move_answer : (a : Stepped) → a ≡ took_by r n → (a ≡ (took_at w s x out).answer) × ((s' ≡ (took_at w s x out).state) × (new ≡ (took_at w s x out).printed))
  move_answer a h = (h ∙ ap₂ took_by taken_is (ap (λ (z : Pen). z.at) e), (ap (λ (z : Effect). z.1) f, ap (λ (z : Pen). z.bytes) e))

-- the answer and what is left, by an outcome
abbrev pub LeftBy : Outcome → Stepped → List ℤ → List ℕ → Type 0
LeftBy o a s' out' = (a ≡ o.answer) × ((s' ≡ o.state) × (out' ≡ o.printed))

module _ (ts : List ℕ) (s : List ℤ) (p k : ℕ) (out : List ℕ) where
  pub no_print_room : length out < print_room → LeftBy (outcome_of ts s p k out) (stepped.Refused 7) s out
  unfolding outcome_of step_refusal
  no_print_room h = (simp (lt-ltb (length out) print_room h), (simp (lt-ltb (length out) print_room h), simp (lt-ltb (length out) print_room h)))

  module _ {x : ℕ} (room : print_room ≤ length out) (e : x ≡ refusal_of ts s) where
    refusal_is : step_refusal ts s out ≡ x
    unfolding step_refusal
    refusal_is = simp (le-ltb (length out) print_room room) (sym e)

    by_refusal : outcome_of ts s p k out ≡ pick (eqb x 0) (outcome_by (asked_in (written ts) s p k) (written ts) s out) (refused_by x s out)
    unfolding outcome_of
    by_refusal = ap (λ (z : ℕ). pick (eqb z 0) (outcome_by (asked_in (written ts) s p k) (written ts) s out) (refused_by z s out)) refusal_is

    pub step_refused : (x ≡ 0 → ⊥) → LeftBy (outcome_of ts s p k out) (stepped.Refused x) s out
    step_refused n = let o : outcome_of ts s p k out ≡ refused_by x s out = by_refusal ∙ ap (λ (b : Bool). pick b (outcome_by (asked_in (written ts) s p k) (written ts) s out) (refused_by x s out)) (ne_eqb x 0 n) in rw o (refl, (refl, refl))

    module _ {w : List ℕ} (z : x ≡ 0) (ew : w ≡ written ts) (v : Offer) (ev : v ≡ offer_as (asked_in w s p k)) where
      outcome_is : outcome_of ts s p k out ≡ outcome_by (step_in v) w s out
      outcome_is =
          by_refusal ∙ ap (λ (y : ℕ). pick (eqb y 0) (outcome_by (asked_in (written ts) s p k) (written ts) s out) (refused_by y s out)) z
          ∙ ap (λ (u : List ℕ). outcome_by (asked_in u s p k) u s out) (sym ew) ∙ ap (λ (y : Option machine.Step). outcome_by y w s out) (sym (ap step_in ev ∙ offer-back (asked_in w s p k)))

      pub none_there : (n : ℕ) → v ≡ offer.Beyond n → LeftBy (outcome_of ts s p k out) (stepped.Refused 11) s out
      none_there n g = rw (outcome_is ∙ ap (λ (y : Offer). outcome_by (step_in y) w s out) g) (refl, (refl, refl))

      pub one_there : (x : machine.Step) (a : Stepped) (s' : List ℤ) (out' : List ℕ) → v ≡ offer.Step x → LeftBy (took_at w s x out) a s' out' → LeftBy (outcome_of ts s p k out) a s' out'
      one_there x a s' out' g h = rw (outcome_is ∙ ap (λ (y : Offer). outcome_by (step_in y) w s out) g) h
