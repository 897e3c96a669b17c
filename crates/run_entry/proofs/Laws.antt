-- The laws that turns, the run's loop and its entry cite.
use Prim.Native.Nat.{ℕ, suc, ◌+◌, ◌-◌, ◌≤◌, ◌<◌}
use mathlib.Core.Path.{◌≡◌, refl, sym, ap, ◌∙◌}
use mathlib.Core.List.{List, [], ◌∷◌}
use native.Mathlib.Omega.{arith}
use borrow.Author.Tests.{ne_eqb}
use lib.IntN.{ℤ}
use Rattle.read_genuine.specs.Genuine.{written}
use Rattle.spec_machine.specs.Effect.{Outcome}
use Rattle.spec_machine.specs.Machine as machine
use Rattle.spec_machine.specs.Machine.{Machine, finished, blocked, «open», offered, advance}
use Rattle.spec_trails.specs.Runs as runs
use Rattle.spec_trails.specs.Runs.{stood, first_taken, run_by, run_from}
use Rattle.step_all.specs.Moving.{machine_in, nth_in, verdict_as}
use Rattle.step_all.specs.declared.Offer.{Offer}
use Rattle.step_all.specs.declared.Offer.TheVariants.{Step, Beyond}
use Rattle.step_all.specs.declared.Verdict.{Verdict}
use Rattle.base_outcome.specs.declared.Taken.{Taken}
use Rattle.base_outcome.specs.declared.Taken.TheVariants.{Done, Refuted, Faulted, Idle}
use Rattle.step_entry.specs.Entries.{refusal_of}
use Rattle.base_values.specs.declared.Fault.{Fault}
use Rattle.run_entry.specs.Runs.{ending_as, ending_of, shown, turn_in, run_in}
use Rattle.run_entry.specs.Entries.{ran_of}
use Rattle.run_entry.specs.declared.Ending.{Ending}
use Rattle.run_entry.specs.declared.Ending.TheVariants as ending
use Rattle.run_entry.specs.declared.Ran.{Ran}
use Rattle.run_entry.specs.declared.Ran.TheVariants.{Ended, Refused}

-- ---- one turn
module _ (t : List ℕ) (s : List ℤ) {o : Offer} (e : o ≡ nth_in 0 (offered (machine_in t) s)) where
  -- what comes of the first step, by the answer that it is
  abbrev turn_by : Offer → Outcome (List ℤ)
  turn_by (Step x) = advance (machine_in t) s x
  turn_by (Beyond n) = (Idle, s)

  turn_is : (x : Offer) → o ≡ x → turn_by x ≡ turn_in t s
  unfolding nth_in
  turn_is x f = ap turn_by (sym f ∙ e) ∙ go (offered (machine_in t) s)
    where
      go : (l : List machine.Step) → turn_by (nth_in 0 l) ≡ first_taken (machine_in t) s l
      go [] = refl
      go (c ∷ l) = refl

  pub turn_step : (x : machine.Step) → o ≡ Step x → {r : Outcome (List ℤ)} → r ≡ advance (machine_in t) s x → r ≡ turn_in t s
  turn_step x f g = g ∙ turn_is (Step x) f

  pub turn_none : (n : ℕ) → o ≡ Beyond n → (Idle, s) ≡ turn_in t s
  turn_none n f = turn_is (Beyond n) f

-- ---- the loop: n steps are taken, and the rest of the run is known
abbrev pub behind : ℕ → runs.Ran (List ℤ) → runs.Ran (List ℤ)
behind n r = record { ending = r.ending; count = n + r.count; state = r.state }

counted : (a : runs.Ending) (c d : ℕ) (s : List ℤ) → c ≡ d → ◌≡◌ {A = runs.Ran (List ℤ)} (record { ending = a; count = c; state = s }) (record { ending = a; count = d; state = s })
counted a c d s e = rw e

pub none-behind : (t : List ℕ) (limit : ℕ) (s : List ℤ) → behind 0 (run_in t (limit - 0) s) ≡ run_in t limit s
none-behind t limit s = counted (run_in t (limit - 0) s).ending (0 + (run_in t (limit - 0) s).count) (run_in t (limit - 0) s).count (run_in t (limit - 0) s).state (omega arith) ∙ ap (λ (l : ℕ). run_in t l s) (omega arith)

-- a run that stands still ends with the verdict
ending_is : (v : machine.Verdict) → ending_of (verdict_as v) ≡ ending_as (stood v)
ending_is finished = refl
ending_is blocked = refl
ending_is «open» = refl

module _ (t : List ℕ) (limit n : ℕ) (s₀ s : List ℤ) (inv : behind n (run_in t (limit - n) s) ≡ run_in t limit s₀) where
  abbrev M : Machine (List ℤ)
  M = machine_in t

  still : (s : List ℤ) → behind n (runs.still M s) ≡ run_in t limit s₀ → {v : Verdict} {a : Ending} → v ≡ verdict_as (machine.verdict (machine_in t) s) → a ≡ ending_of v
      → (Ended a n, s) ≡ shown (run_in t limit s₀)
  still s h {v} {a} ev ea =
      let v₁ = machine.verdict (machine_in t) s in
      let q : a ≡ ending_as (stood v₁) = ea ∙ (ap ending_of ev ∙ ending_is v₁) in
      rw q (ap (λ (c : ℕ). (Ended (ending_as (stood v₁)) c, s)) (omega arith) ∙ ap shown h)

  pub ended : limit ≤ n → {v : Verdict} {a : Ending} → v ≡ verdict_as (machine.verdict (machine_in t) s) → a ≡ ending_of v → (Ended a n, s) ≡ shown (run_in t limit s₀)
  unfolding run_from
  ended h ev ea = let z : limit - n ≡ 0 = omega arith in still s (ap (λ (l : ℕ). behind n (run_in t l s)) (sym z) ∙ inv) ev ea

  -- the same where the limit itself is the count
  pub ended_at : n ≡ limit → {v : Verdict} {a : Ending} → v ≡ verdict_as (machine.verdict (machine_in t) s) → a ≡ ending_of v → (Ended a limit, s) ≡ shown (run_in t limit s₀)
  ended_at h {a = a} ev ea = ap (λ (c : ℕ). (Ended a c, s)) (sym h) ∙ ended (omega arith) ev ea

  module _ (h : n < limit) {r : Taken} {s' : List ℤ} (e : (r, s') ≡ turn_in t s) where
    known : (x : Taken) → r ≡ x → behind n (run_by M x s' (λ y. run_in t (limit - (n + 1)) y)) ≡ run_in t limit s₀
    unfolding run_from
    known x f =
        let z : limit - n ≡ suc (limit - (n + 1)) = omega arith in
        ap (λ (y : Taken). behind n (run_by M y s' (λ z. run_in t (limit - (n + 1)) z))) (sym f)
        ∙ (ap (λ (y : Outcome (List ℤ)). behind n (run_by M y.0 y.1 (λ x. run_in t (limit - (n + 1)) x))) e ∙ (ap (λ (l : ℕ). behind n (run_in t l s)) (sym z) ∙ inv))

    pub go_on : r ≡ Done → behind (n + 1) (run_in t (limit - (n + 1)) s') ≡ run_in t limit s₀
    go_on f =
        counted (run_in t (limit - (n + 1)) s').ending (n + 1 + (run_in t (limit - (n + 1)) s').count) (n + suc (run_in t (limit - (n + 1)) s').count) (run_in t (limit - (n + 1)) s').state (omega arith)
        ∙ known Done f

    pub refuted : r ≡ Refuted → (Ended ending.Assert (n + 1), s') ≡ shown (run_in t limit s₀)
    refuted f = ap shown (known Refuted f)

    pub faulted : (x : Fault) → r ≡ Faulted x → (Ended (ending.Fault x) (n + 1), s') ≡ shown (run_in t limit s₀)
    faulted x f = ap shown (known (Faulted x) f)

    pub none_left : r ≡ Idle → {v : Verdict} {a : Ending} → v ≡ verdict_as (machine.verdict (machine_in t) s') → a ≡ ending_of v → (Ended a n, s') ≡ shown (run_in t limit s₀)
    none_left f ev ea = still s' (known Idle f) ev ea

-- ---- the entry
module _ (ts : List ℕ) (s : List ℤ) (limit : ℕ) {x : ℕ} (e : x ≡ refusal_of ts s) where
  pub run_refused : (x ≡ 0 → ⊥) → (Refused x, s) ≡ ran_of ts s limit
  unfolding ran_of
  run_refused n = rw (← e, ne_eqb x 0 n)

  pub run_is : {w : List ℕ} {r : Ran × List ℤ} → x ≡ 0 → w ≡ written ts → r ≡ shown (run_in w limit s) → r ≡ ran_of ts s limit
  unfolding ran_of
  run_is z ew er = rw (← e, z, ← ew) er
