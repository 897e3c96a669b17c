-- The laws that the replay of a trail cites: one recorded step, the loop over the records, the entry.
use Prim.Native.Nat.{ℕ, suc, ◌+◌, ◌-◌, ◌≤◌, ◌<◌}
use mathlib.Core.Path.{◌≡◌, refl, sym, ap, ap₂, subst, ◌∙◌}
use mathlib.Core.Bool.{Bool, true, false}
use mathlib.Core.Option.{Option, none, some}
use mathlib.Core.List.{List, [], ◌∷◌}
use native.Mathlib.Omega.{arith}
use borrow.Author.Tests.{eq-eqb, ne_eqb, lt-ltb, le-ltb}
use lib.ListN.{length, take, drop, length-drop}
use lib.Seq.{drop-drop}
use lib.IntN.{ℤ}
use lib.Dec.{eqb}
use Rattle.base_bytes.specs.Choice.{pick}
use Rattle.base_outcome.specs.declared.Taken.{Taken}
use Rattle.base_outcome.specs.declared.Taken.TheVariants.{Done, Refuted, Faulted, Idle}
use Rattle.spec_machine.specs.Effect.{Outcome}
use Rattle.spec_machine.specs.Machine.{Machine, finished, blocked, «open», advance}
use Rattle.spec_trails.specs.Replays.{assertion, fault, standing, claimed, claim_by, accepted, refused, recorded, replay_from}
use Rattle.spec_trails.specs.Texts.{TextOf}
use Rattle.spec_trails.specs.Trails.{Recorded, trail_of, Small, one_more_lem}
use Rattle.read_genuine.specs.Genuine.{written}
use Rattle.state_start.specs.Starting.{initial_of}
use Rattle.trail_form.specs.Records.{record_of}
use Rattle.trail_form.specs.Forms.{Form, form, spoiled, line_of, form_of, answer_of}
use Rattle.trail_form.specs.declared.Record.{Record}
use Rattle.trail_form.specs.declared.Record.TheVariants.{Step, Claim, Malformed}
use Rattle.trail_form.specs.declared.Formed.{Formed}
use Rattle.trail_form.specs.declared.Formed.TheVariants.{Well, Spoiled}
use Rattle.trail_form.proofs.Exact.{verdict-claimed, form_exact}
use Rattle.trail_form.proofs.Written.{First, first-line}
use Rattle.step_all.specs.Moving.{machine_in, offer_as, step_in, verdict_as}
use Rattle.step_all.proofs.Laws.{offer-back}
use Rattle.step_all.specs.declared.Verdict.{Verdict}
use Rattle.step_all.specs.declared.Offer.{Offer}
use Rattle.step_take.proofs.Still.{Still}
use Rattle.step_all.proofs.Laws.{advance-still}
use Rattle.step_entry.specs.Entries.{foreign_of, asked_in}
use Rattle.trail_replay.specs.Replay.{Replay, replayed_as, told, replay_in, number_of, failure_of, judged, reached_of, recorded_by, recorded_in}
use Rattle.trail_replay.specs.Entries.{replayed_by, replayed_of}
use Rattle.trail_replay.specs.declared.Replayed.{Replayed}
use Rattle.trail_replay.specs.declared.Replayed.TheVariants.{Accepted, Refused}
use Rattle.base_ceilings.specs.Ceilings.{steps_most, trail_most}
use Rattle.spec_machine.specs.Machine as machine
use Rattle.step_all.specs.declared.Offer.TheVariants as offer
use Rattle.spec_trails.specs.Replays as replays

-- ---- one recorded step
module _ (t : List ℕ) (p k : ℕ) (s : List ℤ) (o : Offer) (e : o ≡ offer_as (asked_in t s p k)) where
  recorded_is : (x : Offer) → o ≡ x → recorded_by t (step_in x) s ≡ recorded_in t p k s
  recorded_is x f = ap (λ (y : Option machine.Step). recorded_by t y s) (ap step_in (sym f ∙ e) ∙ offer-back (asked_in t s p k))

  pub step_there : (x : machine.Step) → o ≡ offer.Step x → {r : Outcome (List ℤ)} → r ≡ advance (machine_in t) s x → r ≡ recorded_in t p k s
  step_there x f g = g ∙ recorded_is (offer.Step x) f

  pub no_such_step : (n : ℕ) → o ≡ offer.Beyond n → (Idle, s) ≡ recorded_in t p k s
  no_such_step n f = recorded_is (offer.Beyond n) f

-- ---- the verdict
verdict-number : (v : machine.Verdict) → number_of (verdict_as v) ≡ claimed (standing v)
verdict-number finished = refl
verdict-number blocked = refl
verdict-number «open» = refl

pub reached_state : (t : List ℕ) (s : List ℤ) (failed : ℕ) {v : Verdict} {n : ℕ} → failed ≡ 0 → v ≡ verdict_as (machine.verdict (machine_in t) s) → n ≡ number_of v → n ≡ reached_of t failed s
unfolding reached_of
reached_state t s failed z ev en = rw z (en ∙ (ap number_of ev ∙ verdict-number (machine.verdict (machine_in t) s)))

pub reached_failure : (t : List ℕ) (s : List ℤ) (failed : ℕ) → (failed ≡ 0 → ⊥) → failed ≡ reached_of t failed s
unfolding reached_of
reached_failure t s failed z = rw (ne_eqb failed 0 z)

pub same-verdict : (claim reached line : ℕ) → claim ≡ reached → Accepted claim ≡ judged claim reached line
unfolding judged
same-verdict claim reached line e = rw (eq-eqb claim reached e)

pub other_verdict : (claim reached line : ℕ) → (claim ≡ reached → ⊥) → Refused 12 line ≡ judged claim reached line
unfolding judged
other_verdict claim reached line e = rw (ne_eqb claim reached e)

-- ---- how the step before failed, by its number
abbrev failed_as : Option replays.Claim → ℕ
failed_as none = 0
failed_as (some c) = claimed c

claim_some : (c : replays.Claim) → claimed c ≡ 0 → ⊥
claim_some assertion e = omega arith
claim_some fault e = omega arith
claim_some (standing finished) e = omega arith
claim_some (standing blocked) e = omega arith
claim_some (standing «open») e = omega arith

-- ---- the loop: i records are read, the trail goes on at a place, and what is left of it is known
pub record Going (t trail : List ℕ) (n claim : ℕ) (s₀ : List ℤ) (failed at i : ℕ) (s : List ℤ) : Type 0 where
  steps : List Recorded
  behind : Option replays.Claim
  failing : failed ≡ failed_as behind
  left : TextOf (steps_most - i) (drop at trail) steps claim
  count : length steps ≡ n - i
  rest : told claim (replay_from (machine_in t) (claim_by claim) steps (i + 1) behind s) ≡ replay_in t (form_of trail) s₀
  place : at ≤ length trail
  pub most : n ≤ steps_most
  read : i ≤ n

pub at_start : (t trail : List ℕ) (n claim : ℕ) (s : List ℤ) → answer_of (form_of trail) ≡ Well n claim → Going t trail n claim s 0 0 0 s
at_start t trail n claim s e = go (form_of trail) refl e
  where
    go : (f : Form) → form_of trail ≡ f → answer_of f ≡ Well n claim → Going t trail n claim s 0 0 0 s
    go (spoiled x l) q g = absurd (let z : ◌≡◌ {A = ℕ} 0 1 = cc in omega arith)
    go (form steps w) q g =
        let c : w ≡ claim = cc in
        let l : length steps ≡ n = cc in
        let f = q ∙ ap (form steps) c in
        let x : TextOf steps_most trail steps claim = (form_exact trail steps claim).0 f in
        record {
          steps = steps;
          behind = none;
          failing = refl;
          left = x;
          count = l ∙ omega arith;
          rest = ap (λ (y : Form). replay_in t y s) (sym f);
          place = omega arith;
          most = omega (arith, l, x.few);
          read = omega arith;
        }

module _ {t trail : List ℕ} {n claim : ℕ} {s₀ : List ℤ} {failed at i : ℕ} {s : List ℤ} (g : Going t trail n claim s₀ failed at i s) where
  abbrev M : Machine (List ℤ)
  M = machine_in t

  -- no record is left but the claim
  judged_is : (c : replays.Claim) (line : ℕ) → judged claim (claimed c) line ≡ replayed_as claim (replays.judged M (claim_by claim) c line)
  unfolding judged
  judged_is c line = ap (λ (k : ℕ). pick (eqb k (claimed c)) (Accepted claim) (Refused 12 line)) (sym (verdict-claimed g.left)) ∙ go (eqb (claimed (claim_by claim)) (claimed c))
    where
      go : (b : Bool) → pick b (Accepted claim) (Refused 12 line) ≡ replayed_as claim (pick b accepted (refused 12 line))
      go true = refl
      go false = refl

  ends : (f : Option replays.Claim) (line : ℕ) → (judged claim (reached_of t (failed_as f) s) line, s) ≡ told claim (replay_from M (claim_by claim) [] line f s)
  unfolding replay_from reached_of
  ends none line = ap (λ (r : Replayed). (r, s)) (judged_is (standing (machine.verdict M s)) line)
  ends (some c) line =
      ap (λ (b : Bool). (judged claim (pick b (claimed (standing (machine.verdict M s))) (claimed c)) line, s)) (ne_eqb (claimed c) 0 (claim_some c)) ∙ ap (λ (r : Replayed). (r, s)) (judged_is c line)

  pub at_end : n ≤ i → {x : ℕ} {r : Replayed} → x ≡ reached_of t failed s → r ≡ judged claim x (n + 1) → (r, s) ≡ replay_in t (form_of trail) s₀
  at_end h {x = x} {r = r} ex er = go g.steps g.count g.rest
    where
      go : (steps : List Recorded) → length steps ≡ n - i → told claim (replay_from M (claim_by claim) steps (i + 1) g.behind s) ≡ replay_in t (form_of trail) s₀ → (r, s) ≡ replay_in t (form_of trail) s₀
      go [] c q =
          let z : n + 1 ≡ i + 1 = omega (arith, g.read) in
          let y : x ≡ reached_of t (failed_as g.behind) s = ex ∙ ap (λ k. reached_of t k s) g.failing in
          ap (λ (a : Replayed). (a, s)) (er ∙ (ap (λ (k : ℕ). judged claim k (n + 1)) y ∙ ap (judged claim (reached_of t (failed_as g.behind) s)) z)) ∙ (ends g.behind (i + 1) ∙ q)
      go (a ∷ more) c q = absurd (omega (arith, c))

  module _ (h : i < n) (m : ℕ) (em : m ≡ line_of (drop at trail)) where
    -- the first of the records that are left, and its line
    record Ahead : Type 0 where
      a : Recorded
      more : List Recorded
      split : g.steps ≡ a ∷ more
      small : Small more
      first : First a (trail_of more claim) (drop at trail)

    ahead : Ahead
    unfolding trail_of
    ahead = go g.steps refl g.left.small g.left.text
      where
        go : (steps : List Recorded) → g.steps ≡ steps → Small steps → drop at trail ≡ trail_of steps claim → Ahead
        go [] e z x = absurd (omega (arith, g.count, ap length e))
        go (b ∷ rest) e (one_more_lem _ _ hp hk z) x =
            record { a = b; more = rest; split = e; small = z; first = subst (First b (trail_of rest claim)) (sym x) (first-line b (trail_of rest claim) hp hk) }

    pub line-within : at + m < length trail
    line-within = omega (arith, ahead.first.ended, length-drop at trail, g.place)

    module _ (r : Record) (er : r ≡ record_of (take m (drop at trail))) where
      record_is : r ≡ Step ahead.a.process ahead.a.choice
      record_is = er ∙ (ap (λ (k : ℕ). record_of (take k (drop at trail))) em ∙ ahead.first.here)

      pub no_claim : (v : ℕ) → r ≡ Claim v → ⊥
      no_claim v e = not_claim (sym record_is ∙ e)
        where
          not_claim : {p k w : ℕ} → Step p k ≡ Claim w → ⊥
          not_claim q = let z : ◌≡◌ {A = ℕ} 0 1 = cc in omega arith

      pub no_malformed : r ≡ Malformed → ⊥
      no_malformed e = not_malformed (sym record_is ∙ e)
        where
          not_malformed : {p k : ℕ} → Step p k ≡ Malformed → ⊥
          not_malformed q = let z : ◌≡◌ {A = ℕ} 0 1 = cc in omega arith

      module _ (p k : ℕ) (ep : r ≡ Step p k) where
        abbrev given : Recorded
        given = record { process = p; choice = k }

        -- the replay of the others, behind a step that failed so or did not
        abbrev others : Option replays.Claim → List ℤ → replays.Replayed × List ℤ
        others f x = replay_from M (claim_by claim) ahead.more (i + 1 + 1) f x

        steps_are : g.steps ≡ given ∷ ahead.more
        steps_are = ahead.split ∙ go ahead.a (sym record_is ∙ ep)
          where
            go : (a : Recorded) → Step a.process a.choice ≡ Step p k → a ∷ ahead.more ≡ given ∷ ahead.more
            go a q = let u : a.process ≡ p = cc in let v : a.choice ≡ k = cc in ap₂ (λ (x y : ℕ). record { process = x; choice = y } ∷ ahead.more) u v

        next_is : told claim (replay_from M (claim_by claim) (given ∷ ahead.more) (i + 1) g.behind s) ≡ replay_in t (form_of trail) s₀
        next_is = ap (λ (l : List Recorded). told claim (replay_from M (claim_by claim) l (i + 1) g.behind s)) (sym steps_are) ∙ g.rest

        pub behind_failure : (failed ≡ 0 → ⊥) → (Refused 11 (i + 1), s) ≡ replay_in t (form_of trail) s₀
        unfolding replay_from
        behind_failure f = go g.behind g.failing next_is
          where
            go : (b : Option replays.Claim) → failed ≡ failed_as b → told claim (replay_from M (claim_by claim) (given ∷ ahead.more) (i + 1) b s) ≡ replay_in t (form_of trail) s₀
                → (Refused 11 (i + 1), s) ≡ replay_in t (form_of trail) s₀
            go none e q = absurd (f e)
            go (some c) e q = q

        recorded_by_lem : (o : Option machine.Step) (rest : Option replays.Claim → List ℤ → replays.Replayed × List ℤ)
            → recorded M (i + 1) s o rest ≡ replays.followed M (i + 1) s (recorded_by t o s).0 (recorded_by t o s).1 rest
        recorded_by_lem none rest = refl
        recorded_by_lem (some x) rest = refl

        recorded-still : (o : Option machine.Step) → Still s (recorded_by t o s).0 (recorded_by t o s).1
        recorded-still none = refl
        recorded-still (some x) = advance-still t s x

        module _ (f : failed ≡ 0) {x : Taken} {s' : List ℤ} (ex : (x, s') ≡ recorded_in t p k s) {y : ℕ} (ey : y ≡ failure_of x) where
          taken_is : told claim (replays.followed M (i + 1) s x s' others) ≡ replay_in t (form_of trail) s₀
          unfolding replay_from
          taken_is =
              ap (λ (z : Outcome (List ℤ)). told claim (replays.followed M (i + 1) s z.0 z.1 others)) ex ∙ ap (told claim) (sym (recorded_by_lem (asked_in t s p k) others))
              ∙ go g.behind g.failing next_is
            where
              go : (b : Option replays.Claim) → failed ≡ failed_as b → told claim (replay_from M (claim_by claim) (given ∷ ahead.more) (i + 1) b s) ≡ replay_in t (form_of trail) s₀
                  → told claim (recorded M (i + 1) s (asked_in t s p k) others) ≡ replay_in t (form_of trail) s₀
              go none e q = q
              go (some c) e q = absurd (claim_some c (sym e ∙ f))

          still : Still s x s'
          still = subst (λ (z : Outcome (List ℤ)). Still s z.0 z.1) (sym ex) (recorded-still (asked_in t s p k))

          pub not_offered : y ≡ 3 → (Refused 11 (i + 1), s') ≡ replay_in t (form_of trail) s₀
          not_offered e = go x (sym e ∙ ey) still taken_is
            where
              go : (k : Taken) → 3 ≡ failure_of k → Still s k s' → told claim (replays.followed M (i + 1) s k s' others) ≡ replay_in t (form_of trail) s₀ → (Refused 11 (i + 1), s') ≡ replay_in t (form_of trail) s₀
              go Done q z o = absurd (omega arith)
              go Refuted q z o = absurd (omega arith)
              go (Faulted _) q z o = absurd (omega arith)
              go Idle q z o = ap (λ (u : List ℤ). (Refused 11 (i + 1), u)) z ∙ o

          pub go_on : (y ≡ 3 → ⊥) → Going t trail n claim s₀ y (at + m + 1) (i + 1) s'
          go_on o = go x ey taken_is
            where
              text : drop (at + m + 1) trail ≡ trail_of ahead.more claim
              text = let z : at + (line_of (drop at trail) + 1) ≡ at + m + 1 = omega arith in ap (λ (j : ℕ). drop j trail) (sym z) ∙ (sym (drop-drop (line_of (drop at trail) + 1) at trail) ∙ ahead.first.others)

              going : (b : Option replays.Claim) → y ≡ failed_as b → told claim (others b s') ≡ replay_in t (form_of trail) s₀ → Going t trail n claim s₀ y (at + m + 1) (i + 1) s'
              going b e q =
                  let l : suc (length ahead.more) ≡ n - i = ap length (sym ahead.split) ∙ g.count in
                  record {
                    steps = ahead.more;
                    behind = b;
                    failing = e;
                    left = record { claim = g.left.claim; verdict = g.left.verdict; text = text; small = ahead.small; few = omega (arith, g.left.few, ap length ahead.split) };
                    count = omega arith;
                    rest = q;
                    place = omega (arith, line-within);
                    most = g.most;
                    read = omega arith;
                  }

              go : (k : Taken) → y ≡ failure_of k → told claim (replays.followed M (i + 1) s k s' others) ≡ replay_in t (form_of trail) s₀ → Going t trail n claim s₀ y (at + m + 1) (i + 1) s'
              go Done e q = going none e q
              go Refuted e q = going (some assertion) e q
              go (Faulted _) e q = going (some fault) e q
              go Idle e q = absurd (o e)

-- ---- the entry
module _ (ts trail : List ℕ) (s : List ℤ) {x : ℕ} (e : x ≡ foreign_of ts s) where
  pub no_room : x ≡ 7 → (Refused 7 0, s) ≡ replayed_of ts trail s
  unfolding replayed_of
  no_room z = rw (← e, z)

  module _ (a : x ≡ 7 → ⊥) where
    pub too_long : trail_most < length trail → (Refused 2 0, s) ≡ replayed_of ts trail s
    unfolding replayed_of
    too_long h = rw (← e, ne_eqb x 7 a, lt-ltb trail_most (length trail) h)

    module _ (h : length trail ≤ trail_most) where
      pub not_own : (x ≡ 0 → ⊥) → (Refused 8 0, s) ≡ replayed_of ts trail s
      unfolding replayed_of
      not_own b = rw (← e, ne_eqb x 7 a, le-ltb trail_most (length trail) h, ne_eqb x 0 b)

      module _ (z : x ≡ 0) {f : Formed} (ef : f ≡ answer_of (form_of trail)) where
        by_form : replayed_by (form_of trail) (written ts) s ≡ replayed_of ts trail s
        unfolding replayed_of
        by_form = rw (← e, z, le-ltb trail_most (length trail) h)

        pub spoiled_trail : (y line : ℕ) → f ≡ Spoiled y line → (Refused y line, s) ≡ replayed_of ts trail s
        spoiled_trail y line g = go (form_of trail) (sym ef ∙ g) by_form
          where
            go : (u : Form) → answer_of u ≡ Spoiled y line → replayed_by u (written ts) s ≡ replayed_of ts trail s → (Refused y line, s) ≡ replayed_of ts trail s
            go (form steps v) q o = absurd (let c : ◌≡◌ {A = ℕ} 0 1 = cc in omega arith)
            go (spoiled a b) q o = let c : Refused y line ≡ Refused a b = cc in ap (λ (d : Replayed). (d, s)) c ∙ o

        pub well_formed : (n claim : ℕ) → f ≡ Well n claim → answer_of (form_of trail) ≡ Well n claim
        well_formed n claim g = sym ef ∙ g

        pub followed : (n claim : ℕ) → f ≡ Well n claim → {w : List ℕ} {s₁ : List ℤ} {r : Replay} → w ≡ written ts → s₁ ≡ initial_of w s → r ≡ replay_in w (form_of trail) s₁ → r ≡ replayed_of ts trail s
        followed n claim g {w} {s₁} {r} ew es er =
            er ∙ (ap (λ (y : List ℤ). replay_in w (form_of trail) y) es ∙ (ap (λ (y : List ℕ). replay_in y (form_of trail) (initial_of y s)) ew ∙ go (form_of trail) (sym ef ∙ g) by_form))
          where
            go : (u : Form) → answer_of u ≡ Well n claim → replayed_by u (written ts) s ≡ replayed_of ts trail s → replay_in (written ts) u (initial_of (written ts) s) ≡ replayed_of ts trail s
            go (form steps v) q o = o
            go (spoiled a b) q o = absurd (let c : ◌≡◌ {A = ℕ} 0 1 = cc in omega arith)
