-- RUNS AND TRAILS OF A MACHINE are what the relations say, where something comes of every offered step, a failed one leaves the state, and every step keeps I.
use Prim.Native.Nat.{ℕ, zero, suc, ◌+◌}
use native.Mathlib.Omega.{arith}
use mathlib.Core.Path.{◌≡◌, refl, sym as inv, ap, ◌∙◌, subst}
use mathlib.Core.Bool.{Bool, true, false}
use mathlib.Core.Option.{Option, none, some}
use mathlib.Core.List.{List, [], ◌∷◌}
use lib.ListN.{length}
use lib.Dec.{eqb}
use borrow.Author.Tests.{eq-eqb, eqb-true}
use Rattle.base_bytes.specs.Choice.{pick}
use Rattle.base_bytes.proofs.Tests.{true_false}
use Rattle.base_outcome.specs.declared.Taken.{Taken}
use Rattle.base_outcome.specs.declared.Taken.TheVariants.{Done, Refuted, Faulted, Idle}
use Rattle.spec_machine.specs.Effect.{Outcome}
use Rattle.spec_machine.specs.Machine.{Move, Machine, Step, move_of, offered, advance, verdict, asked}
use Rattle.spec_trails.specs.Runs.{Ending, refuted, faulted, Ran, one_more, still, first_taken, run_by, run_from}
use Rattle.spec_trails.specs.Replays.{Claim, assertion, fault, standing, claimed, claim_by, Replayed, accepted, refused, judged, followed, recorded, replay_from}
use Rattle.spec_trails.specs.Trails.{Recorded}
use Rattle.step_take.proofs.Still.{Still}
use Rattle.agree_machine.proofs.Busy.{Busy}
use Rattle.trail_form.proofs.Exact.{claim_back}
use Rattle.demands.specs.Walks.{chosen, Offers, Runs, limit_met, none_offered, assertion_failed, at_fault, one_more_lem, Fails, asserted, faulty, Walks, stands, fails, goes_on, Stops, not_offered, after_failure, other_verdict, later}
use Rattle.demands.proofs.Offers.{asked-offers, offers-asked, first-offers}

pub record Good {S : Type 0} (M : Machine S) (I : S → Type 0) (s : S) (x : Step) : Type 0 where
  pub busy : Busy (advance M s x).0
  pub still : Still s (advance M s x).0 (advance M s x).1
  pub kept : I (advance M s x).1

-- ---- claims
one_claim : (c d : Claim) → eqb (claimed c) (claimed d) ≡ true → c ≡ d
one_claim c d e = inv (claim_back c) ∙ ap claim_by (eqb-true (claimed c) (claimed d) e) ∙ claim_back d

differ : (a b : ℕ) → eqb a b ≡ false → a ≡ b → ⊥
differ a b e f = true_false (inv (eq-eqb a b f) ∙ e)

abbrev is_some : Option Step → ℕ
is_some none = 0
is_some (some x) = 1

pub missing : {x : Step} → none ≡ some x → ⊥
missing e = let z : ◌≡◌ {A = ℕ} 0 1 = ap is_some e in omega arith

module _ {S : Type 0} (M : Machine S) where
  -- ---- there is one run
  pub one-run : {n : ℕ} {s : S} {l : List Step} {e : Ending} {t : S} → Runs M n s l e t → run_from M n s ≡ record { ending = e; count = length l; state = t }
  unfolding run_from
  one-run (limit_met s) = refl
  one-run (none_offered n s e) = ap (λ k. run_by M (first_taken M s k).0 (first_taken M s k).1 (λ x. run_from M n x)) e
  one-run (assertion_failed n s x l e q) =
      ap (λ k. run_by M (first_taken M s k).0 (first_taken M s k).1 (λ y. run_from M n y)) e ∙ ap (λ (r : Outcome S). run_by M r.0 r.1 (λ y. run_from M n y)) q
  one-run (at_fault n s x l f e q) =
      ap (λ k. run_by M (first_taken M s k).0 (first_taken M s k).1 (λ y. run_from M n y)) e ∙ ap (λ (r : Outcome S). run_by M r.0 r.1 (λ y. run_from M n y)) q
  one-run (one_more_lem n s t x l xs e u f q h) =
      ap (λ k. run_by M (first_taken M s k).0 (first_taken M s k).1 (λ y. run_from M n y)) f ∙ ap (λ (r : Outcome S). run_by M r.0 r.1 (λ y. run_from M n y)) q ∙ ap one_more (one-run h)

  -- ---- a walk is accepted
  same_claim : (c : Claim) (line : ℕ) → judged M c c line ≡ accepted
  same_claim c line = ap (λ b. pick b accepted (refused 12 line)) (eq-eqb (claimed c) (claimed c) refl)

  taken_so : (a : Recorded) (s : S) (q : Move) (line : ℕ) (k : Taken) (t : S) (rest : Option Claim → S → Replayed × S) → Offers M s (chosen a q) → advance M s (chosen a q) ≡ (k, t)
      → recorded M line s (asked M a.process a.choice (offered M s)) rest ≡ followed M line s k t rest
  taken_so a s q line k t rest h e =
      ap (λ o. recorded M line s o rest) (offers-asked M s (chosen a q) h) ∙ ap (λ (r : Outcome S). followed M line s r.0 r.1 rest) e

  failed_so : (a : Recorded) (s : S) (c d : Claim) (more : List Recorded) (line : ℕ) → Fails M a s c
      → recorded M line s (asked M a.process a.choice (offered M s)) (λ f x. replay_from M d more (line + 1) f x) ≡ replay_from M d more (line + 1) (some c) s
  failed_so a s c d more line (asserted q h e) = taken_so a s q line Refuted s (λ f x. replay_from M d more (line + 1) f x) h e
  failed_so a s c d more line (faulty q f h e) = taken_so a s q line (Faulted f) s (λ g x. replay_from M d more (line + 1) g x) h e

  pub walk_accepted : {l : List Recorded} {s : S} {c : Claim} {t : S} → Walks M l s c t → (line : ℕ) → replay_from M c l line none s ≡ (accepted, t)
  unfolding replay_from
  walk_accepted (stands s) line = ap (λ r. (r, s)) (same_claim (standing (verdict M s)) line)
  walk_accepted (fails a s c h) line = failed_so a s c c [] line h ∙ ap (λ r. (r, s)) (same_claim c (line + 1))
  walk_accepted (goes_on a more s t q c u h e w) line =
      taken_so a s q line Done t (λ f x. replay_from M c more (line + 1) f x) h e ∙ walk_accepted w (line + 1)

  -- ---- a walk that stops is refused
  other_claim : (c d : Claim) (line : ℕ) → (d ≡ c → ⊥) → judged M c d line ≡ refused 12 line
  other_claim c d line h = ap (λ b. pick b accepted (refused 12 line)) (go (eqb (claimed c) (claimed d)) refl)
    where
      go : (b : Bool) → eqb (claimed c) (claimed d) ≡ b → b ≡ false
      go true e = absurd (h (inv (one_claim c d e)))
      go false e = refl

  walk_refused : {l : List Recorded} {s : S} {c : Claim} {t : S} (claim : Claim) → Walks M l s c t → (c ≡ claim → ⊥) → (line : ℕ) → replay_from M claim l line none s ≡ (refused 12 (line + length l), t)
  unfolding replay_from
  walk_refused claim (stands s) h line = ap (λ r. (r, s)) (other_claim claim (standing (verdict M s)) line h ∙ ap (refused 12) (let z : line ≡ line + 0 = omega arith in z))
  walk_refused claim (fails a s c w) h line = failed_so a s c claim [] line w ∙ ap (λ r. (r, s)) (other_claim claim c (line + 1) h)
  walk_refused claim (goes_on a more s t q c u o e w) h line =
      taken_so a s q line Done t (λ f x. replay_from M claim more (line + 1) f x) o e ∙ walk_refused claim w h (line + 1)
      ∙ ap (λ (n : ℕ). (refused 12 n, u)) (let z : line + 1 + length more ≡ line + suc (length more) = omega arith in z)

  none-asked : (a : Recorded) (s : S) → ((q : Move) → Offers M s (chosen a q) → ⊥) → (o : Option Step) → asked M a.process a.choice (offered M s) ≡ o → o ≡ none
  none-asked a s h none e = refl
  none-asked a s h (some x) e = absurd (h (move_of x) (asked-offers M s a.process a.choice x e).1)

  pub stop_refused : {claim : Claim} {l : List Recorded} {line : ℕ} {s : S} {x n : ℕ} {t : S} → Stops M claim l line s x n t → replay_from M claim l line none s ≡ (refused x n, t)
  unfolding replay_from
  stop_refused {claim = claim} (not_offered a more line s h) =
      ap (λ o. recorded M line s o (λ f x. replay_from M claim more (line + 1) f x)) (none-asked a s h (asked M a.process a.choice (offered M s)) refl)
  stop_refused {claim = claim} (after_failure a b more line s c h) = failed_so a s c claim (b ∷ more) line h
  stop_refused {claim = claim} (other_verdict l line s c t w h) = walk_refused claim w h line
  stop_refused {claim = claim} (later a more line s t q x n u o e w) = taken_so a s q line Done t (λ f y. replay_from M claim more (line + 1) f y) o e ∙ stop_refused w

-- ---- where steps are good
module _ {S : Type 0} (M : Machine S) (I : S → Type 0) (good : (s : S) → I s → (x : Step) → Offers M s x → Good M I s x) where
  pub record Run (n : ℕ) (s : S) (r : Ran S) : Type 0 where
    pub steps : List Step
    pub runs : Runs M n s steps r.ending r.state

  turn : (n : ℕ) (s : S) (rest : S → Ran S) → ((t : S) → I t → Run n t (rest t)) → (x : Step) (l : List Step) → offered M s ≡ x ∷ l → (k : Taken) (t : S) → advance M s x ≡ (k, t)
      → Busy k → Still s k t → I t → Run (suc n) s (run_by M k t rest)
  turn n s rest f x l e Done t q b i j = let r = f t j in record { steps = x ∷ r.steps; runs = one_more_lem n s t x l r.steps (rest t).ending (rest t).state e q r.runs }
  turn n s rest f x l e Refuted t q b i j =
      record { steps = x ∷ []; runs = subst (Runs M (suc n) s (x ∷ []) refuted) (inv i) (assertion_failed n s x l e (q ∙ ap (λ (y : S). (Refuted, y)) i)) }
  turn n s rest f x l e (Faulted g) t q b i j =
      record { steps = x ∷ []; runs = subst (Runs M (suc n) s (x ∷ []) (faulted g)) (inv i) (at_fault n s x l g e (q ∙ ap (λ (y : S). (Faulted g, y)) i)) }
  turn n s rest f x l e Idle t q b i j = absurd b

  first_turn : (n : ℕ) (s : S) → I s → (rest : S → Ran S) → ((t : S) → I t → Run n t (rest t)) → (l : List Step) → offered M s ≡ l
      → Run (suc n) s (run_by M (first_taken M s l).0 (first_taken M s l).1 rest)
  first_turn n s i rest f [] e = record { steps = []; runs = none_offered n s e }
  first_turn n s i rest f (x ∷ l) e =
      let g = good s i x (first-offers M s x l e) in
      turn n s rest f x l e (advance M s x).0 (advance M s x).1 refl g.busy g.still g.kept

  pub some-run : (n : ℕ) (s : S) → I s → Run n s (run_from M n s)
  unfolding run_from
  some-run zero s i = record { steps = []; runs = limit_met s }
  some-run (suc n) s i = first_turn n s i (λ t. run_from M n t) (λ t j. some-run n t j) (offered M s) refl

  -- ---- what is accepted is a walk, what is refused one that stops
  -- what an answer means for the records from a line on
  abbrev Means : Claim → List Recorded → ℕ → S → Replayed → S → Type 0
  Means c l line s accepted u = Walks M l s c u
  Means c l line s (refused x n) u = Stops M c l line s x n u

  module _ (c : Claim) where
    judged-means : (l : List Recorded) (line n : ℕ) (s t : S) (d : Claim) → n ≡ line + length l → Walks M l s d t → Means c l line s (judged M c d n) t
    judged-means l line n s t d e w = go (eqb (claimed c) (claimed d)) refl
      where
        go : (b : Bool) → eqb (claimed c) (claimed d) ≡ b → Means c l line s (pick b accepted (refused 12 n)) t
        go true z = subst (λ y. Walks M l s y t) (inv (one_claim c d z)) w
        go false z = subst (λ i. Stops M c l line s 12 i t) (inv e) (other_verdict l line s d t w (λ y. differ (claimed c) (claimed d) z (ap claimed (inv y))))

    failed_means : (a : Recorded) (more : List Recorded) (line : ℕ) (s : S) (d : Claim) → Fails M a s d
        → Means c (a ∷ more) line s (replay_from M c more (line + 1) (some d) s).0 (replay_from M c more (line + 1) (some d) s).1
    unfolding replay_from
    failed_means a [] line s d h = judged-means (a ∷ []) line (line + 1) s s d refl (fails a s d h)
    failed_means a (b ∷ more) line s d h = after_failure a b more line s d h

    later-means : (a : Recorded) (more : List Recorded) (line : ℕ) (s t : S) (q : Move) → Offers M s (chosen a q) → advance M s (chosen a q) ≡ (Done, t) → (r : Replayed) (u : S)
        → Means c more (line + 1) t r u → Means c (a ∷ more) line s r u
    later-means a more line s t q o e accepted u w = goes_on a more s t q c u o e w
    later-means a more line s t q o e (refused x n) u w = later a more line s t q x n u o e w

    -- what follows a step, in what is answered and left
    abbrev Told : List Recorded → ℕ → S → Replayed × S → Type 0
    Told l line s r = Means c l line s r.0 r.1

    follow : (a : Recorded) (more : List Recorded) (line : ℕ) (s : S) (q : Move) → Offers M s (chosen a q) → (k : Taken) (t : S) → advance M s (chosen a q) ≡ (k, t) → Busy k → Still s k t
        → Told more (line + 1) t (replay_from M c more (line + 1) none t) → Told (a ∷ more) line s (followed M line s k t (λ f x. replay_from M c more (line + 1) f x))
    follow a more line s q o Done t e b i w = later-means a more line s t q o e (replay_from M c more (line + 1) none t).0 (replay_from M c more (line + 1) none t).1 w
    follow a more line s q o Refuted t e b i w =
        subst (λ y. Told (a ∷ more) line s (replay_from M c more (line + 1) (some assertion) y)) (inv i) (failed_means a more line s assertion (asserted q o (e ∙ ap (λ (y : S). (Refuted, y)) i)))
    follow a more line s q o (Faulted f) t e b i w =
        subst (λ y. Told (a ∷ more) line s (replay_from M c more (line + 1) (some fault) y)) (inv i) (failed_means a more line s fault (faulty q f o (e ∙ ap (λ (y : S). (Faulted f, y)) i)))
    follow a more line s q o Idle t e b i w = absurd b

    pub replay-means : (l : List Recorded) (line : ℕ) (s : S) → I s → Told l line s (replay_from M c l line none s)
    unfolding replay_from
    replay-means [] line s i = judged-means [] line line s s (standing (verdict M s)) (omega arith) (stands s)
    replay-means (a ∷ more) line s i = go (asked M a.process a.choice (offered M s)) refl (λ t j. replay-means more (line + 1) t j)
      where
        go : (o : Option Step) → asked M a.process a.choice (offered M s) ≡ o → ((t : S) → I t → Told more (line + 1) t (replay_from M c more (line + 1) none t))
            → Told (a ∷ more) line s (recorded M line s o (λ f x. replay_from M c more (line + 1) f x))
        go none q f = not_offered a more line s (λ z h. missing (inv q ∙ offers-asked M s (chosen a z) h))
        go (some x) q f =
            let r = asked-offers M s a.process a.choice x q in
            let g = good s i (chosen a (move_of x)) r.1 in
            let T = advance M s (chosen a (move_of x)) in
            subst (λ z. Told (a ∷ more) line s (followed M line s (advance M s z).0 (advance M s z).1 (λ f y. replay_from M c more (line + 1) f y))) (inv r.0)
            (follow a more line s (move_of x) r.1 T.0 T.1 refl g.busy g.still (f T.1 g.kept))

    pub accepted_walk : (l : List Recorded) (line : ℕ) (s u : S) → I s → replay_from M c l line none s ≡ (accepted, u) → Walks M l s c u
    accepted_walk l line s u i e = subst (Told l line s) e (replay-means l line s i)

    pub refused_stop : (l : List Recorded) (line : ℕ) (s : S) (x n : ℕ) (u : S) → I s → replay_from M c l line none s ≡ (refused x n, u) → Stops M c l line s x n u
    refused_stop l line s x n u i e = subst (Told l line s) e (replay-means l line s i)
