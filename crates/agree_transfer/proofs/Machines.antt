-- MACHINES THAT ARE ALIKE offer the same steps, have the same verdicts, the same runs and answer the same on every trail; and the states that they leave belong together.
use Prim.Native.Nat.{ℕ, zero, suc, ◌+◌, ◌<◌, ◌≤◌}
use native.Mathlib.Omega.{arith}
use mathlib.Core.Path.{◌≡◌, refl, ap, ap₂, ◌∙◌, subst}
use mathlib.Core.Bool.{Bool, true, false}
use mathlib.Core.Option.{Option, none, some}
use mathlib.Core.List.{List, [], ◌∷◌, ◌++◌}
use lib.Dec.{eqb}
use Rattle.base_bytes.specs.Choice.{pick}
use Rattle.base_outcome.specs.declared.Taken.{Taken}
use Rattle.base_outcome.specs.declared.Taken.TheVariants.{Done, Refuted, Faulted, Idle}
use Rattle.agree_transfer.specs.Agrees.{Related}
use Rattle.spec_machine.specs.Machine.{Move, Machine, Step, move_of, numbered, is_some, any_from, late, list_from, offered, advance, ended_from, verdict_by, verdict, asked}
use Rattle.agree_transfer.specs.Alike.{In, first, behind, Alike}
use Rattle.spec_trails.specs.Replays.{Claim, assertion, fault, standing, Replayed, judged, followed, recorded, replay_from}
use Rattle.spec_trails.specs.Trails.{Recorded}
use Rattle.spec_trails.specs.Runs.{stood, Ran, still, first_taken, run_by, run_from}

module _ {S T : Type 0} (R : S → T → Type 0) (M : Machine S) (N : Machine T) (k : Alike R M N) where
  -- ---- steps and verdicts
  module _ {x : S} {y : T} (r : R x y) where
    any_same : (l : Bool) (p n : ℕ) → p + n ≤ M.processes x → any_from M x l p n ≡ any_from N y l p n
    unfolding any_from
    any_same l p zero h = refl
    any_same l p (suc n) h = ap₂ (λ s b. pick (is_some s) true b) (k.steps r l p (omega arith)) (any_same l (p + 1) n (omega arith))

    list_same : (l : Bool) (p n : ℕ) → p + n ≤ M.processes x → list_from M x l p n ≡ list_from N y l p n
    unfolding list_from
    list_same l p zero h = refl
    list_same l p (suc n) h = ap₂ (λ s b. numbered p 1 s ++ b) (k.steps r l p (omega arith)) (list_same l (p + 1) n (omega arith))

    ended_same : (p n : ℕ) → p + n ≤ M.processes x → ended_from M x p n ≡ ended_from N y p n
    unfolding ended_from
    ended_same p zero h = refl
    ended_same p (suc n) h = ap₂ (λ e b. pick e b false) (k.ended r p (omega arith)) (ended_same (p + 1) n (omega arith))

    late-same : late M x ≡ late N y
    unfolding late
    late-same = ap (λ b. pick b false true) (any_same false 0 (M.processes x) (omega arith) ∙ ap (any_from N y false 0) (k.processes r))

    pub offered-same : offered M x ≡ offered N y
    unfolding offered
    offered-same =
        list_same (late M x) 0 (M.processes x) (omega arith) ∙ ap₂ (λ l n. list_from N y l 0 n) late-same (k.processes r)

    pub verdict-same : verdict M x ≡ verdict N y
    unfolding verdict
    verdict-same = ap₂ (λ b l. verdict_by M b l) (ended_same 0 (M.processes x) (omega arith) ∙ ap (ended_from N y 0) (k.processes r)) offered-same ∙ by (ended_from N y 0 (N.processes y)) (offered N y)
      where
        by : (b : Bool) (l : List Step) → verdict_by M b l ≡ verdict_by N b l
        by true l = refl
        by false [] = refl
        by false (z ∷ l) = refl

  -- ---- each listed step is one of its process
  abbrev Listed : S → Bool → Step → Type 0
  Listed x l z = (z.process < M.processes x) × In (move_of z) (M.steps x l z.process)

  abbrev AllListed : S → Bool → List Step → Type 0
  AllListed x l [] = Unit {0}
  AllListed x l (z ∷ zs) = Listed x l z × AllListed x l zs

  join : (x : S) (l : Bool) (a b : List Step) → AllListed x l a → AllListed x l b → AllListed x l (a ++ b)
  join x l [] b h g = g
  join x l (z ∷ a) b h g = (h.0, join x l a b h.1 g)

  numbered-listed : (x : S) (l : Bool) (p : ℕ) → p < M.processes x → (n : ℕ) (qs : List Move) → ((q : Move) → In q qs → In q (M.steps x l p)) → AllListed x l (numbered p n qs)
  numbered-listed x l p h n [] g = tt
  numbered-listed x l p h n (q ∷ qs) g = ((h, g q first), numbered-listed x l p h (n + 1) qs (λ z i. g z (behind i)))

  list-listed : (x : S) (l : Bool) (p n : ℕ) → p + n ≤ M.processes x → AllListed x l (list_from M x l p n)
  unfolding list_from
  list-listed x l p zero h = tt
  list-listed x l p (suc n) h =
      join x l (numbered p 1 (M.steps x l p)) (list_from M x l (p + 1) n) (numbered-listed x l p (omega arith) 1 (M.steps x l p) (λ q i. i)) (list-listed x l (p + 1) n (omega arith))

  offered-listed : (x : S) → AllListed x (late M x) (offered M x)
  unfolding offered
  offered-listed x = list-listed x (late M x) 0 (M.processes x) (omega arith)

  -- ---- a listed step
  pub advance-same : {x : S} {y : T} → R x y → (l : Bool) (z : Step) → z.process < M.processes x → In (move_of z) (M.steps x l z.process) → Related R (advance M x z) (advance N y z)
  unfolding advance
  advance-same r l z h i = k.take r l z h i

  -- ---- the run
  abbrev Ended : Ran S → Ran T → Type 0
  Ended a b = (a.ending ≡ b.ending) × (a.count ≡ b.count) × R a.state b.state

  still-same : {x : S} {y : T} → R x y → Ended (still M x) (still N y)
  still-same r = (ap stood (verdict-same r), refl, r)

  first-same : {x : S} {y : T} → R x y → (l : List Step) → AllListed x (late M x) l → Related R (first_taken M x l) (first_taken N y l)
  first-same r [] h = (refl, r)
  first-same {x} r (z ∷ l) h = advance-same r (late M x) z h.0.0 h.0.1

  run_by_lem : (t : Taken) {x : S} {y : T} → R x y → (f : S → Ran S) (g : T → Ran T) → ((a : S) (b : T) → R a b → Ended (f a) (g b)) → Ended (run_by M t x f) (run_by N t y g)
  run_by_lem Done {x} {y} r f g h = let z = h x y r in (z.0, ap suc z.1, z.2)
  run_by_lem Refuted r f g h = (refl, refl, r)
  run_by_lem (Faulted e) r f g h = (refl, refl, r)
  run_by_lem Idle r f g h = still-same r

  pub run-same : (n : ℕ) {x : S} {y : T} → R x y → Ended (run_from M n x) (run_from N n y)
  unfolding run_from
  run-same zero r = still-same r
  run-same (suc n) {x} {y} r =
      let z = first-same r (offered M x) (offered-listed x) in
      subst (λ l. Ended (run_by M (first_taken M x (offered M x)).0 (first_taken M x (offered M x)).1 (λ a. run_from M n a)) (run_by N (first_taken N y l).0 (first_taken N y l).1 (λ a. run_from N n a)))
      (offered-same r)
      (subst (λ t. Ended (run_by M (first_taken M x (offered M x)).0 (first_taken M x (offered M x)).1 (λ a. run_from M n a)) (run_by N t (first_taken N y (offered M x)).1 (λ a. run_from N n a)))
      z.0 (run_by_lem (first_taken M x (offered M x)).0 z.1 (λ a. run_from M n a) (λ a. run_from N n a) (λ a b s. run-same n s)))

  -- ---- the replay
  abbrev Told : Replayed × S → Replayed × T → Type 0
  Told a b = (a.0 ≡ b.0) × R a.1 b.1

  abbrev Maybe : S → Bool → Option Step → Type 0
  Maybe x l none = Unit {0}
  Maybe x l (some z) = Listed x l z

  asked-listed : (x : S) (l : Bool) (p n : ℕ) (zs : List Step) → AllListed x l zs → Maybe x l (asked M p n zs)
  unfolding asked
  asked-listed x l p n [] h = tt
  asked-listed x l p n (z ∷ zs) h = go (eqb z.process p) (eqb z.number n) (asked-listed x l p n zs h.1)
    where
      go : (b c : Bool) → Maybe x l (asked M p n zs) → Maybe x l (pick b (pick c (some z) (asked M p n zs)) (asked M p n zs))
      go true true g = h.0
      go true false g = g
      go false c g = g

  pub asked-same : (p n : ℕ) (zs : List Step) → asked M p n zs ≡ asked N p n zs
  unfolding asked
  asked-same p n [] = refl
  asked-same p n (z ∷ zs) = ap (λ o. pick (eqb z.process p) (pick (eqb z.number n) (some z) o) o) (asked-same p n zs)

  followed_same : (line : ℕ) {x : S} {y : T} → R x y → (t : Taken) (a : S) (b : T) → R a b → (f : Option Claim → S → Replayed × S) (g : Option Claim → T → Replayed × T)
      → ((e : Option Claim) (u : S) (v : T) → R u v → Told (f e u) (g e v)) → Told (followed M line x t a f) (followed N line y t b g)
  followed_same line r Done a b s f g h = h none a b s
  followed_same line r Refuted a b s f g h = h (some assertion) a b s
  followed_same line r (Faulted e) a b s f g h = h (some fault) a b s
  followed_same line r Idle a b s f g h = (refl, r)

  recorded-same : (line : ℕ) {x : S} {y : T} → R x y → (o : Option Step) → Maybe x (late M x) o → (f : Option Claim → S → Replayed × S) (g : Option Claim → T → Replayed × T)
      → ((e : Option Claim) (u : S) (v : T) → R u v → Told (f e u) (g e v)) → Told (recorded M line x o f) (recorded N line y o g)
  recorded-same line r none m f g h = (refl, r)
  recorded-same line {x} {y} r (some z) m f g h =
      let w = advance-same r (late M x) z m.0 m.1 in
      subst (λ t. Told (followed M line x (advance M x z).0 (advance M x z).1 f) (followed N line y t (advance N y z).1 g)) w.0
      (followed_same line r (advance M x z).0 (advance M x z).1 (advance N y z).1 w.1 f g h)

  pub replay-same : (claim : Claim) (l : List Recorded) (line : ℕ) (e : Option Claim) {x : S} {y : T} → R x y → Told (replay_from M claim l line e x) (replay_from N claim l line e y)
  unfolding replay_from
  replay-same claim [] line none r = (ap (λ v. judged M claim (standing v) line) (verdict-same r), r)
  replay-same claim [] line (some f) r = (refl, r)
  replay-same claim (a ∷ more) line none {x} {y} r =
      subst (λ o. Told (recorded M line x (asked M a.process a.choice (offered M x)) (λ f z. replay_from M claim more (line + 1) f z)) (recorded N line y o (λ f z. replay_from N claim more (line + 1) f z)))
      (ap (asked M a.process a.choice) (offered-same r) ∙ asked-same a.process a.choice (offered N y))
      (recorded-same line r (asked M a.process a.choice (offered M x)) (asked-listed x (late M x) a.process a.choice (offered M x) (offered-listed x))
      (λ f z. replay_from M claim more (line + 1) f z) (λ f z. replay_from N claim more (line + 1) f z) (λ f u v s. replay-same claim more (line + 1) f s))
  replay-same claim (a ∷ more) line (some f) r = (refl, r)
