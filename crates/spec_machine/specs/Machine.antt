-- Document 01, "How it moves": "`else` and all the rest are judged with `timeout` not executable; it is executable exactly where nothing then is, in any process. Offered steps are listed by
-- process number, then text order", "Verdicts: .. `finished` (all ended), `blocked`, `open` (some step offered)". A machine, whatever its states are: all that is seen of it and done from
-- outside; and over any machine the list of all offered steps, what a step does, and the verdict.
use Rattle.std.specs.Prelude.{ℕ, zero, suc, ◌+◌, Bool, true, false, List, [], ◌∷◌, ◌++◌, eqb}
use Rattle.std.proofs.Math.Option.{Option, none, some}
use Rattle.base_bytes.specs.Choice.{pick}
use Rattle.base_outcome.specs.declared.Partner.{Partner}
use Rattle.base_outcome.specs.declared.Partner.TheVariants.{Nobody}
pub use Rattle.base_outcome.specs.declared.Step.{Step}
use Rattle.spec_machine.specs.Effect.{Outcome}

-- ## moves and steps
-- what a process is offered: a place, and a partner, which is the process and the place there that move along, or nobody
pub record Move : Type 0 where
  pub place : ℕ
  pub partner : Partner

-- moves of these places, along with nobody
abbrev pub alone : List ℕ → List Move
alone [] = []
alone (q ∷ qs) = record { place = q; partner = Nobody } ∷ alone qs

-- a step has its process, its number k among the steps of that process, from 1, its place and its partner (crate `base_outcome`): the k-th step of process p, which makes this move
abbrev pub step_of : ℕ → ℕ → Move → Step
step_of p k y = record { process = p; number = k; place = y.place; partner = y.partner }

-- and the move that a step makes
abbrev pub move_of : Step → Move
move_of x = record { place = x.place; partner = x.partner }

-- ## a machine: all that is seen and done from outside
pub record Machine (S : Type 0) : Type 0 where
  pub processes : S → ℕ
  -- the moves of a process, in text order; the test says whether `timeout` is executable
  pub steps : S → Bool → ℕ → List Move
  pub ended : S → ℕ → Bool
  pub take : S → Step → Outcome S
  pub printed : S → Step → List ℕ

-- ## over any machine
abbrev pub numbered : ℕ → ℕ → List Move → List Step
numbered p k [] = []
numbered p k (y ∷ ys) = step_of p k y ∷ numbered p (k + 1) ys

abbrev pub is_some : List Move → Bool
is_some [] = false
is_some (y ∷ ys) = true

pub data Verdict : Type 0 where
  finished blocked «open» : Verdict

module _ {S : Type 0} (M : Machine S) where
  unfoldable pub any_from : S → Bool → ℕ → ℕ → Bool
  any_from s late p zero = false
  any_from s late p (suc n) = pick (is_some (M.steps s late p)) true (any_from s late (p + 1) n)

  -- "it is executable exactly where nothing then is, in any process"
  unfoldable pub late : S → Bool
  late s = pick (any_from s false 0 (M.processes s)) false true

  unfoldable pub list_from : S → Bool → ℕ → ℕ → List Step
  list_from s l p zero = []
  list_from s l p (suc n) = numbered p 1 (M.steps s l p) ++ list_from s l (p + 1) n

  -- "Offered steps are listed by process number, then text order"
  unfoldable pub offered : S → List Step
  offered s = list_from s (late s) 0 (M.processes s)

  -- the k-th offered step of process p, if there is one
  unfoldable pub asked : ℕ → ℕ → List Step → Option Step
  asked p k [] = none
  asked p k (x ∷ l) = pick (eqb x.process p) (pick (eqb x.number k) (some x) (asked p k l)) (asked p k l)

  -- a step is taken, and then comes what follows every step: nothing today
  unfoldable pub advance : S → Step → Outcome S
  advance s x = M.take s x

  unfoldable pub ended_from : S → ℕ → ℕ → Bool
  ended_from s p zero = true
  ended_from s p (suc n) = pick (M.ended s p) (ended_from s (p + 1) n) false

  abbrev pub verdict_by : Bool → List Step → Verdict
  verdict_by true l = finished
  verdict_by false [] = blocked
  verdict_by false (x ∷ l) = «open»

  unfoldable pub verdict : S → Verdict
  verdict s = verdict_by (ended_from s 0 (M.processes s)) (offered s)
