-- The status that a command returns is that of its answer: what its callees promise, put together.
use Prim.Native.Nat.{ℕ}
use mathlib.Core.Path.{◌≡◌, ap, ap₂, ◌∙◌}
use mathlib.Core.List.{List}
use lib.IntN.{ℤ}
use Rattle.read_genuine.specs.Genuine.{written}
use Rattle.state_start.specs.Starting.{initial_of}
use Rattle.spec_machine.specs.Machine as machine
use Rattle.step_all.specs.Moving.{machine_in, verdict_as}
use Rattle.step_all.specs.declared.Verdict.{Verdict}
use Rattle.run_entry.specs.Runs.{shown, run_in}
use Rattle.run_entry.specs.declared.Ran.{Ran}
use Rattle.trail_replay.specs.Entries.{replayed_of}
use Rattle.trail_replay.specs.declared.Replayed.{Replayed}
use Rattle.show_statuses.specs.declared.Status.{Status}
use Rattle.show_commands.specs.Statuses.{verdict_status, ran_status, replayed_status, cleared, start_status, run_status, replay_status}

pub replay_status_lem : (ts trail : List ℕ) (s left : List ℤ) (r : Replayed) (x : Status) → s ≡ cleared → (r, left) ≡ replayed_of ts trail s → x ≡ replayed_status r → x ≡ replay_status ts trail
unfolding replay_status
replay_status_lem ts trail s left r x c e f = f ∙ ap replayed_status (ap (λ p. p.0) e ∙ ap (λ z. (replayed_of ts trail z).0) c)

module _ (ts t : List ℕ) (s z : List ℤ) (own : t ≡ written ts) (c : s ≡ cleared) (begins : z ≡ initial_of t s) where
  begun : z ≡ initial_of (written ts) cleared
  begun = begins ∙ ap₂ initial_of own c

  pub start_status_lem : (v : Verdict) (x : Status) → v ≡ verdict_as (machine.verdict (machine_in t) z) → x ≡ verdict_status v → x ≡ start_status ts
  unfolding start_status
  start_status_lem v x e f = f ∙ ap verdict_status (e ∙ ap₂ (λ w y. verdict_as (machine.verdict (machine_in w) y)) own begun)

  pub run_status_lem : (limit : ℕ) (left : List ℤ) (r : Ran) (x : Status) → (r, left) ≡ shown (run_in t limit z) → x ≡ ran_status r → x ≡ run_status ts limit
  unfolding run_status
  run_status_lem limit left r x e f = f ∙ ap ran_status (ap (λ p. p.0) e ∙ ap₂ (λ w y. (shown (run_in w limit y)).0) own begun)
