-- WHAT DOCUMENT 01 WANTS SHUT OUT, by `Demands` alone: whoever weakens a field of it, in statement and proof alike, is refused here.
use Prim.Native.Nat.{ℕ, suc, ◌≤◌}
use native.Mathlib.Omega.{arith}
use mathlib.Core.Path.{◌≡◌, ap, ◌∙◌}
use mathlib.Core.List.{List, [], ◌∷◌, ◌++◌}
use lib.ListN.{length, drop, length-take, length-drop}
use lib.IntN.{ℤ}
use Rattle.base_ceilings.specs.Ceilings.{print_room, steps_most, tables_room}
use Rattle.base_outcome.specs.declared.Taken.TheVariants.{Done, Refuted}
use Rattle.spec_grammar.specs.Tree.{Model}
use Rattle.spec_normal.specs.Normal.{normal}
use Rattle.spec_machine.specs.State.{State}
use Rattle.spec_machine.specs.Begins.{initial}
use Rattle.spec_machine.specs.Machine.{Move, Step, step_of, offered, advance, verdict, blocked}
use Rattle.spec_machine.specs.Steps.{machine_of}
use Rattle.spec_trails.specs.Runs.{stood, refuted}
use Rattle.spec_trails.specs.Replays.{standing, claimed}
use Rattle.spec_trails.specs.Trails.{Recorded}
use Rattle.spec_trails.specs.Texts.{TextOf}
use Rattle.spec_refusals.specs.Legal.{Legal}
use Rattle.spec_refusals.specs.Rows.{Refusal}
use Rattle.read_passes.specs.Judging.{judge_of}
use Rattle.read_entry.specs.Entries.{read_of, left_of, part}
use Rattle.read_genuine.specs.Genuine.{written}
use Rattle.step_entry.specs.Entries.{verdict_for, outcome_of}
use Rattle.run_entry.specs.Entries.{ran_of}
use Rattle.trail_replay.specs.Entries.{replayed_of}
use Rattle.demands.specs.Said as said
use Rattle.demands.specs.Said.{refusal, values}
use Rattle.demands.specs.Lent.{Rooms, Tables, Holds, leaves}
use Rattle.demands.specs.Walks.{Offers, limit_met, assertion_failed, Stops}
use Rattle.demands.specs.Demand1.{stops}
use Rattle.demands.specs.Top.{Demands}

module _ (D : Demands) where
  -- "a tool refusing every text"; and what lies behind the tables of one that is accepted is kept
  reads : (t old : List ℕ) → Legal t → tables_room ≤ length old → (said.reader (read_of t old) ≡ values []) × (left_of t old ≡ written (left_of t old) ++ drop (length (written (left_of t old))) old)
  reads t old l r = (((D.demand2.reader t).accepts old).1 (r, l), (D.demand2.reader t).beyond old l r)

  -- a refused part has the bytes that its row names, all of them
  shows : (t : List ℕ) (x i n : ℕ) → Refusal t x i n → length (part t (judge_of t)) ≡ n
  shows t x i n r = let (a, b, c) = (D.demand1.reader t).part x i n r in ap length a ∙ omega (arith, c, length-take n (drop i t), length-drop i t)

  -- "one answering `finished` throughout"
  module _ (ts : List ℕ) (s : List ℤ) (m : Model) (σ : State) (h : Holds ts s m σ) where
    stands_blocked : verdict (machine_of m) σ ≡ blocked → (said.verdict (verdict_for ts s) ≡ values (4 ∷ [])) × (said.run (ran_of ts s 0).0 ≡ values (4 ∷ 0 ∷ []))
    stands_blocked e =
        let M = D.demand2.moves ts s m σ h in (
          M.verdict_of ∙ ap (λ v. values (claimed (standing v) ∷ [])) e,
          ((M.running 0).answer [] (stood (verdict (machine_of m) σ)) σ (limit_met σ)).0 ∙ ap (λ v. values (claimed (standing v) ∷ 0 ∷ [])) e,
        )

    fails_at_once : (n : ℕ) (x : Step) (l : List Step) → offered (machine_of m) σ ≡ x ∷ l → advance (machine_of m) σ x ≡ (Refuted, σ) → said.run (ran_of ts s (suc n)).0 ≡ values (1 ∷ 1 ∷ [])
    fails_at_once n x l e q = (((D.demand2.moves ts s m σ h).running (suc n)).answer (x ∷ []) refuted σ (assertion_failed n σ x l e q)).0

    -- "one standing still"
    goes_on : (p k : ℕ) (out : List ℕ) (y : Move) (τ : State) → print_room ≤ length out → Offers (machine_of m) σ (step_of p k y) → advance (machine_of m) σ (step_of p k y) ≡ (Done, τ)
        → (outcome_of ts s p k out).state ≡ leaves s m τ
    goes_on p k out y τ r o e = (((D.demand2.moves ts s m σ h).taking p k out y r o).done τ e).leaves_numbers

  -- "a replay that judges on line one and skims the rest": a record that is not offered is refused wherever it stands
  not_skimmed : (ts trail : List ℕ) (s : List ℤ) (m : Model) (l : List Recorded) (v line : ℕ) (τ : State) → Rooms ts s → Tables ts m → (f : TextOf steps_most trail l v)
      → Stops (machine_of m) f.claim l 1 (initial m) 11 line τ → said.replay (replayed_of ts trail s).0 ≡ refusal 11 line 0
  not_skimmed ts trail s m l v line τ r h f z = ((D.demand1.replay ts trail s 11 line (leaves s m τ)).1 (stops m l τ r h f z)).0

  -- "a normaliser that copies or writes one fixed text"
  normalises : (t u : List ℕ) (l : Legal t) (k : Legal u) → normal l.tree ≡ normal k.tree → (l.tree ≡ k.tree) × (length (normal k.tree) ≤ length t)
  normalises t u l k e = ((D.demand3.equal_trees t u l k).0 e, omega (arith, ap length e, D.demand3.never_longer t l))
