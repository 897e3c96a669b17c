-- THE SAMPLE SHEET HOLDS, as one result: each sample of the list in specs/Samples.antt, computed from the bytes of its text by the definitions. Nothing is assumed.
use Prim.Native.Nat.{ℕ, zero, suc}
use mathlib.Core.Path.{◌≡◌, refl, ap, ◌∙◌}
use mathlib.Core.List.{List, [], ◌∷◌}
use lib.ListN.{take, drop}
use lib.IntN.{ℤ}
use Rattle.base_kinds.specs.Kinds.{bytes}
use Rattle.base_values.specs.declared.Fault.{Fault}
use Rattle.std.specs.Prelude.{Ok}
use Rattle.read_passes.specs.Judging.{tables_text}
use Rattle.read_entry.specs.Entries.{read_of}
use Rattle.state_layout.specs.Layout.{global_at_lem, cell_of}
use Rattle.state_start.specs.Starting.{initial_of}
use Rattle.spec_machine.specs.Machine.{verdict}
use Rattle.step_all.specs.Moving.{machine_in, verdict_as}
use Rattle.step_all.specs.declared.Verdict.TheVariants.{Blocked}
use Rattle.step_entry.specs.Entries.{standing_of, Outcome, outcome_by, asked_in}
use Rattle.step_entry.specs.declared.Stepped.TheVariants.{Took}
use Rattle.step_entry.specs.declared.Stepped.TheVariants as stepped
use Rattle.test_samples.proofs.Opened.{reads, moves, writes}
use Rattle.test_samples.proofs.Asked.{verdict-asked, step-asked}
use Rattle.test_samples.specs.Samples.{Bytes, Sample, blocks, sheet, lent, storing, cleared, paper, Stored, Faulted, Holds, All}

-- each of the first n, and each of the others
both : (n : ℕ) (l : List Sample) → All (take n l) → All (drop n l) → All l
both zero l h k = k
both (suc n) [] h k = tt
both (suc n) (x ∷ l) h k = (h.0, both n l h.1 k)

-- ---- by what the text's own tables say
abbrev by_tables : Bytes → Outcome
by_tables m = outcome_by (asked_in (tables_text m) (initial_of (tables_text m) cleared) 0 1) (tables_text m) (initial_of (tables_text m) cleared) paper

stored_so : (m : Bytes) (z : ℤ) → read_of m lent ≡ Ok tt → (by_tables m).answer ≡ Took 0 → cell_of (by_tables m).state (global_at_lem 0) ≡ z → Stored m z
stored_so m z a e f = (a, ap (λ (o : Outcome). o.answer) (step-asked m a) ∙ e, ap (λ (o : Outcome). cell_of o.state (global_at_lem 0)) (step-asked m a) ∙ f)

faulted_so : (m : Bytes) (x : Fault) → read_of m lent ≡ Ok tt → (by_tables m).answer ≡ stepped.Fault x → Faulted m x
faulted_so m x a e = (a, ap (λ (o : Outcome). o.answer) (step-asked m a) ∙ e)

blocked_so : (m : Bytes) → read_of m lent ≡ Ok tt → verdict_as (verdict (machine_in (tables_text m)) (initial_of (tables_text m) cleared)) ≡ Blocked → Holds (blocks m)
blocked_so m a e = (a, verdict-asked m a ∙ ap standing_of e)

-- P1 to P5
values : All (take 7 sheet)
unfolding reads moves
values = (
  stored_so (storing (bytes "2+5*3") (bytes "int")) _ refl refl refl,
  (
    stored_so (storing (bytes "-7/2") (bytes "int")) _ refl refl refl,
    (
      stored_so (storing (bytes "-7%2") (bytes "int")) _ refl refl refl,
      (
        stored_so (storing (bytes "479001600*13") (bytes "int")) _ refl refl refl,
        (
          stored_so (storing (bytes "(-2147483647-1)/-1") (bytes "int")) _ refl refl refl,
          (
            stored_so (storing (bytes "1<<31") (bytes "int")) _ refl refl refl,
            (faulted_so (storing (bytes "1<<32") (bytes "int")) _ refl refl, tt),
          ),
        ),
      ),
    ),
  ),
)

-- P6
stored : All (take 4 (drop 7 sheet))
unfolding reads moves
stored = (
  stored_so (storing (bytes "300") (bytes "byte")) _ refl refl refl,
  (
    stored_so (storing (bytes "40000") (bytes "short")) _ refl refl refl,
    (
      stored_so (storing (bytes "-1") (bytes "byte")) _ refl refl refl,
      (stored_so (storing (bytes "2") (bytes "bit")) _ refl refl refl, tt),
    ),
  ),
)

-- P7, P8
needed : All (take 3 (drop 11 sheet))
unfolding reads moves
needed = (
  stored_so (storing (bytes "0&&1/0") (bytes "int")) _ refl refl refl,
  (
    faulted_so (storing (bytes "1/0&&0") (bytes "int")) _ refl refl,
    (blocked_so (bytes "init{0}") refl refl, tt),
  ),
)

-- P9, P10, P11
texts : All (drop 14 sheet)
unfolding reads writes
texts = (refl, ((refl, refl), ((refl, refl), tt)))

pub samples_hold : All sheet
samples_hold = both 7 sheet values (both 4 (drop 7 sheet) stored (both 3 (drop 11 sheet) needed texts))
