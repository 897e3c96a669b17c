-- DEMAND 2, the reader's half, proved.
use Prim.Native.Nat.{ℕ, ◌≤◌}
use native.Mathlib.Omega.{arith}
use mathlib.Core.Path.{◌≡◌, refl, sym, ap, ◌∙◌}
use mathlib.Core.Bool.{Bool, true, false}
use mathlib.Core.List.{List, [], ◌++◌}
use borrow.Author.Tests.{ltb-false}
use lib.Dec.{ltb}
use lib.ListN.{length, drop}
use Rattle.base_ceilings.specs.Ceilings.{tables_room}
use Rattle.base_bytes.specs.Choice.{pick}
use Rattle.std.specs.Prelude.{Result, Ok, Err}
use Rattle.base_refusal.specs.declared.Refusal.{Refusal as Given}
use Rattle.base_refusal.specs.Refusals.{refusal as given}
use Rattle.read_passes.specs.Judging.{judge_of}
use Rattle.read_accepts_proof.proofs.Tables.{tree_tables, tables_tree}
use Rattle.read_entry.specs.Entries.{read_of}
use Rattle.legal_texts.proofs.Main.{read_legal, legal_read}
use Rattle.demands.specs.Demand2.{Reading}
use Rattle.demands.proofs.Owned.{legal_judged, legal_accepts, tree_is, left_is, left-wrote}
use Rattle.demands.proofs.Told.{not_refusal}
use Rattle.demands.specs.Said as said
use Rattle.demands.specs.Said.{values}

accepted_said : (j : Result (Unit {0}) Given) → said.reader j ≡ values [] → j ≡ Ok tt
accepted_said (Ok u) e = refl
accepted_said (Err r) e = not_refusal e

module _ (t : List ℕ) where
  had_room : (old : List ℕ) → read_of t old ≡ Ok tt → tables_room ≤ length old
  unfolding read_of
  had_room old e = go (ltb (length old) tables_room) refl e
    where
      go : (b : Bool) → ltb (length old) tables_room ≡ b → pick {A = Result (Unit {0}) Given} b (Err (given 7 0 0)) (judge_of t) ≡ Ok tt → tables_room ≤ length old
      go true h e = absurd (let z : ◌≡◌ {A = ℕ} 0 1 = cc in omega arith)
      go false h e = ltb-false (length old) tables_room h

  pub reading : Reading t
  reading =
      record {
        accepts = λ old. (λ e. (let a = accepted_said (read_of t old) e in (had_room old a, read_legal t old a)), λ p. ap said.reader (legal_read t old p.0 p.1));
        one_tree = λ l k. sym (tree_is t l) ∙ tables_tree t t (legal_accepts t l) (legal_accepts t k) refl ∙ tree_is t k;
        tables = λ u old new l k r s. (
          λ e. (sym (tree_is t l) ∙ tables_tree t u (legal_accepts t l) (legal_accepts u k) (sym (left-wrote t old (legal_judged t l) r) ∙ e ∙ left-wrote u new (legal_judged u k) s) ∙ tree_is u k),
          λ e. (left-wrote t old (legal_judged t l) r ∙ tree_tables t u (legal_accepts t l) (legal_accepts u k) (tree_is t l ∙ e ∙ sym (tree_is u k)) ∙ sym (left-wrote u new (legal_judged u k) s)),
        );
        beyond = λ old l r. (
            let j = legal_judged t l in left_is t old j r ∙ ap (λ (w : List ℕ). w ++ drop (length w) old) (sym (left-wrote t old j r))
            );
      }
