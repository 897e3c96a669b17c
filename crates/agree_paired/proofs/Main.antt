-- WHAT IS SHOWN OF A STATEMENT DETERMINES IT: in the text of a statement of a legal text every backslash is one of a string (`statement_paired`), so of two such statements, of one text or of two,
-- those that are shown alike have the same text (`shown_statement_determines`).
use Prim.Native.Nat.{ℕ}
use mathlib.Core.Path.{◌≡◌}
use mathlib.Core.Bool.{true}
use mathlib.Core.List.{List}
use lib.ListN.{get_or}
use Rattle.text_spacing_proof.specs.Sound.{AllSound}
use Rattle.text_spacing_proof.proofs.Exact.{reading_exact}
use Rattle.text_spacing_proof.proofs.Written.{tokens-sound}
use Rattle.spec_grammar.specs.Tree.{action, Tree}
use Rattle.spec_grammar.specs.Print.{print_tree, print_model}
use Rattle.spec_refusals.specs.Legal.{Legal}
use Rattle.spec_machine.specs.Program.{sequence_of}
use Rattle.spec_machine.specs.State.{State, no_process}
use Rattle.spec_machine.specs.Names.{unit_at}
use Rattle.spec_machine.specs.Begins.{body_of}
use Rattle.spec_machine.specs.Steps.{found, statement_at, standing}
use Rattle.spec_account.specs.Bytes.{each_visible, is_paired}
use Rattle.spec_account.specs.Statements.{statement_text}
use Rattle.spec_account.proofs.Bytes.{statement_determines}
use Rattle.spec_account.proofs.Statements.{found_within}
use Rattle.write_shortest_proof.proofs.Lightened.{model_lighter}
use Rattle.agree_texts.proofs.Firsts.{within-sound, model-sound}
use Rattle.agree_paired.proofs.Fair.{Fair, fair_paired, write-fair}

-- a statement of a legal text, found in a unit, whatever the numbers of its places
pub data Statement (t : List ℕ) : Tree action → Type 0 where
  of_unit : (l : Legal t) (k i n o j : ℕ) {a : Tree action} {m u : ℕ} → statement_at (sequence_of (body_of (unit_at l.tree k))) i n o j ≡ found a m u → Statement t a

-- as are those that are shown: what stands at a place of a process
pub standing_statement : {t : List ℕ} (l : Legal t) (σ : State) (p j : ℕ) {a : Tree action} {m u : ℕ} → standing l.tree σ p j ≡ found a m u → Statement t a
standing_statement l σ p j e = of_unit l (get_or σ.processes p no_process).unit _ _ 0 j e

legal_sound : {t : List ℕ} (l : Legal t) → AllSound (print_model l.tree)
legal_sound {t} l = let r = l.reads in (model_lighter l.gram).sound (tokens-sound t l.parts ((reading_exact t l.parts).1 (r.laid, r.short, r.few)))

statement_fair : {t : List ℕ} {a : Tree action} → Statement t a → Fair (statement_text a)
statement_fair (of_unit l k i n o j {a = a} {m = m} {u = u} e) =
    write-fair (print_tree a) (within-sound (found_within j (sequence_of (body_of (unit_at l.tree k))) i n o a m u e) (model-sound l.tree k (legal_sound l)))

pub statement_paired : {t : List ℕ} {a : Tree action} → Statement t a → is_paired (statement_text a) ≡ true
statement_paired s = fair_paired (statement_fair s)

pub shown_statement_determines : {t u : List ℕ} {a b : Tree action} → Statement t a → Statement u b → each_visible (statement_text a) ≡ each_visible (statement_text b) → statement_text a ≡ statement_text b
shown_statement_determines {a = a} {b = b} s r e =
    statement_determines (statement_text a) (statement_text b) (statement_fair s).below (statement_fair r).below (statement_paired s) (statement_paired r) e
