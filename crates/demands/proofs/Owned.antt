-- A LEGAL TEXT IS ACCEPTED, and the tables that the reader leaves of it are those of its tree.
use Prim.Native.Nat.{ℕ, ◌≤◌}
use native.Mathlib.Omega.{arith}
use mathlib.Core.Path.{◌≡◌, sym, ap, subst, ◌∙◌}
use mathlib.Core.Bool.{Bool, false}
use mathlib.Core.List.{List, [], ◌++◌}
use borrow.Author.Tests.{le-ltb}
use lib.Dec.{ltb}
use lib.ListN.{length, drop, replicate, length-append, length-drop, length-replicate}
use Rattle.base_ceilings.specs.Ceilings.{tables_room}
use Rattle.base_bytes.specs.Choice.{pick}
use Rattle.spec_text.specs.Placed.{Placed}
use Rattle.spec_text.specs.Writing.{tokens_in}
use Rattle.spec_grammar.specs.Tree.{Model}
use Rattle.spec_grammar.specs.Grammar.{Gram}
use Rattle.spec_refusals.specs.Legal.{Legal}
use Rattle.parse_grammar.proofs.Main.{one_tree}
use Rattle.text_tokens.specs.Reading.{Reading, tokens, refused}
use Rattle.std.specs.Prelude.{Result, Ok, Err}
use Rattle.base_refusal.specs.declared.Refusal.{Refusal as Given}
use Rattle.base_refusal.specs.Refusals.{refusal as given}
use Rattle.read_passes.specs.Judging.{judge_of, tables_text}
use Rattle.read_accepts_proof.specs.Meaning.{Accepts}
use Rattle.read_accepts_proof.proofs.Main.{accepted_means, means_accepted}
use Rattle.read_entry.specs.Entries as reader
use Rattle.read_entry.specs.Entries.{read_of, stays}
use Rattle.read_genuine.specs.Genuine.{written}
use Rattle.read_genuine.proofs.Laws.{counted, written-front, some-numbers}
use Rattle.legal_items.proofs.Whole.{tokens-read}
use Rattle.legal_texts.proofs.Main.{read_legal, legal_read}
use Rattle.demands.specs.Lent.{Tables}

-- ---- a legal text is accepted, and its tree is the one that the reader finds
abbrev pub blank : List ℕ
blank = replicate tables_room 0

pub judged_by : (t old : List ℕ) → tables_room ≤ length old → read_of t old ≡ judge_of t
unfolding read_of
judged_by t old h = ap (λ (b : Bool). pick {A = Result (Unit {0}) Given} b (Err (given 7 0 0)) (judge_of t)) (le-ltb (length old) tables_room h)

pub legal_judged : (t : List ℕ) → Legal t → judge_of t ≡ Ok tt
legal_judged t l = let h : tables_room ≤ length blank = omega (arith, length-replicate {A = ℕ} tables_room 0) in sym (judged_by t blank h) ∙ legal_read t blank h l

pub legal_accepts : (t : List ℕ) → Legal t → Accepts t
legal_accepts t l = accepted_means t (legal_judged t l)

abbrev parts_of : Reading → List Placed
parts_of (tokens ps) = ps
parts_of (refused x i n) = []

pub tree_is : (t : List ℕ) (l : Legal t) → (legal_accepts t l).tree ≡ l.tree
tree_is t l =
    let a = legal_accepts t l in
    let p : a.parts ≡ l.parts = ap parts_of (sym a.reads ∙ tokens-read t l.parts l.reads) in
    one_tree (tokens_in t l.parts) a.tree l.tree (subst (λ (ps : List Placed). Gram (tokens_in t ps) a.tree) p a.gram) l.gram

-- ---- what an accepted text leaves in lent tables that have the room
module _ (t old : List ℕ) (ok : judge_of t ≡ Ok tt) (r : tables_room ≤ length old) where
  pub left_is : reader.left_of t old ≡ tables_text t ++ drop (length (tables_text t)) old
  unfolding reader.left_of
  left_is = ap (λ (j : Result (Unit {0}) Given). stays j (tables_text t) old) (judged_by t old r ∙ ok)

  pub left-roomy : ltb (length (reader.left_of t old)) tables_room ≡ false
  left-roomy =
      le-ltb (length (reader.left_of t old)) tables_room
      (omega (arith, ap length left_is, length-append (tables_text t) (drop (length (tables_text t)) old), length-drop (length (tables_text t)) old))

  pub left-wrote : written (reader.left_of t old) ≡ tables_text t
  left-wrote =
      let a = accepted_means t ok in
      ap written left_is ∙ written-front (tables_text t) (drop (length (tables_text t)) old) (counted t a) (some-numbers t a)

-- ---- tables of a model, as the passes of the reader say it
pub data Own (ts : List ℕ) : Model → Type 0 where
  of_text : (t : List ℕ) (a : Accepts t) → written ts ≡ tables_text t → Own ts a.tree

pub owned : (ts : List ℕ) (m : Model) → Tables ts m → Own ts m
owned ts m h =
    let t = h.text in
    let l = h.legal in
    subst (Own ts) (tree_is t l ∙ h.tree) (of_text t (legal_accepts t l) (h.wrote ∙ left-wrote t h.lent (legal_judged t l) h.room))

blank-room : tables_room ≤ length blank
blank-room = omega (arith, length-replicate {A = ℕ} tables_room 0)

pub accepted_legal : (t : List ℕ) → Accepts t → Legal t
accepted_legal t a = read_legal t blank (judged_by t blank blank-room ∙ means_accepted t a)

pub own_tables : (ts : List ℕ) (t : List ℕ) (a : Accepts t) → written ts ≡ tables_text t → Tables ts a.tree
own_tables ts t a e =
    let l = accepted_legal t a in
    let p : l.parts ≡ a.parts = ap parts_of (sym (tokens-read t l.parts l.reads) ∙ a.reads) in
    record {
      text = t;
      legal = l;
      tree = one_tree (tokens_in t a.parts) l.tree a.tree (subst (λ (ps : List Placed). Gram (tokens_in t ps) l.tree) p l.gram) a.gram;
      lent = blank;
      room = blank-room;
      wrote = e ∙ sym (left-wrote t blank (means_accepted t a) blank-room);
    }
