-- Top: a statement about the entries, over the specification.
-- DEMAND 3: each accepted text has one normal text, never longer; equal exactly when the trees are; reads back to the same tables; its own normal text; same answer on every trail. Which texts are
-- accepted is demand 2's: those that are legal. And its printed edition, the layout (request One); "never longer" speaks of normal text alone.
use Rattle.std.specs.Prelude.{ℕ, ◌≤◌, ◌≡◌, ◌↔◌, List, [], ◌∷◌, ◌++◌, ℤ, length, drop, Result}
use Rattle.base_ceilings.specs.Ceilings.{tables_room, text_most}
use Rattle.spec_grammar.specs.Tree.{Model}
use Rattle.spec_refusals.specs.Legal.{Legal}
use Rattle.read_entry.specs.Entries as reader
use Rattle.read_entry.specs.Entries.{read_of}
use Rattle.spec_normal.specs.Normal.{normal}
use Rattle.normal_entry.specs.Entries as writer
use Rattle.normal_entry.specs.Entries.{answer_of, answer_from, left_from}
use Rattle.base_refusal.specs.declared.Refusal.{Refusal as Given}
use Rattle.spec_layout.specs.Layout.{layout}
use Rattle.layout_entry.specs.Entries as laying
use Rattle.step_entry.specs.Entries.{foreign_of, start_left, offered_of, verdict_for, outcome_of}
use Rattle.run_entry.specs.Entries.{ran_of}
use Rattle.trail_replay.specs.Entries.{replayed_of}
use Rattle.demands.specs.Said as said
use Rattle.demands.specs.Said.{values}

-- lent tables that the entries which take tables do not tell apart, whatever else is lent
pub record Same (ts us : List ℕ) : Type 0 where
  pub replay : (trail : List ℕ) (s : List ℤ) → replayed_of ts trail s ≡ replayed_of us trail s
  pub run : (s : List ℤ) (limit : ℕ) → ran_of ts s limit ≡ ran_of us s limit
  pub start : (s : List ℤ) → (foreign_of ts s ≡ foreign_of us s) × (start_left ts s ≡ start_left us s)
  pub offered : (s : List ℤ) (n : ℕ) → offered_of ts s n ≡ offered_of us s n
  pub verdict : (s : List ℤ) → verdict_for ts s ≡ verdict_for us s
  pub step : (s : List ℤ) (p k : ℕ) (out : List ℕ) → outcome_of ts s p k out ≡ outcome_of us s p k out
  pub normal_text_lem : (out : List ℕ) → (answer_from ts out ≡ answer_from us out) × (left_from ts out ≡ left_from us out)
  pub layout_text_lem : (out : List ℕ) → (laying.answer_from ts out ≡ laying.answer_from us out) × (laying.left_from ts out ≡ laying.left_from us out)

-- the text u is answered and written over the lent bytes `out`, if they have room for it, with what lies beyond it as it was; 7 where they have not is demand 1's
abbrev pub Writes : List ℕ → List ℕ → Result ℕ Given → List ℕ → Type 0
Writes u out answer left = length u ≤ length out → (said.writer answer ≡ values (length u ∷ [])) × (left ≡ u ++ drop (length u) out)

-- ## of the text t, whose tree is m: what is written is `f m`, the normal text or the layout
module _ (f : Model → List ℕ) (answer : List ℕ → List ℕ → Result ℕ Given) (left : List ℕ → List ℕ → List ℕ) (answer-from : List ℕ → List ℕ → Result ℕ Given) (left-from : List ℕ → List ℕ → List ℕ) where
  pub record Prints (t : List ℕ) (m : Model) : Type 0 where
    -- "each accepted text has one normal text": the entry answers it, whatever bytes are lent
    pub answered : (out : List ℕ) → Writes (f m) out (answer t out) (left t out)
    -- it is a text of the same tree: "its own normal text"
    pub legal : Legal (f m)
    pub own : (l : Legal (f m)) → l.tree ≡ m
    -- "reads back to the same tables", whatever numbers are lent for them; "Reading a layout gives the tables it came from"
    pub back : (old : List ℕ) → (read_of (f m) old ≡ read_of t old) × (reader.left_of (f m) old ≡ reader.left_of t old)
    -- from its tables the same text is written, whatever lay in what was lent for them
    pub from_tables : (old out : List ℕ) → tables_room ≤ length old → Writes (f m) out (answer-from (reader.left_of t old) out) (left-from (reader.left_of t old) out)
    -- "same answer on every trail", and on all else that tables are asked for
    pub same : (old new : List ℕ) → tables_room ≤ length old → tables_room ≤ length new → Same (reader.left_of t old) (reader.left_of (f m) new)

-- ## every text that is accepted
pub record Demand3 : Type 0 where
  pub normal_text_lem : (t : List ℕ) (l : Legal t) → Prints normal answer_of writer.left_of answer_from left_from t l.tree
  -- "never longer"
  pub never_longer : (t : List ℕ) (l : Legal t) → length (normal l.tree) ≤ length t
  -- "equal exactly when the trees are"
  pub equal_trees : (t u : List ℕ) (l : Legal t) (k : Legal u) → (normal l.tree ≡ normal k.tree) ↔ (l.tree ≡ k.tree)
  -- request One
  pub layout_text_lem : (t : List ℕ) (l : Legal t) → Prints layout laying.answer_of laying.left_of laying.answer_from laying.left_from t l.tree
  -- "A layout may exceed 8,192 bytes, so the reader takes texts up to 65,536 bytes"
  pub layout_short : (t : List ℕ) (l : Legal t) → length (layout l.tree) ≤ text_most
  -- "and its normal text is the old one"
  pub layout_normal : (t : List ℕ) (l : Legal t) (out : List ℕ) → (answer_of (layout l.tree) out ≡ answer_of t out) × (writer.left_of (layout l.tree) out ≡ writer.left_of t out)
  pub equal_layouts : (t u : List ℕ) (l : Legal t) (k : Legal u) → (layout l.tree ≡ layout k.tree) ↔ (l.tree ≡ k.tree)
