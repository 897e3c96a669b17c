-- Mechanism, held to the specification by `demand3` (crate `demands`) as far as accepted texts and their tables go; a refusal it hands on from `judge_of` and `genuine`.
-- The entries that write normal text, each with one answer and one content of lent memory: document 01, "What is answered": "7 first (last for normal text's own room)";
-- row 7 "a lent buffer shorter than its room; for normal text, than that text", row 8 "tables are those of no accepted text".
use Rattle.std.specs.Prelude.{List, ◌++◌, ℕ, ltb, length, drop, Result, Ok, Err}
use Rattle.base_ceilings.specs.Ceilings.{tables_room}
use Rattle.base_bytes.specs.Choice.{pick}
use Rattle.base_refusal.specs.declared.Refusal.{Refusal}
use Rattle.base_refusal.specs.Refusals.{refusal}
use Rattle.read_passes.specs.Judging.{judge_of, tables_text}
use Rattle.write_texts.specs.Normal.{normal_of}
use Rattle.read_genuine.specs.Genuine.{written, genuine}

-- the text u, where `old` is lent for it
abbrev pub roomy : List ℕ → List ℕ → Result ℕ Refusal
roomy u old = pick (ltb (length old) (length u)) (Err (refusal 7 0 0)) (Ok (length u))

-- what is left: "nothing written when refused", "What lies beyond the written part stays"
abbrev pub put : Result ℕ Refusal → List ℕ → List ℕ → List ℕ
put (Ok n) u old = u ++ drop (length u) old
put (Err r) u old = old

-- by the reader's answer
abbrev pub written_by : Result (Unit {0}) Refusal → List ℕ → List ℕ → Result ℕ Refusal
written_by (Ok x) u old = roomy u old
written_by (Err r) u old = Err r

-- ## what is written of numbers that are tables is f of them: here the normal text, in `layout_entry` the layout
module _ (f : List ℕ → List ℕ) where
  -- from a text: the reader's refusals in their order, then 7
  abbrev pub text_answer : List ℕ → List ℕ → Result ℕ Refusal
  text_answer t old = written_by (judge_of t) (f (tables_text t)) old

  abbrev pub text_left : List ℕ → List ℕ → List ℕ
  text_left t old = put (text_answer t old) (f (tables_text t)) old

  -- from tables: 7 for their room, 8, then 7 for the text's own
  unfoldable pub tables_answer : List ℕ → List ℕ → Result ℕ Refusal
  tables_answer ts old = pick (ltb (length ts) tables_room) (Err (refusal 7 0 0)) (pick (genuine ts) (roomy (f (written ts)) old) (Err (refusal 8 0 0)))

  abbrev pub tables_left : List ℕ → List ℕ → List ℕ
  tables_left ts old = put (tables_answer ts old) (f (written ts)) old

-- ## the normal text
abbrev pub answer_of : List ℕ → List ℕ → Result ℕ Refusal
answer_of t old = text_answer normal_of t old

abbrev pub left_of : List ℕ → List ℕ → List ℕ
left_of t old = text_left normal_of t old

abbrev pub answer_from : List ℕ → List ℕ → Result ℕ Refusal
answer_from ts old = tables_answer normal_of ts old

abbrev pub left_from : List ℕ → List ℕ → List ℕ
left_from ts old = tables_left normal_of ts old
