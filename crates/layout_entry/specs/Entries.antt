-- Mechanism, held to the specification by `demand3` (crate `demands`) as far as accepted texts and their tables go; a refusal it hands on from `judge_of` and `genuine`.
-- The entries that write the layout, each with one answer and one content of lent memory, as those of normal text: request One: "For the layout's own room it refuses 7, last of all, exactly when that
-- room is shorter than the layout".
use Rattle.std.specs.Prelude.{List, ℕ, Result}
use Rattle.write_texts.specs.Normal.{layout_of}
use Rattle.base_refusal.specs.declared.Refusal.{Refusal}
use Rattle.normal_entry.specs.Entries.{text_answer, text_left, tables_answer, tables_left}

-- from a text
abbrev pub answer_of : List ℕ → List ℕ → Result ℕ Refusal
answer_of t old = text_answer layout_of t old

abbrev pub left_of : List ℕ → List ℕ → List ℕ
left_of t old = text_left layout_of t old

-- from tables
abbrev pub answer_from : List ℕ → List ℕ → Result ℕ Refusal
answer_from ts old = tables_answer layout_of ts old

abbrev pub left_from : List ℕ → List ℕ → List ℕ
left_from ts old = tables_left layout_of ts old
