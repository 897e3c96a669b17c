-- Mechanism, held to the specification by `read_legal`, `legal_read` (crate `legal_texts`), `answer-row`, `row-answer` (crate `read_refusals_proof`) as far as `read_of` goes; `left_of`, what is left, by `demand2` and `demand3` (crate `demands`); `part`, `part_start` by `demand1` (same crate).
-- The entries of the reader, each with one answer and one content of lent memory: document 01, "What is answered, and what stays behind".
use Rattle.std.specs.Prelude.{◌≡◌, List, ◌++◌, ℕ, ◌+◌, ◌-◌, ◌≤◌, ltb, leb, length, take, drop, Result, Ok, Err}
use Rattle.base_ceilings.specs.Ceilings.{tables_room}
use Rattle.base_bytes.specs.Choice.{pick}
use Rattle.base_refusal.specs.declared.Refusal.{Refusal}
use Rattle.base_refusal.specs.Refusals.{refusal}
use Rattle.read_passes.specs.Judging.{judge_of, tables_text}

-- "7 first .. then length, then bytes and tokens (1, 2), then grammar .. (2, 3), then names and rules (2, 4, 5), then 6": the answer for a text and lent tables
unfoldable pub read_of : List ℕ → List ℕ → Result (Unit {0}) Refusal
read_of t old = pick (ltb (length old) tables_room) (Err (refusal 7 0 0)) (judge_of t)

-- "A refusal changes no lent number .. What lies beyond the written part stays"
abbrev pub stays : Result (Unit {0}) Refusal → List ℕ → List ℕ → List ℕ
stays (Ok u) ts old = ts ++ drop (length ts) old
stays (Err r) ts old = old

-- what is left in the lent tables
unfoldable pub left_of : List ℕ → List ℕ → List ℕ
left_of t old = stays (read_of t old) (tables_text t) old

-- "A further entry returns the part of the caller's text that 1 to 5 name; for a text too long or not so refused, the empty part at its start": where that part begins and ends in a text of n bytes
abbrev pub part_start : ℕ → Result (Unit {0}) Refusal → ℕ
part_start n (Ok u) = 0
part_start n (Err r) = pick (leb (r.place + r.length) n) r.place 0

abbrev pub part_end : ℕ → Result (Unit {0}) Refusal → ℕ
part_end n (Ok u) = 0
part_end n (Err r) = pick (leb (r.place + r.length) n) (r.place + r.length) 0

-- its bytes
abbrev pub part : List ℕ → Result (Unit {0}) Refusal → List ℕ
part t j = take (part_end (length t) j - part_start (length t) j) (drop (part_start (length t) j) t)

-- where it lies in memory, k bytes behind what is lent at p
abbrev pub behind : ℕ × ℕ → ℕ → ℕ × ℕ
behind p k = (p.0, p.1 + k)

-- the bounds of the part that an answer names, in a text of n bytes
pub record Bounded (n : ℕ) (j : Result (Unit {0}) Refusal) (start end : ℕ) : Type 0 where
  pub low : start ≤ end
  pub high : end ≤ n
  pub begins : start ≡ part_start n j
  pub ends : end ≡ part_end n j
