-- Mechanism, held to the specification by `demand2` (crate `demands`); to the texts that are accepted, by themselves, by `genuine_owned`, `owned_genuine` (crate `normal_proof`).
-- Are these the tables of an accepted text? Document 01, row 8: "tables are those of no accepted text"; "they are compared over their written part". It is found out by writing
-- their normal text, reading that, and comparing; that this answers the question exactly is proved in `normal_proof`.
use Rattle.std.specs.Prelude.{Bool, false, List, ℕ, min, ltb, length, get_or, take, Result, Ok, Err}
use Rattle.base_ceilings.specs.Ceilings.{normal_most}
use Rattle.base_bytes.specs.Choice.{pick}
use Rattle.base_bytes.specs.Lists.{same}
use Rattle.base_refusal.specs.declared.Refusal.{Refusal}
use Rattle.read_passes.specs.Judging.{judge_of, tables_text}
use Rattle.write_texts.specs.Normal.{normal_of}

-- the written part: as many numbers as the first one says, as far as there are so many
abbrev pub written : List ℕ → List ℕ
written t = take (min (get_or t 0 0) (length t)) t

-- the text was accepted, and its tables are these
abbrev pub agrees : Result (Unit {0}) Refusal → List ℕ → List ℕ → Bool
agrees (Ok u) w ts = same w ts
agrees (Err r) w ts = false

-- the text u, which is written from w, gives w again
unfoldable pub returns : List ℕ → List ℕ → Bool
returns w u = pick (ltb normal_most (length u)) false (agrees (judge_of u) w (tables_text u))

unfoldable pub genuine : List ℕ → Bool
genuine t = returns (written t) (normal_of (written t))
