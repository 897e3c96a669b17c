-- Mechanism, held to the specification by `form_exact` (crate `trail_form`), `demand2` (crate `demands`), but for `answer_of`, of contracts alone.
-- The form of a whole trail: document 01, "Trail lines", "Ceilings" ("Trail 32,768 bytes and 2,048 steps") and the order of replay's refusals
-- ("length, .. form (10, or 2 at the first well-formed step record past 2,048, the smaller line first)").
use Rattle.std.specs.Prelude.{List, [], ◌∷◌, ℕ, zero, suc, ◌+◌, ◌-◌, eqb, ltb, length, take}
use Rattle.base_ceilings.specs.Ceilings.{steps_most, trail_most}
use Rattle.base_bytes.specs.Choice.{pick}
use Rattle.spec_trails.specs.Trails.{Recorded, line_end}
use Rattle.text_pieces.specs.Spans.{span}
use Rattle.trail_form.specs.Records.{is_not, record_of}
use Rattle.trail_form.specs.declared.Record.{Record}
use Rattle.trail_form.specs.declared.Record.TheVariants.{Step, Claim, Malformed}
use Rattle.trail_form.specs.declared.Formed.{Formed}
use Rattle.trail_form.specs.declared.Formed.TheVariants.{Well, Spoiled}

-- the steps in their order and the claimed verdict, or the number and line of a refusal
pub data Form : Type 0 where
  form : List Recorded → ℕ → Form
  spoiled : ℕ → ℕ → Form

abbrev pub before : Recorded → Form → Form
before a (form steps v) = form (a ∷ steps) v
before a (spoiled x l) = spoiled x l

-- how many bytes a line has before its line end, or before the end of the trail
abbrev pub line_of : List ℕ → ℕ
line_of s = span (is_not line_end) s

-- what a record on a line leads to, where `left` steps more may come and m bytes are left behind it
abbrev pub follow : Record → ℕ → ℕ → ℕ → (ℕ → Form) → Form
follow Malformed line left m rest = spoiled 10 line
follow (Claim v) line left m rest = pick (eqb m 0) (form [] v) (spoiled 10 (line + 1))
follow (Step p k) line zero m rest = spoiled 2 line
follow (Step p k) line (suc left) m rest = before (record { process = p; choice = k }) (rest left)

-- the trail from a line on, whose first `passed` bytes belong to the line before: a line with no end, or none at all, is refused at itself
unfoldable pub form_from : ℕ → ℕ → ℕ → List ℕ → Form
form_from line left passed [] = spoiled 10 line
form_from line left (suc n) (b ∷ s) = form_from line left n s
form_from line left zero (b ∷ s) =
    pick (ltb (line_of (b ∷ s)) (length (b ∷ s)))
    (follow (record_of (take (line_of (b ∷ s)) (b ∷ s))) line left (length (b ∷ s) - (line_of (b ∷ s) + 1)) (λ l. form_from (line + 1) l (line_of (b ∷ s)) s))
    (spoiled 10 line)

-- the whole trail; "Length before form", whose line is 0
abbrev pub form_of : List ℕ → Form
form_of t = pick (ltb trail_most (length t)) (spoiled 2 0) (form_from 1 steps_most 0 t)

-- the answer: how many steps and which verdict, or the refusal
abbrev pub answer_of : Form → Formed
answer_of (form steps v) = Well (length steps) v
answer_of (spoiled x l) = Spoiled x l
