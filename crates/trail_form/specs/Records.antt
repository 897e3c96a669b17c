-- Mechanism, held to the specification by `demand2` (crate `demands`).
-- One record of a trail: document 01, "Trail lines".
use Rattle.std.specs.Prelude.{Bool, not, List, ℕ, ◌+◌, eqb, leb, length, get_or, take, drop}
use Rattle.base_bytes.specs.Choice.{pick, both, either}
use Rattle.spec_text.specs.Find.{find}
use Rattle.spec_trails.specs.Trails.{tab, verdicts}
use Rattle.spec_text.specs.Bytes.{is_digit}
use Rattle.text_pieces.specs.Spans.{span}
use Rattle.spec_text.specs.Digits.{decimal}
use Rattle.trail_form.specs.declared.Record.{Record}
use Rattle.trail_form.specs.declared.Record.TheVariants.{Step, Claim, Malformed}

-- "Numbers have 1 to 5 digits, no leading zero": 0 itself is one digit
abbrev pub well_formed : List ℕ → Bool
well_formed x = both (eqb (span is_digit x) (length x)) (both (both (leb 1 (length x)) (leb (length x) 5)) (either (eqb (length x) 1) (not (eqb (get_or x 0 0) 48))))

abbrev pub is_not : ℕ → ℕ → Bool
is_not c b = not (eqb b c)

-- "fields parted by tabs": the bytes before the first tab, and those behind it
abbrev pub field : List ℕ → List ℕ
field x = take (span (is_not tab) x) x

abbrev pub behind_field : List ℕ → List ℕ
behind_field x = drop (span (is_not tab) x + 1) x

-- "`S`, process, k": what stands behind `S` and a tab
abbrev pub step_of : List ℕ → Record
step_of x = pick (both (well_formed (field x)) (well_formed (behind_field x))) (Step (decimal (field x)) (decimal (behind_field x))) Malformed

-- what stands behind `V` and a tab
abbrev pub claim_of : List ℕ → Record
claim_of x = pick (eqb (find x verdicts 1) 0) Malformed (Claim (find x verdicts 1))

-- the record of a line without its line end
abbrev pub record_of : List ℕ → Record
record_of x =
    pick (both (eqb (get_or x 0 0) 83) (eqb (get_or x 1 0) tab)) (step_of (drop 2 x))
    (pick (both (eqb (get_or x 0 0) 86) (eqb (get_or x 1 0) tab)) (claim_of (drop 2 x)) Malformed)
