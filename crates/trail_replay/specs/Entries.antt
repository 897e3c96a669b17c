-- Mechanism, held to the specification by `demand2` (crate `demands`).
-- The entry of replay, with one answer and one content of the lent state: document 01, "What is answered": "Replay: 7, length, 8, form (10, or 2 at the first well-formed step
-- record past 2,048, the smaller line first), then steps". `ts` are the lent tables, `s` the lent state.
use Rattle.std.specs.Prelude.{ℕ, List, ℤ, eqb, ltb, length}
use Rattle.base_bytes.specs.Choice.{pick}
use Rattle.read_genuine.specs.Genuine.{written}
use Rattle.state_start.specs.Starting.{initial_of}
use Rattle.step_entry.specs.Entries.{foreign_of}
use Rattle.trail_form.specs.Forms.{Form, form, spoiled, form_of}
use Rattle.trail_replay.specs.Replay.{Replay, replay_in}
use Rattle.trail_replay.specs.declared.Replayed.TheVariants.{Refused}
use Rattle.base_ceilings.specs.Ceilings.{trail_most}

-- a trail that has its form is replayed from the initial state on; one that has not changes nothing
abbrev pub replayed_by : Form → List ℕ → List ℤ → Replay
replayed_by (form steps claim) w s = replay_in w (form steps claim) (initial_of w s)
replayed_by (spoiled x line) w s = (Refused x line, s)

unfoldable pub replayed_of : List ℕ → List ℕ → List ℤ → Replay
replayed_of ts trail s =
    pick (eqb (foreign_of ts s) 7) (Refused 7 0, s)
    (pick (ltb trail_most (length trail)) (Refused 2 0, s)
    (pick (eqb (foreign_of ts s) 0) (replayed_by (form_of trail) (written ts) s) (Refused 8 0, s)))
