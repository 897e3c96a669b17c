-- Mechanism, held to the specification by `demand2` (crate `demands`).
-- The entry of the automatic run: refusals 7, 8 and 9 in that order, which change nothing, or the run. `ts` are the lent tables, `s` the lent state.
use Rattle.std.specs.Prelude.{ℕ, List, ℤ, eqb}
use Rattle.base_bytes.specs.Choice.{pick}
use Rattle.read_genuine.specs.Genuine.{written}
use Rattle.step_entry.specs.Entries.{refusal_of}
use Rattle.run_entry.specs.Runs.{shown, run_in}
use Rattle.run_entry.specs.declared.Ran.{Ran}
use Rattle.run_entry.specs.declared.Ran.TheVariants.{Refused}

unfoldable pub ran_of : List ℕ → List ℤ → ℕ → Ran × List ℤ
ran_of ts s limit = pick (eqb (refusal_of ts s) 0) (shown (run_in (written ts) limit s)) (Refused (refusal_of ts s), s)
