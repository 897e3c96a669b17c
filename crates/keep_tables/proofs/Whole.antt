-- THE TABLES OF AN ACCEPTED TEXT ARE WELL.
use Prim.Native.Nat.{ℕ}
use mathlib.Core.List.{List}
use Rattle.read_passes.specs.Judging.{tables_text}
use Rattle.read_accepts_proof.specs.Meaning.{Accepts}
use Rattle.keep_tables.specs.Well.{Well}
use Rattle.keep_tables.specs.Held.{Held}
use Rattle.keep_tables.specs.Facts.{links_in, Facts}
use Rattle.keep_tables.proofs.Tables.{codes_at, said_at, text-held}
use Rattle.keep_tables.proofs.Known.{text_facts}
use Rattle.keep_tables.proofs.Variables.{text_few, text-sized, text_locals_local}

well_by : (t cs vs : List ℕ) → Held t cs vs (links_in cs vs) → Facts cs vs → Well t
well_by t cs vs H K =
    record {
      few = text_few t cs vs H K;
      sized = text-sized t cs vs H K;
      locals_local = text_locals_local t cs vs H K;
    }

pub text-well : (text : List ℕ) → Accepts text → Well (tables_text text)
text-well text a = well_by (tables_text text) (codes_at text a) (said_at text a) (text-held text a) (text_facts text a)
