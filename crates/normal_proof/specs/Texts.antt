-- Mechanism, held to the specification by `text-normal` (crate `normal_proof`).
-- The normal text of a text: what the writer makes of its tables.
use Rattle.std.specs.Prelude.{List, ℕ}
use Rattle.read_passes.specs.Judging.{tables_text}
use Rattle.write_texts.specs.Normal.{normal_of}

abbrev pub normal_text : List ℕ → List ℕ
normal_text t = normal_of (tables_text t)
