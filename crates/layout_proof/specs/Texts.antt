-- Mechanism, held to the specification by `text-layout` (crate `layout_proof`).
-- The layout of a text: what the writer makes of its tables.
use Rattle.std.specs.Prelude.{List, ℕ}
use Rattle.read_passes.specs.Judging.{tables_text}
use Rattle.write_texts.specs.Normal.{layout_of}

abbrev pub layout_text : List ℕ → List ℕ
layout_text t = layout_of (tables_text t)
