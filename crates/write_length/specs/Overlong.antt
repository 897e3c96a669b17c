-- Mechanism, held to the specification by `overlong_exact` (crate `read_length_proof`).
-- Request One, "one whose normal text exceeds 8,192 is refused with 6": asked of tables, which may be those of a text that is not accepted.
use Rattle.std.specs.Prelude.{Bool, List, ℕ, ltb, length}
use Rattle.base_ceilings.specs.Ceilings.{normal_most}
use Rattle.write_texts.specs.Normal.{normal_of}

unfoldable pub overlong : List ℕ → Bool
overlong ts = ltb normal_most (length (normal_of ts))
