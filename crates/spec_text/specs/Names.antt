-- Document 01, "Names": "`_pid` is neither declared nor stored to (4)"; it and mtype names "are operands".
use Rattle.std.specs.Prelude.{ℕ, List, [], ◌∷◌}

-- `_pid`
abbrev pub pid : List ℕ
pid = 95 ∷ 112 ∷ 105 ∷ 100 ∷ []
