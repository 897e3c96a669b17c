use Prim.Native.Nat.{◌≤◌}
use mathlib.Core.Path.{◌≡◌}
use mathlib.Core.List.{map}
use lib.ListN.{drop}
use Rattle.base_pens.specs.Pen.{pen, puts}
use Rattle.write_letters.specs.Tokens.{token_by}
use Rattle.write_lines.specs.Lines.{lay_after, lay_all}
use Rattle.write_lines.proofs.put_lines.Given as goal

abbrev pub invariant-loop-v : goal.invariant-loop-v
invariant-loop-v l = (l.open ≤ l.v-index) × (puts (lay_after l.k l.place l.open l.ended (map (token_by l.t) (drop l.v-index l.toks))) (pen l.out l.q) ≡ puts (lay_all (map (token_by l.t) l.toks)) (pen l.initial.out l.p))
