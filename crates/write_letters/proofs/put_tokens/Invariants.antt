use Rattle.write_letters.specs.Tokens.{token_by}
use Rattle.text_pens.specs.After.{write_after}
use Rattle.spec_text.specs.Writing.{write}
use Rattle.base_pens.specs.Pen.{pen, puts}
use lib.ListN.{drop}
use mathlib.Core.List.{map}
use mathlib.Core.Path.{◌≡◌}
use Rattle.write_letters.proofs.put_tokens.Given as goal

abbrev pub invariant-loop-v : goal.invariant-loop-v
invariant-loop-v l = puts (write_after l.k (map (token_by l.t) (drop l.v-index l.toks))) (pen l.out l.q) ≡ puts (write (map (token_by l.t) l.toks)) (pen l.initial.out l.p)
