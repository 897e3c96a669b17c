-- Bridge, for `demand2` (crate `demands`).
-- What a statement of an accepted text sees and can change over its tables: mechanism, one stage for its whole body. `t` is the text, `a` what makes it accepted, `s` a state, p the number of
-- a process, u the item that begins its unit.
use Rattle.std.specs.Prelude.{ℕ, List, ℤ}
use Rattle.spec_grammar.specs.Tree.{action, Tree}
use Rattle.read_accepts_proof.specs.Meaning.{Accepts}
use Rattle.spec_machine.specs.Stage.{Stage, Ways}
use Rattle.spec_machine.specs.Program.{start_in}
use Rattle.agree_sizes.specs.Bodies.{Statement}
use Rattle.agree_effects.specs.Stages.{stage_at}

module _ (t : List ℕ) (a : Accepts t) (s : List ℤ) (p u : ℕ) where
  abbrev pub stage_here : {j : ℕ} {x : Tree action} {h : Ways} → Statement a.tree u x j h → Stage (List ℤ)
  stage_here f = stage_at t a s p (start_in f.own f.at)
