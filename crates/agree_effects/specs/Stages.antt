-- Bridge, for `demand2` (crate `demands`).
-- The stage of a statement of an accepted text: document 01, "Names", "globals, mtype names and proctypes share one space, each declared once; a local hides any of them from its own name
-- on", "proctypes and labels may come later". `t` is the text, `a` what makes it accepted.
use Rattle.std.specs.Prelude.{ℕ, List, length, get_or, ℤ}
use Rattle.spec_grammar.specs.Tree.{Name}
use Rattle.parse_code.specs.Code.{code}
use Rattle.rule_search.specs.Search.{find}
use Rattle.read_passes.specs.Judging.{tables_text}
use Rattle.read_accepts_proof.specs.Meaning.{Accepts}
use Rattle.agree_eval.specs.Names.{first_name, codes_at, said_at, homes_at, decl_at}
use Rattle.spec_machine.specs.Stage.{Stage}
use Rattle.agree_stage.specs.Tables.{stage_in}

module _ (t : List ℕ) (a : Accepts t) where
  -- the item that begins the proctype of this name: the first global declaration of the name in the whole text
  unfoldable pub unit_at : Name → ℕ
  unit_at w = find (codes_at t a) (said_at t a) (homes_at t a) 1 (get_or (said_at t a) (first_name w (code a.tree)) 0) 0 (length (codes_at t a))

  -- for the statement at item j, in the state s and for process p
  abbrev pub stage_at : List ℤ → ℕ → ℕ → Stage (List ℤ)
  stage_at s p j = stage_in (tables_text t) s p (decl_at t a j) (unit_at)
