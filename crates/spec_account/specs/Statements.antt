-- THE TEXT OF A STATEMENT, and where it stands in the normal text of its model: at the place from which on the normal text is that of the statement and of all that follows it
-- (`stands_there`, proofs/Statements.antt).
use Rattle.std.specs.Prelude.{ℕ, suc, ◌+◌, ◌-◌, List, [], ◌∷◌, ◌++◌, length, drop, eqb, ltb}
use Rattle.base_bytes.specs.Choice.{pick}
use Rattle.base_kinds.specs.Kinds.{Token, bytes}
use Rattle.spec_text.specs.Writing.{write}
use Rattle.spec_grammar.specs.Marks.{'fi, 'od, 'rbrace}
use Rattle.spec_grammar.specs.Tree.{action, Sort, Tree, leaf, select, loop, bare, labelled, end, then, over, option, Part, mtypes, global, process, init, Model}
use Rattle.spec_grammar.specs.Print.{before, print_tree, print_model}
use Rattle.spec_machine.specs.Sizes.{size_in}
use Rattle.spec_machine.specs.Program.{start_in, sequence_of}
use Rattle.spec_machine.specs.Names.{unit_at}
use Rattle.spec_machine.specs.Begins.{items_before, body_in, body_of}
use Rattle.spec_normal.specs.Normal.{normal}

abbrev pub statement_text : Tree action → List ℕ
statement_text a = write (print_tree a)

-- the tokens of a tree from the statement at place j on; the tree's numbers begin with i (specs/Sizes.antt of `spec_machine`)
unfoldable pub from_in : {k : Sort} → Tree k → ℕ → ℕ → List Token
from_in (leaf l) i j = print_tree (leaf l)
from_in (select os) i j = pick (eqb i j) (print_tree (select os)) (from_in os (i + 1) j ++ 'fi ∷ [])
from_in (loop os) i j = pick (eqb i j) (print_tree (loop os)) (from_in os (i + 1) j ++ 'od ∷ [])
from_in (bare a) i j = from_in a i j
from_in (labelled w a) i j = from_in a (i + 2) j
from_in end i j = []
from_in (then s q) i j = pick (ltb j (i + size_in s)) (from_in s i j ++ before q (print_tree q)) (from_in q (i + size_in s) j)
from_in over i j = []
from_in (option q os) i j = pick (ltb j (i + 1 + size_in q)) (from_in q (i + 1) j ++ print_tree os) (from_in os (i + 2 + size_in q) j)

module _ (m : Model) (k : ℕ) where
  -- the tokens of the model from the statement at place j of unit k on
  unfoldable pub from_unit : ℕ → List Token
  from_unit j = from_in (sequence_of (body_of (unit_at m k))) (start_in (body_of (unit_at m k)) (body_in (unit_at m k) (items_before m k))) j ++ 'rbrace ∷ print_model (drop (suc k) m)

  abbrev pub stands_at : ℕ → ℕ
  stands_at j = length (normal m) - length (write (from_unit j))

-- the name of a proctype, or `init`
abbrev pub title_of : Part → List ℕ
title_of (mtypes ws) = []
title_of (global d) = []
title_of (process a w gs b) = w
title_of (init b) = bytes "init"
