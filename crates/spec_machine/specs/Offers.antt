-- Document 01, "How it moves": "`else` when no other option of its selection is; `if` and `do`, themselves no steps, when an option's first statement is". Which steps a statement offers,
-- each by its place, in text order; a selection that is an option's first statement gives its steps as the option's. No ceiling stands here.
use Rattle.std.specs.Prelude.{ℕ, ◌+◌, Bool, List, [], ◌∷◌, ◌++◌}
use Rattle.base_bytes.specs.Choice.{pick}
use Rattle.spec_grammar.specs.Tree.{Sort, action, Tree, leaf, select, loop, bare, labelled, end, then, over, option, is_else}
use Rattle.base_bytes.specs.Lists.{or_else}
use Rattle.spec_machine.specs.Sizes.{size_in}

-- the place of a statement, if it is `else`
abbrev pub else_of : {k : Sort} → Tree k → ℕ → List ℕ
else_of (leaf l) i = pick (is_else l) (i ∷ []) []
else_of (select os) i = []
else_of (loop os) i = []
else_of (bare a) i = else_of a i
else_of (labelled w a) i = else_of a (i + 2)
-- of a sequence its first statement's, of options each one's
else_of end i = []
else_of (then s q) i = else_of s i
else_of over i = []
else_of (option q os) i = else_of q (i + 1) ++ else_of os (i + 2 + size_in q)

-- `can a j` says whether the statement a, which is no selection, is executable at place j; the numbers of the tree begin with i
module _ (can : Tree action → ℕ → Bool) where
  abbrev pub itself : Tree action → ℕ → List ℕ
  itself a i = pick (can a i) (i ∷ []) []

  unfoldable pub offers : {k : Sort} → Tree k → ℕ → List ℕ
  offers (leaf l) i = itself (leaf l) i
  offers (select os) i = or_else (offers os (i + 1)) (else_of os (i + 1))
  offers (loop os) i = or_else (offers os (i + 1)) (else_of os (i + 1))
  offers (bare a) i = offers a i
  offers (labelled w a) i = offers a (i + 2)
  -- a sequence offers what its first statement does, options what each of them does
  offers end i = []
  offers (then s q) i = offers s i
  offers over i = []
  offers (option q os) i = offers q (i + 1) ++ offers os (i + 2 + size_in q)
