-- Document 01, "How it moves": "(an ended option leads past `fi`, or back to `do`)", "`goto` and `break` are steps of their own (H)". The statements of a model in text order, each with its
-- place and the place that follows it. A place is the first of the numbers (specs/Sizes.antt) that a statement takes, behind its label; the end of a process is the last of those of its body.
use Rattle.std.specs.Prelude.{ℕ, ◌+◌}
use Rattle.base_bytes.specs.Choice.{pick}
use Rattle.base_bytes.specs.Lists.{same}
use Rattle.spec_grammar.specs.Tree.{Name, Sort, action, statement, sequence, options, Tree, leaf, select, loop, bare, labelled, end, then, over, option, Body, body}
use Rattle.spec_machine.specs.Sizes.{sum, size_in, size_declaration}

-- the place of a statement whose numbers begin with i: behind its label, which takes two
abbrev pub place_in : Tree statement → ℕ → ℕ
place_in (bare a) i = i
place_in (labelled w a) i = i + 2

-- where a sequence whose numbers begin with i leads: to its first statement, or, if it has none, to n
abbrev pub enter : Tree sequence → ℕ → ℕ → ℕ
enter end i n = n
enter (then s q) i n = place_in s i

-- `Within k t i n o a j m u`: in the tree t of sort k, whose numbers begin with i, behind which place n follows, and whose loop place o is behind, the statement a has the place j, place m follows it, and
-- place u is behind its loop
pub data Within : (k : Sort) → Tree k → ℕ → ℕ → ℕ → Tree action → ℕ → ℕ → ℕ → Type 0 where
  itself : {a : Tree action} {i n o : ℕ} → Within action a i n o a i n o
  -- "an ended option leads past `fi`, or back to `do`"; `break` leads past `od`
  in_if : {os : Tree options} {i n o : ℕ} {a : Tree action} {j m u : ℕ} → Within options os (i + 1) n o a j m u → Within action (select os) i n o a j m u
  in_do : {os : Tree options} {i n o : ℕ} {a : Tree action} {j m u : ℕ} → Within options os (i + 1) i n a j m u → Within action (loop os) i n o a j m u
  unlabelled : {b : Tree action} {i n o : ℕ} {a : Tree action} {j m u : ℕ} → Within action b i n o a j m u → Within statement (bare b) i n o a j m u
  behind_label : {w : Name} {b : Tree action} {i n o : ℕ} {a : Tree action} {j m u : ℕ} → Within action b (i + 2) n o a j m u → Within statement (labelled w b) i n o a j m u
  -- each statement of a sequence leads to the next
  in_first : {s : Tree statement} {q : Tree sequence} {i n o : ℕ} {a : Tree action} {j m u : ℕ} → Within statement s i (enter q (i + size_in s) n) o a j m u → Within sequence (then s q) i n o a j m u
  in_rest : {s : Tree statement} {q : Tree sequence} {i n o : ℕ} {a : Tree action} {j m u : ℕ} → Within sequence q (i + size_in s) n o a j m u → Within sequence (then s q) i n o a j m u
  -- an option stands between two numbers of its own
  in_option : {q : Tree sequence} {os : Tree options} {i n o : ℕ} {a : Tree action} {j m u : ℕ} → Within sequence q (i + 1) n o a j m u → Within options (option q os) i n o a j m u
  in_others : {q : Tree sequence} {os : Tree options} {i n o : ℕ} {a : Tree action} {j m u : ℕ} → Within options os (i + 2 + size_in q) n o a j m u → Within options (option q os) i n o a j m u

-- the place of the first statement with the label w in the tree, whose numbers begin with i; d, if there is none
abbrev pub label_in : Name → {k : Sort} → Tree k → ℕ → ℕ → ℕ
label_in w (leaf l) i d = d
label_in w (select os) i d = label_in w os (i + 1) d
label_in w (loop os) i d = label_in w os (i + 1) d
label_in w (bare a) i d = label_in w a i d
label_in w (labelled v a) i d = pick (same v w) (i + 2) (label_in w a (i + 2) d)
label_in w end i d = d
label_in w (then s q) i d = label_in w s i (label_in w q (i + size_in s) d)
label_in w over i d = d
label_in w (option q os) i d = label_in w q (i + 1) (label_in w os (i + 2 + size_in q) d)

-- ## bodies
-- where the statements of a body begin whose numbers begin with k, behind its `{` and the declarations, and where it ends
abbrev pub start_in : Body → ℕ → ℕ
start_in (body ds q) k = k + 1 + sum size_declaration ds

abbrev pub end_in : Body → ℕ → ℕ
end_in (body ds q) k = start_in (body ds q) k + size_in q

abbrev pub sequence_of : Body → Tree sequence
sequence_of (body ds q) = q
