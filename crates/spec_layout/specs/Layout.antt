-- The layout of a tree, its printed edition: request One: "one statement with its label, declaration, mtype list, proctype or `init` head, body brace, `if`, `do`, `fi`, `od` or `::` to a line,
-- LF ending each, a `;` closing the line before it; two spaces for each body or selection it stands inside, then the normal text's bytes less a space at the end".
use Rattle.std.specs.Prelude.{List, [], ◌∷◌, ◌++◌, ℕ, ◌+◌, ◌*◌, replicate}
use Rattle.base_kinds.specs.Kinds.{Token, name}
use Rattle.spec_text.specs.Writing.{write}
use Rattle.spec_grammar.specs.Marks.{'lpar, 'rpar, 'lbrace, 'rbrace, 'semi, ':, '::, 'do, 'fi, 'if, 'init, 'od, 'proctype}
use Rattle.spec_grammar.specs.Tree.{Sort, sequence, Tree, leaf, select, loop, bare, labelled, end, then, over, option, Declaration, Body, body, Part, mtypes, global, process, init, Model}
use Rattle.spec_grammar.specs.Print.{join, print_leaf, print_declaration, print_group, print_activity, print_part}

-- a line: how many bodies and selections it stands inside, and its tokens
pub record Line : Type 0 where
  pub inside : ℕ
  pub tokens : List Token

abbrev pub line : ℕ → List Token → Line
line d ts = record { inside = d; tokens = ts }

-- the `;` that closes the last line of a statement, where another follows
abbrev pub closing : Tree sequence → List Token
closing end = []
closing (then s q) = 'semi ∷ []

-- the lines of a statement, of the statements of a body or option, or of options, which stand inside d bodies and selections; `label` begins the first line of a statement, `close` ends its last.
-- What opens and closes a selection stands outside it, `::` inside
abbrev pub lines_tree : {k : Sort} → Tree k → ℕ → List Token → List Token → List Line
lines_tree (leaf l) d label close = line d (label ++ (print_leaf l ++ close)) ∷ []
lines_tree (select os) d label close = line d (label ++ 'if ∷ []) ∷ (lines_tree os (d + 1) [] [] ++ line d ('fi ∷ close) ∷ [])
lines_tree (loop os) d label close = line d (label ++ 'do ∷ []) ∷ (lines_tree os (d + 1) [] [] ++ line d ('od ∷ close) ∷ [])
lines_tree (bare a) d label close = lines_tree a d [] close
lines_tree (labelled w a) d label close = lines_tree a d (name w ∷ ': ∷ []) close
lines_tree end d label close = []
lines_tree (then s q) d label close = lines_tree s d [] (closing q) ++ lines_tree q d [] []
lines_tree over d label close = []
lines_tree (option q os) d label close = line d (':: ∷ []) ∷ (lines_tree q d [] [] ++ lines_tree os d [] [])

-- the declarations of a body, each closed by its `;`, and its statements
abbrev pub lines_items : List Declaration → Tree sequence → List Line
lines_items [] q = lines_tree q 1 [] []
lines_items (d ∷ ds) q = line 1 (print_declaration d ++ 'semi ∷ []) ∷ lines_items ds q

abbrev pub lines_body : Body → List Line
lines_body (body ds q) = line 0 ('lbrace ∷ []) ∷ (lines_items ds q ++ line 0 ('rbrace ∷ []) ∷ [])

-- a head is all up to its `)`, or `init`
abbrev pub lines_part : Part → List Line
lines_part (mtypes ws) = line 0 (print_part (mtypes ws)) ∷ []
lines_part (global d) = line 0 (print_declaration d) ∷ []
lines_part (process a w gs b) = line 0 (print_activity a ++ ('proctype ∷ name w ∷ 'lpar ∷ (join 'semi print_group gs ++ 'rpar ∷ []))) ∷ lines_body b
lines_part (init b) = line 0 ('init ∷ []) ∷ lines_body b

abbrev pub lines_model : Model → List Line
lines_model [] = []
lines_model (u ∷ m) = lines_part u ++ lines_model m

-- "two spaces for each .., then the normal text's bytes", which are those of its tokens as they stand side by side, and LF
abbrev pub line_bytes : Line → List ℕ
line_bytes l = replicate (2 * l.inside) 32 ++ (write l.tokens ++ 10 ∷ [])

abbrev pub all_bytes : List Line → List ℕ
all_bytes [] = []
all_bytes (l ∷ ls) = line_bytes l ++ all_bytes ls

abbrev pub layout : Model → List ℕ
layout m = all_bytes (lines_model m)
