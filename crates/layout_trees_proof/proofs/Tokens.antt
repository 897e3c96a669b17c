-- THE TOKENS OF A TREE'S LINES are its printed tokens.
use mathlib.Core.Path.{◌≡◌, refl, ◌∙◌}
use mathlib.Core.List.{List, [], ◌∷◌, ◌++◌, append_assoc, append-nil}
use Prim.Native.Nat.{ℕ, ◌+◌}
use Rattle.base_kinds.specs.Kinds.{Token, name}
use Rattle.spec_grammar.specs.Marks.{':}
use Rattle.spec_grammar.specs.Tree.{Sort, sequence, Tree, leaf, select, loop, bare, labelled, end, then, over, option, Declaration, Body, body, Part, mtypes, global, process, init, Model}
use Rattle.spec_grammar.specs.Print.{before, print_tree, print_items, print_body, print_part, print_model}
use Rattle.spec_layout.specs.Layout.{Line, closing, lines_tree, lines_items, lines_body, lines_part, lines_model}
use Rattle.layout_trees_proof.specs.Tokens.{joined_tokens}
use Rattle.layout_trees_proof.proofs.Statements.{label_of, close_of}

joined-append : (x y : List Line) → joined_tokens (x ++ y) ≡ joined_tokens x ++ joined_tokens y
joined-append [] y = refl
joined-append (l ∷ x) y = rw (joined-append x y) (simp append_assoc)

closed-before : (q : Tree sequence) (ts : List Token) → closing q ++ ts ≡ before q ts
closed-before end ts = refl
closed-before (then s q) ts = refl

tree_tokens : {k : Sort} (t : Tree k) (d : ℕ) (label close : List Token) → joined_tokens (lines_tree t d label close) ≡ label_of k label ++ (print_tree t ++ close_of k close)
tree_tokens (leaf l) d label close = append-nil _
tree_tokens (select os) d label close = rw (joined-append (lines_tree os (d + 1) [] []), tree_tokens os (d + 1) [] []) (simp (append_assoc, append-nil))
tree_tokens (loop os) d label close = rw (joined-append (lines_tree os (d + 1) [] []), tree_tokens os (d + 1) [] []) (simp (append_assoc, append-nil))
tree_tokens (bare a) d label close = tree_tokens a d [] close
tree_tokens (labelled w a) d label close = tree_tokens a d (name w ∷ ': ∷ []) close
tree_tokens end d label close = refl
tree_tokens (then s q) d label close =
    rw (joined-append (lines_tree s d [] (closing q)), tree_tokens s d [] (closing q), tree_tokens q d [] [], ← closed-before q (print_tree q)) (simp (append_assoc, append-nil))
tree_tokens over d label close = refl
tree_tokens (option q os) d label close = rw (joined-append (lines_tree q d [] []), tree_tokens q d [] [], tree_tokens os d [] []) (simp (append_assoc, append-nil))

items-tokens : (ds : List Declaration) (q : Tree sequence) → joined_tokens (lines_items ds q) ≡ print_items ds q
items-tokens [] q = tree_tokens q 1 [] [] ∙ append-nil (print_tree q)
items-tokens (d ∷ ds) q = rw (items-tokens ds q) (simp append_assoc)

body_tokens : (b : Body) → joined_tokens (lines_body b) ≡ print_body b
body_tokens (body ds q) = rw (joined-append (lines_items ds q), items-tokens ds q)

part-tokens : (u : Part) → joined_tokens (lines_part u) ≡ print_part u
part-tokens (mtypes ws) = append-nil _
part-tokens (global d) = append-nil _
part-tokens (process a w gs b) = rw (body_tokens b) (simp append_assoc)
part-tokens (init b) = rw (body_tokens b)

pub model-tokens : (m : Model) → joined_tokens (lines_model m) ≡ print_model m
model-tokens [] = refl
model-tokens (u ∷ m) = rw (joined-append (lines_part u) (lines_model m), part-tokens u, model-tokens m)
