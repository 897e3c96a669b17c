-- THE STATEMENTS OF A BODY are laid out as the lines of their trees.
use mathlib.Core.Path.{◌≡◌, refl}
use mathlib.Core.Bool.{true, false}
use mathlib.Core.List.{List, [], ◌∷◌, ◌++◌, append_assoc, append-nil}
use Prim.Native.Nat.{ℕ, ◌+◌, ◌-◌}
use native.Mathlib.Omega.{arith}
use Rattle.base_kinds.specs.Kinds.{Token, name}
use Rattle.spec_grammar.specs.Marks.{'semi, ':, '::, 'do, 'fi, 'if, 'od}
use Rattle.spec_grammar.specs.Tree.{Sort, action, statement, sequence, options, Tree}
use Rattle.spec_grammar.specs.Grammar.{D, s_leaf, s_if, s_do, s_bare, s_label, q_last, q_then, o_last, o_also}
use Rattle.spec_grammar.specs.Print.{print_tree}
use Rattle.spec_grammar.proofs.Printed.{sequence_before}
use Rattle.spec_layout.specs.Layout.{Line, line, closing, lines_tree}
use Rattle.write_lines.specs.Lines.{p_body, place_behind, bodies, starts_line, ends_line, lay_after}
use Rattle.layout_trees_proof.proofs.Laid.{Laid, along, anew}
use Rattle.layout_trees_proof.proofs.Printed.{leaf_phrase}

-- the label and the close that `lines_tree` takes for a tree of a sort: an action begins with the one, an action or a statement ends with the other
abbrev pub label_of : Sort → List Token → List Token
label_of action label = label
label_of statement label = []
label_of sequence label = []
label_of options label = []

abbrev pub close_of : Sort → List Token → List Token
close_of action close = close
close_of statement close = close
close_of sequence close = []
close_of options close = []

data Label : List Token → Type 0 where
  no_label : Label []
  a_label : {w : List ℕ} → Label (name w ∷ ': ∷ [])

-- what may begin a line or go on one may do so behind a label
led : {label : List Token} → Label label → {s : ℕ} {ts on : List Token} {ls : List Line} → Laid p_body s false ts on ls → Laid p_body s true ts [] (line (s + 1) on ∷ ls)
    → Laid p_body s true (label ++ ts) [] (line (s + 1) (label ++ on) ∷ ls)
unfolding place_behind starts_line ends_line bodies
led no_label h i = i
led (a_label {w = w}) {s} h i = anew (name w) refl (s + 1) (omega arith) (along ': refl h)

-- `fi` and `od` stand outside what they close
module _ {s : ℕ} {ts on : List Token} {ls : List Line} (h : Laid p_body s false ts on ls) where
  less : s + 1 - 1 ≡ s
  less = omega arith

  closed_if : Laid p_body (s + 1) false ('fi ∷ ts) [] (line (s + 1) ('fi ∷ on) ∷ ls)
  unfolding place_behind starts_line ends_line bodies
  closed_if = anew 'fi refl (s + 1) (omega arith) (rw less h)

  closed_do : Laid p_body (s + 1) false ('od ∷ ts) [] (line (s + 1) ('od ∷ on) ∷ ls)
  unfolding place_behind starts_line ends_line bodies
  closed_do = anew 'od refl (s + 1) (omega arith) (rw less h)

sequence_closed : {ts : List Token} {q : Tree sequence} → D sequence ts q → closing q ≡ 'semi ∷ []
sequence_closed (q_last x u) = refl
sequence_closed (q_then x u y) = refl

-- options begin a line wherever they stand
options_anew : {ts : List Token} {os : Tree options} → D options ts os → {s : ℕ} (us : List Token) {ls : List Line} → Laid p_body s true (print_tree os ++ us) [] ls → Laid p_body s false (print_tree os ++ us) [] ls
unfolding lay_after starts_line
options_anew (o_last x) us h = record { laid = h.laid }
options_anew (o_also x y) us h = record { laid = h.laid }

-- behind a token that ended its line a tree is its lines; what goes on its last line of the tokens behind it is its close
tree_laid : {k : Sort} {us : List Token} {t : Tree k} → D k us t → {label : List Token} → Label label → (close : List Token) {s : ℕ} {ts : List Token} {ls : List Line}
    → Laid p_body s false ts (close_of k close) ls → Laid p_body s true (label_of k label ++ (print_tree t ++ ts)) [] (lines_tree t (s + 1) label close ++ ls)
unfolding place_behind starts_line ends_line bodies
tree_laid (s_leaf x) m close {s} {ts} {ls} h = led m ((leaf_phrase x).stay s ts close ls h) ((leaf_phrase x).begin s ts close ls h)
tree_laid (s_if {os = os} x) m close {s} h =
    let z = tree_laid x no_label [] (closed_if h) in
    rw (append_assoc (print_tree os), append_assoc (lines_tree os (s + 1 + 1) [] [])) (led m (along 'if refl z) (anew 'if refl (s + 1) (omega arith) z))
tree_laid (s_do {os = os} x) m close {s} h =
    let z = tree_laid x no_label [] (closed_do h) in
    rw (append_assoc (print_tree os), append_assoc (lines_tree os (s + 1 + 1) [] [])) (led m (along 'do refl z) (anew 'do refl (s + 1) (omega arith) z))
tree_laid (s_bare x) m close h = tree_laid x no_label close h
tree_laid (s_label x) m close h = tree_laid x a_label close h
tree_laid (q_last x u) m close h = simp append-nil (tree_laid x no_label [] h)
tree_laid (q_then x u y) m close h =
    rw (sequence_before y, sequence_closed y) (simp append_assoc (tree_laid x no_label ('semi ∷ []) (along 'semi refl (tree_laid y no_label [] h))))
tree_laid (o_last {q = q} x) m close {s} h = rw (append-nil (print_tree q), append-nil (lines_tree q (s + 1) [] [])) (anew ':: refl (s + 1) (omega arith) (tree_laid x no_label [] h))
tree_laid (o_also x y) m close {s} {ts} h =
    simp append_assoc (anew ':: refl (s + 1) (omega arith) (tree_laid x no_label [] (options_anew y ts (tree_laid y no_label [] h))))

pub sequence_laid : {us : List Token} {q : Tree sequence} → D sequence us q → {s : ℕ} {ts : List Token} {ls : List Line} → Laid p_body s false ts [] ls → Laid p_body s true (print_tree q ++ ts) [] (lines_tree q (s + 1) [] [] ++ ls)
sequence_laid x h = tree_laid x no_label [] h
