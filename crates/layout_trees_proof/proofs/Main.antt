-- THE TOKENS OF A TREE LAID OUT IN LINES ARE ITS LAYOUT, for the tree of any text; and the tokens of a tree's lines are its printed tokens, for any tree. Assumes nothing.
use mathlib.Core.Path.{◌≡◌, ◌∙◌}
use mathlib.Core.Bool.{Bool, false, not}
use mathlib.Core.List.{List, [], ◌∷◌, ◌++◌}
use Prim.Native.Nat.{ℕ}
use native.Mathlib.Omega.{arith}
use lib.Dec.{T}
use lib.Ieee.Bits.{is_true, is_false}
use Rattle.base_bytes.specs.Choice.{both}
use Rattle.base_kinds.specs.Kinds.{Token, sym, kind_of, string_kind}
use Rattle.spec_grammar.specs.Marks.{'mtype, 'active, 'init, 'proctype}
use Rattle.spec_grammar.specs.Tree.{Part, Model}
use Rattle.spec_grammar.specs.Grammar.{declaration, not_active, active, active_times, AUnit, u_mtypes, u_global, u_process, u_init, Gram, g_last, g_more}
use Rattle.spec_grammar.specs.Print.{print_part, print_model}
use Rattle.text_pens.specs.After.{write_after}
use Rattle.parse_grammar.proofs.Tests.{both_left, both_right}
use Rattle.spec_layout.specs.Layout.{lines_model, layout}
use Rattle.write_lines.specs.Lines.{p_start, p_unit, place_behind, bodies, starts_line, ends_line, depth_at, lay_after, lay_all}
use Rattle.layout_trees_proof.specs.Tokens.{joined_tokens}
use Rattle.layout_trees_proof.proofs.Laid.{broken-bytes}
use Rattle.layout_trees_proof.proofs.Printed.{each_type}
use Rattle.layout_trees_proof.proofs.Units.{model-laid}
use Rattle.layout_trees_proof.proofs.Tokens.{model-tokens}

-- a kind that begins a line among units, and none before them all
abbrev first_test : ℕ → Bool
first_test k = both (starts_line p_unit k) (not (starts_line p_start k))

first-depth : (k : ℕ) → depth_at p_unit 0 k ≡ 0
unfolding bodies
first-depth k = omega arith

-- the first token of all is laid out as if units stood before it, but for the LF
first-line : (b : Token) (ts : List Token) → T (first_test (kind_of b)) → 10 ∷ lay_all (b ∷ ts) ≡ lay_after string_kind p_unit 0 false (b ∷ ts)
unfolding lay_after place_behind ends_line
first-line b ts t =
    let k = kind_of b in
    rw (is_true (starts_line p_unit k) (both_left (starts_line p_unit k) _ t), is_false (starts_line p_start k) (both_right (starts_line p_unit k) _ t), first-depth k)

first-unit : {us : List Token} {u : Part} → AUnit us u → (ts : List Token) → 10 ∷ lay_all (print_part u ++ ts) ≡ lay_after string_kind p_unit 0 false (print_part u ++ ts)
unfolding starts_line
first-unit (u_mtypes x) ts = first-line 'mtype _ tt
first-unit (u_global (declaration {k = k} h x)) ts = first-line (sym k) _ (each_type first_test tt h)
first-unit (u_process not_active y z) ts = first-line 'proctype _ tt
first-unit (u_process active y z) ts = first-line 'active _ tt
first-unit (u_process active_times y z) ts = first-line 'active _ tt
first-unit (u_init x) ts = first-line 'init _ tt

first-model : {ts : List Token} {m : Model} → Gram ts m → 10 ∷ lay_all (print_model m) ≡ lay_after string_kind p_unit 0 false (print_model m)
first-model (g_last x u) = first-unit x []
first-model (g_more {m = m} x u y) = first-unit x (print_model m)

pub lines-laid : {ts : List Token} {m : Model} → Gram ts m → lay_all (print_model m) ≡ layout m
unfolding write_after
lines-laid {m = m} g = let e = first-model g ∙ (model-laid g).laid string_kind ∙ broken-bytes (lines_model m) in cc

pub lines-tokens : (m : Model) → joined_tokens (lines_model m) ≡ print_model m
lines-tokens m = model-tokens m
