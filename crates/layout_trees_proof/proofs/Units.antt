-- UNITS are laid out as their lines.
use mathlib.Core.Path.{refl}
use mathlib.Core.Bool.{true, false}
use mathlib.Core.List.{List, [], ◌∷◌, ◌++◌, append_assoc}
use Prim.Native.Nat.{ℕ}
use Rattle.base_kinds.specs.Kinds.{Token, sym, name, number}
use Rattle.spec_grammar.specs.Marks.{'lpar, 'rpar, '[, '], 'lbrace, 'rbrace, 'semi, 'mtype, 'active, 'init, 'proctype}
use Rattle.parse_grammar.specs.Marks.{'bit, 'bool, 'byte, 'pid, 'chan, 'short, 'int}
use Rattle.spec_grammar.specs.Tree.{Name, sequence, Tree, Declaration, Body, body, Activity, Group, Part, Model}
use Rattle.spec_grammar.specs.Grammar.{MaybeListed, IsType, is_bit, is_bool, is_byte, is_mtype, is_pid, is_chan, is_short, is_int, declaration, AGroup, Items, statements, declared, ABody, a_body, AnActivity, not_active, active, active_times, AUnit, u_mtypes, u_global, u_process, u_init, Gram, g_last, g_more}
use Rattle.spec_grammar.specs.Print.{join, print_declaration, print_group, print_items, print_body, print_activity, print_part, print_model}
use Rattle.spec_layout.specs.Layout.{Line, line, lines_items, lines_body, lines_part, lines_model}
use Rattle.write_lines.specs.Lines.{p_unit, p_body, p_head, place_behind, bodies, starts_line, ends_line}
use Rattle.layout_trees_proof.proofs.Laid.{Laid, none-laid, along, anew}
use Rattle.layout_trees_proof.proofs.Phrases.{beside, token, all-along}
use Rattle.layout_trees_proof.proofs.Printed.{of_units, variables_phrase, declaration_phrase, mtypes_phrase, parameters_phrase}
use Rattle.layout_trees_proof.proofs.Statements.{sequence_laid}

-- ---- bodies
items-laid : {us : List Token} {ds : List Declaration} {q : Tree sequence} → Items us (body ds q) → {ts : List Token} {ls : List Line} → Laid p_body 0 false ts [] ls
    → Laid p_body 0 true (print_items ds q ++ ts) [] (lines_items ds q ++ ls)
unfolding place_behind starts_line ends_line bodies
items-laid (statements x) h = sequence_laid x h
items-laid (declared {d = d} x u y) h = rw (append_assoc (print_declaration d)) ((declaration_phrase x).begin 0 _ _ _ (along 'semi refl (items-laid y h)))

body_laid : {us : List Token} (b : Body) → ABody us b → {ts : List Token} {ls : List Line} → Laid p_unit 0 false ts [] ls → Laid p_head 0 false (print_body b ++ ts) [] (lines_body b ++ ls)
unfolding place_behind starts_line ends_line bodies
body_laid (body ds q) (a_body x) h =
    rw (append_assoc (print_items ds q), append_assoc (lines_items ds q)) (anew 'lbrace refl 0 refl (items-laid x (anew 'rbrace refl 0 refl h)))

-- ---- units
type_laid : {k : ℕ} → IsType k → {ts on : List Token} {ls : List Line} → Laid p_unit 0 false ts on ls → Laid p_unit 0 false (sym k ∷ ts) [] (line 0 (sym k ∷ on) ∷ ls)
unfolding place_behind starts_line ends_line bodies
type_laid is_bit h = anew 'bit refl 0 refl h
type_laid is_bool h = anew 'bool refl 0 refl h
type_laid is_byte h = anew 'byte refl 0 refl h
type_laid is_mtype h = anew 'mtype refl 0 refl h
type_laid is_pid h = anew 'pid refl 0 refl h
type_laid is_chan h = anew 'chan refl 0 refl h
type_laid is_short h = anew 'short refl 0 refl h
type_laid is_int h = anew 'int refl 0 refl h

-- a head is all up to its `)`
abbrev head : Activity → Name → List Group → List Token
head a w gs = print_activity a ++ ('proctype ∷ name w ∷ 'lpar ∷ (join 'semi print_group gs ++ 'rpar ∷ []))

head-laid : {us xs : List Token} {a : Activity} → AnActivity xs a → (w : Name) {gs : List Group} → MaybeListed 'semi AGroup us gs → {ts : List Token} {ls : List Line} → Laid p_head 0 false ts [] ls
    → Laid p_unit 0 false (head a w gs ++ ts) [] (line 0 (head a w gs) ∷ ls)
unfolding place_behind starts_line ends_line bodies
head-laid not_active w x h = anew 'proctype refl 0 refl (all-along (parameters_phrase w x) h)
head-laid active w x h = anew 'active refl 0 refl (all-along (beside (token 'proctype tt) (parameters_phrase w x)) h)
head-laid (active_times {n = n}) w x h =
    anew 'active refl 0 refl (all-along (beside (token '[ tt) (beside (token (number n) tt) (beside (token '] tt) (beside (token 'proctype tt) (parameters_phrase w x))))) h)

unit-laid : {us : List Token} {u : Part} → AUnit us u → {ts : List Token} {ls : List Line} → Laid p_unit 0 false ts [] ls → Laid p_unit 0 false (print_part u ++ ts) [] (lines_part u ++ ls)
unfolding place_behind starts_line ends_line bodies
unit-laid (u_mtypes x) h = type_laid is_mtype (all-along (mtypes_phrase x) h)
unit-laid (u_global (declaration {k = k} y x)) h = type_laid y (all-along (variables_phrase of_units k x) h)
unit-laid (u_process {w = w} {b = b} x y z) h = simp append_assoc (simp append_assoc at (head-laid x w y (body_laid b z h)))
unit-laid (u_init {b = b} x) h = anew 'init refl 0 refl (body_laid b x h)

pub model-laid : {ts : List Token} {m : Model} → Gram ts m → Laid p_unit 0 false (print_model m) [] (lines_model m)
model-laid (g_last x u) = unit-laid x (none-laid p_unit 0 false)
model-laid (g_more x u y) = unit-laid x (model-laid y)
