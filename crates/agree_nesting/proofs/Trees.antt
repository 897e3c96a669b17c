-- The code of a tree is balanced: every selection and every option is closed where it ends.
use Prim.Native.Nat.{ℕ, ◌<◌}
use native.Mathlib.Omega.{arith}
use native.Mathlib.Decide.{dec_lt}
use mathlib.Core.Path.{◌≡◌, sym, subst}
use mathlib.Core.Logic.{◌⊎◌, inl, inr}
use mathlib.Core.List.{List, [], ◌∷◌, ◌++◌, append_assoc}
use Rattle.base_codes.specs.Codes.{c_argument, c_end_option, c_if, c_plain}
use Rattle.spec_grammar.specs.Tree.{Name, Sort, Tree, leaf, select, loop, bare, labelled, end, then, over, option, Declaration, Group, Body, body, Activity, idle, once, times, Part, mtypes, global, process, init, Model}
use Rattle.base_codes.specs.Items.{Item, i_init, i_label, i_body, i_end_body, i_end_option, i_fi, i_global, i_local, i_name, i_od}
use Rattle.parse_code.specs.Code.{each, code_leaf, code_tree, code_declaration, code_group, code_body, code_activity, code_message, code_part, code}
use Rattle.table_entries.specs.Items.{AllKnown}
use Rattle.agree_eval.proofs.Ranges.{Every, every_append, every_lift, InDeclaration, local_codes, global_codes, InGroup, groups_codes, InMessages, messages_codes}
use Rattle.agree_eval.proofs.Operators.{known-front, known-back}
use Rattle.agree_nesting.specs.Full.{Full, FullBody, FullPart, FullModel}
use Rattle.agree_nesting.proofs.Begun.{sequence_begun}
use Rattle.agree_nesting.proofs.Leaves.{InLeaf, leaf_codes}
use Rattle.agree_nesting.specs.Balanced.{if_fi, do_od, an_option, Begun, Balanced, none, other, pair}

-- ---- lists of items that open and close neither
abbrev Apart : ℕ → Type 0
Apart c = (c < c_if) ⊎ (c_end_option < c)

flat_balanced : (l : List Item) → Every Apart l → AllKnown l → Balanced l
flat_balanced [] f k = none
flat_balanced (x ∷ l) f k = other (f.0 k.0) (flat_balanced l f.1 k.1)

flat_append : (x y : List Item) → Every Apart x → Every Apart y → Every Apart (x ++ y)
flat_append x y a b = every_append Apart x y a b

balanced_append : {u v : List Item} → Balanced u → Balanced v → Balanced (u ++ v)
balanced_append none b = b
balanced_append (other t a) b = other t (balanced_append a b)
balanced_append {v} (pair {q} {x} {y} {m} {l} p g a d) b = subst (λ z. Balanced (x ∷ z)) (sym (append_assoc m (y ∷ l) v)) (pair p g a (balanced_append d b))

-- ---- declarations
declared-apart : (c : ℕ) → InDeclaration c → Apart c
declared-apart c h = go (dec_lt c c_argument)
  where
    go : Dec (c < c_argument) → Apart c
    go (yes z) = inl (omega arith)
    go (no z) = inr (let y = h.2 (omega arith) in omega arith)

flat_locals : (ds : List Declaration) → Every Apart (each (code_declaration i_local) ds)
flat_locals ds = every_lift InDeclaration Apart declared-apart (each (code_declaration i_local) ds) (local_codes ds)

flat-global : (d : Declaration) → Every Apart (code_declaration i_global d)
flat-global d = every_lift InDeclaration Apart declared-apart (code_declaration i_global d) (global_codes d)

flat_groups : (gs : List Group) → Every Apart (each code_group gs)
flat_groups gs = every_lift InGroup Apart apart (each code_group gs) (groups_codes gs)
  where
    apart : (c : ℕ) → InGroup c → Apart c
    apart c h = go (dec_lt c c_plain)
      where
        go : Dec (c < c_plain) → Apart c
        go (yes z) = inl (omega arith)
        go (no z) = inr (let y = h.2 (omega arith) in omega arith)

flat_messages : (ws : List Name) → Every Apart (each code_message ws)
flat_messages ws = every_lift InMessages Apart apart (each code_message ws) (messages_codes ws)
  where
    apart : (c : ℕ) → InMessages c → Apart c
    apart c (inl e) = inl (omega arith)
    apart c (inr e) = inr (omega arith)

flat_activity : (a : Activity) (w : Name) → Every Apart (code_activity a w)
flat_activity idle w = (λ k. inl (omega arith), (λ k. inr (omega arith), tt))
flat_activity once w = (λ k. inl (omega arith), (λ k. inr (omega arith), tt))
flat_activity (times n) w = (λ k. inl (omega arith), (λ k. inl (omega arith), (λ k. inr (omega arith), tt)))

-- ---- statements
no_option : (m : List Item) → ◌≡◌ {A = ℕ} 0 2 → Begun m
no_option m e = absurd (omega arith)

pub tree_balanced : {k : Sort} (x : Tree k) → Full x → AllKnown (code_tree x) → Balanced (code_tree x)
tree_balanced (leaf l) f k = flat_balanced _ (every_lift InLeaf Apart (λ c h. inl h.0) (code_leaf l) (leaf_codes l)) k
tree_balanced (select os) f k = pair if_fi (no_option (code_tree os)) (tree_balanced os f (known-front (code_tree os) (i_fi ∷ []) k.1)) none
tree_balanced (loop os) f k = pair do_od (no_option (code_tree os)) (tree_balanced os f (known-front (code_tree os) (i_od ∷ []) k.1)) none
tree_balanced (bare a) f k = tree_balanced a f k
tree_balanced (labelled w a) f k = other {x = i_name w} (inl (omega arith)) (other {x = i_label} (inl (omega arith)) (tree_balanced a f k.1.1))
tree_balanced end f k = none
tree_balanced (then s q) f k = balanced_append (tree_balanced s f.0 (known-front (code_tree s) (code_tree q) k)) (tree_balanced q f.1 (known-back (code_tree s) (code_tree q) k))
tree_balanced over f k = none
tree_balanced (option q os) f k =
    pair an_option (λ z. sequence_begun q f.0) (tree_balanced q f.1 (known-front (code_tree q) (i_end_option ∷ code_tree os) k.1)) (tree_balanced os f.2 (known-back (code_tree q) (i_end_option ∷ code_tree os) k.1).1)

-- ---- units
body_balanced : (b : Body) → FullBody b → AllKnown (code_body b) → Balanced (code_body b)
body_balanced (body ds q) f k =
    let D = each (code_declaration i_local) ds in
    let front = known-front (i_body ∷ D ++ code_tree q) (i_end_body ∷ []) k in
    balanced_append
    (balanced_append (flat_balanced (i_body ∷ D) (λ k. inr (omega arith), flat_locals ds) (known-front (i_body ∷ D) (code_tree q) front))
    (tree_balanced q f (known-back (i_body ∷ D) (code_tree q) front)))
    (flat_balanced (i_end_body ∷ []) (λ k. inr (omega arith), tt) (known-back (i_body ∷ D ++ code_tree q) (i_end_body ∷ []) k))

part_balanced : (x : Part) → FullPart x → AllKnown (code_part x) → Balanced (code_part x)
part_balanced (mtypes ws) f k = flat_balanced _ (λ k. inr (omega arith), flat_messages ws) k
part_balanced (global d) f k = flat_balanced _ (flat-global d) k
part_balanced (process a w gs b) f k =
    let A = code_activity a w in
    let G = each code_group gs in
    let front = known-front (A ++ G) (code_body b) k in
    balanced_append (flat_balanced (A ++ G) (flat_append A G (flat_activity a w) (flat_groups gs)) front) (body_balanced b f (known-back (A ++ G) (code_body b) k))
part_balanced (init b) f k = other {x = i_init} (inr (omega arith)) (body_balanced b f k.1)

pub model_balanced : (m : Model) → FullModel m → AllKnown (code m) → Balanced (code m)
model_balanced [] f k = none
model_balanced (x ∷ m) f k = balanced_append (part_balanced x f.0 (known-front (code_part x) (each code_part m) k)) (model_balanced m f.1 (known-back (code_part x) (each code_part m) k))
