-- The code of a sequence with a statement in it begins as an option has to; and the trees of texts are full.
use Prim.Native.Nat.{suc, ◌≤◌}
use native.Mathlib.Omega.{arith}
use mathlib.Core.Path.{◌≡◌, refl, sym, ap, ◌∙◌, subst}
use mathlib.Core.Bool.{Bool, false}
use mathlib.Core.Logic.{◌⊎◌, inl, inr}
use mathlib.Core.List.{List, [], ◌∷◌, ◌++◌, append_assoc}
use lib.ListN.{length}
use Rattle.base_codes.specs.Codes.{c_label}
use Rattle.base_kinds.specs.Kinds.{Token}
use Rattle.spec_grammar.specs.Tree.{Sort, action, statement, sequence, Tree, leaf, select, loop, bare, labelled, end, then, Body, Part, Model}
use Rattle.base_codes.specs.Items.{Item, code_of, i_do, i_fi, i_if, i_label, i_name, i_od}
use Rattle.parse_code.specs.Code.{code_tree}
use Rattle.spec_grammar.specs.Grammar.{D, s_leaf, s_if, s_do, s_bare, s_label, q_last, q_then, o_last, o_also, Items, statements, declared, ABody, a_body, AUnit, u_mtypes, u_global, u_process, u_init, Gram, g_last, g_more}
use Rattle.agree_nesting.specs.Balanced.{Begun}
use Rattle.agree_nesting.specs.Full.{Starts, Full, FullBody, FullPart, FullModel}
use Rattle.agree_nesting.proofs.Leaves.{InLeaf, Mark, Phrases, none, said, Leafy, led, alone, leafy}

-- ---- the last item of a statement is no label
record Ended (l : List Item) : Type 0 where
  front : List Item
  last : Item
  is : l ≡ front ++ (last ∷ [])
  plain : code_of last ≡ c_label → ⊥

begun-ended : (front : List Item) (last : Item) → (code_of last ≡ c_label → ⊥) → Begun (front ++ (last ∷ []))
begun-ended [] last n = (omega arith, λ e. absurd (omega arith))
begun-ended (x ∷ []) last n = (omega arith, λ e. absurd (n e))
begun-ended (x ∷ y ∷ f) last n = (omega arith, λ e. three f)
  where
    three : (f : List Item) → 3 ≤ suc (suc (length (f ++ (last ∷ []))))
    three [] = omega arith
    three (z ∷ f) = omega arith

behind : (p : List Item) (y : Item) {l : List Item} → InLeaf (code_of y) → (l ≡ []) ⊎ Ended l → Ended (p ++ y ∷ l)
behind p y i (inl e) = record { front = p; last = y; is = ap (λ z. p ++ y ∷ z) e; plain = i.1 }
behind p y i (inr r) =
    record { front = p ++ y ∷ r.front; last = r.last; is = ap (λ z. p ++ y ∷ z) r.is ∙ sym (append_assoc p (y ∷ r.front) (r.last ∷ [])); plain = r.plain }

phrases_ended : {l : List Item} → Phrases (Mark false) l → (l ≡ []) ⊎ Ended l
phrases_ended none = inl refl
phrases_ended (said p y e m q) = inr (behind p y m.2 (phrases_ended q))

leafy_ended : {b : Bool} {l : List Item} → Leafy b l → Ended l
leafy_ended (led p y n e m q) = behind p y m.2 (phrases_ended q)
leafy_ended (alone x a i q) = behind [] x i (phrases_ended q)

action_ended : (a : Tree action) → Ended (code_tree a)
action_ended (leaf l) = leafy_ended (leafy l)
action_ended (select os) = record { front = i_if ∷ code_tree os; last = i_fi; is = refl; plain = λ z. omega arith }
action_ended (loop os) = record { front = i_do ∷ code_tree os; last = i_od; is = refl; plain = λ z. omega arith }

statement_ended : (s : Tree statement) → Ended (code_tree s)
statement_ended (bare a) = action_ended a
statement_ended (labelled w a) =
    let r = action_ended a in
    record { front = i_name w ∷ i_label ∷ r.front; last = r.last; is = ap (λ l. i_name w ∷ i_label ∷ l) r.is; plain = r.plain }

append_nil : (l : List Item) → l ++ [] ≡ l
append_nil [] = refl
append_nil (x ∷ l) = ap (x ∷◌) (append_nil l)

joined-ended : (s : Tree statement) (q : Tree sequence) → (code_tree q ≡ []) ⊎ Ended (code_tree q) → Ended (code_tree s ++ code_tree q)
joined-ended s q (inl e) = let r = statement_ended s in record { front = r.front; last = r.last; is = ap (λ l. code_tree s ++ l) e ∙ append_nil (code_tree s) ∙ r.is; plain = r.plain }
joined-ended s q (inr r) =
    record { front = code_tree s ++ r.front; last = r.last; is = ap (λ l. code_tree s ++ l) r.is ∙ sym (append_assoc (code_tree s) r.front (r.last ∷ [])); plain = r.plain }

sequence_ended : (q : Tree sequence) → (code_tree q ≡ []) ⊎ Ended (code_tree q)
sequence_ended end = inl refl
sequence_ended (then s q) = inr (joined-ended s q (sequence_ended q))

pub sequence_begun : (q : Tree sequence) → Starts q → Begun (code_tree q)
sequence_begun end h = absurd h
sequence_begun (then s q) h = let r = joined-ended s q (sequence_ended q) in subst Begun (sym r.is) (begun-ended r.front r.last r.plain)

-- ---- the trees of texts
starts : {ts : List Token} {q : Tree sequence} → D sequence ts q → Starts q
starts (q_last s u) = tt
starts (q_then s u q) = tt

full : {k : Sort} {ts : List Token} {x : Tree k} → D k ts x → Full x
full (s_leaf l) = tt
full (s_if os) = full os
full (s_do os) = full os
full (s_bare a) = full a
full (s_label a) = full a
full (q_last s u) = (full s, tt)
full (q_then s u q) = (full s, full q)
full (o_last q) = (starts q, full q, tt)
full (o_also q os) = (starts q, full q, full os)

full-items : {ts : List Token} {b : Body} → Items ts b → FullBody b
full-items (statements q) = full q
full-items (declared d u r) = full-items r

full_body : {ts : List Token} {b : Body} → ABody ts b → FullBody b
full_body (a_body i) = full-items i

full-unit : {ts : List Token} {x : Part} → AUnit ts x → FullPart x
full-unit (u_mtypes ws) = tt
full-unit (u_global d) = tt
full-unit (u_process x g b) = full_body b
full-unit (u_init b) = full_body b

pub full-model : {ts : List Token} {m : Model} → Gram ts m → FullModel m
full-model (g_last u s) = (full-unit u, tt)
full-model (g_more u s g) = (full-unit u, full-model g)
