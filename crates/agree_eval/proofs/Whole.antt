-- EVALUATION IS THE MEANING OF THE TREE (Q11), for every accepted text: of an expression of its tree that a mark follows, as the argument of a statement or the statement itself, what is worked
-- out over the tables from its first item to that mark is what the expression means, in every state and for every process, faults included. Nothing is assumed of the expression.
use Prim.Native.Nat.{ℕ, zero, ◌+◌, ◌-◌, ◌≤◌, min}
use native.Mathlib.Omega.{arith}
use mathlib.Core.Path.{◌≡◌, refl, sym as inv, ap, ◌∙◌}
use mathlib.Core.Bool.{Bool, true, false}
use mathlib.Core.List.{List, ◌∷◌, ◌++◌}
use lib.ListN.{length, get_or, length-append, length-replicate, get_or-append}
use lib.Seq.{get_or-append-add, get_or-append_seam}
use lib.IntN.{ℤ}
use lib.Dec.{ltb}
use borrow.Author.Tests.{ltb-false}
use Rattle.base_ceilings.specs.Ceilings.{height_most, items_most}
use Rattle.base_bytes.specs.Choice.{pick}
use Rattle.spec_grammar.specs.Tree.{Shape, Exp}
use Rattle.base_codes.specs.Items.{Item, i_plain}
use Rattle.parse_code.specs.Code.{code_exp, code}
use Rattle.base_codes.specs.Items as items
use Rattle.base_codes.specs.Sets.{rule_of}
use Rattle.rule_sheets.specs.Spans.{starts_of, heights_of}
use Rattle.rule_item.specs.Rules.{bad_height, bad_by, bad}
use Rattle.rule_least.specs.Faults.{blank}
use Rattle.spec_rules.specs.Heights.{height}
use Rattle.link_phrases_proof.proofs.Starts.{some-items}
use Rattle.link_phrases_proof.proofs.Heights.{phrase_heights}
use Rattle.link_phrases_proof.proofs.Inside.{phrase_inside}
use Rattle.read_passes.specs.Judging.{tables_text}
use Rattle.read_accepts_proof.specs.Meaning.{Accepts}
use Rattle.step_eval.specs.Expressions.{eval_of}
use Rattle.spec_machine.specs.Eval.{eval}
use Rattle.agree_stage.specs.Scenes.{scene_of, size_in}
use Rattle.agree_eval.specs.Names.{codes_at, said_at, homes_at, decl_at, Arrays}
use Rattle.agree_eval.specs.Marks.{Closes, plainly, in_parentheses}
use Rattle.agree_eval.proofs.Codes.{codes_few}
use Rattle.agree_eval.proofs.Main.{items_long, stands_at}
use Rattle.agree_eval.proofs.Said.{code_of_lem}
use Rattle.agree_eval.proofs.Names.{lies_all, low_at, text-means}
use Rattle.agree_eval.proofs.Declared.{no_fault, arrays_in}
use Rattle.agree_eval.proofs.Operators.{text_proper}

-- ---- "expression height 32"
height_rule : (cs vs hs ss ts : List ℕ) (j : ℕ) (x : Item) → get_or cs j 0 ≡ items.code_of x → Closes x → bad cs vs hs ss ts j ≡ bad_height ts j
unfolding bad_by
height_rule cs vs hs ss ts j x e (plainly r) = ap (λ k. bad_by cs vs hs ss ts k j) (ap rule_of e ∙ r)
height_rule cs vs hs ss ts j x e (in_parentheses r) = ap (λ k. bad_by cs vs hs ss ts k j) (ap rule_of e ∙ r)

low_enough : (ts : List ℕ) (j h : ℕ) → get_or ts (j - 1) 0 ≡ min (height_most + 1) h → bad_height ts j ≡ 0 → h ≤ height_most
unfolding bad_height
low_enough ts j h e b = go (ltb height_most (get_or ts (j - 1) 0)) refl b
  where
    go : (c : Bool) → ltb height_most (get_or ts (j - 1) 0) ≡ c → ◌≡◌ {A = ℕ} (pick c 2 0) 0 → h ≤ height_most
    go true q k = absurd (omega arith)
    go false q k = let z = ltb-false height_most (get_or ts (j - 1) 0) q in omega arith

module _ (t : List ℕ) (a : Accepts t) {s : Shape} (e : Exp s) (front rest : List Item) where
  abbrev C : List ℕ
  C = codes_at t a

  module _ (within : code a.tree ≡ front ++ (code_exp e ++ rest)) where
    long : length front + length (code_exp e) + length rest ≡ length C
    long = omega (arith, items_long t a, ap length within, length-append front (code_exp e ++ rest), length-append (code_exp e) rest)

    pub text_arrays : Arrays t a (length front) e
    text_arrays =
        let p = text_proper t a e front rest within in
        let h = stands_at t a e front rest within p in
        arrays_in t a (length front) (length (code_exp e)) (omega (arith, long)) (λ x u v. low_at C (code_exp e) (length front) x (phrase_inside e p) h u v) e (length front) p
        (lies_all (code a.tree) (code_exp e) (length front) (λ j g. ap (λ (y : List Item). get_or y (length front + j) i_plain) within ∙ get_or-append-add front (code_exp e ++ rest) j i_plain ∙ get_or-append (code_exp e) rest i_plain j g))
        h (omega arith) (omega arith)

module _ (t : List ℕ) (a : Accepts t) {s : Shape} (e : Exp s) (front : List Item) (x : Item) (rest : List Item) (within : code a.tree ≡ front ++ (code_exp e ++ x ∷ rest)) where
  -- the mark stands behind it
  pub mark_at : get_or (codes_at t a) (length front + size_in e) 0 ≡ items.code_of x
  mark_at =
      code_of_lem t a (length front + size_in e) (omega (arith, ap length within, length-append front (code_exp e ++ x ∷ rest), length-append (code_exp e) (x ∷ rest)))
      ∙ ap items.code_of (ap (λ (y : List Item). get_or y (length front + size_in e) i_plain) within ∙ get_or-append-add front (code_exp e ++ x ∷ rest) (size_in e) i_plain ∙ get_or-append_seam (code_exp e) x rest i_plain)

  module _ (closes : Closes x) where
    pub text-height : height e ≤ height_most
    text-height =
        let C = codes_at t a in
        let j = length front + size_in e in
        let p = text_proper t a e front (x ∷ rest) within in
        let n = long t a e front (x ∷ rest) within in
        let some = some-items e in
        low_enough (heights_of C (starts_of C blank) blank) j (height e)
        (phrase_heights C blank blank e p (length front) (j - 1) (stands_at t a e front (x ∷ rest) within p) (codes_few t a) (omega (arith, codes_few t a, length-replicate items_most zero))
        (omega (arith, codes_few t a, length-replicate items_most zero)) (omega arith) (omega arith))
        (inv (height_rule C (said_at t a) (homes_at t a) (starts_of C blank) (heights_of C (starts_of C blank) blank) j x mark_at closes) ∙ no_fault t a j (omega arith))

    pub text_evaluates : (st : List ℤ) (pid : ℕ) → eval_of (tables_text t) st pid (length front) (length front + size_in e) ≡ eval (scene_of (tables_text t) st pid (decl_at t a (length front))) e
    text_evaluates st pid =
        text-means t a e front (x ∷ rest) within (text_proper t a e front (x ∷ rest) within) st pid (text_arrays t a e front (x ∷ rest) within) text-height
