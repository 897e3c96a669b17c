-- ONE STAGE FOR A WHOLE BODY: no statement declares a name ("declarations come first"), so at each statement of a body names mean what they mean where its statements begin.
use Prim.Native.Nat.{ℕ, ◌+◌, ◌<◌}
use native.Mathlib.Omega.{arith}
use mathlib.Core.Path.{◌≡◌, refl, ap, subst}
use mathlib.Core.List.{List, [], ◌∷◌, ◌++◌}
use lib.ListN.{length, length-append}
use lib.IntN.{ℤ}
use Rattle.base_codes.specs.Codes.{c_declared}
use Rattle.spec_grammar.specs.Tree.{Name, Shape, Exp, Sort, action, sequence, Tree, Body}
use Rattle.base_codes.specs.Items.{Item}
use Rattle.parse_code.specs.Code.{code_exp, code_tree, code_body, code}
use Rattle.base_codes.specs.Items as items
use Rattle.link_phrases_proof.proofs.Inside.{phrase_inside}
use Rattle.read_passes.specs.Judging.{tables_text}
use Rattle.read_accepts_proof.specs.Meaning.{Accepts}
use Rattle.agree_eval.specs.Names.{codes_at, decl_at}
use Rattle.agree_eval.proofs.Names.{low_at}
use Rattle.agree_eval.proofs.Operators.{text_proper}
use Rattle.spec_machine.specs.Stage.{Ways}
use Rattle.agree_stage.specs.Tables.{stage_in}
use Rattle.spec_machine.specs.Program.{Within, start_in, sequence_of}
use Rattle.agree_sizes.specs.Bodies.{Holds, Statement}
use Rattle.agree_stage.proofs.Stands.{within_lies, body_lies, lying_in, statements_lie, lying_front, lying_back}
use Rattle.agree_offers.proofs.Places.{at_there}
use Rattle.agree_effects.specs.Stages.{unit_at, stage_at}
use Rattle.agree_effects.proofs.Meant.{Quiet, quiet-join, decl-same}
use Rattle.agree_effects.proofs.Parts.{Here}
use Rattle.agree_effects.proofs.Lists.{quiet-mark}
use Rattle.parse_parts_proof.proofs.Closed.{closed_tree, tree_code}

module _ (t : List ℕ) (a : Accepts t) where
  abbrev xs : List Item
  xs = code a.tree

  -- wherever these items stand they declare nothing
  abbrev Calm : List Item → Type 0
  Calm l = (i : ℕ) → Here t a l i → Quiet t a i (i + length l)

  calm-none : Calm []
  calm-none i p y u v = absurd (omega arith)

  calm-item : (x : Item) → items.code_of x < c_declared → Calm (x ∷ [])
  calm-item x h i p = quiet-mark t a x [] i p h

  calm-join : (x y : List Item) → Calm x → Calm y → Calm (x ++ y)
  calm-join x y f g i p =
      let n = length-append x y in
      let z : i + length x + length y ≡ i + length (x ++ y) = omega arith in
      subst (Quiet t a i) z
      (quiet-join t a i (i + length x) (i + length x + length y) (f i (lying_front xs x y 0 i p)) (g (i + length x) (lying_back xs x y 0 i (i + length x) refl p)))

  calm_exp : {k : Shape} (e : Exp k) → Calm (code_exp e)
  calm_exp e i p y u v =
      let l = low_at (codes_at t a) (code_exp e) i y (phrase_inside e (text_proper t a e p.front p.rest p.split)) (at_there t a (code_exp e) i p) u v in omega arith

  calm_tree : {k : Sort} (x : Tree k) → Calm (code_tree x)
  calm_tree x = closed_tree Calm calm-none calm-join (λ s e. calm_exp e) (λ i h. let p = tree_code h in calm-item i (omega arith)) x

  -- ---- the statements of a body
  module _ (b : Body) (u k : ℕ) (held : Holds a.tree 0 u b k) where
    statements-here : Here t a (code_tree (sequence_of b)) (start_in b k)
    statements-here = lying_in xs (code_body b) (code_tree (sequence_of b)) 0 k (start_in b k) (body_lies held) (statements_lie b k)

    pub body_names : {n o : ℕ} {x : Tree action} {j m v : ℕ} → Within sequence (sequence_of b) (start_in b k) n o x j m v → decl_at t a j ≡ decl_at t a (start_in b k)
    body_names {x = x} {j = j} w =
        let l = within_lies w in
        let e = l.place in
        let f = calm_tree (sequence_of b) (start_in b k) statements-here in
        let n = length-append l.front (code_tree x ++ l.rest) in
        let s = ap length l.split in
        decl-same t a (start_in b k) j (omega arith) (λ y p q. f y p (omega arith))

  -- THE STAGE OF EACH STATEMENT is that of the first place of its body
  pub text-stage : {u j : ℕ} {x : Tree action} {h : Ways} (f : Statement a.tree u x j h) → (s : List ℤ) (p : ℕ) → stage_at t a s p j ≡ stage_at t a s p (start_in f.own f.at)
  text-stage {u} f s p = ap (λ (d : Name → ℕ). stage_in (tables_text t) s p d (unit_at t a)) (body_names f.own u f.at f.held f.inside)
