-- THE STEPS THAT A PLACE OFFERS ARE THOSE OF THE TREE: at each statement of an accepted text the search over its tables finds what the tree's statement offers, in every state; at the end
-- of a body it finds nothing. So no ceiling of that search is ever met: selections of accepted texts nest at most eight deep, and have at most 512 options.
use Prim.Native.Nat.{ℕ, ◌+◌, ◌≤◌}
use native.Mathlib.Omega.{arith}
use mathlib.Core.Path.{◌≡◌, sym as inv, ap₂, subst, ◌∙◌}
use mathlib.Core.Bool.{Bool}
use mathlib.Core.List.{List, [], ◌∷◌, ◌++◌}
use lib.ListN.{length-append}
use lib.IntN.{ℤ}
use Rattle.base_ceilings.specs.Ceilings.{items_most, selections_most}
use Rattle.base_codes.specs.Codes.{c_end_body}
use Rattle.spec_grammar.specs.Tree.{Sort, action, Tree, Body, body, Model}
use Rattle.base_codes.specs.Items.{i_body, i_end_body, i_local}
use Rattle.parse_code.specs.Code.{each, code_declaration, code_body, code_tree}
use Rattle.table_layout.specs.Access.{code_of}
use Rattle.read_passes.specs.Judging.{tables_text}
use Rattle.read_accepts_proof.specs.Meaning.{Accepts}
use Rattle.read_accepts_proof.proofs.Tables.{text-tables}
use Rattle.step_ready.specs.Executing.{ready_of}
use Rattle.step_offers.specs.Offers.{offers_of}
use Rattle.agree_offers.proofs.Lists.{end_offers}
use Rattle.agree_eval.proofs.Codes.{codes_few}
use Rattle.agree_eval.proofs.Items.{T}
use Rattle.agree_eval.proofs.Main.{items_long}
use Rattle.spec_machine.specs.Stage.{Ways}
use Rattle.spec_machine.specs.Program.{Within, itself, in_if, in_do, unlabelled, behind_label, in_first, in_rest, in_option, in_others, end_in, sequence_of}
use Rattle.agree_sizes.specs.Bodies.{Holds, in_process, in_init, later, Statement, BodyEnd}
use Rattle.spec_machine.specs.Offers.{offers}
use Rattle.agree_sizes.proofs.Sizes.{size_tree, size-declarations}
use Rattle.agree_stage.proofs.Stands.{Lying, body_lies, statement_lies, lying_back}
use Rattle.agree_nesting.specs.Full.{Full, FullBody, FullModel}
use Rattle.agree_nesting.proofs.Begun.{full-model}
use Rattle.agree_offers.specs.Depth.{depth, ShallowBody, ShallowModel}
use Rattle.agree_offers.proofs.Shallow.{shallow_model}
use Rattle.agree_offers.proofs.Walks.{walked}
use Rattle.agree_offers.proofs.Places.{xs, held_there, inside_there}
use Rattle.agree_offers.proofs.Texts.{told}

-- ---- what holds of a model holds of its bodies, and of their statements
full-statements : (b : Body) → FullBody b → Full (sequence_of b)
full-statements (body ds q) f = f

shallow_statements : (b : Body) → ShallowBody b → depth (sequence_of b) ≤ selections_most
shallow_statements (body ds q) f = f

holds-full : {m : Model} {i u k : ℕ} {b : Body} → Holds m i u b k → FullModel m → Full (sequence_of b)
holds-full (in_process {b = b} e g) f = full-statements b f.0
holds-full (in_init {b = b} e) f = full-statements b f.0
holds-full (later h) f = holds-full h f.1

holds_shallow : {m : Model} {i u k : ℕ} {b : Body} → Holds m i u b k → ShallowModel m → depth (sequence_of b) ≤ selections_most
holds_shallow (in_process {b = b} e g) f = shallow_statements b f.0
holds_shallow (in_init {b = b} e) f = shallow_statements b f.0
holds_shallow (later h) f = holds_shallow h f.1

within-full : {k : Sort} {x : Tree k} {i n o : ℕ} {y : Tree action} {j m u : ℕ} → Within k x i n o y j m u → Full x → Full y
within-full itself f = f
within-full (in_if w) f = within-full w f
within-full (in_do w) f = within-full w f
within-full (unlabelled w) f = within-full w f
within-full (behind_label w) f = within-full w f
within-full (in_first w) f = within-full w f.0
within-full (in_rest w) f = within-full w f.1
within-full (in_option w) f = within-full w f.1
within-full (in_others w) f = within-full w f.2

within-depth : {k : Sort} {x : Tree k} {i n o : ℕ} {y : Tree action} {j m u : ℕ} → Within k x i n o y j m u → depth y ≤ depth x
within-depth itself = omega arith
within-depth (in_if w) = let h = within-depth w in omega arith
within-depth (in_do w) = let h = within-depth w in omega arith
within-depth (unlabelled w) = within-depth w
within-depth (behind_label w) = within-depth w
within-depth (in_first w) = let h = within-depth w in omega arith
within-depth (in_rest w) = let h = within-depth w in omega arith
within-depth (in_option w) = let h = within-depth w in omega arith
within-depth (in_others w) = let h = within-depth w in omega arith

module _ (t : List ℕ) (a : Accepts t) where
  -- ---- ceilings
  -- "open if/do 8"
  pub text_shallow : {u k : ℕ} {b : Body} → Holds a.tree 0 u b k → depth (sequence_of b) ≤ selections_most
  text_shallow h = holds_shallow h (shallow_model _ a.tree a.gram a.shallow)

  text-full : {u j : ℕ} {x : Tree action} {h : Ways} → Statement a.tree u x j h → Full x
  text-full s = within-full s.inside (holds-full s.held (full-model a.gram))

  -- ---- steps
  offers_in_tables : {u j : ℕ} {x : Tree action} {h : Ways} → Statement a.tree u x j h → (s : List ℤ) (p : ℕ) (late : Bool)
      → offers_of (T t a) s p late j ≡ offers (λ y i. ready_of (T t a) s p late i) x j
  offers_in_tables {u} {j} {x} {h} st s p late =
      let l = statement_lies st in
      let d = text_shallow st.held in
      let e = within-depth st.inside in
      let b = inside_there t a (code_tree x) j l in
      walked (T t a) s p late x j (selections_most + 1) items_most (told t a x j (text-full st) l) (omega arith) (omega (arith, size_tree x, items_long t a, codes_few t a))

  pub text-offers : {u j : ℕ} {x : Tree action} {h : Ways} → Statement a.tree u x j h → (s : List ℤ) (p : ℕ) (late : Bool)
      → offers_of (tables_text t) s p late j ≡ offers (λ y i. ready_of (tables_text t) s p late i) x j
  text-offers {u} {j} {x} {h} st s p late =
      subst (λ (T : List ℕ). offers_of T s p late j ≡ offers (λ y i. ready_of T s p late i) x j) (inv (text-tables t a)) (offers_in_tables st s p late)

  -- ---- ends of bodies
  end_in_tables : (b : Body) (k : ℕ) → Lying (xs t a) 0 (code_body b) k → code_of (T t a) (end_in b k) ≡ c_end_body
  end_in_tables (body ds q) k l =
      let D = i_body ∷ each (code_declaration i_local) ds in
      (held_there t a (i_end_body ∷ []) (end_in (body ds q) k)
      (lying_back (xs t a) (D ++ code_tree q) (i_end_body ∷ []) 0 k (end_in (body ds q) k) (omega (arith, size-declarations ds, size_tree q, length-append D (code_tree q))) l)).0

  -- a unit ends with `end_Body` (228)
  pub text-ends : {u j : ℕ} → BodyEnd a.tree u j → code_of (tables_text t) j ≡ c_end_body
  text-ends {u} {j} e = ap₂ code_of (text-tables t a) e.ends ∙ end_in_tables e.own e.at (body_lies e.held)

  pub text-ended : (s : List ℤ) (p : ℕ) (late : Bool) (j : ℕ) → code_of (tables_text t) j ≡ c_end_body → offers_of (tables_text t) s p late j ≡ []
  text-ended s p late j e = end_offers (tables_text t) s p late (selections_most + 1) j items_most e
