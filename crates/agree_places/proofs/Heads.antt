-- What stands between the item that begins a unit and its statements: parameters and declarations, and no label among them.
use Prim.Native.Nat.{ℕ, suc, ◌+◌, ◌≤◌, ◌<◌}
use native.Mathlib.Omega.{arith}
use native.Mathlib.Decide.{dec_lt, ℕ_discrete}
use mathlib.Core.Path.{◌≡◌, refl, ap, ◌∙◌}
use mathlib.Core.List.{List, [], ◌∷◌, ◌++◌}
use lib.ListN.{length, get_or}
use Rattle.base_codes.specs.Codes.{c_body, c_label}
use Rattle.spec_grammar.specs.Tree.{Declaration, Group, Body, body, Model}
use Rattle.base_codes.specs.Items.{Item, i_body, i_end_body, i_init, i_local}
use Rattle.parse_code.specs.Code.{each, code_tree, code_declaration, code_group, code_body, code_activity, code_part, code}
use Rattle.read_accepts_proof.specs.Meaning.{Accepts}
use Rattle.agree_eval.specs.Names.{codes_at}
use Rattle.spec_machine.specs.Sizes.{size_part}
use Rattle.agree_sizes.proofs.Sizes.{size_activity_lem, size_groups, size-part, size-declarations}
use Rattle.agree_sizes.specs.Bodies.{Holds, in_process, in_init, later}
use Rattle.spec_machine.specs.Program.{start_in}
use Rattle.agree_stage.proofs.Stands.{Lying, lying_behind, lying_before, lying_whole, body_lies, lying_front, lying_back}
use Rattle.agree_offers.proofs.Places.{at_there, known_there}
use Rattle.agree_places.proofs.Labels.{NoLabel, Bare, bare-declarations, bare_groups}
use Rattle.agree_places.proofs.Quiet.{every_at}

-- the parameters of a unit stand between its first item and its body
pub record Between (l : List Item) (i u k : ℕ) : Type 0 where
  pub groups : List Group
  pub lies : Lying l i (each code_group groups) (suc u)
  pub ends : k ≡ suc u + length (each code_group groups)

pub holds_between : {m : Model} {i u k : ℕ} {b : Body} → Holds m i u b k → Between (code m) i u k
holds_between {i = i} {u = u} (in_process {x = x} {w = w} {gs = gs} {b = b} {m = m} e f) =
    let A = code_activity x w in
    let G = each code_group gs in
    record {
      groups = gs;
      lies = lying_before (A ++ G ++ code_body b) (code m) G i (suc u) (lying_before (A ++ G) (code_body b) G i (suc u) (lying_behind A G G i (suc u) (suc u) (omega (arith, size_activity_lem x w)) (lying_whole G (suc u))));
      ends = omega (arith, size_groups gs);
    }
holds_between {i = i} (in_init {b = b} {m = m} e) =
    record { groups = []; lies = record { front = i_init ∷ []; rest = code_body b ++ code m; split = refl; place = omega arith }; ends = omega arith }
holds_between {i = i} {u = u} {k = k} (later {x = x} {m = m} p) =
    let r = holds_between p in
    record { groups = r.groups; lies = lying_behind (code_part x) (code m) (each code_group r.groups) i (i + size_part x) (suc u) (omega (arith, size-part x)) r.lies; ends = r.ends }

-- ---- in an accepted text
module _ (t : List ℕ) (a : Accepts t) where
  abbrev X : List Item
  X = code a.tree

  -- an item of a unit that is no parameter's, not its `body` and no declaration's stands among its statements or behind them
  pub stands-late : {u k : ℕ} (b : Body) (p : Holds a.tree 0 u b k) (x : ℕ) → u < x
      → ((gs : List Group) → Lying X 0 (each code_group gs) (suc u) → x < suc u + length (each code_group gs) → ⊥)
      → (get_or (codes_at t a) x 0 ≡ c_body → ⊥)
      → ((ds : List Declaration) → Lying X 0 (each (code_declaration i_local) ds) (k + 1) → k + 1 ≤ x → x < k + 1 + length (each (code_declaration i_local) ds) → ⊥) → start_in b k ≤ x
  stands-late {u} {k} (body ds q) p x g f h d = go (dec_lt x k) (ℕ_discrete x k) (dec_lt x (start_in (body ds q) k))
    where
      D : List Item
      D = each (code_declaration i_local) ds

      r : Between X 0 u k
      r = holds_between p

      heads : Lying X 0 (i_body ∷ D) k
      heads = lying_front X (i_body ∷ D) (code_tree q) 0 k (lying_front X (i_body ∷ D ++ code_tree q) (i_end_body ∷ []) 0 k (body_lies p))

      go : Dec (x < k) → Dec (x ≡ k) → Dec (x < start_in (body ds q) k) → start_in (body ds q) k ≤ x
      go (yes y) z w = absurd (f r.groups r.lies (let v = r.ends in omega arith))
      go (no y) (yes z) w = absurd (h (ap (λ n. get_or (codes_at t a) n 0) z ∙ (at_there t a (i_body ∷ D) k heads).0))
      go (no y) (no z) (yes w) = absurd (d ds (lying_back X (i_body ∷ []) D 0 k (k + 1) refl heads) (omega arith) (omega (arith, size-declarations ds)))
      go (no y) (no z) (no w) = omega arith

  -- a label item of a unit stands among its statements
  module _ (x : ℕ) (e : get_or (codes_at t a) x 0 ≡ c_label) where
    free : (l : List Item) (j : ℕ) → Bare l → Lying X 0 l j → j ≤ x → x < j + length l → ⊥
    free l j b p g h = every_at NoLabel (codes_at t a) l j x b (known_there t a l j p) (at_there t a l j p) g h e

    pub label-late : {u k : ℕ} (b : Body) → Holds a.tree 0 u b k → u < x → start_in b k ≤ x
    label-late {u} {k} b p g =
        stands-late b p x g (λ gs l h. free (each code_group gs) (suc u) (bare_groups gs) l (omega arith) h) (λ z. omega arith)
        (λ ds l y h. free (each (code_declaration i_local) ds) (k + 1) (bare-declarations ds) l y h)
