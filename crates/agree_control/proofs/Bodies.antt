-- The items of a unit that has a body, of which its head, its parameters and its body are parts, and what stands behind it.
use Prim.Native.Nat.{ℕ, suc, ◌+◌, ◌≤◌}
use native.Mathlib.Omega.{arith}
use mathlib.Core.Path.{◌≡◌, refl, ap, ◌∙◌, subst}
use mathlib.Core.List.{List, [], ◌++◌}
use lib.ListN.{length, get_or, length-append}
use Rattle.base_codes.specs.Codes.{c_active, c_active_many, c_init, c_proctype}
use Rattle.spec_grammar.specs.Tree.{Name, Body, Activity, idle, once, times, Model}
use Rattle.base_codes.specs.Items.{Item}
use Rattle.base_codes.specs.Sets.{class_of}
use Rattle.parse_code.specs.Code.{each, code_group, code_body, code_activity, code_part, code}
use Rattle.table_entries.specs.Items.{AllKnown}
use Rattle.link_phrases_proof.specs.Phrases.{At}
use Rattle.link_phrases_proof.proofs.Starts.{at_front, at_back}
use Rattle.agree_eval.proofs.Operators.{known-front, known-back}
use Rattle.agree_nesting.specs.Balanced.{Balanced}
use Rattle.agree_nesting.specs.Full.{FullBody, FullModel}
use Rattle.agree_nesting.proofs.Trees.{model_balanced}
use Rattle.spec_machine.specs.Sizes.{size_activity, size_part}
use Rattle.agree_sizes.proofs.Sizes.{size_activity_lem, size_groups, size-part}
use Rattle.agree_sizes.specs.Bodies.{Holds, in_process, in_init, later}
use Rattle.agree_control.proofs.Insides.{Inner, inner_groups}

-- item u begins the unit, and its body b begins at item k
pub record Whole (cs : List ℕ) (u : ℕ) (b : Body) (k : ℕ) : Type 0 where
  pub head : (c_proctype ≤ get_or cs u 0) × (get_or cs u 0 ≤ c_init) × (class_of (get_or cs u 0) ≡ 12)
  pub between : List Item
  pub inner : Inner between
  pub all_known : AllKnown between
  pub behind_head : At cs (suc u) between
  pub place : k ≡ suc u + length between
  pub full : FullBody b
  pub known : AllKnown (code_body b)
  pub stands : At cs k (code_body b)
  pub rest : List Item
  pub balanced : Balanced rest
  pub behind : At cs (k + length (code_body b)) rest
  pub all : k + length (code_body b) + length rest ≡ length cs

module _ (cs : List ℕ) where
  head_by : (c u j : ℕ) → u ≡ j → get_or cs j 0 ≡ c → c_proctype ≤ c → c ≤ c_init → class_of c ≡ 12 → (c_proctype ≤ get_or cs u 0) × (get_or cs u 0 ≤ c_init) × (class_of (get_or cs u 0) ≡ 12)
  head_by c u j e h a b d = let z : get_or cs u 0 ≡ c = ap (λ i. get_or cs i 0) e ∙ h in (omega arith, omega arith, ap class_of z ∙ d)

  heads : (class_of c_proctype ≡ 12) × (class_of c_active ≡ 12) × (class_of c_active_many ≡ 12) × (class_of c_init ≡ 12)
  unfolding class_of
  heads = (refl, refl, refl, refl)

  activity_head : (x : Activity) (w : Name) (i u : ℕ) → suc u ≡ i + size_activity x → At cs i (code_activity x w)
      → (c_proctype ≤ get_or cs u 0) × (get_or cs u 0 ≤ c_init) × (class_of (get_or cs u 0) ≡ 12)
  activity_head idle w i u e h = head_by c_proctype u (suc i) (omega arith) h.1.0 (omega arith) (omega arith) heads.0
  activity_head once w i u e h = head_by c_active u (suc i) (omega arith) h.1.0 (omega arith) (omega arith) heads.1
  activity_head (times n) w i u e h = head_by c_active_many u (suc (suc i)) (omega arith) h.1.1.0 (omega arith) (omega arith) heads.2

  pub unit-whole : {m : Model} {i u k : ℕ} {b : Body} → Holds m i u b k → FullModel m → AllKnown (code m) → At cs i (code m) → i + length (code m) ≡ length cs → Whole cs u b k
  unit-whole {i = i} {u = u} {k = k} (in_process {x = x} {w = w} {gs = gs} {b = b} {m = m} e f) fm ka h g =
      let A = code_activity x w in
      let G = each code_group gs in
      let B = code_body b in
      let kp = known-front (A ++ G ++ B) (code m) ka in
      let hp = at_front cs i (A ++ G ++ B) (code m) h in
      let kg = known-front (A ++ G) B kp in
      let hg = at_front cs i (A ++ G) B hp in
      let n1 = length-append A G in
      let na = size_activity_lem x w in
      let ng = size_groups gs in
      let n2 = length-append (A ++ G) B in
      let n3 = length-append (A ++ G ++ B) (code m) in
      record {
        head = activity_head x w i u e (at_front cs i A G hg);
        between = G;
        inner = inner_groups gs;
        all_known = known-back A G kg;
        behind_head = at_back cs A G i (suc u) (omega arith) hg;
        place = omega arith;
        full = fm.0;
        known = known-back (A ++ G) B kp;
        stands = at_back cs (A ++ G) B i k (omega arith) hp;
        rest = code m;
        balanced = model_balanced m fm.1 (known-back (A ++ G ++ B) (code m) ka);
        behind = at_back cs (A ++ G ++ B) (code m) i (k + length B) (omega arith) h;
        all = omega arith;
      }
  unit-whole {i = i} {k = k} (in_init {b = b} {m = m} e) fm ka h g =
      let B = code_body b in
      let n = length-append B (code m) in
      record {
        head = head_by c_init i i refl h.0 (omega arith) (omega arith) heads.3;
        between = [];
        inner = tt;
        all_known = tt;
        behind_head = tt;
        place = omega arith;
        full = fm.0;
        known = known-front B (code m) ka.1;
        stands = subst (λ j. At cs j B) (let z : suc i ≡ k = omega arith in z) (at_front cs (suc i) B (code m) h.1);
        rest = code m;
        balanced = model_balanced m fm.1 (known-back B (code m) ka.1);
        behind = at_back cs B (code m) (suc i) (k + length B) (omega arith) h.1;
        all = omega arith;
      }
  unit-whole {i = i} (later {x = x} {m = m} p) fm ka h g =
      let n = length-append (code_part x) (code m) in
      let z = size-part x in
      unit-whole p fm.1 (known-back (code_part x) (code m) ka) (at_back cs (code_part x) (code m) i (i + size_part x) (omega arith) h) (omega arith)
