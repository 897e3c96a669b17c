-- WHAT BEGINS A UNIT IN THE TABLES BEGINS A UNIT OF THE TREE, and each place of a unit is the place of one of its tree's statements.
use Prim.Native.Nat.{ℕ, suc, ◌+◌, ◌≤◌, ◌<◌}
use native.Mathlib.Omega.{arith}
use mathlib.Core.Path.{◌≡◌, refl, ap, ◌∙◌, subst}
use mathlib.Core.List.{List, [], ◌∷◌, ◌++◌}
use lib.ListN.{length, get_or, length-append}
use Rattle.base_codes.specs.Codes.{c_body, c_end_body, c_init, c_name, c_number, c_proctype}
use Rattle.spec_grammar.specs.Tree.{Name, Body, body, Activity, idle, once, times, Part, mtypes, global, process, init, Model}
use Rattle.base_codes.specs.Items.{i_body, i_end_body, i_local}
use Rattle.parse_code.specs.Code.{each, code_tree, code_declaration, code_group, code_body, code_activity, code_part, code}
use Rattle.table_entries.specs.Items.{AllKnown}
use Rattle.link_phrases_proof.specs.Phrases.{At}
use Rattle.link_phrases_proof.proofs.Starts.{at_front, at_back}
use Rattle.agree_eval.proofs.Operators.{known-front, known-back}
use Rattle.agree_control.proofs.Insides.{InUnit, inner-append, inner_tree, inner-declarations, inner-global, inner_groups, inner_mtypes}
use Rattle.spec_machine.specs.Sizes.{sum, size_activity, size_group, size_part}
use Rattle.agree_sizes.proofs.Sizes.{size-part}
use Rattle.agree_sizes.specs.Bodies.{in_process, in_init, later}
use Rattle.agree_places.specs.Stated.{Head}
use Rattle.agree_places.proofs.Quiet.{either_side, every_at}

-- ---- items inside of units have low codes, and the bounds of a body are above what begins a unit
body_apart : (cs : List ℕ) (b : Body) (k x : ℕ) → AllKnown (code_body b) → At cs k (code_body b) → k ≤ x → x < k + length (code_body b) → c_proctype ≤ get_or cs x 0 → get_or cs x 0 ≤ c_init → ⊥
body_apart cs (body ds q) k x a h g d l m =
    let D = each (code_declaration i_local) ds in
    let B = i_body ∷ D ++ code_tree q in
    let n = length-append B (i_end_body ∷ []) in
    either_side x (k + 1) (λ v. let c : get_or cs x 0 ≡ c_body = ap (λ i. get_or cs i 0) (let w : x ≡ k = omega arith in w) ∙ h.0 in omega arith)
    (λ v. either_side x (k + length B)
    (λ w.
    let r = every_at InUnit cs (D ++ code_tree q) (suc k) x (inner-append D (code_tree q) (inner-declarations ds) (inner_tree q)) (known-front B (i_end_body ∷ []) a).1 (at_front cs k B (i_end_body ∷ []) h).1
    (omega arith) (omega arith) in
    omega arith)
    (λ w. let c : get_or cs x 0 ≡ c_end_body = ap (λ i. get_or cs i 0) (let u : x ≡ k + length B = omega arith in u) ∙ (at_back cs B (i_end_body ∷ []) k (k + length B) refl h).0 in omega arith))

-- ---- what begins a unit
module _ (cs : List ℕ) where
  not-head : (j u c : ℕ) → get_or cs j 0 ≡ c → c < c_proctype → c_proctype ≤ get_or cs u 0 → u ≡ j → ⊥
  not-head j u c h b l z = let e : get_or cs u 0 ≡ c = ap (λ n. get_or cs n 0) z ∙ h in omega arith

  -- it is the last item of its activity and name
  activity_head : (x : Activity) (w : Name) (i u : ℕ) → At cs i (code_activity x w) → i ≤ u → u < i + length (code_activity x w) → c_proctype ≤ get_or cs u 0 → suc u ≡ i + size_activity x
  activity_head idle w i u h g d l = either_side u (i + 1) (λ v. absurd (not-head i u c_name h.0 (omega arith) l (omega arith))) (λ v. omega arith)
  activity_head once w i u h g d l = either_side u (i + 1) (λ v. absurd (not-head i u c_name h.0 (omega arith) l (omega arith))) (λ v. omega arith)
  activity_head (times n) w i u h g d l =
      either_side u (i + 1) (λ v. absurd (not-head i u c_number h.0 (omega arith) l (omega arith)))
      (λ v. either_side u (i + 2) (λ z. absurd (not-head (suc i) u c_name h.1.0 (omega arith) l (omega arith))) (λ z. omega arith))

  part-head : (x : Part) (m : Model) (i u : ℕ) → AllKnown (code_part x) → At cs i (code_part x) → i ≤ u → u < i + length (code_part x) → c_proctype ≤ get_or cs u 0 → get_or cs u 0 ≤ c_init → Head (x ∷ m) i u
  part-head (mtypes ws) m i u a h g d l n = absurd (let r = every_at InUnit cs (code_part (mtypes ws)) i u (inner_mtypes ws) a h g d in omega arith)
  part-head (global e) m i u a h g d l n = absurd (let r = every_at InUnit cs (code_part (global e)) i u (inner-global e) a h g d in omega arith)
  part-head (init b) m i u a h g d l n =
      either_side u (i + 1) (λ v. subst (Head (init b ∷ m) i) (let z : i ≡ u = omega arith in z) record { own = b; at = i + 1; held = in_init refl })
      (λ v. absurd (body_apart cs b (suc i) u a.1 h.1 (omega arith) (omega arith) l n))
  part-head (process x w gs b) m i u a h g d l n =
      let A = code_activity x w in
      let G = each code_group gs in
      let n1 = length-append (A ++ G) (code_body b) in
      let n2 = length-append A G in
      let heads = at_front cs i (A ++ G) (code_body b) h in
      either_side u (i + length A) (λ v. record { own = b; at = suc u + sum size_group gs; held = in_process (activity_head x w i u (at_front cs i A G heads) g v l) refl })
      (λ v. either_side u (i + length A + length G)
      (λ y. absurd (let r = every_at InUnit cs G (i + length A) u (inner_groups gs) (known-back A G (known-front (A ++ G) (code_body b) a)) (at_back cs A G i (i + length A) refl heads) v y in omega arith))
      (λ y. absurd (body_apart cs b (i + length A + length G) u (known-back (A ++ G) (code_body b) a) (at_back cs (A ++ G) (code_body b) i (i + length A + length G) (omega arith) h) y (omega arith) l n)))

  pub head_in : (m : Model) (i u : ℕ) → AllKnown (code m) → At cs i (code m) → i ≤ u → u < i + length (code m) → c_proctype ≤ get_or cs u 0 → get_or cs u 0 ≤ c_init → Head m i u
  head_in [] i u a h g d l n = absurd (omega arith)
  head_in (x ∷ m) i u a h g d l n =
      let e = size-part x in
      let f = length-append (code_part x) (code m) in
      either_side u (i + size_part x) (λ v. part-head x m i u (known-front (code_part x) (code m) a) (at_front cs i (code_part x) (code m) h) g (omega arith) l n)
      (λ v. let r = head_in m (i + size_part x) u (known-back (code_part x) (code m) a) (at_back cs (code_part x) (code m) i (i + size_part x) (omega arith) h) v (omega arith) l n in
      record { own = r.own; at = r.at; held = later r.held })
