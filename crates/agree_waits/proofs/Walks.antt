-- WHERE TABLES TELL A TREE (specs/Told.antt of `agree_offers`), the walk over them finds a `run` without room where the tree has one among its first statements, and the first that it finds is shown as the tree's first.
use Prim.Native.Nat.{ℕ, zero, suc, ◌+◌, ◌≤◌, ◌<◌, min, max}
use native.Mathlib.Omega.{arith}
use mathlib.Core.Path.{◌≡◌, refl, sym as inv, ap, ap₂, subst, ◌∙◌}
use mathlib.Core.Bool.{Bool, true, false}
use mathlib.Core.List.{List, [], ◌∷◌, ◌++◌}
use lib.IntN.{ℤ}
use borrow.Author.Tests.{lt-ltb, le-ltb, eq-eqb}
use Rattle.base_ceilings.specs.Ceilings.{statements_most}
use Rattle.base_codes.specs.Codes.{c_do, c_end_body, c_if, c_option}
use Rattle.base_codes.specs.Sets.{is_alone}
use Rattle.base_bytes.specs.Choice.{pick}
use Rattle.spec_grammar.specs.Tree.{Name, Sort, action, statement, sequence, options, Tree, Leaf, leaf, select, loop, bare, labelled, end, then, over, option}
use Rattle.spec_machine.specs.Sizes.{size_in}
use Rattle.spec_machine.specs.Program.{place_in, enter, Within, itself, in_if, in_do, unlabelled, behind_label, in_first, in_option, in_others}
use Rattle.spec_account.specs.Bytes.{each_visible}
use Rattle.spec_account.specs.Statements.{statement_text}
use Rattle.spec_account.specs.Waits.{stuck_leaf, stuck_in}
use Rattle.table_layout.specs.Access.{code_of, link_of}
use Rattle.step_ready.specs.Executing.{is_own_mark, mark_of}
use Rattle.step_offers.specs.Offers.{is_selection, end_of, first_of, each_option}
use Rattle.agree_nesting.specs.Full.{Starts}
use Rattle.agree_offers.specs.Depth.{depth, options_in}
use Rattle.agree_offers.specs.Told.{Told}
use Rattle.show_statement.specs.Statements.{seen_in}
use Rattle.show_waits.specs.Waits.{is_stuck, stuck_from}

module _ (t : List ℕ) where
  -- no place and no statement, or the first place is shown as the first statement; no other is ever told
  abbrev pub Paired : List ℕ → List (Tree action) → Type 0
  Paired [] [] = Unit {0}
  Paired [] (a ∷ l) = ⊥
  Paired (q ∷ qs) [] = ⊥
  Paired (q ∷ qs) (a ∷ l) = seen_in t q ≡ each_visible (statement_text a)

  joined : (x : List ℕ) (u : List (Tree action)) (y : List ℕ) (v : List (Tree action)) → Paired x u → Paired y v → Paired (x ++ y) (u ++ v)
  joined [] [] y v h g = g
  joined [] (a ∷ u) y v h g = absurd h
  joined (q ∷ x) [] y v h g = absurd h
  joined (q ∷ x) (a ∷ u) y v h g = h

  -- ---- one option, and none
  each_option_lem : (g : ℕ → ℕ → List ℕ) (n i a stop : ℕ) → code_of t i ≡ c_option → link_of t i ≡ i + 1 + a → i + 1 + a < stop
      → each_option t g (suc n) i stop ≡ g (first_of t i) (i + 1 + a) ++ each_option t g n (i + 2 + a) stop
  unfolding each_option
  each_option_lem g n i a stop e l h =
      let z : end_of t i stop ≡ i + 1 + a = omega arith in
      let w : i + 1 + a + 1 ≡ i + 2 + a = omega arith in
      rw (lt-ltb i stop (omega arith), eq-eqb (code_of t i) c_option e)
      (ap₂ (λ (k m : ℕ). g (first_of t i) k ++ each_option t g n m stop) z (ap (◌+ 1) z ∙ w))

  each_over : (g : ℕ → ℕ → List ℕ) (n i stop : ℕ) → stop ≡ i → each_option t g n i stop ≡ []
  unfolding each_option
  each_over g zero i stop e = refl
  each_over g (suc n) i stop e = rw (le-ltb i stop (omega arith))

  is_if : (i : ℕ) → code_of t i ≡ c_if → is_selection t i ≡ true
  is_if i e = rw e

  is_do : (i : ℕ) → code_of t i ≡ c_do → is_selection t i ≡ true
  is_do i e = rw e

  module _ (s : List ℤ) where
    -- ---- one turn of the walk: no selection, a selection, the end of a body
    module _ (d q stop : ℕ) where
      stuck_plain : is_selection t q ≡ false → stuck_from t s (suc d) q stop ≡ pick (is_stuck t s q) (q ∷ []) []
      unfolding stuck_from
      stuck_plain e = rw e

      stuck_selection : is_selection t q ≡ true → stuck_from t s (suc d) q stop ≡ each_option t (λ f e. stuck_from t s d f e) statements_most (q + 1) (min (link_of t q) stop)
      unfolding stuck_from
      stuck_selection e = rw e

    end_unstuck : (q : ℕ) → code_of t q ≡ c_end_body → is_stuck t s q ≡ false
    unfolding is_stuck mark_of is_own_mark is_alone
    end_unstuck q e = rw (e, e)

    pub stuck_end : (d q stop : ℕ) → code_of t q ≡ c_end_body → stuck_from t s d q stop ≡ []
    unfolding stuck_from
    stuck_end zero q stop e = refl
    stuck_end (suc d) q stop e = rw (e, end_unstuck q e)

    module _ (room : Name → Bool) where
      -- what stands at place i is such a `run` exactly where the tree's statement is
      abbrev pub One : Leaf → ℕ → Type 0
      One l i = Paired (pick (is_stuck t s i) (i ∷ []) []) (stuck_leaf room l)

      abbrev Each : {k : Sort} → Tree k → ℕ → ℕ → ℕ → Type 0
      Each {k} x i n o = (l : Leaf) (j m u : ℕ) → Within k x i n o (leaf l) j m u → One l j

      abbrev Waits : (k : Sort) → Tree k → ℕ → Type 0
      Waits action x i = (d stop : ℕ) → depth x < d → i + size_in x ≤ stop → Paired (stuck_from t s d i stop) (stuck_in room x)
      Waits statement x i = (d stop : ℕ) → depth x < d → i + size_in x ≤ stop → Paired (stuck_from t s d (place_in x i) stop) (stuck_in room x)
      Waits sequence q i = Starts q → (d stop : ℕ) → depth q < d → i + size_in q ≤ stop → Paired (stuck_from t s d (enter q i 0) stop) (stuck_in room q)
      Waits options os i = (d n stop : ℕ) → depth os < d → options_in os ≤ n → stop ≡ i + size_in os → Paired (each_option t (λ f e. stuck_from t s d f e) n i stop) (stuck_in room os)

      alone : (l : Leaf) (d i stop : ℕ) → 0 < d → is_selection t i ≡ false → One l i → Paired (stuck_from t s d i stop) (stuck_leaf room l)
      alone l zero i stop h e g = absurd (omega arith)
      alone l (suc d) i stop h e g = subst (λ (x : List ℕ). Paired x (stuck_leaf room l)) (inv (stuck_plain d i stop e)) g

      selected : (os : Tree options) (i : ℕ) → is_selection t i ≡ true → link_of t i ≡ i + 1 + size_in os → options_in os ≤ statements_most → Waits options os (i + 1)
          → (d stop : ℕ) → suc (depth os) < d → i + (size_in os + 2) ≤ stop → Paired (stuck_from t s d i stop) (stuck_in room os)
      selected os i e l m f zero stop h g = absurd (omega arith)
      selected os i e l m f (suc d) stop h g =
          let z : min (link_of t i) stop ≡ i + 1 + size_in os = omega arith in
          subst (λ (x : List ℕ). Paired x (stuck_in room os)) (inv (stuck_selection d i stop e ∙ ap (each_option t (λ f e. stuck_from t s d f e) statements_most (i + 1)) z))
          (f d statements_most (i + 1 + size_in os) (omega arith) m refl)

      pub walk : {k : Sort} (x : Tree k) (i n o : ℕ) → Told t x i → Each x i n o → Waits k x i
      unfolding stuck_in
      walk (leaf l) i n o c e = λ d stop h g. alone l d i stop h c.0 (e l i n o itself)
      walk (select os) i n o c e = λ d stop h g. selected os i (is_if i c.0) c.1 c.2 (walk os (i + 1) n o c.3 (λ l j m u w. e l j m u (in_if w))) d stop h g
      walk (loop os) i n o c e = λ d stop h g. selected os i (is_do i c.0) c.1 c.2 (walk os (i + 1) i n c.3 (λ l j m u w. e l j m u (in_do w))) d stop h g
      walk (bare a) i n o c e = λ d stop h g. walk a i n o c (λ l j m u w. e l j m u (unlabelled w)) d stop h g
      walk (labelled v a) i n o c e = λ d stop h g. walk a (i + 2) n o c (λ l j m u w. e l j m u (behind_label w)) d stop h (omega arith)
      walk end i n o c e = λ h. absurd h
      walk (then x q) i n o c e = λ h d stop g k. walk x i (enter q (i + size_in x) n) o c.0 (λ l j m u w. e l j m u (in_first w)) d stop (omega arith) (omega arith)
      walk over i n o c e = λ d k stop h m g. subst (λ (x : List ℕ). Paired x []) (inv (each_over (λ f e. stuck_from t s d f e) k i stop (omega arith))) tt
      walk (option q os) i n o c e = λ d k stop h m g.
          go d k stop h m g (walk q (i + 1) n o c.4 (λ l j m u w. e l j m u (in_option w)) c.2) (walk os (i + 2 + size_in q) n o c.5 (λ l j m u w. e l j m u (in_others w)))
        where
          go : (d k stop : ℕ) → max (depth q) (depth os) < d → suc (options_in os) ≤ k → stop ≡ i + size_in (option q os)
              → ((d stop : ℕ) → depth q < d → i + 1 + size_in q ≤ stop → Paired (stuck_from t s d (enter q (i + 1) 0) stop) (stuck_in room q)) → Waits options os (i + 2 + size_in q)
              → Paired (each_option t (λ f e. stuck_from t s d f e) k i stop) (stuck_in room q ++ stuck_in room os)
          go d zero stop h m e f g = absurd (omega arith)
          go d (suc k) stop h m e f g =
              let R : List ℕ = each_option t (λ f e. stuck_from t s d f e) k (i + 2 + size_in q) stop in
              subst (λ (x : List ℕ). Paired x (stuck_in room q ++ stuck_in room os))
              (inv (each_option_lem (λ f e. stuck_from t s d f e) k i (size_in q) stop c.0 c.1 (omega arith) ∙ ap (λ (j : ℕ). stuck_from t s d j (i + 1 + size_in q) ++ R) c.3))
              (joined (stuck_from t s d (enter q (i + 1) 0) (i + 1 + size_in q)) (stuck_in room q) R (stuck_in room os) (f d (i + 1 + size_in q) (omega arith) (omega arith)) (g d k stop (omega arith) (omega arith) (omega arith)))
