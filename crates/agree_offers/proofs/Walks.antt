-- WHERE TABLES TELL A TREE (specs/Told.antt), the walk over them finds the steps that the tree offers, if it is let go deep enough.
use Prim.Native.Nat.{ℕ, zero, suc, ◌+◌, ◌≤◌, ◌<◌, min, max}
use native.Mathlib.Omega.{arith}
use mathlib.Core.Path.{◌≡◌, refl, ap, ap₂, ◌∙◌}
use mathlib.Core.Bool.{Bool, true, false}
use mathlib.Core.List.{List, [], ◌∷◌, ◌++◌}
use lib.IntN.{ℤ}
use borrow.Author.Tests.{lt-ltb, le-ltb, eq-eqb, ne_eqb}
use Rattle.base_ceilings.specs.Ceilings.{statements_most}
use Rattle.base_codes.specs.Codes.{c_do, c_else, c_if, c_option}
use Rattle.base_bytes.specs.Choice.{pick}
use Rattle.table_layout.specs.Access.{code_of, link_of}
use Rattle.spec_grammar.specs.Tree.{Sort, action, statement, sequence, options, Tree, leaf, select, loop, bare, labelled, end, then, over, option}
use Rattle.step_ready.specs.Executing.{ready_of}
use Rattle.step_offers.specs.Offers.{is_selection, end_of, first_of, each_option, else_at, offers_from}
use Rattle.base_bytes.specs.Lists.{or_else}
use Rattle.agree_offers.proofs.Lists.{list_plain, list_selection}
use Rattle.spec_machine.specs.Sizes.{size_in}
use Rattle.spec_machine.specs.Program.{place_in, enter}
use Rattle.spec_machine.specs.Offers.{else_of, offers}
use Rattle.agree_nesting.specs.Full.{Starts}
use Rattle.agree_offers.specs.Depth.{depth, options_in}
use Rattle.agree_offers.specs.Told.{Told}

module _ (t : List ℕ) where
  -- ---- one option, and none
  each_option_lem : (g : ℕ → ℕ → List ℕ) (n i a stop : ℕ) → code_of t i ≡ c_option → link_of t i ≡ i + 1 + a → i + 1 + a < stop
      → each_option t g (suc n) i stop ≡ g (first_of t i) (i + 1 + a) ++ each_option t g n (i + 2 + a) stop
  unfolding each_option
  each_option_lem g n i a stop e l h =
      let z : end_of t i stop ≡ i + 1 + a = omega arith in
      let w : i + 1 + a + 1 ≡ i + 2 + a = omega arith in
      rw (lt-ltb i stop (omega arith), eq-eqb (code_of t i) c_option e)
      (ap₂ (λ (k m : ℕ). g (first_of t i) k ++ each_option t g n m stop) z (ap (◌+ 1) z ∙ w))

  each_over : (g : ℕ → ℕ → List ℕ) (n i stop : ℕ) → stop ≡ i → each_option t g n i stop ≡ []
  unfolding each_option
  each_over g zero i stop e = refl
  each_over g (suc n) i stop e = rw (le-ltb i stop (omega arith))

  -- ---- `else`
  abbrev ElseOf : (k : Sort) → Tree k → ℕ → Type 0
  ElseOf action x i = (stop : ℕ) → else_at t i stop ≡ else_of x i
  ElseOf statement x i = (stop : ℕ) → else_at t (place_in x i) stop ≡ else_of x i
  ElseOf sequence q i = Starts q → (stop : ℕ) → else_at t (enter q i 0) stop ≡ else_of q i
  ElseOf options os i = (n stop : ℕ) → options_in os ≤ n → stop ≡ i + size_in os → each_option t (else_at t) n i stop ≡ else_of os i

  selection_else : (i stop c : ℕ) → code_of t i ≡ c → (c ≡ c_else → ⊥) → else_at t i stop ≡ []
  selection_else i stop c e h = rw (e, ne_eqb c c_else h)

  walk_else : {k : Sort} (x : Tree k) (i : ℕ) → Told t x i → ElseOf k x i
  walk_else (leaf l) i c = λ stop. ap (λ b. pick b (i ∷ []) []) c.1
  walk_else (select os) i c = λ stop. selection_else i stop c_if c.0 (λ z. omega arith)
  walk_else (loop os) i c = λ stop. selection_else i stop c_do c.0 (λ z. omega arith)
  walk_else (bare a) i c = λ stop. walk_else a i c stop
  walk_else (labelled w a) i c = λ stop. walk_else a (i + 2) c stop
  walk_else end i c = λ h. absurd h
  walk_else (then s q) i c = λ h stop. walk_else s i c.0 stop
  walk_else over i c = λ n stop h e. each_over (else_at t) n i stop (omega arith)
  walk_else (option q os) i c = λ n stop h e. go n stop h e (walk_else q (i + 1) c.4 c.2) (walk_else os (i + 2 + size_in q) c.5)
    where
      go : (n stop : ℕ) → suc (options_in os) ≤ n → stop ≡ i + size_in (option q os)
          → ((stop : ℕ) → else_at t (enter q (i + 1) 0) stop ≡ else_of q (i + 1)) → ElseOf options os (i + 2 + size_in q)
          → each_option t (else_at t) n i stop ≡ else_of q (i + 1) ++ else_of os (i + 2 + size_in q)
      go zero stop h e f g = absurd (omega arith)
      go (suc n) stop h e f g =
          each_option_lem (else_at t) n i (size_in q) stop c.0 c.1 (omega arith)
          ∙ ap₂ ◌++◌ (ap (λ m. else_at t m (i + 1 + size_in q)) c.3 ∙ f (i + 1 + size_in q)) (g n stop (omega arith) (omega arith))

  -- ---- steps, where a statement that is no selection offers itself if it is executable
  module _ (s : List ℤ) (p : ℕ) (late : Bool) where
    abbrev pub able : Tree action → ℕ → Bool
    able y i = ready_of t s p late i

    abbrev Offered : (k : Sort) → Tree k → ℕ → Type 0
    Offered action x i = (d stop : ℕ) → depth x < d → i + size_in x ≤ stop → offers_from t s p late d i stop ≡ offers able x i
    Offered statement x i = (d stop : ℕ) → depth x < d → i + size_in x ≤ stop → offers_from t s p late d (place_in x i) stop ≡ offers able x i
    Offered sequence q i = Starts q → (d stop : ℕ) → depth q < d → i + size_in q ≤ stop → offers_from t s p late d (enter q i 0) stop ≡ offers able q i
    Offered options os i =
        (d n stop : ℕ) → depth os < d → options_in os ≤ n → stop ≡ i + size_in os → each_option t (λ f e. offers_from t s p late d f e) n i stop ≡ offers able os i

    alone : (d i stop : ℕ) → 0 < d → is_selection t i ≡ false → offers_from t s p late d i stop ≡ pick (ready_of t s p late i) (i ∷ []) []
    alone zero i stop h e = absurd (omega arith)
    alone (suc d) i stop h e = list_plain t s p late d i stop e

    -- a selection, by its options
    selected : (os : Tree options) (i : ℕ) → is_selection t i ≡ true → link_of t i ≡ i + 1 + size_in os → options_in os ≤ statements_most → Told t os (i + 1) → Offered options os (i + 1)
        → (d stop : ℕ) → suc (depth os) < d → i + (size_in os + 2) ≤ stop → offers_from t s p late d i stop ≡ or_else (offers able os (i + 1)) (else_of os (i + 1))
    selected os i e l m c f zero stop h g = absurd (omega arith)
    selected os i e l m c f (suc d) stop h g =
        let z : min (link_of t i) stop ≡ i + 1 + size_in os = omega arith in
        list_selection t s p late d i stop e
        ∙ ap (λ k. or_else (each_option t (λ f e. offers_from t s p late d f e) statements_most (i + 1) k) (each_option t (else_at t) statements_most (i + 1) k)) z
        ∙ ap₂ or_else (f d statements_most (i + 1 + size_in os) (omega arith) m refl) (walk_else os (i + 1) c statements_most (i + 1 + size_in os) m refl)

    is_if : (i : ℕ) → code_of t i ≡ c_if → is_selection t i ≡ true
    is_if i e = rw e

    is_do : (i : ℕ) → code_of t i ≡ c_do → is_selection t i ≡ true
    is_do i e = rw e

    walk : {k : Sort} (x : Tree k) (i : ℕ) → Told t x i → Offered k x i
    unfolding offers
    walk (leaf l) i c = λ d stop h g. alone d i stop h c.0
    walk (select os) i c = λ d stop h g. selected os i (is_if i c.0) c.1 c.2 c.3 (walk os (i + 1) c.3) d stop h g
    walk (loop os) i c = λ d stop h g. selected os i (is_do i c.0) c.1 c.2 c.3 (walk os (i + 1) c.3) d stop h g
    walk (bare a) i c = λ d stop h g. walk a i c d stop h g
    walk (labelled w a) i c = λ d stop h g. walk a (i + 2) c d stop h (omega arith)
    walk end i c = λ h. absurd h
    walk (then x q) i c = λ h d stop g k. walk x i c.0 d stop (omega arith) (omega arith)
    walk over i c = λ d n stop h m e. each_over (λ f e. offers_from t s p late d f e) n i stop (omega arith)
    walk (option q os) i c = λ d n stop h m e. go d n stop h m e (walk q (i + 1) c.4 c.2) (walk os (i + 2 + size_in q) c.5)
      where
        go : (d n stop : ℕ) → max (depth q) (depth os) < d → suc (options_in os) ≤ n → stop ≡ i + size_in (option q os)
            → ((d stop : ℕ) → depth q < d → i + 1 + size_in q ≤ stop → offers_from t s p late d (enter q (i + 1) 0) stop ≡ offers able q (i + 1)) → Offered options os (i + 2 + size_in q)
            → each_option t (λ f e. offers_from t s p late d f e) n i stop ≡ offers able q (i + 1) ++ offers able os (i + 2 + size_in q)
        go d zero stop h m e f g = absurd (omega arith)
        go d (suc n) stop h m e f g =
            each_option_lem (λ f e. offers_from t s p late d f e) n i (size_in q) stop c.0 c.1 (omega arith)
            ∙ ap₂ ◌++◌ (ap (λ j. offers_from t s p late d j (i + 1 + size_in q)) c.3 ∙ f d (i + 1 + size_in q) (omega arith) (omega arith))
            (g d n stop (omega arith) (omega arith) (omega arith))

    -- the statement x at item i
    pub walked : (x : Tree action) (i d stop : ℕ) → Told t x i → depth x < d → i + size_in x ≤ stop → offers_from t s p late d i stop ≡ offers able x i
    walked x i d stop c h g = walk x i c d stop h g
