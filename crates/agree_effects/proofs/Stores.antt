-- STATEMENTS OVER TABLES, each against the tree's stage: one by one what an expression, an assertion, `++`, `--`, an assignment, a printf, a run and a `v = run` do. Here nothing is known of
-- a text: that the statement stands so in the tables is taken.
use Rattle.std.specs.Prelude.{Result, Ok, Err}
use Prim.Native.Nat.{ℕ, ◌+◌, ◌-◌, ◌≤◌}
use mathlib.Core.Path.{◌≡◌, refl, ap, ap₂, ◌∙◌}
use mathlib.Core.List.{List}
use lib.ListN.{length, set}
use lib.IntN.{ℤ, pos, ◌+ℤ◌}
use Rattle.base_ceilings.specs.Ceilings.{numbers_most}
use Rattle.base_bytes.specs.Choice.{pick}
use Rattle.table_layout.specs.Access.{link_of}
use Rattle.base_values.specs.Bits.{wrap32}
use Rattle.base_values.specs.Operators.{is_true}
use Rattle.base_values.specs.declared.Fault.{Fault}
use Rattle.base_values.specs.Types.{cast_of}
use Rattle.state_layout.specs.Layout.{kept, cell_of, processes_of}
use Rattle.spec_grammar.specs.Tree.{Name, Ref, Expr}
use Rattle.step_eval.specs.Variables.{type_of, slot_of}
use Rattle.step_eval.specs.Expressions.{eval_of, locate_of}
use Rattle.step_ready.specs.Executing.{fits_of}
use Rattle.step_messages.specs.Messages.{on_value, on_place, gather_end, gather_list}
use Rattle.base_outcome.specs.declared.Taken.TheVariants.{Done, Refuted, Idle}
use Rattle.step_statements.specs.Statements.{fault, moved, on_end, blank, expressed, asserted, stepped, assigned, printed}
use Rattle.step_take.specs.Effects.{called, ran, set_run_at, set_ran}
use Rattle.spec_machine.specs.Eval.{eval}
use Rattle.agree_stage.specs.Scenes.{scene_of, locate}
use Rattle.spec_machine.specs.Stage.{Stage}
use Rattle.agree_stage.specs.Tables.{stage_in}
use Rattle.spec_machine.specs.Arguments.{name_of, Aim, hit, miss, aim, WorkedOut, all, stopped, values}
use Rattle.spec_machine.specs.Effect.{expressed_by, asserted_by, assigned_by, stepped_by, printed_by, ran_by, set_by, set_run_by}
use Rattle.agree_effects.specs.Walked.{Passed}
use Rattle.agree_effects.proofs.Gathers.{end_by, end_is, gather_ends}
use Rattle.agree_effects.proofs.Receives.{placed, locate-aim}
use Rattle.agree_effects.proofs.Values.{called-alike, gathered-alike}

module _ (t : List ℕ) (decl : Name → ℕ) (s : List ℤ) (p : ℕ) (unit : Name → ℕ) where
  abbrev c : Stage (List ℤ)
  c = stage_in t s p decl unit

  -- ---- expressions and assertions; z is the last item, which links to n
  pub expressed_is : (e : Expr) (q z n : ℕ) → eval_of t s p q z ≡ eval (scene_of t s p decl) e → link_of t z ≡ n
      → expressed t p q z s ≡ expressed_by (stage_in t s p decl unit) n s (eval (scene_of t s p decl) e)
  unfolding expressed
  expressed_is e q z n w l = ap₂ (λ y k. on_value y (λ v. (Done, moved p k s)) (fault s)) w l ∙ go (eval c.scene e)
    where
      go : (y : Result ℤ Fault) → on_value y (λ v. (Done, moved p n s)) (fault s) ≡ expressed_by (stage_in t s p decl unit) n s y
      go (Ok v) = refl
      go (Err f) = refl

  pub asserted_is : (e : Expr) (q z n : ℕ) → eval_of t s p q z ≡ eval (scene_of t s p decl) e → link_of t z ≡ n
      → asserted t p q z s ≡ asserted_by (stage_in t s p decl unit) n s (eval (scene_of t s p decl) e)
  unfolding asserted
  asserted_is e q z n w l = ap₂ (λ y k. on_value y (λ v. pick (is_true v) (Done, moved p k s) (Refuted, s)) (fault s)) w l ∙ go (eval c.scene e)
    where
      go : (y : Result ℤ Fault) → on_value y (λ v. pick (is_true v) (Done, moved p n s) (Refuted, s)) (fault s) ≡ asserted_by (stage_in t s p decl unit) n s y
      go (Ok v) = refl
      go (Err f) = refl

  -- ---- stores: the reference r stands from q to before m, and links to its declaration
  module _ (r : Ref) (q m : ℕ) (found : locate_of t s p q m ≡ locate t s p decl r) (declared : link_of t (m - 1) ≡ decl (name_of r)) where
    abbrev w : Name
    w = name_of r

    -- what is done where it stands
    placed_is : {A : Type 0} (g : ℕ → ℕ → A) (h : Fault → A)
        → on_place (locate_of t s p q m) (λ i. g i (link_of t (link_of t (m - 1)))) h ≡ on_place (placed t decl p (name_of r) (aim (scene_of t s p decl) r)) (λ i. g i (link_of t (decl (name_of r)))) h
    placed_is g h = ap₂ (λ y d. on_place y (λ i. g i (link_of t d)) h) (found ∙ locate-aim t decl s p r) declared

    pub stepped_is : (d : ℤ) (n : ℕ) → link_of t m ≡ n → stepped t p d q m s ≡ stepped_by (stage_in t s p decl unit) n s (name_of r) d (aim (scene_of t s p decl) r)
    unfolding stepped
    stepped_is d n l =
        placed_is (λ i k. (Done, moved p (link_of t m) (set s i (cast_of (type_of k) (wrap32 (cell_of s i +ℤ d)))))) (fault s)
        ∙ ap (λ k. on_place (placed t decl p w (aim c.scene r)) (λ i. (Done, moved p k (set s i (cast_of (type_of (link_of t (decl w))) (wrap32 (cell_of s i +ℤ d)))))) (fault s)) l
        ∙ go (aim c.scene r)
      where
        go : (y : Aim) → on_place (placed t decl p (name_of r) y) (λ i. (Done, moved p n (set s i (cast_of (type_of (link_of t (decl (name_of r)))) (wrap32 (cell_of s i +ℤ d)))))) (fault s)
            ≡ stepped_by (stage_in t s p decl unit) n s (name_of r) d y
        go (hit k) = refl
        go (miss f) = refl

    pub assigned_is : (e : Expr) (z n : ℕ) → eval_of t s p (m + 1) z ≡ eval (scene_of t s p decl) e → link_of t z ≡ n
        → assigned t p q m z s ≡ assigned_by (stage_in t s p decl unit) n s (name_of r) (eval (scene_of t s p decl) e) (aim (scene_of t s p decl) r)
    unfolding assigned
    assigned_is e z n x l =
        placed_is (λ i k. on_value (eval_of t s p (m + 1) z) (λ v. (Done, moved p (link_of t z) (set s i (cast_of (type_of k) v)))) (fault s)) (fault s)
        ∙ ap₂ (λ y k. on_place (placed t decl p w (aim c.scene r)) (λ i. on_value y (λ v. (Done, moved p k (set s i (cast_of (type_of (link_of t (decl w))) v)))) (fault s)) (fault s)) x l
        ∙ go (aim c.scene r) (eval c.scene e)
      where
        go : (y : Aim) (v : Result ℤ Fault)
            → on_place (placed t decl p (name_of r) y) (λ i. on_value v (λ v. (Done, moved p n (set s i (cast_of (type_of (link_of t (decl (name_of r)))) v)))) (fault s)) (fault s)
            ≡ assigned_by (stage_in t s p decl unit) n s (name_of r) v y
        go (hit k) (Ok v) = refl
        go (hit k) (Err f) = refl
        go (miss f) v = refl

  -- ---- arguments: at most 32 expressions from item b on, item z behind them
  module _ (es : List Expr) (b z n : ℕ) (r : Passed t decl es b z) (few : length es ≤ numbers_most) (l : link_of t z ≡ n) where
    -- what is done with where they end
    ended_is : {A : Type 0} (g : ℕ → A) (h : Fault → A) → on_end (gather_end t s p numbers_most b) (λ e. g (link_of t e)) h ≡ on_end (end_by z (values (scene_of t s p decl) es)) (λ e. g (link_of t e)) h
    ended_is g h = ap (λ y. on_end y (λ e. g (link_of t e)) h) (gather_ends t decl s p r numbers_most few)

    printed_by_lem : on_end (gather_end t s p numbers_most b) (λ e. (Done, moved p (link_of t e) s)) (fault s) ≡ printed_by (stage_in t s p decl unit) n s (values (scene_of t s p decl) es)
    printed_by_lem = ended_is (λ k. (Done, moved p k s)) (fault s) ∙ go (values c.scene es)
      where
        go : (y : WorkedOut) → on_end (end_by z y) (λ e. (Done, moved p (link_of t e) s)) (fault s) ≡ printed_by (stage_in t s p decl unit) n s y
        go (all vs) = ap (λ k. (Done, moved p k s)) l
        go (stopped f) = refl

    ran_by_lem : (w : Name) → on_end (gather_end t s p numbers_most b) (λ e. (Done, moved p (link_of t e) (called t (unit w) (gather_list t s p numbers_most b 0 blank) s))) (fault s)
        ≡ ran_by (stage_in t s p decl unit) n s w (values (scene_of t s p decl) es)
    ran_by_lem w = ended_is (λ k. (Done, moved p k (called t (unit w) (gather_list t s p numbers_most b 0 blank) s))) (fault s) ∙ go (values c.scene es) refl
      where
        go : (y : WorkedOut) → values (scene_of t s p decl) es ≡ y
            → on_end (end_by z y) (λ e. (Done, moved p (link_of t e) (called t (unit w) (gather_list t s p numbers_most b 0 blank) s))) (fault s) ≡ ran_by (stage_in t s p decl unit) n s w y
        go (all vs) e = ap₂ (λ k x. (Done, moved p k x)) l (called-alike t (unit w) (gather_list t s p numbers_most b 0 blank) vs s (gathered-alike t decl s p r few vs e))
        go (stopped f) e = refl

    set_by_lem : (w : Name) (x : Name) (k : ℕ) → on_end (gather_end t s p numbers_most b)
        (λ e. (
          Done,
          moved p (link_of t e) (set (called t (unit w) (gather_list t s p numbers_most b 0 blank) s) (slot_of (link_of t (decl x)) p k)
              (cast_of (type_of (link_of t (decl x))) (kept (processes_of s)))),
        )) (fault s)
        ≡ set_by (stage_in t s p decl unit) n s x k w (values (scene_of t s p decl) es)
    set_by_lem w x k =
        ended_is (λ i. (
          Done,
          moved p i (set (called t (unit w) (gather_list t s p numbers_most b 0 blank) s) (slot_of (link_of t (decl x)) p k)
              (cast_of (type_of (link_of t (decl x))) (kept (processes_of s)))),
        )) (fault s)
        ∙ go (values c.scene es) refl
      where
        go : (y : WorkedOut) → values (scene_of t s p decl) es ≡ y
            → on_end (end_by z y) (λ e. (
              Done,
              moved p (link_of t e) (set (called t (unit w) (gather_list t s p numbers_most b 0 blank) s) (slot_of (link_of t (decl x)) p k)
                  (cast_of (type_of (link_of t (decl x))) (kept (processes_of s)))),
            )) (fault s)
            ≡ set_by (stage_in t s p decl unit) n s x k w y
        go (all vs) e =
            ap₂ (λ i y. (Done, moved p i (set y (slot_of (link_of t (decl x)) p k) (cast_of (type_of (link_of t (decl x))) (kept (processes_of s)))))) l
            (called-alike t (unit w) (gather_list t s p numbers_most b 0 blank) vs s (gathered-alike t decl s p r few vs e))
        go (stopped f) e = refl

  pub printed_is : (es : List Expr) (m z n : ℕ) → Passed t decl es (m + 1) z → length es ≤ numbers_most → link_of t z ≡ n
      → printed t p m s ≡ printed_by (stage_in t s p decl unit) n s (values (scene_of t s p decl) es)
  unfolding printed
  printed_is es m z n r few l = printed_by_lem es (m + 1) z n r few l

  pub ran_is : (w : Name) (es : List Expr) (m z n : ℕ) → link_of t m ≡ unit w → Passed t decl es (m + 1) z → length es ≤ numbers_most → link_of t z ≡ n
      → ran t p m s ≡ pick (fits_of t s (unit w)) (ran_by (stage_in t s p decl unit) n s w (values (scene_of t s p decl) es)) (Idle, s)
  unfolding ran
  ran_is w es m z n u r few l =
      ap (λ k. pick (fits_of t s k) (on_end (gather_end t s p numbers_most (m + 1)) (λ e. (Done, moved p (link_of t e) (called t k (gather_list t s p numbers_most (m + 1) 0 blank) s))) (fault s)) (Idle, s)) u
      ∙ ap (λ y. pick (fits_of t s (unit w)) y (Idle, s)) (ran_by_lem es (m + 1) z n r few l w)

  pub set_ran_is : (x : Ref) (w : Name) (es : List Expr) (q m e z n : ℕ) → locate_of t s p q m ≡ locate t s p decl x → link_of t (m - 1) ≡ decl (name_of x) → link_of t e ≡ unit w
      → Passed t decl es (e + 1) z
      → length es ≤ numbers_most → link_of t z ≡ n → set_ran t p q m e s ≡ set_run_by (stage_in t s p decl unit) n s (name_of x) w (values (scene_of t s p decl) es) (aim (scene_of t s p decl) x)
  unfolding set_ran set_run_at
  set_ran_is x w es q m e z n f d u r few l =
      (λ i. on_place ((f ∙ locate-aim t decl s p x) i) (λ k. pick (fits_of t s (u i))
      (on_end (gather_end t s p numbers_most (e + 1)) (λ y. (
        Done,
        moved p (link_of t y) (set (called t (u i) (gather_list t s p numbers_most (e + 1) 0 blank) s) k
            (cast_of (type_of (link_of t (d i))) (kept (processes_of s)))),
      )) (fault s))
      (Done, moved p ((ap (link_of t) (end_is t decl r numbers_most few) ∙ l) i) (set s k (cast_of (type_of (link_of t (d i))) (pos 0))))) (fault s)) ∙ go (aim c.scene x)
    where
      go : (y : Aim) → on_place (placed t decl p (name_of x) y) (λ k. pick (fits_of t s (unit w))
          (on_end (gather_end t s p numbers_most (e + 1)) (λ y. (
            Done,
            moved p (link_of t y) (set (called t (unit w) (gather_list t s p numbers_most (e + 1) 0 blank) s) k
                (cast_of (type_of (link_of t (decl (name_of x)))) (kept (processes_of s)))),
          )) (fault s))
          (Done, moved p n (set s k (cast_of (type_of (link_of t (decl (name_of x)))) (pos 0))))) (fault s)
          ≡ set_run_by (stage_in t s p decl unit) n s (name_of x) w (values (scene_of t s p decl) es) y
      go (hit k) =
          ap (λ y. pick (fits_of t s (unit w)) y (Done, moved p n (set s (slot_of (link_of t (decl (name_of x))) p k) (cast_of (type_of (link_of t (decl (name_of x)))) (pos 0)))))
          (set_by_lem es (e + 1) z n r few l w (name_of x) k)
      go (miss f) = refl
