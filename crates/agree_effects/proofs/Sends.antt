-- MESSAGES OVER TABLES, each against the tree's stage: what a send and a receive do. Here nothing is known of a text: that the statement stands so in the tables is taken.
use Prim.Native.Nat.{ℕ, zero, suc, ◌+◌, ◌-◌, ◌≤◌, ◌<◌}
use native.Mathlib.Omega.{arith}
use mathlib.Core.Path.{◌≡◌, refl, sym, ap, ap₂, subst, ◌∙◌}
use mathlib.Core.List.{List, [], ◌∷◌}
use lib.ListN.{length, get_or, replicate}
use lib.IntN.{ℤ, pos}
use Rattle.base_ceilings.specs.Ceilings.{fields_most, numbers_most}
use Rattle.table_layout.specs.Access.{link_of}
use Rattle.state_layout.specs.Layout.{waiting_of, field_of}
use Rattle.base_bytes.specs.Numbers.{nat}
use Rattle.spec_grammar.specs.Tree.{Name, Ref, Expr, Received}
use Rattle.step_eval.specs.Expressions.{locate_of}
use Rattle.step_ready.specs.Channels.{tried_of, found_of}
use Rattle.step_messages.specs.Messages.{gather_end, gather_list, aim_list, put_in, taken_out, delivered}
use Rattle.base_outcome.specs.declared.Taken.TheVariants.{Done, Idle}
use Rattle.step_statements.specs.Statements.{fault, moved, on_end, on_channel, on_found, blank, fetched, sent, received_from, received}
use Rattle.agree_stage.specs.Scenes.{scene_of, locate}
use Rattle.spec_machine.specs.Stage.{Stage}
use Rattle.spec_machine.specs.Messages.{Finding, found, none, spoilt}
use Rattle.agree_stage.specs.Tables.{stage_in}
use Rattle.spec_machine.specs.Arguments.{WorkedOut, all, stopped, values, Reach, channel, astray, reach, finding, Aims, hits, missed, targets}
use Rattle.spec_machine.specs.Effect.{sent_to, sent_by, received_at, received_if, received_by}
use Rattle.agree_effects.specs.Walked.{Passed, Got}
use Rattle.agree_effects.proofs.Gathers.{fill, end_by, fill-blank, count_is, gather_ends}
use Rattle.agree_effects.proofs.Receives.{end_aims, as_found, Sure, aimed, targets-count, got_count, found_is, spots, aim-ends, aim_fills, delivered_is}
use Rattle.agree_effects.proofs.Channels.{record_of, Arrived, message_is, reach_few}
use Rattle.agree_effects.proofs.Values.{put-alike, gathered-alike}

-- the fields of message w, each at its place
fetched_at : (s : List ℤ) (c w i : ℕ) → i < fields_most → get_or (fetched s c w (replicate fields_most (pos 0))) i (pos 0) ≡ field_of s c w i
fetched_at s c w zero h = refl
fetched_at s c w (suc zero) h = refl
fetched_at s c w (suc (suc zero)) h = refl
fetched_at s c w (suc (suc (suc zero))) h = refl
fetched_at s c w (suc (suc (suc (suc i)))) h = absurd (omega arith)

module _ (t : List ℕ) (decl : Name → ℕ) (s : List ℤ) (p : ℕ) (unit : Name → ℕ) where
  abbrev c : Stage (List ℤ)
  c = stage_in t s p decl unit

  -- ---- sends; z is the last item, which links to n
  sent_to_lem : (es : List Expr) (b z n : ℕ) → Passed t decl es b z → length es ≤ numbers_most → link_of t z ≡ n → (v : ℤ)
      → on_end (gather_end t s p numbers_most b) (λ e. (Done, moved p (link_of t e) (put_in t (nat v - 1) (waiting_of s (nat v - 1)) (gather_list t s p numbers_most b 0 blank) s))) (fault s)
      ≡ sent_to (stage_in t s p decl unit) n s v (values (scene_of t s p decl) es)
  sent_to_lem es b z n r few l v =
      ap (λ y. on_end y (λ e. (Done, moved p (link_of t e) (put_in t (nat v - 1) (waiting_of s (nat v - 1)) (gather_list t s p numbers_most b 0 blank) s))) (fault s)) (gather_ends t decl s p r numbers_most few)
      ∙ go (values c.scene es) refl
    where
      go : (y : WorkedOut) → values (scene_of t s p decl) es ≡ y
          → on_end (end_by z y) (λ e. (Done, moved p (link_of t e) (put_in t (nat v - 1) (waiting_of s (nat v - 1)) (gather_list t s p numbers_most b 0 blank) s))) (fault s) ≡ sent_to (stage_in t s p decl unit) n s v y
      go (all vs) e = ap₂ (λ k x. (Done, moved p k x)) l (put-alike t (nat v - 1) (waiting_of s (nat v - 1)) (gather_list t s p numbers_most b 0 blank) vs s (gathered-alike t decl s p r few vs e))
      go (stopped f) e = refl

  pub sent_is : (r : Ref) (es : List Expr) (q m z n : ℕ) → locate_of t s p q m ≡ locate t s p decl r → Passed t decl es (m + 1) z → link_of t z ≡ n
      → sent t p q m s ≡ sent_by (stage_in t s p decl unit) n s (values (scene_of t s p decl) es) (reach (stage_in t s p decl unit) r (length es))
  unfolding sent
  sent_is r es q m z n f k l =
      ap (λ y. on_channel y (λ d. on_end (gather_end t s p numbers_most (m + 1)) (λ e. (Done, moved p (link_of t e) (put_in t d (waiting_of s d) (gather_list t s p numbers_most (m + 1) 0 blank) s))) (fault s)) (fault s))
      (message_is t decl s p unit r q m (length es) f (count_is t decl k (fields_most + 1))) ∙ go (reach c r (length es)) refl
    where
      go : (y : Reach) → reach (stage_in t s p decl unit) r (length es) ≡ y
          → on_channel (record_of y) (λ d. on_end (gather_end t s p numbers_most (m + 1)) (λ e. (Done, moved p (link_of t e) (put_in t d (waiting_of s d) (gather_list t s p numbers_most (m + 1) 0 blank) s))) (fault s)) (fault s)
          ≡ sent_by (stage_in t s p decl unit) n s (values (scene_of t s p decl) es) y
      go (channel v) e = sent_to_lem es (m + 1) z n k (let h = reach_few t decl s p unit r (length es) (subst Arrived (sym e) tt) in omega arith) l v
      go (astray g) e = refl

  -- ---- receives
  spots_most : (xs : List Received) (ks : List ℕ) → length (spots t decl p xs ks) ≤ length xs
  spots_most [] ks = omega arith
  spots_most (x ∷ xs) [] = omega arith
  spots_most (x ∷ xs) (k ∷ ks) = let h = spots_most xs ks in omega arith

  received_at_lem : (ys : List Received) (b z n : ℕ) → Got t decl ys b z → length ys ≤ fields_most → link_of t z ≡ n → (v : ℤ) (w : ℕ)
      → received_from t p b (nat v - 1) w s ≡ received_at (stage_in t s p decl unit) n s v w ys (targets (stage_in t s p decl unit) ys)
  unfolding received_from
  received_at_lem ys b z n g few l v w =
      ap (λ y. on_end y (λ e. (Done, moved p (link_of t e) (delivered t fields_most b 0 (aim_list t s p fields_most b 0 (replicate fields_most 0)) (fetched s (nat v - 1) w (replicate fields_most (pos 0))) (taken_out (nat v - 1) w s))))
      (fault s))
      (aim-ends t decl s p unit g fields_most few) ∙ go (targets c ys) refl
    where
      go : (y : Aims) → targets (stage_in t s p decl unit) ys ≡ y
          → on_end (end_aims z y) (λ e. (
            Done,
            moved p (link_of t e) (delivered t fields_most b 0 (aim_list t s p fields_most b 0 (replicate fields_most 0)) (fetched s (nat v - 1) w (replicate fields_most (pos 0)))
                (taken_out (nat v - 1) w s)),
          )) (fault s)
          ≡ received_at (stage_in t s p decl unit) n s v w ys y
      go (hits ks) e =
          let sure : Sure (targets (stage_in t s p decl unit) ys) = subst Sure (sym e) tt in
          let d : aimed (targets (stage_in t s p decl unit) ys) ≡ ks = ap aimed e in
          ap₂ (λ k x. (Done, moved p k x)) l
          (delivered_is t decl s p unit g fields_most few (c.message v w) 0 (aim_list t s p fields_most b 0 (replicate fields_most 0)) (fetched s (nat v - 1) w (replicate fields_most (pos 0))) ks (ap length (sym d) ∙ targets-count c ys sure)
          (λ i h. let y : 0 + i ≡ i = omega arith in
          ap (λ (x : List ℕ). get_or x (0 + i) 0) (aim_fills t decl s p unit g fields_most few 0 (replicate fields_most 0) sure ∙ ap (λ x. fill (replicate fields_most 0) 0 (spots t decl p ys x)) d)
          ∙ ap (λ k. get_or (fill (replicate fields_most 0) 0 (spots t decl p ys ks)) k 0) y ∙ fill-blank 0 fields_most (spots t decl p ys ks) (let u = spots_most ys ks in omega arith) i)
          (λ i h. let y : 0 + i ≡ i = omega arith in
          ap (λ k. get_or (fetched s (nat v - 1) w (replicate fields_most (pos 0))) k (pos 0)) y ∙ fetched_at s (nat v - 1) w i (omega arith) ∙ ap (λ k. field_of s (nat v - 1) w k) (sym y))
          (taken_out (nat v - 1) w s))
      go (missed f) e = refl

  pub received_is : (r : Ref) (ys : List Received) (q m z n : ℕ) → locate_of t s p q m ≡ locate t s p decl r → Got t decl ys (m + 1) z → link_of t z ≡ n
      → received t p q m s ≡ received_by (stage_in t s p decl unit) n s ys (reach (stage_in t s p decl unit) r (length ys))
  unfolding received
  received_is r ys q m z n f g l =
      ap (λ y. on_channel y (λ d. on_found (found_of t s p d (m + 1)) (λ w. received_from t p (m + 1) d w s) (Idle, s) (fault s)) (fault s))
      (message_is t decl s p unit r q m (length ys) f (got_count t decl g (fields_most + 1)))
      ∙ go (reach c r (length ys)) refl
    where
      go : (y : Reach) → reach (stage_in t s p decl unit) r (length ys) ≡ y
          → on_channel (record_of y) (λ d. on_found (found_of t s p d (m + 1)) (λ w. received_from t p (m + 1) d w s) (Idle, s) (fault s)) (fault s) ≡ received_by (stage_in t s p decl unit) n s ys y
      go (channel v) e =
          let h = reach_few t decl s p unit r (length ys) (subst Arrived (sym e) tt) in
          ap (λ y. on_found y (λ w. received_from t p (m + 1) (nat v - 1) w s) (Idle, s) (fault s)) (found_is t decl s p unit g h v (tried_of s (nat v - 1)) 0)
          ∙ on (finding c v ys) (received_at_lem ys (m + 1) z n g h l v)
        where
          on : (y : Finding) → ((w : ℕ) → received_from t p (m + 1) (nat v - 1) w s ≡ received_at (stage_in t s p decl unit) n s v w ys (targets (stage_in t s p decl unit) ys))
              → on_found (as_found y) (λ w. received_from t p (m + 1) (nat v - 1) w s) (Idle, s) (fault s) ≡ received_if (stage_in t s p decl unit) n s v ys y
          on (found w) k = k w
          on none k = refl
          on (spoilt x) k = refl
      go (astray x) e = refl
