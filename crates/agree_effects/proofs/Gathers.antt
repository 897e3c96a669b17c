-- THE VALUES OF ARGUMENTS, worked out one after the other over tables, are those of the tree's expressions, or the first fault; where they end is where their `end` stands; the list that
-- they fill has each of them at its place.
use Rattle.std.specs.Prelude.{Result, Ok, Err}
use Prim.Native.Nat.{ℕ, zero, suc, ◌+◌, ◌≤◌, ◌<◌, min}
use native.Mathlib.Omega.{arith}
use native.Mathlib.Decide.{ℕ_discrete}
use mathlib.Core.Path.{◌≡◌, refl, sym, ap, ◌∙◌}
use mathlib.Core.List.{List, [], ◌∷◌}
use lib.ListN.{length, get_or, set, replicate, length-set, length-replicate}
use lib.Seq.{get_or-set_same, get_or-set_other}
use lib.IntN.{ℤ}
use borrow.Author.Tests.{eq-eqb, ne_eqb}
use Rattle.base_codes.specs.Codes.{c_end}
use Rattle.base_values.specs.declared.Fault.{Fault}
use Rattle.table_layout.specs.Access.{code_of}
use Rattle.spec_grammar.specs.Tree.{Name, Expr}
use Rattle.step_eval.specs.Expressions.{eval_of}
use Rattle.step_ready.specs.Channels.{arguments_from}
use Rattle.step_messages.specs.Messages.{on_value, gather_end, gather_list}
use Rattle.step_take.specs.Effects.{end_from}
use Rattle.spec_machine.specs.Eval.{Scene, eval}
use Rattle.agree_stage.specs.Scenes.{scene_of}
use Rattle.spec_machine.specs.Arguments.{WorkedOut, all, stopped, first, values_by, values}
use Rattle.agree_effects.specs.Walked.{Passed, no_more, one_more_lem}

-- ---- a list filled from place k on
abbrev pub fill : {A : Type 0} → List A → ℕ → List A → List A
fill l k [] = l
fill l k (v ∷ vs) = fill (set l k v) (k + 1) vs

fill-before : {A : Type 0} (d : A) (vs : List A) (l : List A) (k i : ℕ) → i < k → get_or (fill l k vs) i d ≡ get_or l i d
fill-before d [] l k i h = refl
fill-before d (v ∷ vs) l k i h = fill-before d vs (set l k v) (k + 1) i (omega arith) ∙ get_or-set_other l k i v d (λ e. omega arith)

fill_at : {A : Type 0} (d : A) (vs : List A) (l : List A) (k i : ℕ) → i < length vs → k + length vs ≤ length l → get_or (fill l k vs) (k + i) d ≡ get_or vs i d
fill_at d [] l k i h g = absurd (omega arith)
fill_at d (v ∷ vs) l k zero h g =
    let z : k + 0 ≡ k = omega arith in
    ap (λ n. get_or (fill (set l k v) (k + 1) vs) n d) z ∙ fill-before d vs (set l k v) (k + 1) k (omega arith) ∙ get_or-set_same l k v d (omega arith)
fill_at d (v ∷ vs) l k (suc i) h g =
    let z : k + suc i ≡ k + 1 + i = omega arith in
    ap (λ n. get_or (fill (set l k v) (k + 1) vs) n d) z ∙ fill_at d vs (set l k v) (k + 1) i (omega arith) (omega (arith, length-set l k v))

fill-behind : {A : Type 0} (d : A) (vs : List A) (l : List A) (k i : ℕ) → k + length vs ≤ i → get_or (fill l k vs) i d ≡ get_or l i d
fill-behind d [] l k i h = refl
fill-behind d (v ∷ vs) l k i h = fill-behind d vs (set l k v) (k + 1) i (omega arith) ∙ get_or-set_other l k i v d (λ e. omega arith)

past_end : {A : Type 0} (d : A) (l : List A) (i : ℕ) → length l ≤ i → get_or l i d ≡ d
past_end d [] zero h = refl
past_end d [] (suc i) h = refl
past_end d (x ∷ l) zero h = absurd (omega arith)
past_end d (x ∷ l) (suc i) h = past_end d l i (omega arith)

same-all : {A : Type 0} (d : A) (n i : ℕ) → get_or (replicate n d) i d ≡ d
same-all d zero zero = refl
same-all d zero (suc i) = refl
same-all d (suc n) zero = refl
same-all d (suc n) (suc i) = same-all d n i

-- in room enough, what was blank before is what the values are, at every place
pub fill-blank : {A : Type 0} (d : A) (n : ℕ) (vs : List A) → length vs ≤ n → (i : ℕ) → get_or (fill (replicate n d) 0 vs) i d ≡ get_or vs i d
fill-blank {A} d n vs h i = go (ℕ_discrete (min i (length vs)) i)
  where
    go : Dec (min i (length vs) ≡ i) → get_or (fill (replicate n d) 0 vs) i d ≡ get_or vs i d
    go (yes e) = by (ℕ_discrete i (length vs))
      where
        by : Dec (i ≡ length vs) → get_or (fill (replicate n d) 0 vs) i d ≡ get_or vs i d
        by (yes z) = fill-behind d vs (replicate n d) 0 i (omega arith) ∙ same-all d n i ∙ sym (past_end d vs i (omega arith))
        by (no z) =
            let y : i ≡ 0 + i = omega arith in ap (λ m. get_or (fill (replicate n d) 0 vs) m d) y ∙ fill_at d vs (replicate n d) 0 i (omega arith) (omega (arith, length-replicate {A = A} n d))
    go (no e) = fill-behind d vs (replicate n d) 0 i (omega arith) ∙ same-all d n i ∙ sym (past_end d vs i (omega arith))

-- ---- what is worked out
abbrev pub end_by : ℕ → WorkedOut → Result ℕ Fault
end_by z (all vs) = Ok z
end_by z (stopped f) = Err f

first_ends : (v : ℤ) (z : ℕ) (x : WorkedOut) → end_by z x ≡ end_by z (first v x)
first_ends v z (all vs) = refl
first_ends v z (stopped f) = refl

-- all of them, and none at fault
abbrev pub Whole : WorkedOut → Type 0
Whole (all vs) = Unit {0}
Whole (stopped f) = ⊥

abbrev pub listed : WorkedOut → List ℤ
listed (all vs) = vs
listed (stopped f) = []

pub values-count : (c : Scene) (es : List Expr) → Whole (values c es) → length (listed (values c es)) ≡ length es
unfolding values
values-count c [] w = refl
values-count c (e ∷ es) w = go (eval c e) (values c es) w (values-count c es)
  where
    go : (y : Result ℤ Fault) (r : WorkedOut) → Whole (values_by y r) → (Whole r → length (listed r) ≡ length es) → length (listed (values_by y r)) ≡ suc (length es)
    go (Ok v) (all l) w below = ap suc (below tt)
    go (Ok v) (stopped f) w below = absurd w
    go (Err f) r w below = absurd w

module _ (t : List ℕ) (decl : Name → ℕ) where
  -- how many there are, as far as n
  pub count_is : {es : List Expr} {a z : ℕ} → Passed t decl es a z → (n : ℕ) → arguments_from t n a ≡ min n (length es)
  unfolding arguments_from
  count_is (no_more e) zero = refl
  count_is (no_more {a = a} e) (suc n) = rw (eq-eqb (code_of t a) c_end e) (let z : 0 ≡ min (suc n) 0 = omega arith in z)
  count_is (one_more_lem {es = es} m c l v r) zero = let z : 0 ≡ min 0 (suc (length es)) = omega arith in z
  count_is (one_more_lem {es = es} {a = a} m c l v r) (suc n) =
      rw (ne_eqb (code_of t a) c_end c) (ap (λ k. 1 + arguments_from t n (k + 1)) l ∙ ap (1 +◌) (count_is r n) ∙ (let z : 1 + min n (length es) ≡ min (suc n) (suc (length es)) = omega arith in z))

  -- where they end
  pub end_is : {es : List Expr} {a z : ℕ} → Passed t decl es a z → (n : ℕ) → length es ≤ n → end_from t n a ≡ z
  unfolding end_from
  end_is (no_more e) zero h = refl
  end_is (no_more {a = a} e) (suc n) h = rw (eq-eqb (code_of t a) c_end e)
  end_is (one_more_lem m c l v r) zero h = absurd (omega arith)
  end_is (one_more_lem {a = a} m c l v r) (suc n) h = rw (ne_eqb (code_of t a) c_end c) (ap (λ k. end_from t n (k + 1)) l ∙ end_is r n (omega arith))

  module _ (s : List ℤ) (p : ℕ) where
    abbrev scene : Scene
    scene = scene_of t s p decl

    pub gather_ends : {es : List Expr} {a z : ℕ} → Passed t decl es a z → (n : ℕ) → length es ≤ n → gather_end t s p n a ≡ end_by z (values (scene_of t s p decl) es)
    unfolding gather_end values
    gather_ends (no_more e) zero h = refl
    gather_ends (no_more {a = a} e) (suc n) h = rw (eq-eqb (code_of t a) c_end e)
    gather_ends (one_more_lem m c l v r) zero h = absurd (omega arith)
    gather_ends (one_more_lem {e = e} {es = es} {a = a} {z = z} m c l v r) (suc n) h =
        rw (ne_eqb (code_of t a) c_end c) (ap (λ k. on_value (eval_of t s p a k) (λ w. gather_end t s p n (k + 1)) (λ f. Err f)) l
        ∙ ap (λ y. on_value y (λ w. gather_end t s p n (m + 1)) (λ f. Err f)) (v s p) ∙ go (eval scene e) (values scene es) (gather_ends r n (omega arith)))
      where
        go : (y : Result ℤ Fault) (q : WorkedOut) → gather_end t s p n (m + 1) ≡ end_by z q → on_value y (λ w. gather_end t s p n (m + 1)) (λ f. Err f) ≡ end_by z (values_by y q)
        go (Ok w) q below = below ∙ first_ends w z q
        go (Err f) q below = refl

    pub gather_fills : {es : List Expr} {a z : ℕ} → Passed t decl es a z → (n : ℕ) → length es ≤ n → (k : ℕ) (x : List ℤ) → Whole (values (scene_of t s p decl) es)
        → gather_list t s p n a k x ≡ fill x k (listed (values (scene_of t s p decl) es))
    unfolding gather_list values
    gather_fills (no_more e) zero h k x w = refl
    gather_fills (no_more {a = a} e) (suc n) h k x w = rw (eq-eqb (code_of t a) c_end e)
    gather_fills (one_more_lem m c l v r) zero h k x w = absurd (omega arith)
    gather_fills (one_more_lem {e = e} {es = es} {a = a} {z = z} m c l v r) (suc n) h k x w =
        rw (ne_eqb (code_of t a) c_end c) (ap (λ j. on_value (eval_of t s p a j) (λ u. gather_list t s p n (j + 1) (k + 1) (set x k u)) (λ f. x)) l
        ∙ ap (λ y. on_value y (λ u. gather_list t s p n (m + 1) (k + 1) (set x k u)) (λ f. x)) (v s p)
        ∙ go (eval scene e) (values scene es) w (λ u. gather_fills r n (omega arith) (k + 1) (set x k u)))
      where
        go : (y : Result ℤ Fault) (q : WorkedOut) → Whole (values_by y q) → ((u : ℤ) → Whole q → gather_list t s p n (m + 1) (k + 1) (set x k u) ≡ fill (set x k u) (k + 1) (listed q))
            → on_value y (λ u. gather_list t s p n (m + 1) (k + 1) (set x k u)) (λ f. x) ≡ fill x k (listed (values_by y q))
        go (Ok u) (all vs) w below = below u tt
        go (Ok u) (stopped f) w below = absurd w
        go (Err f) q w below = absurd w
