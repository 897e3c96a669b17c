-- One step of the machine, by the tests that the code makes. Over plain variables. Assumes nothing.
use Prim.Native.Nat.{ℕ, ◌+◌, ◌-◌, ◌*◌, ◌≤◌, ◌<◌}
use native.Mathlib.Omega.{arith}
use native.Mathlib.Numerals.{add-one}
use mathlib.Core.Path.{◌≡◌, sym, ap, subst, ◌∙◌}
use mathlib.Core.List.{List, [], ◌∷◌, ◌++◌}
use lib.ListN.{length, get_or, take, drop, set, length-drop, drop_of_length-le}
use lib.Seq.{drop-cons, length-take-le, take-suc-set}
use borrow.Author.Tests.{eq-eqb, ne_eqb, lt-ltb, le-ltb, le-leb, lt-leb}
use Rattle.base_ceilings.specs.Ceilings.{items_most}
use Rattle.base_codes.specs.Codes.{c_or_else}
use Rattle.parse_tables.specs.Tables.{production, right, span, rights}
use Rattle.parse_machine.specs.Machine.{Next, go, stop, done, refused, spent, packed, symbol_of, place_of, count_of_lem, column, write, eat, mark, marked, expand, step, step_on, most_stack}
use Rattle.parse_items.specs.Views.{conf, Stepped}
use Rattle.parse_items.specs.declared.State.{State}
use Rattle.parse_items.specs.declared.Step.{Step}
use Rattle.parse_items.proofs.Laws.{span-length}

-- ---- writing
module _ (v at : ℕ) (st : List ℕ) (pos : ℕ) (l : List ℕ) (n : ℕ) (hl : length l ≡ items_most) where
  pub write_law : (w m : ℕ) → n < items_most → m ≡ n - count_of_lem v → w ≡ packed (symbol_of v) at m →
      write v at st pos (take n l) ≡ go (record { st = st; pos = pos; out = take (n + 1) (set l n w) })
  unfolding write
  write_law w m h em ew =
      let k : n < length l = omega arith in
      let e : length (take n l) ≡ n = length-take-le n l (omega arith) in
      let q : take (n + 1) (set l n w) ≡ take n l ++ w ∷ [] = rw add-one (take-suc-set l n w k) in
      simp (e, lt-ltb n items_most h) (ap (λ (o : List ℕ). go (record { st = st; pos = pos; out = o })) (sym (q ∙ rw (ew, em))))

  pub full_law : n ≤ items_most → items_most ≤ n → write v at st pos (take n l) ≡ stop spent
  unfolding write
  full_law g h =
      let e : length (take n l) ≡ n = length-take-le n l (omega arith) in
      simp (e, le-ltb n items_most h)

-- ---- a right side
module _ (v : ℕ) (stk : List ℕ) (sp pos n p size : ℕ) (o : List ℕ) (hs : sp < most_stack) (ls : length stk ≡ most_stack) (es : size ≡ get_or rights (p * 13) 0) (ne : p ≡ 0 → ⊥) where
  right-size : length (right p) ≡ size
  unfolding right
  right-size = span-length (p * 13 + 1) (get_or rights (p * 13) 0) ∙ sym es

  left_over : length (drop (sp + 1) stk) ≡ most_stack - (sp + 1)
  left_over = length-drop (sp + 1) stk ∙ ap (λ (k : ℕ). k - (sp + 1)) ls

  pub no_room_law : sp + 1 < size → expand v (drop (sp + 1) stk) pos o p ≡ stop spent
  unfolding expand
  no_room_law h = simp (ne_eqb p 0 ne, right-size, left_over, lt-leb (size + (most_stack - (sp + 1))) most_stack (omega arith))

  pub expand_law : size ≤ sp + 1 → (stk' : List ℕ) (top m : ℕ) → m ≡ mark v pos o → drop top stk' ≡ marked m (span (p * 13 + 1) size) ++ drop (sp + 1) stk →
      expand v (drop (sp + 1) stk) pos o p ≡ go (record { st = drop top stk'; pos = pos; out = o })
  unfolding expand right
  expand_law h stk' top m em e =
      simp (ne_eqb p 0 ne, right-size, left_over, le-leb (size + (most_stack - (sp + 1))) most_stack (omega arith))
      (ap (λ (s : List ℕ). go (record { st = s; pos = pos; out = o })) (rw (e, ← em, ← es)))

-- ---- the step
pub as_step : (x y : Next) (r : Step) (a o : List ℕ) → x ≡ y → Stepped y r a o → Stepped x r a o
as_step x y r a o e w = subst (λ (z : Next). Stepped z r a o) (sym e) w

module _ (ks stk out : List ℕ) (s : State) where
  pub empty_end : length stk ≤ s.sp → length ks ≤ s.pos → step ks (conf stk out s) ≡ stop (done (take s.n out))
  unfolding step_on
  empty_end h g = rw (drop_of_length-le stk h) (simp (le-ltb s.pos (length ks) g))

  pub empty-more : length stk ≤ s.sp → s.pos < length ks → step ks (conf stk out s) ≡ stop (refused s.pos)
  unfolding step_on
  empty-more h g = rw (drop_of_length-le stk h) (simp (lt-ltb s.pos (length ks) g))

  module _ (hs : s.sp < length stk) (x k : ℕ) (ex : x ≡ symbol_of (get_or stk s.sp 0)) (ek : k ≡ column ks s.pos) where
    on_top : step ks (conf stk out s) ≡ step_on ks (get_or stk s.sp 0 ∷ drop (s.sp + 1) stk) s.pos (take s.n out)
    on_top = rw (drop-cons stk s.sp 0 hs, add-one)

    is_eaten : x < 73 → step ks (conf stk out s) ≡ eat ks (get_or stk s.sp 0) (drop (s.sp + 1) stk) s.pos (take s.n out)
    unfolding step_on
    is_eaten h = on_top ∙ simp (← ex, lt-ltb x 73 h)

    pub at_end_law : x < 73 → length ks ≤ s.pos → step ks (conf stk out s) ≡ stop (refused s.pos)
    unfolding eat
    at_end_law h g = is_eaten h ∙ simp (le-ltb s.pos (length ks) g)

    module _ (h : x < 73) (g : s.pos < length ks) where
      pub other_law : (x ≡ k → ⊥) → step ks (conf stk out s) ≡ stop (refused s.pos)
      unfolding eat
      other_law ne = is_eaten h ∙ simp (← ek, lt-ltb s.pos (length ks) g, ← ex, ne_eqb x k ne)

      pub eat_law : x ≡ k → x < 70 → step ks (conf stk out s) ≡ go (conf stk out (record { sp = s.sp + 1; pos = s.pos + 1; n = s.n }))
      unfolding eat
      eat_law e l = is_eaten h ∙ simp (← ek, lt-ltb s.pos (length ks) g, ← ex, eq-eqb x k e, lt-ltb x 70 l)

      pub eat_write_law : x ≡ k → 70 ≤ x → step ks (conf stk out s) ≡ write (get_or stk s.sp 0) s.pos (drop (s.sp + 1) stk) (s.pos + 1) (take s.n out)
      unfolding eat
      eat_write_law e l = is_eaten h ∙ simp (← ek, lt-ltb s.pos (length ks) g, ← ex, eq-eqb x k e, le-ltb x 70 l)

    pub nonterminal_law : 73 ≤ x → x < c_or_else → (p : ℕ) → p ≡ production x k → step ks (conf stk out s) ≡ expand (get_or stk s.sp 0) (drop (s.sp + 1) stk) s.pos (take s.n out) p
    unfolding step_on
    nonterminal_law h g p ep = on_top ∙ simp (← ex, ← ek, le-ltb x 73 h, lt-ltb x c_or_else g, ← ep)

    pub act_law : c_or_else ≤ x → step ks (conf stk out s) ≡ write (get_or stk s.sp 0) (place_of (get_or stk s.sp 0)) (drop (s.sp + 1) stk) s.pos (take s.n out)
    unfolding step_on
    act_law h = on_top ∙ simp (← ex, ← ek, le-ltb x 73 (omega arith), le-ltb x c_or_else h)
