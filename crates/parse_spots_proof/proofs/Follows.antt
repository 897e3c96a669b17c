-- The machine over numbers goes as a derivation with marks goes: what it writes has the tokens that the derivation says. Assumes nothing.
use Prim.Native.Nat.{ℕ, zero, suc, ◌+◌, ◌-◌, ◌*◌, ◌/◌, ◌%◌, ◌≤◌, ◌<◌}
use native.Mathlib.Omega.{arith}
use mathlib.Core.Path.{◌≡◌, refl, sym as inv, ap, ap₂, subst, ◌∙◌}
use mathlib.Core.Bool.{Bool, true, false, cond}
use mathlib.Core.Option.{Option, none, some}
use mathlib.Core.List.{List, [], ◌∷◌, ◌++◌, map, map-append, append_assoc, append-nil}
use mathlib.Core.Logic.{⊎_elim}
use lib.ListN.{length, get_or, drop}
use lib.Dec.{T, eqb, ltb, leb, ltb→lt, leb→le}
use borrow.Author.Tests.{lt-ltb, le-ltb, ltb-true, ltb-false, eqb-false}
use Rattle.base_ceilings.specs.Ceilings.{items_most, tokens_most}
use Rattle.base_bytes.specs.Choice.{pick, both}
use Rattle.base_codes.specs.Codes.{c_or_else}
use Rattle.base_codes.specs.Items.{Item}
use Rattle.base_kinds.specs.Kinds.{Token, sym, name, number, text, kind_of}
use Rattle.parse_grammar.specs.Engine.{nt, tm, act, In, is_some, left_out, L, done as l-done, emit as l-emit, eat as l-eat, by as l-by, finish}
use Rattle.parse_grammar.specs.Productions.{NT, e1, n_model, Ter, sy, any_name, any_number, any_text, Right, eats, prods, G}
use Rattle.parse_grammar.specs.Guide.{U}
use Rattle.parse_grammar.proofs.Core.{Safe, safe_app, same, finish_app, finish_of}
use Rattle.parse_grammar.proofs.Tests.{never, both_left, both_right, below_out, one_of, pick_sel, is_some_lem}
use Rattle.parse_grammar.proofs.Inst.{K, good, start as safe-start, sy_in}
use Rattle.parse_tables.specs.Numbering.{symbol, terminal, nonterminal, nonterminals, nth}
use Rattle.parse_tables.specs.Tables.{production, right}
use Rattle.parse_tables.proofs.Tables.{uses_at_end, at_right}
use Rattle.parse_machine.specs.Machine.{packed, symbol_of, place_of, place_room, column, Config, Outcome, done, refused, spent, Next, output_of, write, eat, mark, marked, expand, step_on, next, run, start, machine, most_steps, most_stack}
use Rattle.parse_machine.proofs.Never.{lt_or_ge, column-low, column_end}
use Rattle.parse_machine.proofs.Same.{solid?, solid_rights, solid_all, is_terminal, is_nonterminal, is_act, chooses, many, column_is, opened, ended_at}
use Rattle.parse_spots.specs.Spots.{Spot, tokens}
use Rattle.parse_spots_proof.specs.Marked.{Stack, ◌from◌, marks, hands, begun, M, m_done, m_emit, m_eat, m_put, m_by}

-- ---- a derivation without its marks
abbrev bare : Stack → Right
bare [] = []
bare (s from p ∷ k) = s ∷ bare k

bare-marks : (p : ℕ) (r : Right) (k : Stack) → bare (marks p r ++ k) ≡ r ++ bare k
bare-marks p [] k = refl
bare-marks p (s ∷ r) k = ap (s ∷◌) (bare-marks p r k)

erased : {k : Stack} {i : ℕ} {w : List Token} {o : List Spot} → M k i w o → (u : List Item) × L G (bare k) w u
erased m_done = ([], l-done)
erased (m_emit {a = a} d) = let (u, e) = erased d in (a ∷ u, l-emit e)
erased (m_eat q d) = let (u, e) = erased d in (u, l-eat {a = []} q e)
erased (m_put {a = a} q d) = let (u, e) = erased d in (a ∷ u, l-eat {a = a ∷ []} q e)
erased (m_by {n = n} {r = r} {p = p} {k = k} {i = i} m d) = let (u, e) = erased d in (u, l-by m (rw (bare-marks (begun n p i) r k) at e))

-- ---- by which way a derivation goes
inv_act : {a : Item} {p : ℕ} {k : Stack} {i : ℕ} {w : List Token} {o : List Spot} → M (act a from p ∷ k) i w o → (u : List Spot) × (o ≡ (a, p) ∷ u) × M k i w u
inv_act (m_emit {o = u} d) = (u, refl, d)

inv_nt : {n : NT} {p : ℕ} {k : Stack} {i : ℕ} {w : List Token} {o : List Spot} → M (nt n from p ∷ k) i w o → (r : Right) × In r (prods n) × M (marks (begun n p i) r ++ k) i w o
inv_nt (m_by {r = r} m d) = (r, m, d)

inv_end : {i : ℕ} {w : List Token} {o : List Spot} → M [] i w o → o ≡ []
inv_end m_done = refl

-- the terminals that write what they eat
abbrev speaks : Ter → Bool
speaks (sy j) = false
speaks any_name = true
speaks any_number = true
speaks any_text = true

one-said : (a : List Item) (b : Item) → some (b ∷ []) ≡ some a → true ≡ ltb 0 (length a)
one-said a b e = let z : b ∷ [] ≡ a = cc in rw (← z)

said : (t : Ter) (c : Token) (a : List Item) → eats t c ≡ some a → speaks t ≡ ltb 0 (length a)
said (sy j) (sym k) a e = rw (← (sy_in j k a e).1)
said (sy j) (name w) a e = absurd (is_some_lem e)
said (sy j) (number n) a e = absurd (is_some_lem e)
said (sy j) (text w) a e = absurd (is_some_lem e)
said any_name (sym k) a e = absurd (is_some_lem e)
said any_name (name w) a e = one-said a _ e
said any_name (number n) a e = absurd (is_some_lem e)
said any_name (text w) a e = absurd (is_some_lem e)
said any_number (sym k) a e = absurd (is_some_lem e)
said any_number (name w) a e = absurd (is_some_lem e)
said any_number (number n) a e = one-said a _ e
said any_number (text w) a e = absurd (is_some_lem e)
said any_text (sym k) a e = absurd (is_some_lem e)
said any_text (name w) a e = absurd (is_some_lem e)
said any_text (number n) a e = absurd (is_some_lem e)
said any_text (text w) a e = one-said a _ e

inv_tm : {t : Ter} {p : ℕ} {k : Stack} {i : ℕ} {w : List Token} {o : List Spot} → M (tm t from p ∷ k) i w o → (c : Token) (v : List Token) → w ≡ c ∷ v →
    (u : List Spot) × (tokens o ≡ cond (speaks t) (i ∷ tokens u) (tokens u)) × M k (i + 1) v u
inv_tm (m_eat {t = t} {c = b} {w = z} {o = u} q d) c v e = (u, rw (said t b [] q), (let h : z ≡ v = cc in rw h at d))
inv_tm (m_put {t = t} {c = b} {a = a} {w = z} {o = u} q d) c v e = (u, rw (said t b (a ∷ []) q), (let h : z ≡ v = cc in rw h at d))

loud : (x : ℕ) → x < 73 → (a b : List ℕ) → cond (speaks (terminal x)) a b ≡ pick (ltb x 70) b a
loud x h a b = by_test (speaks (terminal x)) (below_out 73 (λ j. cond (speaks (terminal j)) (leb 70 j) (ltb j 70)) tt x h)
  where
    by_test : (c : Bool) → T (cond c (leb 70 x) (ltb x 70)) → cond c a b ≡ pick (ltb x 70) b a
    by_test true t = simp (le-ltb x 70 (leb→le 70 x t))
    by_test false t = simp (lt-ltb x 70 (ltb→lt x 70 t))

-- ---- the stack's numbers
abbrev entries : List ℕ → Stack
entries [] = []
entries (v ∷ st) = symbol (v % 256) from place_of v ∷ entries st

-- what a right side is marked with, by numbers
begun_is : (x : ℕ) → 73 ≤ x → x < c_or_else → (p i : ℕ) → begun (nonterminal x) p i ≡ pick (ltb x 143) i p
begun_is x lo hi p i =
    let e : 73 + (x - 73) ≡ x = omega arith in
    by_test (hands (nonterminal x)) (rw e at (below_out 74 (λ j. cond (hands (nth nonterminals j e1)) (leb 143 (73 + j)) (ltb (73 + j) 143)) tt (x - 73) (omega arith)))
  where
    by_test : (c : Bool) → T (cond c (leb 143 x) (ltb x 143)) → cond c p i ≡ pick (ltb x 143) i p
    by_test true t = simp (le-ltb x 143 (leb→le 143 x t))
    by_test false t = simp (lt-ltb x 143 (ltb→lt x 143 t))

marked-symbol : (b : Bool) (y v pos n : ℕ) → y < 256 → symbol_of (y + pick b (256 * pos + 1048576 * n) (v - v % 256)) ≡ y
marked-symbol true y v pos n h = omega arith
marked-symbol false y v pos n h = omega arith

marked-place : (b : Bool) (y v pos n : ℕ) → y < 256 → pos < place_room → place_of (y + pick b (256 * pos + 1048576 * n) (v - v % 256)) ≡ pick b pos (place_of v)
marked-place true y v pos n h g = omega arith
marked-place false y v pos n h g = let e : (y + (v - v % 256)) / 256 ≡ v / 256 = omega arith in rw e

entries-marked : (v pos : ℕ) (out r st : List ℕ) → T (solid? r) → pos < place_room →
    entries (marked (mark v pos out) r ++ st) ≡ marks (pick (ltb (v % 256) 143) pos (place_of v)) (map symbol r) ++ entries st
entries-marked v pos out [] st t g = refl
entries-marked v pos out (y ∷ r) st t g =
    let h : y < 256 = ltb→lt y 256 (both_right (ltb 0 y) (ltb y 256) (both_left (both (ltb 0 y) (ltb y 256)) (solid? r) t)) in
    let e = entries-marked v pos out r st (both_right (both (ltb 0 y) (ltb y 256)) (solid? r) t) g in
    rw (marked-symbol (ltb (v % 256) 143) y v pos (length out) h, marked-place (ltb (v % 256) 143) y v pos (length out) h g, e)

-- ---- the right side that a derivation uses is the one that the tables have
left-some : {A : Type 0} (x y : Option (List A)) (u : List A) → left_out x y ≡ some u → T (is_some x)
left-some none y u e = is_some_lem e
left-some (some a) y u e = tt

module _ (ts : List Token) (x : ℕ) (lo : 73 ≤ x) (hi : x < c_or_else) (pos : ℕ) (r k : Right) (m : In r (prods (nonterminal x))) (safe : Safe G U K (nt (nonterminal x) ∷ k) never) where
  by_token : (u : List Item) → L G (r ++ k) (drop pos ts) u → pos < length ts → (production x (column (map kind_of ts) pos) ≡ 0 → ⊥) → r ≡ map symbol (right (production x (column (map kind_of ts) pos)))
  by_token u d h ne =
      let c = get_or ts pos (sym 0) in
      let e = same G U K good (nonterminal x) k r c safe m (rw (opened ts pos h) at d) in
      let f = chooses x lo hi c (rw (column_is ts pos h) at ne) in
      rw (column_is ts pos h) (cc)

  by_end : (u : List Item) → L G (r ++ k) (drop pos ts) u → length ts ≤ pos → (production x (column (map kind_of ts) pos) ≡ 0 → ⊥) → r ≡ map symbol (right (production x (column (map kind_of ts) pos)))
  by_end u d h ne =
      let z : column (map kind_of ts) pos ≡ 0 = column_end (map kind_of ts) pos (rw (many ts) h) in
      let t = below_out 74 (λ j. one_of (λ r. is_some (finish G U r)) (prods (nth nonterminals j e1))) tt (x - 73) (omega arith) in
      let s : T (is_some (finish G U r)) = left-some (finish G U r) (finish G U k) u (inv (finish_app G U K good r k) ∙ finish_of G U K good (rw (ended_at ts pos h) at d)) in
      let e = pick_sel (λ r. is_some (finish G U r)) (prods (nonterminal x)) r t m s in
      let f = uses_at_end x lo hi (rw z at ne) in
      rw z (cc)

  right_is : (u : List Item) → L G (r ++ k) (drop pos ts) u → (production x (column (map kind_of ts) pos) ≡ 0 → ⊥) → r ≡ map symbol (right (production x (column (map kind_of ts) pos)))
  right_is u d ne = ⊎_elim (λ h. by_token u d h ne) (λ h. by_end u d h ne) (lt_or_ge pos (length ts))

-- ---- one step
abbrev Says : Outcome → List ℕ → Type 0
Says (done o) l = map place_of o ≡ l
Says (refused i) l = Unit {0}
Says spent l = Unit {0}

says-pick : (b : Bool) (x y : Next) (f : Config → Outcome) (l : List ℕ) → (b ≡ true → Says (next f x) l) → (b ≡ false → Says (next f y) l) → Says (next f (pick b x y)) l
says-pick true x y f l p q = p refl
says-pick false x y f l p q = q refl

says_end : (b : Bool) (i : ℕ) (out l : List ℕ) → map place_of out ≡ l → Says (pick b (refused i) (done out)) l
says_end true i out l e = tt
says_end false i out l e = e

-- a configuration from which o is still to be written
record Coming (ts : List Token) (st : List ℕ) (pos : ℕ) (o : List Spot) : Type 0 where
  inside : pos ≤ length ts
  safe : Safe G U K (bare (entries st)) never
  rest : M (entries st) pos (drop pos ts) o

written-places : (v at : ℕ) (out l : List ℕ) → at < place_room → map place_of (output_of v at out) ++ l ≡ map place_of out ++ at ∷ l
written-places v at out l h = let e : place_of (packed (symbol_of v) at (length out - v / 1048576 % 65536)) ≡ at = omega arith in simp (map-append, append_assoc, e)

module _ (ts : List Token) (short : length ts ≤ tokens_most) (f : Config → Outcome)
    (ih : (c : Config) (o : List Spot) → Coming ts c.st c.pos o → Says (f c) (map place_of c.out ++ tokens o)) where
  write-says : (v at : ℕ) (st : List ℕ) (pos : ℕ) (out : List ℕ) (o : List Spot) → at < place_room → Coming ts st pos o → Says (next f (write v at st pos out)) (map place_of out ++ at ∷ tokens o)
  unfolding write
  write-says v at st pos out o h c =
      says-pick (ltb (length out) items_most) _ _ f _
      (λ e. subst (Says (f (record { st = st; pos = pos; out = output_of v at out }))) (written-places v at out (tokens o) h) (ih (record { st = st; pos = pos; out = output_of v at out }) o c))
      (λ e. tt)

  module _ (v : ℕ) (st : List ℕ) (pos : ℕ) (out : List ℕ) (o : List Spot) (c : Coming ts (v ∷ st) pos o) where
    act_says : c_or_else ≤ v % 256 → Says (next f (write v (place_of v) st pos out)) (map place_of out ++ tokens o)
    act_says h =
        let (u, e, d) = inv_act (rw (is_act (v % 256) h) at c.rest) in
        rw e (write-says v (place_of v) st pos out u (omega arith) (record { inside = c.inside; safe = rw (is_act (v % 256) h) at c.safe; rest = d }))

    eat-says : v % 256 < 73 → Says (next f (eat (map kind_of ts) v st pos out)) (map place_of out ++ tokens o)
    unfolding eat
    eat-says low =
        says-pick (ltb pos (length (map kind_of ts))) _ _ f _
        (λ h.
        let l : pos < length ts = rw (many ts) at (ltb-true pos (length (map kind_of ts)) h) in
        let (u, e, d) = inv_tm (rw (is_terminal (v % 256) low) at c.rest) (get_or ts pos (sym 0)) (drop (pos + 1) ts) (opened ts pos l) in
        let s : Coming ts st (pos + 1) u = record { inside = omega arith; safe = rw (is_terminal (v % 256) low) at c.safe; rest = d } in
        let t : tokens o ≡ pick (ltb (v % 256) 70) (tokens u) (pos ∷ tokens u) = e ∙ loud (v % 256) low (pos ∷ tokens u) (tokens u) in
        says-pick (eqb (symbol_of v) (column (map kind_of ts) pos)) _ _ f _
        (λ z. says-pick (ltb (symbol_of v) 70) _ _ f _
        (λ g. subst (λ (q : List ℕ). Says (f (record { st = st; pos = pos + 1; out = out })) (map place_of out ++ q)) (inv (rw g at t)) (ih (record { st = st; pos = pos + 1; out = out }) u s))
        (λ g. rw (rw g at t) (write-says v pos st (pos + 1) out u (omega arith) s)))
        (λ z. tt))
        (λ h. tt)

    expand-says : 73 ≤ v % 256 → v % 256 < c_or_else → Says (next f (expand v st pos out (production (v % 256) (column (map kind_of ts) pos)))) (map place_of out ++ tokens o)
    unfolding expand solid_rights
    expand-says lo hi =
        let p : ℕ = production (v % 256) (column (map kind_of ts) pos) in
        let n : NT = nonterminal (v % 256) in
        let (r, m, d) = inv_nt (rw (is_nonterminal (v % 256) lo hi) at c.rest) in
        let safe : Safe G U K (nt n ∷ bare (entries st)) never = rw (is_nonterminal (v % 256) lo hi) at c.safe in
        let (u, l) = erased d in
        says-pick (eqb p 0) _ _ f _ (λ e. tt)
        (λ e.
        let i : r ≡ map symbol (right p) = right_is ts (v % 256) lo hi pos r (bare (entries st)) m safe u (rw (bare-marks (begun n (place_of v) pos) r (entries st)) at l) (eqb-false p 0 e) in
        let t : T (solid? (right p)) = at_right solid_rights solid_all (v % 256) (column (map kind_of ts) pos) lo hi (column-low (map kind_of ts) pos) (eqb-false p 0 e) in
        let j : marks (begun n (place_of v) pos) r ++ entries st ≡ entries (marked (mark v pos out) (right p) ++ st) =
        ap₂ (λ (a : ℕ) (b : Right). marks a b ++ entries st) (begun_is (v % 256) lo hi (place_of v) pos) i ∙ inv (entries-marked v pos out (right p) st t (omega (arith, c.inside))) in
        says-pick (leb (length (right p) + length st) most_stack) _ _ f _
        (λ g. ih (record { st = marked (mark v pos out) (right p) ++ st; pos = pos; out = out }) o
        (record {
          inside = c.inside;
          safe =
              subst (λ (k : Stack). Safe G U K (bare k) never) j
              (rw (bare-marks (begun n (place_of v) pos) r (entries st)) (safe_app G U K r (bare (entries st)) never (U.fol n) safe.0 (good.safe n r m) safe.1));
          rest = subst (λ (k : Stack). M k pos (drop pos ts) o) j d;
        }))
        (λ g. tt))

  turn_says : (st : List ℕ) (pos : ℕ) (out : List ℕ) (o : List Spot) → Coming ts st pos o → Says (next f (step_on (map kind_of ts) st pos out)) (map place_of out ++ tokens o)
  unfolding step_on
  turn_says [] pos out o c = says_end (ltb pos (length (map kind_of ts))) pos out _ (rw (inv_end c.rest) (inv (append-nil (map place_of out))))
  turn_says (v ∷ st) pos out o c =
      says-pick (ltb (symbol_of v) 73) _ _ f _ (λ e. eat-says v st pos out o c (ltb-true (symbol_of v) 73 e))
      (λ e. says-pick (ltb (symbol_of v) c_or_else) _ _ f _ (λ g. expand-says v st pos out o c (ltb-false (symbol_of v) 73 e) (ltb-true (symbol_of v) c_or_else g))
      (λ g. act_says v st pos out o c (ltb-false (symbol_of v) c_or_else g)))

module _ (ts : List Token) (short : length ts ≤ tokens_most) where
  run-says : (n : ℕ) (c : Config) (o : List Spot) → Coming ts c.st c.pos o → Says (run (map kind_of ts) n c) (map place_of c.out ++ tokens o)
  unfolding run
  run-says zero c o k = tt
  run-says (suc n) c o k = turn_says ts short (run (map kind_of ts) n) (run-says n) c.st c.pos c.out o k

  -- WHAT THE MACHINE WRITES HAS THE TOKENS OF THE DERIVATION
  pub machine-says : (o : List Spot) → M (nt n_model from 0 ∷ []) 0 ts o → (l : List ℕ) → machine (map kind_of ts) ≡ done l → map place_of l ≡ tokens o
  machine-says o d l e = subst (λ (x : Outcome). Says x (tokens o)) e (run-says most_steps start o (record { inside = omega arith; safe = safe-start; rest = d }))
