-- THE SAME ANSWERS: for every list of tokens, the machine over their kinds gives the answer of `parse_grammar`, item for item and place for place. Assumes nothing.
use Prim.Native.Nat.{ℕ, zero, suc, ◌+◌, ◌%◌, ◌≤◌, ◌<◌, min}
use native.Mathlib.Omega.{arith}
use native.Mathlib.Numerals.{add-one}
use mathlib.Core.Path.{◌≡◌, refl, sym as inv, ap, ◌∙◌}
use mathlib.Core.Bool.{Bool, true, false}
use mathlib.Core.Option.{Option, none, some}
use mathlib.Core.List.{List, [], ◌∷◌, ◌++◌, map, append_assoc, append-nil}
use mathlib.Core.Logic.{◌⊎◌, inl, inr, ⊎_elim}
use lib.ListN.{length, get_or, drop, length-map, get_or-map, drop_of_length-le}
use lib.Seq.{drop-cons}
use lib.Dec.{T, eqb, ltb, leb, ltb→lt, lit≤}
use borrow.Author.Tests.{eq-eqb, ne_eqb, lt-ltb, le-ltb, eqb-false, eqb-true, ltb-true, ltb-false}
use Rattle.base_ceilings.specs.Ceilings.{items_most, tokens_most}
use Rattle.base_codes.specs.Codes.{c_or_else}
use Rattle.base_kinds.specs.Kinds.{Token, sym, kind_of}
use Rattle.base_bytes.specs.Choice.{pick, both}
use Rattle.base_codes.specs.Items.{Item}
use Rattle.parse_grammar.specs.Engine.{Sym, nt, tm, act, Answer, ok, bad, later, left_out, ended, Moved, chosen, next as nexts, choose, bound, step as steps, finish, parse}
use Rattle.parse_grammar.specs.Productions.{NT, Ter, Right, eats, G}
use Rattle.parse_grammar.specs.Guide.{U, parse_model}
use Rattle.parse_grammar.proofs.Core.{pre, on_act, on_eat, on_use, finish_app}
use Rattle.parse_grammar.proofs.Tests.{both_left, both_right}
use Rattle.parse_grammar.proofs.Inst.{K, good}
use Rattle.parse_tables.specs.Numbering.{symbol, terminal, nonterminal, item}
use Rattle.parse_tables.specs.Tables.{bases, rights, production, span, right}
use Rattle.parse_tables.proofs.Tables.{refuses, uses, no_kind_table, no_kind_guide, not-empty, empty, each_right, at_right}
use Rattle.parse_machine.specs.Machine.{packed, symbol_of, place_of, clipped, column, Config, Outcome, done, refused, Next, go, output_of, write, eat, mark, marked, expand, step_on, next, run, start, machine, most_steps, most_stack, place_room}
use Rattle.parse_machine.specs.Items.{held, read, answer_of, AllProper}
use Rattle.parse_machine.proofs.Never.{lt_or_ge, Fine, never_spent, column-low, column_end, mark_plain}
use Rattle.parse_machine.proofs.Eaten.{eaten_items, eats-same, eats_other, proper_at}

-- ---- numbers of symbols
abbrev pub solid? : List ℕ → Bool
solid? [] = true
solid? (y ∷ r) = both (both (ltb 0 y) (ltb y 256)) (solid? r)

abbrev symbols : List ℕ → Right
symbols [] = []
symbols (v ∷ st) = symbol (v % 256) ∷ symbols st

abbrev Solid : List ℕ → Type 0
Solid [] = Unit {0}
Solid (v ∷ st) = (1 ≤ v % 256) × Solid st

unfoldable pub solid_rights : ℕ → ℕ → Bool
solid_rights x p = solid? (right p)

pub solid_all : T (each_right solid_rights)
unfolding solid_rights bases right span rights
solid_all = tt

below_256 : (y b : ℕ) → y < 256 → b % 256 ≡ 0 → (y + b) % 256 ≡ y
below_256 y b h e = omega arith

symbols-marked : (b : ℕ) (r st : List ℕ) → b % 256 ≡ 0 → T (solid? r) → symbols (marked b r ++ st) ≡ map symbol r ++ symbols st
symbols-marked b [] st e t = refl
symbols-marked b (y ∷ r) st e t =
    let h : y < 256 = ltb→lt y 256 (both_right (ltb 0 y) (ltb y 256) (both_left (both (ltb 0 y) (ltb y 256)) (solid? r) t)) in
    rw (below_256 y b h e, symbols-marked b r st e (both_right (both (ltb 0 y) (ltb y 256)) (solid? r) t))

solid_marked : (b : ℕ) (r st : List ℕ) → b % 256 ≡ 0 → T (solid? r) → Solid st → Solid (marked b r ++ st)
solid_marked b [] st e t s = s
solid_marked b (y ∷ r) st e t s =
    let q : T (both (ltb 0 y) (ltb y 256)) = both_left (both (ltb 0 y) (ltb y 256)) (solid? r) t in
    let h : y < 256 = ltb→lt y 256 (both_right (ltb 0 y) (ltb y 256) q) in
    let l : 0 < y = ltb→lt 0 y (both_left (ltb 0 y) (ltb y 256) q) in
    (rw (below_256 y b h e) l, solid_marked b r st e (both_right (both (ltb 0 y) (ltb y 256)) (solid? r) t) s)

pub is_terminal : (x : ℕ) → x < 73 → symbol x ≡ tm (terminal x)
is_terminal x h = simp (lt-ltb x 73 h)

pub is_nonterminal : (x : ℕ) → 73 ≤ x → x < c_or_else → symbol x ≡ nt (nonterminal x)
is_nonterminal x l h = simp (le-ltb x 73 l, lt-ltb x c_or_else h)

pub is_act : (x : ℕ) → c_or_else ≤ x → symbol x ≡ act (item x)
is_act x h = simp (le-ltb x 73 (omega arith), le-ltb x c_or_else h)

-- ---- the equations of `parse_grammar`, where it refuses and at the end
on_none : (n : NT) (k : Right) (c : Token) (w : List Token) → choose G U n (U.kind c) ≡ none → parse G U (nt n ∷ k) (c ∷ w) ≡ bad 0
on_none n k c w e = ap (λ (x : Option (Moved NT Ter Item)). nexts x (λ k'. parse G U k' w)) (go_by (bound G U (nt n ∷ k)))
  where
    go_by : (f : ℕ) → steps G U f (nt n ∷ k) c ≡ none
    go_by zero = refl
    go_by (suc f) = ap (λ (y : Option Right). chosen y (λ r. steps G U f (r ++ k) c)) e

on_other : (t : Ter) (k : Right) (c : Token) (w : List Token) → eats t c ≡ none → parse G U (tm t ∷ k) (c ∷ w) ≡ bad 0
on_other t k c w e = rw e

at_end_use : (n : NT) (r k : Right) → finish G U r ≡ U.nul n → parse G U (nt n ∷ k) [] ≡ parse G U (r ++ k) []
at_end_use n r k e = ap ended (ap (λ (x : Option (List Item)). left_out x (finish G U k)) (inv e) ∙ inv (finish_app G U K good r k))

at_end_none : (n : NT) (k : Right) → U.nul n ≡ none → parse G U (nt n ∷ k) [] ≡ bad 0
at_end_none n k e = ap (λ (x : Option (List Item)). ended (left_out x (finish G U k))) e

-- ---- what is still to come, after o at place i
abbrev moved : ℕ → List Item → Answer Item → Answer Item
moved i o (ok p) = ok (o ++ p)
moved i o (bad j) = bad (i + j)

moved-pre : (i : ℕ) (o : List Item) (a : Item) (x : Answer Item) → moved i o (pre G U K good (a ∷ []) x) ≡ moved i (o ++ a ∷ []) x
moved-pre i o a (ok p) = ap ok (inv (append_assoc o (a ∷ []) p))
moved-pre i o a (bad j) = refl

moved_later : (i : ℕ) (o a : List Item) (x : Answer Item) → moved i o (later a x) ≡ moved (i + 1) (o ++ a) x
moved_later i o a (ok p) = ap ok (inv (append_assoc o a p))
moved_later i o a (bad j) = ap bad (omega arith)

map_snoc : (f : ℕ → Item) (o : List ℕ) (x : ℕ) → map f (o ++ x ∷ []) ≡ map f o ++ f x ∷ []
map_snoc f [] x = refl
map_snoc f (y ∷ o) x = ap (f y ∷◌) (map_snoc f o x)

symbol-packed : (x at n : ℕ) → x < 256 → symbol_of (packed x at n) ≡ x
symbol-packed x at n h = omega arith

place-packed : (x at n : ℕ) → x < 256 → at < place_room → place_of (packed x at n) ≡ at
place-packed x at n h g = omega arith

read_held : (ts : List Token) (x at n : ℕ) → x < c_or_else → at < place_room → read ts (packed x at n) ≡ held (get_or ts at (sym 0))
read_held ts x at n h g = simp (symbol-packed x at n (omega arith), place-packed x at n (omega arith) g, lt-ltb x c_or_else h)

read_act : (ts : List Token) (x at n : ℕ) → c_or_else ≤ x → x < 256 → read ts (packed x at n) ≡ item x
read_act ts x at n l h = simp (symbol-packed x at n h, le-ltb x c_or_else l)

kind_cases : (k : ℕ) → (k ≡ 0) ⊎ (0 < k)
kind_cases zero = inl refl
kind_cases (suc k) = inr (omega arith)

clipped-zero : (k : ℕ) → k ≡ 0 → clipped k ≡ 73
clipped-zero k e = simp (eq-eqb k 0 e)

clipped-more : (k : ℕ) → 0 < k → clipped k ≡ min k 73
clipped-more k h = let ne : k ≡ 0 → ⊥ = (λ e. omega arith) in simp (ne_eqb k 0 ne)

-- what `parse_grammar` chooses is what the tables choose, at any token
module _ (x : ℕ) (lo : 73 ≤ x) (hi : x < c_or_else) (c : Token) where
  chooses_none : production x (clipped (kind_of c)) ≡ 0 → choose G U (nonterminal x) (U.kind c) ≡ none
  chooses_none e =
      ⊎_elim (λ z. let k : U.kind c ≡ 0 = omega arith in rw k (no_kind_guide x lo hi))
      (λ h. refuses x lo hi (U.kind c) (omega arith) (omega arith) (rw (clipped-more (kind_of c) h) at e)) (kind_cases (kind_of c))

  pub chooses : (production x (clipped (kind_of c)) ≡ 0 → ⊥) → choose G U (nonterminal x) (U.kind c) ≡ some (map symbol (right (production x (clipped (kind_of c)))))
  chooses ne =
      ⊎_elim (λ z. absurd (ne (ap (production x) (clipped-zero (kind_of c) z) ∙ no_kind_table x lo hi)))
      (λ h. rw (clipped-more (kind_of c) h) (uses x lo hi (U.kind c) (omega arith) (omega arith) (rw (clipped-more (kind_of c) h) at ne))) (kind_cases (kind_of c))

-- ---- one step
module _ (ts : List Token) where
  abbrev Says : Outcome → Answer Item → Type 0
  Says o a = Fine o → answer_of ts o ≡ a

  says-pick : (b : Bool) (x y : Next) (f : Config → Outcome) (a : Answer Item) → (b ≡ true → Says (next f x) a) → (b ≡ false → Says (next f y) a) → Says (next f (pick b x y)) a
  says-pick true x y f a p q = p refl
  says-pick false x y f a p q = q refl

  abbrev rest : List ℕ → ℕ → List ℕ → Answer Item
  rest st pos out = moved pos (map (read ts) out) (parse G U (symbols st) (drop pos ts))

  kind_at : (pos : ℕ) → get_or (map kind_of ts) pos 0 ≡ kind_of (get_or ts pos (sym 0))
  kind_at pos = get_or-map kind_of ts pos (sym 0)

  pub many : length (map kind_of ts) ≡ length ts
  many = length-map ts kind_of

  pub column_is : (pos : ℕ) → pos < length ts → column (map kind_of ts) pos ≡ clipped (kind_of (get_or ts pos (sym 0)))
  unfolding column
  column_is pos h = simp (many, lt-ltb pos (length ts) h, kind_at pos)

  pub opened : (pos : ℕ) → pos < length ts → drop pos ts ≡ get_or ts pos (sym 0) ∷ drop (pos + 1) ts
  opened pos h = rw add-one (drop-cons ts pos (sym 0) h)

  pub ended_at : (pos : ℕ) → length ts ≤ pos → drop pos ts ≡ []
  ended_at pos h = drop_of_length-le ts h

  module _ (proper : AllProper ts) (short : length ts ≤ tokens_most) (f : Config → Outcome) (ih : (c : Config) → Solid c.st → Says (f c) (rest c.st c.pos c.out))
      (v : ℕ) (st : List ℕ) (pos : ℕ) (out : List ℕ) (solid : Solid (v ∷ st)) where
    -- an item to write
    act_is : c_or_else ≤ v % 256 → rest st pos (output_of v (place_of v) out) ≡ rest (v ∷ st) pos out
    act_is h =
        let a : Answer Item = parse G U (symbols st) (drop pos ts) in
        ap (λ (o : List Item). moved pos o a) (map_snoc (read ts) out _ ∙ ap (λ (i : Item). map (read ts) out ++ i ∷ []) (read_act ts (v % 256) (place_of v) _ h (omega arith)))
        ∙ inv (moved-pre pos (map (read ts) out) (item (v % 256)) a)
        ∙ ap (moved pos (map (read ts) out)) (inv (on_act G U K good (item (v % 256)) (symbols st) (drop pos ts)))
        ∙ ap (λ (s : Sym NT Ter Item). moved pos (map (read ts) out) (parse G U (s ∷ symbols st) (drop pos ts))) (inv (is_act (v % 256) h))

    act_says : c_or_else ≤ v % 256 → Says (next f (write v (place_of v) st pos out)) (rest (v ∷ st) pos out)
    unfolding write
    act_says h =
        says-pick (ltb (length out) items_most) _ _ f (rest (v ∷ st) pos out)
        (λ e fine. ih (record { st = st; pos = pos; out = output_of v (place_of v) out }) solid.1 fine ∙ act_is h) (λ e fine. absurd fine)

    -- a terminal
    module _ (low : v % 256 < 73) where
      abbrev after : Answer Item → Answer Item
      after a = moved pos (map (read ts) out) a

      as_terminal : rest (v ∷ st) pos out ≡ after (parse G U (tm (terminal (v % 256)) ∷ symbols st) (drop pos ts))
      as_terminal = ap (λ (s : Sym NT Ter Item). after (parse G U (s ∷ symbols st) (drop pos ts))) (is_terminal (v % 256) low)

      stop_at_end : length ts ≤ pos → bad pos ≡ rest (v ∷ st) pos out
      stop_at_end h = inv (as_terminal ∙ ap (λ (l : List Token). after (parse G U (tm (terminal (v % 256)) ∷ symbols st) l)) (ended_at pos h) ∙ ap bad (omega arith))

      module _ (here : pos < length ts) where
        stop_here : (v % 256 ≡ clipped (kind_of (get_or ts pos (sym 0))) → ⊥) → bad pos ≡ rest (v ∷ st) pos out
        stop_here ne =
            inv (as_terminal ∙ ap (λ (l : List Token). after (parse G U (tm (terminal (v % 256)) ∷ symbols st) l)) (opened pos here)
            ∙ ap after (on_other (terminal (v % 256)) (symbols st) (get_or ts pos (sym 0)) (drop (pos + 1) ts) (eats_other (get_or ts pos (sym 0)) (v % 256) solid.0 low ne))
            ∙ ap bad (omega arith))

        go_on : v % 256 ≡ clipped (kind_of (get_or ts pos (sym 0))) → moved (pos + 1) (map (read ts) out ++ eaten_items (v % 256) (get_or ts pos (sym 0))) (parse G U (symbols st) (drop (pos + 1) ts)) ≡ rest (v ∷ st) pos out
        go_on e =
            inv (as_terminal ∙ ap (λ (l : List Token). after (parse G U (tm (terminal (v % 256)) ∷ symbols st) l)) (opened pos here)
            ∙ ap after (on_eat G U K good (terminal (v % 256)) (symbols st) (get_or ts pos (sym 0)) (eaten_items (v % 256) (get_or ts pos (sym 0))) (drop (pos + 1) ts) (eats-same (get_or ts pos (sym 0)) (v % 256) (proper_at ts pos proper here) low e))
            ∙ moved_later pos (map (read ts) out) (eaten_items (v % 256) (get_or ts pos (sym 0))) (parse G U (symbols st) (drop (pos + 1) ts)))

        silent : v % 256 < 70 → v % 256 ≡ clipped (kind_of (get_or ts pos (sym 0))) → rest st (pos + 1) out ≡ rest (v ∷ st) pos out
        silent h e =
            ap (λ (o : List Item). moved (pos + 1) o (parse G U (symbols st) (drop (pos + 1) ts)))
            (inv (append-nil (map (read ts) out)) ∙ ap (λ (b : Bool). map (read ts) out ++ pick b [] (held (get_or ts pos (sym 0)) ∷ [])) (inv (lt-ltb (v % 256) 70 h)))
            ∙ go_on e

        heard : 70 ≤ v % 256 → v % 256 ≡ clipped (kind_of (get_or ts pos (sym 0))) → rest st (pos + 1) (output_of v pos out) ≡ rest (v ∷ st) pos out
        heard h e =
            ap (λ (o : List Item). moved (pos + 1) o (parse G U (symbols st) (drop (pos + 1) ts)))
            (map_snoc (read ts) out _ ∙ ap (λ (i : Item). map (read ts) out ++ i ∷ []) (read_held ts (v % 256) pos _ (omega arith) (omega arith))
            ∙ ap (λ (b : Bool). map (read ts) out ++ pick b [] (held (get_or ts pos (sym 0)) ∷ [])) (inv (le-ltb (v % 256) 70 h)))
            ∙ go_on e

        name-says : 70 ≤ v % 256 → v % 256 ≡ clipped (kind_of (get_or ts pos (sym 0))) → Says (next f (write v pos st (pos + 1) out)) (rest (v ∷ st) pos out)
        unfolding write
        name-says h e =
            says-pick (ltb (length out) items_most) _ _ f (rest (v ∷ st) pos out)
            (λ g fine. ih (record { st = st; pos = pos + 1; out = output_of v pos out }) solid.1 fine ∙ heard h e) (λ g fine. absurd fine)

        eat-says : v % 256 ≡ clipped (kind_of (get_or ts pos (sym 0))) → Says (next f (pick (ltb (symbol_of v) 70) (go (record { st = st; pos = pos + 1; out = out })) (write v pos st (pos + 1) out))) (rest (v ∷ st) pos out)
        eat-says e =
            says-pick (ltb (symbol_of v) 70) (go (record { st = st; pos = pos + 1; out = out })) (write v pos st (pos + 1) out) f (rest (v ∷ st) pos out)
            (λ h fine. ih (record { st = st; pos = pos + 1; out = out }) solid.1 fine ∙ silent (ltb-true (symbol_of v) 70 h) e)
            (λ h. name-says (ltb-false (symbol_of v) 70 h) e)

      terminal-says : Says (next f (eat (map kind_of ts) v st pos out)) (rest (v ∷ st) pos out)
      unfolding eat
      terminal-says =
          says-pick (ltb pos (length (map kind_of ts))) _ _ f (rest (v ∷ st) pos out)
          (λ h.
          let here : pos < length ts = rw many at (ltb-true pos (length (map kind_of ts)) h) in
          says-pick (eqb (symbol_of v) (column (map kind_of ts) pos)) _ _ f (rest (v ∷ st) pos out)
          (λ e. eat-says here (eqb-true (symbol_of v) (column (map kind_of ts) pos) e ∙ column_is pos here))
          (λ e fine. stop_here here (λ z. eqb-false (symbol_of v) (column (map kind_of ts) pos) e (z ∙ inv (column_is pos here)))))
          (λ h fine. stop_at_end (rw many at (ltb-false pos (length (map kind_of ts)) h)))

    -- a nonterminal
    module _ (lo : 73 ≤ v % 256) (hi : v % 256 < c_or_else) (p : ℕ) (ep : p ≡ production (v % 256) (column (map kind_of ts) pos)) where
      abbrev after_all : Answer Item → Answer Item
      after_all a = moved pos (map (read ts) out) a

      as_nonterminal : (l : List Token) → drop pos ts ≡ l → rest (v ∷ st) pos out ≡ after_all (parse G U (nt (nonterminal (v % 256)) ∷ symbols st) l)
      as_nonterminal l e =
          ap (λ (s : Sym NT Ter Item). after_all (parse G U (s ∷ symbols st) (drop pos ts))) (is_nonterminal (v % 256) lo hi)
          ∙ ap (λ (w : List Token). after_all (parse G U (nt (nonterminal (v % 256)) ∷ symbols st) w)) e

      by_token : pos < length ts → p ≡ production (v % 256) (clipped (kind_of (get_or ts pos (sym 0))))
      by_token h = ep ∙ ap (production (v % 256)) (column_is pos h)

      by_end : length ts ≤ pos → p ≡ production (v % 256) 0
      by_end h = ep ∙ ap (production (v % 256)) (column_end (map kind_of ts) pos (rw many h))

      stuck : p ≡ 0 → bad pos ≡ rest (v ∷ st) pos out
      stuck e =
          ⊎_elim
          (λ h. inv (as_nonterminal _ (opened pos h) ∙ ap after_all (on_none (nonterminal (v % 256)) (symbols st) (get_or ts pos (sym 0)) (drop (pos + 1) ts) (chooses_none (v % 256) lo hi (get_or ts pos (sym 0)) (inv (by_token h) ∙ e))) ∙ ap bad (omega arith)))
          (λ h. inv (as_nonterminal _ (ended_at pos h) ∙ ap after_all (at_end_none (nonterminal (v % 256)) (symbols st) (not-empty (v % 256) lo hi (inv (by_end h) ∙ e))) ∙ ap bad (omega arith)))
          (lt_or_ge pos (length ts))

      module _ (ne : p ≡ 0 → ⊥) where
        is_solid : T (solid? (right p))
        unfolding solid_rights
        is_solid = rw ep (at_right solid_rights solid_all (v % 256) (column (map kind_of ts) pos) lo hi (column-low (map kind_of ts) pos) (rw ep at ne))

        used : parse G U (map symbol (right p) ++ symbols st) (drop pos ts) ≡ parse G U (nt (nonterminal (v % 256)) ∷ symbols st) (drop pos ts)
        used =
            ⊎_elim
            (λ h. rw (opened pos h) (inv (on_use G U K good (nonterminal (v % 256)) (symbols st) (map symbol (right p)) (get_or ts pos (sym 0)) (drop (pos + 1) ts) (rw (by_token h) (chooses (v % 256) lo hi (get_or ts pos (sym 0)) (rw (by_token h) at ne))))))
            (λ h. rw (ended_at pos h) (inv (at_end_use (nonterminal (v % 256)) (map symbol (right p)) (symbols st) (rw (by_end h) (empty (v % 256) lo hi (rw (by_end h) at ne))))))
            (lt_or_ge pos (length ts))

        unfolded : rest (marked (mark v pos out) (right p) ++ st) pos out ≡ rest (v ∷ st) pos out
        unfolded =
            ap (λ (k : Right). after_all (parse G U k (drop pos ts))) (symbols-marked (mark v pos out) (right p) st (mark_plain v pos out) is_solid)
            ∙ ap after_all used
            ∙ inv (as_nonterminal (drop pos ts) refl)

      nonterminal-says : Says (next f (expand v st pos out p)) (rest (v ∷ st) pos out)
      unfolding expand
      nonterminal-says =
          says-pick (eqb p 0) _ _ f (rest (v ∷ st) pos out) (λ e fine. stuck (eqb-true p 0 e))
          (λ e. says-pick (leb (length (right p) + length st) most_stack) _ _ f (rest (v ∷ st) pos out)
          (λ g fine.
          ih (record { st = marked (mark v pos out) (right p) ++ st; pos = pos; out = out }) (solid_marked (mark v pos out) (right p) st (mark_plain v pos out) (is_solid (eqb-false p 0 e)) solid.1) fine
          ∙ unfolded (eqb-false p 0 e))
          (λ g fine. absurd fine))

  -- where the stack is empty
  empty-says : (f : Config → Outcome) (pos : ℕ) (out : List ℕ) → Says (next f (step_on (map kind_of ts) [] pos out)) (rest [] pos out)
  unfolding step_on
  empty-says f pos out =
      ⊎_elim (λ h fine. more h) (λ h fine. over h) (lt_or_ge pos (length ts))
    where
      more : pos < length ts → answer_of ts (pick (ltb pos (length (map kind_of ts))) (refused pos) (done out)) ≡ rest [] pos out
      more h = simp (many, lt-ltb pos (length ts) h) (inv (ap (λ (l : List Token). moved pos (map (read ts) out) (parse G U [] l)) (opened pos h) ∙ ap bad (omega arith)))

      over : length ts ≤ pos → answer_of ts (pick (ltb pos (length (map kind_of ts))) (refused pos) (done out)) ≡ rest [] pos out
      over h = simp (many, le-ltb pos (length ts) h) (inv (ap (λ (l : List Token). moved pos (map (read ts) out) (parse G U [] l)) (ended_at pos h) ∙ ap ok (append-nil (map (read ts) out))))

  module _ (proper : AllProper ts) (short : length ts ≤ tokens_most) where
    turn_says : (f : Config → Outcome) → ((c : Config) → Solid c.st → Says (f c) (rest c.st c.pos c.out)) → (st : List ℕ) (pos : ℕ) (out : List ℕ) → Solid st →
        Says (next f (step_on (map kind_of ts) st pos out)) (rest st pos out)
    unfolding step_on
    turn_says f ih [] pos out solid = empty-says f pos out
    turn_says f ih (v ∷ st) pos out solid =
        says-pick (ltb (symbol_of v) 73) (eat (map kind_of ts) v st pos out) _ f (rest (v ∷ st) pos out)
        (λ e. terminal-says proper short f ih v st pos out solid (ltb-true (symbol_of v) 73 e))
        (λ e. says-pick (ltb (symbol_of v) c_or_else) (expand v st pos out (production (symbol_of v) (column (map kind_of ts) pos))) _ f (rest (v ∷ st) pos out)
        (λ g. nonterminal-says proper short f ih v st pos out solid (ltb-false (symbol_of v) 73 e) (ltb-true (symbol_of v) c_or_else g) _ refl)
        (λ g. act_says proper short f ih v st pos out solid (ltb-false (symbol_of v) c_or_else g)))

    run-says : (f : ℕ) (c : Config) → Solid c.st → Says (run (map kind_of ts) f c) (rest c.st c.pos c.out)
    unfolding run
    run-says zero c solid = λ fine. absurd fine
    run-says (suc f) c solid = turn_says (run (map kind_of ts) f) (run-says f) c.st c.pos c.out solid

    moved_none : (x : Answer Item) → moved 0 [] x ≡ x
    moved_none (ok p) = refl
    moved_none (bad j) = ap bad (omega arith)

    -- THE SAME ANSWER
    pub same_answer : answer_of ts (machine (map kind_of ts)) ≡ parse_model ts
    same_answer = run-says most_steps start (lit≤ tt, tt) (never_spent (map kind_of ts) (rw many short)) ∙ moved_none (parse_model ts)
