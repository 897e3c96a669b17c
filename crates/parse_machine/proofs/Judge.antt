-- THE ANSWER OF THE WHOLE PASS: for every list of tokens, what the code answers over their kinds is what `parse_grammar` judges (its specs/Depth.antt), so that the theorems
-- on its judgement (accepted exactly the texts of the grammar that are not too deep, each refusal at its exact place) are theorems on the code. Assumes nothing.
use Prim.Native.Nat.{ℕ, suc, ◌+◌, ◌-◌, ◌≤◌, ◌<◌}
use native.Mathlib.Omega.{arith}
use mathlib.Core.Path.{◌≡◌, refl, sym as inv, ap, ◌∙◌}
use mathlib.Core.Bool.{Bool, true, false, cond}
use mathlib.Core.Option.{Option, none, some}
use mathlib.Core.List.{List, [], ◌∷◌, map}
use mathlib.Core.Logic.{⊎_elim}
use lib.ListN.{length, length-map}
use lib.Dec.{ltb, leb, lit≤}
use borrow.Author.Tests.{lt-ltb, le-ltb, le-leb, lt-leb, ltb-false}
use Rattle.base_ceilings.specs.Ceilings.{brackets_most, items_most, selections_most, tokens_most}
use Rattle.base_kinds.specs.Kinds.{Token, kind_of}
use Rattle.base_bytes.specs.Choice.{pick, both, either}
use Rattle.base_codes.specs.Items.{Item}
use Rattle.parse_grammar.specs.Engine.{nt, Answer as Parse, ok, bad, later, ended, Moved, next, bound, step, finish, parse}
use Rattle.parse_grammar.specs.Productions.{NT, n_model, Ter, Right, G}
use Rattle.parse_grammar.specs.Guide.{U, parse_model}
use Rattle.parse_grammar.specs.Judge.{judged as judged_by}
use Rattle.spec_grammar.specs.Depth.{opens_bracket, closes_bracket, opens_selection, closes_selection, count_after, passes, one_later, deep_from}
use Rattle.parse_grammar.specs.Judge.{refused_2, refused_3, judge}
use Rattle.parse_machine.specs.Depth.{deep, too_deep}
use Rattle.parse_machine.specs.Machine.{Outcome, done, refused, spent, machine}
use Rattle.parse_machine.specs.Answer.{refuse, judged, parsed}
use Rattle.parse_machine.specs.Items.{answer_of, AllProper, meant}
use Rattle.parse_machine.proofs.Never.{lt_or_ge, Fine, never_spent}
use Rattle.parse_machine.proofs.Same.{same_answer}
use Rattle.spec_grammar.specs.Depth as parsing

-- ---- depth
over : (u d : Bool) (n m : ℕ) → n ≤ m → ltb m (count_after u d n) ≡ both u (leb m n)
over true d n m h = ⊎_elim (λ g. lt_ltb_le g) (λ g. lt_ltb_ge g) (lt_or_ge n m)
  where
    lt_ltb_le : n < m → ltb m (n + 1) ≡ leb m n
    lt_ltb_le g = le-ltb m (n + 1) (omega arith) ∙ inv (lt-leb m n g)

    lt_ltb_ge : m ≤ n → ltb m (n + 1) ≡ leb m n
    lt_ltb_ge g = lt-ltb m (n + 1) (omega arith) ∙ inv (le-leb m n g)
over false true n m h = le-ltb m (n - 1) (omega arith)
over false false n m h = le-ltb m n h

picks : (a b : Bool) (i x : ℕ) → pick a i (pick b i x) ≡ cond (either a b) i x
picks true b i x = refl
picks false true i x = refl
picks false false i x = refl

-- a place counted from i, or one past the end
abbrev placed : ℕ → ℕ → Option ℕ → ℕ
placed i n none = i + n + 1
placed i n (some j) = i + j

placed-later : (i n : ℕ) (o : Option ℕ) → placed (i + 1) n o ≡ placed i (suc n) (one_later o)
placed-later i n none = omega arith
placed-later i n (some j) = omega arith

placed_cond : (b : Bool) (i n x : ℕ) (o : Option ℕ) → (b ≡ false → x ≡ placed i n o) → cond b i x ≡ placed i n (cond b (some 0) o)
placed_cond true i n x o e = omega arith
placed_cond false i n x o e = e refl

neither : (a b : Bool) → either a b ≡ false → (a ≡ false) × (b ≡ false)
neither true b e = absurd (let z : ◌≡◌ {A = ℕ} 0 1 = ap (λ (c : Bool). cond c 1 0) (inv e) in omega arith)
neither false b e = (refl, e)

deep-same : (ts : List Token) (b s i : ℕ) → b ≤ brackets_most → s ≤ selections_most → deep (map kind_of ts) b s i ≡ placed i (length ts) (deep_from b s ts)
unfolding deep
deep-same [] b s i hb hs = omega arith
deep-same (t ∷ ts) b s i hb hs =
    let b' : ℕ = count_after (opens_bracket t) (closes_bracket t) b in
    let s' : ℕ = count_after (opens_selection t) (closes_selection t) s in
    let x : ltb brackets_most b' ≡ both (opens_bracket t) (leb brackets_most b) = over (opens_bracket t) (closes_bracket t) b brackets_most hb in
    let y : ltb selections_most s' ≡ both (opens_selection t) (leb selections_most s) = over (opens_selection t) (closes_selection t) s selections_most hs in
    picks (ltb brackets_most b') (ltb selections_most s') i (deep (map kind_of ts) b' s' (i + 1))
    ∙ placed_cond (either (ltb brackets_most b') (ltb selections_most s')) i (suc (length ts)) (deep (map kind_of ts) b' s' (i + 1)) (one_later (deep_from b' s' ts))
    (λ e.
    let n = neither (ltb brackets_most b') (ltb selections_most s') e in
    deep-same ts b' s' (i + 1) (ltb-false brackets_most b' n.0) (ltb-false selections_most s' n.1) ∙ placed-later i (length ts) (deep_from b' s' ts))
    ∙ ap (λ (c : Bool). placed i (suc (length ts)) (cond (either c (ltb selections_most s')) (some 0) (one_later (deep_from b' s' ts)))) x
    ∙ ap (λ (c : Bool). placed i (suc (length ts)) (cond (either (both (opens_bracket t) (leb brackets_most b)) c) (some 0) (one_later (deep_from b' s' ts)))) y

-- a place that is some token's
inside : (ts : List Token) (b s j : ℕ) → deep_from b s ts ≡ some j → j < length ts
inside [] b s j e = absurd (let z : ◌≡◌ {A = ℕ} 0 1 = cc in omega arith)
inside (t ∷ ts) b s j e =
    first (passes b s t) (deep_from (count_after (opens_bracket t) (closes_bracket t) b) (count_after (opens_selection t) (closes_selection t) s) ts) e
    (inside ts (count_after (opens_bracket t) (closes_bracket t) b) (count_after (opens_selection t) (closes_selection t) s))
  where
    first : (a : Bool) (o : Option ℕ) → cond a (some 0) (one_later o) ≡ some j → ((k : ℕ) → o ≡ some k → k < length ts) → j < suc (length ts)
    first true o h r = let z : 0 ≡ j = cc in omega arith
    first false none h r = absurd (let z : ◌≡◌ {A = ℕ} 0 1 = cc in omega arith)
    first false (some k) h r = let z : suc k ≡ j = cc in omega (arith, r k refl)

-- ---- the place of a refusal is a token's, or the end
not_past : (w : List Token) (k : Right) (i : ℕ) → parse G U k w ≡ bad i → i ≤ length w
not_past [] k i e = at_end (finish G U k) e
  where
    at_end : (x : Option (List Item)) → ended x ≡ bad i → i ≤ 0
    at_end none h = let z : 0 ≡ i = cc in omega arith
    at_end (some o) h = absurd (let z : ◌≡◌ {A = ℕ} 0 1 = cc in omega arith)
not_past (c ∷ w) k i e = more (step G U (bound G U k) k c) e (not_past w)
  where
    later_on : (o : List Item) (x : Parse Item) → later o x ≡ bad i → ((j : ℕ) → x ≡ bad j → j ≤ length w) → i ≤ suc (length w)
    later_on o (ok p) h r = absurd (let z : ◌≡◌ {A = ℕ} 0 1 = cc in omega arith)
    later_on o (bad j) h r = let z : suc j ≡ i = cc in omega (arith, r j refl)

    more : (x : Option (Moved NT Ter Item)) → next x (λ k'. parse G U k' w) ≡ bad i → ((k' : Right) (j : ℕ) → parse G U k' w ≡ bad j → j ≤ length w) → i ≤ suc (length w)
    more none h r = let z : 0 ≡ i = cc in omega arith
    more (some p) h r = later_on p.0 (parse G U p.1 w) h (r p.1)

-- ---- together
module _ (ts : List Token) where
  by_place : (b : Bool) (j i : ℕ) → meant ts (pick b (refuse 2 j) (refuse 3 i)) ≡ cond b (refused_2 j) (refused_3 i)
  by_place true j i = refl
  by_place false j i = refl

  all_told : (o : Outcome) (p : Parse Item) (d : Option ℕ) → Fine o → answer_of ts o ≡ p → ((j : ℕ) → d ≡ some j → j < length ts) → ((i : ℕ) → p ≡ bad i → i ≤ length ts) →
      meant ts (judged (placed 0 (length ts) d) (length ts) o) ≡ judged_by p d
  all_told (done o) p none fine e h g = rw (← e) (simp (lt-leb (0 + length ts + 1) (length ts) (omega arith)))
  all_told (done o) p (some j) fine e h g =
      let z : 0 + j ≡ j = omega arith in
      rw (← e, z) (simp (le-leb j (length ts) (omega (arith, h j refl))))
  all_told (refused i) p none fine e h g = rw (← e) (simp (lt-leb (0 + length ts + 1) i (omega (arith, g i (inv e)))))
  all_told (refused i) p (some j) fine e h g =
      let z : 0 + j ≡ j = omega arith in
      rw (← e, z) (by_place (leb j i) j i)
  all_told spent p d fine e h g = absurd fine

  module _ (proper : AllProper ts) (short : length ts ≤ tokens_most) (room : ℕ) (enough : items_most ≤ room) where
    many : length (map kind_of ts) ≡ length ts
    many = length-map ts kind_of

    is_judged : parsed (map kind_of ts) room ≡ judged (placed 0 (length ts) (parsing.too_deep ts)) (length ts) (machine (map kind_of ts))
    unfolding parsed
    is_judged = simp (le-ltb room items_most enough, many, le-ltb tokens_most (length ts) short) (rw (deep-same ts 0 0 0 (lit≤ tt) (lit≤ tt)))

    -- THE SAME JUDGEMENT
    pub same_judgement : meant ts (parsed (map kind_of ts) room) ≡ judge ts
    same_judgement =
        ap (meant ts) is_judged
        ∙ all_told (machine (map kind_of ts)) (parse_model ts) (parsing.too_deep ts) (never_spent (map kind_of ts) (rw many short)) (same_answer ts proper short) (inside ts 0 0)
        (not_past ts (nt n_model ∷ []))
