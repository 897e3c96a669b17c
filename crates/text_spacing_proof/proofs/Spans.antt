-- How far runs, strings and comments reach in a text that is put together, and how a text comes apart there.
use mathlib.Core.Path.{◌≡◌, refl, sym, ap, ◌∙◌}
use mathlib.Core.Bool.{Bool, true, false}
use mathlib.Core.Logic.{◌⊎◌, inl, inr}
use mathlib.Core.List.{List, [], ◌∷◌, ◌++◌, append_assoc}
use Prim.Native.Nat.{ℕ, zero, suc, ◌+◌, ◌≤◌}
use native.Mathlib.Omega.{arith}
use borrow.Author.Tests.{eqb-true}
use lib.Dec.{eqb}
use lib.ListN.{length, get_or, take, drop, length-append}
use Rattle.base_bytes.specs.Choice.{pick, both}
use Rattle.base_bytes.proofs.Tests.{both_true, true_false}
use Rattle.spec_text.specs.Bytes.{is_plain, is_escape, quote, backslash, slash, star}
use Rattle.text_pieces.specs.Spans.{span, closing, one_more, quoted, move_of, moved, further}
use Rattle.std.specs.Prelude.{Option, Some, None}
use Rattle.text_pieces.specs.declared.Quoted.{Quoted}
use Rattle.text_pieces.specs.declared.Quoted.TheVariants.{Closed, Spoiled, Unclosed}
use Rattle.text_pieces.specs.declared.Move.TheVariants.{On, End, Bad}
use Rattle.spec_text.specs.Spelled.{all, Between, empty, plain, escape}

-- ---- runs
module _ (p : ℕ → Bool) where
  pub span-whole : (x rest : List ℕ) → all p x ≡ true → p (get_or rest 0 0) ≡ false → span p (x ++ rest) ≡ length x
  unfolding span all
  span-whole [] [] a e = refl
  span-whole [] (c ∷ rest) a e = rw e
  span-whole (b ∷ x) rest a e = let (u, v) = both_true (p b) (all p x) a in rw u (ap suc (span-whole x rest v e))

  pub span-all : (s : List ℕ) → all p (take (span p s) s) ≡ true
  unfolding span all
  span-all [] = refl
  span-all (b ∷ s) = go (p b) refl (span-all s)
    where
      go : (t : Bool) → p b ≡ t → all p (take (span p s) s) ≡ true → all p (take (pick t (suc (span p s)) 0) (b ∷ s)) ≡ true
      go true e r = rw (e, r)
      go false e r = refl

  pub span_stops : p 0 ≡ false → (s : List ℕ) → p (get_or (drop (span p s) s) 0 0) ≡ false
  unfolding span
  span_stops z [] = z
  span_stops z (b ∷ s) = go (p b) refl (span_stops z s)
    where
      go : (t : Bool) → p b ≡ t → p (get_or (drop (span p s) s) 0 0) ≡ false → p (get_or (drop (pick t (suc (span p s)) 0) (b ∷ s)) 0 0) ≡ false
      go true e r = r
      go false e r = e

-- ---- strings
pub quoted-whole : {x : List ℕ} (rest : List ℕ) → Between x → quoted false (x ++ quote ∷ rest) ≡ Closed (length x + 1)
unfolding quoted
quoted-whole rest empty = refl
quoted-whole rest (plain {s = s} p q r b) = rw (q, r, p, quoted-whole rest b) (ap Closed (omega arith))
quoted-whole rest (escape {s = s} e b) = rw (e, quoted-whole rest b) (ap Closed (omega arith))

-- a string that closes
pub record Ends (s : List ℕ) (n : ℕ) : Type 0 where
  pub inside : List ℕ
  pub rest : List ℕ
  pub between : Between inside
  pub whole : s ≡ inside ++ quote ∷ rest
  pub size : length inside + 1 ≡ n

no_close : {X : Type 0} {n : ℕ} → Unclosed ≡ Closed n → X
no_close e = absurd (let z : ◌≡◌ {A = ℕ} 0 1 = cc in omega arith)

no_spoil : {X : Type 0} {m n : ℕ} → Spoiled m ≡ Closed n → X
no_spoil e = absurd (let z : ◌≡◌ {A = ℕ} 0 1 = cc in omega arith)

-- one byte more in front
further_out : (x : Quoted) (n : ℕ) → further x ≡ Closed n → (m : ℕ) × (x ≡ Closed m) × (m + 1 ≡ n)
further_out (Closed m) n e = (m, refl, cc)
further_out (Spoiled m) n e = no_spoil e
further_out Unclosed n e = no_close e

pub quoted-ends : (s : List ℕ) (n : ℕ) → quoted false s ≡ Closed n → Ends s n
unfolding quoted
quoted-ends [] n e = no_close e
quoted-ends (b ∷ []) n e = go (eqb b quote) refl (eqb b backslash) (is_plain b) e
  where
    go : (q : Bool) → eqb b quote ≡ q → (k p : Bool) → moved (pick q End (pick k (On true) (pick p (On false) Bad))) (λ x. Unclosed) ≡ Closed n → Ends (b ∷ []) n
    go true f k p e = record { inside = []; rest = []; between = empty; whole = ap (◌∷ []) (eqb-true b quote f); size = cc }
    go false f true p e = no_close e
    go false f false true e = no_close e
    go false f false false e = no_spoil e
quoted-ends (b ∷ c ∷ s) n e = go (eqb b quote) refl (eqb b backslash) refl (is_plain b) refl e (quoted-ends (c ∷ s)) (quoted-ends s)
  where
    escaped : (x : Bool) → is_escape c ≡ x → b ≡ backslash → ((m : ℕ) → quoted false s ≡ Closed m → Ends s m) → further (moved (pick x (On false) Bad) (λ y. quoted y s)) ≡ Closed n → Ends (b ∷ c ∷ s) n
    escaped true f h r e =
        let (m, u, v) = further_out (further (quoted false s)) n e in
        let (l, w, z) = further_out (quoted false s) m u in
        let y = r l w in
        record { inside = backslash ∷ c ∷ y.inside; rest = y.rest; between = escape f y.between; whole = rw h (ap (λ (a : List ℕ). backslash ∷ c ∷ a) y.whole); size = omega (arith, y.size) }
    escaped false f h r e = no_spoil e

    go : (q : Bool) → eqb b quote ≡ q → (k : Bool) → eqb b backslash ≡ k → (p : Bool) → is_plain b ≡ p → moved (pick q End (pick k (On true) (pick p (On false) Bad))) (λ x. quoted x (c ∷ s)) ≡ Closed n →
        ((m : ℕ) → quoted false (c ∷ s) ≡ Closed m → Ends (c ∷ s) m) → ((m : ℕ) → quoted false s ≡ Closed m → Ends s m) → Ends (b ∷ c ∷ s) n
    go true f k g p h e r t = record { inside = []; rest = c ∷ s; between = empty; whole = ap (◌∷ (c ∷ s)) (eqb-true b quote f); size = cc }
    go false f true g p h e r t = escaped (is_escape c) refl (eqb-true b backslash g) t e
    go false f false g true h e r t =
        let (m, u, v) = further_out (quoted false (c ∷ s)) n e in
        let y = r m u in
        record { inside = b ∷ y.inside; rest = y.rest; between = plain h f g y.between; whole = ap (b ∷◌) y.whole; size = omega (arith, y.size) }
    go false f false g false h e r t = no_spoil e

-- ---- comments
-- what closes a text closes it with more behind
pub closing-more : (starred : Bool) (x g : List ℕ) (n : ℕ) → closing starred x ≡ Some n → closing starred (x ++ g) ≡ Some n
unfolding closing
closing-more starred [] g n e = absurd (let z : ◌≡◌ {A = ℕ} 0 1 = cc in omega arith)
closing-more starred (b ∷ x) g n e = go (both starred (eqb b slash)) (closing (eqb b star) x) refl e (closing-more (eqb b star) x g)
  where
    go : (t : Bool) (y : Option ℕ) → closing (eqb b star) x ≡ y → pick t (Some 1) (one_more y) ≡ Some n → ((m : ℕ) → closing (eqb b star) x ≡ Some m → closing (eqb b star) (x ++ g) ≡ Some m) →
        pick t (Some 1) (one_more (closing (eqb b star) (x ++ g))) ≡ Some n
    go true y q e r = e
    go false (Some m) q e r = rw (r m q) e
    go false None q e r = absurd (let z : ◌≡◌ {A = ℕ} 0 1 = cc in omega arith)

-- is the last byte a star, or the one before where there is none?
abbrev ends_starred : Bool → List ℕ → Bool
ends_starred starred [] = starred
ends_starred starred (b ∷ d) = ends_starred (eqb b star) d

record Shut (starred : Bool) (s : List ℕ) (n : ℕ) : Type 0 where
  inside : List ℕ
  rest : List ℕ
  whole : s ≡ inside ++ slash ∷ rest
  size : length inside + 1 ≡ n
  last : ends_starred starred inside ≡ true
  alone : closing starred (inside ++ slash ∷ []) ≡ Some n

one_out : (x : Option ℕ) (n : ℕ) → one_more x ≡ Some n → (m : ℕ) × (x ≡ Some m) × (m + 1 ≡ n)
one_out (Some m) n e = (m, refl, cc)
one_out None n e = absurd (let z : ◌≡◌ {A = ℕ} 0 1 = cc in omega arith)

shut : (starred : Bool) (s : List ℕ) (n : ℕ) → closing starred s ≡ Some n → Shut starred s n
unfolding closing
shut starred [] n e = absurd (let z : ◌≡◌ {A = ℕ} 0 1 = cc in omega arith)
shut starred (b ∷ s) n e = go (both starred (eqb b slash)) refl e (shut (eqb b star) s)
  where
    go : (t : Bool) → both starred (eqb b slash) ≡ t → pick t (Some 1) (one_more (closing (eqb b star) s)) ≡ Some n → ((m : ℕ) → closing (eqb b star) s ≡ Some m → Shut (eqb b star) s m) → Shut starred (b ∷ s) n
    go true f e r =
        let (u, v) = both_true starred (eqb b slash) f in
        record { inside = []; rest = s; whole = ap (◌∷ s) (eqb-true b slash v); size = cc; last = u; alone = rw u e }
    go false f e r =
        let (m, u, v) = one_out (closing (eqb b star) s) n e in
        let y = r m u in
        record { inside = b ∷ y.inside; rest = y.rest; whole = ap (b ∷◌) y.whole; size = omega (arith, y.size); last = y.last; alone = rw (f, y.alone) (ap Some v) }

-- a list whose last is a star
star-last : (d : List ℕ) → ends_starred false d ≡ true → (c : List ℕ) × (d ≡ c ++ star ∷ [])
star-last [] e = absurd (true_false (sym e))
star-last (b ∷ []) e = ([], ap (◌∷ []) (eqb-true b star e))
star-last (b ∷ a ∷ d) e = let (c, q) = star-last (a ∷ d) e in (b ∷ c, ap (b ∷◌) q)

-- a comment that closes, from behind its opening on
pub record Comment (s : List ℕ) (n : ℕ) : Type 0 where
  pub inside : List ℕ
  pub rest : List ℕ
  pub whole : s ≡ inside ++ star ∷ slash ∷ rest
  pub size : length inside + 2 ≡ n
  pub alone : closing false (inside ++ star ∷ slash ∷ []) ≡ Some (length inside + 2)

parts : (s d rest c : List ℕ) (n : ℕ) → s ≡ d ++ slash ∷ rest → length d + 1 ≡ n → closing false (d ++ slash ∷ []) ≡ Some n → d ≡ c ++ star ∷ [] → Comment s n
parts s d rest c n w l a q =
    let k : length c + 2 ≡ n = omega (arith, ap length q, length-append c (star ∷ [])) in
    record {
      inside = c;
      rest = rest;
      whole = w ∙ rw (q, append_assoc c (star ∷ []) (slash ∷ rest));
      size = k;
      alone = rw k (rw (q, append_assoc c (star ∷ []) (slash ∷ [])) at a);
    }

pub comment_ends : (s : List ℕ) (n : ℕ) → closing false s ≡ Some n → Comment s n
comment_ends s n e =
    let z = shut false s n e in
    let (c, q) = star-last z.inside z.last in
    parts s z.inside z.rest c n z.whole z.size z.alone q
