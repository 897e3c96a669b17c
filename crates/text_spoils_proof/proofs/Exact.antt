-- REFUSALS 1 AND 2 OF BYTES AND TOKENS, number, place and length: a text is refused exactly as `Spoils` says.
use mathlib.Core.Path.{◌≡◌, refl, sym, ap, ◌∙◌}
use mathlib.Core.Bool.{Bool, true, false}
use mathlib.Core.List.{List, [], ◌∷◌, ◌++◌, append_assoc}
use mathlib.Core.Logic.{◌↔◌, ◌⊎◌, inl, inr}
use Prim.Native.Nat.{ℕ, zero, suc, ◌+◌, ◌-◌, ◌≤◌, ◌<◌}
use native.Mathlib.Omega.{arith}
use borrow.Author.Tests.{ltb-true, ltb-false, lt-ltb, le-ltb}
use lib.Dec.{ltb}
use lib.ListN.{length, drop, length-append}
use lib.Seq.{drop_at}
use Rattle.base_ceilings.specs.Ceilings.{text_most, tokens_most}
use Rattle.base_bytes.specs.Choice.{pick}
use Rattle.text_pieces.specs.Pieces.{piece_of}
use Rattle.text_pieces.specs.declared.Piece.{Piece}
use Rattle.text_pieces.specs.declared.Piece.TheVariants.{Skip, Take, Stop}
use Rattle.text_pieces.proofs.Sizes.{Sized, piece-sized}
use Rattle.spec_text.specs.Placed.{Placed, placed}
use Rattle.text_tokens.specs.Reading.{Reading, tokens, refused, before, follow, read_from, reading}
use Rattle.spec_text.specs.Spelled.{Spelled, Longest}
use Rattle.spec_text.specs.Layout.{Gap, none, Laid}
use Rattle.text_spacing_proof.proofs.Fronts.{front-taken, FrontToken, front-sound, Skipped, skip_sound}
use Rattle.text_spacing_proof.proofs.Exact.{behind, read_gap, read_token, reading_exact}
use Rattle.text_spacing_proof.proofs.Longest.{joins_longest, longest_joins}
use Rattle.spec_text.specs.Spoils.{Begins, gap, token, Breaks, wrong, too_many, Spoils, too_long, broken}
use Rattle.text_spoils_proof.proofs.Fronts.{wrong_stops, stops_wrong}

-- ---- from what breaks a text to its reading
begins-read : {c i j : ℕ} {t s : List ℕ} → Begins c i t j s → (left most x k n : ℕ) → c + left ≡ most → read_from j left 0 s ≡ refused x k n → read_from i most 0 t ≡ refused x k n
begins-read (gap {i = i} {s = s} G) left most x k n e r = let z : most ≡ left = omega arith in rw z (read_gap G i left s ∙ r)
begins-read (token {n = c} {i = i} {k = kind} {g = g} {x = y} {r = u} G z j B) left zero x k n e r = absurd (omega arith)
begins-read (token {n = c} {i = i} {k = kind} {g = g} {x = y} {r = u} G z j B) left (suc most) x k n e r =
    read_gap G i (suc most) (y ++ u)
    ∙ (read_token z u (i + length g) most (longest_joins z u j)
    ∙ ap (before (placed kind (i + length g) (length y))) (begins-read B left most x k n (omega arith) r))

stop_read : (s : List ℕ) (i left x n : ℕ) → piece_of s ≡ Stop x n → read_from i left 0 s ≡ refused x i n
unfolding read_from piece_of
stop_read [] i left x n e = absurd (let z : ◌≡◌ {A = ℕ} 0 1 = cc in omega arith)
stop_read (b ∷ s) i left x n e = rw e

full-read : (s : List ℕ) (i k n : ℕ) → piece_of s ≡ Take k n → read_from i 0 0 s ≡ refused 2 i n
unfolding read_from piece_of
full-read [] i k n e = absurd (let z : ◌≡◌ {A = ℕ} 0 1 = cc in omega arith)
full-read (b ∷ s) i k n e = rw e

breaks_read : {most i x j n : ℕ} {t : List ℕ} → Breaks most i t x j n → read_from i most 0 t ≡ refused x j n
breaks_read {most} {i} {x} {j} {n} (wrong {c = c} {s = s} B h w) = begins-read B (most - c) most x j n (omega arith) (stop_read s j (most - c) x n (wrong_stops w))
breaks_read {most} (too_many {j = j} {k = k} {x = x} s B z l) = begins-read B 0 most 2 j (length x) (omega arith) (full-read (x ++ s) j k (length x) (front-taken s z (longest_joins z s l)))

-- ---- from the reading to what breaks the text
begins_gap : (i : ℕ) (g : List ℕ) {c j : ℕ} {r s : List ℕ} → ((h : List ℕ) → Gap h → Gap (g ++ h)) → Begins c (i + length g) r j s → Begins c i (g ++ r) j s
begins_gap i g f (gap {g = h} {s = s} G) =
    let e : i + length g + length h ≡ i + length (g ++ h) = omega (arith, length-append g h) in
    rw (← append_assoc g h s, e) (gap (f h G))
begins_gap i g f (token {g = h} {x = x} {r = r} G z j B) =
    let e : i + length g + length h ≡ i + length (g ++ h) = omega (arith, length-append g h) in
    rw (← append_assoc g h (x ++ r)) (token (f h G) z j (rw e at B))

breaks_gap : (i : ℕ) (g : List ℕ) {most x j n : ℕ} {r : List ℕ} → ((h : List ℕ) → Gap h → Gap (g ++ h)) → Breaks most (i + length g) r x j n → Breaks most i (g ++ r) x j n
breaks_gap i g f (wrong B h w) = wrong (begins_gap i g f B) h w
breaks_gap i g f (too_many s B z l) = too_many s (begins_gap i g f B) z l

begins_token : (i k : ℕ) (x r : List ℕ) {c j : ℕ} {s : List ℕ} → Spelled k x → Longest x r → Begins c (i + length x) r j s → Begins (suc c) i (x ++ r) j s
begins_token i k x r z l B = let e : i + length x ≡ i + 0 + length x = omega arith in token none z l (rw e at B)

breaks_token : (i k most : ℕ) (x r : List ℕ) {y j n : ℕ} → Spelled k x → Longest x r → Breaks most (i + length x) r y j n → Breaks (suc most) i (x ++ r) y j n
breaks_token i k most x r z l (wrong B h w) = wrong (begins_token i k x r z l B) (omega arith) w
breaks_token i k most x r z l (too_many s B y m) = too_many s (begins_token i k x r z l B) y m

no_refusal : {X : Type 0} {x i n : ℕ} {ps : List Placed} → tokens ps ≡ refused x i n → X
no_refusal e = absurd (let z : ◌≡◌ {A = ℕ} 0 1 = cc in omega arith)

-- a refusal behind a token is that of the rest
before_refused : (p : Placed) (r : Reading) {x i n : ℕ} → before p r ≡ refused x i n → r ≡ refused x i n
before_refused p (tokens ps) e = no_refusal e
before_refused p (refused y j m) e = e

shorter : (b : ℕ) (s g rest : List ℕ) (n f : ℕ) → b ∷ s ≡ g ++ rest → length g ≡ n → 0 < n → length (b ∷ s) ≤ suc f → length rest ≤ f
shorter b s g rest n f e l h k = omega (arith, ap length e, length-append g rest)

here : (i : ℕ) (s : List ℕ) → Begins 0 i s i s
here i s = let e : i + 0 ≡ i = omega arith in rw e at (gap {i = i} {g = []} {s = s} none)

same_refusal : (X : ℕ → ℕ → ℕ → Type 0) {x i n y j m : ℕ} → refused x i n ≡ refused y j m → X x i n → X y j m
same_refusal X {x} {i} {n} {y} {j} {m} e z =
    let p : x ≡ y = cc in
    let q : i ≡ j = cc in
    let r : n ≡ m = cc in
    rw (← p, ← q, ← r) z

read_breaks : (f i most : ℕ) (t : List ℕ) (x j n : ℕ) → length t ≤ f → read_from i most 0 t ≡ refused x j n → Breaks most i t x j n
unfolding read_from
read_breaks zero i most [] x j n h e = no_refusal e
read_breaks zero i most (b ∷ t) x j n h e = absurd (omega arith)
read_breaks (suc f) i most [] x j n h e = no_refusal e
read_breaks (suc f) i most (b ∷ t) x j n h e = go (piece_of (b ∷ t)) refl (piece-sized b t) e (λ i most t. read_breaks f i most t x j n)
  where
    Shorter : Type 0
    Shorter = (i most : ℕ) (t : List ℕ) → length t ≤ f → read_from i most 0 t ≡ refused x j n → Breaks most i t x j n

    skipped : (m : ℕ) → Skipped (b ∷ t) m → 0 < m → read_from (i + m) most 0 (drop m (b ∷ t)) ≡ refused x j n → Shorter → Breaks most i (b ∷ t) x j n
    skipped m z p q r =
        let d : drop m (b ∷ t) ≡ z.rest = ap (drop m) z.whole ∙ drop_at z.g z.rest m z.size in
        let y = r (i + m) most z.rest (shorter b t z.g z.rest m f z.whole z.size p h) (rw d at q) in
        rw z.whole (breaks_gap i z.g z.gap (rw z.size y))

    taken : (k m most : ℕ) → FrontToken (b ∷ t) k m → 0 < m → read_from (i + m) most 0 (drop m (b ∷ t)) ≡ refused x j n → Shorter → Breaks (suc most) i (b ∷ t) x j n
    taken k m most z p q r =
        let d : drop m (b ∷ t) ≡ z.rest = ap (drop m) z.whole ∙ drop_at z.x z.rest m z.size in
        let y = r (i + m) most z.rest (shorter b t z.x z.rest m f z.whole z.size p h) (rw d at q) in
        rw z.whole (breaks_token i k most z.x z.rest z.spelled (joins_longest z.spelled z.rest z.longest) (rw z.size y))

    full : (k m : ℕ) → FrontToken (b ∷ t) k m → refused 2 i m ≡ refused x j n → Breaks 0 i (b ∷ t) x j n
    full k m z q =
        let y : Breaks 0 i (z.x ++ z.rest) 2 i (length z.x) = too_many z.rest (here i (z.x ++ z.rest)) z.spelled (joins_longest z.spelled z.rest z.longest) in
        same_refusal (Breaks 0 i (b ∷ t)) q (rw (← z.size, z.whole) y)

    go : (p : Piece) → piece_of (b ∷ t) ≡ p → Sized (suc (length t)) p → follow p i most (λ n l. read_from (i + 1) l (n - 1) t) ≡ refused x j n → Shorter → Breaks most i (b ∷ t) x j n
    go (Skip m) q z e r = skipped m (skip_sound b t m q) z.0 (sym (behind i most m b t z.0) ∙ e) r
    go (Stop y m) q z e r = same_refusal (Breaks most i (b ∷ t)) e (wrong (here i (b ∷ t)) (omega arith) (stops_wrong b t y m q))
    go (Take k m) q z e r = by most e
      where
        by : (most : ℕ) → follow (Take k m) i most (λ n l. read_from (i + 1) l (n - 1) t) ≡ refused x j n → Breaks most i (b ∷ t) x j n
        by zero e = full k m (front-sound b t k m q) e
        by (suc most) e = taken k m most (front-sound b t k m q) z.0 (sym (behind i most m b t z.0) ∙ before_refused (placed k i m) (read_from (i + 1) most (m - 1) t) e) r

spoils_read : {t : List ℕ} {x i n : ℕ} → Spoils t x i n → reading t ≡ refused x i n
spoils_read {t} (too_long h) = rw (lt-ltb text_most (length t) h)
spoils_read {t} (broken h z) = rw (le-ltb text_most (length t) h) (breaks_read z)

-- THE REFUSAL OF A TEXT FOR ITS BYTES AND TOKENS: exactly what spoils it
pub reading_spoils : (t : List ℕ) (x i n : ℕ) → (reading t ≡ refused x i n) ↔ Spoils t x i n
reading_spoils t x i n = (to (ltb text_most (length t)) refl, spoils_read)
  where
    to : (b : Bool) → ltb text_most (length t) ≡ b → pick b (refused 2 0 0) (read_from 0 tokens_most 0 t) ≡ refused x i n → Spoils t x i n
    to true h e = same_refusal (Spoils t) e (too_long (ltb-true text_most (length t) h))
    to false h e = broken (ltb-false text_most (length t) h) (read_breaks (length t) 0 tokens_most t x i n (omega arith) e)

-- ---- so every text is laid out within its ceilings or is spoiled, never both, and in one way
pub laid_or_spoiled : (t : List ℕ) → ((ps : List Placed) × Laid 0 t ps × (length t ≤ text_most) × (length ps ≤ tokens_most)) ⊎ ((x : ℕ) × (i : ℕ) × (n : ℕ) × Spoils t x i n)
laid_or_spoiled t = go (reading t) refl
  where
    go : (r : Reading) → reading t ≡ r → ((ps : List Placed) × Laid 0 t ps × (length t ≤ text_most) × (length ps ≤ tokens_most)) ⊎ ((x : ℕ) × (i : ℕ) × (n : ℕ) × Spoils t x i n)
    go (tokens ps) e = let (L, h, k) = (reading_exact t ps).0 e in inl (ps, L, h, k)
    go (refused x i n) e = inr (x, i, n, (reading_spoils t x i n).0 e)

pub spoiled_once : (t : List ℕ) (x i n y j m : ℕ) → Spoils t x i n → Spoils t y j m → (x ≡ y) × (i ≡ j) × (n ≡ m)
spoiled_once t x i n y j m a b = let e : refused x i n ≡ refused y j m = sym (spoils_read a) ∙ spoils_read b in (cc, cc, cc)

pub not-both : (t : List ℕ) (ps : List Placed) (x i n : ℕ) → Laid 0 t ps → length ps ≤ tokens_most → length t ≤ text_most → Spoils t x i n → ⊥
not-both t ps x i n L k h s = no_refusal (sym ((reading_exact t ps).1 (L, h, k)) ∙ spoils_read s)
