-- THE ONE-SPACE RULE: tokens written with a space exactly where two would read otherwise read back, each such space is needed, and no text of those tokens is shorter.
use mathlib.Core.Path.{◌≡◌, refl, sym, ap, ◌∙◌}
use mathlib.Core.Bool.{Bool, true, false}
use mathlib.Core.List.{List, [], ◌∷◌, ◌++◌, append_assoc}
use Prim.Native.Nat.{ℕ, zero, suc, ◌+◌, ◌-◌, ◌≤◌, ◌<◌}
use native.Mathlib.Omega.{arith}
use lib.ListN.{length, get_or, take, drop, length-append, get_or-append}
use lib.Seq.{drop_at, take_at}
use Rattle.base_ceilings.specs.Ceilings.{text_most, tokens_most}
use Rattle.base_bytes.specs.Choice.{pick}
use Rattle.base_bytes.proofs.Tests.{true_false}
use Rattle.base_kinds.specs.Kinds.{Token, kind_of}
use Rattle.text_pieces.specs.Pieces.{piece_of}
use Rattle.text_pieces.specs.declared.Piece.TheVariants.{Take}
use Rattle.text_tokens.specs.Reading.{tokens, reading}
use Rattle.spec_text.specs.Placed.{Placed, placed}
use Rattle.spec_text.specs.Spelled.{Spelled, joins}
use Rattle.spec_text.specs.Layout.{Gap, none, blank, Laid, ends, token}
use Rattle.text_spacing_proof.specs.Sound.{Ordered}
use Rattle.spec_text.specs.Writing.{spell, token_of, part_of, token_in, tokens_in, apart, write_behind, write}
use Rattle.text_spacing_proof.specs.Sound.{Sound, AllSound, Spaced}
use Rattle.text_spacing_proof.proofs.Fronts.{front-sound, spelled-some}
use Rattle.text_spacing_proof.proofs.Longest.{joins_longest, longest_joins}
use Rattle.text_spacing_proof.proofs.Exact.{reading_exact}
use Rattle.text_spacing_proof.proofs.Tokens.{joins_space, joins_end, kept, sound-spelled, token_back}

-- ---- tokens do not overlap
laid_ordered : {i : ℕ} {t : List ℕ} {ps : List Placed} → Laid i t ps → Ordered i (i + length t) ps
laid_ordered (ends G) = omega arith
laid_ordered (token {i = i} {g = g} {x = x} {s = s} {ps = ps} G z j L) =
    let e : i + length g + length x + length s ≡ i + length (g ++ (x ++ s)) = omega (arith, length-append g (x ++ s), length-append x s) in
    (omega arith, omega (arith, spelled-some z), rw e at (laid_ordered L))

pub tokens_ordered : (t : List ℕ) (ps : List Placed) → reading t ≡ tokens ps → Ordered 0 (length t) ps
tokens_ordered t ps e =
    let q : 0 + length t ≡ length t = omega arith in
    rw q at (laid_ordered ((reading_exact t ps).0 e).0)

-- ---- the tokens of a layout
contents : {i : ℕ} {t : List ℕ} {ps : List Placed} → Laid i t ps → List Token
contents (ends G) = []
contents (token {k = k} {x = x} G z j L) = token_of k x ∷ contents L

part_is : (pre g x s : List ℕ) (a : ℕ) → a ≡ length pre + length g → take (a + length x - a) (drop a (pre ++ (g ++ (x ++ s)))) ≡ x
part_is pre g x s a e =
    let d : drop a (pre ++ (g ++ (x ++ s))) ≡ x ++ s = rw (← append_assoc pre g (x ++ s)) (drop_at (pre ++ g) (x ++ s) a (omega (arith, length-append pre g))) in
    rw d (take_at x s (a + length x - a) (omega arith))

regroup : (pre g x s : List ℕ) → pre ++ (g ++ (x ++ s)) ≡ (pre ++ (g ++ x)) ++ s
regroup pre g x s = simp append_assoc

contents_in : (pre : List ℕ) {i : ℕ} {t : List ℕ} {ps : List Placed} (L : Laid i t ps) → i ≡ length pre → tokens_in (pre ++ t) ps ≡ contents L
unfolding contents
contents_in pre (ends G) e = refl
contents_in pre (token {i = i} {k = k} {g = g} {x = x} {s = s} {ps = ps} G z j L) e =
    let a : i + length g ≡ length pre + length g = omega arith in
    let l : i + length g + length x ≡ length (pre ++ (g ++ x)) = omega (arith, length-append pre (g ++ x), length-append g x) in
    rw (part_is pre g x s (i + length g) a)
    (ap (token_of k x ∷◌) (ap (λ (t : List ℕ). tokens_in t ps) (regroup pre g x s) ∙ contents_in (pre ++ (g ++ x)) L l))

-- every token of a text is one that a text can hold
contents_sound : {i : ℕ} {t : List ℕ} {ps : List Placed} (L : Laid i t ps) → AllSound (contents L)
unfolding contents
contents_sound (ends G) = tt
contents_sound (token G z j L) = ((kept z).sound, contents_sound L)

pub tokens-sound : (t : List ℕ) (ps : List Placed) → reading t ≡ tokens ps → AllSound (tokens_in t ps)
tokens-sound t ps e =
    let L = ((reading_exact t ps).0 e).0 in
    rw (contents_in [] L refl) (contents_sound L)

-- every token's bytes are of its kind
parts_spelled : (pre : List ℕ) {i : ℕ} {t : List ℕ} {ps : List Placed} (L : Laid i t ps) → i ≡ length pre → (k : ℕ) → k < length ps
    → Spelled (get_or ps k (placed 0 0 0)).kind (part_of (pre ++ t) (get_or ps k (placed 0 0 0)))
parts_spelled pre (ends G) e k h = absurd (omega arith)
parts_spelled pre (token {i = i} {g = g} {x = x} {s = s} G z j L) e zero h =
    let a : i + length g ≡ length pre + length g = omega arith in
    rw (part_is pre g x s (i + length g) a) z
parts_spelled pre (token {i = i} {g = g} {x = x} {s = s} G z j L) e (suc k) h =
    let l : i + length g + length x ≡ length (pre ++ (g ++ x)) = omega (arith, length-append pre (g ++ x), length-append g x) in
    rw (regroup pre g x s) (parts_spelled (pre ++ (g ++ x)) L l k (omega arith))

pub tokens-spelled : (t : List ℕ) (ps : List Placed) → reading t ≡ tokens ps → (k : ℕ) → k < length ps → Spelled (get_or ps k (placed 0 0 0)).kind (part_of t (get_or ps k (placed 0 0 0)))
tokens-spelled t ps e = parts_spelled [] ((reading_exact t ps).0 e).0 refl

-- ---- NO TEXT OF THE SAME TOKENS IS SHORTER
head_of : (x s : List ℕ) → 0 < length x → get_or (x ++ s) 0 0 ≡ get_or x 0 0
head_of x s h = get_or-append x s 0 0 h

-- a gap of at most one space
abbrev pub space_if : Bool → List ℕ
space_if b = pick b (32 ∷ []) []

-- the space before a token is paid by the gap before it
gap_pays : (a : Token) (k : ℕ) (x y g s : List ℕ) (j : ℕ) → ((c : ℕ) → joins (kind_of a) (spell a) c ≡ joins k x c) → Spelled k x → Spelled j y → joins k x (get_or (g ++ (y ++ s)) 0 0) ≡ false →
    length (space_if (apart a (token_of j y))) ≤ length g
gap_pays a k x y [] s j f p q e =
    let h : apart a (token_of j y) ≡ false = f (get_or (spell (token_of j y)) 0 0) ∙ ((kept q).head_same k x p ∙ (ap (joins k x) (sym (head_of y s (spelled-some q))) ∙ e)) in
    rw h (omega arith)
gap_pays a k x y (b ∷ g) s j f p q e = go (apart a (token_of j y))
  where
    go : (t : Bool) → length (space_if t) ≤ suc (length g)
    go true = omega arith
    go false = omega arith

alike : {k : ℕ} {x : List ℕ} (z : Spelled k x) (c : ℕ) → joins (kind_of (token_of k x)) (spell (token_of k x)) c ≡ joins k x c
alike z c = rw (kept z).kind ((kept z).joins_same c)

short-behind : (a : Token) (k : ℕ) (x : List ℕ) {i : ℕ} {s : List ℕ} {ps : List Placed} (L : Laid i s ps) → ((c : ℕ) → joins (kind_of a) (spell a) c ≡ joins k x c) → Spelled k x → joins k x (get_or s 0 0) ≡ false →
    length (write_behind a (contents L)) ≤ length s
unfolding contents write_behind
short-behind a k x (ends G) f p e = omega arith
short-behind a k x (token {k = j} {g = g} {x = y} {s = s} G z q L) f p e =
    let b = token_of j y in
    let w = space_if (apart a b) in
    omega (arith, gap_pays a k x y g s j f p z e, (kept z).fewest, short-behind b j y L (alike z) z (longest_joins z s q), length-append w (spell b ++ write_behind b (contents L)), length-append (spell b) (write_behind b (contents L)), length-append g (y ++ s), length-append y s)

laid-short : {i : ℕ} {t : List ℕ} {ps : List Placed} (L : Laid i t ps) → length (write (contents L)) ≤ length t
unfolding contents
laid-short (ends G) = omega arith
laid-short (token {k = k} {g = g} {x = x} {s = s} G z q L) =
    let a = token_of k x in
    omega (arith, (kept z).fewest, short-behind a k x L (alike z) z (longest_joins z s q), length-append (spell a) (write_behind a (contents L)), length-append g (x ++ s), length-append x s)

pub written_shortest : (t : List ℕ) (ps : List Placed) → reading t ≡ tokens ps → length (write (tokens_in t ps)) ≤ length t
written_shortest t ps e =
    let L = ((reading_exact t ps).0 e).0 in
    rw (contents_in [] L refl) (laid-short L)

-- ---- WHAT IS WRITTEN READS BACK
pub record Back (pre w : List ℕ) (ts : List Token) : Type 0 where
  pub ps : List Placed
  pub laid : Laid (length pre) w ps
  pub same : tokens_in (pre ++ w) ps ≡ ts
  pub count : length ps ≡ length ts

pub back-reads : (w : List ℕ) (ts : List Token) → Back [] w ts → length w ≤ text_most → length ts ≤ tokens_most → (ps : List Placed) × (reading w ≡ tokens ps) × (tokens_in w ps ≡ ts)
back-reads w ts r h k = (r.ps, (reading_exact w r.ps).1 (r.laid, h, omega (arith, r.count)), r.same)

pub space_gap : (b : Bool) → Gap (space_if b)
space_gap true = blank refl none
space_gap false = none

-- a token behind any gap, before what reads back and joins it not
pub put-before : (pre g : List ℕ) (a : Token) (s : List ℕ) (ts : List Token) → Gap g → Sound a → joins (kind_of a) (spell a) (get_or s 0 0) ≡ false → Back (pre ++ (g ++ spell a)) s ts → Back pre (g ++ (spell a ++ s)) (a ∷ ts)
put-before pre g a s ts G z j r =
    let x = spell a in
    let l : length (pre ++ (g ++ x)) ≡ length pre + length g + length x = omega (arith, length-append pre (g ++ x), length-append g x) in
    record {
      ps = placed (kind_of a) (length pre + length g) (length x) ∷ r.ps;
      laid = token G (sound-spelled a z) (joins_longest (sound-spelled a z) s j) (rw l at r.laid);
      same = rw (part_is pre g x s (length pre + length g) refl, token_back a z) (ap (a ∷◌) (ap (λ (t : List ℕ). tokens_in t r.ps) (regroup pre g x s) ∙ r.same));
      count = ap suc r.count;
    }

-- what comes behind a token joins it not
pub unjoined : (a b : Token) (s : List ℕ) → Sound a → Sound b → joins (kind_of a) (spell a) (get_or (space_if (apart a b) ++ (spell b ++ s)) 0 0) ≡ false
unjoined a b s y z = go (apart a b) refl
  where
    go : (t : Bool) → apart a b ≡ t → joins (kind_of a) (spell a) (get_or (space_if t ++ (spell b ++ s)) 0 0) ≡ false
    go true e = joins_space (sound-spelled a y)
    go false e = ap (joins (kind_of a) (spell a)) (head_of (spell b) s (spelled-some (sound-spelled b z))) ∙ e

written_back : (pre : List ℕ) (b : Bool) (a : Token) (ts : List Token) → Sound a → AllSound ts → Back pre (space_if b ++ (spell a ++ write_behind a ts)) (a ∷ ts)
unfolding write_behind
written_back pre b a [] y z = put-before pre (space_if b) a [] [] (space_gap b) y (joins_end (sound-spelled a y)) (record { ps = []; laid = ends none; same = refl; count = refl })
written_back pre b a (c ∷ ts) y z =
    put-before pre (space_if b) a (space_if (apart a c) ++ (spell c ++ write_behind c ts)) (c ∷ ts) (space_gap b) y (unjoined a c (write_behind c ts) y z.0)
    (written_back (pre ++ (space_if b ++ spell a)) (apart a c) c ts z.0 z.1)

whole_back : (ts : List Token) → AllSound ts → Back [] (write ts) ts
whole_back [] z = record { ps = []; laid = ends none; same = refl; count = refl }
whole_back (a ∷ ts) z = written_back [] false a ts z.0 z.1

pub reads-back : (ts : List Token) → AllSound ts → length (write ts) ≤ text_most → length ts ≤ tokens_most → (ps : List Placed) × (reading (write ts) ≡ tokens ps) × (tokens_in (write ts) ps ≡ ts)
reads-back ts z h k = back-reads (write ts) ts (whole_back ts z) h k

-- ---- EACH SPACE IS NEEDED: without it the first token is not read
pub space_needed : (a b : Token) (rest : List ℕ) → Sound a → Sound b → apart a b ≡ true → piece_of (spell a ++ (spell b ++ rest)) ≡ Take (kind_of a) (length (spell a)) → ⊥
space_needed a b rest y z e q = go (spell a) (spelled-some (sound-spelled a y)) refl q
  where
    go : (x : List ℕ) → 0 < length x → spell a ≡ x → piece_of (x ++ (spell b ++ rest)) ≡ Take (kind_of a) (length x) → ⊥
    go [] h f q = omega arith
    go (c ∷ x) h f q =
        let t = front-sound c (x ++ (spell b ++ rest)) (kind_of a) (length (c ∷ x)) q in
        let u : t.x ≡ c ∷ x = sym (take_at t.x t.rest (length (c ∷ x)) t.size) ∙ (ap (take (length (c ∷ x))) (sym t.whole) ∙ take_at (c ∷ x) (spell b ++ rest) (length (c ∷ x)) refl) in
        let v : t.rest ≡ spell b ++ rest = sym (drop_at t.x t.rest (length (c ∷ x)) t.size) ∙ (ap (drop (length (c ∷ x))) (sym t.whole) ∙ drop_at (c ∷ x) (spell b ++ rest) (length (c ∷ x)) refl) in
        let w : joins (kind_of a) (c ∷ x) (get_or (spell b ++ rest) 0 0) ≡ false = rw (u, v) at t.longest in
        true_false (sym e ∙ (rw f (ap (joins (kind_of a) (c ∷ x)) (sym (head_of (spell b) rest (spelled-some (sound-spelled b z)))) ∙ w)))

-- ---- IN ANY TEXT such neighbours have a byte between them
in_text : (t pre g x s : List ℕ) (k i : ℕ) → i ≡ length pre → t ≡ pre ++ (g ++ (x ++ s)) → token_in t (placed k (i + length g) (length x)) ≡ token_of k x
in_text t pre g x s k i e w = rw w (ap (token_of k) (part_is pre g x s (i + length g) (ap (◌+ length g) e)))

-- behind a token of the text, at its end
spaced_next : (t pre : List ℕ) (k i : ℕ) (x : List ℕ) (p : Placed) {s : List ℕ} {ps : List Placed} (L : Laid i s ps) → i ≡ length pre → t ≡ pre ++ s → p.end ≡ i → token_in t p ≡ token_of k x → Spelled k x → joins k x (get_or s 0 0) ≡ false →
    Spaced t ps → Spaced t (p ∷ ps)
spaced_next t pre k i x p (ends G) e w q a z j r = tt
spaced_next t pre k i x p (token {k = k'} {g = g} {x = y} {s = s} G z' j' L) e w q a z j r =
    (λ h. omega (arith, between (sym (ap₂_apart (token_in t p) (token_of k x) (token_in t (placed k' (i + length g) (length y))) (token_of k' y) a (in_text t pre g y s k' i e w)) ∙ h)), r)
  where
    ap₂_apart : (a b c d : Token) → a ≡ b → c ≡ d → apart a c ≡ apart b d
    ap₂_apart a b c d p q = rw (p, q)

    between : apart (token_of k x) (token_of k' y) ≡ true → 1 ≤ length g
    between h = rw h at (gap_pays (token_of k x) k x y g s k' (alike z) z z' j)

spaced_in : (t pre : List ℕ) {i : ℕ} {s : List ℕ} {ps : List Placed} (L : Laid i s ps) → i ≡ length pre → t ≡ pre ++ s → Spaced t ps
spaced_in t pre (ends G) e w = tt
spaced_in t pre (token {i = i} {k = k} {g = g} {x = x} {s = s} G z j L) e w =
    let l : i + length g + length x ≡ length (pre ++ (g ++ x)) = omega (arith, length-append pre (g ++ x), length-append g x) in
    let v : t ≡ (pre ++ (g ++ x)) ++ s = w ∙ regroup pre g x s in
    spaced_next t (pre ++ (g ++ x)) k (i + length g + length x) x (placed k (i + length g) (length x)) L l v refl (in_text t pre g x s k i e w) z (longest_joins z s j) (spaced_in t (pre ++ (g ++ x)) L l v)

pub tokens_spaced : (t : List ℕ) (ps : List Placed) → reading t ≡ tokens ps → Spaced t ps
tokens_spaced t ps e = spaced_in t [] ((reading_exact t ps).0 e).0 refl refl
