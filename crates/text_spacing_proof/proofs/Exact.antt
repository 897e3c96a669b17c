-- A TEXT'S TOKENS ARE EXACTLY THOSE OF ITS LAYOUT: what the definition reads is laid out so, and what is laid out so is what it reads.
use mathlib.Core.Path.{◌≡◌, refl, sym, ap, ◌∙◌, subst}
use mathlib.Core.Bool.{Bool, true, false}
use mathlib.Core.List.{List, [], ◌∷◌, ◌++◌, append_assoc, append-nil}
use mathlib.Core.Logic.{◌↔◌}
use Prim.Native.Nat.{ℕ, zero, suc, ◌+◌, ◌-◌, ◌≤◌, ◌<◌}
use native.Mathlib.Omega.{arith}
use borrow.Author.Tests.{ltb-false, le-ltb}
use lib.Dec.{ltb}
use lib.ListN.{length, get_or, take, drop, length-append}
use lib.Seq.{drop_at}
use Rattle.base_ceilings.specs.Ceilings.{text_most, tokens_most}
use Rattle.base_bytes.specs.Choice.{pick}
use Rattle.spec_text.specs.Bytes.{is_blank, slash, star}
use Rattle.text_pieces.specs.Spans.{closing}
use Rattle.text_pieces.specs.Pieces.{piece_of}
use Rattle.text_pieces.specs.declared.Piece.{Piece}
use Rattle.text_pieces.specs.declared.Piece.TheVariants.{Skip, Take, Stop}
use Rattle.std.specs.Prelude.{Some}
use Rattle.text_pieces.proofs.Sizes.{Sized, piece-sized, by_test}
use Rattle.text_tokens.specs.Reading.{Reading, tokens, refused, before, follow, read_from, reading}
use Rattle.spec_text.specs.Placed.{Placed, placed}
use Rattle.text_tokens.proofs.Scans.{pass}
use Rattle.spec_text.specs.Spelled.{Spelled, joins}
use Rattle.spec_text.specs.Layout.{Gap, none, blank, comment, Laid, ends, token}
use Rattle.text_spacing_proof.proofs.Spans.{closing-more}
use Rattle.text_spacing_proof.proofs.Comments.{closing-next}
use Rattle.text_spacing_proof.proofs.Longest.{joins_longest, longest_joins}
use Rattle.text_spacing_proof.proofs.Fronts.{front-taken, FrontToken, front-sound, Skipped, skip_sound, spelled-some}

-- ---- one piece at the front
no_tokens : {X : Type 0} {x i n : ℕ} {ps : List Placed} → refused x i n ≡ tokens ps → X
no_tokens e = absurd (let z : ◌≡◌ {A = ℕ} 0 1 = cc in omega arith)

pub behind : (i l n : ℕ) (b : ℕ) (s : List ℕ) → 0 < n → read_from (i + 1) l (n - 1) s ≡ read_from (i + n) l 0 (drop n (b ∷ s))
behind i l zero b s h = absurd (omega arith)
behind i l (suc m) b s h =
    let e : suc m - 1 ≡ m = omega arith in
    rw e (pass (i + 1) l m s ∙ ap (λ (x : ℕ). read_from x l 0 (drop m s)) (omega arith))

past_skip : (i left n b : ℕ) (s : List ℕ) → piece_of (b ∷ s) ≡ Skip n → 0 < n → read_from i left 0 (b ∷ s) ≡ read_from (i + n) left 0 (drop n (b ∷ s))
unfolding read_from
past_skip i left n b s e h = rw e (behind i left n b s h)

past_take : (i left k n b : ℕ) (s : List ℕ) → piece_of (b ∷ s) ≡ Take k n → 0 < n → read_from i (suc left) 0 (b ∷ s) ≡ before (placed k i n) (read_from (i + n) left 0 (drop n (b ∷ s)))
unfolding read_from
past_take i left k n b s e h = rw e (ap (before (placed k i n)) (behind i left n b s h))

-- ---- from the layout to the reading
commented : (c g s : List ℕ) → closing false (c ++ star ∷ slash ∷ []) ≡ Some (length c + 2) → piece_of (slash ∷ star ∷ (c ++ star ∷ slash ∷ g) ++ s) ≡ Skip (length c + 2 + 2)
unfolding piece_of
commented c g s e =
    rw (append_assoc c (star ∷ slash ∷ g) s)
    (rw (← append_assoc c (star ∷ slash ∷ []) (g ++ s), closing-more false (c ++ star ∷ slash ∷ []) (g ++ s) (length c + 2) e))

one-blank : (b : ℕ) (s : List ℕ) → is_blank b ≡ true → piece_of (b ∷ s) ≡ Skip 1
unfolding piece_of
one-blank b s h = rw h

pub read_gap : {g : List ℕ} → Gap g → (i left : ℕ) (s : List ℕ) → read_from i left 0 (g ++ s) ≡ read_from (i + length g) left 0 s
read_gap none i left s = ap (λ (x : ℕ). read_from x left 0 s) (omega arith)
read_gap (blank {b = b} {g = g} e G) i left s =
    past_skip i left 1 b (g ++ s) (one-blank b (g ++ s) e) (omega arith) ∙ (read_gap G (i + 1) left s ∙ ap (λ (x : ℕ). read_from x left 0 s) (omega arith))
read_gap (comment c {g = g} e G) i left s =
    past_skip i left (length c + 2 + 2) slash (star ∷ (c ++ star ∷ slash ∷ g) ++ s) (commented c g s ((closing-next c).1 e)) (omega arith)
    ∙ (ap (read_from (i + (length c + 2 + 2)) left 0) split
    ∙ (read_gap G (i + (length c + 2 + 2)) left s
    ∙ ap (λ (x : ℕ). read_from x left 0 s) (omega (arith, length-append c (star ∷ slash ∷ g)))))
  where
    split : drop (length c + 2 + 2) (slash ∷ star ∷ (c ++ star ∷ slash ∷ g) ++ s) ≡ g ++ s
    split =
        rw (append_assoc c (star ∷ slash ∷ g) s)
        (rw (← append_assoc c (star ∷ slash ∷ []) (g ++ s))
        (drop_at (slash ∷ star ∷ c ++ star ∷ slash ∷ []) (g ++ s) (length c + 2 + 2) (omega (arith, length-append c (star ∷ slash ∷ [])))))

pub read_token : {k : ℕ} {x : List ℕ} → Spelled k x → (s : List ℕ) (i left : ℕ) → joins k x (get_or s 0 0) ≡ false →
    read_from i (suc left) 0 (x ++ s) ≡ before (placed k i (length x)) (read_from (i + length x) left 0 s)
read_token {k} {x} z s i left j = go x (spelled-some z) (front-taken s z j)
  where
    go : (x : List ℕ) → 0 < length x → piece_of (x ++ s) ≡ Take k (length x) → read_from i (suc left) 0 (x ++ s) ≡ before (placed k i (length x)) (read_from (i + length x) left 0 s)
    go [] h e = absurd (omega arith)
    go (b ∷ x) h e =
        past_take i left k (length (b ∷ x)) b (x ++ s) e h
        ∙ ap (λ (y : List ℕ). before (placed k i (length (b ∷ x))) (read_from (i + length (b ∷ x)) left 0 y)) (drop_at (b ∷ x) s (length (b ∷ x)) refl)

read_end : (i left : ℕ) → read_from i left 0 [] ≡ tokens []
unfolding read_from
read_end i left = refl

pub laid-read : {i : ℕ} {t : List ℕ} {ps : List Placed} → Laid i t ps → (left : ℕ) → length ps ≤ left → read_from i left 0 t ≡ tokens ps
laid-read (ends {i = i} {g = g} G) left h = subst (λ (y : List ℕ). read_from i left 0 y ≡ tokens []) (append-nil g) (read_gap G i left [] ∙ read_end (i + length g) left)
laid-read (token G z j L) zero h = absurd (omega arith)
laid-read (token {i = i} {k = k} {g = g} {x = x} {s = s} {ps = ps} G z j L) (suc left) h =
    read_gap G i (suc left) (x ++ s)
    ∙ (read_token z s (i + length g) left (longest_joins z s j)
    ∙ ap (before (placed k (i + length g) (length x))) (laid-read L left (omega arith)))

-- ---- from the reading to the layout
add_gap : (i : ℕ) (g : List ℕ) {rest : List ℕ} {ps : List Placed} → ((h : List ℕ) → Gap h → Gap (g ++ h)) → Laid (i + length g) rest ps → Laid i (g ++ rest) ps
add_gap i g f (ends {g = h} G) = ends (f h G)
add_gap i g f (token {k = k} {g = g'} {x = x} {s = s} {ps = ps} G z j L) =
    let e : i + length g + length g' ≡ i + length (g ++ g') = omega (arith, length-append g g') in
    rw (← append_assoc g g' (x ++ s), e) (token (f g' G) z j (rw e at L))

-- the rest behind a piece is shorter
shorter : (b : ℕ) (s g rest : List ℕ) (n f : ℕ) → b ∷ s ≡ g ++ rest → length g ≡ n → 0 < n → length (b ∷ s) ≤ suc f → length rest ≤ f
shorter b s g rest n f e l h k = omega (arith, ap length e, length-append g rest)

pub record Reads (i left : ℕ) (t : List ℕ) (ps : List Placed) : Type 0 where
  pub laid : Laid i t ps
  pub count : length ps ≤ left

put_token : (i left k n : ℕ) (x rest t : List ℕ) (ps qs : List Placed) → t ≡ x ++ rest → length x ≡ n → ps ≡ placed k i n ∷ qs → Spelled k x → joins k x (get_or rest 0 0) ≡ false →
    Reads (i + n) left rest qs → Reads i (suc left) t ps
put_token i left k n x rest t ps qs w l u sp lo y =
    let e : i + 0 ≡ i = omega arith in
    let L : Laid (i + 0 + length x) rest qs = rw (e, l) y.laid in
    rw (w, u, ← l) (record { laid = rw e at (token {i = i} {g = []} none sp (joins_longest sp rest lo) L); count = omega (arith, y.count) })

read-laid : (f i left : ℕ) (t : List ℕ) (ps : List Placed) → length t ≤ f → read_from i left 0 t ≡ tokens ps → Reads i left t ps
unfolding read_from
read-laid zero i left [] ps h e = let q : [] ≡ ps = cc in rw (← q) (record { laid = ends none; count = omega arith })
read-laid zero i left (b ∷ t) ps h e = absurd (omega arith)
read-laid (suc f) i left [] ps h e = let q : [] ≡ ps = cc in rw (← q) (record { laid = ends none; count = omega arith })
read-laid (suc f) i left (b ∷ t) ps h e = go (piece_of (b ∷ t)) refl (piece-sized b t) e (λ i left t ps. read-laid f i left t ps)
  where
    Before : Type 0
    Before = (i left : ℕ) (t : List ℕ) (ps : List Placed) → length t ≤ f → read_from i left 0 t ≡ tokens ps → Reads i left t ps

    skipped : (n : ℕ) → Skipped (b ∷ t) n → 0 < n → read_from (i + n) left 0 (drop n (b ∷ t)) ≡ tokens ps → Before → Reads i left (b ∷ t) ps
    skipped n z h' q r =
        let d : drop n (b ∷ t) ≡ z.rest = ap (drop n) z.whole ∙ drop_at z.g z.rest n z.size in
        let y = r (i + n) left z.rest ps (shorter b t z.g z.rest n f z.whole z.size h' h) (rw d at q) in
        record { laid = rw z.whole (add_gap i z.g z.gap (rw z.size y.laid)); count = y.count }

    cons : (p : Placed) (left : ℕ) (j : ℕ) (x rest : List ℕ) (y : Reading) → read_from j left 0 rest ≡ y → before p y ≡ tokens ps → length rest ≤ f → Before → (qs : List Placed) × (ps ≡ p ∷ qs) × Reads j left rest qs
    cons p left j x rest (tokens qs) a q l r = (qs, cc, r j left rest qs l a)
    cons p left j x rest (refused u v w) a q l r = no_tokens q

    taken : (left k n : ℕ) → FrontToken (b ∷ t) k n → 0 < n → before (placed k i n) (read_from (i + n) left 0 (drop n (b ∷ t))) ≡ tokens ps → Before → Reads i (suc left) (b ∷ t) ps
    taken left k n z h' q r =
        let d : drop n (b ∷ t) ≡ z.rest = ap (drop n) z.whole ∙ drop_at z.x z.rest n z.size in
        let (qs, u, y) = cons (placed k i n) left (i + n) z.x z.rest (read_from (i + n) left 0 z.rest) refl (rw d at q) (shorter b t z.x z.rest n f z.whole z.size h' h) r in
        put_token i left k n z.x z.rest (b ∷ t) ps qs z.whole z.size u z.spelled z.longest y

    go : (p : Piece) → piece_of (b ∷ t) ≡ p → Sized (suc (length t)) p → follow p i left (λ n l. read_from (i + 1) l (n - 1) t) ≡ tokens ps → Before → Reads i left (b ∷ t) ps
    go (Skip n) q z e r = skipped n (skip_sound b t n q) z.0 (sym (behind i left n b t z.0) ∙ e) r
    go (Stop x n) q z e r = no_tokens e
    go (Take k n) q z e r = least left e
      where
        least : (left : ℕ) → follow (Take k n) i left (λ n l. read_from (i + 1) l (n - 1) t) ≡ tokens ps → Reads i left (b ∷ t) ps
        least zero e = no_tokens e
        least (suc left) e = taken left k n (front-sound b t k n q) z.0 (ap (before (placed k i n)) (sym (behind i left n b t z.0)) ∙ e) r

-- THE TOKENS OF A TEXT: those of its layout, within the ceilings, and no others
pub reading_exact : (t : List ℕ) (ps : List Placed) → (reading t ≡ tokens ps) ↔ (Laid 0 t ps × (length t ≤ text_most) × (length ps ≤ tokens_most))
reading_exact t ps = (to (ltb text_most (length t)) refl, from)
  where
    to : (b : Bool) → ltb text_most (length t) ≡ b → pick b (refused 2 0 0) (read_from 0 tokens_most 0 t) ≡ tokens ps → Laid 0 t ps × (length t ≤ text_most) × (length ps ≤ tokens_most)
    to true h e = no_tokens e
    to false h e = let z = read-laid (length t) 0 tokens_most t ps (omega arith) e in (z.laid, ltb-false text_most (length t) h, z.count)

    from : Laid 0 t ps × (length t ≤ text_most) × (length ps ≤ tokens_most) → reading t ≡ tokens ps
    from (L, h, k) = rw (le-ltb text_most (length t) h) (laid-read L tokens_most k)
