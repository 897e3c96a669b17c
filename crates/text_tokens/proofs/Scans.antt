-- The laws that the pass over the text cites: what has been read so far, and one piece more.
use mathlib.Core.Path.{◌≡◌, refl, sym, ap, ◌∙◌}
use mathlib.Core.List.{List, [], ◌∷◌, ◌++◌, map}
use Prim.Native.Nat.{ℕ, zero, suc, ◌+◌, ◌-◌, ◌≤◌, ◌<◌}
use native.Mathlib.Omega.{arith}
use native.Mathlib.Numerals.{add-one}
use lib.ListN.{length, get_or, take, drop, set, length-append, length-set, drop_of_length-le, length-drop}
use lib.Seq.{drop-cons, drop-drop, take-suc-set, take_all}
use Rattle.base_ceilings.specs.Ceilings.{tokens_most}
use Rattle.text_pieces.specs.Pieces.{piece_of}
use Rattle.text_pieces.specs.declared.Piece.{Piece}
use Rattle.text_pieces.specs.declared.Piece.TheVariants.{Skip, Take, Stop}
use Rattle.text_pieces.proofs.Sizes.{size, Sized, piece-sized}
use Rattle.text_tokens.specs.Reading.{Reading, tokens, refused, before, follow, read_from}
use Rattle.spec_text.specs.Placed.{Placed, placed}
use Rattle.text_tokens.specs.Scans.{Scanned}
use Rattle.std.specs.Prelude.{Ok, Err}
use Rattle.base_refusal.specs.Refusals.{refusal}

-- the bytes of a piece are passed one by one, or all at once
pub pass : (i left k : ℕ) (s : List ℕ) → read_from i left k s ≡ read_from (i + k) left 0 (drop k s)
unfolding read_from
pass i left zero s = ap (λ (x : ℕ). read_from x left 0 s) (omega arith)
pass i left (suc k) [] = refl
pass i left (suc k) (b ∷ s) = pass (i + 1) left k s ∙ ap (λ (x : ℕ). read_from x left 0 (drop k s)) (omega arith)

-- one piece, and then the rest behind it
module _ (t : List ℕ) (i left : ℕ) (h : i < length t) where
  turn : read_from i left 0 (drop i t) ≡ follow (piece_of (drop i t)) i left (λ n l. read_from (i + 1) l (n - 1) (drop (suc i) t))
  unfolding read_from
  turn = rw (drop-cons t i 0 h)

  rest : (n l : ℕ) → 0 < n → read_from (i + 1) l (n - 1) (drop (suc i) t) ≡ read_from (i + n) l 0 (drop (i + n) t)
  rest n l k =
      pass (i + 1) l (n - 1) (drop (suc i) t)
      ∙ rw (drop-drop (n - 1) (suc i) t) (ap₂_places (i + 1 + (n - 1)) (i + n) (suc i + (n - 1)) (omega arith) (omega arith))
    where
      ap₂_places : (a b c : ℕ) → a ≡ b → c ≡ b → read_from a l 0 (drop c t) ≡ read_from b l 0 (drop b t)
      ap₂_places a b c p q = rw (p, q)

  sized : Sized (length t - i) (piece_of (drop i t))
  sized = rw (drop-cons t i 0 h) (fit (piece_of (get_or t i 0 ∷ drop (suc i) t)) (piece-sized (get_or t i 0) (drop (suc i) t)))
    where
      fit : (p : Piece) → Sized (suc (length (drop (suc i) t))) p → Sized (length t - i) p
      fit p z = (z.0, omega (arith, z.1, length-drop (suc i) t))

  pub turn_skip : (n : ℕ) → piece_of (drop i t) ≡ Skip n → (read_from i left 0 (drop i t) ≡ read_from (i + n) left 0 (drop (i + n) t)) × (0 < n) × (i + n ≤ length t)
  turn_skip n e =
      let z : Sized (length t - i) (Skip n) = rw e at sized in
      (turn ∙ rw e (rest n left z.0), z.0, omega (arith, z.1))

  pub turn_stop : (x n : ℕ) → piece_of (drop i t) ≡ Stop x n → read_from i left 0 (drop i t) ≡ refused x i n
  turn_stop x n e = turn ∙ rw e

pub turn_full : (t : List ℕ) (i k n : ℕ) → i < length t → piece_of (drop i t) ≡ Take k n → read_from i 0 0 (drop i t) ≡ refused 2 i n
turn_full t i k n h e = turn t i 0 h ∙ rw e

pub turn_take : (t : List ℕ) (i left k n : ℕ) → i < length t → piece_of (drop i t) ≡ Take k n →
    (read_from i (suc left) 0 (drop i t) ≡ before (placed k i n) (read_from (i + n) left 0 (drop (i + n) t))) × (0 < n) × (i + n ≤ length t)
turn_take t i left k n h e =
    let z : Sized (length t - i) (Take k n) = rw e at (sized t i left h) in
    (turn t i (suc left) h ∙ rw e (ap (before (placed k i n)) (rest t i left h n left z.0)), z.0, omega (arith, z.1))

-- several tokens before a reading
abbrev pub befores : List Placed → Reading → Reading
befores [] x = x
befores (p ∷ ps) x = before p (befores ps x)

befores_snoc : (ps : List Placed) (p : Placed) (x : Reading) → befores (ps ++ (p ∷ [])) x ≡ befores ps (before p x)
befores_snoc [] p x = refl
befores_snoc (q ∷ ps) p x = ap (before q) (befores_snoc ps p x)

befores_refused : (ps : List Placed) (x i n : ℕ) → befores ps (refused x i n) ≡ refused x i n
befores_refused [] x i n = refl
befores_refused (p ∷ ps) x i n = ap (before p) (befores_refused ps x i n)

befores_end : (ps : List Placed) → befores ps (tokens []) ≡ tokens ps
befores_end [] = refl
befores_end (p ∷ ps) = ap (before p) (befores_end ps)

map_snoc : (f : Placed → ℕ) (ps : List Placed) (p : Placed) → map f (ps ++ (p ∷ [])) ≡ map f ps ++ (f p ∷ [])
map_snoc f [] p = refl
map_snoc f (q ∷ ps) p = ap (f q ∷◌) (map_snoc f ps p)

-- the tokens read so far, n of them, stand at the front of an array
pub record Kept (f : Placed → ℕ) (ps : List Placed) (n : ℕ) (xs : List ℕ) : Type 0 where
  pub room : length xs ≡ tokens_most
  pub front : take n xs ≡ map f ps

kept_more : {f : Placed → ℕ} {ps : List Placed} {n : ℕ} {xs : List ℕ} (p : Placed) → n < tokens_most → Kept f ps n xs → Kept f (ps ++ (p ∷ [])) (n + 1) (set xs n (f p))
kept_more {f} {ps} {n} {xs} p h k =
    record { room = length-set xs n (f p) ∙ k.room; front = rw (add-one, take-suc-set xs n (f p) (omega (arith, k.room)), k.front, map_snoc f ps p) }

-- what is known at the head of the loop, at place i with n tokens read
pub record SoFar (t ks ss es : List ℕ) (i n : ℕ) : Type 0 where
  pub ps : List Placed
  pub whole : read_from 0 tokens_most 0 t ≡ befores ps (read_from i (tokens_most - n) 0 (drop i t))
  pub count : length ps ≡ n
  pub most : n ≤ tokens_most
  pub place : i ≤ length t
  pub kinds : Kept Placed.kind ps n ks
  pub starts : Kept Placed.start ps n ss
  pub ends : Kept Placed.end ps n es

pub at_start : (t ks ss es : List ℕ) → length ks ≡ tokens_most → length ss ≡ tokens_most → length es ≡ tokens_most → SoFar t ks ss es 0 0
at_start t ks ss es a b c =
    record {
      ps = [];
      whole = refl;
      count = refl;
      most = omega arith;
      place = omega arith;
      kinds = record { room = a; front = refl };
      starts = record { room = b; front = refl };
      ends = record { room = c; front = refl };
    }

module _ {t ks ss es : List ℕ} {i n : ℕ} (z : SoFar t ks ss es i n) where
  pub past_skip : (m : ℕ) → i < length t → piece_of (drop i t) ≡ Skip m → SoFar t ks ss es (i + m) n
  past_skip m h e =
      let (q, _, k) = turn_skip t i (tokens_most - n) h m e in
      record {
        ps = z.ps;
        whole = z.whole ∙ ap (befores z.ps) q;
        count = z.count;
        most = z.most;
        place = k;
        kinds = z.kinds;
        starts = z.starts;
        ends = z.ends;
      }

  pub past_take : (k m : ℕ) → i < length t → (n ≡ tokens_most → ⊥) → piece_of (drop i t) ≡ Take k m → SoFar t (set ks n k) (set ss n i) (set es n (i + m)) (i + m) (n + 1)
  past_take k m h d e =
      let l : n < tokens_most = omega (arith, z.most) in
      let (q, _, g) = turn_take t i (tokens_most - (n + 1)) k m h e in
      let s : tokens_most - n ≡ suc (tokens_most - (n + 1)) = omega arith in
      record {
        ps = z.ps ++ (placed k i m ∷ []);
        whole = (rw s at z.whole) ∙ (ap (befores z.ps) q ∙ sym (befores_snoc z.ps (placed k i m) (read_from (i + m) (tokens_most - (n + 1)) 0 (drop (i + m) t))));
        count = length-append z.ps (placed k i m ∷ []) ∙ ap (◌+ 1) z.count;
        most = omega arith;
        place = g;
        kinds = kept_more (placed k i m) l z.kinds;
        starts = kept_more (placed k i m) l z.starts;
        ends = kept_more (placed k i m) l z.ends;
      }

  refused_at : (x j m : ℕ) → read_from i (tokens_most - n) 0 (drop i t) ≡ refused x j m → Scanned (read_from 0 tokens_most 0 t) (Err (refusal x j m)) ks ss es
  refused_at x j m e =
      rw (z.whole ∙ ap (befores z.ps) e ∙ befores_refused z.ps x j m)
      (record { answer = refl; room = omega arith; kinds = refl; starts = refl; ends = refl })

  pub stopped : (x m : ℕ) → i < length t → piece_of (drop i t) ≡ Stop x m → Scanned (read_from 0 tokens_most 0 t) (Err (refusal x i m)) ks ss es
  stopped x m h e = refused_at x i m (turn_stop t i (tokens_most - n) h x m e)

  pub full : (k m : ℕ) → i < length t → n ≡ tokens_most → piece_of (drop i t) ≡ Take k m → Scanned (read_from 0 tokens_most 0 t) (Err (refusal 2 i m)) ks ss es
  full k m h d e =
      let s : tokens_most - n ≡ 0 = omega arith in
      refused_at 2 i m (rw s (turn_full t i k m h e))

  pub finished : length t ≤ i → Scanned (read_from 0 tokens_most 0 t) (Ok n) ks ss es
  unfolding read_from
  finished h =
      rw (z.whole ∙ ap (λ (s : List ℕ). befores z.ps (read_from i (tokens_most - n) 0 s)) (drop_of_length-le t h) ∙ befores_end z.ps)
      (record {
        answer = ap Ok (sym z.count);
        room = omega (arith, z.count, z.most);
        kinds = rw z.count z.kinds.front;
        starts = rw z.count z.starts.front;
        ends = rw z.count z.ends.front;
      })

-- the part of the text from a place on
pub part-from : (t : List ℕ) (i : ℕ) → take (length t - i) (drop i t) ≡ drop i t
part-from t i = take_all (length t - i) (drop i t) (rw (length-drop i t) (omega arith))

-- a piece that a call gave
pub seen : (t : List ℕ) (i : ℕ) (r x : Piece) → r ≡ piece_of (take (length t - i) (drop i t)) → r ≡ x → piece_of (drop i t) ≡ x
seen t i r x e q = ap piece_of (sym (part-from t i)) ∙ (sym e ∙ q)

-- a piece that is skipped or taken has a byte, and ends within the text
pub within : (t : List ℕ) (i : ℕ) (r : Piece) → r ≡ piece_of (take (length t - i) (drop i t)) → i < length t → (0 < size r) × (i + size r ≤ length t)
within t i r e h =
    let z : Sized (length t - i) r = rw (seen t i r r e refl) at (sized t i 0 h) in
    (z.0, omega (arith, z.1))
