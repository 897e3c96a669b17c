-- READING AND WRITING the numbers of a plain state: padded lists, rows, lists laid end to end, and the parts of the whole.
use Prim.Native.Nat.{ℕ, zero, suc, ◌+◌, ◌<◌, ◌*◌}
use native.Mathlib.Omega.{arith}
use mathlib.Core.Path.{◌≡◌, refl, sym as inv, ap, ap₂, ◌∙◌, subst}
use mathlib.Core.List.{List, [], ◌∷◌, ◌++◌, map, append_assoc}
use lib.ListN.{length, get_or, set, length-append, get_or-append}
use lib.Seq.{get_or-append-add, set-append_left}
use lib.IntN.{ℤ, pos}
use Rattle.state_layout.specs.Layout.{channel_at, channel_size, process_at_lem, process_size}
use Rattle.base_ceilings.specs.Ceilings.{channels_most, fields_most, globals_most, processes_most}
use Rattle.agree_encode.specs.Encode.{pad, rows, flat}

-- ---- two lists
pub get_left : {A : Type 0} (x y : List A) (d : A) (k : ℕ) → k < length x → get_or (x ++ y) k d ≡ get_or x k d
get_left x y d k h = get_or-append x y d k h

pub get_right : {A : Type 0} (x y : List A) (d : A) (n k j : ℕ) → length x ≡ n → j ≡ n + k → get_or (x ++ y) j d ≡ get_or y k d
get_right x y d n k j e f = ap (λ i. get_or (x ++ y) i d) (f ∙ ap (λ i. i + k) (inv e)) ∙ get_or-append-add x y k d

pub set-left : {A : Type 0} (x y : List A) (k : ℕ) (v : A) → k < length x → set (x ++ y) k v ≡ set x k v ++ y
set-left x y k v h = set-append_left x y k v h

set_add : {A : Type 0} (x y : List A) (k j : ℕ) (v : A) → j ≡ length x + k → set (x ++ y) j v ≡ x ++ set y k v
set_add [] y k j v e = ap (λ i. set y i v) (let z : j ≡ k = omega arith in z)
set_add (a ∷ x) y k zero v e = absurd (omega arith)
set_add (a ∷ x) y k (suc j) v e = ap (λ l. a ∷ l) (set_add x y k j v (omega arith))

pub set-right : {A : Type 0} (x y : List A) (v : A) (n k j : ℕ) → length x ≡ n → j ≡ n + k → set (x ++ y) j v ≡ x ++ set y k v
set-right x y v n k j e f = set_add x y k j v (f ∙ ap (λ i. i + k) (inv e))

-- ---- exactly n numbers
pub length-pad : (n : ℕ) (l : List ℤ) → length (pad n l) ≡ n
unfolding pad
length-pad zero l = refl
length-pad (suc n) [] = ap suc (length-pad n [])
length-pad (suc n) (x ∷ l) = ap suc (length-pad n l)

pub get_pad : (n : ℕ) (l : List ℤ) (k : ℕ) → k < n → get_or (pad n l) k (pos 0) ≡ get_or l k (pos 0)
unfolding pad
get_pad zero l k h = absurd (omega arith)
get_pad (suc n) [] zero h = refl
get_pad (suc n) [] (suc k) h = get_pad n [] k (omega arith)
get_pad (suc n) (x ∷ l) zero h = refl
get_pad (suc n) (x ∷ l) (suc k) h = get_pad n l k (omega arith)

pub set-pad : (n : ℕ) (l : List ℤ) (k : ℕ) (v : ℤ) → k < length l → set (pad n l) k v ≡ pad n (set l k v)
unfolding pad
set-pad zero l k v h = refl
set-pad (suc n) [] k v h = absurd (omega arith)
set-pad (suc n) (x ∷ l) zero v h = refl
set-pad (suc n) (x ∷ l) (suc k) v h = ap (λ (z : List ℤ). x ∷ z) (set-pad n l k v (omega arith))

pub pad_exact : (n : ℕ) (l : List ℤ) → length l ≡ n → pad n l ≡ l
unfolding pad
pad_exact zero [] h = refl
pad_exact zero (x ∷ l) h = absurd (omega arith)
pad_exact (suc n) [] h = absurd (omega arith)
pad_exact (suc n) (x ∷ l) h = ap (λ (z : List ℤ). x ∷ z) (pad_exact n l (omega arith))

-- the next number behind
pub pad-more : (n : ℕ) (l : List ℤ) (v : ℤ) → length l < n → set (pad n l) (length l) v ≡ pad n (l ++ v ∷ [])
unfolding pad
pad-more zero l v h = absurd (omega arith)
pad-more (suc n) [] v h = refl
pad-more (suc n) (x ∷ l) v h = ap (λ (z : List ℤ). x ∷ z) (pad-more n l v (omega arith))

-- ---- rows of z numbers
module _ {A : Type 0} (f : A → List ℤ) (z : ℕ) where
  -- where row p begins
  abbrev pub off : ℕ → ℕ
  off zero = 0
  off (suc p) = z + off p

  pub length-rows : (n : ℕ) (l : List A) → length (rows f z n l) ≡ off n
  unfolding rows
  length-rows zero l = refl
  length-rows (suc n) [] = length-append (pad z []) (rows f z n []) ∙ ap₂ ◌+◌ (length-pad z []) (length-rows n [])
  length-rows (suc n) (x ∷ l) = length-append (pad z (f x)) (rows f z n l) ∙ ap₂ ◌+◌ (length-pad z (f x)) (length-rows n l)

  pub get_rows : (n : ℕ) (l : List A) (d : A) (p k : ℕ) → p < length l → p < n → k < z → get_or (rows f z n l) (off p + k) (pos 0) ≡ get_or (f (get_or l p d)) k (pos 0)
  unfolding rows
  get_rows n [] d p k h g e = absurd (omega arith)
  get_rows zero (x ∷ l) d p k h g e = absurd (omega arith)
  get_rows (suc n) (x ∷ l) d zero k h g e =
      ap (λ i. get_or (pad z (f x) ++ rows f z n l) i (pos 0)) (let w : 0 + k ≡ k = omega arith in w)
      ∙ get_left (pad z (f x)) (rows f z n l) (pos 0) k (subst (k <◌) (inv (length-pad z (f x))) e) ∙ get_pad z (f x) k e
  get_rows (suc n) (x ∷ l) d (suc p) k h g e =
      get_right (pad z (f x)) (rows f z n l) (pos 0) z (off p + k) (z + off p + k) (length-pad z (f x)) (omega arith) ∙ get_rows n l d p k (omega arith) (omega arith) e

  pub set-rows : (n : ℕ) (l : List A) (d : A) (p k : ℕ) (v : ℤ) (y : A) → p < length l → p < n → k < z → set (pad z (f (get_or l p d))) k v ≡ pad z (f y)
      → set (rows f z n l) (off p + k) v ≡ rows f z n (set l p y)
  unfolding rows
  set-rows n [] d p k v y h g e q = absurd (omega arith)
  set-rows zero (x ∷ l) d p k v y h g e q = absurd (omega arith)
  set-rows (suc n) (x ∷ l) d zero k v y h g e q =
      ap (λ i. set (pad z (f x) ++ rows f z n l) i v) (let w : 0 + k ≡ k = omega arith in w)
      ∙ set-left (pad z (f x)) (rows f z n l) k v (subst (k <◌) (inv (length-pad z (f x))) e) ∙ ap (λ (i : List ℤ). i ++ rows f z n l) q
  set-rows (suc n) (x ∷ l) d (suc p) k v y h g e q =
      set-right (pad z (f x)) (rows f z n l) v z (off p + k) (z + off p + k) (length-pad z (f x)) (omega arith)
      ∙ ap (λ (i : List ℤ). pad z (f x) ++ i) (set-rows n l d p k v y (omega arith) (omega arith) e q)

  -- an empty row behind the last changes nothing
  pub rows_more : (n : ℕ) (l : List A) (y : A) → f y ≡ [] → length l < n → rows f z n l ≡ rows f z n (l ++ y ∷ [])
  unfolding rows
  rows_more zero l y e h = absurd (omega arith)
  rows_more (suc n) [] y e h = ap (λ i. pad z i ++ rows f z n []) (inv e)
  rows_more (suc n) (x ∷ l) y e h = ap (λ (i : List ℤ). pad z (f x) ++ i) (rows_more n l y e (omega arith))

  -- one row cut out, and another in its place
  pub record Cut (n : ℕ) (l : List A) (p : ℕ) (d : A) : Type 0 where
    pub front : List ℤ
    pub back : List ℤ
    pub long : length front ≡ off p
    pub was : rows f z n l ≡ front ++ (pad z (f (get_or l p d)) ++ back)
    pub is : (y : A) → rows f z n (set l p y) ≡ front ++ (pad z (f y) ++ back)

  pub cut : (n : ℕ) (l : List A) (p : ℕ) (d : A) → p < length l → p < n → Cut n l p d
  unfolding rows
  cut n [] p d h g = absurd (omega arith)
  cut zero (x ∷ l) p d h g = absurd (omega arith)
  cut (suc n) (x ∷ l) zero d h g = record { front = []; back = rows f z n l; long = refl; was = refl; is = λ y. refl }
  cut (suc n) (x ∷ l) (suc p) d h g =
      let r = cut n l p d (omega arith) (omega arith) in
      record {
        front = pad z (f x) ++ r.front;
        back = r.back;
        long = length-append (pad z (f x)) r.front ∙ ap₂ ◌+◌ (length-pad z (f x)) r.long;
        was = ap (λ (i : List ℤ). pad z (f x) ++ i) r.was ∙ inv (append_assoc (pad z (f x)) r.front (pad z (f (get_or l p d)) ++ r.back));
        is = λ y. ap (λ (i : List ℤ). pad z (f x) ++ i) (r.is y) ∙ inv (append_assoc (pad z (f x)) r.front (pad z (f y) ++ r.back));
      }

-- what is not there is 0
pub row_any : {A : Type 0} (f : A → List ℤ) (z n : ℕ) (l : List A) (p k : ℕ) → p < n → k < z → get_or (rows f z n l) (off f z p + k) (pos 0) ≡ get_or (get_or (map f l) p []) k (pos 0)
unfolding rows
row_any f z zero l p k h g = absurd (omega arith)
row_any f z (suc n) [] zero k h g =
    ap (λ i. get_or (pad z [] ++ rows f z n []) i (pos 0)) (let w : 0 + k ≡ k = omega arith in w)
    ∙ get_left (pad z []) (rows f z n []) (pos 0) k (subst (k <◌) (inv (length-pad z [])) g) ∙ get_pad z [] k g
row_any f z (suc n) [] (suc p) k h g =
    get_right (pad z []) (rows f z n []) (pos 0) z (off f z p + k) (z + off f z p + k) (length-pad z []) (omega arith) ∙ row_any f z n [] p k (omega arith) g ∙ none p
  where
    none : (p : ℕ) → get_or (get_or [] p []) k (pos 0) ≡ get_or [] k (pos 0)
    none zero = refl
    none (suc p) = refl
row_any f z (suc n) (x ∷ l) zero k h g =
    ap (λ i. get_or (pad z (f x) ++ rows f z n l) i (pos 0)) (let w : 0 + k ≡ k = omega arith in w)
    ∙ get_left (pad z (f x)) (rows f z n l) (pos 0) k (subst (k <◌) (inv (length-pad z (f x))) g) ∙ get_pad z (f x) k g
row_any f z (suc n) (x ∷ l) (suc p) k h g =
    get_right (pad z (f x)) (rows f z n l) (pos 0) z (off f z p + k) (z + off f z p + k) (length-pad z (f x)) (omega arith) ∙ row_any f z n l p k (omega arith) g

-- rows of four
pub at_four : {A : Type 0} (f : A → List ℤ) (p : ℕ) → off f fields_most p ≡ fields_most * p
at_four f zero = refl
at_four f (suc p) = let e = at_four f p in omega arith

-- ---- lists laid end to end
-- how many numbers the first i have
abbrev pub ahead : List (List ℤ) → ℕ → ℕ
ahead [] i = 0
ahead (x ∷ l) zero = 0
ahead (x ∷ l) (suc i) = length x + ahead l i

pub get_flat : (l : List (List ℤ)) (i k : ℕ) → i < length l → k < length (get_or l i []) → get_or (flat l) (ahead l i + k) (pos 0) ≡ get_or (get_or l i []) k (pos 0)
get_flat [] i k h g = absurd (omega arith)
get_flat (x ∷ l) zero k h g = ap (λ i. get_or (x ++ flat l) i (pos 0)) (let w : 0 + k ≡ k = omega arith in w) ∙ get_left x (flat l) (pos 0) k g
get_flat (x ∷ l) (suc i) k h g = get_right x (flat l) (pos 0) (length x) (ahead l i + k) (length x + ahead l i + k) refl (omega arith) ∙ get_flat l i k (omega arith) g

pub set-flat : (l : List (List ℤ)) (i k : ℕ) (v : ℤ) → i < length l → k < length (get_or l i []) → set (flat l) (ahead l i + k) v ≡ flat (set l i (set (get_or l i []) k v))
set-flat [] i k v h g = absurd (omega arith)
set-flat (x ∷ l) zero k v h g = ap (λ i. set (x ++ flat l) i v) (let w : 0 + k ≡ k = omega arith in w) ∙ set-left x (flat l) k v g
set-flat (x ∷ l) (suc i) k v h g =
    set-right x (flat l) v (length x) (ahead l i + k) (length x + ahead l i + k) refl (omega arith) ∙ ap (λ (z : List ℤ). x ++ z) (set-flat l i k v (omega arith) g)

pub flat-reach : (l : List (List ℤ)) (i k : ℕ) → i < length l → k < length (get_or l i []) → ahead l i + k < length (flat l)
flat-reach [] i k h g = absurd (omega arith)
flat-reach (x ∷ l) zero k h g = let e = length-append x (flat l) in omega arith
flat-reach (x ∷ l) (suc i) k h g = let e = length-append x (flat l) in let r = flat-reach l i k (omega arith) g in omega arith

-- ---- the parts of the whole: two counts, globals, processes, channels, zeros, and what lies behind
abbrev rows_size : ℕ
rows_size = process_size * processes_most + channel_size * channels_most

module _ (a b : ℤ) (g p c z t : List ℤ) (lg : length g ≡ globals_most) (lp : length p ≡ process_size * processes_most) (lc : length c ≡ channel_size * channels_most) where
  abbrev pub whole : List ℤ
  whole = (a ∷ b ∷ g ++ (p ++ (c ++ z))) ++ t

  long_c : length (c ++ z) ≡ channel_size * channels_most + length z
  long_c = length-append c z ∙ ap (λ i. i + length z) lc

  long_p : length (p ++ (c ++ z)) ≡ rows_size + length z
  long_p = length-append p (c ++ z) ∙ ap₂ ◌+◌ lp long_c ∙ (let w : process_size * processes_most + (channel_size * channels_most + length z) ≡ rows_size + length z = omega arith in w)

  long_g : length (g ++ (p ++ (c ++ z))) ≡ globals_most + rows_size + length z
  long_g = length-append g (p ++ (c ++ z)) ∙ ap₂ ◌+◌ lg long_p ∙ (let w : globals_most + (rows_size + length z) ≡ globals_most + rows_size + length z = omega arith in w)

  pub get_process : (q : ℕ) → q < process_size * processes_most → get_or whole (process_at_lem 0 + q) (pos 0) ≡ get_or p q (pos 0)
  get_process q h =
      get_left (a ∷ b ∷ g ++ (p ++ (c ++ z))) t (pos 0) (process_at_lem 0 + q) (let l = long_g in omega arith)
      ∙ get_right (a ∷ b ∷ g) (p ++ (c ++ z)) (pos 0) (process_at_lem 0) q (process_at_lem 0 + q) (let l = lg in omega arith) refl ∙ get_left p (c ++ z) (pos 0) q (omega (arith, lp))

  pub set-process : (q : ℕ) (v : ℤ) → q < process_size * processes_most → set whole (process_at_lem 0 + q) v ≡ (a ∷ b ∷ g ++ (set p q v ++ (c ++ z))) ++ t
  set-process q v h =
      set-left (a ∷ b ∷ g ++ (p ++ (c ++ z))) t (process_at_lem 0 + q) v (let l = long_g in omega arith)
      ∙ ap (λ (i : List ℤ). i ++ t)
      (set-right (a ∷ b ∷ g) (p ++ (c ++ z)) v (process_at_lem 0) q (process_at_lem 0 + q) (let l = lg in omega arith) refl ∙ ap (λ (i : List ℤ). a ∷ b ∷ g ++ i) (set-left p (c ++ z) q v (omega (arith, lp))))

  pub get_channel : (q : ℕ) → q < channel_size * channels_most → get_or whole (channel_at 0 + q) (pos 0) ≡ get_or c q (pos 0)
  get_channel q h =
      get_left (a ∷ b ∷ g ++ (p ++ (c ++ z))) t (pos 0) (channel_at 0 + q) (let l = long_g in omega arith)
      ∙ get_right (a ∷ b ∷ g) (p ++ (c ++ z)) (pos 0) (process_at_lem 0) (process_size * processes_most + q) (channel_at 0 + q) (let l = lg in omega arith) (omega arith)
      ∙ get_right p (c ++ z) (pos 0) (process_size * processes_most) q (process_size * processes_most + q) lp refl ∙ get_left c z (pos 0) q (omega (arith, lc))

  pub set_channel : (q : ℕ) (v : ℤ) → q < channel_size * channels_most → set whole (channel_at 0 + q) v ≡ (a ∷ b ∷ g ++ (p ++ (set c q v ++ z))) ++ t
  set_channel q v h =
      set-left (a ∷ b ∷ g ++ (p ++ (c ++ z))) t (channel_at 0 + q) v (let l = long_g in omega arith)
      ∙ ap (λ (i : List ℤ). i ++ t)
      (set-right (a ∷ b ∷ g) (p ++ (c ++ z)) v (process_at_lem 0) (process_size * processes_most + q) (channel_at 0 + q) (let l = lg in omega arith) (omega arith)
      ∙ ap (λ (i : List ℤ). a ∷ b ∷ g ++ i)
      (set-right p (c ++ z) v (process_size * processes_most) q (process_size * processes_most + q) lp refl ∙ ap (λ (i : List ℤ). p ++ i) (set-left c z q v (omega (arith, lc)))))

  pub get_global : (q : ℕ) → q < globals_most → get_or whole (2 + q) (pos 0) ≡ get_or g q (pos 0)
  get_global q h =
      get_left (a ∷ b ∷ g ++ (p ++ (c ++ z))) t (pos 0) (2 + q) (let l = long_g in omega arith)
      ∙ get_right (a ∷ b ∷ []) (g ++ (p ++ (c ++ z))) (pos 0) 2 q (2 + q) refl refl ∙ get_left g (p ++ (c ++ z)) (pos 0) q (omega (arith, lg))

  pub set-global : (q : ℕ) (v : ℤ) → q < globals_most → set whole (2 + q) v ≡ (a ∷ b ∷ set g q v ++ (p ++ (c ++ z))) ++ t
  set-global q v h =
      set-left (a ∷ b ∷ g ++ (p ++ (c ++ z))) t (2 + q) v (let l = long_g in omega arith)
      ∙ ap (λ (i : List ℤ). i ++ t)
      (set-right (a ∷ b ∷ []) (g ++ (p ++ (c ++ z))) v 2 q (2 + q) refl refl ∙ ap (λ (i : List ℤ). a ∷ b ∷ i) (set-left g (p ++ (c ++ z)) q v (omega (arith, lg))))
