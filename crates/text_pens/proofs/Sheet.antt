-- Rows laid one after the other: a place of a row by a place of the whole; the spellings so laid are the spellings.
use Prim.Native.Nat.{ℕ, zero, suc, ◌+◌, ◌*◌, ◌-◌, ◌≤◌, ◌<◌}
use mathlib.Core.Path.{◌≡◌, refl, sym, ◌∙◌, ap}
use mathlib.Core.Bool.{Bool, true}
use mathlib.Core.List.{List, [], ◌∷◌, ◌++◌, map}
use native.Mathlib.Omega.{arith}
use native.Mathlib.Nat.{mul-suc}
use lib.ListN.{length, get_or, get_or-append, get_or-eq_default}
use lib.Seq.{get_or-append-add}
use lib.Dec.{eqb, leb}
use borrow.Author.Tests.{leb-true, eqb-true, eq-eqb}
use Rattle.base_bytes.specs.Choice.{both}
use Rattle.base_bytes.proofs.Tests.{both_true}
use Rattle.base_kinds.specs.Kinds.{marks, keywords}
use Rattle.text_pens.specs.Sheet.{padded, flat, sheet, sizes, spelled_by}

-- every row has this width; none is wider
abbrev pub wide : ℕ → List (List ℕ) → Bool
wide n [] = true
wide n (r ∷ rs) = both (eqb (length r) n) (wide n rs)

abbrev pub narrow : ℕ → List (List ℕ) → Bool
narrow n [] = true
narrow n (r ∷ rs) = both (leb (length r) n) (narrow n rs)

pub flat_at : (n : ℕ) (rs : List (List ℕ)) → wide n rs ≡ true → (r k m : ℕ) → k < n → m ≡ n * r + k → get_or (flat rs) m 0 ≡ get_or (get_or rs r []) k 0
flat_at n [] w r k m h e = refl
flat_at n (x ∷ rs) w zero k m h e =
    let l : length x ≡ n = eqb-true (length x) n (both_true (eqb (length x) n) (wide n rs) w).0 in
    let z : m ≡ k = omega arith in
    rw z (get_or-append x (flat rs) 0 k (omega arith))
flat_at n (x ∷ rs) w (suc r) k m h e =
    let l : length x ≡ n = eqb-true (length x) n (both_true (eqb (length x) n) (wide n rs) w).0 in
    let z : m ≡ length x + (n * r + k) = rw l (e ∙ shift n r k) in
    rw z (get_or-append-add x (flat rs) (n * r + k) 0 ∙ flat_at n rs (both_true (eqb (length x) n) (wide n rs) w).1 r k (n * r + k) h refl)
  where
    shift : (n r k : ℕ) → n * suc r + k ≡ n + (n * r + k)
    shift n r k = rw (mul-suc n r) (omega arith)

padded_at : (n : ℕ) (x : List ℕ) (k : ℕ) → length x ≤ n → k < n → get_or (padded n x) k 0 ≡ get_or x k 0
padded_at zero x k l h = absurd (omega arith)
padded_at (suc n) [] zero l h = refl
padded_at (suc n) [] (suc k) l h = padded_at n [] k (omega arith) (omega arith)
padded_at (suc n) (a ∷ x) zero l h = refl
padded_at (suc n) (a ∷ x) (suc k) l h = padded_at n x k (omega arith) (omega arith)

-- ---- the spellings
padded-wide : (n : ℕ) (rs : List (List ℕ)) → wide n (map (padded n) rs) ≡ true
padded-wide n [] = refl
padded-wide n (r ∷ rs) = rw (eq-eqb (length (padded n r)) n (padded-length n r), padded-wide n rs)
  where
    padded-length : (n : ℕ) (x : List ℕ) → length (padded n x) ≡ n
    padded-length zero x = refl
    padded-length (suc n) [] = ap suc (padded-length n [])
    padded-length (suc n) (a ∷ x) = ap suc (padded-length n x)

narrow_at : (n : ℕ) (rs : List (List ℕ)) → narrow n rs ≡ true → (r : ℕ) → length (get_or rs r []) ≤ n
narrow_at n [] h r = omega arith
narrow_at n (x ∷ rs) h zero = leb-true (length x) n (both_true (leb (length x) n) (narrow n rs) h).0
narrow_at n (x ∷ rs) h (suc r) = narrow_at n rs (both_true (leb (length x) n) (narrow n rs) h).1 r

spellings_narrow : narrow 8 (marks ++ keywords) ≡ true
spellings_narrow = refl

padded-row : (n : ℕ) (rs : List (List ℕ)) (r k : ℕ) → k < n → narrow n rs ≡ true → get_or (get_or (map (padded n) rs) r []) k 0 ≡ get_or (get_or rs r []) k 0
padded-row n [] r k h w = refl
padded-row n (x ∷ rs) zero k h w = padded_at n x k (leb-true (length x) n (both_true (leb (length x) n) (narrow n rs) w).0) h
padded-row n (x ∷ rs) (suc r) k h w = padded-row n rs r k h (both_true (leb (length x) n) (narrow n rs) w).1

-- byte j of a spelling
pub letter_in : (k j b m v : ℕ) → j < 8 → b ≡ k - 1 → m ≡ 8 * b + j → v ≡ get_or sheet m 0 → v ≡ get_or (spelled_by k) j 0
unfolding sheet
letter_in k j b m v h p q e =
    e ∙ flat_at 8 (map (padded 8) (marks ++ keywords)) (padded-wide 8 (marks ++ keywords)) b j m h q ∙ padded-row 8 (marks ++ keywords) b j h spellings_narrow ∙ rw p

pub letter_out : (k j : ℕ) → 8 ≤ j → ◌≡◌ {A = ℕ} 0 (get_or (spelled_by k) j 0)
letter_out k j h = sym (get_or-eq_default (spelled_by k) 0 {n = j} (omega (arith, narrow_at 8 (marks ++ keywords) spellings_narrow (k - 1))))

sizes_at : (rs : List (List ℕ)) (r : ℕ) → get_or (map length rs) r 0 ≡ length (get_or rs r [])
sizes_at [] r = refl
sizes_at (x ∷ rs) zero = refl
sizes_at (x ∷ rs) (suc r) = sizes_at rs r

pub size_in : (k b v : ℕ) → b ≡ k - 1 → v ≡ get_or sizes b 0 → v ≡ length (spelled_by k)
unfolding sizes
size_in k b v p e = e ∙ sizes_at (marks ++ keywords) b ∙ rw p

pub spelled-short : (k : ℕ) → length (spelled_by k) ≤ 8
spelled-short k = narrow_at 8 (marks ++ keywords) spellings_narrow (k - 1)
