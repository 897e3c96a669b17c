-- PARTS OF NUMBERS: variables and messages cut out of them, and lists chosen one by one.
use Prim.Native.Nat.{ℕ, zero, suc, ◌+◌, ◌-◌, ◌*◌, ◌<◌, ◌≤◌}
use native.Mathlib.Omega.{arith}
use native.Mathlib.Decide.{dec_lt}
use mathlib.Core.Path.{◌≡◌, refl, sym as inv, ap, ap₂, ◌∙◌, subst}
use mathlib.Core.List.{List, [], ◌∷◌, ◌++◌, map}
use lib.ListN.{length, get_or}
use lib.IntN.{ℤ, pos}
use Rattle.base_ceilings.specs.Ceilings.{fields_most}
use Rattle.base_values.specs.Types.{cast_of}
use Rattle.state_layout.specs.Layout.{cell_of}
use Rattle.spec_machine.specs.Names.{Var}
use Rattle.spec_machine.specs.Plain.{no_var}
use Rattle.agree_encode.specs.Encode.{flat}
use Rattle.spec_machine.specs.Fits.{Filled}
use Rattle.agree_encode.specs.Tabled.{offset_of, total_of}

-- ---- lists
pub get_past : {A : Type 0} (l : List A) (d : A) (k : ℕ) → length l ≤ k → get_or l k d ≡ d
get_past [] d k h = go k
  where
    go : (k : ℕ) → get_or [] k d ≡ d
    go zero = refl
    go (suc k) = refl
get_past (x ∷ l) d zero h = absurd (omega arith)
get_past (x ∷ l) d (suc k) h = get_past l d k (omega arith)

pub get_map : {A B : Type 0} (f : A → B) (l : List A) (d : A) (e : B) (i : ℕ) → i < length l → get_or (map f l) i e ≡ f (get_or l i d)
get_map f [] d e i h = absurd (omega arith)
get_map f (x ∷ l) d e zero h = refl
get_map f (x ∷ l) d e (suc i) h = get_map f l d e i (omega arith)

pub map_long : {A B : Type 0} (f : A → B) (l : List A) → length (map f l) ≡ length l
map_long f [] = refl
map_long f (x ∷ l) = ap suc (map_long f l)

-- a list of n, where there is one for each place
pub record Chosen {A : Type 0} (Q : ℕ → A → Type 0) (d : A) (n : ℕ) : Type 0 where
  pub list : List A
  pub long : length list ≡ n
  pub each : (i : ℕ) → i < n → Q i (get_or list i d)

pub choose : {A : Type 0} (Q : ℕ → A → Type 0) (d : A) (n : ℕ) → ((i : ℕ) → i < n → (a : A) × Q i a) → Chosen Q d n
choose Q d zero f = record { list = []; long = refl; each = λ i h. absurd (omega arith) }
choose Q d (suc n) f =
    let r = choose (λ i. Q (suc i)) d n (λ i h. f (suc i) (omega arith)) in
    let a = f 0 (omega arith) in
    record { list = a.0 ∷ r.list; long = ap suc r.long; each = go a.0 a.1 r.list r.each }
  where
    go : (a : _) → Q 0 a → (l : List _) → ((i : ℕ) → i < n → Q (suc i) (get_or l i d)) → (i : ℕ) → i < suc n → Q i (get_or (a ∷ l) i d)
    go a q l e zero h = q
    go a q l e (suc i) h = e i (omega arith)

-- ---- n numbers from place `at` on
abbrev pub cells : List ℤ → ℕ → ℕ → List ℤ
cells s at zero = []
cells s at (suc n) = cell_of s at ∷ cells s (suc at) n

pub cells_long : (s : List ℤ) (at n : ℕ) → length (cells s at n) ≡ n
cells_long s at zero = refl
cells_long s at (suc n) = ap suc (cells_long s (suc at) n)

pub cells_get : (s : List ℤ) (at n k : ℕ) → k < n → get_or (cells s at n) k (pos 0) ≡ cell_of s (at + k)
cells_get s at zero k h = absurd (omega arith)
cells_get s at (suc n) zero h = ap (cell_of s) (let z : at ≡ at + 0 = omega arith in z)
cells_get s at (suc n) (suc k) h = cells_get s (suc at) n k (omega arith) ∙ ap (cell_of s) (let z : suc at + k ≡ at + suc k = omega arith in z)

pub cells_past : (s : List ℤ) (at n k : ℕ) → n ≤ k → get_or (cells s at n) k (pos 0) ≡ pos 0
cells_past s at n k h = get_past (cells s at n) (pos 0) k (subst (◌≤ k) (inv (cells_long s at n)) h)

cells-both : (s : List ℤ) (at n k : ℕ) → cells s at (n + k) ≡ cells s at n ++ cells s (at + n) k
cells-both s at zero k = ap₂ (cells s) (let z : at ≡ at + 0 = omega arith in z) (let z : 0 + k ≡ k = omega arith in z)
cells-both s at (suc n) k =
    ap (cells s at) (let z : suc n + k ≡ suc (n + k) = omega arith in z)
    ∙ ap (λ (l : List ℤ). cell_of s at ∷ l) (cells-both s (suc at) n k ∙ ap (λ i. cells s (suc at) n ++ cells s i k) (let z : suc at + n ≡ at + suc n = omega arith in z))

-- ---- variables in turn
abbrev pub values_at : List Var → List ℤ → ℕ → List (List ℤ)
values_at [] s at = []
values_at (x ∷ xs) s at = cells s at x.size ∷ values_at xs s (at + x.size)

pub values-flat : (xs : List Var) (s : List ℤ) (at : ℕ) → flat (values_at xs s at) ≡ cells s at (total_of xs)
values-flat [] s at = refl
values-flat (x ∷ xs) s at = ap (λ (l : List ℤ). cells s at x.size ++ l) (values-flat xs s (at + x.size)) ∙ inv (cells-both s at x.size (total_of xs))

values_long : (xs : List Var) (s : List ℤ) (at : ℕ) → length (values_at xs s at) ≡ length xs
values_long [] s at = refl
values_long (x ∷ xs) s at = ap suc (values_long xs s (at + x.size))

values_get : (xs : List Var) (s : List ℤ) (at i : ℕ) → i < length xs → get_or (values_at xs s at) i [] ≡ cells s (at + offset_of xs i) (get_or xs i no_var).size
values_get [] s at i h = absurd (omega arith)
values_get (x ∷ xs) s at zero h = ap (λ n. cells s n x.size) (let z : at ≡ at + 0 = omega arith in z)
values_get (x ∷ xs) s at (suc i) h =
    values_get xs s (at + x.size) i (omega arith) ∙ ap (λ n. cells s n (get_or xs i no_var).size) (let z : at + x.size + offset_of xs i ≡ at + (x.size + offset_of xs i) = omega arith in z)

pub offset_reach : (xs : List Var) (i k : ℕ) → i < length xs → k < (get_or xs i no_var).size → offset_of xs i + k < total_of xs
offset_reach [] i k h g = absurd (omega arith)
offset_reach (x ∷ xs) zero k h g = omega arith
offset_reach (x ∷ xs) (suc i) k h g = let r = offset_reach xs i k (omega arith) g in omega arith

-- each number belongs to one of them
pub record Found (xs : List Var) (n : ℕ) : Type 0 where
  pub variable : ℕ
  pub element : ℕ
  pub here : variable < length xs
  pub inside : element < (get_or xs variable no_var).size
  pub is : offset_of xs variable + element ≡ n

pub find : (xs : List Var) (n : ℕ) → n < total_of xs → Found xs n
find [] n h = absurd (omega arith)
find (x ∷ xs) n h = go (dec_lt n x.size) (λ a. find xs (n - x.size) (omega arith))
  where
    go : Dec (n < x.size) → (x.size ≤ n → Found xs (n - x.size)) → Found (x ∷ xs) n
    go (yes a) f = record { variable = 0; element = n; here = omega arith; inside = a; is = omega arith }
    go (no a) f =
        let r = f (omega arith) in
        record { variable = suc r.variable; element = r.element; here = (let h = r.here in omega arith); inside = r.inside; is = (let e = r.is in omega arith) }

pub values_typed : (xs : List Var) (s : List ℤ) (at : ℕ)
    → ((i k : ℕ) → i < length xs → k < (get_or xs i no_var).size → cast_of (get_or xs i no_var).type (cell_of s (at + (offset_of xs i + k))) ≡ cell_of s (at + (offset_of xs i + k))) → Filled xs (values_at xs s at)
values_typed xs s at h =
    record {
      all = values_long xs s at;
      sized = λ i g. ap length (values_get xs s at i g) ∙ cells_long s (at + offset_of xs i) (get_or xs i no_var).size;
      typed = λ i g k l.
          let e = values_get xs s at i g in
          let n : k < (get_or xs i no_var).size = subst (k <◌) (ap length e ∙ cells_long s (at + offset_of xs i) (get_or xs i no_var).size) l in
          let c : get_or (get_or (values_at xs s at) i []) k (pos 0) ≡ cell_of s (at + (offset_of xs i + k)) = ap (λ (l : List ℤ). get_or l k (pos 0)) e
          ∙ cells_get s (at + offset_of xs i) (get_or xs i no_var).size k n ∙ ap (cell_of s) (let z : at + offset_of xs i + k ≡ at + (offset_of xs i + k) = omega arith in z) in
          subst (λ z. cast_of (get_or xs i no_var).type z ≡ z) (inv c) (h i k g n);
    }

-- ---- n messages of w numbers, one every four places
abbrev pub messages_at : List ℤ → ℕ → ℕ → ℕ → List (List ℤ)
messages_at s w at zero = []
messages_at s w at (suc n) = cells s at w ∷ messages_at s w (at + fields_most) n

pub messages_long : (s : List ℤ) (w at n : ℕ) → length (messages_at s w at n) ≡ n
messages_long s w at zero = refl
messages_long s w at (suc n) = ap suc (messages_long s w (at + fields_most) n)

pub messages_get : (s : List ℤ) (w at n i : ℕ) → i < n → get_or (messages_at s w at n) i [] ≡ cells s (at + fields_most * i) w
messages_get s w at zero i h = absurd (omega arith)
messages_get s w at (suc n) zero h = ap (λ k. cells s k w) (let z : at ≡ at + fields_most * 0 = omega arith in z)
messages_get s w at (suc n) (suc i) h = messages_get s w (at + fields_most) n i (omega arith) ∙ ap (λ k. cells s k w) (let z : at + fields_most + fields_most * i ≡ at + fields_most * suc i = omega arith in z)
