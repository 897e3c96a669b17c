-- Which units have too many numbers for a process: over the items, and in the tree.
use Prim.Native.Nat.{ℕ, zero, suc, ◌+◌, ◌-◌, ◌≤◌, ◌<◌}
use native.Mathlib.Omega.{arith}
use mathlib.Core.Path.{◌≡◌, refl, ap, ◌∙◌}
use mathlib.Core.Bool.{Bool, true}
use mathlib.Core.Logic.{◌⊎◌, inl, inr}
use mathlib.Core.List.{List, [], ◌∷◌, ◌++◌}
use lib.ListN.{length, get_or, length-append}
use lib.Dec.{eqb, ltb, leb}
use borrow.Author.Tests.{lt-ltb, le-ltb, lt-leb, le-leb}
use Rattle.base_ceilings.specs.Ceilings.{numbers_most}
use Rattle.base_codes.specs.Codes.{c_body, c_init, c_parameter, c_proctype}
use Rattle.base_bytes.specs.Choice.{pick}
use Rattle.base_bytes.proofs.Tests.{both_no}
use Rattle.parse_machine.proofs.Never.{lt_or_ge}
use Rattle.spec_grammar.specs.Tree.{Name, Group, Body, body, Activity, idle, once, times, Part, mtypes, global, process, init}
use Rattle.base_codes.specs.Items.{Item, i_init}
use Rattle.parse_code.specs.Code.{each, code_group, code_activity, code_body, code_part}
use Rattle.rule_sheets.specs.Walks.{sum}
use Rattle.rule_sheets.specs.Homes.{home_of}
use Rattle.rule_search.specs.Sets.{among}
use Rattle.rule_ceilings.specs.Ceilings.{numbers_at, numbers, heavy_at}
use Rattle.spec_rules.specs.Units.{tally}
use Rattle.spec_rules.specs.Ceilings.{size_of_declaration, size_of_group}
use Rattle.legal_items.proofs.Standing.{weigh, sum-weigh, Lain}
use Rattle.legal_items.proofs.Bodies.{home_most, home_past}
use Rattle.legal_items.proofs.Parts.{head_at, head-last, process_housed, init_housed, Standing}
use Rattle.legal_items.proofs.Made.{process_activity, head_mtypes, head-global, head-process, head_init}
use Rattle.legal_items.proofs.Numbers.{elsewhere, no_variable, numbers-unit, activity_none}

-- ---- sums
module _ (f : ℕ → ℕ) where
  sum-split : (n m i : ℕ) → sum f i (n + m) ≡ sum f i n + sum f (i + n) m
  unfolding sum
  sum-split zero m i =
      let a : sum f i (0 + m) ≡ sum f i m = ap (sum f i) (let z : 0 + m ≡ m = omega arith in z) in
      let b : sum f (i + 0) m ≡ sum f i m = ap (λ k. sum f k m) (let z : i + 0 ≡ i = omega arith in z) in
      omega arith
  sum-split (suc n) m i =
      let a : sum f i (suc n + m) ≡ f i + sum f (i + 1) (n + m) = ap (sum f i) (let z : suc n + m ≡ suc (n + m) = omega arith in z) in
      let b = sum-split n m (i + 1) in
      let c : sum f (i + 1 + n) m ≡ sum f (i + suc n) m = ap (λ k. sum f k m) (let z : i + 1 + n ≡ i + suc n = omega arith in z) in
      omega arith

  sum_nones : (n i : ℕ) → ((j : ℕ) → i ≤ j → j < i + n → f j ≡ 0) → sum f i n ≡ 0
  unfolding sum
  sum_nones zero i h = refl
  sum_nones (suc n) i h = let a = h i (omega arith) (omega arith) in let b = sum_nones n (i + 1) (λ j p q. h j (omega arith) (omega arith)) in omega arith

  -- a sum is that over a part, where the rest is nothing
  sum-part : (l : List Item) (i n : ℕ) → i + length l ≤ n → ((j : ℕ) → j < i → f j ≡ 0) → ((j : ℕ) → i + length l ≤ j → j < n → f j ≡ 0) → sum f 0 n ≡ weigh f i l
  sum-part l i n h before behind =
      let L = length l in
      let r = n - (i + L) in
      let a : sum f 0 n ≡ sum f 0 (i + (L + r)) = ap (sum f 0) (let z : n ≡ i + (L + r) = omega arith in z) in
      let b = sum-split i (L + r) 0 in
      let c : sum f (0 + i) (L + r) ≡ sum f i (L + r) = ap (λ k. sum f k (L + r)) (let z : 0 + i ≡ i = omega arith in z) in
      let d = sum-split L r i in
      let e = sum_nones i 0 (λ j p q. before j (omega arith)) in
      let g = sum_nones r (i + L) (λ j p q. behind j p (omega arith)) in
      let k = sum-weigh f l i in
      omega arith

-- the numbers of a unit's processes are no more than 32
abbrev pub spare : Part → Bool
spare (mtypes ws) = true
spare (global d) = true
spare (process x w gs (body ds q)) = leb (tally size_of_group gs + tally size_of_declaration ds) numbers_most
spare (init (body ds q)) = leb (tally size_of_declaration ds) numbers_most

pub not-over : (n m : ℕ) → eqb (pick (ltb m n) 1 0) 0 ≡ leb n m
not-over n m = go (lt_or_ge m n)
  where
    go : (m < n) ⊎ (n ≤ m) → eqb (pick (ltb m n) 1 0) 0 ≡ leb n m
    go (inl h) = rw (lt-ltb m n h, lt-leb n m h)
    go (inr h) = rw (le-ltb m n h, le-leb n m h)

module _ (cs vs hs : List ℕ) (homed : (j : ℕ) → j < length cs → get_or hs j 0 ≡ home_of cs j) where
  -- all numbers of a body stand in its unit
  unit-numbers : (p : Part) (i u : ℕ) → Standing cs vs hs homed p i → i ≤ u → u < i + length (code_part p) → numbers cs vs hs (u + 1) ≡ weigh (numbers_at cs vs hs (u + 1)) i (code_part p)
  unfolding numbers
  unit-numbers p i u S a b =
      let e = i + length (code_part p) in
      sum-part (numbers_at cs vs hs (u + 1)) (code_part p) i (length cs) S.within
      (λ j h. let m = S.within in let x = homed j (omega arith) in let y = home_most cs j in elsewhere cs vs hs (u + 1) j (λ z. omega arith))
      (λ j h k. elsewhere cs vs hs (u + 1) j (λ z. off j (homed j k) z (home_past cs e S.shut j h)))
    where
      off : (j : ℕ) → get_or hs j 0 ≡ home_of cs j → get_or hs j 0 ≡ u + 1 → (home_of cs j ≡ 0) ⊎ (i + length (code_part p) < home_of cs j) → ⊥
      off j x z (inl y) = omega arith
      off j x z (inr y) = omega arith

  heavy_low : (j : ℕ) → get_or cs j 0 ≤ c_parameter → heavy_at cs vs hs j ≡ 0
  unfolding heavy_at among
  heavy_low j h = rw (lt-leb c_proctype (get_or cs j 0) (omega arith))

  heavy_high : (j : ℕ) → c_body ≤ get_or cs j 0 → heavy_at cs vs hs j ≡ 0
  unfolding heavy_at among
  heavy_high j h = rw (both_no (leb c_proctype (get_or cs j 0)) (lt-leb (get_or cs j 0) c_init (omega arith)))

  heavy_is : (j : ℕ) → among 15 (get_or cs j 0) ≡ true → heavy_at cs vs hs j ≡ pick (ltb numbers_most (numbers cs vs hs (j + 1))) 1 0
  unfolding heavy_at
  heavy_is j e = rw e

  head-among : (x : Activity) (w : Name) (i : ℕ) → Lain cs vs i (code_activity x w) → among 15 (get_or cs (head_at x i) 0) ≡ true
  unfolding among
  head-among idle w i s = rw s.4.2
  head-among once w i s = rw s.4.2
  head-among (times n) w i s = rw s.4.4.2

  init_among : (i : ℕ) → get_or cs i 0 ≡ c_init → among 15 (get_or cs i 0) ≡ true
  unfolding among
  init_among i e = rw e

  head-inside : (x : Activity) (w : Name) (gs : List Group) (b : Body) (i : ℕ) → (i ≤ head_at x i) × (head_at x i < i + length (code_part (process x w gs b)))
  head-inside x w gs b i =
      let a = head-last x w i in
      let c = length-append (code_activity x w ++ each code_group gs) (code_body b) in
      let d = length-append (code_activity x w) (each code_group gs) in
      (go x, omega arith)
    where
      go : (x : Activity) → i ≤ head_at x i
      go idle = omega arith
      go once = omega arith
      go (times n) = omega arith

  pub heavy_part : (p : Part) (i : ℕ) → Standing cs vs hs homed p i → eqb (weigh (heavy_at cs vs hs) i (code_part p)) 0 ≡ spare p
  heavy_part (mtypes ws) i S = ap (λ n. eqb n 0) (head_mtypes cs vs hs homed (heavy_at cs vs hs) heavy_low heavy_high ws i S)
  heavy_part (global d) i S = ap (λ n. eqb n 0) (head-global cs vs hs homed (heavy_at cs vs hs) heavy_low heavy_high d i S)
  heavy_part (process x w gs (body ds q)) i S =
      let u = head_at x i in
      let A = process_activity cs vs hs homed x w gs (body ds q) i S in
      let b = head-inside x w gs (body ds q) i in
      ap (λ n. eqb n 0) (head-process cs vs hs homed (heavy_at cs vs hs) heavy_low heavy_high x w gs (body ds q) i S ∙ heavy_is u (head-among x w i A)
      ∙ ap (λ n. pick (ltb numbers_most n) 1 0) (unit-numbers (process x w gs (body ds q)) i u S b.0 b.1
      ∙ numbers-unit cs vs hs (u + 1) (code_activity x w) gs ds q i u (head-last x w i) refl (process_housed cs vs hs homed i x w gs ds q S.lain) (activity_none cs vs hs (u + 1) x w i A)))
      ∙ not-over (tally size_of_group gs + tally size_of_declaration ds) numbers_most
  heavy_part (init (body ds q)) i S =
      let a = no_variable cs vs hs (i + 1) i (λ z. let y = S.lain.2 in omega arith) (λ z. let y = S.lain.2 in omega arith) in
      let b : weigh (numbers_at cs vs hs (i + 1)) i (i_init ∷ []) ≡ 0 = omega arith in
      let c = numbers-unit cs vs hs (i + 1) (i_init ∷ []) [] ds q i i (omega arith) refl (init_housed cs vs hs homed i ds q S.lain) b in
      ap (λ n. eqb n 0) (head_init cs vs hs homed (heavy_at cs vs hs) heavy_low heavy_high (body ds q) i S ∙ heavy_is i (init_among i S.lain.2)
      ∙ ap (λ n. pick (ltb numbers_most n) 1 0) (unit-numbers (init (body ds q)) i i S (omega arith) (omega arith) ∙ c ∙ (let z : 0 + tally size_of_declaration ds ≡ tally size_of_declaration ds = omega arith in z)))
      ∙ not-over (tally size_of_declaration ds) numbers_most
