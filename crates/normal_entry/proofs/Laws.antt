-- The laws that the entries cite.
use mathlib.Core.Path.{◌≡◌, refl, sym, ap, ◌∙◌}
use mathlib.Core.Bool.{Bool, true, false}
use mathlib.Core.List.{List, ◌++◌}
use Prim.Native.Nat.{ℕ, ◌≤◌, ◌<◌, min}
use native.Mathlib.Omega.{arith}
use borrow.Author.Tests.{lt-ltb, le-ltb, ltb-false}
use lib.Dec.{ltb}
use lib.ListN.{length, take, drop, length-append}
use lib.Seq.{take_at}
use Rattle.base_ceilings.specs.Ceilings.{normal_most, tables_room}
use Rattle.base_bytes.specs.Choice.{pick}
use Rattle.base_bytes.specs.Lists.{pasted}
use Rattle.base_pens.specs.Pen.{pen, puts}
use Rattle.base_pens.proofs.Pen.{puts_fit, list_of, at_of}
use Rattle.std.specs.Prelude.{Result, Ok, Err}
use Rattle.base_refusal.specs.declared.Refusal.{Refusal}
use Rattle.base_refusal.specs.Refusals.{refusal}
use Rattle.read_passes.specs.Judging.{judge_of, tables_text}
use Rattle.read_accepts_proof.proofs.Main.{accepted_means}
use Rattle.read_entry.specs.Entries.{read_of, stays, left_of as readLeft}
use Rattle.read_entry.proofs.Laws.{whole_room}
use Rattle.write_texts.specs.Normal.{normal_of}
use Rattle.normal_proof.proofs.Texts.{text-short}
use Rattle.read_genuine.specs.Genuine.{written, agrees, returns, genuine}
use Rattle.read_genuine.proofs.Laws.{counted, written-front, some-numbers}
use Rattle.normal_entry.specs.Entries.{roomy, put, written_by, text_answer, text_left, tables_answer, tables_left}

-- ---- a text in an array, and copied
module _ (most : ℕ) (u zeros text : List ℕ) (n : ℕ) (old : List ℕ) (few : length u ≤ most) (l : length zeros ≡ most) (e : pen text n ≡ puts u (pen zeros 0)) where
  laid : pen text n ≡ pen (u ++ drop (length u) zeros) (length u)
  laid = e ∙ puts_fit u zeros (omega arith)

  pub no_room : length old < n → (Err (refusal 7 0 0) ≡ roomy u old) × (old ≡ put (Err (refusal 7 0 0)) u old)
  no_room h = (simp (lt-ltb (length old) (length u) (omega (arith, at_of laid))), refl)

  pub copied : (new : List ℕ) → n ≤ length old → new ≡ pasted n text old → (Ok n ≡ roomy u old) × (new ≡ put (Ok n) u old)
  copied new h g =
      let k = at_of laid in
      let m : min n (min (length text) (length old)) ≡ length u = omega (arith, k, ap length (list_of laid), length-append u (drop (length u) zeros)) in (
        simp (le-ltb (length old) (length u) (omega (arith, k))) (ap Ok k),
        g ∙ rw m (ap (λ (x : List ℕ). take (length u) x ++ drop (length u) old) (list_of laid) ∙ ap (λ (x : List ℕ). x ++ drop (length u) old) (take_at u (drop (length u) zeros) (length u) refl)),
      )

-- ---- from a text
module _ (t zeros tables : List ℕ) (r : Result (Unit {0}) Refusal) (l : length zeros ≡ tables_room) (e : r ≡ read_of t zeros) (f : tables ≡ readLeft t zeros) where
  pub judged_is : r ≡ judge_of t
  judged_is = whole_room t zeros r l e

  pub written_is : r ≡ Ok tt → written tables ≡ tables_text t
  unfolding readLeft
  written_is q =
      let j : judge_of t ≡ (Ok tt) = sym judged_is ∙ q in
      let a = accepted_means t j in
      let n : tables ≡ tables_text t ++ drop (length (tables_text t)) zeros = f ∙ ap (λ (z : Result (Unit {0}) Refusal). stays z (tables_text t) zeros) (sym e ∙ q) in
      ap written n ∙ written-front (tables_text t) (drop (length (tables_text t)) zeros) (counted t a) (some-numbers t a)

  pub text-room : (w : List ℕ) → r ≡ Ok tt → w ≡ written tables → length (normal_of w) ≤ normal_most
  text-room w q ew = rw (ew ∙ written_is q) (text-short t (accepted_means t (sym judged_is ∙ q)))

  module _ (g : List ℕ → List ℕ) where
    pub text-written : (w old new : List ℕ) (x : Result ℕ Refusal) → r ≡ Ok tt → w ≡ written tables → x ≡ roomy (g w) old → new ≡ put x (g w) old
        → (x ≡ text_answer g t old) × (new ≡ text_left g t old)
    text-written w old new x q ew ex en =
        let v : w ≡ tables_text t = ew ∙ written_is q in
        let j : judge_of t ≡ (Ok tt) = sym judged_is ∙ q in
        let a : x ≡ text_answer g t old = ex ∙ ap (λ (z : List ℕ). roomy (g z) old) v ∙ sym (ap (λ (z : Result (Unit {0}) Refusal). written_by z (g (tables_text t)) old) j) in
        (a, en ∙ ap (λ (z : List ℕ). put x (g z) old) v ∙ ap (λ (z : Result ℕ Refusal). put z (g (tables_text t)) old) a)

    pub text_refused : (x : Refusal) (old : List ℕ) → r ≡ Err x → (Err x ≡ text_answer g t old) × (old ≡ text_left g t old)
    text_refused x old q =
        let a : Err x ≡ text_answer g t old = sym (ap (λ (z : Result (Unit {0}) Refusal). written_by z (g (tables_text t)) old) (sym judged_is ∙ q)) in
        (a, ap (λ (z : Result ℕ Refusal). put z (g (tables_text t)) old) a)

-- ---- from tables
module _ (g : List ℕ → List ℕ) (ts old : List ℕ) where
  left_by : (x : Result ℕ Refusal) → x ≡ tables_answer g ts old → old ≡ put x (g (written ts)) old → old ≡ tables_left g ts old
  left_by x e h = h ∙ ap (λ (z : Result ℕ Refusal). put z (g (written ts)) old) e

  pub tables-short : length ts < tables_room → (Err (refusal 7 0 0) ≡ tables_answer g ts old) × (old ≡ tables_left g ts old)
  unfolding tables_answer
  tables-short h = let a : Err (refusal 7 0 0) ≡ tables_answer g ts old = simp (lt-ltb (length ts) tables_room h) in (a, left_by (Err (refusal 7 0 0)) a refl)

  pub tables_foreign : (b : Bool) → tables_room ≤ length ts → b ≡ genuine ts → b ≡ false → (Err (refusal 8 0 0) ≡ tables_answer g ts old) × (old ≡ tables_left g ts old)
  unfolding tables_answer
  tables_foreign b h e q = let a : Err (refusal 8 0 0) ≡ tables_answer g ts old = simp (le-ltb (length ts) tables_room h, sym e ∙ q) in (a, left_by (Err (refusal 8 0 0)) a refl)

  pub tables-written : (b : Bool) (w new : List ℕ) (x : Result ℕ Refusal) → tables_room ≤ length ts → b ≡ genuine ts → b ≡ true → w ≡ written ts → x ≡ roomy (g w) old → new ≡ put x (g w) old
      → (x ≡ tables_answer g ts old) × (new ≡ tables_left g ts old)
  unfolding tables_answer
  tables-written b w new x h e q ew ex en =
      let a : x ≡ tables_answer g ts old = ex ∙ ap (λ (z : List ℕ). roomy (g z) old) ew ∙ simp (le-ltb (length ts) tables_room h, sym e ∙ q) in
      (a, en ∙ ap (λ (z : List ℕ). put x (g z) old) ew ∙ ap (λ (z : Result ℕ Refusal). put z (g (written ts)) old) a)

-- a text that is returned is short
pub genuine-short : (ts : List ℕ) (b : Bool) (w : List ℕ) → b ≡ genuine ts → b ≡ true → w ≡ written ts → length (normal_of w) ≤ normal_most
unfolding genuine returns
genuine-short ts b w e q ew = rw ew (go (ltb normal_most (length (normal_of (written ts)))) refl (sym e ∙ q))
  where
    go : (x : Bool) → ltb normal_most (length (normal_of (written ts))) ≡ x
        → pick x false (agrees (judge_of (normal_of (written ts))) (written ts) (tables_text (normal_of (written ts)))) ≡ true → length (normal_of (written ts)) ≤ normal_most
    go true h k = absurd (let z : ◌≡◌ {A = ℕ} 0 1 = cc in omega arith)
    go false h k = ltb-false normal_most (length (normal_of (written ts))) h
