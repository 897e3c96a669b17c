-- Laws of natural numbers in a state, and of clearing one.
use Prim.Native.Nat.{ℕ, min, ◌+◌, ◌<◌, ◌^◌}
use mathlib.Core.Path.{◌≡◌, ap, ◌∙◌}
use mathlib.Core.List.{List, ◌++◌, append-nil}
use native.Mathlib.Omega.{arith}
use lib.ListN.{length, set, drop, replicate}
use lib.Seq.{drop-length}
use lib.IntN.{ℤ, pos}
use lib.Signed.{mag}
use mir.Syntax.{w32}
use mir.Val.{to_z, of_z}
use mir.ValLaws.{to_z-of_z, to_z_pos}
use Rattle.base_ceilings.specs.Ceilings.{state_room}
use Rattle.state_layout.specs.Layout.{count_of, cell_of, kept, cleared, kept_most}
use Rattle.base_bytes.specs.Numbers.{nat}

-- a number kept in a local and read again
pub back : {z : ℤ} → mag z < 2 ^ 31 → to_z w32 (of_z w32 z) ≡ z
back {z} h = to_z-of_z w32 z (record { sfits = h })

-- a count and what it was before it went through a local
pub count_of_lem : {v w : ℤ} {r : ℕ} → mag v < 2 ^ 31 → v ≡ w → r ≡ nat (to_z w32 (of_z w32 v)) → r ≡ nat w
count_of_lem h e q = q ∙ ap nat (back h ∙ e)

-- the same at a place that a callee worked out
pub count_at : (s : List ℤ) {r i j : ℕ} → (r ≡ count_of s i) × (r < kept_most + 1) → i ≡ j → (r ≡ count_of s j) × (r < kept_most + 1)
count_at s q e = (q.0 ∙ ap (count_of s) e, q.1)

pub cell_at : (s : List ℤ) {v : ℤ} {i j : ℕ} → mag v < 2 ^ 31 → v ≡ cell_of s i → i ≡ j → to_z w32 (of_z w32 v) ≡ cell_of s j
cell_at s h q e = back h ∙ q ∙ ap (cell_of s) e

pub kept_of : (n : ℕ) {r : ℕ} → r ≡ min kept_most n → to_z w32 r ≡ kept n
kept_of n {r} e = to_z_pos w32 r (omega arith) ∙ ap pos e

pub put-kept : (s s' : List ℤ) (i : ℕ) {z w : ℤ} → mag z < 2 ^ 31 → z ≡ w → s' ≡ set s i (to_z w32 (of_z w32 z)) → s' ≡ set s i w
put-kept s s' i h e q = q ∙ ap (set s i) (back h ∙ e)

-- of a state that has just the size, every number is 0
pub cleared-all : (s : List ℤ) → length s ≡ state_room → cleared s ≡ replicate (length s) (pos 0)
cleared-all s h =
    let q : min state_room (length s) ≡ length s = omega arith in
    ap (λ n. replicate n (pos 0) ++ drop n s) q ∙ ap (λ l. replicate (length s) (pos 0) ++ l) (drop-length s) ∙ append-nil (replicate (length s) (pos 0))
