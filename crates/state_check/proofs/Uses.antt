-- What shaping writes: only numbers that are in use. So whatever holds of the two counts on zeros, and each such write keeps, holds of the whole.
use Prim.Native.Nat.{ℕ, zero, suc, ◌+◌, ◌<◌}
use mathlib.Core.Path.{◌≡◌, refl, subst}
use mathlib.Core.Bool.{Bool, true, false}
use mathlib.Core.List.{List}
use native.Mathlib.Omega.{arith}
use lib.ListN.{set, replicate}
use lib.IntN.{ℤ, pos}
use Rattle.base_ceilings.specs.Ceilings.{state_room}
use Rattle.base_bytes.specs.Choice.{pick}
use Rattle.table_layout.specs.Access.{link_of}
use Rattle.state_layout.specs.Layout.{kept, process_at_lem, channel_at, field_at, cell_of, processes_of, channels_of, unit_of, place_of, declared_of, waiting_of}
use Rattle.state_layout.specs.Walks.{walk}
use Rattle.step_eval.specs.Variables.{size_of, slot_of}
use Rattle.state_start.specs.Starting.{unit_length, scanned}
use Rattle.step_ready.specs.Channels.{fields_of}
use Rattle.state_types.specs.Fits.{is_global, is_local}
use Rattle.state_used.specs.Shapes.{element_shaped, variable_shaped, global_shaped, local_shaped, locals_shaped, process_shaped, field_shaped, message_shaped, channel_shaped, shaped_on, shaped, processes_in, channels_in, messages_in}
use Rattle.state_check.specs.Meaning.{Used, global_number, local_number, field_number}

-- what each step keeps, a walk keeps
from_keeps : (Q : List ℤ → Type 0) (f : ℕ → List ℤ → List ℤ) (j n : ℕ) (x : List ℤ) → ((k : ℕ) → k < n → (y : List ℤ) → Q y → Q (f (j + k) y)) → Q x → Q (walk f j n x)
unfolding walk
from_keeps Q f j zero x h q = q
from_keeps Q f j (suc n) x h q =
    from_keeps Q f (j + 1) n (f j x)
    (λ k g y w. subst (λ i. Q (f i y)) (let e : j + (k + 1) ≡ j + 1 + k = omega arith in e) (h (k + 1) (omega arith) y w))
    (subst (λ i. Q (f i x)) (let e : j + 0 ≡ j = omega arith in e) (h 0 (omega arith) x q))

pub walk_keeps : (Q : List ℤ → Type 0) (f : ℕ → List ℤ → List ℤ) (n : ℕ) (x : List ℤ) → ((k : ℕ) → k < n → (y : List ℤ) → Q y → Q (f k y)) → Q x → Q (walk f 0 n x)
walk_keeps Q f n x h q = from_keeps Q f 0 n x (λ k g y w. subst (λ i. Q (f i y)) (let e : k ≡ 0 + k = omega arith in e) (h k g y w)) q

-- what one step brings about and the others keep, where each keeps R
from_hits : (Q R : List ℤ → Type 0) (f : ℕ → List ℤ → List ℤ) (j n : ℕ) (x : List ℤ) (k : ℕ) → k < n → ((k : ℕ) → k < n → (y : List ℤ) → Q y → Q (f (j + k) y))
    → ((k : ℕ) → k < n → (y : List ℤ) → R y → R (f (j + k) y)) → ((y : List ℤ) → R y → Q (f (j + k) y)) → R x → Q (walk f j n x)
unfolding walk
from_hits Q R f j zero x k h q r z w = absurd (let z : k < 0 = h in omega arith)
from_hits Q R f j (suc n) x zero h q r z w =
    from_keeps Q f (j + 1) n (f j x) (λ k g y v. subst (λ i. Q (f i y)) (let e : j + (k + 1) ≡ j + 1 + k = omega arith in e) (q (k + 1) (omega arith) y v))
    (subst (λ i. Q (f i x)) (let e : j + 0 ≡ j = omega arith in e) (z x w))
from_hits Q R f j (suc n) x (suc k) h q r z w =
    from_hits Q R f (j + 1) n (f j x) k (omega arith) (λ k g y v. subst (λ i. Q (f i y)) (let e : j + (k + 1) ≡ j + 1 + k = omega arith in e) (q (k + 1) (omega arith) y v))
    (λ k g y v. subst (λ i. R (f i y)) (let e : j + (k + 1) ≡ j + 1 + k = omega arith in e) (r (k + 1) (omega arith) y v))
    (λ y v. subst (λ i. Q (f i y)) (let e : j + suc k ≡ j + 1 + k = omega arith in e) (z y v)) (subst (λ i. R (f i x)) (let e : j + 0 ≡ j = omega arith in e) (r 0 (omega arith) x w))

pub walk_hits : (Q R : List ℤ → Type 0) (f : ℕ → List ℤ → List ℤ) (n : ℕ) (x : List ℤ) (k : ℕ) → k < n → ((k : ℕ) → k < n → (y : List ℤ) → Q y → Q (f k y))
    → ((k : ℕ) → k < n → (y : List ℤ) → R y → R (f k y)) → ((y : List ℤ) → R y → Q (f k y)) → R x → Q (walk f 0 n x)
walk_hits Q R f n x k h q r z w =
    from_hits Q R f 0 n x k h (λ k g y v. subst (λ i. Q (f i y)) (let e : k ≡ 0 + k = omega arith in e) (q k g y v)) (λ k g y v. subst (λ i. R (f i y)) (let e : k ≡ 0 + k = omega arith in e) (r k g y v))
    (λ y v. subst (λ i. Q (f i y)) (let e : k ≡ 0 + k = omega arith in e) (z y v)) w

pick_keeps : (Q : List ℤ → Type 0) (b : Bool) (x y : List ℤ) → (b ≡ true → Q x) → Q y → Q (pick b x y)
pick_keeps Q true x y h q = h refl
pick_keeps Q false x y h q = q

-- a write of v at a is one that W tells of; Q stays with each of them
module _ (t : List ℕ) (s : List ℤ) (W : ℕ → ℤ → Type 0) (copy : (a : ℕ) → Used t s a → W a (cell_of s a))
    (unit : (p : ℕ) → p < processes_of s → W (process_at_lem p) (kept (unit_of s p))) (place : (p : ℕ) → p < processes_of s → W (process_at_lem p + 1) (kept (place_of s p)))
    (item : (c : ℕ) → c < channels_of s → W (channel_at c) (kept (declared_of s c))) (count : (c : ℕ) → c < channels_of s → W (channel_at c + 1) (kept (messages_in s c)))
    (Q : List ℤ → Type 0) (free : (a : ℕ) (v : ℤ) (x : List ℤ) → W a v → Q x → Q (set x a v)) where
  variable_keeps : (l p : ℕ) → ((k : ℕ) → k < size_of l → Used t s (slot_of l p k)) → (x : List ℤ) → Q x → Q (variable_shaped s l p x)
  unfolding variable_shaped element_shaped
  variable_keeps l p u x q = walk_keeps Q (element_shaped s l p) (size_of l) x (λ k h y w. free (slot_of l p k) _ y (copy (slot_of l p k) (u k h)) w) q

  pub global_keeps : (j : ℕ) → j < scanned t → (x : List ℤ) → Q x → Q (global_shaped t s j x)
  unfolding global_shaped
  global_keeps j h x q = pick_keeps Q (is_global t j) _ x (λ e. variable_keeps (link_of t j) 0 (λ k g. global_number j k h e g) x q) q

  pub local_keeps : (p j : ℕ) → p < processes_of s → j < unit_length t (unit_of s p) → (x : List ℤ) → Q x → Q (local_shaped t s p (unit_of s p + j) x)
  unfolding local_shaped
  local_keeps p j hp hj x q =
      pick_keeps Q (is_local t (unit_of s p + j)) _ x (λ e. variable_keeps (link_of t (unit_of s p + j)) p (λ k g. local_number p j k hp hj e g) x q) q

  pub process_keeps : (p : ℕ) → p < processes_of s → (x : List ℤ) → Q x → Q (process_shaped t s p x)
  unfolding process_shaped locals_shaped
  process_keeps p h x q =
      walk_keeps Q (λ k y. local_shaped t s p (unit_of s p + k) y) (unit_length t (unit_of s p)) _ (λ k g y w. local_keeps p k h g y w)
      (free (process_at_lem p + 1) _ _ (place p h) (free (process_at_lem p) _ x (unit p h) q))

  pub message_keeps : (c m : ℕ) → c < channels_of s → m < waiting_of s c → (x : List ℤ) → Q x → Q (message_shaped t s c (declared_of s c) m x)
  unfolding message_shaped field_shaped
  message_keeps c m hc hm x q =
      walk_keeps Q (field_shaped s c m) (fields_of t (declared_of s c)) x (λ f g y w. free (field_at c m f) _ y (copy (field_at c m f) (field_number c m f hc hm g)) w) q

  pub channel_keeps : (c : ℕ) → c < channels_of s → (x : List ℤ) → Q x → Q (channel_shaped t s c x)
  unfolding channel_shaped
  channel_keeps c h x q =
      walk_keeps Q (message_shaped t s c (declared_of s c)) (messages_in s c) _ (λ m g y w. message_keeps c m h (omega arith) y w)
      (free (channel_at c + 1) _ _ (count c h) (free (channel_at c) _ x (item c h) q))

  pub shaped_keeps : Q (set (set (replicate state_room (pos 0)) 0 (kept (processes_in s))) 1 (kept (channels_in s))) → Q (shaped t s)
  unfolding shaped shaped_on
  shaped_keeps q =
      walk_keeps Q (channel_shaped t s) (channels_in s) _ (λ c g y w. channel_keeps c (omega arith) y w)
      (walk_keeps Q (process_shaped t s) (processes_in s) _ (λ p g y w. process_keeps p (omega arith) y w)
      (walk_keeps Q (global_shaped t s) (scanned t) _ (λ j g y w. global_keeps j g y w) q))
