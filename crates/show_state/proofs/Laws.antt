-- Laws of a listing: one part more of it, a variable, a channel.
use Prim.Native.Nat.{ℕ, suc, ◌+◌, ◌-◌, ◌≤◌, ◌<◌, ◌^◌}
use mathlib.Core.Path.{◌≡◌, sym, ap, ◌∙◌}
use mathlib.Core.Bool.{Bool, true, false}
use mathlib.Core.List.{List, [], ◌∷◌, ◌++◌}
use native.Mathlib.Omega.{arith}
use lib.IntN.{ℤ}
use lib.Signed.{mag}
use mir.Syntax.{w32}
use mir.Val.{to_z, of_z}
use Rattle.base_bytes.specs.Choice.{pick}
use Rattle.base_kinds.specs.Kinds.{bytes}
use Rattle.base_pens.specs.Pen.{Pen, write, puts}
use Rattle.base_pens.proofs.Pen.{puts-append}
use Rattle.spec_text.specs.Formats.{digits_of, decimal_of}
use Rattle.table_layout.specs.Access.{link_of}
use Rattle.state_layout.specs.Layout.{cell_of, unit_of, declared_of}
use Rattle.state_layout.proofs.Laws.{back}
use Rattle.step_eval.specs.Variables.{size_of, slot_of}
use Rattle.state_start.specs.Starting.{unit_length}
use Rattle.step_ready.specs.Channels.{capacity_of, fields_of}
use Rattle.write_letters.specs.Tokens.{spelled}
use Rattle.spec_account.specs.States.{values_text}
use Rattle.show_state.specs.Listing.{along, numbers_from, numbers_in, messages_in, variable_in, local_in, locals_in, channel_in}

-- ---- one part behind the other
module _ (f : ℕ → List ℕ) where
  pub along-start : (n k : ℕ) (w : Pen) → n ≡ k → puts (along f 0 (n - 0)) w ≡ puts (along f 0 k) w
  along-start n k w e = let q : n - 0 ≡ k = omega arith in rw q

  pub along-more : (i n : ℕ) (w x : Pen) → i < n → x ≡ puts (f i) w → puts (along f (i + 1) (n - (i + 1))) x ≡ puts (along f i (n - i)) w
  unfolding along
  along-more i n w x h e =
      let q : n - i ≡ suc (n - (i + 1)) = omega arith in
      rw q (ap (puts (along f (i + 1) (n - (i + 1)))) e ∙ sym (puts-append (f i) (along f (i + 1) (n - (i + 1))) w))

  pub along_end : (i n : ℕ) (w : Pen) → n ≤ i → puts (along f i (n - i)) w ≡ w
  unfolding along puts
  along_end i n w h = let q : n - i ≡ 0 = omega arith in rw q

-- what is said if a test holds
module _ (b : Bool) (l : List ℕ) (w : Pen) where
  pub said : (x : Pen) → b ≡ true → x ≡ puts l w → x ≡ puts (pick b l []) w
  said x e g = rw e g

  pub unsaid : b ≡ false → w ≡ puts (pick b l []) w
  unfolding puts
  unsaid e = rw e

-- ---- the numbers of a variable
module _ (s : List ℤ) (l p : ℕ) where
  pub numbers-start : (n : ℕ) (w : Pen) → n ≡ size_of l → puts (values_text (numbers_from s l p 0 (n - 0))) w ≡ puts (values_text (numbers_in s l p)) w
  numbers-start n w e = let q : n - 0 ≡ size_of l = omega arith in rw q

  pub numbers_more : (k n i : ℕ) (v : ℤ) (w x y : Pen) → k < n → i ≡ slot_of l p k → mag v < 2 ^ 31 → v ≡ cell_of s i → x ≡ write 32 w → y ≡ puts (decimal_of (to_z w32 (of_z w32 v))) x
      → puts (values_text (numbers_from s l p (k + 1) (n - (k + 1)))) y ≡ puts (values_text (numbers_from s l p k (n - k))) w
  unfolding numbers_from values_text puts
  numbers_more k n i v w x y h a b e g z =
      let q : n - k ≡ suc (n - (k + 1)) = omega arith in
      let r : to_z w32 (of_z w32 v) ≡ cell_of s (slot_of l p k) = back b ∙ e ∙ ap (cell_of s) a in
      rw q (ap (puts (values_text (numbers_from s l p (k + 1) (n - (k + 1))))) (z ∙ (λ j. puts (decimal_of (r j)) (g j)))
      ∙ sym (puts-append (decimal_of (cell_of s (slot_of l p k))) (values_text (numbers_from s l p (k + 1) (n - (k + 1)))) (write 32 w)))

  pub numbers_end : (k n : ℕ) (w : Pen) → n ≤ k → puts (values_text (numbers_from s l p k (n - k))) w ≡ w
  unfolding numbers_from values_text puts
  numbers_end k n w h = let q : n - k ≡ 0 = omega arith in rw q

-- ---- three and more texts one behind the other
three : (a b c : List ℕ) (w : Pen) → puts (a ++ (b ++ c)) w ≡ puts c (puts b (puts a w))
three a b c w = puts-append a (b ++ c) w ∙ puts-append b c (puts a w)

module _ (t : List ℕ) (s : List ℤ) where
  pub variable_put : (word : List ℕ) (p j i l : ℕ) (w x y z v : Pen) → x ≡ puts word w → i ≡ j - 1 → y ≡ puts (spelled t i) x → l ≡ link_of t j → z ≡ puts (values_text (numbers_in s l p)) y → v ≡ write 10 z
      → v ≡ puts (variable_in t s word p j) w
  unfolding puts
  variable_put word p j i l w x y z v a e b f c d =
      d ∙ ap (write 10) (c ∙ (λ n. puts (values_text (numbers_in s (f n) p)) ((b ∙ (λ k. puts (spelled t (e k)) (a k))) n)))
      ∙ sym (three word (spelled t (j - 1)) (values_text (numbers_in s (link_of t j) p) ++ 10 ∷ []) w ∙ puts-append (values_text (numbers_in s (link_of t j) p)) (10 ∷ []) (puts (spelled t (j - 1)) (puts word w)))

  pub channel-put : (c d k n : ℕ) (w x y z u v r : Pen) → d ≡ declared_of s c → x ≡ puts (bytes "channel ") w → y ≡ puts (digits_of (c + 1)) x → z ≡ write 32 y → k ≡ capacity_of t d → u ≡ puts (digits_of k) z
      → n ≡ fields_of t d → v ≡ puts (messages_in s c n) u → r ≡ write 10 v → r ≡ puts (channel_in t s c) w
  unfolding puts
  channel-put c d k n w x y z u v r ed a b e ek f en g h =
      let K : k ≡ capacity_of t (declared_of s c) = ek ∙ ap (capacity_of t) ed in
      let N : n ≡ fields_of t (declared_of s c) = en ∙ ap (fields_of t) ed in
      let Z : z ≡ write 32 (puts (digits_of (c + 1)) (puts (bytes "channel ") w)) = e ∙ ap (write 32) (b ∙ ap (puts (digits_of (c + 1))) a) in
      let U : u ≡ puts (digits_of (capacity_of t (declared_of s c))) (write 32 (puts (digits_of (c + 1)) (puts (bytes "channel ") w))) = f ∙ (λ i. puts (digits_of (K i)) (Z i)) in
      h ∙ ap (write 10) (g ∙ (λ i. puts (messages_in s c (N i)) (U i)))
      ∙ sym (three (bytes "channel ") (digits_of (c + 1)) (32 ∷ (digits_of (capacity_of t (declared_of s c)) ++ (messages_in s c (fields_of t (declared_of s c)) ++ 10 ∷ []))) w
      ∙ three (digits_of (capacity_of t (declared_of s c))) (messages_in s c (fields_of t (declared_of s c))) (10 ∷ []) (write 32 (puts (digits_of (c + 1)) (puts (bytes "channel ") w))))

  -- the variables of process p, whose unit item u begins
  pub locals_start : (p u n : ℕ) (w : Pen) → u ≡ unit_of s p → n ≡ unit_length t u → puts (along (λ k. local_in t s p (u + k)) 0 (n - 0)) w ≡ puts (locals_in t s p) w
  locals_start p u n w e f = along-start (λ k. local_in t s p (u + k)) n (unit_length t u) w f ∙ ap (λ i. puts (along (λ k. local_in t s p (i + k)) 0 (unit_length t i)) w) e
