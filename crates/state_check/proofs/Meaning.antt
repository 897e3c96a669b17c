-- `is_state_of` lets through nothing but what document 01 calls a state of the model (specs/Meaning.antt), whatever the tables are.
use Prim.Native.Nat.{ℕ, zero, suc, min, ◌+◌, ◌≤◌, ◌<◌}
use mathlib.Core.Path.{◌≡◌, sym, ap, subst, ◌∙◌}
use mathlib.Core.Bool.{Bool, true}
use mathlib.Core.List.{List}
use mathlib.Core.Logic.{◌⊎◌, inl, inr}
use native.Mathlib.Omega.{arith}
use native.Mathlib.Decide.{ℕ_discrete}
use lib.ListN.{length, set, replicate, get_or-replicate}
use lib.Seq.{get_or-set_other}
use lib.IntN.{ℤ, pos, negsuc}
use lib.Dec.{eqb, ltb, leb}
use borrow.Author.Tests.{eqb-true, ltb-true, leb-true}
use Rattle.base_ceilings.specs.Ceilings.{capacity_most, channels_most, processes_most, state_room}
use Rattle.base_codes.specs.Codes.{c_channel, c_init, c_proctype}
use Rattle.base_bytes.specs.Choice.{both}
use Rattle.base_bytes.proofs.Tests.{both_true, either_true, true_false, pick-says}
use Rattle.table_layout.specs.Access.{code_of, link_of}
use Rattle.base_values.specs.Operators.{same}
use Rattle.base_values.specs.Types.{cast_of}
use Rattle.state_layout.specs.Layout.{kept, cell_of, count_of, process_at_lem, channel_at, field_at, processes_of, channels_of, unit_of, place_of, declared_of, waiting_of, kept_most}
use Rattle.base_bytes.specs.Numbers.{nat}
use Rattle.step_eval.specs.Variables.{type_of, size_of, slot_of}
use Rattle.state_start.specs.Starting.{unit_length, scanned}
use Rattle.step_ready.specs.Channels.{capacity_of, fields_of}
use Rattle.state_types.specs.Fits.{every, counts_at, counts_from, fits_at, element_fits, variable_fits, is_global, is_local, global_fits, local_fits, locals_fit, field_fits, message_fits}
use Rattle.state_used.specs.Shapes.{shaped, processes_in, channels_in, messages_in}
use Rattle.step_messages.specs.Messages.{field_type}
use Rattle.state_check.specs.Standing.{items_last, place_at, belongs, is_process, is_channel, process_sound, channel_sound, sound, same_at, same_numbers, is_state_of}
use Rattle.state_check.specs.Meaning.{InType, Counted, Used, process_unit, process_place, channel_item_lem, channel_count, IsState}
use Rattle.state_check.proofs.Uses.{shaped_keeps}

-- ---- tests
every-from : (f : ℕ → Bool) (i n k : ℕ) → every f i n ≡ true → k < n → f (i + k) ≡ true
unfolding every
every-from f i zero k e h = absurd (let z : k < 0 = h in omega arith)
every-from f i (suc n) zero e h = let q : i + 0 ≡ i = omega arith in ap f q ∙ (both_true (f i) (every f (i + 1) n) e).0
every-from f i (suc n) (suc k) e h =
    let q : i + suc k ≡ i + 1 + k = omega arith in ap f q ∙ every-from f (i + 1) n k (both_true (f i) (every f (i + 1) n) e).1 (omega arith)

pub every_at : (f : ℕ → Bool) (n k : ℕ) → every f 0 n ≡ true → k < n → f k ≡ true
every_at f n k e h = let q : k ≡ 0 + k = omega arith in ap f q ∙ every-from f 0 n k e h

same_is : (a b : ℤ) → same a b ≡ true → a ≡ b
same_is (pos a) (pos b) e = ap pos (eqb-true a b e)
same_is (pos a) (negsuc b) e = absurd (true_false (sym e))
same_is (negsuc a) (pos b) e = absurd (true_false (sym e))
same_is (negsuc a) (negsuc b) e = ap negsuc (eqb-true a b e)

begun_free : (x : List ℤ) (a b : ℤ) (i : ℕ) → 2 ≤ i → cell_of (set (set x 0 a) 1 b) i ≡ cell_of x i
begun_free x a b i h = get_or-set_other (set x 0 a) 1 i b (pos 0) (λ e. omega arith) ∙ get_or-set_other x 0 i a (pos 0) (λ e. omega arith)

-- ---- counts, and values in their types
counted_at : (s : List ℤ) (most i : ℕ) → counts_at s most i ≡ true → Counted s most i
unfolding counts_at
counted_at s most i e =
    let q : cell_of s i ≡ kept (min most (count_of s i)) = same_is (cell_of s i) (kept (min most (count_of s i))) e in
    let n : count_of s i ≡ min kept_most (min most (count_of s i)) = ap nat q in
    (q ∙ ap pos (sym n), omega arith)

counted-from : (s : List ℤ) (a b i : ℕ) → counts_from s a b i ≡ true → (Counted s a i) × (Counted s b (i + 1))
unfolding counts_from
counted-from s a b i e = let q = both_true (counts_at s a i) (counts_at s b (i + 1)) e in (counted_at s a i q.0, counted_at s b (i + 1) q.1)

fits_in : (s : List ℤ) (ty i : ℕ) → fits_at s ty i ≡ true → InType s ty i
unfolding fits_at
fits_in s ty i e = same_is (cast_of ty (cell_of s i)) (cell_of s i) e

variable_in : (s : List ℤ) (l p k : ℕ) → variable_fits s l p ≡ true → k < size_of l → InType s (type_of l) (slot_of l p k)
unfolding variable_fits element_fits
variable_in s l p k e h = fits_in s (type_of l) (slot_of l p k) (every_at (element_fits s l p) (size_of l) k e h)

module _ (t : List ℕ) (s : List ℤ) where
  global_in : (j k : ℕ) → global_fits t s j ≡ true → is_global t j ≡ true → k < size_of (link_of t j) → InType s (type_of (link_of t j)) (slot_of (link_of t j) 0 k)
  unfolding global_fits
  global_in j k e g h = variable_in s (link_of t j) 0 k (pick-says (is_global t j) _ e g) h

  local_in : (p j k : ℕ) → local_fits t s p j ≡ true → is_local t j ≡ true → k < size_of (link_of t j) → InType s (type_of (link_of t j)) (slot_of (link_of t j) p k)
  unfolding local_fits
  local_in p j k e g h = variable_in s (link_of t j) p k (pick-says (is_local t j) _ e g) h

  locals_in : (p u j : ℕ) → locals_fit t s p u ≡ true → j < unit_length t u → local_fits t s p (u + j) ≡ true
  unfolding locals_fit
  locals_in p u j e h = every_at (λ k. local_fits t s p (u + k)) (unit_length t u) j e h

  message_in : (c d m f : ℕ) → message_fits t s c d m ≡ true → f < fields_of t d → InType s (field_type t d f) (field_at c m f)
  unfolding message_fits field_fits
  message_in c d m f e h = fits_in s (field_type t d f) (field_at c m f) (every_at (field_fits t s c d m) (fields_of t d) f e h)

  -- ---- units, places, channels
  belongs_to : (u q : ℕ) → belongs t u q ≡ true → (q ≡ link_of t u) ⊎ ((u < q) × (q < link_of t u) × (place_at t q ≡ true))
  unfolding belongs
  belongs_to u q e = go (either_true (eqb q (link_of t u)) _ e)
    where
      go : (eqb q (link_of t u) ≡ true) ⊎ (both (both (ltb u q) (ltb q (link_of t u))) (place_at t q) ≡ true) → (q ≡ link_of t u) ⊎ ((u < q) × (q < link_of t u) × (place_at t q ≡ true))
      go (inl a) = inl (eqb-true q (link_of t u) a)
      go (inr a) =
          let b = both_true (both (ltb u q) (ltb q (link_of t u))) (place_at t q) a in
          let c = both_true (ltb u q) (ltb q (link_of t u)) b.0 in
          inr (ltb-true u q c.0, ltb-true q (link_of t u) c.1, b.1)

  process_parts : (p : ℕ) → is_process t s p ≡ true
      → (c_proctype ≤ code_of t (unit_of s p)) × (code_of t (unit_of s p) ≤ c_init) × (belongs t (unit_of s p) (place_of s p) ≡ true) × (locals_fit t s p (unit_of s p) ≡ true)
  unfolding is_process
  process_parts p e =
      let a = both_true _ (both (belongs t (unit_of s p) (place_of s p)) (locals_fit t s p (unit_of s p))) e in
      let b = both_true (leb c_proctype (code_of t (unit_of s p))) (leb (code_of t (unit_of s p)) c_init) a.0 in
      let c = both_true (belongs t (unit_of s p) (place_of s p)) (locals_fit t s p (unit_of s p)) a.1 in
      (leb-true c_proctype (code_of t (unit_of s p)) b.0, leb-true (code_of t (unit_of s p)) c_init b.1, c.0, c.1)

  channel_parts : (c : ℕ) → is_channel t s c ≡ true
      → (code_of t (declared_of s c) ≡ c_channel) × (waiting_of s c ≤ capacity_of t (declared_of s c)) × (every (message_fits t s c (declared_of s c)) 0 (messages_in s c) ≡ true)
  unfolding is_channel
  channel_parts c e =
      let a = both_true (both (eqb (code_of t (declared_of s c)) c_channel) (leb (waiting_of s c) (capacity_of t (declared_of s c)))) (every (message_fits t s c (declared_of s c)) 0 (messages_in s c)) e in
      let b = both_true (eqb (code_of t (declared_of s c)) c_channel) (leb (waiting_of s c) (capacity_of t (declared_of s c))) a.0 in
      (eqb-true (code_of t (declared_of s c)) c_channel b.0, leb-true (waiting_of s c) (capacity_of t (declared_of s c)) b.1, a.1)

  process-both : (p : ℕ) → process_sound t s p ≡ true → (counts_from s (items_last t) (items_last t) (process_at_lem p) ≡ true) × (is_process t s p ≡ true)
  unfolding process_sound
  process-both p e = both_true (counts_from s (items_last t) (items_last t) (process_at_lem p)) (is_process t s p) e

  channel-both : (c : ℕ) → channel_sound t s c ≡ true → (counts_from s (items_last t) capacity_most (channel_at c) ≡ true) × (is_channel t s c ≡ true)
  unfolding channel_sound
  channel-both c e = both_true (counts_from s (items_last t) capacity_most (channel_at c)) (is_channel t s c) e

  sound_parts : sound t s ≡ true
      → (counts_from s processes_most channels_most 0 ≡ true) × (every (global_fits t s) 0 (scanned t) ≡ true) × (every (process_sound t s) 0 (processes_in s) ≡ true) × (every (channel_sound t s) 0 (channels_in s) ≡ true)
  unfolding sound
  sound_parts e =
      let h = both_true (counts_from s processes_most channels_most 0) (both (every (global_fits t s) 0 (scanned t)) (both (every (process_sound t s) 0 (processes_in s)) (every (channel_sound t s) 0 (channels_in s)))) e in
      let a = both_true (every (global_fits t s) 0 (scanned t)) (both (every (process_sound t s) 0 (processes_in s)) (every (channel_sound t s) 0 (channels_in s))) h.1 in
      let b = both_true (every (process_sound t s) 0 (processes_in s)) (every (channel_sound t s) 0 (channels_in s)) a.1 in
      (h.0, a.0, b.0, b.1)

  -- ---- what is shaped
  unused_shaped : (i : ℕ) → 2 ≤ i → i < state_room → Used t s i ⊎ (cell_of (shaped t s) i ≡ pos 0)
  unused_shaped i h g =
      shaped_keeps t s (λ a v. Used t s a) (λ a u. u) process_unit process_place channel_item_lem channel_count (λ x. Used t s i ⊎ (cell_of x i ≡ pos 0)) (λ a v x u q. other a v x u q (ℕ_discrete i a)) (inr (begun_free (replicate state_room (pos 0)) (kept (processes_in s)) (kept (channels_in s)) i h ∙ get_or-replicate state_room i (pos 0) (pos 0) g))
    where
      other : (a : ℕ) (v : ℤ) (x : List ℤ) → Used t s a → Used t s i ⊎ (cell_of x i ≡ pos 0) → Dec (i ≡ a) → Used t s i ⊎ (cell_of (set x a v) i ≡ pos 0)
      other a v x u q (yes e) = inl (subst (Used t s) (sym e) u)
      other a v x u (inl w) (no n) = inl w
      other a v x u (inr w) (no n) = inr (get_or-set_other x a i v (pos 0) n ∙ w)

  -- ---- the whole
  module _ (long : state_room ≤ length s) (sounds : sound t s ≡ true) (keeps : same_numbers (shaped t s) s ≡ true) where
    cell-shaped : (i : ℕ) → i < state_room → cell_of (shaped t s) i ≡ cell_of s i
    unfolding same_numbers
    cell-shaped i h = same_is (cell_of (shaped t s) i) (cell_of s i) (every_at (same_at (shaped t s) s) state_room i keeps h)

    counts_in : Counted s processes_most 0 × Counted s channels_most 1
    counts_in = counted-from s processes_most channels_most 0 (sound_parts sounds).0

    process_at : (p : ℕ) → p < processes_of s → process_sound t s p ≡ true
    process_at p h = every_at (process_sound t s) (processes_in s) p (sound_parts sounds).2 (let w = counts_in.0.1 in omega arith)

    channel_at_lem : (c : ℕ) → c < channels_of s → channel_sound t s c ≡ true
    channel_at_lem c h = every_at (channel_sound t s) (channels_in s) c (sound_parts sounds).3 (let w = counts_in.1.1 in omega arith)

    waiting_in : (c : ℕ) → c < channels_of s → waiting_of s c ≤ capacity_most
    waiting_in c h = (counted-from s (items_last t) capacity_most (channel_at c) (channel-both c (channel_at_lem c h)).0).1.1

    unused_zero : (i : ℕ) → 2 ≤ i → i < state_room → Used t s i ⊎ (cell_of s i ≡ pos 0)
    unused_zero i h g = go (unused_shaped i h g)
      where
        go : Used t s i ⊎ (cell_of (shaped t s) i ≡ pos 0) → Used t s i ⊎ (cell_of s i ≡ pos 0)
        go (inl u) = inl u
        go (inr e) = inr (sym (cell-shaped i g) ∙ e)

    stands : IsState t s
    stands = record {
      long = long;
      processes = counts_in.0;
      channels = counts_in.1;
      heads = λ p h. counted-from s (items_last t) (items_last t) (process_at_lem p) (process-both p (process_at p h)).0;
      records = λ c h. counted-from s (items_last t) capacity_most (channel_at c) (channel-both c (channel_at_lem c h)).0;
      globals = λ j k h e g. global_in j k (every_at (global_fits t s) (scanned t) j (sound_parts sounds).1 h) e g;
      locals = λ p j k h g e w. local_in p (unit_of s p + j) k (locals_in p (unit_of s p) j (process_parts p (process-both p (process_at p h)).1).3 g) e w;
      units = λ p h. let a = process_parts p (process-both p (process_at p h)).1 in (a.0, a.1);
      places = λ p h. belongs_to (unit_of s p) (place_of s p) (process_parts p (process-both p (process_at p h)).1).2;
      declarations = λ c h. (channel_parts c (channel-both c (channel_at_lem c h)).1).0;
      room = λ c h. (channel_parts c (channel-both c (channel_at_lem c h)).1).1;
      messages = λ c m f h g w. message_in c (declared_of s c) m f (every_at (message_fits t s c (declared_of s c)) (messages_in s c) m (channel_parts c (channel-both c (channel_at_lem c h)).1).2 (let v = waiting_in c h in omega arith)) w;
      unused = unused_zero;
    }

  pub is_state_stands : is_state_of t s ≡ true → IsState t s
  unfolding is_state_of
  is_state_stands e =
      let a = both_true (leb state_room (length s)) (both (sound t s) (same_numbers (shaped t s) s)) e in
      let b = both_true (sound t s) (same_numbers (shaped t s) s) a.1 in
      stands (leb-true state_room (length s) a.0) b.0 b.1
