-- Numbers that stand for a state of the model (specs/Meaning.antt) are let through: with `is_state_stands`, they are just those.
use Prim.Native.Nat.{ℕ, zero, suc, ◌+◌, ◌≤◌, ◌<◌}
use mathlib.Core.Path.{◌≡◌, refl, sym, ap, subst, ◌∙◌}
use mathlib.Core.Bool.{Bool, true, false}
use mathlib.Core.List.{List}
use mathlib.Core.Logic.{◌⊎◌, inl, inr}
use native.Mathlib.Omega.{arith}
use lib.ListN.{length}
use lib.IntN.{ℤ, pos, negsuc}
use lib.Dec.{eqb, ltb, leb}
use borrow.Author.Tests.{eq-eqb, lt-ltb, le-leb}
use Rattle.base_ceilings.specs.Ceilings.{capacity_most, channels_most, processes_most, state_room}
use Rattle.base_codes.specs.Codes.{c_channel, c_init, c_proctype}
use Rattle.base_codes.specs.Sets.{within}
use Rattle.base_bytes.specs.Choice.{pick, both}
use Rattle.table_layout.specs.Access.{code_of, link_of}
use Rattle.base_values.specs.Operators.{same}
use Rattle.base_values.specs.Types.{cast_of}
use Rattle.state_layout.specs.Layout.{cell_of, process_at_lem, channel_at, field_at, processes_of, channels_of, unit_of, place_of, declared_of, waiting_of, kept_most}
use Rattle.step_eval.specs.Variables.{type_of, size_of, slot_of}
use Rattle.state_start.specs.Starting.{unit_length, scanned}
use Rattle.step_ready.specs.Channels.{capacity_of, fields_of}
use Rattle.state_types.specs.Fits.{every, counts_at, counts_from, fits_at, element_fits, variable_fits, is_global, is_local, global_fits, local_fits, locals_fit, field_fits, message_fits}
use Rattle.state_used.specs.Shapes.{shaped, processes_in, channels_in, messages_in}
use Rattle.state_check.specs.Standing.{items_last, place_at, belongs, is_process, is_channel, process_sound, channel_sound, sound, same_at, same_numbers, is_state_of}
use Rattle.state_check.specs.Meaning.{InType, Counted, IsState}
use Rattle.state_check.proofs.Kept.{counted-kept, shaped-same}
use Rattle.base_bytes.proofs.Tests.{both_hold, left-holds, right-holds}
use Rattle.step_messages.specs.Messages.{field_type}

-- ---- tests
pick-holds : (b c : Bool) → (b ≡ true → c ≡ true) → pick b c true ≡ true
pick-holds true c h = h refl
pick-holds false c h = refl

every-from : (f : ℕ → Bool) (i n : ℕ) → ((k : ℕ) → k < n → f (i + k) ≡ true) → every f i n ≡ true
unfolding every
every-from f i zero h = refl
every-from f i (suc n) h =
    both_hold (f i) (every f (i + 1) n) (let q : i ≡ i + 0 = omega arith in ap f q ∙ h 0 (omega arith))
    (every-from f (i + 1) n (λ k g. let q : i + 1 + k ≡ i + (k + 1) = omega arith in ap f q ∙ h (k + 1) (omega arith)))

every_holds : (f : ℕ → Bool) (n : ℕ) → ((k : ℕ) → k < n → f k ≡ true) → every f 0 n ≡ true
every_holds f n h = every-from f 0 n (λ k g. let q : 0 + k ≡ k = omega arith in ap f q ∙ h k g)

same_self : (a : ℤ) → same a a ≡ true
same_self (pos a) = eq-eqb a a refl
same_self (negsuc a) = eq-eqb a a refl

same-holds : (a b : ℤ) → a ≡ b → same a b ≡ true
same-holds a b e = subst (λ c. same a c ≡ true) e (same_self a)

-- ---- counts, and values in their types
counts_hold : (s : List ℤ) (a b i : ℕ) → a ≤ kept_most → b ≤ kept_most → Counted s a i → Counted s b (i + 1) → counts_from s a b i ≡ true
unfolding counts_from counts_at
counts_hold s a b i ha hb p q =
    both_hold (counts_at s a i) (counts_at s b (i + 1)) (same-holds (cell_of s i) _ (sym (counted-kept s a i ha p))) (same-holds (cell_of s (i + 1)) _ (sym (counted-kept s b (i + 1) hb q)))

fits_hold : (s : List ℤ) (ty i : ℕ) → InType s ty i → fits_at s ty i ≡ true
unfolding fits_at
fits_hold s ty i e = same-holds (cast_of ty (cell_of s i)) (cell_of s i) e

variable_holds : (s : List ℤ) (l p : ℕ) → ((k : ℕ) → k < size_of l → InType s (type_of l) (slot_of l p k)) → variable_fits s l p ≡ true
unfolding variable_fits element_fits
variable_holds s l p h = every_holds (element_fits s l p) (size_of l) (λ k g. fits_hold s (type_of l) (slot_of l p k) (h k g))

module _ (t : List ℕ) (s : List ℤ) (st : IsState t s) where
  globals_hold : every (global_fits t s) 0 (scanned t) ≡ true
  unfolding global_fits
  globals_hold = every_holds (global_fits t s) (scanned t) (λ j h. pick-holds (is_global t j) _ (λ e. variable_holds s (link_of t j) 0 (λ k g. st.globals j k h e g)))

  locals_hold : (p : ℕ) → p < processes_of s → locals_fit t s p (unit_of s p) ≡ true
  unfolding locals_fit local_fits
  locals_hold p h =
      every_holds (λ k. local_fits t s p (unit_of s p + k)) (unit_length t (unit_of s p))
      (λ j b. pick-holds (is_local t (unit_of s p + j)) _ (λ e. variable_holds s (link_of t (unit_of s p + j)) p (λ k g. st.locals p j k h b e g)))

  messages_hold : (c : ℕ) → c < channels_of s → every (message_fits t s c (declared_of s c)) 0 (messages_in s c) ≡ true
  unfolding message_fits field_fits
  messages_hold c h =
      every_holds (message_fits t s c (declared_of s c)) (messages_in s c)
      (λ m b. every_holds (field_fits t s c (declared_of s c) m) (fields_of t (declared_of s c)) (λ f g. fits_hold s (field_type t (declared_of s c) f) (field_at c m f) (st.messages c m f h (omega arith) g)))

  -- ---- processes and channels
  belongs-holds : (u q : ℕ) → (q ≡ link_of t u) ⊎ ((u < q) × (q < link_of t u) × (place_at t q ≡ true)) → belongs t u q ≡ true
  unfolding belongs
  belongs-holds u q (inl e) = left-holds (eqb q (link_of t u)) _ (eq-eqb q (link_of t u) e)
  belongs-holds u q (inr a) =
      right-holds (eqb q (link_of t u)) _ (both_hold (both (ltb u q) (ltb q (link_of t u))) (place_at t q) (both_hold (ltb u q) (ltb q (link_of t u)) (lt-ltb u q a.0) (lt-ltb q (link_of t u) a.1)) a.2)

  process-holds : (p : ℕ) → p < processes_of s → process_sound t s p ≡ true
  unfolding process_sound is_process
  process-holds p h =
      both_hold (counts_from s (items_last t) (items_last t) (process_at_lem p)) (is_process t s p) (counts_hold s (items_last t) (items_last t) (process_at_lem p) (omega arith) (omega arith) (st.heads p h).0 (st.heads p h).1)
      (both_hold (within c_proctype c_init (code_of t (unit_of s p))) _
      (both_hold (leb c_proctype (code_of t (unit_of s p))) (leb (code_of t (unit_of s p)) c_init) (le-leb c_proctype (code_of t (unit_of s p)) (st.units p h).0) (le-leb (code_of t (unit_of s p)) c_init (st.units p h).1))
      (both_hold (belongs t (unit_of s p) (place_of s p)) (locals_fit t s p (unit_of s p)) (belongs-holds (unit_of s p) (place_of s p) (st.places p h)) (locals_hold p h)))

  channel-holds : (c : ℕ) → c < channels_of s → channel_sound t s c ≡ true
  unfolding channel_sound is_channel
  channel-holds c h =
      both_hold (counts_from s (items_last t) capacity_most (channel_at c)) (is_channel t s c) (counts_hold s (items_last t) capacity_most (channel_at c) (omega arith) (omega arith) (st.records c h).0 (st.records c h).1)
      (both_hold (both (eqb (code_of t (declared_of s c)) c_channel) (leb (waiting_of s c) (capacity_of t (declared_of s c)))) _
      (both_hold (eqb (code_of t (declared_of s c)) c_channel) _ (eq-eqb (code_of t (declared_of s c)) c_channel (st.declarations c h)) (le-leb (waiting_of s c) (capacity_of t (declared_of s c)) (st.room c h)))
      (messages_hold c h))

  sound-holds : sound t s ≡ true
  unfolding sound
  sound-holds =
      both_hold (counts_from s processes_most channels_most 0) _ (counts_hold s processes_most channels_most 0 (omega arith) (omega arith) st.processes st.channels)
      (both_hold (every (global_fits t s) 0 (scanned t)) _ globals_hold
      (both_hold (every (process_sound t s) 0 (processes_in s)) (every (channel_sound t s) 0 (channels_in s)) (every_holds (process_sound t s) (processes_in s) (λ p h. process-holds p (omega arith)))
      (every_holds (channel_sound t s) (channels_in s) (λ c h. channel-holds c (omega arith)))))

  same_numbers_hold : same_numbers (shaped t s) s ≡ true
  unfolding same_numbers
  same_numbers_hold = every_holds (same_at (shaped t s) s) state_room (λ i h. same-holds (cell_of (shaped t s) i) (cell_of s i) (shaped-same t s st i h))

  pub stands_is_state : is_state_of t s ≡ true
  unfolding is_state_of
  stands_is_state =
      both_hold (leb state_room (length s)) _ (le-leb state_room (length s) st.long) (both_hold (sound t s) (same_numbers (shaped t s) s) sound-holds same_numbers_hold)
