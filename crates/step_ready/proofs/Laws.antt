-- Laws that the proofs of `step_ready` cite: what its callees say, put together.
use Rattle.std.specs.Prelude.{Result, Ok, Err}
use Prim.Native.Nat.{ℕ, zero, suc, ◌+◌, ◌-◌, ◌≤◌, ◌<◌, ◌^◌}
use mathlib.Core.Path.{◌≡◌, refl, sym, ap, ◌∙◌}
use mathlib.Core.Bool.{Bool, true, false}
use mathlib.Core.List.{List}
use native.Mathlib.Omega.{arith}
use native.Mathlib.Nat.{add_assoc}
use lib.IntN.{ℤ, pos}
use lib.Signed.{mag}
use lib.Dec.{eqb, leb}
use borrow.Author.Tests.{ne_eqb, lt-ltb, le-ltb}
use mir.Syntax.{w32}
use mir.Val.{to_z, of_z}
use Rattle.base_ceilings.specs.Ceilings.{channels_most, fields_most, processes_most}
use Rattle.base_codes.specs.Codes.{c_channel, c_end, c_express, c_into, c_message, c_receive, c_run, c_send, c_timeout}
use Rattle.base_bytes.specs.Choice.{pick}
use Rattle.table_layout.specs.Access.{code_of, link_of}
use Rattle.state_layout.proofs.Laws.{back}
use Rattle.state_layout.specs.Layout.{processes_of, channels_of, field_of}
use Rattle.base_values.specs.Operators.{is_true, equal_by}
use Rattle.base_values.specs.declared.Fault.{Fault}
use Rattle.step_eval.specs.Variables.{load_of, channel_of}
use Rattle.step_eval.specs.Expressions.{holds, eval_of, locate_of}
use Rattle.step_ready.specs.Channels.{arguments_from, compared_at, reached_of, agrees_of, matches_from, matches_of, found_by, finds, found_from}
use Rattle.step_ready.specs.declared.Found.{Found}
use Rattle.step_ready.specs.declared.Found.TheVariants.{Message, Nothing}
use Rattle.step_ready.specs.Executing.{passes, is_always, channels_from, channels_in, fits_of, sendable, receivable, message_of, ready_by}

-- ---- comparing
module _ (t : List ℕ) (m : ℕ) {c : ℕ} (ec : c ≡ code_of t m) where
  pub compared_into : c ≡ c_into → {k d b : ℕ} → k ≡ m - 1 → d ≡ link_of t k → b ≡ code_of t d → eqb b c_message ≡ compared_at t m
  unfolding compared_at
  compared_into e ek ed eb = rw (← ec, e) (ap (λ a. eqb a c_message) (eb ∙ ap (code_of t) (ed ∙ ap (link_of t) ek)))

  pub compared_else : (c ≡ c_into → ⊥) → true ≡ compared_at t m
  unfolding compared_at
  compared_else h = rw (← ec, ne_eqb c c_into h)

module _ (t : List ℕ) (s : List ℤ) (p c w a m f : ℕ) {b : Bool} (eb : b ≡ compared_at t m) where
  pub agrees_compared : b ≡ true → {x r : Result ℤ Fault} {z : ℤ} → x ≡ eval_of t s p a m → mag z < 2 ^ 31 → z ≡ field_of s c w f → r ≡ equal_by x (to_z w32 (of_z w32 z)) → r ≡ agrees_of t s p c w a m f
  unfolding agrees_of
  agrees_compared e ex h ez er = rw (← eb, e) (er ∙ (λ i. equal_by (ex i) ((back h ∙ ez) i)))

  pub agrees-stored : b ≡ false → Ok (pos 1) ≡ agrees_of t s p c w a m f
  unfolding agrees_of
  agrees-stored e = rw (← eb, e)

-- ---- channels
pub reached_of_lem : (t : List ℕ) (s : List ℤ) (p from to : ℕ) {x : Result ℕ Fault} {y : Result ℤ Fault} {r : Result ℕ Fault} → x ≡ locate_of t s p from to → y ≡ load_of s x → r ≡ channel_of s y → r ≡ reached_of t s p from to
reached_of_lem t s p from to ex ey er = er ∙ ap (channel_of s) (ey ∙ ap (load_of s) ex)

-- ---- arguments
module _ (t : List ℕ) where
  arguments-over : (n a : ℕ) {c : ℕ} → c ≡ code_of t a → c ≡ c_end → arguments_from t n a ≡ 0
  unfolding arguments_from
  arguments-over zero a ec e = refl
  arguments-over (suc n) a ec e = rw (← ec, e)

  arguments-more : (n k a : ℕ) {c l : ℕ} → n ≡ suc k → c ≡ code_of t a → (c ≡ c_end → ⊥) → l ≡ link_of t a → arguments_from t n a ≡ 1 + arguments_from t k (l + 1)
  unfolding arguments_from
  arguments-more n k a {c} en ec h el = rw (en, ← ec, ne_eqb c c_end h, el)

  none_left : (n a : ℕ) → n ≡ 0 → arguments_from t n a ≡ 0
  unfolding arguments_from
  none_left n a e = rw e

  -- a turn of the loop that counts them, of w in all
  module _ (n j w : ℕ) (h : n ≤ fields_most + 1) (inv : n + arguments_from t ((fields_most + 1) - n) j ≡ w) where
    pub arguments_end : (fields_most + 1) ≤ n → n ≡ w
    arguments_end g = let q = none_left ((fields_most + 1) - n) j (omega arith) in omega arith

    module _ {c : ℕ} (ec : c ≡ code_of t j) where
      pub arguments-all : c ≡ c_end → n ≡ w
      arguments-all e = let q = arguments-over ((fields_most + 1) - n) j ec e in omega arith

      pub arguments_turn : n < fields_most + 1 → (c ≡ c_end → ⊥) → {l : ℕ} → l ≡ link_of t j → n + 1 + arguments_from t ((fields_most + 1) - (n + 1)) (l + 1) ≡ w
      arguments_turn g e {l} el = let q = arguments-more ((fields_most + 1) - n) ((fields_most + 1) - (n + 1)) j (omega arith) ec e el in omega arith

module _ (t : List ℕ) (s : List ℤ) (p c w : ℕ) where
  pub matches_end : (n a f : ℕ) → n ≡ 0 → matches_from t s p n c w a f ≡ Ok (pos 1)
  unfolding matches_from
  matches_end n a f e = rw e

  pub matches_over : (n a f : ℕ) {b : ℕ} → b ≡ code_of t a → b ≡ c_end → matches_from t s p n c w a f ≡ Ok (pos 1)
  unfolding matches_from
  matches_over zero a f eb e = refl
  matches_over (suc n) a f eb e = rw (← eb, e)

  module _ (n k a f : ℕ) (en : n ≡ suc k) {b m : ℕ} (eb : b ≡ code_of t a) (h : b ≡ c_end → ⊥) (em : m ≡ link_of t a) {x : Result ℤ Fault} (ex : x ≡ agrees_of t s p c w a m f) {z : Bool} (ez : z ≡ holds x) where
    turn : matches_from t s p n c w a f ≡ pick (holds x) (matches_from t s p k c w (m + 1) (f + 1)) x
    unfolding matches_from
    turn =
        rw (en, ← eb, ne_eqb b c_end h)
        (λ i. pick (holds (sym (ex ∙ ap (λ l. agrees_of t s p c w a l f) em) i)) (matches_from t s p k c w (sym em i + 1) (f + 1)) (sym (ex ∙ ap (λ l. agrees_of t s p c w a l f) em) i))

    pub matches_more : z ≡ true → matches_from t s p n c w a f ≡ matches_from t s p k c w (m + 1) (f + 1)
    matches_more e = turn ∙ ap (λ b. pick b (matches_from t s p k c w (m + 1) (f + 1)) x) (sym ez ∙ e)

    pub matches_stop : z ≡ false → matches_from t s p n c w a f ≡ x
    matches_stop e = turn ∙ ap (λ b. pick b (matches_from t s p k c w (m + 1) (f + 1)) x) (sym ez ∙ e)

-- ---- what is found
module _ (t : List ℕ) (s : List ℤ) (p c a : ℕ) where
  pub found_start : (n : ℕ) → found_from t s p (n - 0) c 0 a ≡ found_from t s p n c 0 a
  found_start n = ap (λ k. found_from t s p k c 0 a) (omega arith)

  pub found_end : (n w : ℕ) → n ≡ 0 → found_from t s p n c w a ≡ Nothing
  unfolding found_from
  found_end n w e = rw e

  turned : (w : ℕ) (y : Result ℤ Fault) (rest : Found) → found_by w y rest ≡ pick (finds (found_by w y Nothing)) (found_by w y Nothing) rest
  turned w (Ok v) rest = go (is_true v)
    where
      go : (b : Bool) → pick b (Message w) rest ≡ pick (finds (pick b (Message w) Nothing)) (pick b (Message w) Nothing) rest
      go true = refl
      go false = refl
  turned w (Err f) rest = refl

  module _ (n k w : ℕ) (en : n ≡ suc k) {y : Result ℤ Fault} (ey : y ≡ matches_of t s p c w a) {x : Found} (ex : x ≡ found_by w y Nothing) {b : Bool} (eb : b ≡ finds x) where
    found_turn : found_from t s p n c w a ≡ pick b x (found_from t s p k c (w + 1) a)
    unfolding found_from
    found_turn =
        rw en
        (turned w (matches_of t s p c w a) (found_from t s p k c (w + 1) a)
        ∙ ap (λ (f : Found). pick (finds f) f (found_from t s p k c (w + 1) a)) (ap (λ z. found_by w z Nothing) (sym ey) ∙ sym ex)
        ∙ ap (λ z. pick z x (found_from t s p k c (w + 1) a)) (sym eb))

    pub found_stop : b ≡ true → found_from t s p n c w a ≡ x
    found_stop e = found_turn ∙ ap (λ z. pick z x (found_from t s p k c (w + 1) a)) e

    pub found_more : b ≡ false → found_from t s p n c w a ≡ found_from t s p k c (w + 1) a
    found_more e = found_turn ∙ ap (λ z. pick z x (found_from t s p k c (w + 1) a)) e

-- ---- units
module _ (t : List ℕ) where
  channels-more : (n k j : ℕ) {r : ℕ} → n ≡ suc k → r ≡ pick (eqb (code_of t j) c_channel) 1 0 → channels_from t n j ≡ r + channels_from t k (j + 1)
  unfolding channels_from
  channels-more n k j en er = rw (en, er)

  no_items : (n j : ℕ) → n ≡ 0 → channels_from t n j ≡ 0
  unfolding channels_from
  no_items n j e = rw e

  pub channels-start : (n u : ℕ) → 0 + channels_from t (n - 0) (u + 0) ≡ channels_from t n u
  channels-start n u = let a : n - 0 ≡ n = omega arith in let b : u + 0 ≡ u = omega arith in (λ i. 0 + channels_from t (a i) (b i)) ∙ omega arith

  pub channels_turn : (c k n u w : ℕ) → k < n → c + channels_from t (n - k) (u + k) ≡ w → {r : ℕ} → r ≡ pick (eqb (code_of t (u + k)) c_channel) 1 0 → c + r + channels_from t (n - (k + 1)) (u + (k + 1)) ≡ w
  channels_turn c k n u w h inv {r} er =
      let q = channels-more (n - k) (n - (k + 1)) (u + k) (omega arith) er in
      let z : u + k + 1 ≡ u + (k + 1) = omega arith in
      ap (λ a. c + r + channels_from t (n - (k + 1)) a) (sym z) ∙ add_assoc c r _ ∙ ap (λ a. c + a) (sym q) ∙ inv

  pub channels_end : (c k n u w : ℕ) → n ≤ k → c + channels_from t (n - k) (u + k) ≡ w → c ≡ w
  channels_end c k n u w h inv = let q = no_items (n - k) (u + k) (omega arith) in omega arith

module _ (t : List ℕ) (s : List ℤ) (u : ℕ) {n : ℕ} (en : n ≡ processes_of s) where
  pub fits-full : processes_most ≤ n → false ≡ fits_of t s u
  unfolding fits_of
  fits-full h = rw (← en, le-ltb n processes_most h)

  pub fits_by : n < processes_most → {a b : ℕ} → a ≡ channels_of s → b ≡ channels_in t u → leb (a + b) channels_most ≡ fits_of t s u
  unfolding fits_of
  fits_by h ea eb = rw (← en, lt-ltb n processes_most h) (λ i. leb (ea i + eb i) channels_most)

-- ---- tests
module _ (t : List ℕ) (s : List ℤ) (p : ℕ) (late : Bool) (q m : ℕ) {c : ℕ} (ec : c ≡ code_of t m) where
  pub ready_express : c ≡ c_express → {x : Result ℤ Fault} {r : Bool} → x ≡ eval_of t s p q m → r ≡ passes x → r ≡ ready_by t s p late q m
  unfolding ready_by
  ready_express e ex er = rw (← ec, e) (er ∙ ap passes ex)

  pub ready_send : c ≡ c_send → {x : Result ℕ Fault} {r : Bool} → x ≡ message_of t s p q m → r ≡ sendable t s x → r ≡ ready_by t s p late q m
  unfolding ready_by
  ready_send e ex er = rw (← ec, e) (er ∙ ap (sendable t s) ex)

  pub ready_receive : c ≡ c_receive → {x : Result ℕ Fault} {r : Bool} → x ≡ message_of t s p q m → r ≡ receivable t s p (m + 1) x → r ≡ ready_by t s p late q m
  unfolding ready_by
  ready_receive e ex er = rw (← ec, e) (er ∙ ap (receivable t s p (m + 1)) ex)

  pub ready_timeout : c ≡ c_timeout → late ≡ ready_by t s p late q m
  unfolding ready_by
  ready_timeout e = rw (← ec, e)

  pub ready-run : c ≡ c_run → {u : ℕ} {r : Bool} → u ≡ link_of t m → r ≡ fits_of t s u → r ≡ ready_by t s p late q m
  unfolding ready_by
  ready-run e eu er = rw (← ec, e) (er ∙ ap (fits_of t s) eu)

  pub ready_other : (c ≡ c_express → ⊥) → (c ≡ c_send → ⊥) → (c ≡ c_receive → ⊥) → (c ≡ c_timeout → ⊥) → (c ≡ c_run → ⊥) → {r : Bool} → r ≡ is_always c → r ≡ ready_by t s p late q m
  unfolding ready_by
  ready_other h₁ h₂ h₃ h₄ h₅ er = rw (← ec, ne_eqb c c_express h₁, ne_eqb c c_send h₂, ne_eqb c c_receive h₃, ne_eqb c c_timeout h₄, ne_eqb c c_run h₅) er
