-- ONE MORE CHANNEL, ONE MORE PROCESS in the numbers is one more in the plain state.
use Prim.Native.Nat.{ℕ, zero, suc, ◌+◌, ◌*◌, ◌<◌}
use native.Mathlib.Omega.{arith}
use mathlib.Core.Path.{◌≡◌, refl, sym as inv, ap, ap₂, ◌∙◌}
use mathlib.Core.List.{List, [], ◌∷◌, ◌++◌, append_assoc}
use lib.ListN.{length, set, length-append, length-set}
use lib.IntN.{ℤ}
use Rattle.base_ceilings.specs.Ceilings.{capacity_most, channels_most, fields_most, numbers_most, processes_most}
use Rattle.state_layout.specs.Layout.{kept, process_at_lem, channel_at, channel_size, process_size}
use Rattle.state_start.specs.Starting.{channel_made}
use Rattle.spec_grammar.specs.Tree.{Model}
use Rattle.spec_machine.specs.State.{Channel, Process, State}
use Rattle.agree_encode.specs.Encode.{pad, rows, flat, head_of, channel_item, message_row, process_row, channel_row, encode}
use Rattle.agree_encode.proofs.Rows.{set-left, set-right, length-pad, off, set-process, set_channel}
use Rattle.agree_encode.proofs.Numbers.{at_process, at_channel, G, P, C, Z, lg, lp, lc, channels_are}

-- ---- the first empty row
module _ {A : Type 0} (f : A → List ℤ) (z : ℕ) where
  pub record Spare (n : ℕ) (l : List A) : Type 0 where
    pub front : List ℤ
    pub back : List ℤ
    pub long : length front ≡ off f z (length l)
    pub was : rows f z n l ≡ front ++ (pad z [] ++ back)
    pub is : (y : A) → rows f z n (l ++ y ∷ []) ≡ front ++ (pad z (f y) ++ back)

  pub spare : (n : ℕ) (l : List A) → length l < n → Spare n l
  unfolding rows
  spare zero l h = absurd (omega arith)
  spare (suc n) [] h = record { front = []; back = rows f z n []; long = refl; was = refl; is = λ y. refl }
  spare (suc n) (x ∷ l) h =
      let r = spare n l (omega arith) in
      record {
        front = pad z (f x) ++ r.front;
        back = r.back;
        long = length-append (pad z (f x)) r.front ∙ ap₂ ◌+◌ (length-pad z (f x)) r.long;
        was = ap (λ (i : List ℤ). pad z (f x) ++ i) r.was ∙ inv (append_assoc (pad z (f x)) r.front (pad z [] ++ r.back));
        is = λ y. ap (λ (i : List ℤ). pad z (f x) ++ i) (r.is y) ∙ inv (append_assoc (pad z (f x)) r.front (pad z (f y) ++ r.back));
      }

set-amid : (front r back : List ℤ) (n k j : ℕ) (v : ℤ) → length front ≡ n → j ≡ n + k → k < length r → set (front ++ (r ++ back)) j v ≡ front ++ (set r k v ++ back)
set-amid front r back n k j v e h g = set-right front (r ++ back) v n k j e h ∙ ap (λ (i : List ℤ). front ++ i) (set-left r back k v g)

module _ (m : Model) (t : List ℤ) (σ : State) where
  -- ONE MORE CHANNEL
  pub channel-more : (y : Channel) → y.held ≡ [] → length σ.channels < channels_most
      → channel_made (channel_item m y) (encode m σ ++ t) ≡ encode m record { globals = σ.globals; processes = σ.processes; channels = σ.channels ++ y ∷ [] } ++ t
  unfolding channel_made encode pad rows
  channel-more y e h =
      ap (λ n. set (set (encode m σ ++ t) (channel_at n) I) 1 (kept (n + 1))) (channels_are m t σ (omega arith))
      ∙ ap (λ x. set x 1 (kept (length σ.channels + 1)))
      (ap (λ i. set (encode m σ ++ t) i I) (let o = at_channel (channel_row m) (length σ.channels) in let z : channel_at (length σ.channels) ≡ channel_at 0 + (off (channel_row m) channel_size (length σ.channels) + 0) = omega arith in z)
      ∙ set_channel (kept (length σ.processes)) (kept (length σ.channels)) (G m t σ) (P m t σ) (C m t σ) (Z m t σ) t (lg m t σ) (lp m t σ) (lc m t σ)
      (off (channel_row m) channel_size (length σ.channels) + 0) I (let o = at_channel (channel_row m) (length σ.channels) in omega arith))
      ∙ ap₂ (λ (n : ℕ) (i : List ℤ). (kept (length σ.processes) ∷ kept n ∷ G m t σ ++ (P m t σ ++ (i ++ Z m t σ))) ++ t)
      (inv (length-append σ.channels (y ∷ [])))
      (ap (λ (i : List ℤ). set i (off (channel_row m) channel_size (length σ.channels) + 0) I) K.was
      ∙ set-amid K.front (pad channel_size []) K.back (off (channel_row m) channel_size (length σ.channels)) 0 (off (channel_row m) channel_size (length σ.channels) + 0) I K.long refl (omega arith)
      ∙ ap (λ (l : List (List ℤ)). K.front ++ (pad channel_size (I ∷ kept (length l) ∷ rows message_row fields_most capacity_most l) ++ K.back)) (inv e) ∙ inv (K.is y))
    where
      I : ℤ
      I = kept (channel_item m y)

      K : Spare (channel_row m) channel_size channels_most σ.channels
      K = spare (channel_row m) channel_size channels_most σ.channels h

  -- ONE MORE PROCESS, whose variables are zeros yet
  pub process-more : (y : Process) → pad numbers_most (flat y.variables) ≡ pad numbers_most [] → length σ.processes < processes_most
      → set (set (set (encode m σ ++ t) (process_at_lem (length σ.processes)) (kept (head_of m y.unit))) 0 (kept (length σ.processes + 1))) (process_at_lem (length σ.processes) + 1) (kept y.place)
      ≡ encode m record { globals = σ.globals; processes = σ.processes ++ y ∷ []; channels = σ.channels } ++ t
  unfolding encode pad
  process-more y e h =
      ap (λ x. set (set x 0 (kept (n + 1))) (process_at_lem n + 1) (kept y.place))
      (ap (λ i. set (encode m σ ++ t) i H) (let z : process_at_lem n ≡ process_at_lem 0 + (off (process_row m) process_size n + 0) = omega (arith, o) in z)
      ∙ set-process (kept n) (kept (length σ.channels)) (G m t σ) (P m t σ) (C m t σ) (Z m t σ) t (lg m t σ) (lp m t σ) (lc m t σ) (off (process_row m) process_size n + 0) H (omega (arith, o))
      ∙ ap (λ (i : List ℤ). (kept n ∷ kept (length σ.channels) ∷ G m t σ ++ (i ++ (C m t σ ++ Z m t σ))) ++ t) one)
      ∙ ap (λ i. set ((kept (n + 1) ∷ kept (length σ.channels) ∷ G m t σ ++ (mid ++ (C m t σ ++ Z m t σ))) ++ t) i (kept y.place))
      (let z : process_at_lem n + 1 ≡ process_at_lem 0 + (off (process_row m) process_size n + 1) = omega (arith, o) in z)
      ∙ set-process (kept (n + 1)) (kept (length σ.channels)) (G m t σ) mid (C m t σ) (Z m t σ) t (lg m t σ) long (lc m t σ) (off (process_row m) process_size n + 1) (kept y.place) (omega (arith, o))
      ∙ ap₂ (λ (c : ℕ) (i : List ℤ). (kept c ∷ kept (length σ.channels) ∷ G m t σ ++ (i ++ (C m t σ ++ Z m t σ))) ++ t) (inv (length-append σ.processes (y ∷ [])))
      (set-amid K.front (H ∷ pad (numbers_most + 1) []) K.back (off (process_row m) process_size n) 1 (off (process_row m) process_size n + 1) (kept y.place) K.long refl (omega arith)
      ∙ ap (λ (l : List ℤ). K.front ++ ((H ∷ kept y.place ∷ l) ++ K.back)) (inv e) ∙ inv (K.is y))
    where
      n : ℕ
      n = length σ.processes

      H : ℤ
      H = kept (head_of m y.unit)

      K : Spare (process_row m) process_size processes_most σ.processes
      K = spare (process_row m) process_size processes_most σ.processes h

      o : off (process_row m) process_size (length σ.processes) ≡ process_size * length σ.processes
      o = at_process (process_row m) (length σ.processes)

      mid : List ℤ
      mid = K.front ++ ((H ∷ pad (numbers_most + 1) []) ++ K.back)

      one : set (P m t σ) (off (process_row m) process_size (length σ.processes) + 0) H ≡ K.front ++ ((H ∷ pad (numbers_most + 1) []) ++ K.back)
      one =
          ap (λ (i : List ℤ). set i (off (process_row m) process_size (length σ.processes) + 0) H) K.was
          ∙ set-amid K.front (pad process_size []) K.back (off (process_row m) process_size (length σ.processes)) 0 (off (process_row m) process_size (length σ.processes) + 0) H K.long refl (omega arith)

      long : length (K.front ++ ((H ∷ pad (numbers_most + 1) []) ++ K.back)) ≡ process_size * processes_most
      long = ap length (inv one) ∙ length-set (P m t σ) (off (process_row m) process_size (length σ.processes) + 0) H ∙ lp m t σ
