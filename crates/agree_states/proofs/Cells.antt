-- THE NUMBERS OF A PLAIN STATE, ONE BY ONE: which number stands where, and that nothing else does. Numbers that say the same in each place are the state's (`shown-same`).
use Prim.Native.Nat.{ℕ, suc, ◌+◌, ◌-◌, ◌/◌, ◌%◌, ◌<◌, ◌≤◌}
use native.Mathlib.Omega.{arith}
use native.Mathlib.Decide.{ℕ_discrete, dec_lt}
use mathlib.Core.Path.{◌≡◌, refl, sym as inv, ap, ap₂, ◌∙◌, subst}
use mathlib.Core.List.{List, [], ◌∷◌, ◌++◌, map, append_assoc}
use lib.ListN.{length, get_or, drop, length-append, length-replicate, get_or-replicate}
use lib.IntN.{ℤ, pos}
use Rattle.base_ceilings.specs.Ceilings.{channels_most, globals_most, processes_most, state_room}
use Rattle.state_layout.specs.Layout.{kept, cell_of, global_at_lem, process_at_lem, channel_at, channel_size, process_size}
use Rattle.spec_grammar.specs.Tree.{Model}
use Rattle.spec_machine.specs.State.{State}
use Rattle.agree_encode.specs.Encode.{flat, process_row, channel_row, encode}
use Rattle.agree_encode.proofs.Rows.{get_left, get_right, get_pad, off, row_any, get_process, get_channel, get_global}
use Rattle.agree_encode.proofs.Numbers.{at_process, at_channel, G, P, C, Z, lg, lp, lc}

pub record Shown (m : Model) (σ : State) (s : List ℤ) : Type 0 where
  pub processes_count : cell_of s 0 ≡ kept (length σ.processes)
  pub channels_count : cell_of s 1 ≡ kept (length σ.channels)
  pub globals : (k : ℕ) → k < globals_most → cell_of s (global_at_lem k) ≡ get_or (flat σ.globals) k (pos 0)
  -- behind the last process and the last channel there are no numbers, and what is not there is 0
  pub processes : (p k : ℕ) → p < processes_most → k < process_size → cell_of s (process_at_lem p + k) ≡ get_or (get_or (map (process_row m) σ.processes) p []) k (pos 0)
  pub channels : (c k : ℕ) → c < channels_most → k < channel_size → cell_of s (channel_at c + k) ≡ get_or (get_or (map (channel_row m) σ.channels) c []) k (pos 0)
  pub rest : (i : ℕ) → channel_at channels_most ≤ i → i < state_room → cell_of s i ≡ pos 0

module _ (m : Model) (σ : State) where
  pub encode_long : length (encode m σ) ≡ state_room
  unfolding encode
  encode_long =
      ap (λ n. suc (suc n))
      (length-append (G m [] σ) (P m [] σ ++ (C m [] σ ++ Z m [] σ))
      ∙ ap₂ ◌+◌ (lg m [] σ) (length-append (P m [] σ) (C m [] σ ++ Z m [] σ) ∙ ap₂ ◌+◌ (lp m [] σ) (length-append (C m [] σ) (Z m [] σ) ∙ ap₂ ◌+◌ (lc m [] σ) (length-replicate (state_room - channel_at channels_most) (pos 0)))))

  -- EACH NUMBER of a state that is written down
  pub encode-shown : (t : List ℤ) → Shown m σ (encode m σ ++ t)
  unfolding encode
  encode-shown t =
      let a = kept (length σ.processes) in
      let b = kept (length σ.channels) in
      record {
        processes_count = refl;
        channels_count = refl;
        globals = λ k h. get_global a b (G m t σ) (P m t σ) (C m t σ) (Z m t σ) t (lg m t σ) (lp m t σ) (lc m t σ) k h ∙ get_pad globals_most (flat σ.globals) k h;
        processes = λ p k h g.
            let e = at_process (process_row m) p in
            ap (cell_of (encode m σ ++ t)) (let z : process_at_lem p + k ≡ process_at_lem 0 + (off (process_row m) process_size p + k) = omega arith in z)
            ∙ get_process a b (G m t σ) (P m t σ) (C m t σ) (Z m t σ) t (lg m t σ) (lp m t σ) (lc m t σ) (off (process_row m) process_size p + k) (omega arith)
            ∙ row_any (process_row m) process_size processes_most σ.processes p k h g;
        channels = λ c k h g.
            let e = at_channel (channel_row m) c in
            ap (cell_of (encode m σ ++ t)) (let z : channel_at c + k ≡ channel_at 0 + (off (channel_row m) channel_size c + k) = omega arith in z)
            ∙ get_channel a b (G m t σ) (P m t σ) (C m t σ) (Z m t σ) t (lg m t σ) (lp m t σ) (lc m t σ) (off (channel_row m) channel_size c + k) (omega arith)
            ∙ row_any (channel_row m) channel_size channels_most σ.channels c k h g;
        rest = λ i h g. zeros i h g;
      }
    where
      zeros : (i : ℕ) → channel_at channels_most ≤ i → i < state_room → get_or (encode m σ ++ t) i (pos 0) ≡ pos 0
      zeros i h g =
          let a = kept (length σ.processes) in
          let b = kept (length σ.channels) in
          let f : List ℤ = (a ∷ b ∷ G m t σ) ++ (P m t σ ++ C m t σ) in
          get_left (encode m σ) t (pos 0) i (subst (i <◌) (inv encode_long) g)
          ∙ ap (λ (l : List ℤ). get_or ((a ∷ b ∷ G m t σ) ++ l) i (pos 0)) (inv (append_assoc (P m t σ) (C m t σ) (Z m t σ)))
          ∙ ap (λ (l : List ℤ). get_or l i (pos 0)) (inv (append_assoc (a ∷ b ∷ G m t σ) (P m t σ ++ C m t σ) (Z m t σ)))
          ∙ get_right f (Z m t σ) (pos 0) (channel_at channels_most) (i - channel_at channels_most) i
          (length-append (a ∷ b ∷ G m t σ) (P m t σ ++ C m t σ) ∙ ap₂ ◌+◌ (ap (λ n. suc (suc n)) (lg m t σ)) (length-append (P m t σ) (C m t σ) ∙ ap₂ ◌+◌ (lp m t σ) (lc m t σ))) (omega arith)
          ∙ get_or-replicate (state_room - channel_at channels_most) (i - channel_at channels_most) (pos 0) (pos 0) (omega arith)

  -- ---- numbers that say the same
  module _ (s t : List ℤ) (x : Shown m σ s) (y : Shown m σ t) where
    cells_same : (i : ℕ) → i < state_room → cell_of s i ≡ cell_of t i
    cells_same i h = go (ℕ_discrete i 0) (ℕ_discrete i 1) (dec_lt i (process_at_lem 0)) (dec_lt i (channel_at 0)) (dec_lt i (channel_at channels_most))
      where
        go : Dec (i ≡ 0) → Dec (i ≡ 1) → Dec (i < process_at_lem 0) → Dec (i < channel_at 0) → Dec (i < channel_at channels_most) → cell_of s i ≡ cell_of t i
        go (yes e) b c d f = ap (cell_of s) e ∙ x.processes_count ∙ inv y.processes_count ∙ ap (cell_of t) (inv e)
        go (no a) (yes e) c d f = ap (cell_of s) e ∙ x.channels_count ∙ inv y.channels_count ∙ ap (cell_of t) (inv e)
        go (no a) (no b) (yes c) d f =
            let e : i ≡ global_at_lem (i - 2) = omega arith in
            ap (cell_of s) e ∙ x.globals (i - 2) (omega arith) ∙ inv (y.globals (i - 2) (omega arith)) ∙ ap (cell_of t) (inv e)
        go (no a) (no b) (no c) (yes d) f =
            let e : i ≡ process_at_lem ((i - process_at_lem 0) / process_size) + (i - process_at_lem 0) % process_size = omega arith in
            ap (cell_of s) e ∙ x.processes ((i - process_at_lem 0) / process_size) ((i - process_at_lem 0) % process_size) (omega arith) (omega arith)
            ∙ inv (y.processes ((i - process_at_lem 0) / process_size) ((i - process_at_lem 0) % process_size) (omega arith) (omega arith)) ∙ ap (cell_of t) (inv e)
        go (no a) (no b) (no c) (no d) (yes f) =
            let e : i ≡ channel_at ((i - channel_at 0) / channel_size) + (i - channel_at 0) % channel_size = omega arith in
            ap (cell_of s) e ∙ x.channels ((i - channel_at 0) / channel_size) ((i - channel_at 0) % channel_size) (omega arith) (omega arith)
            ∙ inv (y.channels ((i - channel_at 0) / channel_size) ((i - channel_at 0) % channel_size) (omega arith) (omega arith)) ∙ ap (cell_of t) (inv e)
        go (no a) (no b) (no c) (no d) (no f) = x.rest i (omega arith) h ∙ inv (y.rest i (omega arith) h)

  front_same : (e s : List ℤ) → length e ≤ length s → ((i : ℕ) → i < length e → get_or s i (pos 0) ≡ get_or e i (pos 0)) → s ≡ e ++ drop (length e) s
  front_same [] s h g = refl
  front_same (x ∷ e) [] h g = absurd (omega arith)
  front_same (x ∷ e) (y ∷ s) h g = ap₂ (λ (a : ℤ) (l : List ℤ). a ∷ l) (g 0 (omega arith)) (front_same e s (omega arith) (λ i k. g (suc i) (omega arith)))

  -- ARE THE STATE'S
  pub shown-same : (s : List ℤ) → state_room ≤ length s → Shown m σ s → s ≡ encode m σ ++ drop state_room s
  shown-same s h x =
      let e = encode_long in
      front_same (encode m σ) s (subst (◌≤ length s) (inv e) h)
      (λ i g. cells_same s (encode m σ ++ []) x (encode-shown []) i (subst (i <◌) e g) ∙ get_left (encode m σ) [] (pos 0) i g)
      ∙ ap (λ n. encode m σ ++ drop n s) e
