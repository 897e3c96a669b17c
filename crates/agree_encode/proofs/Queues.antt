-- MESSAGES PUT INTO AND TAKEN OUT OF a channel's numbers are put into and taken out of the list that it holds.
use Prim.Native.Nat.{ℕ, zero, suc, ◌+◌, ◌-◌, ◌*◌, ◌/◌, ◌%◌, ◌<◌, ◌≤◌}
use native.Mathlib.Omega.{arith}
use native.Mathlib.Decide.{ℕ_discrete, dec_lt}
use mathlib.Core.Path.{◌≡◌, refl, sym as inv, ap, ap₂, subst, ◌∙◌}
use mathlib.Core.List.{List, [], ◌∷◌, ◌++◌, append_assoc, append-nil}
use lib.ListN.{length, get_or, set, length-append, length-set, get_or-eq_default, get_or-map}
use lib.Seq.{lt-length-set, get_or-append_seam, set-append_seam, get_or-set_same, get_or-set_other, ext_get_or}
use lib.IntN.{ℤ, pos}
use Rattle.base_ceilings.specs.Ceilings.{capacity_most, channels_most, fields_most}
use Rattle.state_layout.specs.Layout.{kept, cell_of, channel_at, field_at, declared_of, channel_size}
use Rattle.state_layout.specs.Walks.{walk}
use Rattle.base_values.specs.Types.{cast_of}
use Rattle.step_ready.specs.Channels.{fields_of}
use Rattle.step_messages.specs.Messages.{field_type, put_in, taken_out}
use Rattle.spec_grammar.specs.Tree.{Model}
use Rattle.spec_machine.specs.Messages.{put_at, take_at_lem}
use Rattle.spec_machine.proofs.Messages.{put_last, take_length_less, take-before, take_behind}
use Rattle.spec_machine.specs.State.{Channel, State, no_channel}
use Rattle.spec_machine.specs.Plain.{cast_all, with_channel}
use Rattle.agree_encode.specs.Encode.{pad, rows, channel_item, message_row, channel_row, encode}
use Rattle.agree_encode.proofs.Rows.{get_left, get_right, set-left, set-right, length-pad, pad_exact, pad-more, off, length-rows, set-rows, rows_more, row_any, at_four, Cut, cut, get_channel, set_channel}
use Rattle.agree_encode.proofs.Numbers.{at_channel, G, P, Z, lg, lp, lc, waiting_is}

-- ---- a walk inside of something larger
pub walk_inside : (F H : ℕ → List ℤ → List ℤ) (wrap : List ℤ → List ℤ) (z : ℕ) (n j : ℕ) (r : List ℤ) → length r ≡ z
    → ((i : ℕ) (x : List ℤ) → j ≤ i → i < j + n → length x ≡ z → (F i (wrap x) ≡ wrap (H i x)) × (length (H i x) ≡ z)) → walk F j n (wrap r) ≡ wrap (walk H j n r)
unfolding walk
walk_inside F H wrap z zero j r l h = refl
walk_inside F H wrap z (suc n) j r l h =
    let s = h j r (omega arith) (omega arith) l in
    ap (walk F (j + 1) n) s.0 ∙ walk_inside F H wrap z n (j + 1) (H j r) s.1 (λ i x a b e. h i x (omega arith) (omega arith) e)

-- ---- the messages of a channel: 8 rows of 4
abbrev M : List (List ℤ) → List ℤ
M held = rows message_row fields_most capacity_most held

long_m : (held : List (List ℤ)) → length (M held) ≡ (capacity_most * fields_most)
long_m held = length-rows message_row fields_most capacity_most held

-- what is written field by field
abbrev built : (ℕ → ℤ) → ℕ → ℕ → List ℤ → List ℤ
built h j zero part = part
built h j (suc n) part = built h (j + 1) n (part ++ h j ∷ [])

writes : (h : ℕ → ℤ) (held : List (List ℤ)) (n j : ℕ) (part : List ℤ) → length part ≡ j → j + n ≤ fields_most → length held < capacity_most
    → walk (λ f x. set x (fields_most * length held + f) (h f)) j n (M (held ++ part ∷ [])) ≡ M (held ++ built h j n part ∷ [])
unfolding walk
writes h held zero j part l k g = refl
writes h held (suc n) j part l k g =
    ap (walk (λ f x. set x (fields_most * length held + f) (h f)) (j + 1) n) step ∙ writes h held n (j + 1) (part ++ h j ∷ []) (length-append part (h j ∷ []) ∙ (let z : length part + 1 ≡ j + 1 = omega arith in z)) (omega arith) g
  where
    here : length held < length (held ++ part ∷ [])
    here = let e = length-append held (part ∷ []) in omega arith

    row : set (pad fields_most (get_or (held ++ part ∷ []) (length held) [])) j (h j) ≡ pad fields_most (part ++ h j ∷ [])
    row =
        ap (λ i. set (pad fields_most i) j (h j)) (get_or-append_seam held part [] []) ∙ ap (λ i. set (pad fields_most part) i (h j)) (inv l)
        ∙ pad-more fields_most part (h j) (omega arith)

    step : set (M (held ++ part ∷ [])) (fields_most * length held + j) (h j) ≡ M (held ++ (part ++ h j ∷ []) ∷ [])
    step =
        ap (λ i. set (M (held ++ part ∷ [])) (i + j) (h j)) (inv (at_four message_row (length held)))
        ∙ set-rows message_row fields_most capacity_most (held ++ part ∷ []) [] (length held) j (h j) (part ++ h j ∷ []) here g (omega arith) row
        ∙ ap M (set-append_seam held part [] (part ++ h j ∷ []))

built_cast : (h : ℕ → ℤ) (ks : List ℕ) (vs : List ℤ) (j : ℕ) (part : List ℤ) → length vs ≡ length ks
    → ((i : ℕ) → i < length ks → h (j + i) ≡ cast_of (get_or ks i 0) (get_or vs i (pos 0))) → built h j (length ks) part ≡ part ++ cast_all ks vs
built_cast h [] vs j part l e = inv (append-nil part)
built_cast h (k ∷ ks) [] j part l e = absurd (omega arith)
built_cast h (k ∷ ks) (v ∷ vs) j part l e =
    built_cast h ks vs (j + 1) (part ++ h j ∷ []) (omega arith) (λ i g. ap h (let z : j + 1 + i ≡ j + suc i = omega arith in z) ∙ e (suc i) (omega arith))
    ∙ append_assoc part (h j ∷ []) (cast_all ks vs) ∙ ap (λ w. part ++ w ∷ cast_all ks vs) (ap h (let z : j ≡ j + 0 = omega arith in z) ∙ e 0 (omega arith))

-- ---- a walk that sets the numbers from o on, one by one
module _ (o : ℕ) (g : ℕ → List ℤ → ℤ) where
  sets_long : (n j : ℕ) (x : List ℤ) → length (walk (λ k x. set x (o + k) (g k x)) j n x) ≡ length x
  unfolding walk
  sets_long zero j x = refl
  sets_long (suc n) j x = sets_long n (j + 1) (set x (o + j) (g j x)) ∙ length-set x (o + j) (g j x)

  -- a number that it does not come to stays
  sets-others : (n j i : ℕ) (x : List ℤ) → ((k : ℕ) → j ≤ k → k < j + n → i ≡ o + k → ⊥) → get_or (walk (λ k x. set x (o + k) (g k x)) j n x) i (pos 0) ≡ get_or x i (pos 0)
  unfolding walk
  sets-others zero j i x h = refl
  sets-others (suc n) j i x h =
      sets-others n (j + 1) i (set x (o + j) (g j x)) (λ k a b. h k (omega arith) (omega arith)) ∙ get_or-set_other x (o + j) i (g j x) (pos 0) (h j (omega arith) (omega arith))

  -- one that it comes to is what it was to become at first, if that lies behind all that is set before
  sets-each : ((k j : ℕ) (x : List ℤ) (v : ℤ) → j < k → g k (set x (o + j) v) ≡ g k x)
      → (n j k : ℕ) (x : List ℤ) → j ≤ k → k < j + n → o + k < length x → get_or (walk (λ k x. set x (o + k) (g k x)) j n x) (o + k) (pos 0) ≡ g k x
  unfolding walk
  sets-each steady zero j k x a b l = absurd (omega arith)
  sets-each steady (suc n) j k x a b l = go (λ h. sets-each steady n (j + 1) k (set x (o + j) (g j x)) h (omega arith) (lt-length-set x (o + j) (g j x) l)) (ℕ_discrete j k)
    where
      go : (j + 1 ≤ k → get_or (walk (λ k x. set x (o + k) (g k x)) (j + 1) n (set x (o + j) (g j x))) (o + k) (pos 0) ≡ g k (set x (o + j) (g j x)))
          → Dec (j ≡ k) → get_or (walk (λ k x. set x (o + k) (g k x)) (j + 1) n (set x (o + j) (g j x))) (o + k) (pos 0) ≡ g k x
      go rest (yes e) =
          sets-others n (j + 1) (o + k) (set x (o + j) (g j x)) (λ i p q r. omega arith)
          ∙ ap (λ i. get_or (set x (o + i) (g i x)) (o + k) (pos 0)) e ∙ get_or-set_same x (o + k) (g k x) (pos 0) l
      go rest (no e) = rest (omega arith) ∙ steady k j x (g j x) (omega arith)

-- ---- message w goes, those behind it move up
abbrev next : ℕ → ℕ → List ℤ → ℤ
next w i x = get_or x (fields_most * (w + 1) + i) (pos 0)

abbrev shifted : ℕ → List ℤ → List ℤ
shifted w x = walk (λ i x. set x (fields_most * w + i) (get_or x (fields_most * (w + 1) + i) (pos 0))) 0 (fields_most * (capacity_most - 1 - w)) x

abbrev up : ℕ → List ℤ → List ℤ
up w x = walk (λ i x. set x ((fields_most * (capacity_most - 1)) + i) (pos 0)) 0 fields_most (shifted w x)

-- number f of message p
message-cell : (held : List (List ℤ)) (p f i : ℕ) → p < capacity_most → f < fields_most → i ≡ fields_most * p + f → get_or (M held) i (pos 0) ≡ get_or (get_or held p []) f (pos 0)
message-cell held p f i a b e =
    ap (λ j. get_or (M held) j (pos 0)) (let z = at_four message_row p in let w : i ≡ off message_row fields_most p + f = omega arith in w)
    ∙ row_any message_row fields_most capacity_most held p f a b ∙ ap (λ (l : List ℤ). get_or l f (pos 0)) (get_or-map message_row held p [])

pub moves_up : (w : ℕ) (held : List (List ℤ)) → w < length held → length held ≤ capacity_most → up w (M held) ≡ M (take_at_lem w held)
moves_up w held h few = ext_get_or (pos 0) (up w (M held)) (M (take_at_lem w held)) (long ∙ inv (long_m (take_at_lem w held))) (λ i l. each i (subst (i <◌) long l))
  where
    wide : length (shifted w (M held)) ≡ (capacity_most * fields_most)
    wide = sets_long (fields_most * w) (next w) (fields_most * (capacity_most - 1 - w)) 0 (M held) ∙ long_m held

    long : length (up w (M held)) ≡ (capacity_most * fields_most)
    long = sets_long (fields_most * (capacity_most - 1)) (λ i x. pos 0) fields_most 0 (shifted w (M held)) ∙ wide

    -- the place that the last one leaves
    last : (f : ℕ) → f < fields_most → get_or (up w (M held)) (fields_most * (capacity_most - 1) + f) (pos 0) ≡ get_or (M (take_at_lem w held)) (fields_most * (capacity_most - 1) + f) (pos 0)
    last f l =
        sets-each (fields_most * (capacity_most - 1)) (λ i x. pos 0) (λ k j x v b. refl) fields_most 0 f (shifted w (M held)) (omega arith) (omega arith) (subst (λ n. fields_most * (capacity_most - 1) + f < n) (inv wide) (omega arith))
        ∙ inv (message-cell (take_at_lem w held) (capacity_most - 1) f (fields_most * (capacity_most - 1) + f) (omega arith) l refl
        ∙ ap (λ (m : List ℤ). get_or m f (pos 0)) (get_or-eq_default (take_at_lem w held) [] (let z = take_length_less w held h in omega arith)))

    stays : (i : ℕ) → i < fields_most * (capacity_most - 1) → get_or (up w (M held)) i (pos 0) ≡ get_or (shifted w (M held)) i (pos 0)
    stays i l = sets-others (fields_most * (capacity_most - 1)) (λ i x. pos 0) fields_most 0 i (shifted w (M held)) (λ k a b e. omega arith)

    front : (p f i : ℕ) → f < fields_most → p < w → i ≡ fields_most * p + f → get_or (shifted w (M held)) i (pos 0) ≡ get_or (M (take_at_lem w held)) i (pos 0)
    front p f i l b e =
        sets-others (fields_most * w) (next w) (fields_most * (capacity_most - 1 - w)) 0 i (M held) (λ k c d q. omega arith)
        ∙ message-cell held p f i (omega arith) l e
        ∙ ap (λ (m : List ℤ). get_or m f (pos 0)) (inv (take-before w p held [] (omega arith) b)) ∙ inv (message-cell (take_at_lem w held) p f i (omega arith) l e)

    back : (p f i : ℕ) → f < fields_most → w ≤ p → p < capacity_most - 1 → i ≡ fields_most * p + f → get_or (shifted w (M held)) i (pos 0) ≡ get_or (M (take_at_lem w held)) i (pos 0)
    back p f i l a b e =
        let k = fields_most * (p - w) + f in
        ap (λ j. get_or (shifted w (M held)) j (pos 0)) (let z : i ≡ fields_most * w + k = omega arith in z)
        ∙ sets-each (fields_most * w) (next w) (λ k j x v c. get_or-set_other x (fields_most * w + j) (fields_most * (w + 1) + k) v (pos 0) (λ e. omega arith)) (fields_most * (capacity_most - 1 - w)) 0 k (M held)
        (omega arith) (omega arith) (subst (λ n. fields_most * w + k < n) (inv (long_m held)) (omega arith))
        ∙ message-cell held (p + 1) f (fields_most * (w + 1) + k) (omega arith) l (omega arith)
        ∙ ap (λ (m : List ℤ). get_or m f (pos 0)) (inv (take_behind w p held [] (omega arith) a)) ∙ inv (message-cell (take_at_lem w held) p f i (omega arith) l e)

    each : (i : ℕ) → i < (capacity_most * fields_most) → get_or (up w (M held)) i (pos 0) ≡ get_or (M (take_at_lem w held)) i (pos 0)
    each i l = go (dec_lt i (fields_most * (capacity_most - 1))) (dec_lt (i / fields_most) w)
      where
        go : Dec (i < fields_most * (capacity_most - 1)) → Dec (i / fields_most < w) → get_or (up w (M held)) i (pos 0) ≡ get_or (M (take_at_lem w held)) i (pos 0)
        go (no a) b =
            let e : i ≡ fields_most * (capacity_most - 1) + i % fields_most = omega arith in
            ap (λ j. get_or (up w (M held)) j (pos 0)) e ∙ last (i % fields_most) (omega arith) ∙ ap (λ j. get_or (M (take_at_lem w held)) j (pos 0)) (inv e)
        go (yes a) (yes b) = stays i a ∙ front (i / fields_most) (i % fields_most) i (omega arith) b (omega arith)
        go (yes a) (no b) = stays i a ∙ back (i / fields_most) (i % fields_most) i (omega arith) (omega arith) (omega arith) (omega arith)

-- ---- in the whole
module _ (m : Model) (t : List ℤ) (σ : State) (c : ℕ) (here : c < length σ.channels) (few : length σ.channels ≤ channels_most) where
  abbrev ch : Channel
  ch = get_or σ.channels c no_channel

  K : Cut (channel_row m) channel_size channels_most σ.channels c no_channel
  K = cut (channel_row m) channel_size channels_most σ.channels c no_channel here (omega arith)

  -- the channels with the row a, b, r of this one
  abbrev amid : ℤ → ℤ → List ℤ → List ℤ
  amid a b r = K.front ++ ((a ∷ b ∷ r) ++ K.back)

  abbrev wrap : ℤ → ℤ → List ℤ → List ℤ
  wrap a b r = (kept (length σ.processes) ∷ kept (length σ.channels) ∷ G m t σ ++ (P m t σ ++ (amid a b r ++ Z m t σ))) ++ t

  room : length K.front + (channel_size + length K.back) ≡ (channel_size * channels_most)
  room =
      let e = length-append K.front (pad channel_size (channel_row m ch) ++ K.back) in
      let f = length-append (pad channel_size (channel_row m ch)) K.back in
      let g = length-pad channel_size (channel_row m ch) in
      let h = ap length K.was in
      let l = lc m t σ in
      omega arith

  long_amid : (a b : ℤ) (r : List ℤ) → length r ≡ (capacity_most * fields_most) → length (amid a b r) ≡ (channel_size * channels_most)
  long_amid a b r l =
      let e = length-append K.front ((a ∷ b ∷ r) ++ K.back) in
      let f = length-append (a ∷ b ∷ r) K.back in
      let g = room in
      omega arith

  spot : (k : ℕ) → k < channel_size → (channel_at c + k ≡ (channel_at 0) + (off (channel_row m) channel_size c + k)) × (off (channel_row m) channel_size c + k < (channel_size * channels_most))
  spot k h = let e = at_channel (channel_row m) c in (omega arith, omega arith)

  wrap_get : (a b : ℤ) (r : List ℤ) (k : ℕ) → length r ≡ (capacity_most * fields_most) → k < channel_size → get_or (wrap a b r) (channel_at c + k) (pos 0) ≡ get_or (a ∷ b ∷ r) k (pos 0)
  wrap_get a b r k l h =
      ap (λ i. get_or (wrap a b r) i (pos 0)) (spot k h).0
      ∙ get_channel (kept (length σ.processes)) (kept (length σ.channels)) (G m t σ) (P m t σ) (amid a b r) (Z m t σ) t (lg m t σ) (lp m t σ) (long_amid a b r l)
      (off (channel_row m) channel_size c + k) (spot k h).1
      ∙ get_right K.front ((a ∷ b ∷ r) ++ K.back) (pos 0) (off (channel_row m) channel_size c) k (off (channel_row m) channel_size c + k) K.long refl
      ∙ get_left (a ∷ b ∷ r) K.back (pos 0) k (omega arith)

  wrap-set : (a b : ℤ) (r : List ℤ) (k : ℕ) (v : ℤ) → length r ≡ (capacity_most * fields_most) → k < channel_size
      → set (wrap a b r) (channel_at c + k) v
      ≡ (kept (length σ.processes) ∷ kept (length σ.channels) ∷ G m t σ ++ (P m t σ ++ ((K.front ++ (set (a ∷ b ∷ r) k v ++ K.back)) ++ Z m t σ))) ++ t
  wrap-set a b r k v l h =
      ap (λ i. set (wrap a b r) i v) (spot k h).0
      ∙ set_channel (kept (length σ.processes)) (kept (length σ.channels)) (G m t σ) (P m t σ) (amid a b r) (Z m t σ) t (lg m t σ) (lp m t σ) (long_amid a b r l)
      (off (channel_row m) channel_size c + k) v (spot k h).1
      ∙ ap (λ (i : List ℤ). (kept (length σ.processes) ∷ kept (length σ.channels) ∷ G m t σ ++ (P m t σ ++ (i ++ Z m t σ))) ++ t)
      (set-right K.front ((a ∷ b ∷ r) ++ K.back) v (off (channel_row m) channel_size c) k (off (channel_row m) channel_size c + k) K.long refl
      ∙ ap (λ (i : List ℤ). K.front ++ i) (set-left (a ∷ b ∷ r) K.back k v (omega arith)))

  -- a number of a message
  message_get : (a b : ℤ) (r : List ℤ) (i k : ℕ) → length r ≡ (capacity_most * fields_most) → k < (capacity_most * fields_most) → i ≡ channel_at c + 2 + k → get_or (wrap a b r) i (pos 0) ≡ get_or r k (pos 0)
  message_get a b r i k l h e =
      ap (λ j. get_or (wrap a b r) j (pos 0)) (let z : i ≡ channel_at c + (2 + k) = omega arith in z) ∙ wrap_get a b r (2 + k) l (omega arith)
      ∙ ap (λ j. get_or (a ∷ b ∷ r) j (pos 0)) (let z : 2 + k ≡ suc (suc k) = omega arith in z)

  message-set : (a b : ℤ) (r : List ℤ) (i k : ℕ) (v : ℤ) → length r ≡ (capacity_most * fields_most) → k < (capacity_most * fields_most) → i ≡ channel_at c + 2 + k → set (wrap a b r) i v ≡ wrap a b (set r k v)
  message-set a b r i k v l h e =
      ap (λ j. set (wrap a b r) j v) (let z : i ≡ channel_at c + (2 + k) = omega arith in z) ∙ wrap-set a b r (2 + k) v l (omega arith)
      ∙ ap (λ j. (kept (length σ.processes) ∷ kept (length σ.channels) ∷ G m t σ ++ (P m t σ ++ ((K.front ++ (set (a ∷ b ∷ r) j v ++ K.back)) ++ Z m t σ))) ++ t)
      (let z : 2 + k ≡ suc (suc k) = omega arith in z)

  abbrev I : ℤ
  I = kept (channel_item m ch)

  -- the numbers that hold the state, and those that hold it with other messages
  whole_was : encode m σ ++ t ≡ wrap I (kept (length ch.held)) (M ch.held)
  unfolding encode
  whole_was =
      ap (λ (i : List ℤ). (kept (length σ.processes) ∷ kept (length σ.channels) ∷ G m t σ ++ (P m t σ ++ (i ++ Z m t σ))) ++ t)
      (K.was ∙ ap (λ (i : List ℤ). K.front ++ (i ++ K.back)) (pad_exact channel_size (channel_row m ch) (let l = long_m ch.held in omega arith)))

  whole_is : (held : List (List ℤ)) → wrap I (kept (length held)) (M held) ≡ encode m (with_channel c held σ) ++ t
  unfolding encode
  whole_is held =
      let y : Channel = record { unit = ch.unit; variable = ch.variable; held = held } in
      ap₂ (λ (n : ℕ) (i : List ℤ). (kept (length σ.processes) ∷ kept n ∷ G m t σ ++ (P m t σ ++ (i ++ Z m t σ))) ++ t) (inv (length-set σ.channels c y))
      (ap (λ (i : List ℤ). K.front ++ (i ++ K.back)) (inv (pad_exact channel_size (channel_row m y) (let l = long_m held in omega arith))) ∙ inv (K.is y))

  -- TAKE: message w goes
  pub take_is : (w : ℕ) → w < length ch.held → length ch.held ≤ capacity_most → taken_out c w (encode m σ ++ t) ≡ encode m (with_channel c (take_at_lem w ch.held) σ) ++ t
  unfolding taken_out
  take_is w h g =
      ap (λ n. set (lower (encode m σ ++ t)) (channel_at c + 1) (kept (n - 1))) (waiting_is m t σ c here few g)
      ∙ ap (λ x. set (lower x) (channel_at c + 1) (kept (length ch.held - 1))) whole_was
      ∙ ap (λ x. set x (channel_at c + 1) (kept (length ch.held - 1))) (inside ∙ ap (wrap I (kept (length ch.held))) (moves_up w ch.held h g))
      ∙ wrap-set I (kept (length ch.held)) (M (take_at_lem w ch.held)) 1 (kept (length ch.held - 1)) (long_m (take_at_lem w ch.held)) (omega arith)
      ∙ ap (λ n. wrap I (kept n) (M (take_at_lem w ch.held))) (let e = take_length_less w ch.held h in let z : length ch.held - 1 ≡ length (take_at_lem w ch.held) = omega arith in z)
      ∙ whole_is (take_at_lem w ch.held)
    where
      lower : List ℤ → List ℤ
      lower x = walk (λ i x. set x (field_at c (capacity_most - 1) i) (pos 0)) 0 fields_most (walk (λ i x. set x (field_at c w i) (cell_of x (field_at c (w + 1) i))) 0 (fields_most * (capacity_most - 1 - w)) x)

      shifts : (x : List ℤ) → length x ≡ (capacity_most * fields_most) → walk (λ i x. set x (field_at c w i) (cell_of x (field_at c (w + 1) i))) 0 (fields_most * (capacity_most - 1 - w)) (wrap I (kept (length ch.held)) x)
          ≡ wrap I (kept (length ch.held)) (shifted w x)
      shifts x l =
          walk_inside (λ i x. set x (field_at c w i) (cell_of x (field_at c (w + 1) i))) (λ i x. set x (fields_most * w + i) (get_or x (fields_most * (w + 1) + i) (pos 0))) (wrap I (kept (length ch.held))) (capacity_most * fields_most)
          (fields_most * (capacity_most - 1 - w)) 0 x l
          (λ i y p q k. (
            ap (set (wrap I (kept (length ch.held)) y) (field_at c w i)) (message_get I (kept (length ch.held)) y (field_at c (w + 1) i) (fields_most * (w + 1) + i) k (omega arith) (omega arith))
                ∙ message-set I (kept (length ch.held)) y (field_at c w i) (fields_most * w + i) (get_or y (fields_most * (w + 1) + i) (pos 0)) k (omega arith) (omega arith),
            length-set y (fields_most * w + i) (get_or y (fields_most * (w + 1) + i) (pos 0)) ∙ k,
          ))

      clears : (x : List ℤ) → length x ≡ (capacity_most * fields_most) → walk (λ i x. set x (field_at c (capacity_most - 1) i) (pos 0)) 0 fields_most (wrap I (kept (length ch.held)) x)
          ≡ wrap I (kept (length ch.held)) (walk (λ i x. set x ((fields_most * (capacity_most - 1)) + i) (pos 0)) 0 fields_most x)
      clears x l =
          walk_inside (λ i x. set x (field_at c (capacity_most - 1) i) (pos 0)) (λ i x. set x ((fields_most * (capacity_most - 1)) + i) (pos 0)) (wrap I (kept (length ch.held))) (capacity_most * fields_most) fields_most 0 x l
          (λ i y p q k. (message-set I (kept (length ch.held)) y (field_at c (capacity_most - 1) i) ((fields_most * (capacity_most - 1)) + i) (pos 0) k (omega arith) (omega arith), length-set y ((fields_most * (capacity_most - 1)) + i) (pos 0) ∙ k))

      inside : lower (wrap I (kept (length ch.held)) (M ch.held)) ≡ wrap I (kept (length ch.held)) (up w (M ch.held))
      inside =
          ap (walk (λ i x. set x (field_at c (capacity_most - 1) i) (pos 0)) 0 fields_most) (shifts (M ch.held) (long_m ch.held))
          ∙ clears (shifted w (M ch.held)) (sets_long (fields_most * w) (next w) (fields_most * (capacity_most - 1 - w)) 0 (M ch.held) ∙ long_m ch.held)

  -- PUT: one more message behind the others, its values cast to the types ks
  pub put_is : (T ks : List ℕ) (vs : List ℤ) → length vs ≡ length ks → length ks ≤ fields_most → length ch.held < capacity_most
      → fields_of T (declared_of (encode m σ ++ t) c) ≡ length ks → ((i : ℕ) → i < length ks → field_type T (declared_of (encode m σ ++ t) c) i ≡ get_or ks i 0)
      → put_in T c (length ch.held) vs (encode m σ ++ t) ≡ encode m (with_channel c (put_at (length ch.held) (cast_all ks vs) ch.held) σ) ++ t
  unfolding put_in
  put_is T ks vs l w h ef et =
      ap (λ n. set (walk (λ f x. set x (field_at c (length ch.held) f) (value f)) 0 n S) (channel_at c + 1) (kept (length ch.held + 1))) ef
      ∙ ap (λ x. set (walk (λ f x. set x (field_at c (length ch.held) f) (value f)) 0 (length ks) x) (channel_at c + 1) (kept (length ch.held + 1))) whole_was
      ∙ ap (λ x. set x (channel_at c + 1) (kept (length ch.held + 1)))
      (walk_inside (λ f x. set x (field_at c (length ch.held) f) (value f)) (λ f x. set x (fields_most * length ch.held + f) (value f)) (wrap I (kept (length ch.held))) (capacity_most * fields_most) (length ks) 0 (M ch.held)
      (long_m ch.held)
      (λ i y p q k. (
        message-set I (kept (length ch.held)) y (field_at c (length ch.held) i) (fields_most * length ch.held + i) (value i) k (omega arith) (omega arith),
        length-set y (fields_most * length ch.held + i) (value i) ∙ k,
      ))
      ∙ ap (wrap I (kept (length ch.held)))
      (ap (walk (λ f x. set x (fields_most * length ch.held + f) (value f)) 0 (length ks)) (rows_more message_row fields_most capacity_most ch.held [] refl h) ∙ writes value ch.held (length ks) 0 [] refl (omega arith) h
      ∙ ap (λ x. M (ch.held ++ x ∷ []))
      (built_cast value ks vs 0 [] l (λ i g. ap value (let z : 0 + i ≡ i = omega arith in z) ∙ ap (λ k. cast_of k (get_or vs i (pos 0))) (et i g)))))
      ∙ wrap-set I (kept (length ch.held)) (M (ch.held ++ cast_all ks vs ∷ [])) 1 (kept (length ch.held + 1)) (long_m (ch.held ++ cast_all ks vs ∷ [])) (omega arith)
      ∙ ap (λ n. wrap I (kept n) (M (ch.held ++ cast_all ks vs ∷ []))) (inv (length-append ch.held (cast_all ks vs ∷ []))) ∙ whole_is (ch.held ++ cast_all ks vs ∷ [])
      ∙ ap (λ (l : List (List ℤ)). encode m (with_channel c l σ) ++ t) (inv (put_last (cast_all ks vs) ch.held))
    where
      S : List ℤ
      S = encode m σ ++ t

      d : ℕ
      d = declared_of (encode m σ ++ t) c

      value : ℕ → ℤ
      value f = cast_of (field_type T (declared_of (encode m σ ++ t) c) f) (get_or vs f (pos 0))
