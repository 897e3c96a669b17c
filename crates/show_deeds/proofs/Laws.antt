-- Laws of the lines that tell what a step did: each line word by word, and by what was found.
use Rattle.std.specs.Prelude.{Result, Ok, Err}
use Prim.Native.Nat.{ℕ, zero, suc, ◌+◌, ◌-◌, ◌<◌, ◌^◌}
use mathlib.Core.Path.{◌≡◌, refl, sym, ap, ◌∙◌}
use mathlib.Core.Bool.{true, false}
use mathlib.Core.List.{List, [], ◌∷◌, ◌++◌}
use native.Mathlib.Omega.{arith}
use lib.IntN.{ℤ}
use lib.Signed.{mag}
use lib.Dec.{eqb}
use borrow.Author.Tests.{eq-eqb, ne_eqb}
use mir.Syntax.{w32}
use mir.Val.{to_z, of_z}
use Rattle.base_ceilings.specs.Ceilings.{fields_most}
use Rattle.base_bytes.specs.Choice.{pick}
use Rattle.base_kinds.specs.Kinds.{bytes}
use Rattle.base_codes.specs.Codes.{c_decrement, c_end, c_increment, c_index, c_receive, c_run, c_send, c_set_run, c_target}
use Rattle.base_pens.specs.Pen.{Pen, write, puts}
use Rattle.base_pens.proofs.Pen.{puts-append, none-put}
use Rattle.base_values.specs.declared.Fault.{Fault}
use Rattle.spec_text.specs.Formats.{digits_of, decimal_of}
use Rattle.table_layout.specs.Access.{code_of, link_of}
use Rattle.state_layout.specs.Layout.{cell_of, processes_of, declared_of, waiting_of}
use Rattle.state_layout.proofs.Laws.{back}
use Rattle.write_letters.specs.Tokens.{spelled}
use Rattle.step_eval.specs.Variables.{variable_of, slot_of}
use Rattle.step_eval.specs.Expressions.{locate_of}
use Rattle.step_ready.specs.Channels.{fields_of, compared_at}
use Rattle.step_ready.specs.Executing.{mark_of, fits_of, message_of}
use Rattle.show_words.specs.Words.{message_in}
use Rattle.show_deeds.specs.Deeds.{index_in, store_in, passed_in, started_in, stored_in, assigned_in, sent_in, target_in, targets_in, received_in, done_by, deeds_in}

-- ---- one word after the other
one : (b : ℕ) (w : Pen) → write b w ≡ puts (b ∷ []) w
unfolding puts
one b w = refl

then : (a b : List ℕ) (w : Pen) {x y : Pen} → x ≡ puts a w → y ≡ puts b x → y ≡ puts (a ++ b) w
then a b w e f = f ∙ ap (puts b) e ∙ sym (puts-append a b w)

then_one : (a : ℕ) (b : List ℕ) (w : Pen) {x y : Pen} → x ≡ write a w → y ≡ puts b x → y ≡ puts (a ∷ b) w
unfolding puts
then_one a b w e f = f ∙ ap (puts b) e

last_one : (a : ℕ) (w : Pen) {x : Pen} → x ≡ write a w → x ≡ puts (a ∷ []) w
last_one a w e = e ∙ one a w

module _ (t : List ℕ) where
  pub index_put : (r n : ℕ) {c : ℕ} (w : Pen) {x y z : Pen} → c ≡ code_of t r → c ≡ c_index → x ≡ write 91 w → y ≡ puts (digits_of n) x → z ≡ write 93 y → z ≡ puts (index_in t r n) w
  index_put r n {c} w e h f g k = rw (← e, eq-eqb c c_index h) (then_one 91 (digits_of n ++ 93 ∷ []) _ f (then (digits_of n) (93 ∷ []) _ g (last_one 93 _ k)))

  pub index_none : (r n : ℕ) {c : ℕ} (w : Pen) → c ≡ code_of t r → (c ≡ c_index → ⊥) → w ≡ puts (index_in t r n) w
  index_none r n {c} w e h = rw (← e, ne_eqb c c_index h) (none-put w)

  pub store_put : (s : List ℤ) (p from m i : ℕ) {e l q k : ℕ} {v : ℤ} (w : Pen) {a b c d f z : Pen} → e ≡ m - 1 → l ≡ variable_of t e → q ≡ slot_of l p 0 → k ≡ i - q
      → a ≡ puts (bytes "\tstored ") w → b ≡ puts (spelled t from) a → c ≡ puts (index_in t e k) b → d ≡ write 32 c → mag v < 2 ^ 31 → v ≡ cell_of s i → f ≡ puts (decimal_of (to_z w32 (of_z w32 v))) d
      → z ≡ write 10 f → z ≡ puts (store_in t s p from m i) w
  store_put s p from m i {e} {l} {q} {k} {v} w {a} {b} {c} {d} {f} he hl hq hk ha hb hc hd small hv hf hz =
      let x : k ≡ i - slot_of (variable_of t (m - 1)) p 0 = hk ∙ ap (i -◌) (hq ∙ ap (λ n. slot_of n p 0) (hl ∙ ap (variable_of t) he)) in
      then (bytes "\tstored ") (spelled t from ++ (index_in t (m - 1) (i - slot_of (variable_of t (m - 1)) p 0) ++ (32 ∷ (decimal_of (cell_of s i) ++ 10 ∷ [])))) _ ha
      (then (spelled t from) (index_in t (m - 1) (i - slot_of (variable_of t (m - 1)) p 0) ++ (32 ∷ (decimal_of (cell_of s i) ++ 10 ∷ []))) _ hb
      (then (index_in t (m - 1) (i - slot_of (variable_of t (m - 1)) p 0)) (32 ∷ (decimal_of (cell_of s i) ++ 10 ∷ [])) _ (hc ∙ ap (λ n. puts (index_in t n k) b) he ∙ ap (λ n. puts (index_in t (m - 1) n) b) x)
      (then_one 32 (decimal_of (cell_of s i) ++ 10 ∷ []) _ hd
      (then (decimal_of (cell_of s i)) (10 ∷ []) _ (hf ∙ ap (λ n. puts (decimal_of n) d) (back small ∙ hv)) (last_one 10 _ hz)))))

  pub passed-put : (s : List ℤ) (c k : ℕ) {d n : ℕ} (w : Pen) {a b z : Pen} → d ≡ declared_of s c → n ≡ fields_of t d → a ≡ puts (digits_of (c + 1)) w → b ≡ puts (message_in s c k n) a → z ≡ write 10 b
      → z ≡ puts (passed_in t s c k) w
  passed-put s c k {d} {n} w {a} hd hn ha hb hz =
      then (digits_of (c + 1)) (message_in s c k (fields_of t (declared_of s c)) ++ 10 ∷ []) _ ha
      (then (message_in s c k (fields_of t (declared_of s c))) (10 ∷ []) _ (hb ∙ ap (λ i. puts (message_in s c k i) a) (hn ∙ ap (fields_of t) hd)) (last_one 10 _ hz))

  module _ (s : List ℤ) where
    pub started-put : (m : ℕ) {u n e : ℕ} (w : Pen) {a b c d z : Pen} → u ≡ link_of t m → true ≡ fits_of t s u → a ≡ puts (bytes "\tstarted ") w → n ≡ processes_of s → b ≡ puts (digits_of n) a → c ≡ write 32 b
        → e ≡ m - 1 → d ≡ puts (spelled t e) c → z ≡ write 10 d → z ≡ puts (started_in t s m) w
    started-put m {u} {n} {e} w {a} {b} {c} hu room ha hn hb hc he hd hz =
        rw (← hu, ← room)
        (then (bytes "\tstarted ") (digits_of (processes_of s) ++ (32 ∷ (spelled t (m - 1) ++ 10 ∷ []))) _ ha
        (then (digits_of (processes_of s)) (32 ∷ (spelled t (m - 1) ++ 10 ∷ [])) _ (hb ∙ ap (λ i. puts (digits_of i) a) hn)
        (then_one 32 (spelled t (m - 1) ++ 10 ∷ []) _ hc (then (spelled t (m - 1)) (10 ∷ []) _ (hd ∙ ap (λ i. puts (spelled t i) c) he) (last_one 10 _ hz)))))

    pub started_none : (m : ℕ) {u : ℕ} (w : Pen) → u ≡ link_of t m → false ≡ fits_of t s u → w ≡ puts (started_in t s m) w
    started_none m w hu room = rw (← hu, ← room) (none-put w)

  module _ (before after : List ℤ) (p : ℕ) where
    pub stored_at_lem : (from m i : ℕ) {x : Result ℕ Fault} (w : Pen) {z : Pen} → x ≡ locate_of t before p from m → x ≡ Ok i → z ≡ puts (store_in t after p from m i) w → z ≡ puts (stored_in t before after p from m) w
    stored_at_lem from m i w e h g = rw (← e, h) g

    pub stored_astray : (from m : ℕ) {f : Fault} {x : Result ℕ Fault} (w : Pen) → x ≡ locate_of t before p from m → x ≡ Err f → w ≡ puts (stored_in t before after p from m) w
    stored_astray from m w e h = rw (← e, h) (none-put w)

    pub assigned-ran : (q m : ℕ) {e c : ℕ} (w : Pen) {x y : Pen} → x ≡ puts (stored_in t before after p q m) w → e ≡ link_of t m → c ≡ code_of t e → c ≡ c_set_run → y ≡ puts (started_in t before e) x
        → y ≡ puts (assigned_in t before after p q m) w
    assigned-ran q m {e} {c} w {x} hx he hc h hy =
        then (stored_in t before after p q m) (pick (eqb (code_of t (link_of t m)) c_set_run) (started_in t before (link_of t m)) []) _ hx (rw (← he, ← hc, eq-eqb c c_set_run h) hy)

    pub assigned-only : (q m : ℕ) {e c : ℕ} (w : Pen) {x : Pen} → x ≡ puts (stored_in t before after p q m) w → e ≡ link_of t m → c ≡ code_of t e → (c ≡ c_set_run → ⊥) → x ≡ puts (assigned_in t before after p q m) w
    assigned-only q m {e} {c} w {x} hx he hc h =
        then (stored_in t before after p q m) (pick (eqb (code_of t (link_of t m)) c_set_run) (started_in t before (link_of t m)) []) _ hx (rw (← he, ← hc, ne_eqb c c_set_run h) (none-put x))

    pub target_compared : (a m : ℕ) (w : Pen) → true ≡ compared_at t m → w ≡ puts (target_in t before after p a m) w
    target_compared a m w h = rw (← h) (none-put w)

    pub target-stored : (a m : ℕ) (w : Pen) {z : Pen} → false ≡ compared_at t m → z ≡ puts (stored_in t before after p a m) w → z ≡ puts (target_in t before after p a m) w
    target-stored a m w h g = rw (← h) g

    pub targets-none : (n a : ℕ) (w : Pen) → n ≡ 0 → w ≡ puts (targets_in t before after p n a) w
    unfolding targets_in
    targets-none n a w e = rw e (none-put w)

    pub targets_end : (n a : ℕ) {c : ℕ} (w : Pen) → (n ≡ 0 → ⊥) → c ≡ code_of t a → c ≡ c_end → w ≡ puts (targets_in t before after p n a) w
    unfolding targets_in
    targets_end zero a w n e h = absurd (n refl)
    targets_end (suc n) a {c} w z e h = rw (← e, eq-eqb c c_end h) (none-put w)

    pub targets-more : (n a n1 b : ℕ) {c m : ℕ} (w : Pen) {x y : Pen} → (n ≡ 0 → ⊥) → c ≡ code_of t a → (c ≡ c_end → ⊥) → m ≡ link_of t a → x ≡ puts (target_in t before after p a m) w → n1 ≡ n - 1 → b ≡ m + 1
        → y ≡ puts (targets_in t before after p n1 b) x → y ≡ puts (targets_in t before after p n a) w
    unfolding targets_in
    targets-more zero a n1 b w z e h hm hx hn hb hy = absurd (z refl)
    targets-more (suc n) a n1 b {c} {m} w {x} z e h hm hx hn hb hy =
        rw (← e, ne_eqb c c_end h, ← hm)
        (then (target_in t before after p a m) (targets_in t before after p n (m + 1)) _ hx
        (hy ∙ ap (λ i. puts (targets_in t before after p i b) x) (let k : n1 ≡ n = omega arith in k) ∙ ap (λ i. puts (targets_in t before after p n i) x) hb))

    pub sent-put : (q m c : ℕ) {x : Result ℕ Fault} {k : ℕ} (w : Pen) {a z : Pen} → x ≡ message_of t before p q m → x ≡ Ok c → a ≡ puts (bytes "\tsent ") w → k ≡ waiting_of before c → z ≡ puts (passed_in t after c k) a
        → z ≡ puts (sent_in t before after p q m) w
    sent-put q m c w {a = a} e h ha hk hz =
        rw (← e, h) (then (bytes "\tsent ") (passed_in t after c (waiting_of before c)) _ ha (hz ∙ ap (λ i. puts (passed_in t after c i) a) hk))

    pub sent-none : (q m : ℕ) {f : Fault} {x : Result ℕ Fault} (w : Pen) → x ≡ message_of t before p q m → x ≡ Err f → w ≡ puts (sent_in t before after p q m) w
    sent-none q m w e h = rw (← e, h) (none-put w)

    pub received-put : (q m c : ℕ) {x : Result ℕ Fault} (w : Pen) {a b z : Pen} → x ≡ message_of t before p q m → x ≡ Ok c → a ≡ puts (bytes "\treceived ") w → b ≡ puts (passed_in t before c 0) a
        → z ≡ puts (targets_in t before after p fields_most (m + 1)) b → z ≡ puts (received_in t before after p q m) w
    received-put q m c w e h ha hb hz =
        rw (← e, h) (then (bytes "\treceived ") (passed_in t before c 0 ++ targets_in t before after p fields_most (m + 1)) _ ha (then (passed_in t before c 0) (targets_in t before after p fields_most (m + 1)) _ hb hz))

    pub received_none : (q m : ℕ) {f : Fault} {x : Result ℕ Fault} (w : Pen) → x ≡ message_of t before p q m → x ≡ Err f → w ≡ puts (received_in t before after p q m) w
    received_none q m w e h = rw (← e, h) (none-put w)

    -- ---- by the mark's code
    module _ (q : ℕ) {m c : ℕ} (hm : m ≡ mark_of t q) (hc : c ≡ code_of t m) (w : Pen) {z : Pen} where
      by_mark : z ≡ puts (done_by t before after p c q m) w → z ≡ puts (deeds_in t before after p q) w
      by_mark g = rw (← hm, ← hc) g

      pub as_target : c ≡ c_target → z ≡ puts (assigned_in t before after p q m) w → z ≡ puts (deeds_in t before after p q) w
      unfolding done_by
      as_target h g = by_mark (rw h g)

      pub as_increment : c ≡ c_increment → z ≡ puts (stored_in t before after p q m) w → z ≡ puts (deeds_in t before after p q) w
      unfolding done_by
      as_increment h g = by_mark (rw h g)

      pub as_decrement : c ≡ c_decrement → z ≡ puts (stored_in t before after p q m) w → z ≡ puts (deeds_in t before after p q) w
      unfolding done_by
      as_decrement h g = by_mark (rw h g)

      pub as_send : c ≡ c_send → z ≡ puts (sent_in t before after p q m) w → z ≡ puts (deeds_in t before after p q) w
      unfolding done_by
      as_send h g = by_mark (rw h g)

      pub as_receive : c ≡ c_receive → z ≡ puts (received_in t before after p q m) w → z ≡ puts (deeds_in t before after p q) w
      unfolding done_by
      as_receive h g = by_mark (rw h g)

      pub as_run : c ≡ c_run → z ≡ puts (started_in t before m) w → z ≡ puts (deeds_in t before after p q) w
      unfolding done_by
      as_run h g = by_mark (rw h g)

    pub as_other : (q : ℕ) {m c : ℕ} (w : Pen) → m ≡ mark_of t q → c ≡ code_of t m → (c ≡ c_target → ⊥) → (c ≡ c_increment → ⊥) → (c ≡ c_decrement → ⊥) → (c ≡ c_send → ⊥) → (c ≡ c_receive → ⊥) → (c ≡ c_run → ⊥)
        → w ≡ puts (deeds_in t before after p q) w
    unfolding done_by
    as_other q {m} {c} w hm hc a b d e f g =
        rw (← hm, ← hc, ne_eqb c c_target a, ne_eqb c c_increment b, ne_eqb c c_decrement d, ne_eqb c c_send e, ne_eqb c c_receive f, ne_eqb c c_run g) (none-put w)
