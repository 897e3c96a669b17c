-- The stack and the tokens in their arrays, and one item after the other.
use Prim.Native.Nat.{ℕ, suc, ◌+◌, ◌-◌, ◌*◌, ◌≤◌, ◌<◌, min}
use mathlib.Core.Path.{◌≡◌, refl, sym, ◌∙◌, ap, ap₂}
use mathlib.Core.Bool.{Bool, true, false}
use mathlib.Core.List.{List, [], ◌∷◌}
use native.Mathlib.Omega.{arith}
use native.Mathlib.Nat.{add-zero}
use native.Mathlib.Numerals.{add-one}
use lib.ListN.{length, get_or, drop, set, length-set, drop_of_length-le}
use lib.Seq.{drop-cons, drop-set-lt, drop-drop, get_or-drop, get_or-set_same}
use lib.Dec.{eqb, ltb}
use native.Mathlib.Decide.{dec_lt}
use borrow.Author.Tests.{ne_eqb}
use Rattle.base_codes.specs.Codes.{c_negate}
use Rattle.base_bytes.specs.Choice.{pick, both}
use Rattle.base_values.specs.Operators.{level_of}
use Rattle.write_texts.specs.Turning.{cell, row_of, said, unless_none, laid, operated, shared, turned, is_token, kept, told, walk, turn_room}
use Rattle.write_texts.specs.Places.{Pushed, Flushed}
use Rattle.write_texts.proofs.Rows.{blank-row}

-- ---- one symbol
pub push-none : (old : List ℕ) (sp v : ℕ) → v ≡ 0 → Pushed old sp old sp (unless_none v (drop sp old)) 1
push-none old sp v e = record { holds = rw e refl; low = omega arith; high = omega arith; size = refl }

-- the place below a place, set, is in front
set_front : (old : List ℕ) (p v : ℕ) → p < length old → drop p (set old p v) ≡ v ∷ drop (suc p) old
set_front old p v h =
    drop-cons (set old p v) p 0 (omega (arith, length-set old p v)) ∙ ap₂ ◌∷◌ (get_or-set_same old p v 0 h) (drop-set-lt (suc p) old p v (omega arith))

pub push-some : (old : List ℕ) (sp v p : ℕ) → p ≡ sp - 1 → 0 < sp → sp ≤ length old → (v ≡ 0 → ⊥) → Pushed old sp (set old p v) p (unless_none v (drop sp old)) 1
push-some old sp v p q h l n =
    let e : sp ≡ suc p = omega arith in
    record { holds = rw (ne_eqb v 0 n, e) (set_front old p v (omega arith)); low = omega arith; high = omega arith; size = length-set old p v }

-- ---- a row
-- p is where the stack begins before symbol k, that is with the symbols from k on
pub record Laying (old : List ℕ) (sp r i : ℕ) (new : List ℕ) (p k : ℕ) : Type 0 where
  pub goes : laid r i k (drop p new) ≡ laid r i 8 (drop sp old)
  pub low : sp ≤ p + (8 - k)
  pub high : p ≤ sp
  pub most : k ≤ 8
  pub size : length new ≡ length old

pub lay_start : (old : List ℕ) (sp r i : ℕ) → Laying old sp r i old sp 8
lay_start old sp r i = record { goes = refl; low = omega arith; high = omega arith; most = omega arith; size = refl }

pub lay_more : (old new : List ℕ) (sp r i p k k1 v w q : ℕ) (newer : List ℕ) → k1 ≡ k - 1 → 0 < k → Laying old sp r i new p k → v ≡ cell r (2 + k1) → w ≡ said i v → Pushed new p newer q (unless_none w (drop p new)) 1
    → Laying old sp r i newer q k1
unfolding laid
lay_more old new sp r i p k k1 v w q newer e h y a b z =
    let f : k ≡ suc k1 = omega arith in
    record {
      goes = rw (z.holds, b, a) (rw f at y.goes);
      low = omega (arith, y.low, z.low, y.most);
      high = omega (arith, y.high, z.high);
      most = omega (arith, y.most);
      size = z.size ∙ y.size;
    }

pub lay_end : (old new : List ℕ) (sp r i p k : ℕ) → k ≤ 0 → Laying old sp r i new p k → Pushed old sp new p (laid r i 8 (drop sp old)) 8
unfolding laid
lay_end old new sp r i p k h y =
    let f : k ≡ 0 = omega arith in
    record { holds = rw f at y.goes; low = omega (arith, y.low); high = y.high; size = y.size }

-- ---- tokens on top
pub record Flushing (stack : List ℕ) (sp : ℕ) (old : List ℕ) (tp : ℕ) (new : List ℕ) (p q : ℕ) : Type 0 where
  pub left : kept (drop p stack) ≡ kept (drop sp stack)
  pub written : told (λ (v : ℕ). v) (drop p stack) (drop q new) ≡ told (λ (v : ℕ). v) (drop sp stack) (drop tp old)
  pub moved : p + q ≡ sp + tp
  pub less : sp ≤ p
  pub within : p ≤ length stack
  pub size : length new ≡ length old

module _ (stack : List ℕ) (sp : ℕ) (old : List ℕ) (tp : ℕ) where
  pub flush_start : sp ≤ length stack → Flushing stack sp old tp old sp tp
  flush_start h = record { left = refl; written = refl; moved = refl; less = omega arith; within = h; size = refl }

  module _ (new : List ℕ) (p q : ℕ) (y : Flushing stack sp old tp new p q) where
    pub flush_more : (v q1 : ℕ) (b : Bool) → p < length stack → length stack ≤ sp + tp → tp ≤ length old → v ≡ get_or stack p 0 → b ≡ is_token v → b ≡ true → q1 ≡ q - 1 → Flushing stack sp old tp (set new q1 v) (p + 1) q1
    unfolding kept told
    flush_more v q1 b h l m e t f z =
        let d : drop p stack ≡ v ∷ drop (suc p) stack = drop-cons stack p 0 h ∙ rw e in
        let g : is_token v ≡ true = sym t ∙ f in
        let n : 0 < q = omega (arith, y.moved) in
        let s : drop q1 (set new q1 v) ≡ v ∷ drop q new = (let u : q ≡ suc q1 = omega arith in rw u (set_front new q1 v (omega (arith, y.moved, y.less, y.size)))) in
        record {
          left = rw add-one (sym (rw (d, g) refl) ∙ y.left);
          written = rw (add-one, s) (sym (rw (d, g) refl) ∙ y.written);
          moved = omega (arith, y.moved);
          less = omega (arith, y.less);
          within = omega arith;
          size = length-set new q1 v ∙ y.size;
        }

    pub flush_stop : (v : ℕ) (b : Bool) → p < length stack → v ≡ get_or stack p 0 → b ≡ is_token v → b ≡ false → Flushed stack sp old tp new p q
    unfolding kept told
    flush_stop v b h e t f =
        let d : drop p stack ≡ v ∷ drop (suc p) stack = drop-cons stack p 0 h ∙ rw e in
        let g : is_token v ≡ false = sym t ∙ f in
        record { left = sym (rw (d, g) refl) ∙ y.left; written = sym (rw (d, g) refl) ∙ y.written; moved = y.moved; less = y.less; within = y.within; size = y.size }

    pub flush_end : length stack ≤ p → Flushed stack sp old tp new p q
    unfolding kept told
    flush_end h =
        let d : drop p stack ≡ [] = drop_of_length-le stack {i = p} h in
        record { left = d ∙ sym (rw d refl) ∙ y.left; written = sym (rw d refl) ∙ y.written; moved = y.moved; less = y.less; within = y.within; size = y.size }

-- ---- the operands of an operator
pub operate_is : (a0 a1 a2 a3 a4 a5 : List ℕ) (p0 p1 p2 p3 p4 p5 s o l v1 v3 v5 x : ℕ) (b : Bool) → x ≡ level_of o → l ≡ x → b ≡ ltb (100 + l) s → v1 ≡ pick b 21 0 → v3 ≡ o → v5 ≡ pick b 22 0
    → Pushed a0 p0 a1 p1 (unless_none v1 (drop p0 a0)) 1 → Pushed a1 p1 a2 p2 (unless_none (100 + l) (drop p1 a1)) 1 → Pushed a2 p2 a3 p3 (unless_none v3 (drop p2 a2)) 1
    → Pushed a3 p3 a4 p4 (unless_none (101 + l) (drop p3 a3)) 1 → Pushed a4 p4 a5 p5 (unless_none v5 (drop p4 a4)) 1 → Pushed a0 p0 a5 p5 (operated s o (drop p0 a0)) 8
unfolding operated
operate_is a0 a1 a2 a3 a4 a5 p0 p1 p2 p3 p4 p5 s o l v1 v3 v5 x b e l' d e1 e3 e5 y1 y2 y3 y4 y5 =
    record {
      holds = y5.holds ∙ rw (y4.holds, y3.holds, y2.holds, y1.holds, e1, e3, e5, d, l', e) refl;
      low = omega (arith, y1.low, y2.low, y3.low, y4.low, y5.low);
      high = omega (arith, y1.high, y2.high, y3.high, y4.high, y5.high);
      size = y5.size ∙ y4.size ∙ y3.size ∙ y2.size ∙ y1.size;
    }

-- ---- one item
pub step_binary : (old new : List ℕ) (sp r s c i o : ℕ) (b : Bool) → b ≡ both (eqb (shared s) 101) (both (ltb 146 c) (ltb c c_negate)) → b ≡ true → o ≡ c - 146 → Pushed old sp new r (operated s o (drop sp old)) 8
    → Pushed old sp new r (turned s c i (drop sp old)) 8
unfolding turned
step_binary old new sp r s c i o b e h q y = record { holds = y.holds ∙ rw (← e, h, q) refl; low = y.low; high = y.high; size = y.size }

pub step_row : (old new : List ℕ) (sp r s c i x : ℕ) (b : Bool) → b ≡ both (eqb (shared s) 101) (both (ltb 146 c) (ltb c c_negate)) → b ≡ false → x ≡ row_of s c → Pushed old sp new r (laid x i 8 (drop sp old)) 8
    → Pushed old sp new r (turned s c i (drop sp old)) 8
unfolding turned
step_row old new sp r s c i x b e h q y = record { holds = y.holds ∙ rw (← e, h, q) refl; low = y.low; high = y.high; size = y.size }

pub step-none : (old : List ℕ) (sp s c i : ℕ) → c ≡ 0 → Pushed old sp old sp (turned s c i (drop sp old)) 8
step-none old sp s c i e = record { holds = sym (ap (λ (k : ℕ). turned s k i (drop sp old)) e ∙ blank-row s i (drop sp old)); low = omega arith; high = omega arith; size = refl }

-- ---- all items: i are left
pub record Going (symbol : ℕ) (codes stack : List ℕ) (sp : ℕ) (toks : List ℕ) (tp i : ℕ) : Type 0 where
  pub goes : walk (λ (v : ℕ). v) codes i (drop sp stack) (drop tp toks) ≡ walk (λ (v : ℕ). v) codes (length codes) (unless_none symbol []) []
  pub room : 2 * turn_room ≤ sp + tp + 8 * (length codes - i) + 1
  pub low : sp ≤ turn_room
  pub high : tp ≤ turn_room
  pub few : i ≤ length codes
  pub stack_size : length stack ≡ turn_room
  pub toks_size : length toks ≡ turn_room

pub turn_start : (symbol : ℕ) (codes stack new toks : List ℕ) (sp : ℕ) → length stack ≡ turn_room → length toks ≡ turn_room → Pushed stack turn_room new sp (unless_none symbol (drop turn_room stack)) 1 → Going symbol codes new sp toks turn_room (length codes)
turn_start symbol codes stack new toks sp a b y =
    record {
      goes = rw (y.holds, drop_of_length-le stack {i = turn_room} (omega arith), drop_of_length-le toks {i = turn_room} (omega arith)) refl;
      room = omega (arith, y.low);
      low = y.high;
      high = omega arith;
      few = omega arith;
      stack_size = y.size ∙ a;
      toks_size = b;
    }

-- the top of what is left, and what is under it
top_of : (stack : List ℕ) (p : ℕ) → get_or (drop p stack) 0 0 ≡ get_or stack p 0
top_of stack p = get_or-drop p stack 0 0 ∙ ap (λ (k : ℕ). get_or stack k 0) (add-zero p)

under : (stack : List ℕ) (p m : ℕ) → length stack ≡ turn_room → p ≤ turn_room → m ≡ min turn_room (p + 1) → drop 1 (drop p stack) ≡ drop m stack
under stack p m l h e = drop-drop 1 p stack ∙ go (dec_lt p turn_room)
  where
    go : Dec (p < turn_room) → drop (p + 1) stack ≡ drop m stack
    go (yes z) = let q : m ≡ p + 1 = omega arith in rw q
    go (no z) = drop_of_length-le stack {i = p + 1} (omega arith) ∙ sym (drop_of_length-le stack {i = m} (omega arith))

pub turn_more : (symbol : ℕ) (codes stack toks stack' toks' : List ℕ) (sp tp i i1 p q r s c m : ℕ) → Going symbol codes stack sp toks tp i → 0 < i → i1 ≡ i - 1 → Flushed stack sp toks tp toks' p q
    → s ≡ get_or stack p 0 → m ≡ min turn_room (p + 1) → c ≡ get_or codes i1 0 → Pushed stack m stack' r (turned s c i1 (drop m stack)) 8 → Going symbol codes stack' r toks' q i1
unfolding walk
turn_more symbol codes stack toks stack' toks' sp tp i i1 p q r s c m y h e f a b d z =
    let n : i ≡ suc i1 = omega arith in
    record {
      goes =
          (let g : walk (λ (v : ℕ). v) codes (suc i1) (drop sp stack) (drop tp toks) ≡ walk (λ (v : ℕ). v) codes (length codes) (unless_none symbol []) [] = rw n at y.goes in
          let u : drop r stack' ≡ turned (get_or (kept (drop sp stack)) 0 0) (get_or codes i1 0) i1 (drop 1 (kept (drop sp stack))) =
          z.holds ∙ rw (← f.left, top_of stack p, under stack p m y.stack_size (omega (arith, f.within, y.stack_size)) b, ← a, ← d) refl in
          rw (u, f.written) g);
      room = omega (arith, y.room, f.moved, f.less, f.within, y.stack_size, z.low, y.few);
      low = omega (arith, z.high);
      high = omega (arith, f.moved, f.less, y.high);
      few = omega (arith, y.few);
      stack_size = z.size ∙ y.stack_size;
      toks_size = f.size ∙ y.toks_size;
    }

pub turn_end : (symbol : ℕ) (codes stack toks new : List ℕ) (sp tp i p q : ℕ) → Going symbol codes stack sp toks tp i → i ≤ 0 → Flushed stack sp toks tp new p q
    → (q ≤ turn_room) × (drop q new ≡ walk (λ (v : ℕ). v) codes (length codes) (unless_none symbol []) [])
unfolding walk
turn_end symbol codes stack toks new sp tp i p q y h f =
    let n : i ≡ 0 = omega arith in
    (omega (arith, f.moved, f.less, y.high), f.written ∙ (rw n at y.goes))
