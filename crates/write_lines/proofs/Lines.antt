-- Margins, and tokens laid out one after the other.
use Prim.Native.Nat.{ℕ, suc, ◌+◌, ◌*◌, ◌≤◌, ◌<◌, min}
use mathlib.Core.Path.{◌≡◌, refl, sym, ◌∙◌, ap}
use mathlib.Core.Bool.{Bool, true, false}
use mathlib.Core.List.{List, map}
use native.Mathlib.Numerals.{add-one}
use lib.ListN.{length, get_or, drop, replicate, drop_of_length-le}
use lib.Seq.{drop-cons}
use Rattle.base_bytes.specs.Choice.{either}
use Rattle.base_kinds.specs.Kinds.{kind_of}
use Rattle.base_pens.specs.Pen.{Pen, write, puts}
use Rattle.base_pens.proofs.Pen.{puts-append}
use Rattle.write_letters.specs.Tokens.{token_by, behind}
use Rattle.write_lines.specs.Lines.{place_behind, bodies, open_behind, starts_line, ends_line, depth_at, margin_if, kind_before, laid_next, lay_after}

-- ---- margins
pub margin-written : (b : Bool) (d : ℕ) (w x y : Pen) → b ≡ true → x ≡ write 10 w → y ≡ puts (replicate (2 * d) 32) x → y ≡ puts (margin_if b d) w
unfolding puts
margin-written b d w x y h e f = f ∙ ap (puts (replicate (2 * d) 32)) e ∙ ap (λ (z : Bool). puts (margin_if z d) w) (sym h)

pub margin-none : (b : Bool) (d : ℕ) (w : Pen) → b ≡ false → w ≡ puts (margin_if b d) w
unfolding puts
margin-none b d w h = rw h

module _ (t : List ℕ) where
  -- ---- one token
  pub next-laid : (new : Bool) (k p s v c o a m i j n b : ℕ) (w x y : Pen) → o ≡ open_behind c s → m ≡ min s o → i ≡ bodies p → a ≡ place_behind p c → j ≡ bodies a → n ≡ min i j
      → x ≡ puts (margin_if new (m + n)) w → b ≡ kind_before new k → y ≡ puts (behind b (token_by t v)) x → y ≡ puts (laid_next new k p s c (token_by t v)) w
  next-laid new k p s v c o a m i j n b w x y eo em ei ea ej en ex eb ey =
      let d : m + n ≡ depth_at p s c = rw (em, eo, en, ei, ej, ea) refl in
      ey ∙ rw (ex, d, eb) (sym (puts-append (margin_if new (depth_at p s c)) (behind (kind_before new k) (token_by t v)) w))

  -- ---- one after the other
  pub lines_more : (toks : List ℕ) (j v c k p s p2 s2 : ℕ) (ended st new e2 : Bool) (w x : Pen) → j < length toks → v ≡ get_or toks j 0 → c ≡ kind_of (token_by t v) → st ≡ starts_line p c → new ≡ either ended st
      → x ≡ puts (laid_next new k p s c (token_by t v)) w → e2 ≡ ends_line p c → p2 ≡ place_behind p c → s2 ≡ open_behind c s
      → puts (lay_after c p2 s2 e2 (map (token_by t) (drop (j + 1) toks))) x ≡ puts (lay_after k p s ended (map (token_by t) (drop j toks))) w
  unfolding lay_after
  lines_more toks j v c k p s p2 s2 ended st new e2 w x h ev ec est enew ex ee ep es =
      rw (drop-cons toks j 0 h, ← ev, ← ec, ← est, ← enew, ex, ee, ep, es, add-one j)
      (sym (puts-append (laid_next new k p s c (token_by t v)) (lay_after c (place_behind p c) (open_behind c s) (ends_line p c) (map (token_by t) (drop (suc j) toks))) w))

  pub lines_end : (toks : List ℕ) (j k p s : ℕ) (ended : Bool) (w x : Pen) → length toks ≤ j → x ≡ write 10 w → x ≡ puts (lay_after k p s ended (map (token_by t) (drop j toks))) w
  unfolding lay_after puts
  lines_end toks j k p s ended w x h e = rw (drop_of_length-le toks {i = j} h) e
