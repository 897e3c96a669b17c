-- Laws of pens that write shown bytes: one byte more, and none.
use Prim.Native.Nat.{ℕ, suc, ◌+◌, ◌/◌, ◌%◌, ◌≤◌, ◌<◌}
use mathlib.Core.Path.{◌≡◌, refl, sym, ap, ◌∙◌}
use mathlib.Core.Bool.{Bool, true, false}
use mathlib.Core.List.{List, [], ◌∷◌, ◌++◌}
use native.Mathlib.Numerals.{add-one}
use lib.ListN.{length, get_or, drop, drop_of_length-le}
use lib.Seq.{drop-cons}
use lib.Dec.{eqb}
use Rattle.base_bytes.specs.Choice.{pick, both}
use Rattle.base_pens.specs.Pen.{Pen, write, puts}
use Rattle.base_pens.proofs.Pen.{puts-append}
use Rattle.spec_account.specs.Bytes.{hex_digit, coded, is_visible, visible, each_visible, is_plain, escaped, each_escaped, margin, shown_byte, shown}
use Rattle.spec_account.specs.Quiet.{is_front, guarded}

-- the rest of the text, behind one byte more
pub shown-more : (l : List ℕ) (k : ℕ) (f : Bool) (w x : Pen) (b : ℕ) → k < length l → b ≡ get_or l k 0 → x ≡ puts (shown_byte f b) w → puts (shown f (drop k l)) w ≡ puts (shown (eqb b 10) (drop (k + 1) l)) x
unfolding shown
shown-more l k f w x b h e g = rw (drop-cons l k 0 h, add-one, ← e, puts-append, ← g)

pub shown_end : (l : List ℕ) (k : ℕ) (f : Bool) (w : Pen) → length l ≤ k → puts (shown f (drop k l)) w ≡ w
unfolding shown puts
shown_end l k f w h = rw (drop_of_length-le l h)

pub two-put : (a b : ℕ) (w x y : Pen) → x ≡ write a w → y ≡ write b x → y ≡ puts (a ∷ b ∷ []) w
unfolding puts
two-put a b w x y e f = f ∙ ap (write b) e

pub none-put : (w : Pen) → w ≡ puts [] w
unfolding puts
none-put w = refl

-- a byte as itself, or by its number
pub plain_put : (b : ℕ) (w x : Pen) → true ≡ is_plain b → x ≡ write b w → x ≡ puts (escaped b) w
unfolding escaped puts
plain_put b w x h e = rw (← h) e

pub byte-ends : (f : Bool) (b : ℕ) (w x y : Pen) → x ≡ puts (margin f) w → b ≡ 10 → y ≡ write 10 x → y ≡ puts (shown_byte f b) w
unfolding shown_byte puts
byte-ends f b w x y e h g = g ∙ ap (write 10) e ∙ sym (rw (h, puts-append))

pub byte-shown : (f : Bool) (b : ℕ) (w x y : Pen) → x ≡ puts (margin f) w → eqb b 10 ≡ false → y ≡ puts (escaped b) x → y ≡ puts (shown_byte f b) w
unfolding shown_byte
byte-shown f b w x y e h g = g ∙ ap (puts (escaped b)) e ∙ sym (rw (h, puts-append))

pub coded-put : (b : ℕ) (w x y z v : Pen) (c d : ℕ) → x ≡ write 92 w → y ≡ write 120 x → c ≡ hex_digit (b / 16) → z ≡ write c y → d ≡ hex_digit (b % 16) → v ≡ write d z → v ≡ puts (coded b) w
unfolding puts
coded-put b w x y z v c d e f g i j k = k ∙ rw (j, i, g, f, e)

pub escaped-put : (b : ℕ) (w x : Pen) → false ≡ is_plain b → x ≡ puts (coded b) w → x ≡ puts (escaped b) w
unfolding escaped
escaped-put b w x h e = rw (← h) e

pub seen_put : (b : ℕ) (w x : Pen) → true ≡ is_visible b → x ≡ write b w → x ≡ puts (visible b) w
unfolding visible puts
seen_put b w x h e = rw (← h) e

pub unseen_put : (b : ℕ) (w x : Pen) → false ≡ is_visible b → x ≡ puts (coded b) w → x ≡ puts (visible b) w
unfolding visible
unseen_put b w x h e = rw (← h) e

pub width_is : (b : ℕ) (p : Bool) → p ≡ is_visible b → pick p 1 4 ≡ length (visible b)
unfolding visible
width_is b true h = rw (← h) refl
width_is b false h = rw (← h) refl

pub visible_more : (l : List ℕ) (k : ℕ) (w x : Pen) → k < length l → x ≡ puts (visible (get_or l k 0)) w → puts (each_visible (drop k l)) w ≡ puts (each_visible (drop (k + 1) l)) x
unfolding each_visible
visible_more l k w x h g = rw (drop-cons l k 0 h, add-one, puts-append, ← g)

pub visible_end : (l : List ℕ) (k : ℕ) (w : Pen) → length l ≤ k → puts (each_visible (drop k l)) w ≡ w
unfolding each_visible puts
visible_end l k w h = rw (drop_of_length-le l h)

pub escapes_more : (l : List ℕ) (k : ℕ) (w x : Pen) → k < length l → x ≡ puts (escaped (get_or l k 0)) w → puts (each_escaped (drop k l)) w ≡ puts (each_escaped (drop (k + 1) l)) x
unfolding each_escaped
escapes_more l k w x h g = rw (drop-cons l k 0 h, add-one, puts-append, ← g)

pub escapes_end : (l : List ℕ) (k : ℕ) (w : Pen) → length l ≤ k → puts (each_escaped (drop k l)) w ≡ w
unfolding each_escaped puts
escapes_end l k w h = rw (drop_of_length-le l h)

-- a byte behind its guard
pub guard-put : (f : Bool) (b : ℕ) (w x y : Pen) (g : Bool) → g ≡ both f (is_front b) → x ≡ puts (margin g) w → y ≡ write b x → y ≡ puts (pick (both f (is_front b)) (32 ∷ 32 ∷ []) [] ++ b ∷ []) w
unfolding puts margin
guard-put f b w x y g e h k = k ∙ ap (write b) h ∙ sym (rw (← e) (by g))
  where
    by : (g : Bool) → puts (pick g (32 ∷ 32 ∷ []) [] ++ b ∷ []) w ≡ write b (puts (margin g) w)
    by true = refl
    by false = refl

pub guard-more : (l : List ℕ) (k : ℕ) (f : Bool) (w x : Pen) (b : ℕ) → k < length l → b ≡ get_or l k 0 → x ≡ puts (pick (both f (is_front b)) (32 ∷ 32 ∷ []) [] ++ b ∷ []) w → puts (guarded f (drop k l)) w ≡ puts (guarded (eqb b 10) (drop (k + 1) l)) x
unfolding guarded
guard-more l k f w x b h e g = rw (drop-cons l k 0 h, add-one, ← e, g) (ap (λ z. puts z w) (regroup (pick (both f (is_front b)) (32 ∷ 32 ∷ []) []) b (guarded (eqb b 10) (drop (suc k) l))) ∙ puts-append (pick (both f (is_front b)) (32 ∷ 32 ∷ []) [] ++ b ∷ []) (guarded (eqb b 10) (drop (suc k) l)) w)
  where
    regroup : (u : List ℕ) (b : ℕ) (v : List ℕ) → u ++ b ∷ v ≡ (u ++ b ∷ []) ++ v
    regroup [] b v = refl
    regroup (a ∷ u) b v = ap (a ∷◌) (regroup u b v)

pub guard_end : (l : List ℕ) (k : ℕ) (f : Bool) (w : Pen) → length l ≤ k → puts (guarded f (drop k l)) w ≡ w
unfolding guarded puts
guard_end l k f w h = rw (drop_of_length-le l h)
