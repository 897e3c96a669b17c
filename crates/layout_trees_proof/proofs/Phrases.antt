-- PHRASES: tokens that stay on their line, whatever is open and whatever stands behind them.
use mathlib.Core.Path.{◌≡◌, refl}
use mathlib.Core.Bool.{Bool, true, false, not}
use mathlib.Core.List.{List, [], ◌∷◌, ◌++◌, append_assoc, append-nil}
use Prim.Native.Nat.{ℕ, ◌+◌}
use native.Mathlib.Omega.{arith}
use lib.Dec.{T, eqb, eqb→eq}
use lib.Ieee.Bits.{is_false}
use Rattle.base_bytes.specs.Choice.{both}
use Rattle.base_kinds.specs.Kinds.{Token, kind_of}
use Rattle.parse_grammar.proofs.Tests.{both_left, both_right}
use Rattle.spec_layout.specs.Layout.{Line, line}
use Rattle.write_lines.specs.Lines.{place_behind, bodies, opens, closes, open_behind, starts_line, ends_line}
use Rattle.layout_trees_proof.proofs.Laid.{Laid, along, anew}

-- from place p to place q, on the line begun or as the first of a new one
pub record Passage (p q : ℕ) (cs : List Token) : Type 0 where
  pub stay : (s : ℕ) (ts on : List Token) (ls : List Line) → Laid q s false ts on ls → Laid p s false (cs ++ ts) (cs ++ on) ls
  pub begin : (s : ℕ) (ts on : List Token) (ls : List Line) → Laid q s false ts on ls → Laid p s true (cs ++ ts) [] (line (s + bodies p) (cs ++ on) ∷ ls)

abbrev pub Phrase : ℕ → List Token → Type 0
Phrase p cs = Passage p p cs

pub beside : {p q r : ℕ} {x y : List Token} → Passage p q x → Passage q r y → Passage p r (x ++ y)
beside {x = x} {y = y} f g =
    record {
      stay = λ s ts on ls h. rw (append_assoc x y ts, append_assoc x y on) (f.stay s (y ++ ts) (y ++ on) ls (g.stay s ts on ls h));
      begin = λ s ts on ls h. rw (append_assoc x y ts, append_assoc x y on) (f.begin s (y ++ ts) (y ++ on) ls (g.stay s ts on ls h));
    }

-- a token of kind k only leads from p to q
abbrev pub leads : ℕ → ℕ → ℕ → Bool
leads p q k =
    both (not (starts_line p k)) (both (not (ends_line p k)) (both (not (opens k)) (both (not (closes k)) (both (eqb (place_behind p k) q) (eqb (bodies q) (bodies p))))))

record Leading (p q k : ℕ) : Type 0 where
  no_start : starts_line p k ≡ false
  no_end : ends_line p k ≡ false
  same_open : (s : ℕ) → open_behind k s ≡ s
  place : place_behind p k ≡ q
  same_bodies : bodies q ≡ bodies p

leading : (p q k : ℕ) → T (leads p q k) → Leading p q k
leading p q k t =
    let a = both_right (not (starts_line p k)) _ t in
    let b = both_right (not (ends_line p k)) _ a in
    let c = both_right (not (opens k)) _ b in
    let d = both_right (not (closes k)) _ c in
    record {
      no_start = is_false _ (both_left (not (starts_line p k)) _ t);
      no_end = is_false _ (both_left (not (ends_line p k)) _ a);
      same_open = λ s. rw (is_false (opens k) (both_left (not (opens k)) _ b), is_false (closes k) (both_left (not (closes k)) _ c));
      place = eqb→eq _ _ (both_left (eqb (place_behind p k) q) _ d);
      same_bodies = eqb→eq _ _ (both_right (eqb (place_behind p k) q) _ d);
    }

pub turn : {p q : ℕ} (c : Token) → T (leads p q (kind_of c)) → Passage p q (c ∷ [])
turn {p} {q} c t =
    let l = leading p q (kind_of c) t in
    record {
      stay = λ s ts on ls h. along c l.no_start (rw (l.no_end, l.same_open s, l.place) h);
      begin = λ s ts on ls h. anew c refl (s + bodies p) (rw (l.same_open s, l.place, l.same_bodies) (omega arith)) (rw (l.no_end, l.same_open s, l.place) h);
    }

-- at one place
abbrev pub stays : ℕ → ℕ → Bool
stays p k = leads p p k

pub token : {p : ℕ} (c : Token) → T (stays p (kind_of c)) → Phrase p (c ∷ [])
token c t = turn c t

-- a line's last tokens
pub all-along : {p q : ℕ} {cs : List Token} → Passage p q cs → {s : ℕ} {ts : List Token} {ls : List Line} → Laid q s false ts [] ls → Laid p s false (cs ++ ts) cs ls
all-along {cs = cs} f {s} {ts} {ls} h = rw (append-nil cs) at (f.stay s ts [] ls h)
