-- TOKENS LAID OUT IN LINES READ BACK, and each costs at most a line end and its margin more than in normal text.
use mathlib.Core.Path.{◌≡◌, refl}
use mathlib.Core.Bool.{Bool, true, false, cond}
use mathlib.Core.Option.{Option, none, some}
use mathlib.Core.List.{List, [], ◌∷◌, ◌++◌, append_assoc}
use Prim.Native.Nat.{ℕ, zero, suc, ◌+◌, ◌*◌, ◌≤◌}
use native.Mathlib.Omega.{arith}
use native.Mathlib.Nat.{min-le_left}
use borrow.Author.Tests.{leb-false}
use lib.Dec.{eqb, leb}
use lib.ListN.{length, get_or, replicate, length-append, length-replicate}
use Rattle.base_ceilings.specs.Ceilings.{text_most, normal_most, tokens_most, brackets_most, selections_most}
use Rattle.base_bytes.specs.Choice.{pick, both, either}
use Rattle.base_bytes.proofs.Tests.{either_false}
use Rattle.base_kinds.specs.Kinds.{Token, kind_of, string_kind}
use Rattle.text_tokens.specs.Reading.{tokens, reading}
use Rattle.spec_text.specs.Placed.{Placed}
use Rattle.spec_text.specs.Spelled.{joins}
use Rattle.spec_text.specs.Layout.{Gap, none as no_gap, blank, ends}
use Rattle.spec_text.specs.Writing.{spell, tokens_in, write}
use Rattle.text_spacing_proof.specs.Sound.{Sound, AllSound}
use Rattle.text_spacing_proof.proofs.Tokens.{joins-line, sound-spelled}
use Rattle.text_spacing_proof.proofs.Written.{space_if, Back, back-reads, space_gap, put-before, unjoined}
use Rattle.spec_grammar.specs.Depth.{opens_bracket, closes_bracket, opens_selection, closes_selection, count_after, passes, one_later, deep_from, too_deep}
use Rattle.parse_grammar.proofs.Tests.{some-none, later-none}
use Rattle.text_pens.specs.After.{joins_by, write_after}
use Rattle.text_pens.proofs.After.{kind_decides, write-after}
use Rattle.write_letters.specs.Tokens.{behind}
use Rattle.write_lines.specs.Lines.{p_start, p_body, place_behind, bodies, open_behind, starts_line, ends_line, depth_at, margin_if, kind_before, laid_next, lay_after, lay_all}

-- ---- WHAT IS LAID OUT READS BACK: before each token stands a gap
abbrev gap_before : Bool → ℕ → ℕ → Token → List ℕ
gap_before new d k b = margin_if new d ++ space_if (joins_by (kind_before new k) (get_or (spell b) 0 0))

spaces : (n : ℕ) {g : List ℕ} → Gap g → Gap (replicate n 32 ++ g)
spaces zero G = G
spaces (suc n) G = blank refl (spaces n G)

before_gap : (new : Bool) (d k : ℕ) (b : Token) → Gap (gap_before new d k b)
before_gap true d k b = blank refl (spaces (2 * d) (space_gap (joins_by string_kind (get_or (spell b) 0 0))))
before_gap false d k b = space_gap (joins_by k (get_or (spell b) 0 0))

-- a token and what is laid out behind it, as its gap, its bytes and the rest
parted : (new : Bool) (d k : ℕ) (b : Token) (s : List ℕ) → (margin_if new d ++ behind (kind_before new k) b) ++ s ≡ gap_before new d k b ++ (spell b ++ s)
parted new d k b s = simp append_assoc

-- what is laid out behind a token joins it not: a line end, or what normal text has there
next_unjoined : (new : Bool) (d : ℕ) (a b : Token) (s : List ℕ) → Sound a → Sound b → joins (kind_of a) (spell a) (get_or (gap_before new d (kind_of a) b ++ (spell b ++ s)) 0 0) ≡ false
next_unjoined true d a b s y z = joins-line (sound-spelled a y)
next_unjoined false d a b s y z = rw (← kind_decides a (get_or (spell b) 0 0)) (unjoined a b s y z)

rest_unjoined : (a : Token) (p s : ℕ) (ended : Bool) (ts : List Token) → Sound a → AllSound ts → joins (kind_of a) (spell a) (get_or (lay_after (kind_of a) p s ended ts) 0 0) ≡ false
unfolding lay_after
rest_unjoined a p s ended [] y z = joins-line (sound-spelled a y)
rest_unjoined a p s ended (b ∷ ts) y z =
    let c = kind_of b in
    let new = either ended (starts_line p c) in
    let d = depth_at p s c in
    let r = lay_after c (place_behind p c) (open_behind c s) (ends_line p c) ts in
    rw (parted new d (kind_of a) b r) (next_unjoined new d a b r y z.0)

laid-back : (pre : List ℕ) (k p s : ℕ) (ended : Bool) (ts : List Token) → AllSound ts → Back pre (lay_after k p s ended ts) ts
unfolding lay_after
laid-back pre k p s ended [] z = record { ps = []; laid = ends (blank refl no_gap); same = refl; count = refl }
laid-back pre k p s ended (b ∷ ts) z =
    let c = kind_of b in
    let new = either ended (starts_line p c) in
    let d = depth_at p s c in
    let r = lay_after c (place_behind p c) (open_behind c s) (ends_line p c) ts in
    rw (parted new d k b r)
    (put-before pre (gap_before new d k b) b r ts (before_gap new d k b) z.0 (rest_unjoined b (place_behind p c) (open_behind c s) (ends_line p c) ts z.0 z.1)
    (laid-back (pre ++ (gap_before new d k b ++ spell b)) c (place_behind p c) (open_behind c s) (ends_line p c) ts z.1))

pub lay_back : (ts : List Token) → AllSound ts → length (lay_all ts) ≤ text_most → length ts ≤ tokens_most → (ps : List Placed) × (reading (lay_all ts) ≡ tokens ps) × (tokens_in (lay_all ts) ps ≡ ts)
lay_back ts z h k = back-reads (lay_all ts) ts (laid-back [] string_kind p_start 0 false ts z) h k

-- ---- HOW LONG IT IS: where no ceiling is passed, no more selections are open than the ceiling
few_behind : (o c : Bool) (s : ℕ) → s ≤ selections_most → both o (leb selections_most s) ≡ false → count_after o c s ≤ selections_most
few_behind true c s h e = omega (arith, leb-false selections_most s e)
few_behind false true s h e = omega arith
few_behind false false s h e = h

few_step : (b s : ℕ) (t : Token) (ts : List Token) → s ≤ selections_most → deep_from b s (t ∷ ts) ≡ none
    → (open_behind (kind_of t) s ≤ selections_most) × (deep_from (count_after (opens_bracket t) (closes_bracket t) b) (open_behind (kind_of t) s) ts ≡ none)
few_step b s t ts h e = go (passes b s t) refl e
  where
    R : Option ℕ
    R = deep_from (count_after (opens_bracket t) (closes_bracket t) b) (open_behind (kind_of t) s) ts

    go : (p : Bool) → passes b s t ≡ p → cond p (some 0) (one_later R) ≡ none → (open_behind (kind_of t) s ≤ selections_most) × (R ≡ none)
    go true q e = absurd (some-none 0 e)
    go false q e = (few_behind (opens_selection t) (closes_selection t) s h (either_false (both (opens_bracket t) (leb brackets_most b)) (both (opens_selection t) (leb selections_most s)) q).1, later-none R e)

body_one : (p : ℕ) → bodies p ≤ 1
unfolding bodies
body_one p = go (either (eqb p p_body) (eqb p 6))
  where
    go : (t : Bool) → pick t 1 0 ≤ 1
    go true = omega arith
    go false = omega arith

depth_few : (p s c : ℕ) → s ≤ selections_most → depth_at p s c ≤ 9
depth_few p s c h = omega (arith, min-le_left s (open_behind c s), min-le_left (bodies p) (bodies (place_behind p c)), body_one p)

-- a token that begins a line has a line end and at most 18 spaces before it, and no space against joining
next_long : (new : Bool) (d k : ℕ) (b : Token) → d ≤ 9 → length (margin_if new d ++ behind (kind_before new k) b) ≤ 19 + length (behind k b)
unfolding joins_by
next_long true d k b h =
    omega (arith, length-append (replicate (2 * d) 32) (spell b), length-replicate {A = ℕ} (2 * d) 32, length-append (space_if (joins_by k (get_or (spell b) 0 0))) (spell b))
next_long false d k b h = omega arith

laid_long : (b k p s : ℕ) (ended : Bool) (ts : List Token) → s ≤ selections_most → deep_from b s ts ≡ none → length (lay_after k p s ended ts) ≤ length (write_after k ts) + 19 * length ts + 1
unfolding lay_after write_after
laid_long b k p s ended [] h e = omega arith
laid_long b k p s ended (t ∷ ts) h e =
    let c = kind_of t in
    let new = either ended (starts_line p c) in
    let f = few_step b s t ts h e in
    let w = space_if (joins_by k (get_or (spell t) 0 0)) in
    omega (
      arith,
      next_long new (depth_at p s c) k t (depth_few p s c h),
      laid_long (count_after (opens_bracket t) (closes_bracket t) b) c (place_behind p c) (open_behind c s) (ends_line p c) ts f.0 f.1,
      length-append (laid_next new k p s c t) (lay_after c (place_behind p c) (open_behind c s) (ends_line p c) ts),
      length-append w (spell t ++ write_after c ts),
      length-append (spell t) (write_after c ts),
      length-append w (spell t),
    )

pub lay_length : (ts : List Token) → too_deep ts ≡ none → length (lay_all ts) ≤ length (write ts) + 19 * length ts + 1
lay_length ts e = rw (write-after ts) (laid_long 0 string_kind p_start 0 false ts (omega arith) e)

pub lay_fits : (ts : List Token) → too_deep ts ≡ none → length (write ts) ≤ normal_most → length ts ≤ tokens_most → length (lay_all ts) ≤ text_most
lay_fits ts e h k = omega (arith, lay_length ts e)
