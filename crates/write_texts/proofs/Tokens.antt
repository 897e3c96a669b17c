-- The marked codes, and the whole of the text.
use Prim.Native.Nat.{ℕ, zero, suc, ◌+◌, ◌-◌, ◌<◌, min}
use mathlib.Core.Path.{◌≡◌, refl, sym, ◌∙◌, ap}
use mathlib.Core.Bool.{Bool, true, false}
use mathlib.Core.List.{List, [], ◌∷◌, ◌++◌, append-nil, map}
use native.Mathlib.Omega.{arith}
use native.Mathlib.Numerals.{add-one}
use lib.ListN.{length, get_or, take, drop, set, length-drop}
use lib.Seq.{take-suc-set, append_snoc, take_all}
use lib.Dec.{ltb}
use native.Mathlib.Decide.{dec_lt}
use borrow.Author.Tests.{lt-ltb, le-ltb}
use Rattle.base_ceilings.specs.Ceilings.{items_most}
use Rattle.base_bytes.specs.Choice.{pick}
use Rattle.base_kinds.specs.Kinds.{Token}
use Rattle.spec_text.specs.Writing.{write}
use Rattle.base_pens.specs.Pen.{Pen, puts}
use Rattle.table_layout.specs.Access.{items_of, code_of}
use Rattle.write_texts.specs.Turning.{unless_none, is_token, turned, kept, told, walk, whole_by, marked, after, marks, blanked, turn_room}
use Rattle.write_letters.specs.Tokens.{token_by}
use Rattle.write_lines.specs.Lines.{lay_all}
use Rattle.write_texts.specs.Normal.{codes_in, tokens_of, normal_of, layout_of, codes_between, tokens_between}

-- ---- the marked codes
blanked-none : (k : ℕ) → blanked k [] ≡ []
unfolding blanked
blanked-none zero = refl
blanked-none (suc k) = refl

blanked-more : (from i c v : ℕ) (cs : List ℕ) → v ≡ pick (ltb i from) 0 c → blanked (from - i) (c ∷ cs) ≡ v ∷ blanked (from - (i + 1)) cs
unfolding blanked
blanked-more from i c v cs e = go (dec_lt i from)
  where
    go : Dec (i < from) → blanked (from - i) (c ∷ cs) ≡ v ∷ blanked (from - (i + 1)) cs
    go (yes h) = let q : from - i ≡ suc (from - (i + 1)) = omega arith in rw (q, e, lt-ltb i from h) refl
    go (no h) =
        let q : from - i ≡ 0 = omega arith in
        let r : from - (i + 1) ≡ 0 = omega arith in
        rw (q, r, e, le-ltb i from (omega arith)) refl

pub mark-start : (t codes : List ℕ) (from n : ℕ) → take 0 codes ++ blanked (from - 0) (marks false (code_of t) 0 (n - 0)) ≡ blanked from (marks false (code_of t) 0 n)
mark-start t codes from n = let q : n - 0 ≡ n = omega arith in let r : from - 0 ≡ from = omega arith in rw (q, r)

pub mark-more : (t codes : List ℕ) (b d : Bool) (from i n c u v : ℕ) → i < n → i < length codes → c ≡ code_of t i → u ≡ marked b c → v ≡ pick (ltb i from) 0 u → d ≡ after b c
    → take (i + 1) (set codes i v) ++ blanked (from - (i + 1)) (marks d (code_of t) (i + 1) (n - (i + 1))) ≡ take i codes ++ blanked (from - i) (marks b (code_of t) i (n - i))
unfolding marks
mark-more t codes b d from i n c u v h l e f x g =
    let q : n - i ≡ suc (n - (i + 1)) = omega arith in
    let rest = blanked (from - (i + 1)) (marks d (code_of t) (i + 1) (n - (i + 1))) in
    rw q (ap (◌++ rest) (ap (λ (k : ℕ). take k (set codes i v)) (add-one i) ∙ take-suc-set codes i v l)
    ∙ append_snoc (take i codes) v rest ∙ ap (take i codes ++◌) (sym (blanked-more from i u v (marks d (code_of t) (i + 1) (n - (i + 1))) x) ∙ rw (f, g, e)))

pub mark_end : (t codes : List ℕ) (b : Bool) (from i n : ℕ) (x : List ℕ) → i ≡ n → take i codes ++ blanked (from - i) (marks b (code_of t) i (n - i)) ≡ x → take n codes ≡ x
unfolding marks
mark_end t codes b from i n x e h =
    let q : n - i ≡ 0 = omega arith in
    let g : take i codes ++ blanked (from - i) [] ≡ x = rw q at h in
    ap (λ (k : ℕ). take k codes) (sym e) ∙ sym (append-nil (take i codes)) ∙ ap (take i codes ++◌) (sym (blanked-none (from - i))) ∙ g

-- ---- what tokens' numbers stand for, before or behind the walk
told-map : {A : Type 0} (f : ℕ → A) (st out : List ℕ) → map f (told (λ (v : ℕ). v) st out) ≡ told f st (map f out)
unfolding told
told-map f [] out = refl
told-map f (v ∷ st) out = go (is_token v) (told-map f st (v ∷ out))
  where
    go : (b : Bool) → map f (told (λ (v : ℕ). v) st (v ∷ out)) ≡ told f st (map f (v ∷ out)) → map f (pick b (told (λ (v : ℕ). v) st (v ∷ out)) out) ≡ pick b (told f st (f v ∷ map f out)) (map f out)
    go true e = e
    go false e = refl

walk-map : {A : Type 0} (f : ℕ → A) (cs : List ℕ) (i : ℕ) (st out : List ℕ) → map f (walk (λ (v : ℕ). v) cs i st out) ≡ walk f cs i st (map f out)
unfolding walk
walk-map f cs zero st out = told-map f st out
walk-map f cs (suc i) st out =
    walk-map f cs i (turned (get_or (kept st) 0 0) (get_or cs i 0) i (drop 1 (kept st))) (told (λ (v : ℕ). v) st out)
    ∙ ap (walk f cs i (turned (get_or (kept st) 0 0) (get_or cs i 0) i (drop 1 (kept st)))) (told-map f st out)

-- ---- the whole
pub numbers_are : (t codes cs x : List ℕ) (asked from to all n : ℕ) → all ≡ min items_most (items_of t) → n ≡ min to all → take n codes ≡ blanked from (marks false (code_of t) 0 n) → cs ≡ take (n - 0) codes
    → x ≡ whole_by asked (λ (v : ℕ). v) cs → x ≡ whole_by asked (λ (v : ℕ). v) (codes_between t from to)
unfolding codes_between
numbers_are t codes cs x asked from to all n a a' b c d =
    let z : n - 0 ≡ n = omega arith in
    d ∙ ap (whole_by asked (λ (v : ℕ). v)) (c ∙ ap (λ (k : ℕ). take k codes) z ∙ b ∙ ap (λ (k : ℕ). blanked from (marks false (code_of t) 0 k)) (a' ∙ ap (min to) a))

module _ (t toks : List ℕ) (asked from to first : ℕ) (e : drop first toks ≡ whole_by asked (λ (v : ℕ). v) (codes_between t from to)) (l : length toks ≡ turn_room) where
  tokens_are : map (token_by t) (take (turn_room - first) (drop first toks)) ≡ tokens_between t asked from to
  unfolding tokens_between
  tokens_are =
      ap (map (token_by t)) (take_all (turn_room - first) (drop first toks) (omega (arith, length-drop first toks)) ∙ e)
      ∙ walk-map (token_by t) (codes_between t from to) (length (codes_between t from to)) (unless_none asked []) []

  pub tokens-written : (w x : Pen) → x ≡ puts (write (map (token_by t) (take (turn_room - first) (drop first toks)))) w → x ≡ puts (write (tokens_between t asked from to)) w
  tokens-written w x f = f ∙ ap (λ (z : List Token). puts (write z) w) tokens_are

  pub tokens-laid : (w x : Pen) → x ≡ puts (lay_all (map (token_by t) (take (turn_room - first) (drop first toks)))) w → x ≡ puts (lay_all (tokens_between t asked from to)) w
  tokens-laid w x f = f ∙ ap (λ (z : List Token). puts (lay_all z) w) tokens_are

-- all of them
pub tokens-all : (t : List ℕ) (n : ℕ) → n ≡ items_of t → tokens_between t 143 0 n ≡ tokens_of t
unfolding tokens_between codes_between tokens_of codes_in blanked
tokens-all t n e = let q : min n (min items_most (items_of t)) ≡ min items_most (items_of t) = omega arith in rw q refl

pub normal_is : (t : List ℕ) (n : ℕ) (w x : Pen) → n ≡ items_of t → x ≡ puts (write (tokens_between t 143 0 n)) w → x ≡ puts (normal_of t) w
normal_is t n w x e f = f ∙ ap (λ (z : List Token). puts (write z) w) (tokens-all t n e)

pub layout_is : (t : List ℕ) (n : ℕ) (w x : Pen) → n ≡ items_of t → x ≡ puts (lay_all (tokens_between t 143 0 n)) w → x ≡ puts (layout_of t) w
layout_is t n w x e f = f ∙ ap (λ (z : List Token). puts (lay_all z) w) (tokens-all t n e)
