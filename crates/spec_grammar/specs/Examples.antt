-- Document 01, "Ceilings" ("open brackets 32; open if/do 8") and rows 2 and 3 of "What is answered" as far as the grammar goes: worked examples on both sides, computed.
use Rattle.std.specs.Prelude.{◌≡◌, refl, Bool, true, false, List, [], ◌∷◌, ◌++◌, ℕ, zero, suc, eqb, leb, take, drop, replicate}
use Rattle.std.proofs.Common.{sym, arith}
use Rattle.std.proofs.Math.Option.{Option, none, some}
use Rattle.base_bytes.specs.Choice.{both, either}
use Rattle.base_bytes.proofs.Tests.{true_false, right-holds}
use Rattle.base_kinds.specs.Kinds.{Token, number, kind_of}
use Rattle.spec_grammar.specs.Marks.{'lpar, 'rpar, '[, 'lbrace, 'rbrace, 'do, 'if, 'init, 'skip}
use Rattle.spec_grammar.specs.Tree.{num, Expr, leaf, express, skip, Leaf, bare, end, then, body, init, Model}
use Rattle.spec_grammar.specs.Grammar.{none_trails, no_semi, IsType, is_bit, is_bool, is_byte, is_mtype, is_pid, is_chan, is_short, is_int, E, e_number, e_group, e_up, ALeaf, s_express, s_skip, s_leaf, s_bare, q_last}
use Rattle.spec_grammar.specs.Grammar.{declaration, statements, ABody, a_body, not_active, active, active_times, AUnit, u_mtypes, u_global, u_process, u_init, Gram, g_last, g_more}
use Rattle.spec_grammar.specs.Depth.{too_deep}
use Rattle.spec_grammar.specs.Viable.{StrayAt}
use Rattle.spec_grammar.specs.Refusals.{Two, Three}

-- ## depth: one count over `(`, `[` and `{`, another over `if` and `do`; what is closed no longer counts
brackets_32 : (too_deep (replicate 32 'lpar) ≡ none) × (too_deep (replicate 33 'lpar) ≡ some 32) × (too_deep ('lbrace ∷ '[ ∷ replicate 31 'lpar) ≡ some 32)
    × (too_deep (replicate 32 'lpar ++ 'rpar ∷ 'lpar ∷ []) ≡ none)
brackets_32 = (refl, refl, refl, refl)

selections_8 : (too_deep (replicate 8 'if) ≡ none) × (too_deep (replicate 8 'do ++ 'if ∷ []) ≡ some 8)
selections_8 = (refl, refl)

-- ## small texts
-- a statement as the whole of an `init`
abbrev model : Leaf → Model
model l = init (body [] (then (bare (leaf l)) end)) ∷ []

abbrev only : {ts : List Token} {l : Leaf} → ALeaf ts l → Gram ('init ∷ ('lbrace ∷ (ts ++ []) ++ 'rbrace ∷ []) ++ []) (model l)
only s = g_last (u_init (a_body (statements (q_last (s_bare (s_leaf s)) none_trails)))) no_semi

-- `init{skip}`
pub resting : Gram ('init ∷ 'lbrace ∷ 'skip ∷ 'rbrace ∷ []) (model skip)
resting = only s_skip

-- 1 in n pairs of parentheses
abbrev grouped : ℕ → List Token
grouped zero = number 1 ∷ []
grouped (suc n) = 'lpar ∷ grouped n ++ 'rpar ∷ []

abbrev up : {ts : List Token} {e : Expr} → E 11 ts e → E 1 ts e
up r = e_up (e_up (e_up (e_up (e_up (e_up (e_up (e_up (e_up (e_up r)))))))))

abbrev group : (n : ℕ) → E 11 (grouped n) (num 1)
group zero = e_number
group (suc n) = e_group (up (group n))

abbrev whole : List Token
whole = 'init ∷ 'lbrace ∷ grouped 31 ++ 'rbrace ∷ []

-- ## row 2: `init{` and 32 `(`, of which the last is the 33rd bracket, at token 33 and nowhere else
abbrev deep : List Token
deep = take 33 whole ++ 'lpar ∷ []

bracket_33 : Two deep 33
bracket_33 = record { place = refl; viable = (drop 33 whole, model (express (num 1)), only (s_express (up (group 31)))) }

not_bracket_32 : Two deep 32 → ⊥
not_bracket_32 w = let e : ◌≡◌ {A = Option ℕ} (some 33) (some 32) = w.place in let z : ◌≡◌ {A = ℕ} 33 32 = cc in omega arith

-- ## what texts of the grammar begin with: a type, `mtype` among them, `active`, `init` or `proctype`; with `init`, a `}` comes
abbrev begins : List Token → Bool
begins [] = false
begins (t ∷ ts) = either (both (leb 38 (kind_of t)) (leb (kind_of t) 46)) (either (eqb (kind_of t) 56) (eqb (kind_of t) 61))

abbrev closes : List Token → Bool
closes [] = false
closes (t ∷ ts) = either (eqb (kind_of t) 26) (closes ts)

-- the first token is no `init`, or a `}` comes
abbrev closed : List Token → Bool
closed [] = false
closed (t ∷ ts) = either (both (leb 38 (kind_of t)) (leb (kind_of t) 46)) (closes ts)

either-more : (b x y : Bool) → (x ≡ true → y ≡ true) → either b x ≡ true → either b y ≡ true
either-more true x y f e = refl
either-more false x y f e = f e

closes-left : (xs ys : List Token) → closes xs ≡ true → closes (xs ++ ys) ≡ true
closes-left [] ys e = absurd (true_false (sym e))
closes-left (t ∷ xs) ys e = either-more (eqb (kind_of t) 26) (closes xs) (closes (xs ++ ys)) (closes-left xs ys) e

closes-right : (xs ys : List Token) → closes ys ≡ true → closes (xs ++ ys) ≡ true
closes-right [] ys e = e
closes-right (t ∷ xs) ys e = right-holds (eqb (kind_of t) 26) (closes (xs ++ ys)) (closes-right xs ys e)

-- both, of the first of two parts and so of the two
abbrev fair : List Token → Type 0
fair ts = (begins ts ≡ true) × (closed ts ≡ true)

fair-left : (xs ys : List Token) → fair xs → fair (xs ++ ys)
fair-left [] ys (e, f) = absurd (true_false (sym e))
fair-left (t ∷ xs) ys (e, f) = (e, either-more (both (leb 38 (kind_of t)) (leb (kind_of t) 46)) (closes xs) (closes (xs ++ ys)) (closes-left xs ys) f)

type_fair : {k : ℕ} → IsType k → both (leb 38 k) (leb k 46) ≡ true
type_fair is_bit = refl
type_fair is_bool = refl
type_fair is_byte = refl
type_fair is_mtype = refl
type_fair is_pid = refl
type_fair is_chan = refl
type_fair is_short = refl
type_fair is_int = refl

body_closes : {ts : List Token} {b : _} → ABody ts b → closes ts ≡ true
body_closes (a_body {ts = ts} x) = closes-right ts ('rbrace ∷ []) refl

unit-fair : {ts : List Token} {u : _} → AUnit ts u → fair ts
unit-fair (u_mtypes x) = (refl, refl)
unit-fair (u_global (declaration y x)) = (rw (type_fair y) refl, rw (type_fair y) refl)
unit-fair (u_process {ts = ts} {us = us} not_active y z) = (refl, closes-right ts ('rpar ∷ us) (body_closes z))
unit-fair (u_process active y z) = (refl, refl)
unit-fair (u_process active_times y z) = (refl, refl)
unit-fair (u_init x) = (refl, body_closes x)

gram_fair : {ts : List Token} {m : Model} → Gram ts m → fair ts
gram_fair (g_last {ts = ts} {us = us} x y) = fair-left ts us (unit-fair x)
gram_fair (g_more {ts = ts} {us = us} {vs = vs} x y z) = fair-left (ts ++ us) vs (fair-left ts us (unit-fair x))

pub no_empty_text : (m : Model) → Gram [] m → ⊥
no_empty_text m g = true_false (sym (gram_fair g).0)

-- ## row 3, "or end of text": `init{skip` stops behind its last token, neither sooner nor later
abbrev unclosed : List Token
unclosed = 'init ∷ 'lbrace ∷ 'skip ∷ []

at_end : StrayAt unclosed 3
at_end = record { within = omega arith; viable = ('rbrace ∷ [], model skip, resting); dead = λ h. absurd (omega arith); no_text = λ m g. true_false (sym (gram_fair g).1) }

not_before_the_end : StrayAt unclosed 2 → ⊥
not_before_the_end s = s.dead (omega arith) ('rbrace ∷ []) (model skip) resting

not_behind_the_end : StrayAt unclosed 4 → ⊥
not_behind_the_end s = omega (arith, s.within)

-- "first token that can continue no text of the grammar": `}` at the front
first_token : StrayAt ('rbrace ∷ []) 0
first_token =
    record { within = omega arith; viable = ('init ∷ 'lbrace ∷ 'skip ∷ 'rbrace ∷ [], model skip, resting); dead = λ h us m g. true_false (sym (gram_fair g).0); no_text = λ m g. true_false (sym (gram_fair g).0) }

-- the same as a refusal where nothing is too deep; where the 33rd bracket comes, nothing behind it is 3
three_at_end : Three unclosed 3
three_at_end = record { place = at_end; first = λ k e. absurd (let z : ◌≡◌ {A = ℕ} 0 1 = cc in omega arith) }

-- the empty text
pub empty-text : Three [] 0
empty-text =
    record {
      place = record { within = omega arith; viable = ('init ∷ 'lbrace ∷ 'skip ∷ 'rbrace ∷ [], model skip, resting); dead = λ h. absurd (omega arith); no_text = no_empty_text };
      first = λ k e. absurd (let z : ◌≡◌ {A = ℕ} 0 1 = cc in omega arith);
    }

two_comes_first : Three deep 34 → ⊥
two_comes_first w = omega (arith, w.first 33 refl)
