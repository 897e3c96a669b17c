-- THE STRINGS OF AN ACCEPTED TEXT: a format of its tree stood between quotes in the text, so it has at most 64 bytes and no backslash before a `%`; and no printf has more than 4 arguments.
use Prim.Native.Nat.{ℕ, zero, suc, ◌+◌, ◌≤◌}
use native.Mathlib.Omega.{arith}
use mathlib.Core.Path.{◌≡◌, refl, subst}
use mathlib.Core.Bool.{true}
use mathlib.Core.List.{List, [], ◌∷◌, ◌++◌}
use lib.ListN.{length}
use borrow.Author.Tests.{leb-true}
use Rattle.base_ceilings.specs.Ceilings.{printed_most, string_most}
use Rattle.base_bytes.proofs.Tests.{both_true}
use Rattle.base_kinds.specs.Kinds.{Token, name}
use Rattle.spec_text.specs.Bytes.{quote}
use Rattle.spec_text.specs.Spelled.{Between, Spelled, word, digits, string, mark}
use Rattle.text_spacing_proof.specs.Sound.{AllSound}
use Rattle.text_spacing_proof.proofs.Tables.{mark_range, word_range}
use Rattle.text_spacing_proof.proofs.Written.{tokens-sound}
use Rattle.spec_grammar.specs.Marks.{'lpar, 'rpar, 'rbrace, 'fi, 'od, 'proctype}
use Rattle.spec_grammar.specs.Tree.{Sort, action, Tree, leaf, express, assign, increment, decrement, send, receive, assert, print, skip, goto, break, timeout, else, run, set_run, select, loop, bare, labelled, end, then, over, option, Body, Part, process, init, Model}
use Rattle.spec_grammar.specs.Grammar.{D, s_leaf, s_express, s_assign, s_increment, s_decrement, s_send, s_receive, s_assert, s_print_alone, s_print, s_skip, s_goto, s_break, s_timeout, s_else, s_run, s_set_run, s_if, s_do, s_bare, s_label, q_last, q_then, o_last, o_also, Items, statements, declared, ABody, a_body, AUnit, u_mtypes, u_global, u_process, u_init, Gram, g_last, g_more}
use Rattle.read_accepts_proof.specs.Meaning.{Accepts}
use Rattle.spec_rules.specs.Statements.{all}
use Rattle.spec_rules.specs.Ceilings.{narrow, light}
use Rattle.spec_machine.specs.Program.{Within, itself, in_if, in_do, unlabelled, behind_label, in_first, in_rest, in_option, in_others, sequence_of}
use Rattle.spec_machine.specs.Names.{unit_at}
use Rattle.spec_machine.specs.Begins.{body_of}
use Rattle.table_proof.proofs.Tokens.{unquoted}
use Rattle.write_shortest_proof.proofs.Algebra.{sound-front, sound_back}
use Rattle.agree_encode.proofs.Totals.{light-narrow, modest_few}
use Rattle.agree_machine.proofs.Survey.{text-modest}
use Rattle.base_codes.specs.Codes.{c_text}

-- the bytes between the quotes of a string
pub record Fair (w : List ℕ) : Type 0 where
  pub between : Between w
  pub short : length w ≤ string_most

text-fair : (w : List ℕ) {k : ℕ} {x : List ℕ} → Spelled k x → k ≡ c_text → x ≡ quote ∷ (w ++ quote ∷ []) → Fair w
text-fair w (word {b = b} {s = s} l a n) h e = absurd (omega (arith, (word_range (b ∷ s)).1))
text-fair w (digits p q r) h e = absurd (omega arith)
text-fair w (string {s = s} p q) h e = subst Fair (unquoted s w e) record { between = p; short = q }
text-fair w (mark {k = k} {x = x} f) h e = absurd (omega (arith, mark_range x k f))

-- each printf has a format that is such a string, and few arguments
abbrev pub Worded : {k : Sort} → Tree k → Type 0
Worded (leaf (express e)) = Unit {0}
Worded (leaf (assign r e)) = Unit {0}
Worded (leaf (increment r)) = Unit {0}
Worded (leaf (decrement r)) = Unit {0}
Worded (leaf (send mk r es)) = Unit {0}
Worded (leaf (receive mk r xs)) = Unit {0}
Worded (leaf (assert e)) = Unit {0}
Worded (leaf (print w es)) = Fair w × (length es ≤ printed_most)
Worded (leaf skip) = Unit {0}
Worded (leaf (goto w)) = Unit {0}
Worded (leaf break) = Unit {0}
Worded (leaf timeout) = Unit {0}
Worded (leaf else) = Unit {0}
Worded (leaf (run w es)) = Unit {0}
Worded (leaf (set_run r w es)) = Unit {0}
Worded (select os) = Worded os
Worded (loop os) = Worded os
Worded (bare a) = Worded a
Worded (labelled w a) = Worded a
Worded end = Unit {0}
Worded (then s q) = Worded s × Worded q
Worded over = Unit {0}
Worded (option q os) = Worded q × Worded os

pub within_worded : {k : Sort} {t : Tree k} {i n o : ℕ} {a : Tree action} {j m u : ℕ} → Within k t i n o a j m u → Worded t → Worded a
within_worded itself h = h
within_worded (in_if w) h = within_worded w h
within_worded (in_do w) h = within_worded w h
within_worded (unlabelled w) h = within_worded w h
within_worded (behind_label w) h = within_worded w h
within_worded (in_first w) h = within_worded w h.0
within_worded (in_rest w) h = within_worded w h.1
within_worded (in_option w) h = within_worded w h.0
within_worded (in_others w) h = within_worded w h.1

-- ---- the trees of texts
worded : {k : Sort} {ts : List Token} {x : Tree k} → D k ts x → AllSound ts → narrow x ≡ true → Worded x
worded (s_leaf (s_express e)) h n = tt
worded (s_leaf (s_assign r e)) h n = tt
worded (s_leaf (s_increment r)) h n = tt
worded (s_leaf (s_decrement r)) h n = tt
worded (s_leaf (s_send kind r es)) h n = tt
worded (s_leaf (s_receive kind r xs)) h n = tt
worded (s_leaf (s_assert e)) h n = tt
worded (s_leaf (s_print_alone {w = w})) h n = (text-fair w h.1.1.0 refl refl, omega arith)
worded (s_leaf (s_print {w = w} {es = es} d)) h n = (text-fair w h.1.1.0 refl refl, leb-true (length es) printed_most n)
worded (s_leaf s_skip) h n = tt
worded (s_leaf s_goto) h n = tt
worded (s_leaf s_break) h n = tt
worded (s_leaf s_timeout) h n = tt
worded (s_leaf s_else) h n = tt
worded (s_leaf (s_run es)) h n = tt
worded (s_leaf (s_set_run r es)) h n = tt
worded (s_if {ts = ts} d) h n = worded d (sound-front ts ('fi ∷ []) h.1) n
worded (s_do {ts = ts} d) h n = worded d (sound-front ts ('od ∷ []) h.1) n
worded (s_bare d) h n = worded d h n
worded (s_label d) h n = worded d h.1.1 n
worded (q_last {ts = ts} {us = us} {s = s} d u) h n = (worded d (sound-front ts us h) (both_true (narrow s) true n).0, tt)
worded (q_then {ts = ts} {us = us} {vs = vs} {s = s} {q = q} d u e) h n =
    let p = both_true (narrow s) (narrow q) n in (worded d (sound-front ts us (sound-front (ts ++ us) vs h)) p.0, worded e (sound_back (ts ++ us) vs h) p.1)
worded (o_last {q = q} d) h n = (worded d h.1 (both_true (narrow q) true n).0, tt)
worded (o_also {ts = ts} {us = us} {q = q} {os = os} d e) h n =
    let p = both_true (narrow q) (narrow os) n in (worded d (sound-front ts us h.1) p.0, worded e (sound_back ts us h.1) p.1)

items_worded : {ts : List Token} {b : Body} → Items ts b → AllSound ts → narrow (sequence_of b) ≡ true → Worded (sequence_of b)
items_worded (statements d) h n = worded d h n
items_worded (declared {ts = ts} {us = us} {vs = vs} d u r) h n = items_worded r (sound_back (ts ++ us) vs h) n

body_worded : {ts : List Token} {b : Body} → ABody ts b → AllSound ts → narrow (sequence_of b) ≡ true → Worded (sequence_of b)
body_worded (a_body {ts = ts} d) h n = items_worded d (sound-front ts ('rbrace ∷ []) h.1) n

unit_worded : {ts : List Token} {u : Part} → AUnit ts u → AllSound ts → light u ≡ true → Worded (sequence_of (body_of u))
unit_worded (u_mtypes l) h n = tt
unit_worded (u_global d) h n = tt
unit_worded (u_process {xs = xs} {ts = ts} {us = us} {a = a} {w = w} {gs = gs} {b = b} x g d) h n =
    body_worded d (sound_back (xs ++ 'proctype ∷ name w ∷ 'lpar ∷ ts) ('rpar ∷ us) h).1 (light-narrow (process a w gs b) n)
unit_worded (u_init {b = b} d) h n = body_worded d h.1 (light-narrow (init b) n)

model_worded : {ts : List Token} {m : Model} → Gram ts m → AllSound ts → all light m ≡ true → (k : ℕ) → Worded (sequence_of (body_of (unit_at m k)))
model_worded (g_last {ts = ts} {us = us} {u = u} d s) h n zero = unit_worded d (sound-front ts us h) (both_true (light u) true n).0
model_worded (g_last d s) h n (suc k) = tt
model_worded (g_more {ts = ts} {us = us} {vs = vs} {u = u} {m = m} d s g) h n zero =
    unit_worded d (sound-front ts us (sound-front (ts ++ us) vs h)) (both_true (light u) (all light m) n).0
model_worded (g_more {ts = ts} {us = us} {vs = vs} {u = u} {m = m} d s g) h n (suc k) = model_worded g (sound_back (ts ++ us) vs h) (both_true (light u) (all light m) n).1 k

pub text_worded : (t : List ℕ) (a : Accepts t) (k : ℕ) → Worded (sequence_of (body_of (unit_at a.tree k)))
text_worded t a k = model_worded a.gram (tokens-sound t a.parts a.reads) (modest_few a.tree (text-modest t a)).units k
