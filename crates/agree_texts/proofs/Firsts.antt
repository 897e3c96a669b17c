-- NO STATEMENT OF A TEXT BEGINS WITH A COLON: its first token is a name, a number, a word or a mark that expressions begin with.
use Prim.Native.Nat.{ℕ, zero, suc, ◌+◌, ◌≤◌, ◌<◌}
use native.Mathlib.Omega.{arith}
use borrow.Author.Tests.{eqb-true}
use mathlib.Core.Path.{◌≡◌, refl, sym as inv, ◌∙◌, ap}
use mathlib.Core.Bool.{Bool, true, false}
use mathlib.Core.List.{List, [], ◌∷◌, ◌++◌}
use lib.ListN.{length, get_or}
use lib.Dec.{eqb, leb}
use Rattle.base_bytes.specs.Choice.{pick}
use Rattle.base_bytes.specs.Lists.{same}
use Rattle.base_bytes.proofs.Tests.{true_false}
use Rattle.base_codes.specs.Items.{i_binary, i_query, i_unary, i_assign, i_decrement, i_end, i_express, i_increment, i_name, i_receive, i_send, i_set_run, i_target}
use Rattle.base_kinds.specs.Kinds.{Token, sym, name, number, level, marks}
use Rattle.spec_text.specs.Bytes.{is_letter, is_digit}
use Rattle.spec_text.specs.Find.{find}
use Rattle.spec_text.specs.Spelled.{Spelled, word, digits, string, mark}
use Rattle.spec_text.specs.Writing.{spell, write_behind, write}
use Rattle.text_spacing_proof.specs.Sound.{Sound, AllSound}
use Rattle.text_spacing_proof.proofs.Digits.{digits-spelled}
use Rattle.text_spacing_proof.proofs.Fronts.{spelled-some}
use Rattle.spec_grammar.specs.Grammar.{is_minus, is_not, is_flip, is_len}
use Rattle.spec_grammar.specs.Marks.{'lpar, 'rpar, 'rbrace, 'comma, 'semi, '=, '++, '--, 'fi, 'od, 'proctype}
use Rattle.spec_grammar.specs.Tree.{Shape, Exp, plain, indexed, num, tru, fls, get, query, unary, binary, choice, express, assign, increment, decrement, send, receive, assert, print, skip, goto, break, timeout, else, run, set_run, Sort, action, statement, sequence, Tree, leaf, select, loop, end, then, Declaration, Body, body, Part, mtypes, global, process, init, Model}
use Rattle.spec_grammar.specs.Print.{wrap, print_exp, print_whole, join, print_received, before, print_tree, print_declaration, print_group, print_items, print_body, print_activity, print_part, print_model}
use Rattle.parse_code.specs.Code.{each, code_exp, code_argument, code_received, code_tree}
use Rattle.table_entries.specs.Items.{Known, is_unary, is_operator, queries, AllKnown}
use Rattle.agree_eval.proofs.Operators.{known-front, known-back}
use Rattle.write_shortest_proof.proofs.Algebra.{sound-front, sound_back}
use Rattle.spec_machine.specs.Program.{Within, itself, in_if, in_do, unlabelled, behind_label, in_first, in_rest, in_option, in_others, sequence_of}
use Rattle.spec_machine.specs.Names.{unit_at}
use Rattle.spec_machine.specs.Begins.{body_of}
use Rattle.spec_account.specs.Statements.{statement_text}

-- ---- the first byte of a name or a number
found_most : (x : List ℕ) (l : List (List ℕ)) (i : ℕ) → find x l i ≤ i + length l
unfolding find
found_most x [] i = omega arith
found_most x (y ∷ l) i = go (same x y) (found_most x l (i + 1))
  where
    go : (b : Bool) → find x l (i + 1) ≤ i + 1 + length l → pick b i (find x l (i + 1)) ≤ i + length (y ∷ l)
    go true h = omega arith
    go false h = omega arith

not_colon : (p : ℕ → Bool) (b : ℕ) → p 58 ≡ false → p b ≡ true → eqb b 58 ≡ false
not_colon p b e h = go (eqb b 58) refl
  where
    go : (x : Bool) → eqb b 58 ≡ x → x ≡ false
    go true q = absurd (true_false (inv h ∙ ap p (eqb-true b 58 q) ∙ e))
    go false q = refl

letter_apart : is_letter 58 ≡ false
letter_apart = refl

digit-apart : is_digit 58 ≡ false
digit-apart = refl

spelled-first : {k : ℕ} {x : List ℕ} → Spelled k x → 38 < k → eqb (get_or x 0 0) 58 ≡ false
spelled-first (word {b = b} h _ _) g = not_colon is_letter b letter_apart h
spelled-first (digits {b = b} h _ _) g = not_colon is_digit b digit-apart h
spelled-first (string _ _) g = refl
spelled-first (mark {k = k} {x = x} f) g = absurd (let m = found_most x marks 1 in omega arith)

-- ---- what begins with no colon
pub record Safe (ts : List Token) : Type 0 where
  pub front : Token
  pub others : List Token
  pub is : ts ≡ front ∷ others
  pub some : 0 < length (spell front)
  pub safe : eqb (get_or (spell front) 0 0) 58 ≡ false

one : (c : Token) (l : List Token) → 0 < length (spell c) → eqb (get_or (spell c) 0 0) 58 ≡ false → Safe (c ∷ l)
one c l h e = record { front = c; others = l; is = refl; some = h; safe = e }

more : {x : List Token} (y : List Token) → Safe x → Safe (x ++ y)
more y s = record { front = s.front; others = s.others ++ y; is = ap (◌++ y) s.is; some = s.some; safe = s.safe }

named : (w : List ℕ) (l : List Token) → Sound (name w) → Safe (name w ∷ l)
named w l h = one (name w) l (spelled-some h) (spelled-first h (omega arith))

safe_wrap : (b : Bool) (ts : List Token) → (AllSound ts → Safe ts) → AllSound (wrap b ts) → Safe (wrap b ts)
safe_wrap true ts f h = f h
safe_wrap false ts f h = one 'lpar _ (omega arith) refl

unary_safe : (o : ℕ) (l : List Token) → Known (i_unary o) → Safe (sym o ∷ l)
unary_safe o l (is_unary is_minus) = one (sym 15) l (omega arith) refl
unary_safe o l (is_unary is_not) = one (sym 19) l (omega arith) refl
unary_safe o l (is_unary is_flip) = one (sym 20) l (omega arith) refl

query_safe : (o : ℕ) (l : List Token) → Known (i_query o) → Safe (sym o ∷ l)
query_safe o l (is_operator (queries is_len)) = one (sym 57) l (omega arith) refl

exp_safe : {s : Shape} (e : Exp s) (l : ℕ) → AllKnown (code_exp e) → AllSound (print_exp e l) → Safe (print_exp e l)
exp_safe (plain w) l k h = named w [] h.0
exp_safe (indexed w e) l k h = named w _ h.0
exp_safe (num n) l k h = let s = digits-spelled n h.0 in one (number n) [] (spelled-some s) (spelled-first s (omega arith))
exp_safe tru l k h = one _ [] (omega arith) refl
exp_safe fls l k h = one _ [] (omega arith) refl
exp_safe (get r) l k h = exp_safe r 12 k h
exp_safe (query o r) l k h = query_safe o _ (known-back (code_exp r) (i_query o ∷ []) k).0
exp_safe (unary o e) l k h = unary_safe o _ (known-back (code_exp e) (i_unary o ∷ []) k).0
exp_safe (binary o a b) l k h =
    let R = sym o ∷ print_exp b (suc (level o)) in
    safe_wrap (leb l (level o)) (print_exp a (level o) ++ R)
    (λ g. more R (exp_safe a (level o) (known-front (code_exp a) (code_exp b) (known-front (code_exp a ++ code_exp b) (i_binary o ∷ []) k)) (sound-front (print_exp a (level o)) R g))) h
exp_safe (choice a b c) l k h = one 'lpar _ (omega arith) refl

action_safe : (a : Tree action) → AllKnown (code_tree a) → AllSound (print_tree a) → Safe (print_tree a)
action_safe (leaf (express e)) k h = exp_safe e 1 (known-front (code_exp e) (i_express ∷ []) k) h
action_safe (leaf (assign r e)) k h =
    let R = '= ∷ print_whole e in
    more R (exp_safe r 12 (known-front (code_exp r) (i_target ∷ code_exp e) (known-front (code_exp r ++ i_target ∷ code_exp e) (i_assign ∷ []) k)) (sound-front (print_exp r 12) R h))
action_safe (leaf (increment r)) k h = more ('++ ∷ []) (exp_safe r 12 (known-front (code_exp r) (i_increment ∷ []) k) (sound-front (print_exp r 12) ('++ ∷ []) h))
action_safe (leaf (decrement r)) k h = more ('-- ∷ []) (exp_safe r 12 (known-front (code_exp r) (i_decrement ∷ []) k) (sound-front (print_exp r 12) ('-- ∷ []) h))
action_safe (leaf (send o r es)) k h =
    let R = sym o ∷ join 'comma print_whole es in
    let A = i_send o ∷ each code_argument es in
    more R (exp_safe r 12 (known-front (code_exp r) A (known-front (code_exp r ++ A) (i_end ∷ []) k)) (sound-front (print_exp r 12) R h))
action_safe (leaf (receive o r xs)) k h =
    let R = sym o ∷ join 'comma print_received xs in
    let A = i_receive o ∷ each code_received xs in
    more R (exp_safe r 12 (known-front (code_exp r) A (known-front (code_exp r ++ A) (i_end ∷ []) k)) (sound-front (print_exp r 12) R h))
action_safe (leaf (assert e)) k h = one _ _ (omega arith) refl
action_safe (leaf (print w es)) k h = one _ _ (omega arith) refl
action_safe (leaf skip) k h = one _ _ (omega arith) refl
action_safe (leaf (goto w)) k h = one _ _ (omega arith) refl
action_safe (leaf break) k h = one _ _ (omega arith) refl
action_safe (leaf timeout) k h = one _ _ (omega arith) refl
action_safe (leaf else) k h = one _ _ (omega arith) refl
action_safe (leaf (run w es)) k h = one _ _ (omega arith) refl
action_safe (leaf (set_run r w es)) k h =
    let R = '= ∷ sym 62 ∷ name w ∷ 'lpar ∷ join 'comma print_whole es in
    let A = i_target ∷ i_name w ∷ i_set_run ∷ each code_argument es in
    more ('rpar ∷ []) (more R (exp_safe r 12 (known-front (code_exp r) A (known-front (code_exp r ++ A) (i_end ∷ []) k)) (sound-front (print_exp r 12) R (sound-front (print_exp r 12 ++ R) ('rpar ∷ []) h))))
action_safe (select os) k h = one _ _ (omega arith) refl
action_safe (loop os) k h = one _ _ (omega arith) refl

pub text_safe : (a : Tree action) → AllKnown (code_tree a) → AllSound (print_tree a) → eqb (get_or (statement_text a) 0 0) 58 ≡ false
text_safe a k h =
    let s = action_safe a k h in
    ap (λ (ts : List Token). eqb (get_or (write ts) 0 0) 58) s.is ∙ go (spell s.front) (write_behind s.front s.others) s.some s.safe
  where
    go : (x y : List ℕ) → 0 < length x → eqb (get_or x 0 0) 58 ≡ false → eqb (get_or (x ++ y) 0 0) 58 ≡ false
    go [] y h e = absurd (omega arith)
    go (b ∷ x) y h e = e

-- ---- the tokens of a statement are among those of its model
before-sound : (q : Tree sequence) (ts : List Token) → AllSound (before q ts) → AllSound ts
before-sound end ts h = h
before-sound (then s q) ts h = h.1

pub within-sound : {k : Sort} {t : Tree k} {i n o : ℕ} {a : Tree action} {j m u : ℕ} → Within k t i n o a j m u → AllSound (print_tree t) → AllSound (print_tree a)
within-sound itself h = h
within-sound (in_if {os = os} w) h = within-sound w (sound-front (print_tree os) ('fi ∷ []) h.1)
within-sound (in_do {os = os} w) h = within-sound w (sound-front (print_tree os) ('od ∷ []) h.1)
within-sound (unlabelled w) h = within-sound w h
within-sound (behind_label w) h = within-sound w h.1.1
within-sound (in_first {s = s} {q = q} w) h = within-sound w (sound-front (print_tree s) (before q (print_tree q)) h)
within-sound (in_rest {s = s} {q = q} w) h = within-sound w (before-sound q (print_tree q) (sound_back (print_tree s) (before q (print_tree q)) h))
within-sound (in_option {q = q} {os = os} w) h = within-sound w (sound-front (print_tree q) (print_tree os) h.1)
within-sound (in_others {q = q} {os = os} w) h = within-sound w (sound_back (print_tree q) (print_tree os) h.1)

items-sound : (ds : List Declaration) (q : Tree sequence) → AllSound (print_items ds q) → AllSound (print_tree q)
items-sound [] q h = h
items-sound (d ∷ ds) q h = items-sound ds q (sound_back (print_declaration d) ('semi ∷ print_items ds q) h).1

body_sound : (b : Body) → AllSound (print_body b) → AllSound (print_tree (sequence_of b))
body_sound (body ds q) h = items-sound ds q (sound-front (print_items ds q) ('rbrace ∷ []) h.1)

part_sound : (p : Part) → AllSound (print_part p) → AllSound (print_tree (sequence_of (body_of p)))
part_sound (mtypes ws) h = tt
part_sound (global d) h = tt
part_sound (process x w gs b) h = body_sound b (sound_back (print_activity x ++ 'proctype ∷ name w ∷ 'lpar ∷ join 'semi print_group gs) ('rpar ∷ print_body b) h).1
part_sound (init b) h = body_sound b h.1

pub model-sound : (m : Model) (k : ℕ) → AllSound (print_model m) → AllSound (print_tree (sequence_of (body_of (unit_at m k))))
model-sound [] k h = tt
model-sound (p ∷ m) zero h = part_sound p (sound-front (print_part p) (print_model m) h)
model-sound (p ∷ m) (suc k) h = model-sound m k (sound_back (print_part p) (print_model m) h)
