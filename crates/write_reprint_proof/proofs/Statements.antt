-- STATEMENTS, sequences of them and options.
use Prim.Native.Nat.{ℕ, suc, ◌+◌, ◌-◌}
use native.Mathlib.Omega.{arith}
use mathlib.Core.Path.{◌≡◌, refl, sym as inv, ◌∙◌, ap}
use mathlib.Core.Bool.{Bool, true, false}
use mathlib.Core.List.{List, [], ◌∷◌, ◌++◌, append_assoc}
use lib.ListN.{length, get_or, length-append}
use Rattle.base_codes.specs.Codes.{c_assert, c_assign, c_break, c_decrement, c_do, c_else, c_end, c_end_closed, c_end_option, c_express, c_fi, c_goto, c_if, c_increment, c_label, c_od, c_option, c_receive, c_run, c_send, c_set_run, c_skip, c_target, c_text, c_timeout}
use Rattle.base_bytes.specs.Choice.{pick}
use Rattle.base_kinds.specs.Kinds.{Token, sym, text}
use Rattle.spec_grammar.specs.Marks.{'semi, 'comma, k_bang, k_ask}
use Rattle.spec_grammar.specs.Tree.{Sort, action, statement, sequence, options, Tree, leaf, express, assign, increment, decrement, send, receive, assert, print, skip, goto, break, timeout, else, run, set_run, select, loop, bare, labelled, end, then, over, option}
use Rattle.base_codes.specs.Items.{i_assert, i_assign, i_decrement, i_end, i_end_option, i_express, i_fi, i_increment, i_name, i_od, i_receive, i_send, i_set_run, i_target}
use Rattle.parse_code.specs.Code.{each, code_exp, code_argument, code_received, code_tree}
use Rattle.spec_grammar.specs.Print.{print_whole, join, before, print_tree, print_leaf}
use Rattle.write_rows.specs.Rules.{rows}
use Rattle.write_texts.specs.Turning.{cell, row_from, row_of, laid, turned, is_token}
use Rattle.write_reprint_proof.specs.Here.{tok, flagged, Here}
use Rattle.write_reprint_proof.proofs.Walk.{W, emit, go, tell, here-front, here_back, name-here, format-row, format_comma_row}
use Rattle.write_reprint_proof.proofs.Expressions.{walk_exp, sane_send, sane_receive}
use Rattle.write_reprint_proof.proofs.Lists.{sep, some, args, flagged-append, sep-join, walk-arguments, flag_arguments, walk-received, flag_received}

-- the symbol of statements
abbrev pub body_of_lem : Bool → ℕ
body_of_lem f = pick f 131 130

abbrev pub any : Tree sequence → Bool
any end = false
any (then s q) = true

-- ---- rows
module _ (i : ℕ) (st : List ℕ) where
  express_rows : (turned 130 c_express i st ≡ 101 ∷ 131 ∷ st) × (turned 131 c_express i st ≡ 28 ∷ 101 ∷ 131 ∷ st)
  unfolding turned row_of row_from cell rows laid
  express_rows = (refl, refl)

  assign_rows : (turned 130 c_assign i st ≡ 101 ∷ 32 ∷ 121 ∷ 131 ∷ st) × (turned 131 c_assign i st ≡ 28 ∷ 101 ∷ 32 ∷ 121 ∷ 131 ∷ st)
  unfolding turned row_of row_from cell rows laid
  assign_rows = (refl, refl)

  increment_rows : (turned 130 c_increment i st ≡ 33 ∷ 112 ∷ 131 ∷ st) × (turned 131 c_increment i st ≡ 28 ∷ 33 ∷ 112 ∷ 131 ∷ st)
  unfolding turned row_of row_from cell rows laid
  increment_rows = (refl, refl)

  decrement_rows : (turned 130 c_decrement i st ≡ 34 ∷ 112 ∷ 131 ∷ st) × (turned 131 c_decrement i st ≡ 28 ∷ 34 ∷ 112 ∷ 131 ∷ st)
  unfolding turned row_of row_from cell rows laid
  decrement_rows = (refl, refl)

  end_rows : (turned 130 c_end i st ≡ 132 ∷ 131 ∷ st) × (turned 131 c_end i st ≡ 28 ∷ 132 ∷ 131 ∷ st)
  unfolding turned row_of row_from cell rows laid
  end_rows = (refl, refl)

  closed-rows : (turned 130 c_end_closed i st ≡ 22 ∷ 132 ∷ 131 ∷ st) × (turned 131 c_end_closed i st ≡ 28 ∷ 22 ∷ 132 ∷ 131 ∷ st)
  unfolding turned row_of row_from cell rows laid
  closed-rows = (refl, refl)

  assert_rows : (turned 130 c_assert i st ≡ 22 ∷ 101 ∷ 21 ∷ 47 ∷ 131 ∷ st) × (turned 131 c_assert i st ≡ 28 ∷ 22 ∷ 101 ∷ 21 ∷ 47 ∷ 131 ∷ st)
  unfolding turned row_of row_from cell rows laid
  assert_rows = (refl, refl)

  skip_rows : (turned 130 c_skip i st ≡ 63 ∷ 131 ∷ st) × (turned 131 c_skip i st ≡ 28 ∷ 63 ∷ 131 ∷ st)
  unfolding turned row_of row_from cell rows laid
  skip_rows = (refl, refl)

  goto_rows : (turned 130 c_goto i st ≡ 120 ∷ 54 ∷ 131 ∷ st) × (turned 131 c_goto i st ≡ 28 ∷ 120 ∷ 54 ∷ 131 ∷ st)
  unfolding turned row_of row_from cell rows laid
  goto_rows = (refl, refl)

  break_rows : (turned 130 c_break i st ≡ 48 ∷ 131 ∷ st) × (turned 131 c_break i st ≡ 28 ∷ 48 ∷ 131 ∷ st)
  unfolding turned row_of row_from cell rows laid
  break_rows = (refl, refl)

  timeout_rows : (turned 130 c_timeout i st ≡ 64 ∷ 131 ∷ st) × (turned 131 c_timeout i st ≡ 28 ∷ 64 ∷ 131 ∷ st)
  unfolding turned row_of row_from cell rows laid
  timeout_rows = (refl, refl)

  else_rows : (turned 130 c_else i st ≡ 50 ∷ 131 ∷ st) × (turned 131 c_else i st ≡ 28 ∷ 50 ∷ 131 ∷ st)
  unfolding turned row_of row_from cell rows laid
  else_rows = (refl, refl)

  pub fi_rows : (turned 130 c_fi i st ≡ 53 ∷ 138 ∷ 131 ∷ st) × (turned 131 c_fi i st ≡ 28 ∷ 53 ∷ 138 ∷ 131 ∷ st)
  unfolding turned row_of row_from cell rows laid
  fi_rows = (refl, refl)

  pub od_rows : (turned 130 c_od i st ≡ 58 ∷ 138 ∷ 131 ∷ st) × (turned 131 c_od i st ≡ 28 ∷ 58 ∷ 138 ∷ 131 ∷ st)
  unfolding turned row_of row_from cell rows laid
  od_rows = (refl, refl)

  label-row : turned 131 c_label i st ≡ 29 ∷ 120 ∷ 131 ∷ st
  unfolding turned row_of row_from cell rows laid
  label-row = refl

  target_row : turned 121 c_target i st ≡ 112 ∷ st
  unfolding turned row_of row_from cell rows laid
  target_row = refl

  pub end_option_row : turned 138 c_end_option i st ≡ 130 ∷ 138 ∷ st
  unfolding turned row_of row_from cell rows laid
  end_option_row = refl

  if_row : turned 138 c_if i st ≡ 55 ∷ st
  unfolding turned row_of row_from cell rows laid
  if_row = refl

  do_row : turned 138 c_do i st ≡ 49 ∷ st
  unfolding turned row_of row_from cell rows laid
  do_row = refl

  send_row : (f : Bool) → turned (args f) c_send i st ≡ 19 ∷ 112 ∷ st
  unfolding turned row_of row_from cell rows laid
  send_row false = refl
  send_row true = refl

  receive_row : (f : Bool) → turned (args f) c_receive i st ≡ 35 ∷ 112 ∷ st
  unfolding turned row_of row_from cell rows laid
  receive_row false = refl
  receive_row true = refl

  run_row : (f : Bool) → turned (args f) c_run i st ≡ 21 ∷ 120 ∷ 62 ∷ st
  unfolding turned row_of row_from cell rows laid
  run_row false = refl
  run_row true = refl

  set_run_row : (f : Bool) → turned (args f) c_set_run i st ≡ 21 ∷ 120 ∷ 62 ∷ 32 ∷ 121 ∷ st
  unfolding turned row_of row_from cell rows laid
  set_run_row false = refl
  set_run_row true = refl

  option_row : (f : Bool) → turned (body_of_lem f) c_option i st ≡ 30 ∷ st
  unfolding turned row_of row_from cell rows laid
  option_row false = refl
  option_row true = refl

symbol_of_args : (f : Bool) → is_token (args f) ≡ false
symbol_of_args false = refl
symbol_of_args true = refl

pub symbol_of_body : (f : Bool) → is_token (body_of_lem f) ≡ false
symbol_of_body false = refl
symbol_of_body true = refl

pub before-sep : (q : Tree sequence) (ts : List Token) → sep (any q) 'semi ++ ts ≡ before q ts
before-sep end ts = refl
before-sep (then s q) ts = refl

module _ (h : ℕ → Token) (ms : List ℕ) where
  abbrev pub Claim : (k : Sort) → Tree k → ℕ → ℕ → Type 0
  Claim action t i j = (f : Bool) (st : List ℕ) (out : List Token) → W h ms j (body_of_lem f ∷ st) out ≡ W h ms i (131 ∷ st) (print_tree t ++ (sep f 'semi ++ out))
  Claim statement t i j = (f : Bool) (st : List ℕ) (out : List Token) → W h ms j (body_of_lem f ∷ st) out ≡ W h ms i (131 ∷ st) (print_tree t ++ (sep f 'semi ++ out))
  Claim sequence t i j = (st : List ℕ) (out : List Token) → W h ms j (130 ∷ st) out ≡ W h ms i (body_of_lem (any t) ∷ st) (print_tree t ++ out)
  Claim options t i j = (st : List ℕ) (out : List Token) → W h ms j (138 ∷ st) out ≡ W h ms i (138 ∷ st) (print_tree t ++ out)

  -- `;` is written behind a statement if one is there
  pub begin : (f : Bool) (j i c : ℕ) (st xs : List ℕ) (out : List Token) → j ≡ suc i → get_or ms i 0 ≡ c → (turned 130 c i st ≡ xs) × (turned 131 c i st ≡ 28 ∷ xs) → W h ms j (body_of_lem f ∷ st) out ≡ W h ms i xs (sep f 'semi ++ out)
  begin false j i c st xs out n g r = go h ms j i 130 c st xs out n refl g r.0
  begin true j i c st xs out n g r = go h ms j i 131 c st (28 ∷ xs) out n refl g r.1 ∙ emit h ms 28 refl i xs out

  -- a statement of one item, of a reference and a mark
  alone : (c v : ℕ) (i j : ℕ) (f : Bool) (st : List ℕ) (out : List Token) → j ≡ i + 1 → get_or ms i 0 ≡ c → is_token v ≡ true → (turned 130 c i st ≡ v ∷ 131 ∷ st) × (turned 131 c i st ≡ 28 ∷ v ∷ 131 ∷ st)
      → W h ms j (body_of_lem f ∷ st) out ≡ W h ms i (131 ∷ st) (tok h v ∷ (sep f 'semi ++ out))
  alone c v i j f st out n g e r = begin f j i c st (v ∷ 131 ∷ st) out (omega arith) g r ∙ emit h ms v e i (131 ∷ st) (sep f 'semi ++ out)

  -- what a format stands behind: its arguments, with a comma before them if there are any
  format : (w : List ℕ) (f : Bool) (i : ℕ) (st : List ℕ) (out : List Token) → get_or ms i 0 ≡ c_text → h i ≡ text w → W h ms (suc i) (args f ∷ st) out ≡ W h ms i (21 ∷ 60 ∷ st) (text w ∷ (sep f 'comma ++ out))
  format w false i st out g e = go h ms (suc i) i 132 c_text st ((256 + i) ∷ 21 ∷ 60 ∷ st) out refl refl g (format-row i st) ∙ tell h ms i (text w) e i (21 ∷ 60 ∷ st) out
  format w true i st out g e =
      go h ms (suc i) i 133 c_text st (27 ∷ (256 + i) ∷ 21 ∷ 60 ∷ st) out refl refl g (format_comma_row i st) ∙ emit h ms 27 refl i ((256 + i) ∷ 21 ∷ 60 ∷ st) out ∙ tell h ms i (text w) e i (21 ∷ 60 ∷ st) ('comma ∷ out)

  pub walk_tree : {k : Sort} (t : Tree k) (b : Bool) (i j : ℕ) → j ≡ i + length (code_tree t) → Here h ms b i (code_tree t) → Claim k t i j
  walk_tree (leaf (express e)) b i j n p = λ f st out.
      let k = i + length (code_exp e) in
      let t : length (code_exp e ++ i_express ∷ []) ≡ length (code_exp e) + 1 = length-append (code_exp e) (i_express ∷ []) in
      begin f j k c_express st (101 ∷ 131 ∷ st) out (omega arith) (here_back h ms (code_exp e) (i_express ∷ []) b i k refl p).0 (express_rows k st)
      ∙ walk_exp h ms e b i k 1 refl (here-front h ms (code_exp e) (i_express ∷ []) b i p) (omega arith) (omega arith) _ _
  walk_tree (leaf (assign r e)) b i j n p = λ f st out.
      let R = code_exp r in
      let E = code_exp e in
      let m = i + length R in
      let k = suc m + length E in
      let t : length (R ++ i_target ∷ E ++ i_assign ∷ []) ≡ length (R ++ i_target ∷ E) + 1 = length-append (R ++ i_target ∷ E) (i_assign ∷ []) in
      let t2 : length (R ++ i_target ∷ E) ≡ length R + suc (length E) = length-append R (i_target ∷ E) in
      let re = here-front h ms (R ++ i_target ∷ E) (i_assign ∷ []) b i p in
      let x = here_back h ms (R ++ i_target ∷ E) (i_assign ∷ []) b i k (omega arith) p in
      let te = here_back h ms R (i_target ∷ E) b i m refl re in
      begin f j k c_assign st (101 ∷ 32 ∷ 121 ∷ 131 ∷ st) out (omega arith) x.0 (assign_rows k st)
      ∙ walk_exp h ms e (flagged b R) (suc m) k 1 refl te.3 (omega arith) (omega arith) _ _
      ∙ emit h ms 32 refl _ _ _ ∙ go h ms (suc m) m 121 c_target _ _ _ refl refl te.0 (target_row m _)
      ∙ walk_exp h ms r b i m 12 refl (here-front h ms R (i_target ∷ E) b i re) (omega arith) (omega arith) _ _ ∙ simp append_assoc
  walk_tree (leaf (increment r)) b i j n p = λ f st out.
      let k = i + length (code_exp r) in
      let t : length (code_exp r ++ i_increment ∷ []) ≡ length (code_exp r) + 1 = length-append (code_exp r) (i_increment ∷ []) in
      begin f j k c_increment st (33 ∷ 112 ∷ 131 ∷ st) out (omega arith) (here_back h ms (code_exp r) (i_increment ∷ []) b i k refl p).0 (increment_rows k st) ∙ emit h ms 33 refl _ _ _
      ∙ walk_exp h ms r b i k 12 refl (here-front h ms (code_exp r) (i_increment ∷ []) b i p) (omega arith) (omega arith) _ _ ∙ simp append_assoc
  walk_tree (leaf (decrement r)) b i j n p = λ f st out.
      let k = i + length (code_exp r) in
      let t : length (code_exp r ++ i_decrement ∷ []) ≡ length (code_exp r) + 1 = length-append (code_exp r) (i_decrement ∷ []) in
      begin f j k c_decrement st (34 ∷ 112 ∷ 131 ∷ st) out (omega arith) (here_back h ms (code_exp r) (i_decrement ∷ []) b i k refl p).0 (decrement_rows k st) ∙ emit h ms 34 refl _ _ _
      ∙ walk_exp h ms r b i k 12 refl (here-front h ms (code_exp r) (i_decrement ∷ []) b i p) (omega arith) (omega arith) _ _ ∙ simp append_assoc
  walk_tree (leaf (send mk r es)) b i j n p = λ f st out.
      let R = code_exp r in
      let A = each code_argument es in
      let m = i + length R in
      let k = suc m + length A in
      let t : length (R ++ i_send mk ∷ A ++ i_end ∷ []) ≡ length (R ++ i_send mk ∷ A) + 1 = length-append (R ++ i_send mk ∷ A) (i_end ∷ []) in
      let t2 : length (R ++ i_send mk ∷ A) ≡ length R + suc (length A) = length-append R (i_send mk ∷ A) in
      let ra = here-front h ms (R ++ i_send mk ∷ A) (i_end ∷ []) b i p in
      let x = here_back h ms (R ++ i_send mk ∷ A) (i_end ∷ []) b i k (omega arith) p in
      let sa = here_back h ms R (i_send mk ∷ A) b i m refl ra in
      let u : flagged b (R ++ i_send mk ∷ A) ≡ false = flagged-append R (i_send mk ∷ A) b ∙ flag_arguments h ms es false (suc m) sa.3 false in
      let g : get_or ms k 0 ≡ c_end = x.0 ∙ rw u refl in
      let e : W h ms j (body_of_lem f ∷ st) out ≡ W h ms i (131 ∷ st) (print_leaf (send k_bang r es) ++ (sep f 'semi ++ out)) =
      begin f j k c_end st (132 ∷ 131 ∷ st) out (omega arith) g (end_rows k st) ∙ walk-arguments h ms es false (suc m) k refl sa.3 _ _
      ∙ go h ms (suc m) m (args (some es)) c_send _ _ _ refl (symbol_of_args (some es)) sa.0 (send_row m _ (some es)) ∙ emit h ms 19 refl _ _ _
      ∙ walk_exp h ms r b i m 12 refl (here-front h ms R (i_send mk ∷ A) b i ra) (omega arith) (omega arith) _ _ ∙ simp append_assoc in
      e ∙ ap (λ o. W h ms i (131 ∷ st) (print_leaf (send o r es) ++ (sep f 'semi ++ out))) (inv (sane_send mk sa.2))
  walk_tree (leaf (receive mk r es)) b i j n p = λ f st out.
      let R = code_exp r in
      let A = each code_received es in
      let m = i + length R in
      let k = suc m + length A in
      let t : length (R ++ i_receive mk ∷ A ++ i_end ∷ []) ≡ length (R ++ i_receive mk ∷ A) + 1 = length-append (R ++ i_receive mk ∷ A) (i_end ∷ []) in
      let t2 : length (R ++ i_receive mk ∷ A) ≡ length R + suc (length A) = length-append R (i_receive mk ∷ A) in
      let ra = here-front h ms (R ++ i_receive mk ∷ A) (i_end ∷ []) b i p in
      let x = here_back h ms (R ++ i_receive mk ∷ A) (i_end ∷ []) b i k (omega arith) p in
      let sa = here_back h ms R (i_receive mk ∷ A) b i m refl ra in
      let u : flagged b (R ++ i_receive mk ∷ A) ≡ false = flagged-append R (i_receive mk ∷ A) b ∙ flag_received h ms es false (suc m) sa.3 false in
      let g : get_or ms k 0 ≡ c_end = x.0 ∙ rw u refl in
      let e : W h ms j (body_of_lem f ∷ st) out ≡ W h ms i (131 ∷ st) (print_leaf (receive k_ask r es) ++ (sep f 'semi ++ out)) =
      begin f j k c_end st (132 ∷ 131 ∷ st) out (omega arith) g (end_rows k st) ∙ walk-received h ms es false (suc m) k refl sa.3 _ _
      ∙ go h ms (suc m) m (args (some es)) c_receive _ _ _ refl (symbol_of_args (some es)) sa.0 (receive_row m _ (some es)) ∙ emit h ms 35 refl _ _ _
      ∙ walk_exp h ms r b i m 12 refl (here-front h ms R (i_receive mk ∷ A) b i ra) (omega arith) (omega arith) _ _ ∙ simp append_assoc in
      e ∙ ap (λ o. W h ms i (131 ∷ st) (print_leaf (receive o r es) ++ (sep f 'semi ++ out))) (inv (sane_receive mk sa.2))
  walk_tree (leaf (assert e)) b i j n p = λ f st out.
      let k = i + length (code_exp e) in
      let t : length (code_exp e ++ i_assert ∷ []) ≡ length (code_exp e) + 1 = length-append (code_exp e) (i_assert ∷ []) in
      begin f j k c_assert st (22 ∷ 101 ∷ 21 ∷ 47 ∷ 131 ∷ st) out (omega arith) (here_back h ms (code_exp e) (i_assert ∷ []) b i k refl p).0 (assert_rows k st) ∙ emit h ms 22 refl _ _ _
      ∙ walk_exp h ms e b i k 1 refl (here-front h ms (code_exp e) (i_assert ∷ []) b i p) (omega arith) (omega arith) _ _ ∙ emit h ms 21 refl _ _ _ ∙ emit h ms 47 refl _ _ _ ∙ simp append_assoc
  walk_tree (leaf (print w es)) b i j n p = λ f st out.
      let A = each code_argument es in
      let k = suc i + length A in
      let t : length (A ++ i_end ∷ []) ≡ length A + 1 = length-append A (i_end ∷ []) in
      let a = here-front h ms A (i_end ∷ []) true (suc i) p.3 in
      let x = here_back h ms A (i_end ∷ []) true (suc i) k refl p.3 in
      let g : get_or ms k 0 ≡ c_end_closed = x.0 ∙ rw (flag_arguments h ms es true (suc i) a true) refl in
      begin f j k c_end_closed st (22 ∷ 132 ∷ 131 ∷ st) out (omega arith) g (closed-rows k st) ∙ emit h ms 22 refl _ _ _ ∙ walk-arguments h ms es true (suc i) k refl a _ _
      ∙ format w (some es) i _ _ p.0 (p.1 (omega arith)) ∙ emit h ms 21 refl _ _ _ ∙ emit h ms 60 refl _ _ _
      ∙ ap (λ (z : List Token). W h ms i (131 ∷ st) (sym 60 ∷ sym 21 ∷ text w ∷ z)) (inv (append_assoc (sep (some es) 'comma) (join 'comma print_whole es) (sym 22 ∷ (sep f 'semi ++ out))) ∙ ap (◌++ sym 22 ∷ (sep f 'semi ++ out)) (sep-join 'comma print_whole es))
      ∙ simp append_assoc
  walk_tree (leaf skip) b i j n p = λ f st out. alone c_skip 63 i j f st out n p.0 refl (skip_rows i st)
  walk_tree (leaf (goto w)) b i j n p = λ f st out.
      begin f j (suc i) c_goto st (120 ∷ 54 ∷ 131 ∷ st) out (omega arith) p.3.0 (goto_rows (suc i) st) ∙ name-here h ms (suc i) i w refl p.0 (p.1 (omega arith)) _ _ ∙ emit h ms 54 refl _ _ _
  walk_tree (leaf break) b i j n p = λ f st out. alone c_break 48 i j f st out n p.0 refl (break_rows i st)
  walk_tree (leaf timeout) b i j n p = λ f st out. alone c_timeout 64 i j f st out n p.0 refl (timeout_rows i st)
  walk_tree (leaf else) b i j n p = λ f st out. alone c_else 50 i j f st out n p.0 refl (else_rows i st)
  walk_tree (leaf (run w es)) b i j n p = λ f st out.
      let A = each code_argument es in
      let k = suc (suc i) + length A in
      let t : length (A ++ i_end ∷ []) ≡ length A + 1 = length-append A (i_end ∷ []) in
      let a = here-front h ms A (i_end ∷ []) true (suc (suc i)) p.3.3 in
      let x = here_back h ms A (i_end ∷ []) true (suc (suc i)) k refl p.3.3 in
      let g : get_or ms k 0 ≡ c_end_closed = x.0 ∙ rw (flag_arguments h ms es true (suc (suc i)) a true) refl in
      begin f j k c_end_closed st (22 ∷ 132 ∷ 131 ∷ st) out (omega arith) g (closed-rows k st) ∙ emit h ms 22 refl _ _ _ ∙ walk-arguments h ms es true (suc (suc i)) k refl a _ _
      ∙ go h ms (suc (suc i)) (suc i) (args (some es)) c_run _ _ _ refl (symbol_of_args (some es)) p.3.0 (run_row (suc i) _ (some es)) ∙ emit h ms 21 refl _ _ _
      ∙ name-here h ms (suc i) i w refl p.0 (p.1 (omega arith)) _ _ ∙ emit h ms 62 refl _ _ _ ∙ simp append_assoc
  walk_tree (leaf (set_run r w es)) b i j n p = λ f st out.
      let R = code_exp r in
      let A = each code_argument es in
      let m = i + length R in
      let k = suc (suc (suc m)) + length A in
      let t : length (R ++ i_target ∷ i_name w ∷ i_set_run ∷ A ++ i_end ∷ []) ≡ length (R ++ i_target ∷ i_name w ∷ i_set_run ∷ A) + 1 = length-append (R ++ i_target ∷ i_name w ∷ i_set_run ∷ A) (i_end ∷ []) in
      let t2 : length (R ++ i_target ∷ i_name w ∷ i_set_run ∷ A) ≡ length R + suc (suc (suc (length A))) = length-append R (i_target ∷ i_name w ∷ i_set_run ∷ A) in
      let ra = here-front h ms (R ++ i_target ∷ i_name w ∷ i_set_run ∷ A) (i_end ∷ []) b i p in
      let x = here_back h ms (R ++ i_target ∷ i_name w ∷ i_set_run ∷ A) (i_end ∷ []) b i k (omega arith) p in
      let sa = here_back h ms R (i_target ∷ i_name w ∷ i_set_run ∷ A) b i m refl ra in
      let a = sa.3.3.3 in
      let u : flagged b (R ++ i_target ∷ i_name w ∷ i_set_run ∷ A) ≡ true = flagged-append R (i_target ∷ i_name w ∷ i_set_run ∷ A) b ∙ flag_arguments h ms es true (suc (suc (suc m))) a true in
      let g : get_or ms k 0 ≡ c_end_closed = x.0 ∙ rw u refl in
      begin f j k c_end_closed st (22 ∷ 132 ∷ 131 ∷ st) out (omega arith) g (closed-rows k st) ∙ emit h ms 22 refl _ _ _ ∙ walk-arguments h ms es true (suc (suc (suc m))) k refl a _ _
      ∙ go h ms (suc (suc (suc m))) (suc (suc m)) (args (some es)) c_set_run _ _ _ refl (symbol_of_args (some es)) sa.3.3.0 (set_run_row (suc (suc m)) _ (some es)) ∙ emit h ms 21 refl _ _ _
      ∙ name-here h ms (suc (suc m)) (suc m) w refl sa.3.0 (sa.3.1 (omega arith)) _ _ ∙ emit h ms 62 refl _ _ _ ∙ emit h ms 32 refl _ _ _
      ∙ go h ms (suc m) m 121 c_target _ _ _ refl refl sa.0 (target_row m _)
      ∙ walk_exp h ms r b i m 12 refl (here-front h ms R (i_target ∷ i_name w ∷ i_set_run ∷ A) b i ra) (omega arith) (omega arith) _ _ ∙ simp append_assoc
  walk_tree (select os) b i j n p = λ f st out.
      let k = suc i + length (code_tree os) in
      let t : length (code_tree os ++ i_fi ∷ []) ≡ length (code_tree os) + 1 = length-append (code_tree os) (i_fi ∷ []) in
      begin f j k c_fi st (53 ∷ 138 ∷ 131 ∷ st) out (omega arith) (here_back h ms (code_tree os) (i_fi ∷ []) b (suc i) k refl p.3).0 (fi_rows k st) ∙ emit h ms 53 refl _ _ _
      ∙ walk_tree os b (suc i) k refl (here-front h ms (code_tree os) (i_fi ∷ []) b (suc i) p.3) _ _
      ∙ go h ms (suc i) i 138 c_if _ _ _ refl refl p.0 (if_row i _) ∙ emit h ms 55 refl _ _ _ ∙ simp append_assoc
  walk_tree (loop os) b i j n p = λ f st out.
      let k = suc i + length (code_tree os) in
      let t : length (code_tree os ++ i_od ∷ []) ≡ length (code_tree os) + 1 = length-append (code_tree os) (i_od ∷ []) in
      begin f j k c_od st (58 ∷ 138 ∷ 131 ∷ st) out (omega arith) (here_back h ms (code_tree os) (i_od ∷ []) b (suc i) k refl p.3).0 (od_rows k st) ∙ emit h ms 58 refl _ _ _
      ∙ walk_tree os b (suc i) k refl (here-front h ms (code_tree os) (i_od ∷ []) b (suc i) p.3) _ _
      ∙ go h ms (suc i) i 138 c_do _ _ _ refl refl p.0 (do_row i _) ∙ emit h ms 49 refl _ _ _ ∙ simp append_assoc
  walk_tree (bare a) b i j n p = λ f st out. walk_tree a b i j n p f st out
  walk_tree (labelled w a) b i j n p = λ f st out.
      walk_tree a b (suc (suc i)) j (omega arith) p.3.3 f st out ∙ go h ms (suc (suc i)) (suc i) 131 c_label st (29 ∷ 120 ∷ 131 ∷ st) _ refl refl p.3.0 (label-row (suc i) st) ∙ emit h ms 29 refl _ _ _
      ∙ name-here h ms (suc i) i w refl p.0 (p.1 (omega arith)) _ _
  walk_tree end b i j n p = λ st out. let q : j ≡ i = omega arith in rw q refl
  walk_tree (then s q) b i j n p = λ st out.
      let S = code_tree s in
      let m = i + length S in
      let t : length (S ++ code_tree q) ≡ length S + length (code_tree q) = length-append S (code_tree q) in
      walk_tree q (flagged b S) m j (omega arith) (here_back h ms S (code_tree q) b i m refl p) st out
      ∙ walk_tree s b i m refl (here-front h ms S (code_tree q) b i p) (any q) st (print_tree q ++ out)
      ∙ ap (W h ms i (131 ∷ st)) (ap (print_tree s ++◌) (inv (append_assoc (sep (any q) 'semi) (print_tree q) out) ∙ ap (◌++ out) (before-sep q (print_tree q))) ∙ inv (append_assoc (print_tree s) (before q (print_tree q)) out))
  walk_tree over b i j n p = λ st out. let q : j ≡ i = omega arith in rw q refl
  walk_tree (option q os) b i j n p = λ st out.
      let Q = code_tree q in
      let O = code_tree os in
      let k = suc i + length Q in
      let t : length (Q ++ i_end_option ∷ O) ≡ length Q + suc (length O) = length-append Q (i_end_option ∷ O) in
      let x = here_back h ms Q (i_end_option ∷ O) b (suc i) k refl p.3 in
      walk_tree os (flagged b Q) (suc k) j (omega arith) x.3 st out
      ∙ go h ms (suc k) k 138 c_end_option st (130 ∷ 138 ∷ st) _ refl refl x.0 (end_option_row k st)
      ∙ walk_tree q b (suc i) k refl (here-front h ms Q (i_end_option ∷ O) b (suc i) p.3) _ _
      ∙ go h ms (suc i) i (body_of_lem (any q)) c_option _ _ _ refl (symbol_of_body (any q)) p.0 (option_row i _ (any q)) ∙ emit h ms 30 refl _ _ _ ∙ simp append_assoc
