-- STATEMENTS have no fault exactly where they are lawful and their labels new.
use Prim.Native.Nat.{ℕ, zero, suc, ◌+◌, ◌/◌, ◌%◌, ◌≤◌}
use native.Mathlib.Omega.{arith}
use mathlib.Core.Path.{◌≡◌, refl, sym, ap, ap₂, ◌∙◌}
use mathlib.Core.Bool.{Bool, true, false, not}
use mathlib.Core.List.{List, [], ◌∷◌, ◌++◌, append_assoc, append-nil}
use borrow.Author.Tests.{lt-leb}
use lib.ListN.{length}
use lib.Dec.{eqb, leb}
use Rattle.base_ceilings.specs.Ceilings.{fields_most}
use Rattle.base_bytes.specs.Choice.{pick, both, either}
use Rattle.base_bytes.specs.Lists.{same}
use Rattle.spec_text.specs.Names.{pid}
use Rattle.spec_text.specs.Formats.{format_of}
use Rattle.base_kinds.specs.Kinds.{Token}
use Rattle.spec_grammar.specs.Tree.{Name, Expr, Received, Leaf, Sort, action, statement, sequence, options, Tree, leaf, express, assign, increment, decrement, send, receive, assert, print, skip, goto, break, timeout, else, run, set_run, select, loop, bare, labelled, end, then, over, option}
use Rattle.spec_grammar.specs.Grammar.{Message, MaybeListed, Listed, AnExpression, AReceived, r_into, r_eval, r_number, r_true, r_false, ALeaf, D, s_leaf, s_express, s_assign, s_increment, s_decrement, s_send, s_receive, s_assert, s_print_alone, s_print, s_skip, s_goto, s_break, s_timeout, s_else, s_run, s_set_run, s_if, s_do, s_bare, s_label, q_last, q_then, o_last, o_also}
use Rattle.spec_rules.specs.Senses.{Sense, variable, constant, procedure, unknown, Scope, is_unknown, sense_in}
use Rattle.spec_rules.specs.Roles.{operand, channel, target, received}
use Rattle.legal_rules.specs.Expressions as rule
use Rattle.spec_rules.specs.Statements.{Place, all, has, is_else_lem, labels_of, sense}
use Rattle.legal_rules.specs.Statements.{takes, receives, runs, formats, leaf_allowed, allowed}
use Rattle.spec_faults.specs.Faults.{Faults, fault_at, unless, in_list, in_maybe, in_message, nothing, in_whole, in_argument, in_received, passes, is_procedure, runnable, passing, in_format, in_printed, in_leaf, in_tree}
use Rattle.legal_rules.proofs.None.{none, none_at, none-unless, both_end, both_assoc, both_turn, two, three, list_ok, maybe_ok, message_ok, each_all}
use Rattle.legal_rules.proofs.Labels.{fresh, fresh-none, fresh-one, fresh-append}
use Rattle.legal_rules.proofs.Phrases.{whole_ok, ref_ok, argument_ok}

-- ---- `else`: whether a statement may be one matters only where it is one
-- what is wanted of a phrase where an `else` may stand first, or may not; of options, where none before had one, or one had
abbrev pub room : Bool → ℕ
room may = pick may 1 0

-- one `else` at most, over what stands first and the rest: n of it there, k in the rest
swap : (a c b : Bool) → both a (both c b) ≡ both c (both a b)
swap true c b = refl
swap false true b = refl
swap false false b = refl

none_left : (k : ℕ) → leb k 0 ≡ leb (1 + k) 1
none_left zero = refl
none_left (suc k) = lt-leb (suc k) 0 (omega arith) ∙ sym (lt-leb (1 + suc k) 1 (omega arith))

pub option_next : (n k : ℕ) → n ≤ 1 → (may a b : Bool) → both (both (leb n (room may)) a) (both (leb k (room (both may (eqb n 0)))) b) ≡ both (leb (n + k) (room may)) (both a b)
option_next zero k h true a b = let e : 0 + k ≡ k = omega arith in rw e (swap a (leb k 1) b)
option_next zero k h false a b = let e : 0 + k ≡ k = omega arith in rw e (swap a (leb k 0) b)
option_next (suc zero) k h true a b = swap a (leb k 0) b ∙ ap (λ (c : Bool). both c (both a b)) (none_left k)
option_next (suc zero) k h false a b = ap (λ (c : Bool). both c (both a b)) (sym (lt-leb (1 + k) 0 (omega arith)))
option_next (suc (suc n)) k h may a b = absurd (omega arith)

module _ (at : Place) where
  abbrev pub wanted : (k : Sort) → Bool → Bool → Tree k → Bool
  wanted action loops may t = allowed at loops may t
  wanted statement loops may t = allowed at loops may t
  wanted sequence loops may t = allowed at loops may t
  wanted options loops may t = both (leb (is_else_lem t) (room may)) (allowed at loops false t)

  -- one at most, and where it may stand
  abbrev Only : (k : Sort) → Tree k → Type 0
  Only action t = (is_else_lem t ≤ 1) × ((loops may : Bool) → allowed at loops may t ≡ both (leb (is_else_lem t) (room may)) (allowed at loops true t))
  Only statement t = (is_else_lem t ≤ 1) × ((loops may : Bool) → allowed at loops may t ≡ both (leb (is_else_lem t) (room may)) (allowed at loops true t))
  Only sequence t = (is_else_lem t ≤ 1) × ((loops may : Bool) → allowed at loops may t ≡ both (leb (is_else_lem t) (room may)) (allowed at loops true t))
  Only options t = Unit {0}

  never : (may : Bool) (a : Bool) → a ≡ both (leb 0 (room may)) a
  never true a = refl
  never false a = refl

  only-leaf : (l : Leaf) → Only action (leaf l)
  unfolding allowed
  only-leaf (express e) = (omega arith, λ l m. never m _)
  only-leaf (assign r e) = (omega arith, λ l m. never m _)
  only-leaf (increment r) = (omega arith, λ l m. never m _)
  only-leaf (decrement r) = (omega arith, λ l m. never m _)
  only-leaf (send o r es) = (omega arith, λ l m. never m _)
  only-leaf (receive o r xs) = (omega arith, λ l m. never m _)
  only-leaf (assert e) = (omega arith, λ l m. never m _)
  only-leaf (print w es) = (omega arith, λ l m. never m _)
  only-leaf skip = (omega arith, λ l m. never m _)
  only-leaf (goto w) = (omega arith, λ l m. never m _)
  only-leaf break = (omega arith, λ l m. never m _)
  only-leaf timeout = (omega arith, λ l m. never m _)
  only-leaf else = (omega arith, λ l m. may_be m)
    where
      may_be : (m : Bool) → m ≡ both (leb 1 (room m)) true
      may_be true = refl
      may_be false = refl
  only-leaf (run w es) = (omega arith, λ l m. never m _)
  only-leaf (set_run r w es) = (omega arith, λ l m. never m _)

  only : (k : Sort) (t : Tree k) → Only k t
  unfolding allowed
  only _ (leaf l) = only-leaf l
  only _ (select os) = (omega arith, λ l m. never m _)
  only _ (loop os) = (omega arith, λ l m. never m _)
  only _ (bare a) = only action a
  only _ (labelled w a) = (omega arith, λ l m. never m _)
  only _ end = (omega arith, λ l m. never m _)
  only _ (then s q) = ((only statement s).0, λ l m. ap (λ (x : Bool). both x (allowed at l false q)) ((only statement s).1 l m) ∙ both_assoc (leb (is_else_lem s) (room m)) (allowed at l true s) (allowed at l false q))
  only _ over = tt
  only _ (option q os) = tt

  -- ---- the parts of statements
  received_ok : (scope : Scope) (ts : List Token) (r : Received) (x : AReceived ts r) (i : ℕ) → none (in_received (sense at) scope ts r x i) ≡ receives at r
  received_ok scope _ _ (r_into x) i = ref_ok (sense at) received x i
  received_ok scope _ _ (r_eval x) i = whole_ok (sense at) x (i + 2)
  received_ok scope _ _ r_number i = refl
  received_ok scope _ _ r_true i = refl
  received_ok scope _ _ r_false i = refl

  arguments_ok : {s : Token} {ts : List Token} {es : List Expr} (y : Listed s AnExpression ts es) (i : ℕ) → none (in_list AnExpression (in_argument (sense at)) nothing [] y i) ≡ all (rule.whole (sense at)) es
  arguments_ok {es = es} y i =
      list_ok AnExpression (in_argument (sense at)) nothing (λ _. rule.whole (sense at)) (argument_ok (sense at)) [] y i
      ∙ each_all AnExpression (in_argument (sense at)) (rule.whole (sense at)) (argument_ok (sense at)) [] es

  maybe_arguments_ok : {s : Token} {ts : List Token} {es : List Expr} (y : MaybeListed s AnExpression ts es) (i : ℕ) → none (in_maybe AnExpression (in_argument (sense at)) nothing [] y i) ≡ all (rule.whole (sense at)) es
  maybe_arguments_ok {es = es} y i =
      maybe_ok AnExpression (in_argument (sense at)) nothing (λ _. rule.whole (sense at)) (argument_ok (sense at)) [] y i
      ∙ each_all AnExpression (in_argument (sense at)) (rule.whole (sense at)) (argument_ok (sense at)) [] es

  sent_ok : {ts : List Token} {es : List Expr} (y : Message AnExpression ts es) (i : ℕ) → none (in_message AnExpression (in_argument (sense at)) nothing [] y i) ≡ all (rule.whole (sense at)) es
  sent_ok {es = es} y i =
      message_ok AnExpression (in_argument (sense at)) nothing (λ _. rule.whole (sense at)) (argument_ok (sense at)) [] y i
      ∙ each_all AnExpression (in_argument (sense at)) (rule.whole (sense at)) (argument_ok (sense at)) [] es

  got_ok : {ts : List Token} {xs : List Received} (y : Message AReceived ts xs) (i : ℕ) → none (in_message AReceived (in_received (sense at)) nothing [] y i) ≡ all (receives at) xs
  got_ok {xs = xs} y i =
      message_ok AReceived (in_received (sense at)) nothing (λ _. receives at) received_ok [] y i
      ∙ each_all AReceived (in_received (sense at)) (receives at) received_ok [] xs

  -- the name of a run, and how many arguments it has
  run_ok : (w : Name) (n : ℕ) → both (runnable at w) (eqb (passing at w n) 0) ≡ runs at w n
  unfolding runs runnable passing
  run_ok w n = go (not (same w pid)) (is_unknown (sense_in at.locals w)) (sense_in at.model w)
    where
      count : (b : Bool) → eqb (pick {A = ℕ} b 0 5) 0 ≡ b
      count true = refl
      count false = refl

      go : (p u : Bool) (s : Sense) → both (both p (both u (is_procedure s))) (eqb (pick (both p (both u (is_procedure s))) (pick {A = ℕ} (passes s n) 0 5) 0) 0) ≡ both p (both u (takes s n))
      go false u s = refl
      go true false s = refl
      go true true (variable c a) = refl
      go true true constant = refl
      go true true (procedure k) = count (eqb n k)
      go true true unknown = refl

  -- the count comes behind what is judged between
  last_counts : (a b c d : Bool) → both a c ≡ d → both a (both b c) ≡ both d b
  last_counts true b c d e = both_turn b c ∙ ap (λ (x : Bool). both x b) e
  last_counts false b c d e = ap (λ (x : Bool). both x b) e

  running_ok : (w : Name) (es : List Expr) (middle : Faults) (j first : ℕ) → none middle ≡ all (rule.whole (sense at)) es
      → none (unless (runnable at w) 4 j ++ middle ++ fault_at (passing at w (length es)) first) ≡ both (runs at w (length es)) (all (rule.whole (sense at)) es)
  running_ok w es middle j first e =
      three (unless (runnable at w) 4 j) middle (fault_at (passing at w (length es)) first) (runnable at w) (all (rule.whole (sense at)) es) (eqb (passing at w (length es)) 0)
      (none-unless (runnable at w) 3 j) e (none_at (passing at w (length es)) first)
      ∙ last_counts (runnable at w) (all (rule.whole (sense at)) es) (eqb (passing at w (length es)) 0) (runs at w (length es)) (run_ok w (length es))

  -- ---- leaves
  leaf_ok : {ts : List Token} {l : Leaf} (loops may : Bool) (x : ALeaf ts l) (i : ℕ) → none (in_leaf at loops may x i) ≡ leaf_allowed at loops may l
  unfolding in_leaf formats
  leaf_ok loops may (s_express x) i = whole_ok (sense at) x i
  leaf_ok loops may (s_assign {ts = ts} {r = r} {e = e} x y) i =
      two (in_whole (sense at) target x i) (in_whole (sense at) operand y (i + length ts + 1)) (rule.lawful (sense at) target r) (rule.whole (sense at) e) (ref_ok (sense at) target x i)
      (whole_ok (sense at) y (i + length ts + 1))
  leaf_ok loops may (s_increment x) i = ref_ok (sense at) target x i
  leaf_ok loops may (s_decrement x) i = ref_ok (sense at) target x i
  leaf_ok loops may (s_send {ts = ts} {r = r} {es = es} o x y) i =
      let n = leb (length es) fields_most in
      let a = all (rule.whole (sense at)) es in
      three (in_whole (sense at) channel x i) (in_message AnExpression (in_argument (sense at)) nothing [] y (i + length ts + 1)) (unless n 5 i) (rule.lawful (sense at) channel r) a n
      (ref_ok (sense at) channel x i) (sent_ok y (i + length ts + 1)) (none-unless n 4 i)
      ∙ ap (both (rule.lawful (sense at) channel r)) (both_turn a n)
  leaf_ok loops may (s_receive {ts = ts} {r = r} {xs = xs} o x y) i =
      let n = leb (length xs) fields_most in
      let a = all (receives at) xs in
      three (in_whole (sense at) channel x i) (in_message AReceived (in_received (sense at)) nothing [] y (i + length ts + 1)) (unless n 5 i) (rule.lawful (sense at) channel r) a n
      (ref_ok (sense at) channel x i) (got_ok y (i + length ts + 1)) (none-unless n 4 i)
      ∙ ap (both (rule.lawful (sense at) channel r)) (both_turn a n)
  leaf_ok loops may (s_assert x) i = whole_ok (sense at) x (i + 2)
  leaf_ok loops may (s_print_alone {w = w}) i =
      let f = eqb (format_of w % 2) 0 in
      let c = eqb 0 (format_of w / 2) in
      two (in_format at w (i + 2)) (in_printed at w 0 i) f c (none-unless f 4 (i + 2)) (none-unless c 4 i) ∙ sym (both_end (both f c))
  leaf_ok loops may (s_print {w = w} {es = es} x) i =
      let f = eqb (format_of w % 2) 0 in
      let c = eqb (length es) (format_of w / 2) in
      let a = all (rule.whole (sense at)) es in
      three (in_format at w (i + 2)) (in_list AnExpression (in_argument (sense at)) nothing [] x (i + 4)) (in_printed at w (length es) i) f a c (none-unless f 4 (i + 2)) (arguments_ok x (i + 4))
      (none-unless c 4 i)
      ∙ last_counts f a c (both f c) refl
  leaf_ok loops may s_skip i = refl
  leaf_ok loops may (s_goto {w = w}) i = none-unless (both (not (same w pid)) (has at.labels w)) 3 (i + 1)
  leaf_ok loops may s_break i = none-unless loops 4 i
  leaf_ok loops may s_timeout i = refl
  leaf_ok loops may s_else i = none-unless may 4 i
  leaf_ok loops may (s_run {w = w} {es = es} x) i = running_ok w es (in_maybe AnExpression (in_argument (sense at)) nothing [] x (i + 3)) (i + 1) i (maybe_arguments_ok x (i + 3))
  leaf_ok loops may (s_set_run {ts = ts} {r = r} {w = w} {es = es} x y) i =
      let A = in_maybe AnExpression (in_argument (sense at)) nothing [] y (i + length ts + 4) in
      let U = unless (runnable at w) 4 (i + length ts + 2) in
      ap none (append_assoc (in_whole (sense at) target x i ++ U) A (fault_at (passing at w (length es)) i) ∙ append_assoc (in_whole (sense at) target x i) U (A ++ fault_at (passing at w (length es)) i)
      ∙ ap (in_whole (sense at) target x i ++◌) (sym (append_assoc U A (fault_at (passing at w (length es)) i))))
      ∙ two (in_whole (sense at) target x i) (U ++ A ++ fault_at (passing at w (length es)) i) (rule.lawful (sense at) target r) (both (runs at w (length es)) (all (rule.whole (sense at)) es))
      (ref_ok (sense at) target x i) (running_ok w es A (i + length ts + 2) i (maybe_arguments_ok y (i + length ts + 4)))

  -- ---- STATEMENTS, behind the labels `before`
  alone : (before : List Name) (a : Bool) → a ≡ both (fresh before []) a
  alone before a = ap (λ (x : Bool). both x a) (sym (fresh-none before))

  parts : (f g a b : Bool) → both (both f a) (both g b) ≡ both (both f g) (both a b)
  parts true true a b = refl
  parts true false a b = both_turn a false
  parts false g a b = refl

  pub tree_ok : {k : Sort} {ts : List Token} {t : Tree k} (before : List Name) (loops may : Bool) (x : D k ts t) (i : ℕ)
      → none (in_tree at before loops may x i) ≡ both (fresh before (labels_of t)) (wanted k loops may t)
  unfolding in_tree allowed
  tree_ok before loops may (s_leaf {l = l} x) i = leaf_ok loops may x i ∙ alone before (leaf_allowed at loops may l)
  tree_ok before loops may (s_if x) i = tree_ok before loops true x (i + 1)
  tree_ok before loops may (s_do x) i = tree_ok before true true x (i + 1)
  tree_ok before loops may (s_bare x) i = tree_ok before loops may x i
  tree_ok before loops may (s_label {w = w} {a = a} x) i =
      let n = not (either (same w pid) (has before w)) in
      two (unless n 4 i) (in_tree at (before ++ w ∷ []) loops false x (i + 2)) n (both (fresh (before ++ w ∷ []) (labels_of a)) (allowed at loops false a)) (none-unless n 3 i)
      (tree_ok (before ++ w ∷ []) loops false x (i + 2))
      ∙ sym (both_assoc n (fresh (before ++ w ∷ []) (labels_of a)) (allowed at loops false a)) ∙ ap (λ (y : Bool). both y (allowed at loops false a)) (sym (fresh-one before w (labels_of a)))
  tree_ok before loops may (q_last {s = s} x y) i =
      tree_ok before loops may x i ∙ ap₂ both (ap (fresh before) (sym (append-nil (labels_of s)))) (sym (both_end (allowed at loops may s)))
  tree_ok before loops may (q_then {ts = ts} {us = us} {s = s} {q = q} x y z) i =
      two (in_tree at before loops may x i) (in_tree at (before ++ labels_of s) loops false z (i + length ts + length us)) (both (fresh before (labels_of s)) (allowed at loops may s))
      (both (fresh (before ++ labels_of s) (labels_of q)) (allowed at loops false q)) (tree_ok before loops may x i) (tree_ok (before ++ labels_of s) loops false z (i + length ts + length us))
      ∙ parts (fresh before (labels_of s)) (fresh (before ++ labels_of s) (labels_of q)) (allowed at loops may s) (allowed at loops false q)
      ∙ ap (λ (f : Bool). both f (both (allowed at loops may s) (allowed at loops false q))) (sym (fresh-append before (labels_of s) (labels_of q)))
  tree_ok before loops may (o_last {q = q} x) i =
      let e : is_else_lem q + 0 ≡ is_else_lem q = omega arith in
      tree_ok before loops may x (i + 1)
      ∙ ap₂ both (ap (fresh before) (sym (append-nil (labels_of q)))) ((only sequence q).1 loops may ∙ rw e (ap (both (leb (is_else_lem q) (room may))) (sym (both_end (allowed at loops true q)))))
  tree_ok before loops may (o_also {ts = ts} {q = q} {os = os} x y) i =
      let later = both may (eqb (is_else_lem q) 0) in
      let f = fresh before (labels_of q) in
      let g = fresh (before ++ labels_of q) (labels_of os) in
      let a = both (leb (is_else_lem q) (room may)) (allowed at loops true q) in
      let b = both (leb (is_else_lem os) (room later)) (allowed at loops false os) in
      two (in_tree at before loops may x (i + 1)) (in_tree at (before ++ labels_of q) loops later y (i + length ts + 1)) (both f a) (both g b)
      (tree_ok before loops may x (i + 1) ∙ ap (both f) ((only sequence q).1 loops may)) (tree_ok (before ++ labels_of q) loops later y (i + length ts + 1))
      ∙ parts f g a b
      ∙ ap₂ both (sym (fresh-append before (labels_of q) (labels_of os))) (option_next (is_else_lem q) (is_else_lem os) (only sequence q).0 may (allowed at loops true q) (allowed at loops false os))
