-- STATEMENTS WITHOUT OTHERS INSIDE have the faults of the specification: all but `goto`, `break` and `else`, which are judged by what stands around them.
use Prim.Native.Nat.{ℕ, suc, ◌+◌, ◌-◌, ◌/◌, ◌%◌, ◌<◌}
use native.Mathlib.Omega.{arith}
use native.Mathlib.Nat.{mod-lt}
use mathlib.Core.Path.{◌≡◌, refl, sym, ap, subst, ◌∙◌}
use mathlib.Core.Bool.{Bool, true, false, not}
use mathlib.Core.Logic.{◌⊎◌, inl, inr}
use mathlib.Core.List.{List, [], ◌∷◌, ◌++◌, append_assoc}
use lib.ListN.{length, get_or, length-append, get_or-eq_default}
use lib.Dec.{eqb, ltb, leb}
use borrow.Author.Tests.{lt-ltb, le-ltb, leb-true, leb-false, eqb-true, eqb-false, eq-eqb}
use Rattle.base_codes.specs.Codes.{c_assert, c_assign, c_decrement, c_express, c_increment, c_receive, c_run, c_send, c_set_run, c_target, c_text}
use Rattle.base_ceilings.specs.Ceilings.{fields_most}
use Rattle.base_bytes.specs.Choice.{pick, both}
use Rattle.base_bytes.specs.Lists.{same}
use Rattle.base_bytes.proofs.Tests.{true_false, both_true}
use Rattle.base_kinds.specs.Kinds.{Token}
use Rattle.spec_text.specs.Formats.{format_of}
use Rattle.spec_text.specs.Names.{pid}
use Rattle.rule_search.specs.Sets.{among}
use Rattle.rule_search.specs.Search.{find, count}
use Rattle.rule_item.specs.Rules.{role_of, bad_format, bad_count, bad_passing, bad_run, bad_else, bad_by, global_of, body_of}
use Rattle.spec_grammar.specs.Tree.{Name, Expr, Leaf}
use Rattle.spec_grammar.specs.Grammar.{ALeaf, s_express, s_assign, s_increment, s_decrement, s_send, s_receive, s_assert, s_print_alone, s_print, s_skip, s_goto, s_break, s_timeout, s_else, s_run, s_set_run, AnExpression, AReceived}
use Rattle.base_codes.specs.Items.{code_of, i_assert, i_assign, i_decrement, i_end, i_express, i_increment, i_name, i_receive, i_run, i_send, i_set_run, i_skip, i_target, i_text, i_timeout}
use Rattle.base_codes.specs.Sets.{rule_of}
use Rattle.parse_code.specs.Code.{code_argument}
use Rattle.parse_spots.specs.Spots.{Spot, spots_listed, spots_maybe, spots_message, spots_exp, spots_argument, spots_received, spots_leaf}
use Rattle.spec_rules.specs.Senses.{Sense, variable, constant, procedure, unknown, is_unknown, sense_in}
use Rattle.spec_rules.specs.Roles.{operand, channel, target}
use Rattle.spec_faults.specs.Faults.{Faults, fault_at, unless, in_format, in_printed, in_leaf, is_procedure, passes, runnable, passing}
use Rattle.legal_terms.specs.Setting.{Runs}
use Rattle.legal_statements.specs.Scene.{Scene, homes, starts, heights, faults, SpotsIn}
use Rattle.legal_statements.proofs.Stands.{front, back, next, inside, home, code_of_lem, faults-first, faults-both, fault_by, place_own, place-before, faults-none, free_first, free_one}
use Rattle.legal_statements.proofs.Uses.{pid-told}
use Rattle.legal_statements.proofs.Phrases.{marked-fault, marked-behind, rules_none}
use Rattle.legal_statements.proofs.Arguments.{Told, arguments-fault, receiveds_fault, listed-arguments, maybe_arguments, message-arguments, message_receiveds}
use Rattle.legal_statements.proofs.Walks.{find-pid}
use Rattle.legal_statements.proofs.Around.{silent, Deep, Goes, goto_fault, break_fault, else_fault}

-- ---- rules, roles and sets
rules : (rule_of c_express ≡ 2) × (rule_of c_target ≡ 2) × (rule_of c_assign ≡ 2) × (rule_of c_increment ≡ 2) × (rule_of c_decrement ≡ 2) × (rule_of c_send ≡ 2) × (rule_of c_receive ≡ 2)
    × (rule_of c_assert ≡ 17) × (rule_of c_text ≡ 1) × (rule_of c_run ≡ 10) × (rule_of c_set_run ≡ 10)
unfolding rule_of
rules = (refl, refl, refl, refl, refl, refl, refl, refl, refl, refl, refl)

roles : (role_of c_express ≡ 0) × (role_of c_target ≡ 2) × (role_of c_assign ≡ 0) × (role_of c_increment ≡ 2) × (role_of c_decrement ≡ 2) × (role_of c_send ≡ 1)
    × (role_of c_receive ≡ 1) × (role_of c_assert ≡ 0)
unfolding role_of
roles = (refl, refl, refl, refl, refl, refl, refl, refl)

openers : ((among 4 c_text ≡ true) × (among 4 c_send ≡ true) × (among 4 c_receive ≡ true) × (among 4 c_run ≡ true) × (among 4 c_set_run ≡ true))
    × ((among 5 c_text ≡ false) × (among 5 c_send ≡ false) × (among 5 c_receive ≡ false) × (among 5 c_run ≡ false) × (among 5 c_set_run ≡ false)) × (among 13 0 ≡ false)
unfolding among
openers = ((refl, refl, refl, refl, refl), (refl, refl, refl, refl, refl), refl)

-- the mark in the middle goes with what stands before it
regroup : (a b : List Spot) (x y : Spot) → (a ++ x ∷ b) ++ y ∷ [] ≡ (a ++ x ∷ []) ++ (b ++ y ∷ [])
regroup [] b x y = refl
regroup (c ∷ a) b x y = ap (c ∷◌) (regroup a b x y)

-- ---- tests
few_told : (n : ℕ) → pick {A = ℕ} (ltb fields_most n) 5 0 ≡ pick (leb n fields_most) 0 5
few_told n = go (leb n fields_most) refl
  where
    go : (b : Bool) → leb n fields_most ≡ b → pick {A = ℕ} (ltb fields_most n) 5 0 ≡ pick b 0 5
    go true e = rw (le-ltb fields_most n (leb-true n fields_most e)) refl
    go false e = rw (lt-ltb fields_most n (leb-false n fields_most e)) refl

bad-told : (v : ℕ) → v < 2 → pick {A = ℕ} (eqb v 1) 5 0 ≡ pick (eqb v 0) 0 5
bad-told v h = go (eqb v 1) refl
  where
    go : (b : Bool) → eqb v 1 ≡ b → pick {A = ℕ} b 5 0 ≡ pick (eqb v 0) 0 5
    go true e = sym (ap (λ n. pick {A = ℕ} (eqb n 0) 0 5) (eqb-true v 1 e))
    go false e = sym (ap (λ (t : Bool). pick {A = ℕ} t 0 5) (eq-eqb v 0 (omega (arith, eqb-false v 1 e))))

run-said : (u p : Bool) → pick {A = ℕ} (not u) 4 (pick p 0 4) ≡ pick (both u p) 0 4
run-said true p = refl
run-said false p = refl

module _ (S : Scene) where
  -- ---- how many arguments
  sent-many : (k n : ℕ) → get_or S.cs k 0 ≡ c_send → bad_count S.cs S.vs (homes S) k n ≡ pick (leb n fields_most) 0 5
  unfolding bad_count
  sent-many k n e = rw e (few_told n)

  received-many : (k n : ℕ) → get_or S.cs k 0 ≡ c_receive → bad_count S.cs S.vs (homes S) k n ≡ pick (leb n fields_most) 0 5
  unfolding bad_count
  received-many k n e = rw e (few_told n)

  printed-many : (k n v : ℕ) → get_or S.cs k 0 ≡ c_text → get_or S.vs k 0 ≡ v → bad_count S.cs S.vs (homes S) k n ≡ pick (eqb n (v / 2)) 0 5
  unfolding bad_count
  printed-many k n v e f = rw (e, f) refl

  run-many : (k n : ℕ) → (get_or S.cs k 0 ≡ c_run) ⊎ (get_or S.cs k 0 ≡ c_set_run) → bad_count S.cs S.vs (homes S) k n ≡ bad_passing S.cs S.vs (homes S) k n
  unfolding bad_count
  run-many k n (inl e) = rw e refl
  run-many k n (inr e) = rw e refl

  -- ---- the proctype of a run
  proctype-told : (g : ℕ) (s : Sense) → Runs S.cs (homes S) g s → among 13 (get_or S.cs g 0) ≡ is_procedure s
  proctype-told g (variable c a) r = r
  proctype-told g constant r = r
  proctype-told g (procedure k) r = r.0
  proctype-told g unknown r = r

  passes-told : (g n : ℕ) (s : Sense) → Runs S.cs (homes S) g s → is_procedure s ≡ true → eqb n (count S.cs (homes S) 6 (body_of S.cs g) 0 (length S.cs)) ≡ passes s n
  passes-told g n (variable c a) r e = absurd (true_false (sym e))
  passes-told g n constant r e = absurd (true_false (sym e))
  passes-told g n (procedure k) r e = ap (eqb n) r.1
  passes-told g n unknown r e = absurd (true_false (sym e))

  -- a run behind its name, with n arguments
  module _ (w : Name) (t : ℕ) (x : Spot) (l : List Spot) (i : ℕ) (s : SpotsIn S i ((i_name w, t) ∷ x ∷ l)) where
    abbrev global : ℕ
    global = global_of S.cs S.vs (homes S) i

    abbrev hidden : Bool
    hidden = ltb (find S.cs S.vs (homes S) 1 (get_or S.vs i 0) S.h i) i

    within : i < S.to
    within = inside S (i_name w, t) (x ∷ l) i s

    run_is : bad_run S.cs S.vs (homes S) (suc i) ≡ pick hidden 4 (pick (among 13 (get_or S.cs global 0)) 0 4)
    unfolding bad_run
    run_is = let z : suc i - 1 ≡ i = omega arith in rw (z, home S x l (suc i) (next S (i_name w, t) (x ∷ l) i s)) refl

    -- `_pid` is no proctype
    pid-global : same w pid ≡ true → (hidden ≡ false) × (among 13 (get_or S.cs global 0) ≡ false)
    unfolding global_of
    pid-global e =
        let z = pid-told S i w s.items.0.0 s.low within ∙ e in (
          rw (find-pid S.cs S.vs (homes S) 1 (get_or S.vs i 0) S.h i z) (le-ltb i i (omega arith)),
          rw (find-pid S.cs S.vs (homes S) 1 (get_or S.vs i 0) 0 (length S.cs) z, get_or-eq_default S.cs 0 {n = length S.cs} (omega arith)) openers.2,
        )

    run-told : bad_run S.cs S.vs (homes S) (suc i) ≡ pick (runnable S.at w) 0 4
    unfolding runnable
    run-told = run_is ∙ go (same w pid) refl
      where
        go : (b : Bool) → same w pid ≡ b → pick {A = ℕ} hidden 4 (pick (among 13 (get_or S.cs global 0)) 0 4)
            ≡ pick (both (not b) (both (is_unknown (sense_in S.at.locals w)) (is_procedure (sense_in S.at.model w)))) 0 4
        go true e = let z = pid-global e in rw (z.0, z.1) refl
        go false e =
            rw (S.setting.hidden i w s.low within s.items.0.0 e, proctype-told global (sense_in S.at.model w) (S.setting.runs i w s.low within s.items.0.0 e))
            (run-said (is_unknown (sense_in S.at.locals w)) (is_procedure (sense_in S.at.model w)))

    told-count : (n : ℕ) → runnable S.at w ≡ true → eqb n (count S.cs (homes S) 6 (body_of S.cs global) 0 (length S.cs)) ≡ passes (sense_in S.at.model w) n
    unfolding runnable
    told-count n e =
        let a = both_true (not (same w pid)) (both (is_unknown (sense_in S.at.locals w)) (is_procedure (sense_in S.at.model w))) e in
        let b = both_true (is_unknown (sense_in S.at.locals w)) (is_procedure (sense_in S.at.model w)) a.1 in
        passes-told global n (sense_in S.at.model w) (S.setting.runs i w s.low within s.items.0.0 (no_more (same w pid) a.0)) b.1
      where
        no_more : (b : Bool) → not b ≡ true → b ≡ false
        no_more true e = absurd (true_false (sym e))
        no_more false e = refl

    passing-told : (n : ℕ) → bad_passing S.cs S.vs (homes S) (suc i) n ≡ passing S.at w n
    unfolding bad_passing passing
    passing-told n = let z : suc i - 1 ≡ i = omega arith in rw (run-told, z) (go (runnable S.at w) refl)
      where
        go : (b : Bool) → runnable S.at w ≡ b → pick {A = ℕ} (eqb (pick b 0 4) 0) (pick (eqb n (count S.cs (homes S) 6 (body_of S.cs global) 0 (length S.cs))) 0 5) 0
            ≡ pick b (pick (passes (sense_in S.at.model w) n) 0 5) 0
        go true e = ap (λ (b : Bool). pick {A = ℕ} b 0 5) (told-count n e)
        go false e = refl

  run_rule : (j : ℕ) → bad_by S.cs S.vs (homes S) (starts S) (heights S) 10 j ≡ bad_run S.cs S.vs (homes S) j
  unfolding bad_by
  run_rule j = refl

  -- name, run or set-run, arguments, end
  run-fault : (w : Name) (t : ℕ) (x : Spot) (M : List Spot) (es : List Expr) (u i p : ℕ) {g : Faults} → (code_of x.0 ≡ c_run) ⊎ (code_of x.0 ≡ c_set_run) → rule_of (code_of x.0) ≡ 10
      → among 4 (code_of x.0) ≡ true → among 5 (code_of x.0) ≡ false → Told S code_argument M es g → pick (eqb (code_of x.0) c_set_run) (get_or S.toks (suc i - 2) 0) u ≡ p
      → SpotsIn S i ((i_name w, t) ∷ x ∷ (M ++ (i_end, u) ∷ [])) → faults S i ((i_name w, t) ∷ x ∷ (M ++ (i_end, u) ∷ []))
      ≡ unless (runnable S.at w) 4 t ++ (g ++ fault_at (passing S.at w (length es)) p)
  run-fault w t x M es u i p c r o m told q s =
      let L = M ++ (i_end, u) ∷ [] in
      let a : Spot = (i_name w, t) in
      let k = next S a (x ∷ L) i s in
      let it = code_of_lem S x L (suc i) k in
      free_first S a (x ∷ L) i s rules_none.0
      ∙ faults-first S x L (suc i)
      (fault_by S (suc i) (code_of x.0) 10 (pick (runnable S.at w) 0 4) t it r (run_rule (suc i) ∙ run-told w t x L i s) (place-before S 10 i t refl refl s.items.0.1))
      (arguments-fault S x M es u (suc i) (passing S.at w (length es)) p k told o m (run-many (suc i) (length es) (begun it c) ∙ passing-told w t x L i s (length es)) q)
    where
      begun : get_or S.cs (suc i) 0 ≡ code_of x.0 → (code_of x.0 ≡ c_run) ⊎ (code_of x.0 ≡ c_set_run) → (get_or S.cs (suc i) 0 ≡ c_run) ⊎ (get_or S.cs (suc i) 0 ≡ c_set_run)
      begun e (inl f) = inl (e ∙ f)
      begun e (inr f) = inr (e ∙ f)

  -- a string, arguments, end
  format_rule : (j v : ℕ) → get_or S.vs j 0 ≡ v → bad_by S.cs S.vs (homes S) (starts S) (heights S) 1 j ≡ pick (eqb (v % 2) 0) 0 5
  unfolding bad_by bad_format
  format_rule j v e = rw e (bad-told (v % 2) (mod-lt v (let q : 0 < 2 = omega arith in q)))

  print_fault : (w : List ℕ) (M : List Spot) (es : List Expr) (i n : ℕ) {g : Faults} → SpotsIn S i ((i_text w, n + 2) ∷ (M ++ (i_end, n) ∷ [])) → Told S code_argument M es g
      → faults S i ((i_text w, n + 2) ∷ (M ++ (i_end, n) ∷ [])) ≡ in_format S.at w (n + 2) ++ (g ++ in_printed S.at w (length es) n)
  print_fault w M es i n s told =
      let L = M ++ (i_end, n) ∷ [] in
      let x : Spot = (i_text w, n + 2) in
      let it = code_of_lem S x L i s in
      let v : get_or S.vs i 0 ≡ format_of w = S.says.strings i w (let a = s.high in let b = S.within in omega arith) s.items.0.0 in
      faults-first S x L i (fault_by S i c_text 1 (pick (eqb (format_of w % 2) 0) 0 5) (n + 2) it rules.8 (format_rule i (format_of w) v) (place_own S 1 i (n + 2) refl s.items.0.1))
      (arguments-fault S x M es n i (pick (eqb (length es) (format_of w / 2)) 0 5) n s told openers.0.0 openers.1.0 (printed-many i (length es) (format_of w) it v) refl)

  -- a reference with its mark, and then more
  two_parts : (l : List Spot) (x : Spot) (m : List Spot) (y : Spot) (i : ℕ) {f g : Faults} → SpotsIn S i ((l ++ x ∷ m) ++ y ∷ []) → (SpotsIn S i (l ++ x ∷ []) → faults S i (l ++ x ∷ []) ≡ f)
      → (SpotsIn S (i + length l) (x ∷ (m ++ y ∷ [])) → faults S (suc (i + length l)) (m ++ y ∷ []) ≡ g) → faults S i ((l ++ x ∷ m) ++ y ∷ []) ≡ f ++ g
  two_parts l x m y i s a b =
      ap (faults S i) (regroup l m x y)
      ∙ faults-both S (l ++ x ∷ []) (m ++ y ∷ []) i (suc (i + length l)) (omega (arith, length-append l (x ∷ [])))
      (a (front S (l ++ x ∷ []) (m ++ y ∷ []) i (subst (λ (z : List Spot). SpotsIn S i z) (regroup l m x y) s)))
      (b (back S l (x ∷ (m ++ y ∷ [])) i (i + length l) refl (subst (λ (z : List Spot). SpotsIn S i z) (append_assoc l (x ∷ m) (y ∷ [])) s)))

  pub leaf-fault : {ts : List Token} {l : Leaf} (x : ALeaf ts l) (loops may : Bool) (i n : ℕ) → SpotsIn S i (spots_leaf x n) → Goes S → Deep S i loops → bad_else S.cs i ≡ pick may 0 5
      → faults S i (spots_leaf x n) ≡ in_leaf S.at loops may x n
  unfolding in_leaf
  leaf-fault (s_express x) loops may i n s goes d h = marked-fault S x operand i_express i n s roles.0 rules.0
  leaf-fault (s_assign {ts = ts} x y) loops may i n s goes d h =
      let X = spots_exp x n in
      let k = n + length ts + 1 in
      let Y = spots_exp y k in
      two_parts X (i_target, n) Y (i_assign, k) i s (λ t. marked-fault S x target i_target i n t roles.1 rules.1)
      (λ t. marked-fault S y operand i_assign (suc (i + length X)) k (next S (i_target, n) (Y ++ (i_assign, k) ∷ []) (i + length X) t) roles.2 rules.2)
  leaf-fault (s_increment x) loops may i n s goes d h = marked-fault S x target i_increment i n s roles.3 rules.3
  leaf-fault (s_decrement x) loops may i n s goes d h = marked-fault S x target i_decrement i n s roles.4 rules.4
  leaf-fault (s_send {o = o} {ts = ts} {es = es} u x y) loops may i n s goes d h =
      let X = spots_exp x n in
      let k = i + length X in
      let M = spots_message AnExpression spots_argument y (n + length ts + 1) in
      let c : Spot = (i_send o, n) in
      two_parts X c M (i_end, n) i s (λ t. marked-fault S x channel (i_send o) i n t roles.5 rules.5)
      (λ t. arguments-fault S c M es n k (pick (leb (length es) fields_most) 0 5) n t (message-arguments S y (n + length ts + 1)) openers.0.1 openers.1.1
      (sent-many k (length es) (code_of_lem S c (M ++ (i_end, n) ∷ []) k t)) refl)
      ∙ simp append_assoc
  leaf-fault (s_receive {o = o} {ts = ts} {xs = es} u x y) loops may i n s goes d h =
      let X = spots_exp x n in
      let k = i + length X in
      let M = spots_message AReceived spots_received y (n + length ts + 1) in
      let c : Spot = (i_receive o, n) in
      two_parts X c M (i_end, n) i s (λ t. marked-fault S x channel (i_receive o) i n t roles.6 rules.6)
      (λ t. receiveds_fault S c M es n k (pick (leb (length es) fields_most) 0 5) n t (message_receiveds S y (n + length ts + 1)) openers.0.2 openers.1.2
      (received-many k (length es) (code_of_lem S c (M ++ (i_end, n) ∷ []) k t)) refl)
      ∙ simp append_assoc
  leaf-fault (s_assert x) loops may i n s goes d h = marked-behind S x i_assert i n s roles.7 rules.7
  leaf-fault (s_print_alone {w = w}) loops may i n s goes d h = print_fault w [] [] i n s (refl, λ i s. faults-none S i)
  leaf-fault (s_print {w = w} {es = es} x) loops may i n s goes d h =
      print_fault w (spots_listed AnExpression spots_argument x (n + 4)) es i n s (listed-arguments S x (n + 4)) ∙ simp append_assoc
  leaf-fault s_skip loops may i n s goes d h = free_one S (i_skip, n) i s silent.0
  leaf-fault (s_goto {w = w}) loops may i n s goes d h = goto_fault S w i n s goes
  leaf-fault s_break loops may i n s goes d h = break_fault S i n loops s d
  leaf-fault s_timeout loops may i n s goes d h = free_one S (i_timeout, n) i s silent.1
  leaf-fault s_else loops may i n s goes d h = else_fault S i n may s h
  leaf-fault (s_run {w = w} {es = es} x) loops may i n s goes d h =
      run-fault w (n + 1) (i_run, n) (spots_maybe AnExpression spots_argument x (n + 3)) es n i n (inl refl) rules.9 openers.0.3 openers.1.3 (maybe_arguments S x (n + 3)) refl s
      ∙ simp append_assoc
  leaf-fault (s_set_run {ts = ts} {w = w} {es = es} x y) loops may i n s goes d h =
      let X = spots_exp x n in
      let k = i + length X in
      let z : suc (suc k) - 2 ≡ k = omega arith in
      let b : Spot = (i_name w, n + length ts + 2) in
      let c : Spot = (i_set_run, n + length ts + 1) in
      let e : Spot = (i_end, n + length ts + 1) in
      let M = spots_maybe AnExpression spots_argument y (n + length ts + 4) in
      two_parts X (i_target, n) (b ∷ c ∷ M) e i s (λ t. marked-fault S x target i_target i n t roles.1 rules.1)
      (λ t. run-fault w (n + length ts + 2) c M es (n + length ts + 1) (suc k) n (inr refl) rules.10 openers.0.4 openers.1.4 (maybe_arguments S y (n + length ts + 4))
      (ap (λ j. get_or S.toks j 0) z ∙ t.items.0.1) (next S (i_target, n) ((b ∷ c ∷ M) ++ e ∷ []) k t))
      ∙ simp append_assoc
