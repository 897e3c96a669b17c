-- Which printfs have too many arguments: over the items, and in the tree.
use Prim.Native.Nat.{ℕ, zero, suc, ◌+◌, ◌-◌, ◌≤◌, ◌<◌}
use native.Mathlib.Omega.{arith}
use mathlib.Core.Path.{◌≡◌, refl, sym, ap, ap₂, ◌∙◌, subst}
use mathlib.Core.Bool.{Bool, true, false}
use mathlib.Core.Logic.{inl, inr}
use mathlib.Core.List.{List, [], ◌∷◌, ◌++◌, append_assoc}
use native.Mathlib.Decide.{ℕ_discrete}
use lib.ListN.{length, get_or, length-append}
use lib.Dec.{eqb, ltb}
use borrow.Author.Tests.{ne_eqb, eq-eqb, lt-leb}
use Rattle.base_codes.specs.Codes.{c_argument, c_choice, c_end, c_receive, c_run, c_send, c_set_run, c_text}
use Rattle.base_bytes.specs.Choice.{pick, both}
use Rattle.spec_grammar.specs.Tree.{Name, Shape, Exp, Expr, Sort, sequence, Tree, leaf, express, assign, increment, decrement, send, receive, assert, print, skip, goto, break, timeout, else, run, set_run, select, loop, bare, labelled, end, then, over, option, Declaration, Group, body, Activity, idle, once, times, Part, mtypes, global, process, init}
use Rattle.base_codes.specs.Items.{Item, code_of, i_argument, i_assert, i_assign, i_decrement, i_do, i_end, i_end_option, i_express, i_fi, i_if, i_increment, i_init, i_local, i_name, i_od, i_receive, i_run, i_send, i_set_run, i_target, i_text}
use Rattle.parse_code.specs.Code.{each, code_exp, code_argument, code_received, code_tree, code_declaration, code_group, code_body, code_activity, code_message, code_part}
use Rattle.rule_sheets.specs.Walks.{after, sum}
use Rattle.rule_sheets.specs.Homes.{home_of}
use Rattle.rule_search.specs.Sets.{among}
use Rattle.rule_search.specs.Search.{last, opener, one, count}
use Rattle.rule_ceilings.specs.Ceilings.{wide_at}
use Rattle.spec_rules.specs.Ceilings.{narrow}
use Rattle.agree_eval.proofs.Ranges.{Every, every_append, every_lift, InExp, exp_codes, InArgs, args_codes, all_received_codes, InDeclaration, local_codes, global_codes, InGroup, groups_codes, InMessages, messages_codes}
use Rattle.legal_items.proofs.Standing.{weigh, weigh-append, sum-weigh, Lain, Stood, stood_front, stood_back, still}
use Rattle.legal_items.proofs.Bodies.{Housed}
use Rattle.legal_items.proofs.Parts.{none-sum, head_at, head-last, unit-sum, process_housed, init_housed, mtypes_stood, global_stood, Standing}
use Rattle.legal_items.proofs.Made.{process_activity}
use Rattle.legal_items.proofs.Heavy.{not-over}

-- ---- the last that passes
after_is : (p : ℕ → Bool) (o n e : ℕ) → e ≡ suc o + n → p o ≡ true → ((j : ℕ) → o < j → j < e → p j ≡ false) → after p e ≡ suc o
unfolding after
after_is p o zero e q a b = ap (after p) (let z : e ≡ suc o = omega arith in z) ∙ rw a
after_is p o (suc n) e q a b =
    ap (after p) (let z : e ≡ suc (suc o + n) = omega arith in z) ∙ rw (b (suc o + n) (omega arith) (omega arith)) (after_is p o n (suc o + n) refl a (λ j x y. b j x (omega arith)))

-- not the end of arguments
abbrev Calm : ℕ → Type 0
Calm c = c ≡ c_end → ⊥

calm_exp : {s : Shape} (e : Exp s) → Every Calm (code_exp e)
calm_exp e = every_lift InExp Calm (λ c h z. omega arith) (code_exp e) (exp_codes e)

calm-args : (l : List Item) → Every InArgs l → Every Calm l
calm-args l e = every_lift InArgs Calm (λ c h z. omega arith) l e

-- no printf of a unit has too many
abbrev pub tight : Part → Bool
tight (mtypes ws) = true
tight (global d) = true
tight (process x w gs (body ds q)) = narrow q
tight (init (body ds q)) = narrow q

no_opener : (c : ℕ) → InArgs c → among 4 c ≡ false
unfolding among
no_opener c h = rw (ne_eqb c c_text h.1, lt-leb c_send c (omega arith), lt-leb c_run c (omega arith))

opens_send : among 4 c_send ≡ true
unfolding among
opens_send = refl

opens_receive : among 4 c_receive ≡ true
unfolding among
opens_receive = refl

opens-run : among 4 c_run ≡ true
unfolding among
opens-run = refl

opens_set_run : among 4 c_set_run ≡ true
unfolding among
opens_set_run = refl

opens_print : among 4 c_text ≡ true
unfolding among
opens_print = refl

module _ (cs vs hs : List ℕ) where
  abbrev W : ℕ → ℕ
  W = wide_at cs hs

  no_end : (j : ℕ) → Calm (get_or cs j 0) → W j ≡ 0
  unfolding wide_at
  no_end j n = rw (ne_eqb (get_or cs j 0) c_end n)

  other_end : (j o : ℕ) → get_or cs j 0 ≡ c_end → opener cs j ≡ o → (get_or cs o 0 ≡ c_text → ⊥) → W j ≡ 0
  unfolding wide_at
  other_end j o e q n = rw (e, q, ne_eqb (get_or cs o 0) c_text n)

  print_end : (j o h n : ℕ) → get_or cs j 0 ≡ c_end → opener cs j ≡ o → get_or cs o 0 ≡ c_text → get_or hs j 0 ≡ h → count cs hs 5 h o j ≡ n → W j ≡ pick (ltb 4 n) 1 0
  unfolding wide_at
  print_end j o h n e q g k c = rw (e, q, g, k, c)

  stood_at : (P : ℕ → Type 0) (l : List Item) (h i : ℕ) → Every P l → Stood cs vs hs h i l → (j : ℕ) → i ≤ j → j < i + length l → P (get_or cs j 0)
  stood_at P [] h i e s j a b = absurd (omega arith)
  stood_at P (x ∷ l) h i e s j a b = go (ℕ_discrete j i) (stood_at P l h (suc i) e.1 s.4 j)
    where
      go : Dec (j ≡ i) → (suc i ≤ j → j < suc i + length l → P (get_or cs j 0)) → P (get_or cs j 0)
      go (yes z) r = subst P (sym s.1 ∙ ap (λ k. get_or cs k 0) (sym z)) (e.0 s.0)
      go (no z) r = r (omega arith) (omega arith)

  -- the item before arguments began them
  opener_is : (A : List Item) (h o c j : ℕ) → j ≡ suc o + length A → Every InArgs A → Stood cs vs hs h (suc o) A → get_or cs o 0 ≡ c → among 4 c ≡ true → opener cs j ≡ o
  unfolding opener last
  opener_is A h o c j z e s q t =
      ap (λ n. n - 1) (after_is (λ i. among 4 (get_or cs i 0)) o (length A) j z (ap (among 4) q ∙ t) (λ k a b. no_opener (get_or cs k 0) (stood_at InArgs A h (suc o) e s k a (omega arith))))
      ∙ (let y : suc o - 1 ≡ o = omega arith in y)

  module _ (h : ℕ) where
    abbrev St : ℕ → List Item → Type 0
    St = Stood cs vs hs h

    -- ---- how many arguments there are
    abbrev B : ℕ → ℕ
    B = one cs hs 5 h

    not-one : (j : ℕ) → get_or cs j 0 ≤ c_choice → B j ≡ 0
    unfolding one among
    not-one j z = rw (lt-leb c_argument (get_or cs j 0) (omega arith))

    is_one : (j : ℕ) → get_or cs j 0 ≡ c_argument → get_or hs j 0 ≡ h → B j ≡ 1
    unfolding one among
    is_one j e g = rw (e, eq-eqb (get_or hs j 0) h g)

    arguments : (es : List Expr) (i : ℕ) → St i (each code_argument es) → weigh B i (each code_argument es) ≡ length es
    arguments [] i s = refl
    arguments (e ∷ es) i s =
        let X = code_exp e in
        let R = each code_argument es in
        let k = i + length X in
        let f = stood_front cs vs hs h i (X ++ i_argument ∷ []) R s in
        let m = stood_back cs vs hs h X (i_argument ∷ []) i k refl f in
        let r = stood_back cs vs hs h (X ++ i_argument ∷ []) R i (suc k) (omega (arith, length-append X (i_argument ∷ []))) s in
        let a = weigh-append B (X ++ i_argument ∷ []) R i (suc k) (omega (arith, length-append X (i_argument ∷ []))) in
        let b = weigh-append B X (i_argument ∷ []) i k refl in
        let c = still cs vs hs B InExp X h i (exp_codes e) (stood_front cs vs hs h i X (i_argument ∷ []) f) (λ j z. not-one j z.0) in
        let d = is_one k m.1 m.3 in
        let g = arguments es (suc k) r in
        omega arith

    counted : (w : List ℕ) (es : List Expr) (i j : ℕ) → j ≡ suc i + length (each code_argument es) → St i (i_text w ∷ each code_argument es) → count cs hs 5 h i j ≡ length es
    unfolding count
    counted w es i j e s =
        let a : sum B i (j - i) ≡ sum B i (suc (length (each code_argument es))) = ap (sum B i) (let z : j - i ≡ suc (length (each code_argument es)) = omega arith in z) in
        let b = sum-weigh B (i_text w ∷ each code_argument es) i in
        let c = not-one i (let z = s.1 in omega arith) in
        let d = arguments es (suc i) s.4 in
        omega arith

    -- ---- statements
    calm : (l : List Item) (i : ℕ) → Every Calm l → St i l → weigh W i l ≡ 0
    calm l i e s = still cs vs hs W Calm l h i e s (λ j z. no_end j z)

    quiet : (l : List Item) (i : ℕ) → Every Calm l → St i l → eqb (weigh W i l) 0 ≡ true
    quiet l i e s = ap (λ n. eqb n 0) (calm l i e s)

    marked : {s : Shape} (e : Exp s) (x : Item) (i : ℕ) → Calm (code_of x) → St i (code_exp e ++ x ∷ []) → eqb (weigh W i (code_exp e ++ x ∷ [])) 0 ≡ true
    marked e x i n s = quiet (code_exp e ++ x ∷ []) i (every_append Calm (code_exp e) (x ∷ []) (calm_exp e) (λ k. n, tt)) s

    -- arguments of what is no printf
    closed : (F : List Item) (x : Item) (A : List Item) (i : ℕ) → Every Calm F → Every InArgs A → among 4 (code_of x) ≡ true → (code_of x ≡ c_text → ⊥) → Calm (code_of x)
        → St i (F ++ x ∷ A ++ i_end ∷ [])
        → eqb (weigh W i (F ++ x ∷ A ++ i_end ∷ [])) 0 ≡ true
    closed F x A i f a t n m s =
        let o = i + length F in
        let e = suc o + length A in
        let l = length-append F (x ∷ A) in
        let q = stood_front cs vs hs h i (F ++ x ∷ A) (i_end ∷ []) s in
        let r = stood_back cs vs hs h F (x ∷ A) i o refl q in
        let d = stood_back cs vs hs h (F ++ x ∷ A) (i_end ∷ []) i e (omega arith) s in
        let b = weigh-append W (F ++ x ∷ A) (i_end ∷ []) i e (omega arith) in
        let c = calm (F ++ x ∷ A) i (every_append Calm F (x ∷ A) f (λ k. m, calm-args A a)) q in
        let g = other_end e o d.1 (opener_is A h o (code_of x) e refl a r.4 r.1 t) (λ z. n (sym r.1 ∙ z)) in
        ap (λ k. eqb k 0) (let z : weigh W i (F ++ x ∷ A ++ i_end ∷ []) ≡ 0 = omega arith in z)

    wide_tree : {k : Sort} (t : Tree k) (i : ℕ) → St i (code_tree t) → eqb (weigh W i (code_tree t)) 0 ≡ narrow t
    wide_tree (leaf (express e)) i s = marked e i_express i (λ z. omega arith) s
    wide_tree (leaf (assign r e)) i s =
        quiet (code_exp r ++ i_target ∷ code_exp e ++ i_assign ∷ []) i
        (every_append Calm (code_exp r ++ i_target ∷ code_exp e) (i_assign ∷ [])
        (every_append Calm (code_exp r) (i_target ∷ code_exp e) (calm_exp r) (λ k z. omega arith, calm_exp e)) (λ k z. omega arith, tt)) s
    wide_tree (leaf (increment r)) i s = marked r i_increment i (λ z. omega arith) s
    wide_tree (leaf (decrement r)) i s = marked r i_decrement i (λ z. omega arith) s
    wide_tree (leaf (send mk r es)) i s = closed (code_exp r) (i_send mk) (each code_argument es) i (calm_exp r) (args_codes es) opens_send (λ z. omega arith) (λ z. omega arith) s
    wide_tree (leaf (receive mk r xs)) i s = closed (code_exp r) (i_receive mk) (each code_received xs) i (calm_exp r) (all_received_codes xs) opens_receive (λ z. omega arith) (λ z. omega arith) s
    wide_tree (leaf (assert e)) i s = marked e i_assert i (λ z. omega arith) s
    wide_tree (leaf (print w es)) i s =
        let A = each code_argument es in
        let e = suc i + length A in
        let q = stood_front cs vs hs h i (i_text w ∷ A) (i_end ∷ []) s in
        let d = stood_back cs vs hs h (i_text w ∷ A) (i_end ∷ []) i e (omega arith) s in
        let b = weigh-append W (i_text w ∷ A) (i_end ∷ []) i e (omega arith) in
        let c = calm (i_text w ∷ A) i (λ k z. omega arith, calm-args A (args_codes es)) q in
        let g = print_end e i h (length es) d.1 (opener_is A h i c_text e refl (args_codes es) q.4 q.1 opens_print) q.1 d.3 (counted w es i e refl q) in
        ap (λ k. eqb k 0) (let z : weigh W i (i_text w ∷ A ++ i_end ∷ []) ≡ pick (ltb 4 (length es)) 1 0 = omega arith in z) ∙ not-over (length es) 4
    wide_tree (leaf skip) i s = quiet (code_tree (leaf skip)) i (λ k z. omega arith, tt) s
    wide_tree (leaf (goto w)) i s = quiet (code_tree (leaf (goto w))) i (λ k z. omega arith, (λ k z. omega arith, tt)) s
    wide_tree (leaf break) i s = quiet (code_tree (leaf break)) i (λ k z. omega arith, tt) s
    wide_tree (leaf timeout) i s = quiet (code_tree (leaf timeout)) i (λ k z. omega arith, tt) s
    wide_tree (leaf else) i s = quiet (code_tree (leaf else)) i (λ k z. omega arith, tt) s
    wide_tree (leaf (run w es)) i s = closed (i_name w ∷ []) i_run (each code_argument es) i (λ k z. omega arith, tt) (args_codes es) opens-run (λ z. omega arith) (λ z. omega arith) s
    wide_tree (leaf (set_run r w es)) i s =
        let A = each code_argument es in
        let F = code_exp r ++ i_target ∷ i_name w ∷ [] in
        let q : F ++ i_set_run ∷ A ≡ code_exp r ++ i_target ∷ i_name w ∷ i_set_run ∷ A = append_assoc (code_exp r) (i_target ∷ i_name w ∷ []) (i_set_run ∷ A) in
        ap (λ (l : List Item). eqb (weigh W i (l ++ i_end ∷ [])) 0) (sym q)
        ∙ closed F i_set_run A i (every_append Calm (code_exp r) (i_target ∷ i_name w ∷ []) (calm_exp r) (λ k z. omega arith, (λ k z. omega arith, tt)))
        (args_codes es) opens_set_run (λ z. omega arith) (λ z. omega arith)
        (subst (λ (l : List Item). St i (l ++ i_end ∷ [])) (sym q) s)
    wide_tree (select os) i s =
        let T = code_tree os in
        let e = suc i + length T in
        let a = weigh-append W T (i_fi ∷ []) (suc i) e refl in
        let b = no_end i (λ z. let y = s.1 in omega arith) in
        let d = stood_back cs vs hs h T (i_fi ∷ []) (suc i) e refl s.4 in
        let c = no_end e (λ z. let y = d.1 in omega arith) in
        ap (λ k. eqb k 0) (let z : weigh W i (i_if ∷ T ++ i_fi ∷ []) ≡ weigh W (suc i) T = omega arith in z) ∙ wide_tree os (suc i) (stood_front cs vs hs h (suc i) T (i_fi ∷ []) s.4)
    wide_tree (loop os) i s =
        let T = code_tree os in
        let e = suc i + length T in
        let a = weigh-append W T (i_od ∷ []) (suc i) e refl in
        let b = no_end i (λ z. let y = s.1 in omega arith) in
        let d = stood_back cs vs hs h T (i_od ∷ []) (suc i) e refl s.4 in
        let c = no_end e (λ z. let y = d.1 in omega arith) in
        ap (λ k. eqb k 0) (let z : weigh W i (i_do ∷ T ++ i_od ∷ []) ≡ weigh W (suc i) T = omega arith in z) ∙ wide_tree os (suc i) (stood_front cs vs hs h (suc i) T (i_od ∷ []) s.4)
    wide_tree (bare a) i s = wide_tree a i s
    wide_tree (labelled w a) i s =
        let b = no_end i (λ z. let y = s.1 in omega arith) in
        let c = no_end (suc i) (λ z. let y = s.4.1 in omega arith) in
        ap (λ k. eqb k 0) (let z : weigh W i (code_tree (labelled w a)) ≡ weigh W (suc (suc i)) (code_tree a) = omega arith in z) ∙ wide_tree a (suc (suc i)) s.4.4
    wide_tree end i s = refl
    wide_tree (then a q) i s =
        let k = i + length (code_tree a) in
        ap (λ n. eqb n 0) (weigh-append W (code_tree a) (code_tree q) i k refl) ∙ none-sum (weigh W i (code_tree a)) (weigh W k (code_tree q))
        ∙ ap₂ both (wide_tree a i (stood_front cs vs hs h i (code_tree a) (code_tree q) s)) (wide_tree q k (stood_back cs vs hs h (code_tree a) (code_tree q) i k refl s))
    wide_tree over i s = refl
    wide_tree (option q os) i s =
        let T = code_tree q in
        let O = code_tree os in
        let k = suc i + length T in
        let a = weigh-append W T (i_end_option ∷ O) (suc i) k refl in
        let b = no_end i (λ z. let y = s.1 in omega arith) in
        let d = stood_back cs vs hs h T (i_end_option ∷ O) (suc i) k refl s.4 in
        let c = no_end k (λ z. let y = d.1 in omega arith) in
        ap (λ n. eqb n 0) (let z : weigh W i (code_tree (option q os)) ≡ weigh W (suc i) T + weigh W (suc k) O = omega arith in z) ∙ none-sum (weigh W (suc i) T) (weigh W (suc k) O)
        ∙ ap₂ both (wide_tree q (suc i) (stood_front cs vs hs h (suc i) T (i_end_option ∷ O) s.4)) (wide_tree os (suc k) d.4)

  -- ---- units
  wide-unit : (A : List Item) (gs : List Group) (ds : List Declaration) (q : Tree sequence) (i u : ℕ) → suc u ≡ i + length A → Housed cs vs hs u gs ds q → weigh W i A ≡ 0
      → eqb (weigh W i (A ++ each code_group gs ++ code_body (body ds q))) 0 ≡ narrow q
  wide-unit A gs ds q i u e H n =
      let G = each code_group gs in
      let D = each (code_declaration i_local) ds in
      let T = code_tree q in
      let k = suc u + length G in
      let a = unit-sum cs vs hs W A gs ds q i u e in
      let g = still cs vs hs W InGroup G (u + 1) (suc u) (groups_codes gs) H.groups (λ j y. no_end j (λ z. let x = y.2 (omega arith) in omega arith)) in
      let d = still cs vs hs W InDeclaration D (u + 1) (suc k) (local_codes ds) H.declarations (λ j y. no_end j (λ z. let x = y.2 (omega arith) in omega arith)) in
      let b = no_end k (λ z. let y = H.mark.1 in omega arith) in
      let l = no_end (suc k + length D + length T) (λ z. let y = H.last.1 in omega arith) in
      ap (λ m. eqb m 0) (let z : weigh W i (A ++ G ++ code_body (body ds q)) ≡ weigh W (suc k + length D) T = omega arith in z) ∙ wide_tree (u + 1) q (suc k + length D) H.statements

  activity_none : (x : Activity) (w : Name) (i : ℕ) → Lain cs vs i (code_activity x w) → weigh W i (code_activity x w) ≡ 0
  activity_none idle w i s = let a = no_end i (λ z. let y = s.2 in omega arith) in let b = no_end (suc i) (λ z. let y = s.4.2 in omega arith) in omega arith
  activity_none once w i s = let a = no_end i (λ z. let y = s.2 in omega arith) in let b = no_end (suc i) (λ z. let y = s.4.2 in omega arith) in omega arith
  activity_none (times n) w i s =
      let a = no_end i (λ z. let y = s.2 in omega arith) in
      let b = no_end (suc i) (λ z. let y = s.4.2 in omega arith) in
      let c = no_end (suc (suc i)) (λ z. let y = s.4.4.2 in omega arith) in
      omega arith

  message-none : (j : ℕ) → InMessages (get_or cs j 0) → W j ≡ 0
  message-none j (inl e) = no_end j (λ z. omega arith)
  message-none j (inr e) = no_end j (λ z. omega arith)

  module _ (homed : (j : ℕ) → j < length cs → get_or hs j 0 ≡ home_of cs j) where
    pub wide-part : (p : Part) (i : ℕ) → Standing cs vs hs homed p i → eqb (weigh (wide_at cs hs) i (code_part p)) 0 ≡ tight p
    wide-part (mtypes ws) i S =
        let s = (mtypes_stood cs vs hs homed i ws S.lain S.free).0 in
        let a = no_end i (λ z. let y = s.1 in omega arith) in
        let b = still cs vs hs W InMessages (each code_message ws) 0 (suc i) (messages_codes ws) s.4 message-none in
        ap (λ n. eqb n 0) (let z : weigh W i (code_part (mtypes ws)) ≡ 0 = omega arith in z)
    wide-part (global d) i S =
        ap (λ n. eqb n 0) (still cs vs hs W InDeclaration (code_part (global d)) 0 i (global_codes d) (global_stood cs vs hs homed i d S.lain S.free).0
        (λ j y. no_end j (λ z. let x = y.2 (omega arith) in omega arith)))
    wide-part (process x w gs (body ds q)) i S =
        wide-unit (code_activity x w) gs ds q i (head_at x i) (head-last x w i) (process_housed cs vs hs homed i x w gs ds q S.lain)
        (activity_none x w i (process_activity cs vs hs homed x w gs (body ds q) i S))
    wide-part (init (body ds q)) i S =
        let a = no_end i (λ z. let y = S.lain.2 in omega arith) in
        wide-unit (i_init ∷ []) [] ds q i i (omega arith) (init_housed cs vs hs homed i ds q S.lain) (let z : weigh W i (i_init ∷ []) ≡ 0 = omega arith in z)
