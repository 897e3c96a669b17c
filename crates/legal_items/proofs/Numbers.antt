-- How many numbers are declared, globally and for a process: over the items, and in the tree.
use Prim.Native.Nat.{ℕ, suc, ◌+◌, ◌<◌}
use native.Mathlib.Omega.{arith}
use mathlib.Core.Path.{◌≡◌, refl, sym, ap, ap₂, ◌∙◌, subst}
use mathlib.Core.Bool.{Bool, true, false}
use mathlib.Core.Option.{Option, none, some}
use mathlib.Core.Logic.{inl, inr}
use mathlib.Core.List.{List, [], ◌∷◌, ◌++◌}
use native.Mathlib.Decide.{ℕ_discrete}
use lib.ListN.{length, get_or, length-append}
use lib.Dec.{eqb}
use borrow.Author.Tests.{ne_eqb, eq-eqb}
use Rattle.base_codes.specs.Codes.{c_declared, c_end_body, c_number, c_parameter, c_size}
use Rattle.base_bytes.specs.Choice.{pick, both}
use Rattle.spec_grammar.specs.Tree.{Name, sequence, Tree, Value, unset, set_number, set_minus, set_true, set_false, set_name, set_channel, Declaration, declare, Group, group, body, Activity, idle, once, times, Part, mtypes, global, process, init}
use Rattle.spec_grammar.specs.Tree as tree
use Rattle.base_codes.specs.Items.{Item, code_of, i_global, i_init, i_local}
use Rattle.parse_code.specs.Code.{each, code_size, code_value, code_variable, code_tree, code_declaration, code_parameter, code_group, code_body, code_activity, code_message, code_part}
use Rattle.rule_sheets.specs.Homes.{home_of}
use Rattle.rule_search.specs.Sets.{among}
use Rattle.rule_item.specs.Rules.{is_array}
use Rattle.rule_ceilings.specs.Ceilings.{numbers_at}
use Rattle.spec_rules.specs.Units.{tally}
use Rattle.spec_rules.specs.Ceilings.{size_of, size_of_variable, size_of_declaration, size_of_group, global_count}
use Rattle.agree_eval.proofs.Ranges.{Every, every_append, type_low, InTree, tree_codes, InValue, size_codes, value_codes, InMessages, messages_codes}
use Rattle.legal_items.proofs.Standing.{weigh, weigh-append, Lain, Stood, stood_front, stood_back, still, away}
use Rattle.legal_items.proofs.Bodies.{Housed}
use Rattle.legal_items.proofs.Parts.{Ahead, head_at, head-last, unit-sum, process_housed, init_housed, mtypes_stood, global_stood, Standing}
use Rattle.legal_items.proofs.Made.{process_activity}

module _ (cs vs hs : List ℕ) where
  -- ---- one item
  no_array : (d : ℕ) → Ahead cs vs hs (suc d) → is_array cs d ≡ false
  unfolding is_array
  no_array d n =
      ap₂ (λ a b. both (eqb (get_or cs a 0) c_number) (eqb (get_or cs b 0) c_size)) (let z : d + 1 ≡ suc d = omega arith in z) (let z : d + 2 ≡ suc (suc d) = omega arith in z)
      ∙ go (ℕ_discrete (get_or cs (suc d) 0) c_number) (ℕ_discrete (get_or cs (suc (suc d)) 0) c_size)
    where
      go : Dec (get_or cs (suc d) 0 ≡ c_number) → Dec (get_or cs (suc (suc d)) 0 ≡ c_size) → both (eqb (get_or cs (suc d) 0) c_number) (eqb (get_or cs (suc (suc d)) 0) c_size) ≡ false
      go (yes a) (yes b) = absurd (n a b)
      go (yes a) (no b) = rw (a, ne_eqb (get_or cs (suc (suc d)) 0) c_size b)
      go (no a) b = rw (ne_eqb (get_or cs (suc d) 0) c_number a)

  an_array : (d : ℕ) → get_or cs (suc d) 0 ≡ c_number → get_or cs (suc (suc d)) 0 ≡ c_size → is_array cs d ≡ true
  unfolding is_array
  an_array d a b =
      ap₂ (λ i j. both (eqb (get_or cs i 0) c_number) (eqb (get_or cs j 0) c_size)) (let z : d + 1 ≡ suc d = omega arith in z) (let z : d + 2 ≡ suc (suc d) = omega arith in z) ∙ rw (a, b)

  module _ (h : ℕ) where
    abbrev pub N : ℕ → ℕ
    N = numbers_at cs vs hs h

    pub no_variable : (j : ℕ) → (get_or cs j 0 ≡ c_declared → ⊥) → (get_or cs j 0 ≡ c_parameter → ⊥) → N j ≡ 0
    unfolding numbers_at among
    no_variable j a b = rw (ne_eqb (get_or cs j 0) c_declared a, ne_eqb (get_or cs j 0) c_parameter b)

    pub elsewhere : (j : ℕ) → (get_or hs j 0 ≡ h → ⊥) → N j ≡ 0
    unfolding numbers_at
    elsewhere j n = rw (ne_eqb (get_or hs j 0) h n) (go (among 14 (get_or cs j 0)))
      where
        go : (b : Bool) → ◌≡◌ {A = ℕ} (pick b 0 0) 0
        go true = refl
        go false = refl

    a_variable : (j c : ℕ) → get_or cs j 0 ≡ c → among 14 c ≡ true → get_or hs j 0 ≡ h → N j ≡ pick (is_array cs j) (get_or vs (j + 1) 0) 1
    unfolding numbers_at
    a_variable j c e g k = rw (e, g, eq-eqb (get_or hs j 0) h k)

    scalar_is : (j c : ℕ) → get_or cs j 0 ≡ c → among 14 c ≡ true → get_or hs j 0 ≡ h → Ahead cs vs hs (suc j) → N j ≡ 1
    scalar_is j c e g k a = a_variable j c e g k ∙ rw (no_array j a)

    declares : among 14 c_declared ≡ true
    unfolding among
    declares = refl

    passes : among 14 c_parameter ≡ true
    unfolding among
    passes = refl

    abbrev pub St : ℕ → List Item → Type 0
    St = Stood cs vs hs h

    -- ---- a variable
    ahead_other : (j : ℕ) → (get_or cs j 0 ≡ c_number → ⊥) → Ahead cs vs hs j
    ahead_other j n a b = n a

    ahead-next : (j : ℕ) → (get_or cs (suc j) 0 ≡ c_size → ⊥) → Ahead cs vs hs j
    ahead-next j n a b = n b

    ahead_value : (v : Value) (j : ℕ) → St j (code_value v) → Ahead cs vs hs (j + length (code_value v)) → Ahead cs vs hs j
    ahead_value unset j s a = subst (Ahead cs vs hs) (let z : j + 0 ≡ j = omega arith in z) a
    ahead_value (set_number n) j s a = ahead-next j (λ z. let y = s.4.1 in omega arith)
    ahead_value (set_minus n) j s a = ahead-next j (λ z. let y = s.4.1 in omega arith)
    ahead_value set_true j s a = ahead_other j (λ z. let y = s.1 in omega arith)
    ahead_value set_false j s a = ahead_other j (λ z. let y = s.1 in omega arith)
    ahead_value (set_name w) j s a = ahead_other j (λ z. let y = s.1 in omega arith)
    ahead_value (set_channel n ks) j s a = ahead-next j (λ z. let y = s.4.1 in omega arith)

    numbers-declared : (o : Option ℕ) (v : Value) (j : ℕ) → get_or cs j 0 ≡ c_declared → get_or hs j 0 ≡ h → St (suc j) (code_size o ++ code_value v)
        → Ahead cs vs hs (suc j + length (code_size o ++ code_value v)) → N j ≡ size_of o
    numbers-declared none v j e k s a = scalar_is j c_declared e declares k (ahead_value v (suc j) s a)
    numbers-declared (some n) v j e k s a =
        a_variable j c_declared e declares k ∙ rw (an_array j s.1 s.4.1) (ap (λ i. get_or vs i 0) (let z : j + 1 ≡ suc j = omega arith in z) ∙ s.2 n refl)

    numbers_variable : (x : tree.Variable) (i : ℕ) → St i (code_variable x) → Ahead cs vs hs (i + length (code_variable x)) → weigh N i (code_variable x) ≡ size_of_variable x
    numbers_variable (tree.variable w o v) i s a =
        let b = no_variable i (λ z. let y = s.1 in omega arith) (λ z. let y = s.1 in omega arith) in
        let l = length (code_size o ++ code_value v) in
        let c = numbers-declared o v (suc i) s.4.1 s.4.3 s.4.4 (subst (Ahead cs vs hs) (let z : i + suc (suc l) ≡ suc (suc i) + l = omega arith in z) a) in
        let d = still cs vs hs N InValue (code_size o ++ code_value v) h (suc (suc i)) (every_append InValue (code_size o) (code_value v) (size_codes o) (value_codes v)) s.4.4
        (λ j g. no_variable j (λ z. let y = g.2 (omega arith) in omega arith) (λ z. let y = g.0 in omega arith)) in
        omega arith

    -- ---- lists, one after the other: the next begins as no size does
    module _ {A : Type 0} (f : A → List Item) (F : A → ℕ) (one : (a : A) (i : ℕ) → St i (f a) → Ahead cs vs hs (i + length (f a)) → weigh N i (f a) ≡ F a)
        (begins : (a : A) (l : List Item) (i : ℕ) → St i (f a ++ l) → Ahead cs vs hs i) where
      ahead-each : (l : List A) (i : ℕ) → St i (each f l) → Ahead cs vs hs (i + length (each f l)) → Ahead cs vs hs i
      ahead-each [] i s a = subst (Ahead cs vs hs) (let z : i + 0 ≡ i = omega arith in z) a
      ahead-each (x ∷ l) i s a = begins x (each f l) i s

      numbers-each : (l : List A) (i : ℕ) → St i (each f l) → Ahead cs vs hs (i + length (each f l)) → weigh N i (each f l) ≡ tally F l
      numbers-each [] i s a = refl
      numbers-each (x ∷ l) i s a =
          let k = i + length (f x) in
          let t = stood_back cs vs hs h (f x) (each f l) i k refl s in
          let e = subst (Ahead cs vs hs) (let y = length-append (f x) (each f l) in let z : i + length (f x ++ each f l) ≡ k + length (each f l) = omega arith in z) a in
          weigh-append N (f x) (each f l) i k refl
          ∙ ap₂ ◌+◌ (one x i (stood_front cs vs hs h i (f x) (each f l) s) (ahead-each l k t e)) (numbers-each l k t e)

    variable_begins : (x : tree.Variable) (l : List Item) (i : ℕ) → St i (code_variable x ++ l) → Ahead cs vs hs i
    variable_begins (tree.variable w o v) l i s = ahead_other i (λ z. let y = s.1 in omega arith)

    numbers_declaration : (i : Item) → (code_of i ≡ c_declared → ⊥) → (code_of i ≡ c_parameter → ⊥) → (d : Declaration) (j : ℕ) → St j (code_declaration i d) → Ahead cs vs hs (j + length (code_declaration i d))
        → weigh N j (code_declaration i d) ≡ size_of_declaration d
    numbers_declaration i m n (declare k xs) j s a =
        let b = no_variable j (λ z. let y = s.1 in let x = type_low k s.0 in omega arith) (λ z. let y = s.1 in let x = type_low k s.0 in omega arith) in
        let c = no_variable (suc j) (λ z. m (sym s.4.1 ∙ z)) (λ z. n (sym s.4.1 ∙ z)) in
        let d = numbers-each code_variable size_of_variable numbers_variable variable_begins xs (suc (suc j)) s.4.4
        (subst (Ahead cs vs hs) (let z : j + suc (suc (length (each code_variable xs))) ≡ suc (suc j) + length (each code_variable xs) = omega arith in z) a) in
        omega arith

    local_begins : (d : Declaration) (l : List Item) (i : ℕ) → St i (code_declaration i_local d ++ l) → Ahead cs vs hs i
    local_begins (declare k xs) l i s = ahead_other i (λ z. let y = s.1 in let x = type_low k s.0 in omega arith)

    numbers_locals : (ds : List Declaration) (j : ℕ) → St j (each (code_declaration i_local) ds) → Ahead cs vs hs (j + length (each (code_declaration i_local) ds))
        → weigh N j (each (code_declaration i_local) ds) ≡ tally size_of_declaration ds
    numbers_locals ds j s a =
        numbers-each (code_declaration i_local) size_of_declaration (numbers_declaration i_local (λ z. omega arith) (λ z. omega arith)) local_begins ds j s a

    -- ---- parameters
    parameter_begins : (w : Name) (l : List Item) (i : ℕ) → St i (code_parameter w ++ l) → Ahead cs vs hs i
    parameter_begins w l i s = ahead_other i (λ z. let y = s.1 in omega arith)

    numbers_parameter : (w : Name) (i : ℕ) → St i (code_parameter w) → Ahead cs vs hs (i + length (code_parameter w)) → weigh N i (code_parameter w) ≡ 1
    numbers_parameter w i s a =
        let b = no_variable i (λ z. let y = s.1 in omega arith) (λ z. let y = s.1 in omega arith) in
        let c = scalar_is (suc i) c_parameter s.4.1 passes s.4.3 (subst (Ahead cs vs hs) (let z : i + 2 ≡ suc (suc i) = omega arith in z) a) in
        omega arith

    all_ones : (ws : List Name) → tally (λ (w : Name). 1) ws ≡ length ws
    all_ones [] = refl
    all_ones (w ∷ ws) = let a = all_ones ws in omega arith

    numbers-group : (g : Group) (i : ℕ) → St i (code_group g) → Ahead cs vs hs (i + length (code_group g)) → weigh N i (code_group g) ≡ size_of_group g
    numbers-group (group k ws) j s a =
        let b = no_variable j (λ z. let y = s.1 in let x = type_low k s.0 in omega arith) (λ z. let y = s.1 in let x = type_low k s.0 in omega arith) in
        let c = no_variable (suc j) (λ z. let y = s.4.1 in omega arith) (λ z. let y = s.4.1 in omega arith) in
        let d = numbers-each code_parameter (λ w. 1) numbers_parameter parameter_begins ws (suc (suc j)) s.4.4
        (subst (Ahead cs vs hs) (let z : j + suc (suc (length (each code_parameter ws))) ≡ suc (suc j) + length (each code_parameter ws) = omega arith in z) a) in
        let e = all_ones ws in
        omega arith

    group-begins : (g : Group) (l : List Item) (i : ℕ) → St i (code_group g ++ l) → Ahead cs vs hs i
    group-begins (group k ws) l i s = ahead_other i (λ z. let y = s.1 in let x = type_low k s.0 in omega arith)

    numbers_groups : (gs : List Group) (j : ℕ) → St j (each code_group gs) → Ahead cs vs hs (j + length (each code_group gs)) → weigh N j (each code_group gs) ≡ tally size_of_group gs
    numbers_groups gs j s a = numbers-each code_group size_of_group numbers-group group-begins gs j s a

    -- ---- statements do not begin as a size does, and declare nothing
    ahead_tree : (l : List Item) (j : ℕ) → Every InTree l → St j l → get_or cs (j + length l) 0 ≡ c_end_body → Ahead cs vs hs j
    ahead_tree [] j e s a = ahead_other j (λ z. let y : get_or cs j 0 ≡ c_end_body = ap (λ i. get_or cs i 0) (let x : j ≡ j + 0 = omega arith in x) ∙ a in omega arith)
    ahead_tree (x ∷ []) j e s a = ahead-next j (λ z. let y : get_or cs (suc j) 0 ≡ c_end_body = ap (λ i. get_or cs i 0) (let x : suc j ≡ j + 1 = omega arith in x) ∙ a in omega arith)
    ahead_tree (x ∷ y ∷ l) j e s a = ahead-next j (λ z. let b = e.1.0 s.4.0 in let c = s.4.1 in omega arith)

    -- the numbers of a unit's body, where this is its body
    pub numbers-unit : (A : List Item) (gs : List Group) (ds : List Declaration) (q : Tree sequence) (i u : ℕ) → suc u ≡ i + length A → h ≡ u + 1 → Housed cs vs hs u gs ds q → weigh N i A ≡ 0
        → weigh N i (A ++ each code_group gs ++ code_body (body ds q)) ≡ tally size_of_group gs + tally size_of_declaration ds
    numbers-unit A gs ds q i u e r H n =
        let G = each code_group gs in
        let D = each (code_declaration i_local) ds in
        let T = code_tree q in
        let k = suc u + length G in
        let own : (j : ℕ) (l : List Item) → Stood cs vs hs (u + 1) j l → St j l = λ j l s. subst (λ y. Stood cs vs hs y j l) (sym r) s in
        let a = unit-sum cs vs hs N A gs ds q i u e in
        let g = numbers_groups gs (suc u) (own _ G H.groups) (ahead_other k (λ z. let y = H.mark.1 in omega arith)) in
        let t = ahead_tree T (suc k + length D) (tree_codes q) (own _ T H.statements) H.last.1 in
        let d = numbers_locals ds (suc k) (own _ D H.declarations) t in
        let c = still cs vs hs N InTree T h (suc k + length D) (tree_codes q) (own _ T H.statements) (λ j y. no_variable j (λ z. omega arith) (λ z. omega arith)) in
        let b = no_variable k (λ z. let y = H.mark.1 in omega arith) (λ z. let y = H.mark.1 in omega arith) in
        let l = no_variable (suc k + length D + length T) (λ z. let y = H.last.1 in omega arith) (λ z. let y = H.last.1 in omega arith) in
        omega arith

    -- and where it is another's
    other_unit : (A : List Item) (gs : List Group) (ds : List Declaration) (q : Tree sequence) (i u : ℕ) → suc u ≡ i + length A → (h ≡ u + 1 → ⊥) → Housed cs vs hs u gs ds q → weigh N i A ≡ 0
        → weigh N i (A ++ each code_group gs ++ code_body (body ds q)) ≡ 0
    other_unit A gs ds q i u e r H n =
        let G = each code_group gs in
        let D = each (code_declaration i_local) ds in
        let T = code_tree q in
        let k = suc u + length G in
        let off : (j : ℕ) → get_or hs j 0 ≡ u + 1 → N j ≡ 0 = λ j y. elsewhere j (λ z. r (sym z ∙ y)) in
        let a = unit-sum cs vs hs N A gs ds q i u e in
        let g = away cs vs hs N G (u + 1) (suc u) H.groups off in
        let d = away cs vs hs N D (u + 1) (suc k) H.declarations off in
        let c = away cs vs hs N T (u + 1) (suc k + length D) H.statements off in
        let b = off k H.mark.3 in
        let l = off (suc k + length D + length T) H.last.3 in
        omega arith

    pub activity_none : (x : Activity) (w : Name) (i : ℕ) → Lain cs vs i (code_activity x w) → weigh N i (code_activity x w) ≡ 0
    activity_none idle w i s =
        let a = no_variable i (λ z. let y = s.2 in omega arith) (λ z. let y = s.2 in omega arith) in
        let b = no_variable (suc i) (λ z. let y = s.4.2 in omega arith) (λ z. let y = s.4.2 in omega arith) in
        omega arith
    activity_none once w i s =
        let a = no_variable i (λ z. let y = s.2 in omega arith) (λ z. let y = s.2 in omega arith) in
        let b = no_variable (suc i) (λ z. let y = s.4.2 in omega arith) (λ z. let y = s.4.2 in omega arith) in
        omega arith
    activity_none (times n) w i s =
        let a = no_variable i (λ z. let y = s.2 in omega arith) (λ z. let y = s.2 in omega arith) in
        let b = no_variable (suc i) (λ z. let y = s.4.2 in omega arith) (λ z. let y = s.4.2 in omega arith) in
        let c = no_variable (suc (suc i)) (λ z. let y = s.4.4.2 in omega arith) (λ z. let y = s.4.4.2 in omega arith) in
        omega arith

    message-none : (j : ℕ) → InMessages (get_or cs j 0) → N j ≡ 0
    message-none j (inl e) = no_variable j (λ z. omega arith) (λ z. omega arith)
    message-none j (inr e) = no_variable j (λ z. omega arith) (λ z. omega arith)

  -- ---- global numbers
  module _ (homed : (j : ℕ) → j < length cs → get_or hs j 0 ≡ home_of cs j) where
    pub globals_part : (p : Part) (i : ℕ) → Standing cs vs hs homed p i → weigh (numbers_at cs vs hs 0) i (code_part p) ≡ global_count p
    globals_part (mtypes ws) i S =
        let s = (mtypes_stood cs vs hs homed i ws S.lain S.free).0 in
        let a = no_variable 0 i (λ z. let y = s.1 in omega arith) (λ z. let y = s.1 in omega arith) in
        let b = still cs vs hs (numbers_at cs vs hs 0) InMessages (each code_message ws) 0 (suc i) (messages_codes ws) s.4 (message-none 0) in
        omega arith
    globals_part (global d) i S = numbers_declaration 0 i_global (λ z. omega arith) (λ z. omega arith) d i (global_stood cs vs hs homed i d S.lain S.free).0 S.ahead
    globals_part (process x w gs (body ds q)) i S =
        other_unit 0 (code_activity x w) gs ds q i (head_at x i) (head-last x w i) (λ z. omega arith) (process_housed cs vs hs homed i x w gs ds q S.lain)
        (activity_none 0 x w i (process_activity cs vs hs homed x w gs (body ds q) i S))
    globals_part (init (body ds q)) i S =
        let a = no_variable 0 i (λ z. let y = S.lain.2 in omega arith) (λ z. let y = S.lain.2 in omega arith) in
        other_unit 0 (i_init ∷ []) [] ds q i i (omega arith) (λ z. omega arith) (init_housed cs vs hs homed i ds q S.lain)
        (let z : weigh (numbers_at cs vs hs 0) i (i_init ∷ []) ≡ 0 = omega arith in z)
