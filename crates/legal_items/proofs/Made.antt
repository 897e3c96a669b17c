-- How many processes start and how many channels are made: over the items, and in the tree.
use Prim.Native.Nat.{ℕ, suc, ◌+◌, ◌-◌, ◌*◌, ◌≤◌, ◌<◌}
use native.Mathlib.Nat.{mul-add}
use native.Mathlib.Omega.{arith}
use mathlib.Core.Path.{◌≡◌, refl, sym, ap, ◌∙◌}
use mathlib.Core.Option.{Option, none, some}
use mathlib.Core.Logic.{inl, inr}
use mathlib.Core.List.{List, [], ◌∷◌, ◌++◌}
use lib.ListN.{length, get_or}
use lib.Dec.{eqb}
use borrow.Author.Tests.{ne_eqb}
use Rattle.base_codes.specs.Codes.{c_active, c_active_many, c_body, c_channel, c_init, c_parameter}
use Rattle.base_bytes.specs.Choice.{pick}
use Rattle.spec_grammar.specs.Tree.{Name, sequence, Tree, Value, unset, set_number, set_minus, set_true, set_false, set_name, set_channel, Declaration, declare, Group, Body, body, Activity, idle, once, times, Part, mtypes, global, process, init}
use Rattle.spec_grammar.specs.Tree as tree
use Rattle.base_codes.specs.Items.{Item, code_of, i_global, i_init, i_local}
use Rattle.parse_code.specs.Code.{each, code_field, code_size, code_value, code_variable, code_tree, code_declaration, code_group, code_body, code_activity, code_message, code_part}
use Rattle.rule_sheets.specs.Homes.{home_of}
use Rattle.rule_ceilings.specs.Ceilings.{starts_at, makes_at}
use Rattle.spec_rules.specs.Units.{tally}
use Rattle.spec_rules.specs.Ceilings.{channels_by, made_by_variable, made_by_declaration, started_by, start_count, channel_count}
use Rattle.agree_eval.proofs.Ranges.{type_low, InTree, tree_codes, InDeclaration, local_codes, global_codes, InGroup, groups_codes, InMessages, messages_codes}
use Rattle.legal_items.proofs.Standing.{weigh, weigh-append, Lain, lain_front, Stood, stood_front, stood_back, still}
use Rattle.legal_items.proofs.Bodies.{Housed}
use Rattle.legal_items.proofs.Parts.{head_at, head-last, unit-sum, process_housed, init_housed, mtypes_stood, global_stood, Standing}

module _ (cs vs hs : List ℕ) (homed : (j : ℕ) → j < length cs → get_or hs j 0 ≡ home_of cs j) where
  -- ---- what counts at the item that begins a unit alone
  module _ (f : ℕ → ℕ) (low : (j : ℕ) → get_or cs j 0 ≤ c_parameter → f j ≡ 0) (high : (j : ℕ) → c_body ≤ get_or cs j 0 → f j ≡ 0) where
    unit-head : (A : List Item) (gs : List Group) (ds : List Declaration) (q : Tree sequence) (i u : ℕ) → suc u ≡ i + length A → Housed cs vs hs u gs ds q
        → weigh f i (A ++ each code_group gs ++ code_body (body ds q)) ≡ weigh f i A
    unit-head A gs ds q i u e H =
        let a = unit-sum cs vs hs f A gs ds q i u e in
        let g = still cs vs hs f InGroup (each code_group gs) (u + 1) _ (groups_codes gs) H.groups (λ j h. low j h.0) in
        let d = still cs vs hs f InDeclaration (each (code_declaration i_local) ds) (u + 1) _ (local_codes ds) H.declarations (λ j h. low j (let z = h.0 in omega arith)) in
        let t = still cs vs hs f InTree (code_tree q) (u + 1) _ (tree_codes q) H.statements (λ j h. low j (omega arith)) in
        let b = high (suc u + length (each code_group gs)) (let z = H.mark.1 in omega arith) in
        let l = high (suc (suc u + length (each code_group gs)) + length (each (code_declaration i_local) ds) + length (code_tree q)) (let z = H.last.1 in omega arith) in
        omega arith

    head_activity : (x : Activity) (w : Name) (i : ℕ) → Lain cs vs i (code_activity x w) → weigh f i (code_activity x w) ≡ f (head_at x i)
    head_activity idle w i s = let a = low i (let z = s.2 in omega arith) in omega arith
    head_activity once w i s = let a = low i (let z = s.2 in omega arith) in omega arith
    head_activity (times n) w i s = let a = low i (let z = s.2 in omega arith) in let b = low (suc i) (let z = s.4.2 in omega arith) in omega arith

    message-low : (j : ℕ) → InMessages (get_or cs j 0) → f j ≡ 0
    message-low j (inl e) = low j (omega arith)
    message-low j (inr e) = low j (omega arith)

    pub head_mtypes : (ws : List Name) (i : ℕ) → Standing cs vs hs homed (mtypes ws) i → weigh f i (code_part (mtypes ws)) ≡ 0
    head_mtypes ws i S =
        let s = (mtypes_stood cs vs hs homed i ws S.lain S.free).0 in
        let a = low i (let z = s.1 in omega arith) in
        let b = still cs vs hs f InMessages (each code_message ws) 0 (suc i) (messages_codes ws) s.4 message-low in
        omega arith

    pub head-global : (d : Declaration) (i : ℕ) → Standing cs vs hs homed (global d) i → weigh f i (code_part (global d)) ≡ 0
    head-global d i S =
        still cs vs hs f InDeclaration (code_part (global d)) 0 i (global_codes d) (global_stood cs vs hs homed i d S.lain S.free).0 (λ j h. low j (let z = h.0 in omega arith))

    pub head-process : (x : Activity) (w : Name) (gs : List Group) (b : Body) (i : ℕ) → Standing cs vs hs homed (process x w gs b) i → weigh f i (code_part (process x w gs b)) ≡ f (head_at x i)
    head-process x w gs (body ds q) i S =
        unit-head (code_activity x w) gs ds q i (head_at x i) (head-last x w i) (process_housed cs vs hs homed i x w gs ds q S.lain)
        ∙ head_activity x w i (lain_front cs vs i (code_activity x w) (each code_group gs) (lain_front cs vs i (code_activity x w ++ each code_group gs) (code_body (body ds q)) S.lain))

    pub head_init : (b : Body) (i : ℕ) → Standing cs vs hs homed (init b) i → weigh f i (code_part (init b)) ≡ f i
    head_init (body ds q) i S =
        let a = unit-head (i_init ∷ []) [] ds q i i (omega arith) (init_housed cs vs hs homed i ds q S.lain) in
        omega arith

  -- ---- processes that start
  no_start : (j : ℕ) → (get_or cs j 0 ≡ c_active → ⊥) → (get_or cs j 0 ≡ c_active_many → ⊥) → (get_or cs j 0 ≡ c_init → ⊥) → starts_at cs vs j ≡ 0
  unfolding starts_at
  no_start j a b c = rw (ne_eqb (get_or cs j 0) c_active a, ne_eqb (get_or cs j 0) c_active_many b, ne_eqb (get_or cs j 0) c_init c)

  starts-head : (x : Activity) (w : Name) (i : ℕ) → Lain cs vs i (code_activity x w) → starts_at cs vs (head_at x i) ≡ started_by x
  unfolding starts_at
  starts-head idle w i s = rw s.4.2
  starts-head once w i s = rw s.4.2
  starts-head (times n) w i s = rw s.4.4.2 (ap (λ k. get_or vs k 0) (let z : suc (suc i) - 2 ≡ i = omega arith in z) ∙ s.3 n refl)

  starts_init : (i : ℕ) → get_or cs i 0 ≡ c_init → starts_at cs vs i ≡ 1
  unfolding starts_at
  starts_init i e = rw e

  start-low : (j : ℕ) → get_or cs j 0 ≤ c_parameter → starts_at cs vs j ≡ 0
  start-low j h = no_start j (λ z. omega arith) (λ z. omega arith) (λ z. omega arith)

  start-high : (j : ℕ) → c_body ≤ get_or cs j 0 → starts_at cs vs j ≡ 0
  start-high j h = no_start j (λ z. omega arith) (λ z. omega arith) (λ z. omega arith)

  pub process_activity : (x : Activity) (w : Name) (gs : List Group) (b : Body) (i : ℕ) → Standing cs vs hs homed (process x w gs b) i → Lain cs vs i (code_activity x w)
  process_activity x w gs b i S = lain_front cs vs i (code_activity x w) (each code_group gs) (lain_front cs vs i (code_activity x w ++ each code_group gs) (code_body b) S.lain)

  pub starts-part : (p : Part) (i : ℕ) → Standing cs vs hs homed p i → weigh (starts_at cs vs) i (code_part p) ≡ start_count p
  starts-part (mtypes ws) i S = head_mtypes (starts_at cs vs) start-low start-high ws i S
  starts-part (global d) i S = head-global (starts_at cs vs) start-low start-high d i S
  starts-part (process x w gs b) i S = head-process (starts_at cs vs) start-low start-high x w gs b i S ∙ starts-head x w i (process_activity x w gs b i S)
  starts-part (init b) i S = head_init (starts_at cs vs) start-low start-high b i S ∙ starts_init i S.lain.2

  -- ---- channels that are made
  abbrev K : ℕ → ℕ
  K = makes_at cs vs hs

  no_channel_lem : (j : ℕ) → (get_or cs j 0 ≡ c_channel → ⊥) → K j ≡ 0
  unfolding makes_at
  no_channel_lem j n = rw (ne_eqb (get_or cs j 0) c_channel n)

  -- what each channel of a body counts
  abbrev each_made : ℕ → ℕ
  each_made h = pick (eqb h 0) 1 (starts_at cs vs (h - 1))

  a_channel : (j h : ℕ) → get_or cs j 0 ≡ c_channel → get_or hs j 0 ≡ h → K j ≡ each_made h
  unfolding makes_at
  a_channel j h e g = rw (e, g)

  module _ (h : ℕ) where
    abbrev St : ℕ → List Item → Type 0
    St = Stood cs vs hs h

    channels-fields : (ks : List ℕ) (i : ℕ) → St i (each code_field ks) → weigh K i (each code_field ks) ≡ 0
    channels-fields [] i s = refl
    channels-fields (k ∷ ks) i s =
        let a = no_channel_lem i (λ z. let y = s.1 in let x = type_low k s.0 in omega arith) in
        let b = no_channel_lem (suc i) (λ z. let y = s.4.1 in omega arith) in
        let c = channels-fields ks (suc (suc i)) s.4.4 in
        omega arith

    channels-size : (o : Option ℕ) (i : ℕ) → St i (code_size o) → weigh K i (code_size o) ≡ 0
    channels-size none i s = refl
    channels-size (some n) i s = let a = no_channel_lem i (λ z. let y = s.1 in omega arith) in let b = no_channel_lem (suc i) (λ z. let y = s.4.1 in omega arith) in omega arith

    two_none : (x y : Item) (i : ℕ) → St i (x ∷ y ∷ []) → (code_of x ≡ c_channel → ⊥) → (code_of y ≡ c_channel → ⊥) → weigh K i (x ∷ y ∷ []) ≡ each_made h * 0
    two_none x y i s a b = let c = no_channel_lem i (λ z. a (sym s.1 ∙ z)) in let d = no_channel_lem (suc i) (λ z. b (sym s.4.1 ∙ z)) in omega arith

    channels_value : (v : Value) (i : ℕ) → St i (code_value v) → weigh K i (code_value v) ≡ each_made h * channels_by v
    channels_value unset i s = omega arith
    channels_value (set_number n) i s = two_none _ _ i s (λ z. omega arith) (λ z. omega arith)
    channels_value (set_minus n) i s = two_none _ _ i s (λ z. omega arith) (λ z. omega arith)
    channels_value set_true i s = two_none _ _ i s (λ z. omega arith) (λ z. omega arith)
    channels_value set_false i s = two_none _ _ i s (λ z. omega arith) (λ z. omega arith)
    channels_value (set_name w) i s = two_none _ _ i s (λ z. omega arith) (λ z. omega arith)
    channels_value (set_channel n ks) i s =
        let a = no_channel_lem i (λ z. let y = s.1 in omega arith) in
        let b = a_channel (suc i) h s.4.1 s.4.3 in
        let c = channels-fields ks (suc (suc i)) s.4.4 in
        let d : each_made h * 1 ≡ each_made h = omega arith in
        omega arith

    channels_variable : (x : tree.Variable) (i : ℕ) → St i (code_variable x) → weigh K i (code_variable x) ≡ each_made h * made_by_variable x
    channels_variable (tree.variable w o v) i s =
        let a = no_channel_lem i (λ z. let y = s.1 in omega arith) in
        let b = no_channel_lem (suc i) (λ z. let y = s.4.1 in omega arith) in
        let j = suc (suc i) in
        let c = weigh-append K (code_size o) (code_value v) j (j + length (code_size o)) refl in
        let d = channels-size o j (stood_front cs vs hs h j (code_size o) (code_value v) s.4.4) in
        let e = channels_value v (j + length (code_size o)) (stood_back cs vs hs h (code_size o) (code_value v) j _ refl s.4.4) in
        omega arith

    -- lists, one after the other
    module _ {A : Type 0} (f : A → List Item) (F : A → ℕ) (one : (a : A) (i : ℕ) → St i (f a) → weigh K i (f a) ≡ each_made h * F a) where
      channels-each : (l : List A) (i : ℕ) → St i (each f l) → weigh K i (each f l) ≡ each_made h * tally F l
      channels-each [] i s = omega arith
      channels-each (a ∷ l) i s =
          let b = weigh-append K (f a) (each f l) i (i + length (f a)) refl in
          let c = one a i (stood_front cs vs hs h i (f a) (each f l) s) in
          let d = channels-each l (i + length (f a)) (stood_back cs vs hs h (f a) (each f l) i _ refl s) in
          let e = mul-add (each_made h) (F a) (tally F l) in
          omega arith

    channels_declaration : (i : Item) → (code_of i ≡ c_channel → ⊥) → (d : Declaration) (j : ℕ) → St j (code_declaration i d) → weigh K j (code_declaration i d) ≡ each_made h * made_by_declaration d
    channels_declaration i n (declare k xs) j s =
        let a = no_channel_lem j (λ z. let y = s.1 in let x = type_low k s.0 in omega arith) in
        let b = no_channel_lem (suc j) (λ z. n (sym s.4.1 ∙ z)) in
        let c = channels-each code_variable made_by_variable channels_variable xs (suc (suc j)) s.4.4 in
        omega arith

    channels_locals : (ds : List Declaration) (j : ℕ) → St j (each (code_declaration i_local) ds) → weigh K j (each (code_declaration i_local) ds) ≡ each_made h * tally made_by_declaration ds
    channels_locals ds j s = channels-each (code_declaration i_local) made_by_declaration (channels_declaration i_local (λ z. omega arith)) ds j s

  made-unit : (A : List Item) (gs : List Group) (ds : List Declaration) (q : Tree sequence) (i u : ℕ) → suc u ≡ i + length A → Housed cs vs hs u gs ds q → weigh K i A ≡ 0
      → weigh K i (A ++ each code_group gs ++ code_body (body ds q)) ≡ starts_at cs vs u * tally made_by_declaration ds
  made-unit A gs ds q i u e H n =
      let a = unit-sum cs vs hs K A gs ds q i u e in
      let g = still cs vs hs K InGroup (each code_group gs) (u + 1) _ (groups_codes gs) H.groups (λ j h. no_channel_lem j (λ z. let y = h.2 (omega arith) in omega arith)) in
      let d = channels_locals (u + 1) ds _ H.declarations in
      let t = still cs vs hs K InTree (code_tree q) (u + 1) _ (tree_codes q) H.statements (λ j h. no_channel_lem j (λ z. omega arith)) in
      let b = no_channel_lem (suc u + length (each code_group gs)) (λ z. let y = H.mark.1 in omega arith) in
      let l = no_channel_lem (suc (suc u + length (each code_group gs)) + length (each (code_declaration i_local) ds) + length (code_tree q)) (λ z. let y = H.last.1 in omega arith) in
      let m : each_made (u + 1) ≡ starts_at cs vs u = rw (ne_eqb (u + 1) 0 (λ z. omega arith)) (ap (starts_at cs vs) (let z : u + 1 - 1 ≡ u = omega arith in z)) in
      let r : each_made (u + 1) * tally made_by_declaration ds ≡ starts_at cs vs u * tally made_by_declaration ds = ap (λ k. k * tally made_by_declaration ds) m in
      omega arith

  activity_none : (x : Activity) (w : Name) (i : ℕ) → Lain cs vs i (code_activity x w) → weigh K i (code_activity x w) ≡ 0
  activity_none idle w i s = let a = no_channel_lem i (λ z. let y = s.2 in omega arith) in let b = no_channel_lem (suc i) (λ z. let y = s.4.2 in omega arith) in omega arith
  activity_none once w i s = let a = no_channel_lem i (λ z. let y = s.2 in omega arith) in let b = no_channel_lem (suc i) (λ z. let y = s.4.2 in omega arith) in omega arith
  activity_none (times n) w i s =
      let a = no_channel_lem i (λ z. let y = s.2 in omega arith) in
      let b = no_channel_lem (suc i) (λ z. let y = s.4.2 in omega arith) in
      let c = no_channel_lem (suc (suc i)) (λ z. let y = s.4.4.2 in omega arith) in
      omega arith

  message-none : (j : ℕ) → InMessages (get_or cs j 0) → K j ≡ 0
  message-none j (inl e) = no_channel_lem j (λ z. omega arith)
  message-none j (inr e) = no_channel_lem j (λ z. omega arith)

  pub channels-part : (p : Part) (i : ℕ) → Standing cs vs hs homed p i → weigh K i (code_part p) ≡ channel_count p
  channels-part (mtypes ws) i S =
      let s = (mtypes_stood cs vs hs homed i ws S.lain S.free).0 in
      let a = no_channel_lem i (λ z. let y = s.1 in omega arith) in
      let b = still cs vs hs K InMessages (each code_message ws) 0 (suc i) (messages_codes ws) s.4 message-none in
      omega arith
  channels-part (global d) i S =
      let a = channels_declaration 0 i_global (λ z. omega arith) d i (global_stood cs vs hs homed i d S.lain S.free).0 in
      let b : each_made 0 * made_by_declaration d ≡ made_by_declaration d = omega arith in
      omega arith
  channels-part (process x w gs (body ds q)) i S =
      let A = process_activity x w gs (body ds q) i S in
      made-unit (code_activity x w) gs ds q i (head_at x i) (head-last x w i) (process_housed cs vs hs homed i x w gs ds q S.lain) (activity_none x w i A)
      ∙ ap (λ k. k * tally made_by_declaration ds) (starts-head x w i A)
  channels-part (init (body ds q)) i S =
      let a = no_channel_lem i (λ z. let y = S.lain.2 in omega arith) in
      let b : weigh K i (i_init ∷ []) ≡ 0 = omega arith in
      let c = made-unit (i_init ∷ []) [] ds q i i (omega arith) (init_housed cs vs hs homed i ds q S.lain) b in
      let d : starts_at cs vs i * tally made_by_declaration ds ≡ 1 * tally made_by_declaration ds = ap (λ k. k * tally made_by_declaration ds) (starts_init i S.lain.2) in
      c ∙ d ∙ (let z : 1 * tally made_by_declaration ds ≡ tally made_by_declaration ds = omega arith in z)
