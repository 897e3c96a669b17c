-- Units of a model one after the other: where each stands, and sums over all from sums over each.
use Prim.Native.Nat.{ℕ, zero, suc, ◌+◌, ◌≤◌, ◌<◌}
use native.Mathlib.Omega.{arith}
use mathlib.Core.Path.{◌≡◌, refl, sym, ap, ap₂, ◌∙◌}
use mathlib.Core.Bool.{Bool, true}
use mathlib.Core.Logic.{inl, inr}
use mathlib.Core.List.{List, [], ◌∷◌, ◌++◌}
use lib.ListN.{length, get_or, length-append}
use lib.Dec.{eqb}
use borrow.Author.Tests.{ne_eqb, lt-leb}
use Rattle.base_codes.specs.Codes.{c_number, c_proctype, c_size}
use Rattle.base_bytes.specs.Choice.{both}
use Rattle.spec_grammar.specs.Tree.{Name, sequence, Tree, Declaration, declare, Group, body, Activity, idle, once, times, Part, mtypes, global, process, init, Model}
use Rattle.base_codes.specs.Items.{Item, i_body, i_end_body, i_init, i_local}
use Rattle.base_codes.specs.Sets.{is_unit}
use Rattle.parse_code.specs.Code.{each, code_tree, code_declaration, code_group, code_body, code_activity, code_message, code_part, code}
use Rattle.rule_sheets.specs.Homes.{inside_of, home_of}
use Rattle.spec_rules.specs.Units.{tally}
use Rattle.spec_rules.specs.Statements.{all}
use Rattle.agree_eval.proofs.Ranges.{every_lift, type_low, InDeclaration, global_codes, InMessages, messages_codes}
use Rattle.legal_items.proofs.Standing.{weigh, weigh-append, Lain, lain_front, lain_back, Stood, Inner, settled}
use Rattle.legal_items.proofs.Bodies.{Housed, housed, weigh_body}
use Rattle.read_accepts_proof.proofs.Alike.{past_end as past}

-- the item that begins a unit's body is the last of these
abbrev pub head_at : Activity → ℕ → ℕ
head_at idle i = suc i
head_at once i = suc i
head_at (times n) i = suc (suc i)

pub head-last : (x : Activity) (w : Name) (i : ℕ) → suc (head_at x i) ≡ i + length (code_activity x w)
head-last idle w i = omega arith
head-last once w i = omega arith
head-last (times n) w i = omega arith

-- none is a sum of nones
pub none-sum : (a b : ℕ) → eqb (a + b) 0 ≡ both (eqb a 0) (eqb b 0)
none-sum zero b = ap (λ n. eqb n 0) (let z : 0 + b ≡ b = omega arith in z)
none-sum (suc a) b = ne_eqb (suc a + b) 0 (λ z. omega arith) ∙ ap (λ c. both c (eqb b 0)) (sym (ne_eqb (suc a) 0 (λ z. omega arith)))

module _ (cs vs hs : List ℕ) where
  -- what stands there is no size of an array
  abbrev pub Ahead : ℕ → Type 0
  Ahead e = get_or cs e 0 ≡ c_number → get_or cs (suc e) 0 ≡ c_size → ⊥

  pub unit-sum : (f : ℕ → ℕ) (A : List Item) (gs : List Group) (ds : List Declaration) (q : Tree sequence) (i u : ℕ) → suc u ≡ i + length A
      → weigh f i (A ++ each code_group gs ++ code_body (body ds q))
      ≡ weigh f i A + weigh f (suc u) (each code_group gs)
      + (f (suc u + length (each code_group gs)) + weigh f (suc (suc u + length (each code_group gs))) (each (code_declaration i_local) ds)
      + weigh f (suc (suc u + length (each code_group gs)) + length (each (code_declaration i_local) ds)) (code_tree q)
      + f (suc (suc u + length (each code_group gs)) + length (each (code_declaration i_local) ds) + length (code_tree q)))
  unit-sum f A gs ds q i u e =
      let G = each code_group gs in
      let a = weigh-append f (A ++ G) (code_body (body ds q)) i (suc u + length G) (omega (arith, length-append A G)) in
      let b = weigh-append f A G i (suc u) e in
      let c = weigh_body cs vs hs f ds q (suc u + length G) in
      omega arith

  unit-length : (A : List Item) (gs : List Group) (ds : List Declaration) (q : Tree sequence) (i u : ℕ) → suc u ≡ i + length A
      → suc (suc (suc u + length (each code_group gs)) + length (each (code_declaration i_local) ds) + length (code_tree q)) ≡ i + length (A ++ each code_group gs ++ code_body (body ds q))
  unit-length A gs ds q i u e =
      let G = each code_group gs in
      let D = each (code_declaration i_local) ds in
      let a = length-append (A ++ G) (code_body (body ds q)) in
      let b = length-append A G in
      let c = length-append (i_body ∷ D ++ code_tree q) (i_end_body ∷ []) in
      let d = length-append (i_body ∷ D) (code_tree q) in
      omega arith

  activity_head : (x : Activity) (w : Name) (i : ℕ) → Lain cs vs i (code_activity x w) → is_unit (get_or cs (head_at x i) 0) ≡ true
  activity_head idle w i s = rw s.4.2
  activity_head once w i s = rw s.4.2
  activity_head (times n) w i s = rw s.4.4.2

  module _ (homed : (j : ℕ) → j < length cs → get_or hs j 0 ≡ home_of cs j) where
    unit_housed : (A : List Item) (gs : List Group) (ds : List Declaration) (q : Tree sequence) (i u : ℕ) → suc u ≡ i + length A → is_unit (get_or cs u 0) ≡ true
        → Lain cs vs i (A ++ each code_group gs ++ code_body (body ds q)) → Housed cs vs hs u gs ds q
    unit_housed A gs ds q i u e h s =
        let G = each code_group gs in
        let B = code_body (body ds q) in
        housed cs vs hs homed u gs ds q h (lain_back cs vs A G i (suc u) e (lain_front cs vs i (A ++ G) B s))
        (lain_back cs vs (A ++ G) B i (suc u + length G) (omega (arith, length-append A G)) s)

    -- a unit with a body
    module _ (i : ℕ) where
      pub process_housed : (x : Activity) (w : Name) (gs : List Group) (ds : List Declaration) (q : Tree sequence)
          → Lain cs vs i (code_part (process x w gs (body ds q))) → Housed cs vs hs (head_at x i) gs ds q
      process_housed x w gs ds q s =
          let A = code_activity x w in
          unit_housed A gs ds q i (head_at x i) (head-last x w i)
          (activity_head x w i (lain_front cs vs i A (each code_group gs) (lain_front cs vs i (A ++ each code_group gs) (code_body (body ds q)) s))) s

      pub init_housed : (ds : List Declaration) (q : Tree sequence) → Lain cs vs i (code_part (init (body ds q))) → Housed cs vs hs i [] ds q
      init_housed ds q s = unit_housed (i_init ∷ []) [] ds q i i (omega arith) (rw s.2) s

      message-inner : (c : ℕ) → InMessages c → Inner cs vs hs c
      message-inner c (inl e) = rw e (refl, λ z. omega arith)
      message-inner c (inr e) = rw e (refl, λ z. omega arith)

      pub mtypes_stood : (ws : List Name) → Lain cs vs i (code_part (mtypes ws)) → inside_of cs i ≡ 0
          → Stood cs vs hs 0 i (code_part (mtypes ws)) × (inside_of cs (i + length (code_part (mtypes ws))) ≡ 0)
      mtypes_stood ws s o =
          settled cs vs hs homed (code_part (mtypes ws)) 0 i (λ k. (refl, λ z. omega arith), every_lift InMessages (Inner cs vs hs) message-inner (each code_message ws) (messages_codes ws)) s o

      pub global_stood : (d : Declaration) → Lain cs vs i (code_part (global d)) → inside_of cs i ≡ 0
          → Stood cs vs hs 0 i (code_part (global d)) × (inside_of cs (i + length (code_part (global d))) ≡ 0)
      global_stood d s o =
          settled cs vs hs homed (code_part (global d)) 0 i
          (every_lift InDeclaration (Inner cs vs hs) (λ c h. (rw (lt-leb c_proctype c (let z = h.0 in omega arith)), λ z. omega arith)) (code_part (global d)) (global_codes d)) s o

    -- no body is open behind a unit
    part_shut : (p : Part) (i : ℕ) → Lain cs vs i (code_part p) → inside_of cs i ≡ 0 → inside_of cs (i + length (code_part p)) ≡ 0
    part_shut (mtypes ws) i s o = (mtypes_stood i ws s o).1
    part_shut (global d) i s o = (global_stood i d s o).1
    part_shut (process x w gs (body ds q)) i s o =
        ap (inside_of cs) (sym (unit-length (code_activity x w) gs ds q i (head_at x i) (head-last x w i))) ∙ (process_housed i x w gs ds q s).shut
    part_shut (init (body ds q)) i s o = ap (inside_of cs) (sym (unit-length (i_init ∷ []) [] ds q i i (omega arith))) ∙ (init_housed i ds q s).shut

    -- no unit begins as the size of an array does
    part-ahead : (p : Part) (i : ℕ) → Lain cs vs i (code_part p) → Ahead i
    part-ahead (mtypes ws) i s a b = omega (arith, s.2)
    part-ahead (global (declare k xs)) i s a b = let z = type_low k s.1 in omega (arith, s.2)
    part-ahead (process idle w gs b) i s x y = omega (arith, s.2)
    part-ahead (process once w gs b) i s x y = omega (arith, s.2)
    part-ahead (process (times n) w gs b) i s x y = omega (arith, s.4.2)
    part-ahead (init b) i s x y = omega (arith, s.2)

    model-ahead : (m : Model) (i : ℕ) → Lain cs vs i (code m) → i + length (code m) ≡ length cs → Ahead i
    model-ahead [] i s e a b = omega (arith, past cs i (omega arith))
    model-ahead (p ∷ m) i s e a b = part-ahead p i (lain_front cs vs i (code_part p) (code m) s) a b

    -- where a unit of the model stands
    pub record Standing (p : Part) (i : ℕ) : Type 0 where
      pub lain : Lain cs vs i (code_part p)
      pub free : inside_of cs i ≡ 0
      pub shut : inside_of cs (i + length (code_part p)) ≡ 0
      pub ahead : Ahead (i + length (code_part p))
      pub within : i + length (code_part p) ≤ length cs

    standing : (p : Part) (m : Model) (i : ℕ) → Lain cs vs i (code (p ∷ m)) → inside_of cs i ≡ 0 → i + length (code (p ∷ m)) ≡ length cs → Standing p i
    standing p m i s o e =
        let l = length-append (code_part p) (code m) in
        let h = lain_front cs vs i (code_part p) (code m) s in
        let k = i + length (code_part p) in
        record { lain = h; free = o; shut = part_shut p i h o; ahead = model-ahead m k (lain_back cs vs (code_part p) (code m) i k refl s) (omega arith); within = omega arith }

    pub model-sum : (f : ℕ → ℕ) (F : Part → ℕ) → ((p : Part) (i : ℕ) → Standing p i → weigh f i (code_part p) ≡ F p)
        → (m : Model) (i : ℕ) → Lain cs vs i (code m) → inside_of cs i ≡ 0 → i + length (code m) ≡ length cs → weigh f i (code m) ≡ tally F m
    model-sum f F h [] i s o e = refl
    model-sum f F h (p ∷ m) i s o e =
        let k = i + length (code_part p) in
        let l = length-append (code_part p) (code m) in
        let g = standing p m i s o e in
        weigh-append f (code_part p) (code m) i k refl ∙ ap₂ ◌+◌ (h p i g) (model-sum f F h m k (lain_back cs vs (code_part p) (code m) i k refl s) g.shut (omega arith))

    -- all are none
    pub model-none : (f : ℕ → ℕ) (F : Part → Bool) → ((p : Part) (i : ℕ) → Standing p i → eqb (weigh f i (code_part p)) 0 ≡ F p)
        → (m : Model) (i : ℕ) → Lain cs vs i (code m) → inside_of cs i ≡ 0 → i + length (code m) ≡ length cs → eqb (weigh f i (code m)) 0 ≡ all F m
    model-none f F h [] i s o e = refl
    model-none f F h (p ∷ m) i s o e =
        let k = i + length (code_part p) in
        let l = length-append (code_part p) (code m) in
        let g = standing p m i s o e in
        ap (λ n. eqb n 0) (weigh-append f (code_part p) (code m) i k refl) ∙ none-sum (weigh f i (code_part p)) (weigh f k (code m))
        ∙ ap₂ both (h p i g) (model-none f F h m k (lain_back cs vs (code_part p) (code m) i k refl s) g.shut (omega arith))
