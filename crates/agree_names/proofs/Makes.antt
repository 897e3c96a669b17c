-- How many channels a process of a unit makes: its `channel` items are those of its declarations.
use Prim.Native.Nat.{ℕ, zero, suc, ◌+◌, ◌-◌, ◌≤◌, ◌<◌}
use native.Mathlib.Omega.{arith}
use native.Mathlib.Decide.{dec_lt}
use mathlib.Core.Path.{◌≡◌, refl, sym as inv, ap, ◌∙◌, subst}
use mathlib.Core.Bool.{true}
use mathlib.Core.Option.{Option, none, some}
use mathlib.Core.List.{List, [], ◌∷◌, ◌++◌}
use lib.ListN.{length, get_or, length-append}
use lib.Dec.{eqb}
use borrow.Author.Tests.{eq-eqb, ne_eqb}
use Rattle.base_codes.specs.Codes.{c_body, c_channel, c_declared, c_false, c_field, c_group, c_local, c_minus, c_name, c_named, c_number, c_parameter, c_proctype, c_size, c_true, c_value}
use Rattle.base_bytes.specs.Choice.{pick}
use Rattle.base_bytes.proofs.Tests.{true_false}
use Rattle.spec_grammar.specs.Tree.{Name, Model, sequence, Tree, Value, unset, set_number, set_minus, set_true, set_false, set_name, set_channel, Variable, variable, Declaration, declare, Group, group, body, Activity, idle, once, times, Part, mtypes, global, process, init}
use Rattle.base_codes.specs.Items.{Item, i_body, i_channel, i_declared, i_end_body, i_false, i_field, i_group, i_local, i_minus, i_name, i_named, i_number, i_parameter, i_size, i_true, i_type, i_value}
use Rattle.parse_code.specs.Code.{each, code_tree, code_field, code_size, code_value, code_variable, code_declaration, code_parameter, code_group, code_body, code_activity, code_part, code}
use Rattle.base_codes.specs.Sets.{is_unit}
use Rattle.table_entries.specs.Items.{Known}
use Rattle.spec_rules.specs.Ceilings.{channels_by, made_by_variable, made_by_declaration, made_by_body}
use Rattle.spec_rules.specs.Units.{tally}
use Rattle.legal_terms.specs.Says.{item_at, Says}
use Rattle.table_layout.specs.Access.{code_of}
use Rattle.step_ready.specs.Executing.{channels_from}
use Rattle.spec_machine.specs.Sizes.{sum, size_in, size_declaration, size_group, size_activity}
use Rattle.agree_sizes.proofs.Sizes.{size_tree, size-declarations, size_groups, size_activity_lem}
use Rattle.spec_machine.specs.Program.{start_in, end_in}
use Rattle.table_entries.proofs.Items.{type_code}
use Rattle.legal_declarations.proofs.Standing.{Lies, lies_front, lies_back, long, known_at, code_is}
use Rattle.legal_declarations.proofs.Bodies.{Frame}
use Rattle.keep_tables.specs.Facts.{links_in}
use Rattle.keep_tables.specs.Held.{Held}
use Rattle.spec_machine.specs.Begins.{body_in, body_of}
use Rattle.agree_encode.specs.Encode.{head_in}
use Rattle.spec_machine.specs.Places.{Bodied}
use Rattle.rule_sheets.proofs.Meaning.{no_head}
use Rattle.base_codes.specs.Items as items

-- what begins a unit is no `channel`
head-code : (c : ℕ) → is_unit c ≡ true → c_proctype ≤ c
head-code c h = go (dec_lt c_parameter c)
  where
    go : Dec (c_parameter < c) → c_proctype ≤ c
    go (yes z) = omega arith
    go (no z) = absurd (true_false (inv h ∙ no_head c (omega arith)))

module _ (t : List ℕ) where
  from_one : (n j : ℕ) → channels_from t (suc n) j ≡ pick (eqb (code_of t j) c_channel) 1 0 + channels_from t n (j + 1)
  unfolding channels_from
  from_one n j = refl

  from_empty : (j : ℕ) → channels_from t 0 j ≡ 0
  unfolding channels_from
  from_empty j = refl

  from_next : (n j : ℕ) → channels_from t n (j + 1) ≡ channels_from t n (suc j)
  from_next n j = ap (channels_from t n) (let z : j + 1 ≡ suc j = omega arith in z)

  from-split : (a b j : ℕ) → channels_from t (a + b) j ≡ channels_from t a j + channels_from t b (j + a)
  from-split zero b j =
      let x = from_empty j in
      let y : channels_from t (0 + b) j ≡ channels_from t b j = ap (λ n. channels_from t n j) (let z : 0 + b ≡ b = omega arith in z) in
      let z : channels_from t b (j + 0) ≡ channels_from t b j = ap (channels_from t b) (let z : j + 0 ≡ j = omega arith in z) in
      omega arith
  from-split (suc a) b j =
      let x = from_one a j in
      let y : channels_from t (suc a + b) j ≡ channels_from t (suc (a + b)) j = ap (λ n. channels_from t n j) (let z : suc a + b ≡ suc (a + b) = omega arith in z) in
      let w = from_one (a + b) j in
      let r = from-split a b (j + 1) in
      let v : channels_from t b (j + 1 + a) ≡ channels_from t b (j + suc a) = ap (channels_from t b) (let z : j + 1 + a ≡ j + suc a = omega arith in z) in
      omega arith

  from_other : (n j : ℕ) → (code_of t j ≡ c_channel → ⊥) → channels_from t (suc n) j ≡ channels_from t n (suc j)
  from_other n j h = from_one n j ∙ ap (λ b. pick b 1 0 + channels_from t n (j + 1)) (ne_eqb (code_of t j) c_channel h) ∙ (let z : 0 + channels_from t n (j + 1) ≡ channels_from t n (j + 1) = omega arith in z) ∙ from_next n j

  from-none : (n j : ℕ) → ((i : ℕ) → j ≤ i → i < j + n → code_of t i ≡ c_channel → ⊥) → channels_from t n j ≡ 0
  from-none zero j h = from_empty j
  from-none (suc n) j h = from_other n j (h j (omega arith) (omega arith)) ∙ from-none n (suc j) (λ i a b. h i (omega arith) (omega arith))

module _ (t : List ℕ) (m : Model) (cs vs : List ℕ) (S : Says m cs vs) (H : Held t cs vs (links_in cs vs)) where
  abbrev xs : List Item
  xs = code m

  -- over the items l, which stand from item k on
  abbrev over : List Item → ℕ → ℕ
  over l k = channels_from t (length l) k

  over-both : (x y : List Item) (k : ℕ) → over (x ++ y) k ≡ over x k + over y (k + length x)
  over-both x y k = ap (λ n. channels_from t n k) (length-append x y) ∙ from-split t (length x) (length y) k

  table-code : (k c : ℕ) → k < length xs → get_or cs k 0 ≡ c → code_of t k ≡ c
  table-code k c h e = H.codes k (let z = long m cs vs S in omega arith) ∙ e

  -- one item that is no `channel`
  skip : (n k c : ℕ) (x : Item) → k < length xs → item_at xs k ≡ x → items.code_of x ≡ c → (c ≡ c_channel → ⊥) → channels_from t (suc n) k ≡ channels_from t n (suc k)
  skip n k c x h q e o = from_other t n k (λ z. o (inv (table-code k c h (code_is m cs vs S k x h q ∙ e)) ∙ z))

  skip_type : (n k a : ℕ) → k < length xs → item_at xs k ≡ i_type a → channels_from t (suc n) k ≡ channels_from t n (suc k)
  skip_type n k a h q = let b = (type_code (subst Known q (known_at m cs vs S k h))).1 in skip n k (130 + a) (i_type a) h q refl (λ z. omega arith)

  -- two of them
  pair : (k c d : ℕ) (x y : Item) (l : List Item) → Lies xs k (x ∷ y ∷ l) → items.code_of x ≡ c → items.code_of y ≡ d → (c ≡ c_channel → ⊥) → (d ≡ c_channel → ⊥) → over (x ∷ y ∷ l) k ≡ over l (suc (suc k))
  pair k c d x y l h e f a b = skip (suc (length l)) k c x h.0 h.1 e a ∙ skip (length l) (suc k) d y h.2.0 h.2.1 f b

  typed : (k a d : ℕ) (y : Item) (l : List Item) → Lies xs k (i_type a ∷ y ∷ l) → items.code_of y ≡ d → (d ≡ c_channel → ⊥) → over (i_type a ∷ y ∷ l) k ≡ over l (suc (suc k))
  typed k a d y l h f b = skip_type (suc (length l)) k a h.0 h.1 ∙ skip (length l) (suc k) d y h.2.0 h.2.1 f b

  fields-none : (ks : List ℕ) (k : ℕ) → Lies xs k (each code_field ks) → over (each code_field ks) k ≡ 0
  fields-none [] k y = from_empty t k
  fields-none (a ∷ ks) k y = typed k a c_field i_field (each code_field ks) y refl (λ z. omega arith) ∙ fields-none ks (suc (suc k)) y.2.2

  size_none : (s : Option ℕ) (k : ℕ) → Lies xs k (code_size s) → over (code_size s) k ≡ 0
  size_none none k y = from_empty t k
  size_none (some n) k y = pair k c_number c_size (i_number n) i_size [] y refl refl (λ z. omega arith) (λ z. omega arith) ∙ from_empty t (suc (suc k))

  value_made : (v : Value) (k : ℕ) → Lies xs k (code_value v) → over (code_value v) k ≡ channels_by v
  value_made unset k y = from_empty t k
  value_made (set_number n) k y = pair k c_number c_value (i_number n) i_value [] y refl refl (λ z. omega arith) (λ z. omega arith) ∙ from_empty t (suc (suc k))
  value_made (set_minus n) k y = pair k c_number c_minus (i_number n) i_minus [] y refl refl (λ z. omega arith) (λ z. omega arith) ∙ from_empty t (suc (suc k))
  value_made set_true k y = pair k c_true c_value i_true i_value [] y refl refl (λ z. omega arith) (λ z. omega arith) ∙ from_empty t (suc (suc k))
  value_made set_false k y = pair k c_false c_value i_false i_value [] y refl refl (λ z. omega arith) (λ z. omega arith) ∙ from_empty t (suc (suc k))
  value_made (set_name w) k y = pair k c_name c_named (i_name w) i_named [] y refl refl (λ z. omega arith) (λ z. omega arith) ∙ from_empty t (suc (suc k))
  value_made (set_channel n ks) k y =
      let F = each code_field ks in
      let a = skip (suc (length F)) k c_number (i_number n) y.0 y.1 refl (λ z. omega arith) in
      let c = table-code (suc k) c_channel y.2.0 (code_is m cs vs S (suc k) i_channel y.2.0 y.2.1) in
      let b : channels_from t (suc (length F)) (suc k) ≡ 1 + channels_from t (length F) (suc k + 1) =
      from_one t (length F) (suc k) ∙ ap (λ b. pick b 1 0 + channels_from t (length F) (suc k + 1)) (eq-eqb (code_of t (suc k)) c_channel c) in
      let d = from_next t (length F) (suc k) in
      let e = fields-none ks (suc (suc k)) y.2.2 in
      omega arith

  variables-made : (us : List Variable) (k : ℕ) → Lies xs k (each code_variable us) → over (each code_variable us) k ≡ tally made_by_variable us
  variables-made [] k y = from_empty t k
  variables-made (variable w s v ∷ us) k y =
      let X = code_variable (variable w s v) in
      let E = each code_variable us in
      let R = code_size s ++ code_value v in
      let yx = lies_front xs k X E y in
      let a = over-both X E k in
      let b = pair k c_name c_declared (i_name w) i_declared R yx refl refl (λ z. omega arith) (λ z. omega arith) in
      let c = over-both (code_size s) (code_value v) (suc (suc k)) in
      let d = size_none s (suc (suc k)) (lies_front xs (suc (suc k)) (code_size s) (code_value v) yx.2.2) in
      let e = value_made v (suc (suc k) + length (code_size s)) (lies_back xs (code_size s) (code_value v) (suc (suc k)) (suc (suc k) + length (code_size s)) refl yx.2.2) in
      let f = variables-made us (k + length X) (lies_back xs X E k (k + length X) refl y) in
      omega arith

  declarations-made : (ds : List Declaration) (k : ℕ) → Lies xs k (each (code_declaration i_local) ds) → over (each (code_declaration i_local) ds) k ≡ tally made_by_declaration ds
  declarations-made [] k y = from_empty t k
  declarations-made (declare a us ∷ ds) k y =
      let X = code_declaration i_local (declare a us) in
      let E = each (code_declaration i_local) ds in
      let yx = lies_front xs k X E y in
      let b = over-both X E k in
      let c = typed k a c_local i_local (each code_variable us) yx refl (λ z. omega arith) in
      let d = variables-made us (suc (suc k)) yx.2.2 in
      let f = declarations-made ds (k + length X) (lies_back xs X E k (k + length X) refl y) in
      omega arith

  parameters_none : (ws : List Name) (k : ℕ) → Lies xs k (each code_parameter ws) → over (each code_parameter ws) k ≡ 0
  parameters_none [] k y = from_empty t k
  parameters_none (w ∷ ws) k y =
      pair k c_name c_parameter (i_name w) i_parameter (each code_parameter ws) y refl refl (λ z. omega arith) (λ z. omega arith) ∙ parameters_none ws (suc (suc k)) y.2.2

  groups_none : (gs : List Group) (k : ℕ) → Lies xs k (each code_group gs) → over (each code_group gs) k ≡ 0
  groups_none [] k y = from_empty t k
  groups_none (group a ws ∷ gs) k y =
      let X = code_group (group a ws) in
      let E = each code_group gs in
      let yx = lies_front xs k X E y in
      let b = over-both X E k in
      let c = typed k a c_group i_group (each code_parameter ws) yx refl (λ z. omega arith) in
      let d = parameters_none ws (suc (suc k)) yx.2.2 in
      let f = groups_none gs (k + length X) (lies_back xs X E k (k + length X) refl y) in
      omega arith

  -- a unit whose head is item u, up to the end of its body
  body_makes : (gs : List Group) (ds : List Declaration) (q : Tree sequence) (u b f e : ℕ) → Frame m cs vs S u b f e → b ≡ suc u + length (each code_group gs)
      → f ≡ suc b + length (each (code_declaration i_local) ds) → e ≡ f + size_in q → Lies xs (suc u) (each code_group gs) → Lies xs b (code_body (body ds q))
      → channels_from t (e - u) u ≡ tally made_by_declaration ds
  body_makes gs ds q u b f e F eb ef ee yg yb =
      let P = each code_group gs in
      let D = each (code_declaration i_local) ds in
      let T = code_tree q in
      let top = F.top in
      let hd = head-code (get_or cs u 0) F.head in
      let lg = long m cs vs S in
      let sq = size_tree q in
      let yd = lies_front xs b (i_body ∷ D) T (lies_front xs b (i_body ∷ D ++ T) (i_end_body ∷ []) yb) in
      let n : e - u ≡ suc (length P + suc (length D + length T)) = omega arith in
      let s0 = ap (λ i. channels_from t i u) n in
      let s1 = from_other t (length P + suc (length D + length T)) u (λ z. (let c = table-code u (get_or cs u 0) (omega arith) refl in omega arith)) in
      let s2 = from-split t (length P) (suc (length D + length T)) (suc u) in
      let g = groups_none gs (suc u) yg in
      let s3 : channels_from t (suc (length D + length T)) (suc u + length P) ≡ channels_from t (suc (length D + length T)) b = ap (channels_from t (suc (length D + length T))) (inv eb) in
      let s4 = skip (length D + length T) b c_body i_body yb.0 yb.1 refl (λ z. omega arith) in
      let s5 = from-split t (length D) (length T) (suc b) in
      let d = declarations-made ds (suc b) yd.2 in
      let s6 : channels_from t (length T) (suc b + length D) ≡ channels_from t (length T) f = ap (channels_from t (length T)) (inv ef) in
      let st = from-none t (length T) f (λ i x y z. (let c = F.said i x (omega arith) in let w = table-code i (get_or cs i 0) (omega arith) refl in omega arith)) in
      omega arith

  some_activity : (a : Activity) → 1 ≤ size_activity a
  some_activity idle = omega arith
  some_activity once = omega arith
  some_activity (times n) = omega arith

  -- a unit whose items begin at item i
  pub unit-makes : (x : Part) (i : ℕ) → Bodied x → Lies xs i (code_part x)
      → Frame m cs vs S (head_in x i) (body_in x i) (start_in (body_of x) (body_in x i)) (end_in (body_of x) (body_in x i))
      → channels_from t (end_in (body_of x) (body_in x i) - head_in x i) (head_in x i) ≡ made_by_body (body_of x)
  unit-makes (mtypes ws) i bo y F = absurd bo
  unit-makes (global d) i bo y F = absurd bo
  unit-makes (process a w gs (body ds q)) i bo y F =
      let A = code_activity a w in
      let P = each code_group gs in
      let X = code_body (body ds q) in
      let s1 : length (A ++ P) ≡ length A + length P = length-append A P in
      let s2 = size_activity_lem a w in
      let s3 = size_groups gs in
      let s4 = size-declarations ds in
      let l = some_activity a in
      let u = i + size_activity a - 1 in
      let b = i + size_activity a + sum size_group gs in
      let f = b + 1 + sum size_declaration ds in
      body_makes gs ds q u b f (f + size_in q) F (omega arith) (omega arith) refl (lies_back xs A P i (suc u) (omega arith) (lies_front xs i (A ++ P) X y))
      (lies_back xs (A ++ P) X i b (omega arith) y)
  unit-makes (init (body ds q)) i bo y F =
      let s4 = size-declarations ds in
      let b = i + 1 in
      let f = b + 1 + sum size_declaration ds in
      body_makes [] ds q i b f (f + size_in q) F (omega arith) (omega arith) refl tt (subst (λ i. Lies xs i (code_body (body ds q))) (let z : suc i ≡ i + 1 = omega arith in z) y.2)
