-- Where the `channel` item of a declaration stands: behind its capacity, before its fields, of which there are no more than the tree has. And within the ceilings: "message fields 1 to 4; capacity
-- 1 to 8".
use Prim.Native.Nat.{ℕ, zero, suc, ◌+◌, ◌-◌, ◌≤◌}
use native.Mathlib.Omega.{arith}
use mathlib.Core.Path.{◌≡◌, refl, sym as inv, ap, ◌∙◌, subst}
use mathlib.Core.Bool.{Bool, true, false}
use mathlib.Core.Option.{Option}
use mathlib.Core.List.{List, [], ◌∷◌, ◌++◌, map, append_assoc}
use lib.ListN.{length, get_or, length-append, length-map, get_or-append}
use lib.Seq.{get_or-append-add}
use lib.Dec.{ltb, leb}
use borrow.Author.Tests.{leb-true, ltb-true, ltb-false}
use Rattle.base_ceilings.specs.Ceilings.{capacity_least, capacity_most, fields_most}
use Rattle.base_bytes.specs.Choice.{pick, both}
use Rattle.base_bytes.proofs.Tests.{both_true}
use Rattle.spec_grammar.specs.Tree.{Name, Model, sequence, Tree, Value, unset, set_channel, Variable, variable, Declaration, declare, Group, group, body, Part, mtypes, global, process, init}
use Rattle.base_codes.specs.Items.{Item, i_body, i_declared, i_end_body, i_global, i_local, i_name}
use Rattle.parse_code.specs.Code.{each, code_size, code_value, code_variable, code_declaration, code_group, code_tree, code_body, code_activity, code_part, code}
use Rattle.spec_rules.specs.Senses.{Sense, Scope, fresh, sense_of}
use Rattle.spec_rules.specs.Ceilings.{channels_by}
use Rattle.spec_rules.specs.Units as units
use Rattle.spec_rules.specs.Units.{of_part}
use Rattle.legal_rules.specs.Units.{sized, valued, local_lawful, global_lawful, variables, declarations, joins, body_lawful, part_lawful, parts_lawful}
use Rattle.legal_terms.specs.Says.{Says}
use Rattle.legal_declarations.proofs.Standing.{Lies, lies_front, lies_back}
use Rattle.spec_machine.specs.Sizes.{sum, size_size, size_variable, size_declaration, size_group, size_activity, size_part}
use Rattle.agree_sizes.proofs.Sizes.{size-size, size_variable_lem, size_declaration_lem, size_groups, size_body_lem, size_activity_lem, size-part}
use Rattle.spec_machine.specs.Names.{Var, of_variable, of_declarations, of_parameter, of_group, of_groups, variables_of, unit_at}
use Rattle.spec_machine.specs.Begins.{items_before}
use Rattle.spec_machine.specs.Plain.{no_var}
use Rattle.agree_encode.specs.Encode.{variable_at, declared_at, count_groups, channel_item_in}
use Rattle.agree_names.proofs.Ends.{Free, free_variables, free_declarations, free_body}
use Rattle.agree_names.proofs.Units.{first-stands}

-- ---- lawful values
abbrev Narrow : Value → Type 0
Narrow v = (n : ℕ) (ks : List ℕ) → v ≡ set_channel n ks → (n ≤ capacity_most) × (length ks ≤ fields_most)

abbrev Fine : List Variable → Type 0
Fine [] = Unit {0}
Fine (variable w s v ∷ us) = Narrow v × Fine us

valued-narrow : (sense : Name → Sense) (v : Value) → valued sense v ≡ true → Narrow v
valued-narrow sense v h n ks e =
    let p = both_true (both (leb capacity_least n) (leb n capacity_most)) (leb (length ks) fields_most) (inv (ap (valued sense) e) ∙ h) in
    (leb-true n capacity_most (both_true (leb capacity_least n) (leb n capacity_most) p.0).1, leb-true (length ks) fields_most p.1)

-- the tests f of the variables ask that their values are lawful
fine_variables : (f : Scope → Variable → Bool) (k : ℕ) → ((l : Scope) (w : Name) (s : Option ℕ) (v : Value) → f l (variable w s v) ≡ true → Narrow v) → (us : List Variable) (l : Scope)
    → variables f k l us ≡ true → Fine us
unfolding variables
fine_variables f k F [] l h = tt
fine_variables f k F (variable w s v ∷ us) l h =
    let p = both_true (f l (variable w s v)) (variables f k (l ++ units.sense_of_variable k (variable w s v) ∷ []) us) h in
    (F l w s v p.0, fine_variables f k F us (l ++ units.sense_of_variable k (variable w s v) ∷ []) p.1)

fine_local : (g : Scope) (k : ℕ) (l : Scope) (us : List Variable) → variables (λ l x. local_lawful g l k x) k l us ≡ true → Fine us
fine_local g k l us h =
    fine_variables (λ l x. local_lawful g l k x) k
    (λ l w s v e. (let S = sense_of (l ++ units.sense_of_variable k (variable w s v) ∷ []) g in
    valued-narrow S v (both_true (sized s) (valued S v) (both_true (fresh l w) (both (sized s) (valued S v)) e).1).1)) us l h

fine_global : (k : ℕ) (l : Scope) (us : List Variable) → variables (λ l x. global_lawful l k x) k l us ≡ true → Fine us
fine_global k l us h =
    fine_variables (λ l x. global_lawful l k x) k
    (λ l w s v e. (let S = sense_of [] (l ++ units.sense_of_variable k (variable w s v) ∷ []) in
    valued-narrow S v (both_true (sized s) (valued S v) (both_true (fresh l w) (both (sized s) (valued S v)) e).1).1)) us l h

-- what makes no channel is no channel
no_channel_lem : (v : Value) (n : ℕ) (ks : List ℕ) → channels_by v ≡ 0 → v ≡ set_channel n ks → ⊥
no_channel_lem v n ks a e = let z = ap channels_by e in omega arith

groups_count : (gs : List Group) → length (of_groups gs) ≡ count_groups gs
groups_count [] = refl
groups_count (group k ws ∷ gs) = let a = length-append (of_group (group k ws)) (of_groups gs) in let b = length-map ws (of_parameter k) in let c = groups_count gs in omega arith

parameters_unset : (k : ℕ) (ws : List Name) (j : ℕ) → (get_or (map (of_parameter k) ws) j no_var).value ≡ unset
parameters_unset k [] j = refl
parameters_unset k (w ∷ ws) zero = refl
parameters_unset k (w ∷ ws) (suc j) = parameters_unset k ws j

-- a place in two lists
front_at : (xs ys : List Var) (j : ℕ) → ltb j (length xs) ≡ true → get_or (xs ++ ys) j no_var ≡ get_or xs j no_var
front_at xs ys j h = get_or-append xs ys no_var j (ltb-true j (length xs) h)

back_at : (xs ys : List Var) (j : ℕ) → ltb j (length xs) ≡ false → get_or (xs ++ ys) j no_var ≡ get_or ys (j - length xs) no_var
back_at xs ys j h =
    let l = ltb-false j (length xs) h in
    ap (λ i. get_or (xs ++ ys) i no_var) (let z : j ≡ length xs + (j - length xs) = omega arith in z) ∙ get_or-append-add xs ys (j - length xs) no_var

groups_unset : (gs : List Group) (j : ℕ) → (get_or (of_groups gs) j no_var).value ≡ unset
groups_unset [] j = refl
groups_unset (group k ws ∷ gs) j = go (ltb j (length (map (of_parameter k) ws))) refl (λ i. groups_unset gs i)
  where
    go : (b : Bool) → ltb j (length (map (of_parameter k) ws)) ≡ b → ((i : ℕ) → (get_or (of_groups gs) i no_var).value ≡ unset) → (get_or (map (of_parameter k) ws ++ of_groups gs) j no_var).value ≡ unset
    go true e r = ap (λ (x : Var). x.value) (front_at (map (of_parameter k) ws) (of_groups gs) j e) ∙ parameters_unset k ws j
    go false e r = ap (λ (x : Var). x.value) (back_at (map (of_parameter k) ws) (of_groups gs) j e) ∙ r (j - length (map (of_parameter k) ws))

module _ (m : Model) (cs vs : List ℕ) (S : Says m cs vs) where
  abbrev xs : List Item
  xs = code m

  -- item d is the `channel` item of such a value
  pub record Made (d n : ℕ) (ks : List ℕ) : Type 0 where
    pub from : ℕ
    pub at : d ≡ suc from
    pub lies : Lies xs from (code_value (set_channel n ks))
    pub free : Free cs (from + length (code_value (set_channel n ks)))
    pub most : (n ≤ capacity_most) × (length ks ≤ fields_most)

  module _ (n : ℕ) (ks : List ℕ) where
    abbrev Chan : Var → Type 0
    Chan x = x.value ≡ set_channel n ks

    variables-made : (t : ℕ) (us : List Variable) (k j : ℕ) → Lies xs k (each code_variable us) → Free cs (k + length (each code_variable us)) → Fine us
        → Chan (get_or (map (of_variable t) us) j no_var) → Made (variable_at us j k) n ks
    unfolding variable_at
    variables-made t [] k j y f g e = absurd (no_channel_lem unset n ks refl e)
    variables-made t (variable w s v ∷ us) k zero y f g e =
        let X = code_variable (variable w s v) in
        let E = each code_variable us in
        let H = i_name w ∷ i_declared ∷ code_size s in
        let Y = set_channel n ks in
        let n1 : length (X ++ E) ≡ length X + length E = length-append X E in
        let n2 : length (H ++ code_value v) ≡ length H + length (code_value v) = length-append H (code_value v) in
        let n3 = size-size s in
        let i = k + 2 + size_size s in
        let f2 = free_variables m cs vs S us (k + length X) (lies_back xs X E k (k + length X) refl y) (subst (Free cs) (let z : k + length (X ++ E) ≡ k + length X + length E = omega arith in z) f) in
        record {
          from = i;
          at = omega arith;
          lies = subst (λ x. Lies xs i (code_value x)) e (lies_back xs H (code_value v) k i (omega arith) (lies_front xs k X E y));
          free = subst (λ x. Free cs (i + length (code_value x))) e (subst (Free cs) (let z : k + length X ≡ i + length (code_value v) = omega arith in z) f2);
          most = g.0 n ks e;
        }
    variables-made t (variable w s v ∷ us) k (suc j) y f g e =
        let X = code_variable (variable w s v) in
        let E = each code_variable us in
        let n1 : length (X ++ E) ≡ length X + length E = length-append X E in
        let n2 = size_variable_lem (variable w s v) in
        let i = k + size_variable (variable w s v) in
        variables-made t us i j (lies_back xs X E k i (omega arith) y) (subst (Free cs) (let z : k + length (X ++ E) ≡ i + length E = omega arith in z) f) g.1 e

    -- of one declaration, with its type and mark
    declared-made : (x : Item) (t : ℕ) (us : List Variable) (k j : ℕ) → Lies xs k (code_declaration x (declare t us)) → Free cs (k + size_declaration (declare t us)) → Fine us
        → Chan (get_or (map (of_variable t) us) j no_var) → Made (variable_at us j (k + 2)) n ks
    declared-made x t us k j y f g e =
        let z : suc (suc k) ≡ k + 2 = omega arith in
        variables-made t us (k + 2) j (subst (λ i. Lies xs i (each code_variable us)) z y.2.2)
        (subst (Free cs) (let w : k + size_declaration (declare t us) ≡ k + 2 + length (each code_variable us) = omega (arith, size_declaration_lem x (declare t us)) in w) f) g e

    declarations-made : (G l : Scope) (ds : List Declaration) (k j : ℕ) → Lies xs k (each (code_declaration i_local) ds) → Free cs (k + length (each (code_declaration i_local) ds))
        → declarations G l ds ≡ true → Chan (get_or (of_declarations ds) j no_var) → Made (declared_at ds j k) n ks
    unfolding declared_at declarations
    declarations-made G l [] k j y f g e = absurd (no_channel_lem unset n ks refl e)
    declarations-made G l (declare t us ∷ ds) k j y f g e =
        let X = code_declaration i_local (declare t us) in
        let E = each (code_declaration i_local) ds in
        let n1 : length (X ++ E) ≡ length X + length E = length-append X E in
        let n2 = size_declaration_lem i_local (declare t us) in
        let i = k + size_declaration (declare t us) in
        let p = both_true (variables (λ l x. local_lawful G l t x) t l us) (declarations G (l ++ units.scope_of_declaration (declare t us)) ds) g in
        let y2 = lies_back xs X E k i (omega arith) y in
        let f2 = subst (Free cs) (let z : k + length (X ++ E) ≡ i + length E = omega arith in z) f in
        go (ltb j (length us)) refl (declared-made i_local t us k j (lies_front xs k X E y) (free_declarations m cs vs S ds i y2 f2) (fine_local G t l us p.0))
        (declarations-made G (l ++ units.scope_of_declaration (declare t us)) ds i (j - length us) y2 f2 p.1)
      where
        go : (b : Bool) → ltb j (length us) ≡ b → (Chan (get_or (map (of_variable t) us) j no_var) → Made (variable_at us j (k + 2)) n ks)
            → (Chan (get_or (of_declarations ds) (j - length us) no_var) → Made (declared_at ds (j - length us) (k + size_declaration (declare t us))) n ks)
            → Made (pick b (variable_at us j (k + 2)) (declared_at ds (j - length us) (k + size_declaration (declare t us)))) n ks
        go true q a b = a (ap (λ (x : Var). x.value) (inv (front_at (map (of_variable t) us) (of_declarations ds) j (ap (ltb j) (length-map us (of_variable t)) ∙ q))) ∙ e)
        go false q a b =
            let c = length-map us (of_variable t) in
            b (ap (λ i. (get_or (of_declarations ds) (j - i) no_var).value) (inv c) ∙ ap (λ (x : Var). x.value) (inv (back_at (map (of_variable t) us) (of_declarations ds) j (ap (ltb j) c ∙ q))) ∙ e)

    body_made : (M G l : Scope) (ds : List Declaration) (q : Tree sequence) (b j : ℕ) → Lies xs b (code_body (body ds q)) → Free cs (b + length (code_body (body ds q)))
        → body_lawful M G l (body ds q) ≡ true → Chan (get_or (of_declarations ds) j no_var) → Made (declared_at ds j (b + 1)) n ks
    unfolding body_lawful
    body_made M G l ds q b j y f g e =
        let D = each (code_declaration i_local) ds in
        let z : suc b ≡ b + 1 = omega arith in
        let yd = lies_front xs b (i_body ∷ D) (code_tree q) (lies_front xs b (i_body ∷ D ++ code_tree q) (i_end_body ∷ []) y) in
        declarations-made G l ds (b + 1) j (subst (λ i. Lies xs i D) z yd.2) (subst (λ i. Free cs (i + length D)) z (free_body m cs vs S ds q b y f))
        (both_true (declarations G l ds) _ g).0 e

    part-made : (M G : Scope) (x : Part) (i j : ℕ) → Lies xs i (code_part x) → Free cs (i + size_part x) → part_lawful M G x ≡ true → Chan (get_or (variables_of x) j no_var)
        → Made (channel_item_in x j i) n ks
    part-made M G (mtypes ws) i j y f g e = absurd (no_channel_lem unset n ks refl e)
    part-made M G (global (declare t us)) i j y f g e = declared-made i_global t us i j y f (fine_global t G us g) e
    part-made M G (process a w gs (body ds q)) i j y f g e =
        let A = code_activity a w in
        let P = each code_group gs in
        let X = code_body (body ds q) in
        let s1 : length (A ++ P) ≡ length A + length P = length-append A P in
        let s2 = size_activity_lem a w in
        let s3 = size_groups gs in
        let s4 = size_body_lem (body ds q) in
        let b = i + size_activity a + sum size_group gs in
        let G2 = G ++ of_part (process a w gs (body ds q)) in
        let h1 = (both_true (fresh G w) (both (joins [] (units.scope_of_groups gs)) (body_lawful M G2 (units.scope_of_groups gs) (body ds q))) g).1 in
        let h2 = (both_true (joins [] (units.scope_of_groups gs)) (body_lawful M G2 (units.scope_of_groups gs) (body ds q)) h1).1 in
        body_made M G2 (units.scope_of_groups gs) ds q b (j - count_groups gs) (lies_back xs (A ++ P) X i b (omega arith) y)
        (subst (Free cs) (let z : i + size_part (process a w gs (body ds q)) ≡ b + length X = omega arith in z) f) h2 (go (ltb j (length (of_groups gs))) refl)
      where
        go : (c : Bool) → ltb j (length (of_groups gs)) ≡ c → Chan (get_or (of_declarations ds) (j - count_groups gs) no_var)
        go true r = absurd (no_channel_lem unset n ks refl (inv (groups_unset gs j) ∙ ap (λ (x : Var). x.value) (inv (front_at (of_groups gs) (of_declarations ds) j r)) ∙ e))
        go false r =
            ap (λ i. (get_or (of_declarations ds) (j - i) no_var).value) (inv (groups_count gs)) ∙ ap (λ (x : Var). x.value) (inv (back_at (of_groups gs) (of_declarations ds) j r)) ∙ e
    part-made M G (init (body ds q)) i j y f g e =
        let z : suc i ≡ i + 1 = omega arith in
        body_made M G [] ds q (i + 1) j (subst (λ i. Lies xs i (code_body (body ds q))) z y.2)
        (subst (Free cs) (let w : i + size_part (init (body ds q)) ≡ i + 1 + length (code_body (body ds q)) = omega (arith, size_body_lem (body ds q)) in w) f) g e

    units-made : (M G : Scope) (u : Model) (front : List Item) (i p j k : ℕ) → xs ≡ front ++ code u → i ≡ length front → k ≡ i + items_before u p → parts_lawful M G u ≡ true
        → Chan (get_or (variables_of (unit_at u p)) j no_var) → Made (channel_item_in (unit_at u p) j k) n ks
    unfolding items_before parts_lawful
    units-made M G [] front i p j k split at ek g e = absurd (no_channel_lem unset n ks refl e)
    units-made M G (x ∷ u) front i zero j k split at ek g e =
        let r = first-stands m cs vs S x u front i split at in
        subst (λ k. Made (channel_item_in x j k) n ks) (let z : i ≡ k = omega arith in z)
        (part-made M G x i j r.0 r.2 (both_true (part_lawful M G x) (parts_lawful M (G ++ of_part x) u) g).0 e)
    units-made M G (x ∷ u) front i (suc p) j k split at ek g e =
        let s3 : length (front ++ code_part x) ≡ length front + length (code_part x) = length-append front (code_part x) in
        let s4 = size-part x in
        units-made M (G ++ of_part x) u (front ++ code_part x) (i + size_part x) p j k (split ∙ inv (append_assoc front (code_part x) (code u))) (omega arith) (omega arith)
        (both_true (part_lawful M G x) (parts_lawful M (G ++ of_part x) u) g).1 e

    -- variable j of unit p, which makes a channel
    pub channel-made : (M : Scope) (p j : ℕ) → parts_lawful M [] m ≡ true → Chan (get_or (variables_of (unit_at m p)) j no_var) → Made (channel_item_in (unit_at m p) j (items_before m p)) n ks
    channel-made M p j g e = units-made M [] m [] 0 p j (items_before m p) refl refl (omega arith) g e
