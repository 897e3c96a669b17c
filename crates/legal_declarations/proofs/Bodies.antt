-- Units with a body: which items are in the body, how many parameters it has, what searches find for the names of its statements (`Setting`), and the faults of its items.
use Prim.Native.Nat.{ℕ, suc, ◌+◌, ◌-◌, ◌≤◌, ◌<◌}
use native.Mathlib.Omega.{arith}
use native.Mathlib.Decide.{ℕ_discrete, dec_lt}
use mathlib.Core.Path.{◌≡◌, refl, sym, ap, ◌∙◌, subst}
use mathlib.Core.Bool.{Bool, true, false}
use mathlib.Core.Logic.{◌⊎◌, inl, inr}
use mathlib.Core.List.{List, [], ◌∷◌, ◌++◌, append-nil}
use lib.ListN.{length, get_or, length-append, length-map}
use borrow.Author.Tests.{ne_eqb, eq-eqb, lt-ltb, lt-leb}
use Rattle.base_codes.specs.Codes.{c_argument, c_body, c_declared, c_end_body, c_end_option, c_field, c_len, c_local, c_message, c_name, c_option, c_parameter, c_proctype, c_size}
use Rattle.base_bytes.specs.Choice.{pick}
use Rattle.base_bytes.proofs.Tests.{true_false}
use Rattle.base_kinds.specs.Kinds.{Token}
use Rattle.rule_sheets.specs.Walks.{sum}
use Rattle.rule_sheets.specs.Homes.{inside_of}
use Rattle.rule_search.specs.Sets.{among}
use Rattle.rule_search.specs.Search.{find, one, count}
use Rattle.rule_item.specs.Rules.{global_of, body_of}
use Rattle.spec_grammar.specs.Tree.{Name, Model, sequence, Tree, Declaration, Group, group, body}
use Rattle.base_codes.specs.Items.{Item, i_body, i_end_body, i_group, i_local, i_name, i_parameter, i_type}
use Rattle.base_codes.specs.Sets.{rule_of, is_unit}
use Rattle.parse_code.specs.Code.{each, code_tree, code_declaration, code_parameter, code_group, code_body, code}
use Rattle.spec_grammar.specs.Grammar.{Items, statements, declared, ABody, a_body}
use Rattle.spec_rules.specs.Senses.{Sense, variable, constant, procedure, unknown, Scope, sense_in, sense_of}
use Rattle.spec_rules.specs.Statements.{Place, labels_of}
use Rattle.spec_rules.specs.Units.{sense_of_parameter, scope_of_group, scope_of_groups, scope_of_declaration}
use Rattle.spec_faults.specs.Faults.{in_tree, in_items, in_body}
use Rattle.parse_spots.specs.Spots.{spots_tree, spots_declaration, spots_items, spots_body}
use Rattle.parse_spots.proofs.Coded.{declaration_code, items-code}
use Rattle.table_entries.specs.Items.{Known}
use Rattle.table_entries.proofs.Items.{type_code}
use Rattle.legal_terms.specs.Says.{item_at, Says}
use Rattle.legal_terms.specs.Setting.{Runs, Setting}
use Rattle.legal_terms.specs.Faulted.{faults_from, Statements}
use Rattle.keep_tables.proofs.Sums.{sum-split, sum_nones}
use Rattle.legal_declarations.proofs.Items.{spoken, settled, declaring, Calm, all_tree, all-declarations, all_groups}
use Rattle.legal_declarations.proofs.Standing.{Lies, lies_front, lies_back, lies_all, long, known_at, code_is, spoken_at, declaring_at, settled_at, Span, items_long, span-front, span-back, span_tail, span_lies}
use Rattle.legal_declarations.proofs.Homes.{inside-head, inside_end, inside-over, home_inside, home_most, home_later}
use Rattle.legal_declarations.proofs.Scopes.{Out, Scoped, out_known, scoped_next, scoped_over, lookup-finds}
use Rattle.legal_declarations.proofs.Judging.{hs, Gives, gives_join, gives_to, gives_none, gives_skip}
use Rattle.legal_declarations.proofs.Variables.{After}
use Rattle.legal_declarations.proofs.Declarations.{after-declarations, named_local, local_passed}
use Rattle.rule_sheets.proofs.Meaning.{no_head}

spoken-one : (c : ℕ) → c ≤ c_end_option → among 1 c ≡ false
unfolding among
spoken-one c h = rw (ne_eqb c c_declared (λ z. omega arith), ne_eqb c c_message (λ z. omega arith), lt-leb c_parameter c (omega arith))

not_six : (c : ℕ) → (c ≡ c_parameter → ⊥) → among 6 c ≡ false
unfolding among
not_six c n = ne_eqb c c_parameter n

six : among 6 c_parameter ≡ true
unfolding among
six = refl

thirteen : (c : ℕ) → c ≤ c_parameter → among 13 c ≡ false
unfolding among
thirteen c h = rw (lt-leb c_proctype c (omega arith))

fourteen : (c : ℕ) → among 14 c ≡ true → c ≤ c_parameter
unfolding among
fourteen c e = go (ℕ_discrete c c_declared) (ℕ_discrete c c_parameter)
  where
    go : Dec (c ≡ c_declared) → Dec (c ≡ c_parameter) → c ≤ c_parameter
    go (yes z) d = omega arith
    go (no z) (yes y) = omega arith
    go (no z) (no y) = absurd (true_false (sym e ∙ rw (ne_eqb c c_declared z, ne_eqb c c_parameter y) refl))

end_none : (l : List ℕ) → get_or l (length l) 0 ≡ 0
end_none [] = refl
end_none (x ∷ l) = end_none l

marks : (rule_of c_body ≡ 0) × (rule_of c_end_body ≡ 0)
unfolding rule_of
marks = (refl, refl)

body_one : among 1 c_body ≡ false
unfolding among
body_one = refl

module _ (m : Model) (cs vs : List ℕ) (S : Says m cs vs) where
  abbrev xs : List Item
  xs = code m

  abbrev H : List ℕ
  H = hs m cs vs S

  abbrev Sc : Scope → ℕ → ℕ → Type 0
  Sc = Scoped m cs vs H S

  -- a unit: its head is item u, its body begins at item b, the statements at item f, and the body ends at item t
  pub record Frame (u b f t : ℕ) : Type 0 where
    pub head : is_unit (get_or cs u 0) ≡ true
    pub parts : suc u ≤ b
    pub inner : suc b ≤ f
    pub last : f ≤ t
    pub top : t < length cs
    pub before : (j : ℕ) → suc u ≤ j → j < b → Calm (get_or cs j 0)
    pub begin : get_or cs b 0 ≡ c_body
    pub own : (j : ℕ) → suc b ≤ j → j < f → (get_or cs j 0 ≤ c_field) × Calm (get_or cs j 0)
    pub said : (j : ℕ) → f ≤ j → j < t → get_or cs j 0 ≤ c_end_option
    pub ends : get_or cs t 0 ≡ c_end_body

  module _ (u b f t : ℕ) (F : Frame u b f t) where
    plain_in : (j : ℕ) → suc u ≤ j → j < t → (is_unit (get_or cs j 0) ≡ false) × (get_or cs j 0 ≡ c_end_body → ⊥)
    plain_in j g h = go (dec_lt j b) (ℕ_discrete j b) (dec_lt j f)
      where
        low : get_or cs j 0 ≤ c_parameter → (is_unit (get_or cs j 0) ≡ false) × (get_or cs j 0 ≡ c_end_body → ⊥)
        low l = (no_head (get_or cs j 0) l, λ z. omega arith)

        go : Dec (j < b) → Dec (j ≡ b) → Dec (j < f) → (is_unit (get_or cs j 0) ≡ false) × (get_or cs j 0 ≡ c_end_body → ⊥)
        go (yes x) y z = low (F.before j g x).most
        go (no x) (yes y) z = let c : get_or cs j 0 ≡ c_body = ap (λ n. get_or cs n 0) y ∙ F.begin in (rw c refl, λ z. omega arith)
        go (no x) (no y) (yes z) = low (F.own j (omega arith) z).1.most
        go (no x) (no y) (no z) = let a = F.said j (omega arith) h in low (omega arith)

    inside-unit : (j : ℕ) → suc u ≤ j → j ≤ t → inside_of cs j ≡ suc u
    inside-unit j g h = inside-over cs (suc u) j g (λ i x y. plain_in i x (omega arith)) ∙ inside-head cs u F.head

    pub home_in : (j : ℕ) → suc u ≤ j → j ≤ t → get_or H j 0 ≡ suc u
    home_in j g h = home_inside cs S.few j (omega arith) (go (ℕ_discrete j t)) ∙ inside-unit j g h
      where
        go : Dec (j ≡ t) → is_unit (get_or cs j 0) ≡ false
        go (yes z) = let c : get_or cs j 0 ≡ c_end_body = ap (λ n. get_or cs n 0) z ∙ F.ends in rw c refl
        go (no z) = (plain_in j g (omega arith)).0

    pub inside-after : inside_of cs (suc t) ≡ 0
    inside-after = inside_end cs t F.ends

    pub home_only : (j : ℕ) → j < length cs → get_or H j 0 ≡ suc u → (suc u ≤ j) × (j ≤ t)
    home_only j g e = (below (dec_lt j (suc u)), above (dec_lt t j))
      where
        below : Dec (j < suc u) → suc u ≤ j
        below (yes z) = absurd (let a = home_most cs S.few j g in omega arith)
        below (no z) = omega arith

        later : (get_or (hs m cs vs S) j 0 ≡ 0) ⊎ (suc t < get_or (hs m cs vs S) j 0) → ⊥
        later (inl z) = omega arith
        later (inr z) = omega arith

        above : Dec (t < j) → j ≤ t
        above (yes z) = absurd (later (home_later cs S.few (suc t) j inside-after (omega arith) g))
        above (no z) = omega arith

    inner-only : (j : ℕ) → j < length cs → get_or H j 0 ≡ suc u → (Calm (get_or cs j 0) → ⊥) → (get_or cs j 0 ≡ c_body → ⊥) → (get_or cs j 0 ≡ c_end_body → ⊥) → (f ≤ j) × (j < t)
    inner-only j g e n p q = go (dec_lt j b) (ℕ_discrete j b) (dec_lt j f) (ℕ_discrete j t)
      where
        go : Dec (j < b) → Dec (j ≡ b) → Dec (j < f) → Dec (j ≡ t) → (f ≤ j) × (j < t)
        go (yes x) y z w = absurd (n (F.before j (home_only j g e).0 x))
        go (no x) (yes y) z w = absurd (p (ap (λ i. get_or cs i 0) y ∙ F.begin))
        go (no x) (no y) (yes z) w = absurd (n (F.own j (omega arith) z).1)
        go (no x) (no y) (no z) (yes w) = absurd (q (ap (λ i. get_or cs i 0) w ∙ F.ends))
        go (no x) (no y) (no z) (no w) = let a = (home_only j g e).1 in (omega arith, omega arith)

    -- ---- how many parameters
    abbrev unit : ℕ → ℕ
    unit j = one cs H 6 (u + 1) j

    unit-none : (j : ℕ) → among 6 (get_or cs j 0) ≡ false → unit j ≡ 0
    unfolding one
    unit-none j e = rw e

    unit_other : (j : ℕ) → (get_or H j 0 ≡ u + 1 → ⊥) → unit j ≡ 0
    unfolding one
    unit_other j n = rw (ne_eqb (get_or H j 0) (u + 1) n) (go (among 6 (get_or cs j 0)))
      where
        go : (b : Bool) → ◌≡◌ {A = ℕ} (pick b 0 0) 0
        go true = refl
        go false = refl

    unit-one : (j : ℕ) → get_or cs j 0 ≡ c_parameter → get_or H j 0 ≡ u + 1 → unit j ≡ 1
    unfolding one
    unit-one j e g = rw (ap (among 6) e ∙ six, eq-eqb (get_or H j 0) (u + 1) g)

    count_parameters : (ws : List Name) (k : ℕ) → Lies xs k (each code_parameter ws) → suc u ≤ k → k + length (each code_parameter ws) ≤ b
        → sum unit k (length (each code_parameter ws)) ≡ length ws
    unfolding sum
    count_parameters [] k y g h = refl
    count_parameters (w ∷ ws) k y g h =
        let c = code_is m cs vs S k (i_name w) y.0 y.1 in
        let d = code_is m cs vs S (suc k) i_parameter y.2.0 y.2.1 in
        let a0 = unit-none k (not_six (get_or cs k 0) (λ z. omega arith)) in
        let a1 : unit (k + 1) ≡ 1 = ap unit (let z : k + 1 ≡ suc k = omega arith in z) ∙ unit-one (suc k) d (home_in (suc k) (omega arith) (omega arith) ∙
        (let z : suc u ≡ u + 1 = omega arith in z)) in
        let r : sum unit (k + 1 + 1) (length (each code_parameter ws)) ≡ length ws =
        ap (λ n. sum unit n (length (each code_parameter ws))) (let z : k + 1 + 1 ≡ suc (suc k) = omega arith in z) ∙ count_parameters ws (suc (suc k)) y.2.2 (omega arith)
        (omega arith) in
        omega arith

    count_groups : (gs : List Group) (k : ℕ) → Lies xs k (each code_group gs) → suc u ≤ k → k + length (each code_group gs) ≤ b
        → sum unit k (length (each code_group gs)) ≡ length (scope_of_groups gs)
    unfolding sum
    count_groups [] k y g h = refl
    count_groups (group n ws ∷ gs) k y g h =
        let P = each code_parameter ws in
        let G = each code_group gs in
        let sizes : length (i_type n ∷ i_group ∷ P ++ G) ≡ suc (suc (length P)) + length G = length-append (i_type n ∷ i_group ∷ P) G in
        let k3 = suc (suc k) + length P in
        let front = lies_front xs k (i_type n ∷ i_group ∷ P) G y in
        let back = lies_back xs (i_type n ∷ i_group ∷ P) G k k3 (omega arith) y in
        let low = (type_code (subst Known y.1 (known_at m cs vs S k y.0))).1 in
        let ct = code_is m cs vs S k (i_type n) y.0 y.1 in
        let d = code_is m cs vs S (suc k) i_group y.2.0 y.2.1 in
        let a0 = unit-none k (not_six (get_or cs k 0) (λ z. omega arith)) in
        let a1 : unit (k + 1) ≡ 0 = ap unit (let z : k + 1 ≡ suc k = omega arith in z) ∙ unit-none (suc k) (not_six (get_or cs (suc k) 0) (λ z. omega arith)) in
        let a2 = count_parameters ws (suc (suc k)) front.2.2 (omega arith) (omega arith) in
        let a3 = count_groups gs k3 back (omega arith) (omega arith) in
        let whole : sum unit k (length (i_type n ∷ i_group ∷ P ++ G)) ≡ sum unit k (suc (suc (length P + length G))) = ap (sum unit k)
        (let z : length (i_type n ∷ i_group ∷ P ++ G) ≡ suc (suc (length P + length G)) = omega arith in z) in
        let cut : sum unit (k + 1 + 1) (length P + length G) ≡ sum unit (suc (suc k)) (length P) + sum unit k3 (length G) =
        ap (λ i. sum unit i (length P + length G)) (let z : k + 1 + 1 ≡ suc (suc k) = omega arith in z) ∙ sum-split unit (length P) (length G) (suc (suc k)) in
        let l1 : length (scope_of_group (group n ws) ++ scope_of_groups gs) ≡ length (scope_of_group (group n ws)) + length (scope_of_groups gs) = length-append (scope_of_group (group n ws)) (scope_of_groups gs) in
        let l2 : length (scope_of_group (group n ws)) ≡ length ws = length-map ws (sense_of_parameter n) in
        whole ∙ (let z : unit k + (unit (k + 1) + sum unit (k + 1 + 1) (length P + length G)) ≡ length (scope_of_group (group n ws) ++ scope_of_groups gs) = omega arith in z)

    pub parameters_counted : (gs : List Group) → Lies xs (suc u) (each code_group gs) → b ≡ suc u + length (each code_group gs) → count cs H 6 (u + 1) 0 (length cs) ≡ length (scope_of_groups gs)
    unfolding count
    parameters_counted gs y e =
        let n = length cs in
        let g = length (each code_group gs) in
        let cut1 : sum unit 0 (n - 0) ≡ sum unit 0 (suc u) + sum unit (0 + suc u) (n - suc u) =
        ap (sum unit 0) (let z : n - 0 ≡ suc u + (n - suc u) = omega arith in z) ∙ sum-split unit (suc u) (n - suc u) 0 in
        let cut2 : sum unit (0 + suc u) (n - suc u) ≡ sum unit (suc u) g + sum unit (suc u + g) (n - b) =
        ap (λ i. sum unit i (n - suc u)) (let z : 0 + suc u ≡ suc u = omega arith in z) ∙ ap (sum unit (suc u)) (let z : n - suc u ≡ g + (n - b) = omega arith in z)
        ∙ sum-split unit g (n - b) (suc u) in
        let s1 : sum unit 0 (suc u) ≡ 0 = sum_nones unit (suc u) 0 (λ j x z. unit_other j (λ q. (let a = home_most cs S.few j (omega arith) in omega arith))) in
        let s2 = count_groups gs (suc u) y (omega arith) (omega arith) in
        let s3 : sum unit (suc u + g) (n - b) ≡ 0 = sum_nones unit (n - b) (suc u + g) (λ j x z. body_none j (omega arith) (omega arith)) in
        omega arith
      where
        body_none : (j : ℕ) → b ≤ j → j < length cs → one cs (hs m cs vs S) 6 (u + 1) j ≡ 0
        body_none j x z = go (ℕ_discrete j b) (dec_lt j f) (dec_lt j t) (ℕ_discrete j t)
          where
            go : Dec (j ≡ b) → Dec (j < f) → Dec (j < t) → Dec (j ≡ t) → one cs (hs m cs vs S) 6 (u + 1) j ≡ 0
            go (yes p) q r s = unit-none j (not_six (get_or cs j 0) (λ y. (let c : get_or cs j 0 ≡ c_body = ap (λ n. get_or cs n 0) p ∙ F.begin in omega arith)))
            go (no p) (yes q) r s = unit-none j (not_six (get_or cs j 0) (λ y. (let c = (F.own j (omega arith) q).0 in omega arith)))
            go (no p) (no q) (yes r) s = unit-none j (not_six (get_or cs j 0) (λ y. (let c = F.said j (omega arith) r in omega arith)))
            go (no p) (no q) (no r) (yes s) = unit-none j (not_six (get_or cs j 0) (λ y. (let c : get_or cs j 0 ≡ c_end_body = ap (λ n. get_or cs n 0) s ∙ F.ends in omega arith)))
            go (no p) (no q) (no r) (no s) = unit_other j (λ y. (let a = (home_only j z (y ∙ (let w : u + 1 ≡ suc u = omega arith in w))).1 in omega arith))

    -- ---- what searches find for the names of the statements, with the locals l, the globals g before them and those of the whole model
    out_runs : (d : ℕ) (s : Sense) → Out cs H d (length cs) s → Runs cs H d s
    unfolding body_of
    out_runs d (variable c a) o = let z = fourteen (get_or cs d 0) o.1 in thirteen (get_or cs d 0) z
    out_runs d constant o = thirteen (get_or cs d 0) (omega arith)
    out_runs d (procedure n) o = (o.1, rw (lt-ltb d (length cs) o.0) o.2)
    out_runs d unknown o = let z : get_or cs d 0 ≡ 0 = ap (λ i. get_or cs i 0) o ∙ end_none cs in thirteen (get_or cs d 0) (omega arith)

    pub setting : (l g M : Scope) (ls : List Name) → Sc l (suc u) f → Sc g 0 (suc u) → Sc M 0 (length cs)
        → Setting xs cs vs H (suc u) f t (record { locals = l; globals = g; model = M; labels = ls })
    unfolding global_of
    setting l g M ls sl sg sm =
        record {
          home = λ j x y. home_in j (omega arith) (omega arith);
          string_inside = λ j x h c. inner-only j x h (λ q. q.string c) (λ q. omega arith) (λ q. omega arith);
          mark_inside = λ j x h c d. inner-only j x h (λ q. (let z = q.high in after-mark (get_or cs j 0) z c d)) (λ q. omega arith) (λ q. omega arith);
          finds = λ j w x y q n. lookup-finds m cs vs H S l g (suc u) j w (locals j x y) (globals j x y) (omega arith) q (name j w (omega arith) q) n;
          hidden = λ j w x y q n. out_known cs H (find cs vs H 1 (get_or vs j 0) (suc u) j) j (sense_in l w) ((locals j x y).gives j w (omega arith) q n);
          runs = λ j w x y q n. out_runs (find cs vs H 1 (get_or vs j 0) 0 (length cs)) (sense_in M w) (sm.gives j w (omega arith) q n);
        }
      where
        after-mark : (c : ℕ) → (c_len ≤ c → c_local ≤ c) → c_argument ≤ c → c ≤ c_end_option → ⊥
        after-mark c z x y = let a = z (omega arith) in omega arith

        name : (j : ℕ) (w : Name) → j < length cs → item_at (code m) j ≡ i_name w → get_or cs j 0 ≡ c_name
        name j w x q = code_is m cs vs S j (i_name w) (let z = long m cs vs S in omega arith) q

        locals : (j : ℕ) → f ≤ j → j < t → Scoped m cs vs (hs m cs vs S) S l (suc u) j
        locals j x y = scoped_over m cs vs H S l (suc u) f j x (λ i a c. inl (spoken-one (get_or cs i 0) (F.said i a (omega arith)))) sl

        globals : (j : ℕ) → f ≤ j → j < t → Scoped m cs vs (hs m cs vs S) S g 0 j
        globals j x y =
            scoped_over m cs vs H S g 0 (suc u) j (omega arith) (λ i a c. inr (λ z. (let q = home_in i a (omega arith) in omega arith))) sg

    low_end : (get_or cs (suc t) 0 ≡ c_size → ⊥) → (j : ℕ) → f ≤ j → j ≤ suc t → get_or cs j 0 ≡ c_size → ⊥
    low_end after j x z e = go (dec_lt j t) (ℕ_discrete j t)
      where
        go : Dec (j < t) → Dec (j ≡ t) → ⊥
        go (yes a) c = let r = F.said j x a in omega arith
        go (no a) (yes c) = let r : get_or cs j 0 ≡ c_end_body = ap (λ n. get_or cs n 0) c ∙ F.ends in omega arith
        go (no a) (no c) = after (ap (λ n. get_or cs n 0) (let w : suc t ≡ j = omega arith in w) ∙ e)

    -- no size stands where the statements begin
    pub frame_behind : (get_or cs (suc t) 0 ≡ c_size → ⊥) → After m cs vs S f
    frame_behind after = (low_end after f (omega arith) (omega arith), low_end after (suc f) (omega arith) (omega arith))

  -- the frame of a unit, by its items
  pub frame_made : (gs : List Group) (ds : List Declaration) (q : Tree sequence) (u b f t : ℕ) → is_unit (get_or cs u 0) ≡ true → b ≡ suc u + length (each code_group gs)
      → f ≡ suc b + length (each (code_declaration i_local) ds) → t ≡ f + length (code_tree q) → Lies xs (suc u) (each code_group gs) → Lies xs b (code_body (body ds q)) → u < length xs → Frame u b f t
  frame_made gs ds q u b f t h eb ef et yg yb bu =
      let D = each (code_declaration i_local) ds in
      let T = code_tree q in
      let yd = lies_front xs b (i_body ∷ D) T (lies_front xs b (i_body ∷ D ++ T) (i_end_body ∷ []) yb) in
      let yt = lies_back xs (i_body ∷ D) T b f (omega arith) (lies_front xs b (i_body ∷ D ++ T) (i_end_body ∷ []) yb) in
      let n : length (i_body ∷ D ++ T) ≡ suc (length D) + length T = length-append (i_body ∷ D) T in
      let ye = lies_back xs (i_body ∷ D ++ T) (i_end_body ∷ []) b t (omega arith) yb in
      let lg = long m cs vs S in
      record {
        head = h;
        parts = omega arith;
        inner = omega arith;
        last = omega arith;
        top = omega arith;
        before = λ j x z. declaring_at m cs vs S j (omega arith) (lies_all xs declaring (each code_group gs) (suc u) yg (all_groups gs) j x (omega arith));
        begin = code_is m cs vs S b i_body yb.0 yb.1;
        own = λ j x z. settled_at m cs vs S j (omega arith) (lies_all xs settled D (suc b) yd.2 (all-declarations ds) j x (omega arith));
        said = λ j x z. spoken_at m cs vs S j (omega arith) (lies_all xs spoken T f yt (all_tree q) j x (omega arith));
        ends = code_is m cs vs S t i_end_body ye.0 ye.1;
      }

module _ (m : Model) (cs vs toks : List ℕ) (S : Says m cs vs) (ruled : Statements m cs vs toks) (u b f t : ℕ) (F : Frame m cs vs S u b f t) (after : get_or cs (suc t) 0 ≡ c_size → ⊥)
    (g M : Scope) (sg : Scoped m cs vs (hs m cs vs S) S g 0 (suc u)) (sm : Scoped m cs vs (hs m cs vs S) S M 0 (length cs)) where
  items_give : {ts : List Token} {ds : List Declaration} {q : Tree sequence} (x : Items ts (body ds q)) (i k : ℕ) (l : Scope) → Span (code m) toks k t (spots_items x i)
      → f ≡ k + length (each (code_declaration i_local) ds) → suc b ≤ k → Scoped m cs vs (hs m cs vs S) S l (suc u) k → Gives cs vs toks k t (in_items M g l x i)
  unfolding in_items
  items_give (statements {ts = ts} {q = q} x) i k l y e n sc =
      let z : f ≡ k = omega arith in
      let w = subst (λ j. Span (code m) toks j t (spots_tree x i)) (sym z) y in
      let W : Place = record { locals = l; globals = g; model = M; labels = labels_of q } in
      subst (λ j. Gives cs vs toks j t (in_tree W [] false false x i)) z
      (record {
        order = F.last;
        are = ap (faults_from cs vs toks f) (let r : t - f ≡ length (spots_tree x i) = omega arith in r) ∙ ruled ts q x i f t (suc u) W w.stand w.ends (omega arith)
            (setting m cs vs S u b f t F l g M (labels_of q) (subst (Scoped m cs vs (hs m cs vs S) S l (suc u)) (sym z) sc) sg sm) refl before;
      })
    where
      before : get_or cs (f - 1) 0 ≡ c_option → ⊥
      before e = go (ℕ_discrete f (suc b))
        where
          go : Dec (f ≡ suc b) → ⊥
          go (yes z) = let c : get_or cs (f - 1) 0 ≡ c_body = ap (λ n. get_or cs n 0) (let w : f - 1 ≡ b = omega arith in w) ∙ F.begin in omega arith
          go (no z) = let c = (F.own (f - 1) (omega arith) (omega arith)).1.high (omega arith) in omega arith
  items_give (declared {ts = ts} {us = us} {d = d} {ds = ds} {q = q} x v z) i k l y e n sc =
      let X = spots_declaration i_local x i in
      let i2 = i + length ts + length us in
      let D = each (code_declaration i_local) ds in
      let k2 = k + length X in
      let back = span-back X (spots_items z i2) y in
      let size = items_long X (code_declaration i_local d) (declaration_code i_local x i) in
      let sizes : length (code_declaration i_local d ++ D) ≡ length (code_declaration i_local d) + length D = length-append (code_declaration i_local d) D in
      let af = after-declarations m cs vs S ds k2 (lies_front (code m) k2 D (code_tree q) (span_lies (spots_items z i2) (D ++ code_tree q) back (items-code z i2)))
      (subst (After m cs vs S) (let r : f ≡ k2 + length D = omega arith in r) (frame_behind m cs vs S u b f t F after)) in
      let one = local_passed m cs vs toks S (suc u) (suc u) t (λ l. sense_of l g) (λ j a c. home_in m cs vs S u b f t F j a (omega arith))
      (λ l j w a c r s. named_local m cs vs toks S g l (suc u) j w (omega arith) r s (globals j a (omega arith))) x i k k2 l (span-front X (spots_items z i2) y) (omega arith) (omega arith) af sc in
      gives_join one.gives (items_give z i2 k2 (l ++ scope_of_declaration d) back (omega arith) (omega arith) one.scope)
    where
      globals : (j : ℕ) → suc u ≤ j → j ≤ t → Scoped m cs vs (hs m cs vs S) S g 0 j
      globals j x z = scoped_over m cs vs (hs m cs vs S) S g 0 (suc u) j x (λ i a c. inr (λ w. (let r = home_in m cs vs S u b f t F i a (omega arith) in omega arith))) sg

  pub body_gives : {ts : List Token} {ds : List Declaration} {q : Tree sequence} (x : ABody ts (body ds q)) (i : ℕ) (l : Scope) → Span (code m) toks b (suc t) (spots_body x i)
      → f ≡ suc b + length (each (code_declaration i_local) ds) → Scoped m cs vs (hs m cs vs S) S l (suc u) b → Gives cs vs toks b (suc t) (in_body M g l x i)
  body_gives (a_body x) i l y e sc =
      let X = spots_items x (i + 1) in
      let z = span_tail y in
      let size = length-append X ((i_end_body, i) ∷ []) in
      gives_to (suc t) refl (append-nil (in_items M g l x (i + 1)))
      (gives_skip S y marks.0
      (gives_join (items_give x (i + 1) (suc b) l (subst (λ n. Span (code m) toks (suc b) n X) (let r : suc b + length X ≡ t = omega arith in r) (span-front X ((i_end_body, i) ∷ []) z))
      e (omega arith) (scoped_next m cs vs (hs m cs vs S) S l (suc u) b (ap (among 1) F.begin ∙ body_one) sc))
      (gives_none S t (ap rule_of F.ends ∙ marks.1))))
