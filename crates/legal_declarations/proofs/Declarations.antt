-- Lists of declarations, of mtype names and of parameters: what they add to their scope, and the faults of their items.
use Prim.Native.Nat.{ℕ, suc, ◌+◌, ◌≤◌, ◌<◌}
use native.Mathlib.Omega.{arith}
use mathlib.Core.Path.{◌≡◌, refl, sym, ap, ◌∙◌, subst}
use mathlib.Core.Bool.{Bool, true, false, not}
use mathlib.Core.List.{List, [], ◌∷◌, ◌++◌, map, append_assoc, append-nil}
use lib.ListN.{length, get_or}
use lib.Dec.{eqb}
use Rattle.base_kinds.specs.Kinds.{Token}
use Rattle.base_codes.specs.Codes.{c_global, c_group, c_local, c_message, c_name, c_parameter, c_size}
use Rattle.base_bytes.specs.Choice.{both}
use Rattle.base_bytes.specs.Lists.{same}
use Rattle.base_bytes.proofs.Lists.{same_eq}
use Rattle.spec_text.specs.Names.{pid}
use Rattle.rule_search.specs.Sets.{among}
use Rattle.rule_search.specs.Search.{lookup, last}
use Rattle.spec_grammar.specs.Tree.{Name, Model, Variable, Declaration, declare, Group, group}
use Rattle.spec_grammar.specs.Tree as tree
use Rattle.spec_grammar.specs.Marks.{'semi}
use Rattle.spec_grammar.specs.Grammar.{Listed, one, more, MaybeListed, no_list, a_list, AName, AVariable, ADeclaration, declaration, AGroup, a_group}
use Rattle.base_codes.specs.Items.{Item, code_of, i_declared, i_global, i_group, i_local, i_name, i_parameter, i_type}
use Rattle.base_codes.specs.Sets.{rule_of}
use Rattle.parse_code.specs.Code.{each, code_variable, code_declaration, code_group, code}
use Rattle.parse_spots.specs.Spots.{Spot, items, spots_listed, spots_maybe, spots_variable, spots_declaration, spots_group}
use Rattle.parse_spots.proofs.Coded.{variable_code}
use Rattle.table_entries.specs.Items.{Known}
use Rattle.table_entries.proofs.Items.{type_code}
use Rattle.spec_rules.specs.Senses.{Sense, variable, constant, procedure, unknown, declared, Scope, sense_in, sense_of, is_unknown, is_constant, hides}
use Rattle.spec_rules.specs.Units.{sense_of_variable, scope_of_declaration, scope_of_group, scope_of_groups}
use Rattle.spec_faults.specs.Faults.{Faults, in_list, in_maybe, in_variable, in_declaration, in_name, in_group}
use Rattle.legal_terms.specs.Says.{item_at, Says}
use Rattle.legal_declarations.proofs.Standing.{Lies, long, known_at, code_is, Span, span-front, span-back, span_tail, span_lies, span-code}
use Rattle.legal_declarations.proofs.Scopes.{Out, Scoped, scoped_next, lookup-finds, lookup-pid, finds-constant}
use Rattle.legal_declarations.proofs.Judging.{hs, Gives, gives_empty, gives_join, gives_to, gives_skip, last-here, last_skip}
use Rattle.legal_declarations.proofs.Variables.{low-one, After, array-none, chan_is, Passed, type_low, name_new, name-adds, variable_passed}

hides-itself : (s : Sense) → hides s s ≡ s
hides-itself (variable c a) = refl
hides-itself constant = refl
hides-itself (procedure n) = refl
hides-itself unknown = refl

name-three : among 3 c_name ≡ false
unfolding among
name-three = refl

marks : (rule_of c_local ≡ 0) × (rule_of c_global ≡ 0) × (rule_of c_group ≡ 0)
unfolding rule_of
marks = (refl, refl, refl)

opens : (among 1 c_local ≡ false) × (among 1 c_global ≡ false) × (among 1 c_group ≡ false) × (among 3 c_local ≡ true) × (among 3 c_global ≡ true)
    × (among 3 c_group ≡ true) × (among 1 c_parameter ≡ true) × (among 3 c_parameter ≡ false) × (among 14 c_parameter ≡ true)
unfolding among
opens = (refl, refl, refl, refl, refl, refl, refl, refl, refl)

module _ (m : Model) (cs vs : List ℕ) (S : Says m cs vs) where
  abbrev xs : List Item
  xs = code m

  pub after_groups : (gs : List Group) (k : ℕ) → Lies xs k (each code_group gs) → After m cs vs S (k + length (each code_group gs)) → After m cs vs S k
  after_groups [] k y a = subst (After m cs vs S) (let z : k + 0 ≡ k = omega arith in z) a
  after_groups (group t ws ∷ gs) k y a =
      let c = code_is m cs vs S (suc k) i_group y.2.0 y.2.1 in
      let b = type_code (subst Known y.1 (known_at m cs vs S k y.0)) in
      let d = code_is m cs vs S k (i_type t) y.0 y.1 in
      (λ z. omega arith, λ z. omega arith)

  pub after-declarations : (ds : List Declaration) (k : ℕ) → Lies xs k (each (code_declaration i_local) ds) → After m cs vs S (k + length (each (code_declaration i_local) ds))
      → After m cs vs S k
  after-declarations [] k y a = subst (After m cs vs S) (let z : k + 0 ≡ k = omega arith in z) a
  after-declarations (declare t us ∷ ds) k y a =
      let c = code_is m cs vs S (suc k) i_local y.2.0 y.2.1 in
      let b = type_code (subst Known y.1 (known_at m cs vs S k y.0)) in
      let d = code_is m cs vs S k (i_type t) y.0 y.1 in
      (λ z. omega arith, λ z. omega arith)

module _ (m : Model) (cs vs toks : List ℕ) (S : Says m cs vs) where
  abbrev H : List ℕ
  H = hs m cs vs S

  abbrev G : ℕ → ℕ → Faults → Type 0
  G = Gives cs vs toks

  abbrev Sc : Scope → ℕ → ℕ → Type 0
  Sc = Scoped m cs vs H S

  abbrev At : ℕ → ℕ → List Spot → Type 0
  At = Span (code m) toks

  abbrev Ps : (ℕ → Type 0) → ℕ → ℕ → ℕ → Scope → Faults → Type 0
  Ps = Passed m cs vs toks S

  passed_to : {P : ℕ → Type 0} {h k e : ℕ} {l : Scope} {fs : Faults} (d : Scope) → l ≡ d → Ps P h k e l fs → Ps P h k e d fs
  passed_to {P} {h} {k} {e} {l} {fs} d q p = subst (λ i. Passed m cs vs toks S P h k e i fs) q p

  -- ---- lists, of what declares `adds` and in sum `total`; where each begins, no size stands
  module _ {A : Type 0} (X : List Token → A → Type 0) (f : Scope → (ts : List Token) (a : A) → X ts a → ℕ → Faults) (adds : A → Scope) (sp : (ts : List Token) (a : A) → X ts a → ℕ → List Spot)
      (total : List A → Scope) (none : total [] ≡ []) (next : (a : A) (l : List A) → total (a ∷ l) ≡ adds a ++ total l) (P : ℕ → Type 0) (h lo hi : ℕ)
      (starts : (ts : List Token) (a : A) (x : X ts a) (i k e : ℕ) (r : List Spot) → Span (code m) toks k e (sp ts a x i ++ r) → After m cs vs S k)
      (step : (ts : List Token) (a : A) (x : X ts a) (i k e : ℕ) (l : Scope) → Span (code m) toks k e (sp ts a x i) → lo ≤ k → e ≤ hi → After m cs vs S e → P k
      → Scoped m cs vs (hs m cs vs S) S l h k → Passed m cs vs toks S P h k e (l ++ adds a) (f l ts a x i)) where
    list-starts : {s : Token} {ts : List Token} {al : List A} (x : Listed s X ts al) (i k e : ℕ) → At k e (spots_listed X sp x i) → After m cs vs S k
    list-starts (one {ts = ts} {a = a} x) i k e y = starts ts a x i k e [] y
    list-starts (more {ts = ts} {a = a} x z) i k e y = starts ts a x i k e (spots_listed X sp z (i + length ts + 1)) y

    list-passed : {s : Token} {ts : List Token} {al : List A} (x : Listed s X ts al) (i k e : ℕ) (l : Scope) → At k e (spots_listed X sp x i) → lo ≤ k → e ≤ hi → After m cs vs S e → P k
        → Sc l h k → Ps P h k e (l ++ total al) (in_list X f adds l x i)
    unfolding in_list
    list-passed (one {ts = ts} {a = a} x) i k e l y b d af p sc =
        passed_to (l ++ total (a ∷ [])) (ap (λ z. l ++ z) (sym (next a [] ∙ ap (λ z. adds a ++ z) none ∙ append-nil (adds a))))
        (step ts a x i k e l (subst (Span (code m) toks k e) (append-nil (sp ts a x i)) y) b d af p sc)
    list-passed (more {ts = ts} {a = a} {l = al} x z) i k e l y b d af p sc =
        let s = sp ts a x i in
        let i2 = i + length ts + 1 in
        let r = spots_listed X sp z i2 in
        let k2 = k + length s in
        let back = span-back s r y in
        let u = step ts a x i k k2 l (span-front s r y) b (omega arith) (list-starts z i2 k2 e back) p sc in
        let v = list-passed z i2 k2 e (l ++ adds a) back (omega arith) d af u.kept u.scope in
        passed_to (l ++ total (a ∷ al)) (append_assoc l (adds a) (total al) ∙ ap (λ n. l ++ n) (sym (next a al)))
        (record { scope = v.scope; kept = v.kept; gives = gives_join u.gives v.gives })

    maybe_passed : {s : Token} {ts : List Token} {al : List A} (x : MaybeListed s X ts al) (i k e : ℕ) (l : Scope) → At k e (spots_maybe X sp x i) → lo ≤ k → e ≤ hi → After m cs vs S e → P k
        → Sc l h k → Ps P h k e (l ++ total al) (in_maybe X f adds l x i)
    unfolding in_maybe
    maybe_passed no_list i k e l y b d af p sc =
        let q : k ≡ e = omega arith in
        passed_to (l ++ total []) (sym (ap (λ n. l ++ n) none ∙ append-nil l)) (record { scope = subst (Sc l h) q sc; kept = subst P q p; gives = gives_empty cs vs toks k e q })
    maybe_passed (a_list x) i k e l y b d af p sc = list-passed x i k e l y b d af p sc

  -- ---- names with a mark each, that stand for the same
  abbrev pub marked : Item → (ts : List Token) (w : Name) → AName ts w → ℕ → List Spot
  marked x ts w z i = (i_name w, i) ∷ (x, i) ∷ []

  module _ (x : Item) (h lo hi p : ℕ) (t : Sense) (first : among 1 (code_of x) ≡ true) (three : among 3 (code_of x) ≡ false) (not : code_of x ≡ c_size → ⊥) (certain : is_unknown t ≡ false)
      (home : (j : ℕ) → lo ≤ j → j < hi → get_or (hs m cs vs S) j 0 ≡ h)
      (fact : (k : ℕ) → get_or cs (suc k) 0 ≡ code_of x → last cs 3 (suc k) ≡ p → After m cs vs S (suc (suc k)) → Out cs (hs m cs vs S) (suc k) (suc (suc k)) t) where
    pub names-passed : {s : Token} {ts : List Token} {ws : List Name} (z : Listed s AName ts ws) (i k e : ℕ) (l : Scope) → At k e (spots_listed AName (marked x) z i) → lo ≤ k → e ≤ hi
        → After m cs vs S e → last cs 3 k ≡ p → Sc l h k → Ps (λ n. last cs 3 n ≡ p) h k e (l ++ map (λ w. declared w t) ws) (in_list AName in_name (λ w. declared w t ∷ []) l z i)
    names-passed z i k e l y b d af q sc =
        list-passed AName in_name (λ w. declared w t ∷ []) (marked x) (map (λ w. declared w t)) refl (λ w ws. refl) (λ n. last cs 3 n ≡ p) h lo hi
        (λ ts w z i k e r y. (let c = span-code S y in let d = span-code S (span_tail y) in (λ u. omega arith, λ u. not (sym d ∙ u)))) step z i k e l y b d af q sc
      where
        step : (ts : List Token) (w : Name) (z : AName ts w) (i k e : ℕ) (l : Scope) → Span (code m) toks k e (marked x ts w z i) → lo ≤ k → e ≤ hi → After m cs vs S e → last cs 3 k ≡ p
            → Scoped m cs vs (hs m cs vs S) S l h k → Passed m cs vs toks S (λ n. last cs 3 n ≡ p) h k e (l ++ declared w t ∷ []) (in_name l ts w z i)
        step ts w z i k e l y b d af q sc =
            let e2 : suc (suc k) ≡ e = omega arith in
            let hm = home (suc k) (omega arith) (omega arith) in
            let cx = span-code S (span_tail y) in
            let kx = last_skip m cs vs S 3 k (ap (among 3) (span-code S y) ∙ name-three) ∙ q in
            record {
              scope = subst (Sc (l ++ declared w t ∷ []) h) e2 (name-adds S y h first hm l sc t certain (fact k cx kx (subst (After m cs vs S) (sym e2) af)));
              kept = ap (last cs 3) (sym e2) ∙ last_skip m cs vs S 3 (suc k) (ap (among 3) cx ∙ three) ∙ kx;
              gives = gives_to e e2 refl (name_new S y h first hm l sc);
            }

  -- ---- a type and a mark
  module _ {k e t n o : ℕ} {x : Item} {s : List Spot} (y : Span (code m) toks k e ((i_type t, n) ∷ (x, o) ∷ s)) (ruled : rule_of (code_of x) ≡ 0) where
    head_gives : {d : ℕ} {fs : Faults} → G (suc (suc k)) d fs → G k d fs
    head_gives g = gives_skip S y (type_low S y).1 (gives_skip S (span_tail y) ruled g)

    head_scope : (l : Scope) (h : ℕ) → among 1 (code_of x) ≡ false → Sc l h k → Sc l h (suc (suc k))
    head_scope l h a sc =
        scoped_next m cs vs H S l h (suc k) (ap (among 1) (span-code S (span_tail y)) ∙ a) (scoped_next m cs vs H S l h k (low-one (get_or cs k 0) (type_low S y).0) sc)

  -- ---- parameters
  parameter_out : (t p k : ℕ) → get_or cs p 0 ≡ 130 + t → get_or cs (suc k) 0 ≡ c_parameter → last cs 3 (suc k) ≡ suc (suc p) → After m cs vs S (suc (suc k))
      → Out cs H (suc k) (suc (suc k)) (variable (eqb t 43) false)
  parameter_out t p k typed c l a = (omega arith, ap (among 14) c ∙ opens.8, chan_is m cs vs S (suc k) p t l typed, array-none m cs vs S k a.1)

  module _ (h lo hi : ℕ) (home : (j : ℕ) → lo ≤ j → j < hi → get_or (hs m cs vs S) j 0 ≡ h) where
    group-passed : (ts : List Token) (g : Group) (x : AGroup ts g) (i k e : ℕ) (l : Scope) → At k e (spots_group ts g x i) → lo ≤ k → e ≤ hi → After m cs vs S e → k ≡ k
        → Sc l h k → Ps (λ n. n ≡ n) h k e (l ++ scope_of_group g) (in_group l ts g x i)
    group-passed _ _ (a_group {k = t} q x) i k e l y b d af p sc =
        let r = names-passed i_parameter h lo hi (suc (suc k)) (variable (eqb t 43) false) opens.6 opens.7 (λ z. omega arith) refl home (λ j u v w. parameter_out t k j (span-code S y) u v w)
        x (i + 1) (suc (suc k)) e l (span_tail (span_tail y)) (omega arith) d af (last-here m cs vs S 3 (suc k) (ap (among 3) (span-code S (span_tail y)) ∙ opens.5))
        (head_scope y marks.2 l h opens.2 sc) in
        record { scope = r.scope; kept = refl; gives = head_gives y marks.2 r.gives }

    pub groups_passed : {ts : List Token} {gs : List Group} (x : MaybeListed 'semi AGroup ts gs) (i k e : ℕ) (l : Scope) → At k e (spots_maybe AGroup spots_group x i) → lo ≤ k → e ≤ hi
        → After m cs vs S e → Sc l h k → Ps (λ n. n ≡ n) h k e (l ++ scope_of_groups gs) (in_maybe AGroup in_group scope_of_group l x i)
    groups_passed x i k e l y b d af sc =
        maybe_passed AGroup in_group scope_of_group spots_group scope_of_groups refl (λ g gs. refl) (λ n. n ≡ n) h lo hi starts group-passed x i k e l y b d af refl sc
      where
        starts : (ts : List Token) (g : Group) (x : AGroup ts g) (i k e : ℕ) (r : List Spot) → Span (code m) toks k e (spots_group ts g x i ++ r) → After m cs vs S k
        starts _ _ (a_group q x) i k e r y =
            let z = (type_low S y).2 in
            let c = span-code S (span_tail y) in
            (λ u. omega arith, λ u. omega arith)

  -- ---- what the name of a value means
  -- in body h, with the locals so far, behind the globals g
  pub named_local : (g l : Scope) (h j : ℕ) (w : Name) → j < length cs → item_at (code m) j ≡ i_name w → Sc l h j → Sc g 0 j
      → eqb (get_or cs (lookup cs vs H (get_or vs j 0) h j) 0) c_message ≡ both (not (same w pid)) (is_constant (sense_of l g w))
  named_local g l h j w b q s r = go (same w pid) refl
    where
      cn : get_or cs j 0 ≡ c_name
      cn = code_is m cs vs S j (i_name w) (let z = long m cs vs S in omega arith) q

      go : (x : Bool) → same w pid ≡ x → eqb (get_or cs (lookup cs vs (hs m cs vs S) (get_or vs j 0) h j) 0) c_message ≡ both (not x) (is_constant (sense_of l g w))
      go true e = ap (λ i. eqb (get_or cs i 0) c_message) (lookup-pid m cs vs H S h j b (q ∙ ap i_name (same_eq w pid e))) ∙ ap (λ c. eqb c c_message) cn
      go false e = finds-constant cs (lookup cs vs H (get_or vs j 0) h j) (sense_of l g w) (lookup-finds m cs vs H S l g h j w s r b q cn e)

  -- outside of bodies
  pub named-global : (l : Scope) (j : ℕ) (w : Name) → j < length cs → item_at (code m) j ≡ i_name w → Sc l 0 j
      → eqb (get_or cs (lookup cs vs H (get_or vs j 0) 0 j) 0) c_message ≡ both (not (same w pid)) (is_constant (sense_of [] l w))
  unfolding sense_of sense_in
  named-global l j w b q s = named_local l l 0 j w b q s s ∙ ap (λ z. both (not (same w pid)) (is_constant z)) (hides-itself (sense_in l w))

  -- ---- a declaration, with its mark
  module _ (h lo hi : ℕ) (sees : Scope → Name → Sense) (home : (j : ℕ) → lo ≤ j → j < hi → get_or (hs m cs vs S) j 0 ≡ h)
      (look : (l : Scope) (j : ℕ) (w : Name) → lo ≤ j → j < hi → item_at (code m) j ≡ i_name w → Scoped m cs vs (hs m cs vs S) S l h j
      → eqb (get_or cs (lookup cs vs (hs m cs vs S) (get_or vs j 0) h j) 0) c_message ≡ both (not (same w pid)) (is_constant (sees l w))) where
    declaration_passed : (x : Item) → rule_of (code_of x) ≡ 0 → among 1 (code_of x) ≡ false → among 3 (code_of x) ≡ true → {ts : List Token} {d : Declaration} (z : ADeclaration ts d)
        (i k e : ℕ) (l : Scope) → At k e (spots_declaration x z i) → lo ≤ k → e ≤ hi → After m cs vs S e → Sc l h k → Ps (λ n. n ≡ n) h k e (l ++ scope_of_declaration d) (in_declaration sees l z i)
    declaration_passed x ruled first three (declaration {k = t} q z) i k e l y b d af sc =
        let r = list-passed (AVariable t) (in_variable sees t) (λ v. sense_of_variable t v ∷ []) (spots_variable t) (map (sense_of_variable t)) refl (λ v us. refl) (λ n. last cs 3 n ≡ suc (suc k)) h lo hi
        starts (λ ts v x i n e l y b d af p sc. variable_passed m cs vs toks S h lo hi k sees home look t ts v x i n e l y b d (span-code S y0) af p sc)
        z (i + 1) (suc (suc k)) e l (span_tail (span_tail y)) (omega arith) d af (last-here m cs vs S 3 (suc k) (ap (among 3) (span-code S (span_tail y)) ∙ three)) (head_scope y ruled l h first sc) in
        record { scope = r.scope; kept = refl; gives = head_gives y ruled r.gives }
      where
        y0 : Span (code m) toks k e ((i_type t, i) ∷ (x, i) ∷ spots_listed (AVariable t) (spots_variable t) z (i + 1))
        y0 = y

        starts : (ts : List Token) (v : Variable) (x : AVariable t ts v) (i k e : ℕ) (r : List Spot) → Span (code m) toks k e (spots_variable t ts v x i ++ r) → After m cs vs S k
        starts ts (tree.variable w s v) x i k e r y =
            let u = span_lies (spots_variable t ts (tree.variable w s v) x i) (code_variable (tree.variable w s v)) (span-front (spots_variable t ts (tree.variable w s v) x i) r y)
            (variable_code t ts (tree.variable w s v) x i) in
            let c = code_is m cs vs S k (i_name w) u.0 u.1 in
            let d = code_is m cs vs S (suc k) i_declared u.2.0 u.2.1 in
            (λ z. omega arith, λ z. omega arith)

    pub local_passed : {ts : List Token} {d : Declaration} (z : ADeclaration ts d) (i k e : ℕ) (l : Scope) → At k e (spots_declaration i_local z i) → lo ≤ k → e ≤ hi → After m cs vs S e → Sc l h k
        → Ps (λ n. n ≡ n) h k e (l ++ scope_of_declaration d) (in_declaration sees l z i)
    local_passed z = declaration_passed i_local marks.0 opens.0 opens.3 z

    pub global-passed : {ts : List Token} {d : Declaration} (z : ADeclaration ts d) (i k e : ℕ) (l : Scope) → At k e (spots_declaration i_global z i) → lo ≤ k → e ≤ hi → After m cs vs S e → Sc l h k
        → Ps (λ n. n ≡ n) h k e (l ++ scope_of_declaration d) (in_declaration sees l z i)
    global-passed z = declaration_passed i_global marks.1 opens.1 opens.4 z
