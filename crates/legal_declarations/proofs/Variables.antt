-- The variables of a declaration: what each adds to its scope, and the faults of its items.
use Prim.Native.Nat.{ℕ, suc, ◌+◌, ◌-◌, ◌*◌, ◌≤◌, ◌<◌}
use native.Mathlib.Omega.{arith}
use native.Mathlib.Decide.{ℕ_discrete, dec_lt}
use mathlib.Core.Path.{◌≡◌, refl, sym, ap, ◌∙◌, subst}
use mathlib.Core.Bool.{Bool, true, false, not}
use mathlib.Core.Option.{Option}
use mathlib.Core.Logic.{inl}
use mathlib.Core.List.{List, [], ◌∷◌, ◌++◌, append_assoc, append-nil}
use lib.ListN.{length, get_or}
use lib.Dec.{eqb, leb}
use borrow.Author.Tests.{ne_eqb, eq-eqb, le-leb, lt-leb}
use Rattle.base_ceilings.specs.Ceilings.{capacity_least, capacity_most, fields_most}
use Rattle.base_kinds.specs.Kinds.{Token}
use Rattle.base_codes.specs.Codes.{c_chan, c_channel, c_declared, c_false, c_field, c_global, c_group, c_len, c_local, c_message, c_minus, c_parameter, c_size, c_true, c_value, c_name, c_number, c_plain}
use Rattle.base_bytes.specs.Choice.{pick, both, either}
use Rattle.base_bytes.specs.Lists.{same}
use Rattle.spec_text.specs.Names.{pid}
use Rattle.rule_search.specs.Sets.{among}
use Rattle.rule_search.specs.Search.{lookup, last}
use Rattle.spec_grammar.specs.Tree.{Name, Model, Value, Variable, variable}
use Rattle.spec_grammar.specs.Marks.{'comma}
use Rattle.spec_grammar.specs.Grammar.{Listed, one, more, AType, a_type, AValue, v_number, v_minus, v_true, v_false, v_name, AVariable, x_bare, x_set, x_array, x_array_set, x_channel}
use Rattle.table_entries.specs.Items.{Known}
use Rattle.spec_rules.specs.Senses.{Sense, declared, Scope, is_unknown, is_constant}
use Rattle.spec_rules.specs.Units.{is_array, sense_of_variable}
use Rattle.spec_faults.specs.Faults.{Faults, fault_at, unless, new_name, in_value, in_array, in_variable}
use Rattle.legal_terms.specs.Says.{item_at, Says}
use Rattle.legal_declarations.proofs.Items.{All, valued, Low, all_append, all-size, all_value}
use Rattle.legal_declarations.proofs.Standing.{lies_all, known_at, valued_at, Span, span_tail, span_lies, span-room, span-code, items_long}
use Rattle.legal_declarations.proofs.Scopes.{Out, Scoped, scoped_next, scoped_over, scoped_more}
use Rattle.legal_declarations.proofs.Judging.{hs, rule_none, Gives, gives_empty, gives_join, gives_to, gives_skip, rule_fresh, rule_size, rule_channel, rule_named, rule_field, last-here, last_skip, last-over}
use Rattle.base_codes.specs.Items.{Item, code_of, i_declared, i_field, i_name, i_type}
use Rattle.base_codes.specs.Sets.{rule_of}
use Rattle.parse_code.specs.Code.{code_size, code_value, code}
use Rattle.parse_spots.specs.Spots.{Spot, items, spots_listed, spots_field, spots_value, spots_variable}
use Rattle.parse_spots.proofs.Coded.{variable_code}
use Rattle.table_entries.proofs.Items.{type_code}
use Rattle.rule_item.specs.Rules as rules
use Rattle.spec_rules.specs.Senses as senses

-- ---- sets
pub low-one : (c : ℕ) → Low c → among 1 c ≡ false
unfolding among
low-one c l =
    rw (ne_eqb c c_declared (λ z. (let h = l.high (omega arith) in omega arith)), ne_eqb c c_message (λ z. omega arith), lt-leb c_parameter c (omega arith))

pub low-three : (c : ℕ) → Low c → among 3 c ≡ false
unfolding among
low-three c l = go (dec_lt c c_len)
  where
    go : Dec (c < c_len) → either (both (leb c_local c) (leb c c_global)) (eqb c c_group) ≡ false
    go (yes h) = rw (lt-leb c_local c (omega arith), ne_eqb c c_group (λ z. omega arith))
    go (no h) = let b = l.high (omega arith) in rw (le-leb c_local c (omega arith), lt-leb c c_global (omega arith), ne_eqb c c_group (λ z. omega arith))

among_16 : (c : ℕ) → (c ≡ c_channel → ⊥) → among 16 c ≡ false
unfolding among
among_16 c n = ne_eqb c c_channel n

sets : (among 1 c_name ≡ false) × (among 3 c_name ≡ false) × (among 1 c_declared ≡ true) × (among 3 c_declared ≡ false) × (among 14 c_declared ≡ true) × (among 16 c_channel ≡ true)
    × (among 16 c_field ≡ false)
unfolding among
sets = (refl, refl, refl, refl, refl, refl, refl)

marks : (rule_of c_number ≡ 0) × (rule_of c_value ≡ 0) × (rule_of c_minus ≡ 0) × (rule_of c_true ≡ 0) × (rule_of c_false ≡ 0)
unfolding rule_of
marks = (refl, refl, refl, refl, refl)

chan-code : (t : ℕ) → eqb (130 + t) c_chan ≡ eqb t 43
chan-code t = go (ℕ_discrete t 43)
  where
    go : Dec (t ≡ 43) → eqb (130 + t) c_chan ≡ eqb t 43
    go (yes z) = eq-eqb (130 + t) c_chan (omega arith) ∙ sym (eq-eqb t 43 z)
    go (no z) = ne_eqb (130 + t) c_chan (λ y. z (omega arith)) ∙ sym (ne_eqb t 43 z)

module _ (m : Model) (cs vs : List ℕ) (S : Says m cs vs) where
  -- ---- is it an array, is it a chan
  -- no size stands at an item or behind it
  abbrev pub After : ℕ → Type 0
  After e = (get_or cs e 0 ≡ c_size → ⊥) × (get_or cs (suc e) 0 ≡ c_size → ⊥)

  pub array-none : (k : ℕ) → (get_or cs (suc (suc (suc k))) 0 ≡ c_size → ⊥) → rules.is_array cs (suc k) ≡ false
  unfolding rules.is_array
  array-none k n =
      rw (let z : suc k + 2 ≡ suc (suc (suc k)) = omega arith in z) (rw (ne_eqb (get_or cs (suc (suc (suc k))) 0) c_size n) (go (eqb (get_or cs (suc k + 1) 0) c_number)))
    where
      go : (b : Bool) → both b false ≡ false
      go true = refl
      go false = refl

  array-some : (k : ℕ) → get_or cs (suc (suc k)) 0 ≡ c_number → get_or cs (suc (suc (suc k))) 0 ≡ c_size → rules.is_array cs (suc k) ≡ true
  unfolding rules.is_array
  array-some k a b = rw ((let z : suc k + 1 ≡ suc (suc k) = omega arith in z), (let z : suc k + 2 ≡ suc (suc (suc k)) = omega arith in z)) (rw (a, b) refl)

  pub chan_is : (k p t : ℕ) → last cs 3 k ≡ suc (suc p) → get_or cs p 0 ≡ 130 + t → rules.is_chan cs k ≡ eqb t 43
  unfolding rules.is_chan
  chan_is k p t e q = rw (e, (let z : suc (suc p) - 2 ≡ p = omega arith in z), q) (chan-code t)

-- what is left of a list behind two
abbrev behind : List Item → List Item
behind [] = []
behind (x ∷ []) = []
behind (x ∷ y ∷ l) = l

-- ---- types, and names with their marks
module _ {m : Model} {cs vs toks : List ℕ} (S : Says m cs vs) where
  module _ {k e t n : ℕ} {s : List Spot} (y : Span (code m) toks k e ((i_type t, n) ∷ s)) where
    pub type_low : Low (get_or cs k 0) × (rule_of (code_of (i_type t)) ≡ 0) × (get_or cs k 0 < c_plain)
    type_low =
        let a = type_code (subst Known y.stand.0 (known_at m cs vs S k (span-room S y).0)) in
        let z = span-code S y in
        (record { most = omega arith; string = λ u. omega arith; high = λ u. omega arith }, rule_none (code_of (i_type t)) (omega arith) (λ u. omega arith), omega arith)

  module _ {k e n p : ℕ} {w : Name} {x : Item} {s : List Spot} (y : Span (code m) toks k e ((i_name w, n) ∷ (x, p) ∷ s)) (h : ℕ) (one : among 1 (code_of x) ≡ true)
      (home : get_or (hs m cs vs S) (suc k) 0 ≡ h) (l : Scope) (sc : Scoped m cs vs (hs m cs vs S) S l h k) where
    name-skips : Scoped m cs vs (hs m cs vs S) S l h (suc k)
    name-skips = scoped_next m cs vs (hs m cs vs S) S l h k (ap (among 1) (span-code S y) ∙ sets.0) sc

    pub name_new : Gives cs vs toks k (suc (suc k)) (new_name l w n)
    name_new = rule_fresh S l h y one home name-skips

    pub name-adds : (t : Sense) → is_unknown t ≡ false → Out cs (hs m cs vs S) (suc k) (suc (suc k)) t → Scoped m cs vs (hs m cs vs S) S (l ++ declared w t ∷ []) h (suc (suc k))
    name-adds t u o =
        let z = span_tail y in
        scoped_more m cs vs (hs m cs vs S) S l h k w t (span-room S z).1 y.stand.0 (ap (among 1) (span-code S z) ∙ one) home u o name-skips

module _ (m : Model) (cs vs toks : List ℕ) (S : Says m cs vs) where
  abbrev H : List ℕ
  H = hs m cs vs S

  abbrev G : ℕ → ℕ → Faults → Type 0
  G = Gives cs vs toks

  abbrev Sc : Scope → ℕ → ℕ → Type 0
  Sc = Scoped m cs vs H S

  abbrev At : ℕ → ℕ → List Spot → Type 0
  At = Span (code m) toks

  -- what is known behind a part of a declaration from item k to before item e: its scope, something that it keeps, and its faults
  pub record Passed (P : ℕ → Type 0) (h k e : ℕ) (l : Scope) (fs : Faults) : Type 0 where
    pub scope : Scoped m cs vs (hs m cs vs S) S l h e
    pub kept : P e
    pub gives : Gives cs vs toks k e fs

  -- ---- the types of a channel's messages, with the channel at item c: at token i the n-th, from 0 on
  field_step : {k e t i : ℕ} {s : List Spot} (c n : ℕ) → At k e ((i_type t, i) ∷ (i_field, i) ∷ s) → k ≡ c + 1 + 2 * n → last cs 16 k ≡ suc c
      → (last cs 16 (suc (suc k)) ≡ suc c) × G k (suc (suc k)) (fault_at (pick (eqb n fields_most) 5 0) i)
  field_step {k} c n y e q =
      let z = span_tail y in
      let was = last_skip m cs vs S 16 k (among_16 (get_or cs k 0) (λ u. (let a = (type_low S y).2 in omega arith))) ∙ q in
      (last_skip m cs vs S 16 (suc k) (ap (among 16) (span-code S z) ∙ sets.6) ∙ was, rule_field S c n y (type_low S y).1 was (omega arith))

  fields-over : {ts : List Token} {ks : List ℕ} (x : Listed 'comma AType ts ks) (c n i k e : ℕ) → At k e (spots_listed AType spots_field x i) → fields_most < n → k ≡ c + 1 + 2 * n
      → last cs 16 k ≡ suc c → G k e []
  fields-over (one (a_type x)) c n i k e y b p q =
      gives_to e (omega arith) (ap (λ v. fault_at (pick v 5 0) i) (ne_eqb n 4 (λ u. omega arith))) (field_step c n y p q).1
  fields-over (more (a_type x) r) c n i k e y b p q =
      let s = field_step c n y p q in
      gives_join (gives_to (suc (suc k)) refl (ap (λ v. fault_at (pick v 5 0) i) (ne_eqb n 4 (λ u. omega arith))) s.1)
      (fields-over r c (n + 1) (i + 1 + 1) (suc (suc k)) e (span_tail {s = spots_listed AType spots_field r (i + 1 + 1)} (span_tail y)) (omega arith) (omega arith) s.0)

  fields : {ts : List Token} {ks : List ℕ} (x : Listed 'comma AType ts ks) (c n i t k e : ℕ) → At k e (spots_listed AType spots_field x i) → n ≤ fields_most → t + 2 * n ≡ i + 8
      → k ≡ c + 1 + 2 * n → last cs 16 k ≡ suc c → G k e (unless (leb (n + length ks) fields_most) 5 t)
  fields (one (a_type x)) c n i t k e y b d p q = gives_to e (omega arith) (go (ℕ_discrete n 4)) (field_step c n y p q).1
    where
      go : Dec (n ≡ 4) → fault_at (pick (eqb n fields_most) 5 0) i ≡ unless (leb (n + 1) fields_most) 5 t
      go (yes z) = rw (eq-eqb n 4 z, lt-leb (n + 1) 4 (omega arith)) (ap (fault_at 5) (let u : i ≡ t = omega arith in u))
      go (no z) = rw (ne_eqb n 4 z, le-leb (n + 1) 4 (omega arith)) refl
  fields (more {l = ks} (a_type x) r) c n i t k e y b d p q =
      go (ℕ_discrete n 4) (λ z w. fields r c (n + 1) (i + 1 + 1) t (suc (suc k)) e (span_tail (span_tail y)) z (omega arith) (omega arith) w) (field_step c n y p q)
    where
      go : Dec (n ≡ 4) → (n + 1 ≤ 4 → last cs 16 (suc (suc k)) ≡ suc c → Gives cs vs toks (suc (suc k)) e (unless (leb (n + 1 + length ks) fields_most) 5 t))
          → (last cs 16 (suc (suc k)) ≡ suc c) × Gives cs vs toks k (suc (suc k)) (fault_at (pick (eqb n fields_most) 5 0) i) → Gives cs vs toks k e (unless (leb (n + suc (length ks)) fields_most) 5 t)
      go (yes z) f s =
          gives_to e refl (rw (eq-eqb n 4 z, lt-leb (n + suc (length ks)) 4 (omega arith)) (ap (fault_at 5) (let u : i ≡ t = omega arith in u)))
          (gives_join s.1 (fields-over r c (n + 1) (i + 1 + 1) (suc (suc k)) e (span_tail (span_tail y)) (omega arith) (omega arith) s.0))
      go (no z) f s =
          gives_to e refl (rw (ne_eqb n 4 z) (ap (λ v. unless (leb v 4) 5 t) (let u : n + 1 + length ks ≡ n + suc (length ks) = omega arith in u))) (gives_join s.1 (f (omega arith) s.0))

  -- ---- values
  two : {k e n p : ℕ} {x z : Item} → At k e ((x, n) ∷ (z, p) ∷ []) → rule_of (code_of x) ≡ 0 → rule_of (code_of z) ≡ 0 → G k e []
  two {k} {e} y a b = gives_skip S y a (gives_skip S (span_tail y) b (gives_empty cs vs toks (suc (suc k)) e (omega arith)))

  -- behind the first item of a value stands no size
  value_mark : {ts : List Token} {v : Value} (x : AValue ts v) (i k e : ℕ) → At k e (spots_value x i) → get_or cs (suc k) 0 ≡ c_size → ⊥
  value_mark v_number i k e y z = let c = span-code S (span_tail y) in omega arith
  value_mark v_minus i k e y z = let c = span-code S (span_tail y) in omega arith
  value_mark v_true i k e y z = let c = span-code S (span_tail y) in omega arith
  value_mark v_false i k e y z = let c = span-code S (span_tail y) in omega arith
  value_mark v_name i k e y z = let c = span-code S (span_tail y) in omega arith

  -- ---- a variable in body h, with the type t at item p; `sees` says what names stand for with the scope so far
  module _ (h lo hi p : ℕ) (sees : Scope → Name → Sense) (home : (j : ℕ) → lo ≤ j → j < hi → get_or (hs m cs vs S) j 0 ≡ h)
      (look : (l : Scope) (j : ℕ) (w : Name) → lo ≤ j → j < hi → item_at (code m) j ≡ i_name w → Scoped m cs vs (hs m cs vs S) S l h j
      → eqb (get_or cs (lookup cs vs (hs m cs vs S) (get_or vs j 0) h j) 0) c_message ≡ both (not (same w pid)) (is_constant (sees l w))) where
    abbrev pub Kept : ℕ → Type 0
    Kept e = last cs 3 e ≡ suc (suc p)

    value_gives : {ts : List Token} {v : Value} (x : AValue ts v) (i k e : ℕ) (l : Scope) → At k e (spots_value x i) → lo ≤ k → e ≤ hi → Sc l h k → G k e (in_value (sees l) x i)
    value_gives v_number i k e l y b d sc = two y marks.0 marks.1
    value_gives v_minus i k e l y b d sc = two y marks.0 marks.2
    value_gives v_true i k e l y b d sc = two y marks.3 marks.1
    value_gives v_false i k e l y b d sc = two y marks.4 marks.1
    value_gives (v_name {w = w}) i k e l y b d sc =
        gives_to e (omega arith) refl
        (rule_named S h (both (not (same w pid)) (is_constant (sees l w))) y (home (suc k) (omega arith) (omega arith)) (look l k w b (omega arith) y.stand.0 sc))

    -- a name and its mark, with the faults fs of what follows
    rest-passed : (t : ℕ) (w : Name) (s : Option ℕ) (v : Value) (ts : List Token) (x : AVariable t ts (variable w s v)) (i : ℕ) (r : List Spot) (fs all : Faults) (l : Scope) (k e : ℕ)
        → At k e ((i_name w, i) ∷ (i_declared, i) ∷ r) → items r ≡ behind (items (spots_variable t ts (variable w s v) x i)) → lo ≤ k → e ≤ hi → get_or cs p 0 ≡ 130 + t → Kept k → Sc l h k
        → rules.is_array cs (suc k) ≡ is_array s
        → (((j : ℕ) → suc (suc k) ≤ j → j ≤ e → Sc (l ++ sense_of_variable t (variable w s v) ∷ []) h j) → G (suc (suc k)) e fs) → new_name l w i ++ fs ≡ all
        → Passed Kept h k e (l ++ sense_of_variable t (variable w s v) ∷ []) all
    rest-passed t w s v ts x i r fs all l k e y same-items b d typed kept sc array f q =
        record {
          scope = scope_at e (omega arith) (omega arith);
          kept = last-over m cs vs S 3 (suc (suc k)) e (omega arith) (λ j g u. low-three (get_or cs j 0) (lows j g u)) ∙ last_skip m cs vs S 3 (suc k) (ap (among 3) cd ∙ sets.3) ∙ kept1;
          gives = gives_to e refl q (gives_join (name_new S y h sets.2 hd l sc) (f scope_at));
        }
      where
        cd : get_or cs (suc k) 0 ≡ c_declared
        cd = span-code S (span_tail y)

        hd : get_or (hs m cs vs S) (suc k) 0 ≡ h
        hd = home (suc k) (omega arith) (omega arith)

        kept1 : last cs 3 (suc k) ≡ suc (suc p)
        kept1 = last_skip m cs vs S 3 k (ap (among 3) (span-code S y) ∙ sets.1) ∙ kept

        lows : (j : ℕ) → suc (suc k) ≤ j → j < e → Low (get_or cs j 0)
        lows j g u =
            let z = span_tail (span_tail y) in
            let rest = items r in
            let size = items_long r rest refl in
            valued_at m cs vs S j (omega arith)
            (lies_all (code m) valued rest (suc (suc k)) (span_lies r rest z refl)
            (subst (All valued) (sym (same-items ∙ ap behind (variable_code t ts (variable w s v) x i))) (all_append valued (code_size s) (code_value v) (all-size s) (all_value v))) j g (omega arith))

        scope_at : (j : ℕ) → suc (suc k) ≤ j → j ≤ e → Scoped m cs vs (hs m cs vs S) S (l ++ sense_of_variable t (variable w s v) ∷ []) h j
        scope_at j g u =
            scoped_over m cs vs H S (l ++ sense_of_variable t (variable w s v) ∷ []) h (suc (suc k)) j g (λ n o z. inl (low-one (get_or cs n 0) (lows n o (omega arith))))
            (name-adds S y h sets.2 hd l sc (senses.variable (eqb t 43) (is_array s)) refl (omega arith, ap (among 14) cd ∙ sets.4, chan_is m cs vs S (suc k) p t kept1 typed, array))

    pub variable_passed : (t : ℕ) (ts : List Token) (v : Variable) (x : AVariable t ts v) (i k e : ℕ) (l : Scope) → At k e (spots_variable t ts v x i) → lo ≤ k → e ≤ hi → get_or cs p 0 ≡ 130 + t
        → After m cs vs S e → Kept k → Sc l h k → Passed Kept h k e (l ++ sense_of_variable t v ∷ []) (in_variable sees t l ts v x i)
    unfolding in_variable
    variable_passed _ _ (variable w s v) x_bare i k e l y b d typed a kept sc =
        let q : e ≡ suc (suc k) = omega arith in
        rest-passed _ w s v _ x_bare i [] [] (new_name l w i) l k e y refl b d typed kept sc (array-none m cs vs S k (subst (λ n. get_or cs (suc n) 0 ≡ c_size → ⊥) q a.1))
        (λ f. gives_empty cs vs toks (suc (suc k)) e (omega arith)) (append-nil (new_name l w i))
    variable_passed t _ (variable w s v) (x_set u) i k e l y b d typed a kept sc =
        let z = span_tail (span_tail y) in
        rest-passed t w s v _ (x_set u) i (spots_value u (i + 2)) (in_value (sees (l ++ sense_of_variable t (variable w s v) ∷ [])) u (i + 2)) _ l k e y refl b d typed kept sc
        (array-none m cs vs S k (value_mark u (i + 2) (suc (suc k)) e z))
        (λ f. value_gives u (i + 2) (suc (suc k)) e (l ++ sense_of_variable t (variable w s v) ∷ []) z (omega arith) d (f (suc (suc k)) (omega arith) (omega arith))) refl
    variable_passed t _ (variable w s v) (x_array {n = n}) i k e l y b d typed a kept sc =
        let z = span_tail (span_tail y) in
        rest-passed t w s v _ x_array i _ (in_array n (i + 2)) _ l k e y refl b d typed kept sc (array-some m cs vs S k (span-code S z) (span-code S (span_tail z)))
        (λ f. gives_to e (omega arith) refl (rule_size S z)) refl
    variable_passed t _ (variable w s v) (x_array_set {n = n} u) i k e l y b d typed a kept sc =
        let z = span_tail (span_tail y) in
        let q = span_tail (span_tail z) in
        let l2 = l ++ sense_of_variable t (variable w s v) ∷ [] in
        rest-passed t w s v _ (x_array_set u) i _ (in_array n (i + 2) ++ in_value (sees l2) u (i + 5)) _ l k e y refl b d typed kept sc
        (array-some m cs vs S k (span-code S z) (span-code S (span_tail z)))
        (λ f. gives_join (rule_size S z) (value_gives u (i + 5) (suc (suc (suc (suc k)))) e l2 q (omega arith) d (f (suc (suc (suc (suc k)))) (omega arith) (omega arith))))
        (sym (append_assoc (new_name l w i) (in_array n (i + 2)) (in_value (sees l2) u (i + 5))))
    variable_passed t _ (variable w s v) (x_channel {n = n} {ks = ks} u) i k e l y b d typed a kept sc =
        let z = span_tail (span_tail y) in
        let q = span_tail (span_tail z) in
        let c = span-code S (span_tail z) in
        let cap = unless (both (leb capacity_least n) (leb n capacity_most)) 5 (i + 3) in
        let five = unless (leb (length ks) fields_most) 5 (i + 15) in
        rest-passed t w s v _ (x_channel u) i _ (cap ++ five) _ l k e y refl b d typed kept sc (array-none m cs vs S k (λ o. omega arith))
        (λ f. gives_join (rule_channel S z)
        (gives_to e refl (ap (λ o. unless (leb o 4) 5 (i + 15)) (let o : 0 + length ks ≡ length ks = omega arith in o))
        (fields u (suc (suc (suc k))) 0 (i + 7) (i + 15) (suc (suc (suc (suc k)))) e q (omega arith) (omega arith) (omega arith)
        (last-here m cs vs S 16 (suc (suc (suc k))) (ap (among 16) c ∙ sets.5)))))
        (sym (append_assoc (new_name l w i) cap five))
