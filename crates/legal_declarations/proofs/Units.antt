-- The units of a model: what each adds to the globals, and the faults of its items.
use Prim.Native.Nat.{ℕ, zero, suc, ◌+◌, ◌-◌, ◌≤◌, ◌<◌}
use native.Mathlib.Omega.{arith}
use native.Mathlib.Decide.{ℕ_discrete, dec_lt}
use mathlib.Core.Path.{◌≡◌, refl, sym, ap, ◌∙◌, subst}
use mathlib.Core.Bool.{Bool, true, false}
use mathlib.Core.Logic.{inl, inr}
use mathlib.Core.List.{List, [], ◌∷◌, ◌++◌, append-nil}
use lib.ListN.{length, get_or, length-append}
use lib.Dec.{eqb, ltb}
use borrow.Author.Tests.{ne_eqb, lt-ltb}
use Rattle.base_kinds.specs.Kinds.{Token}
use Rattle.base_codes.specs.Codes.{c_active, c_active_many, c_body, c_end_body, c_field, c_init, c_message, c_mtypes, c_name, c_number, c_parameter, c_proctype, c_size}
use Rattle.base_bytes.specs.Choice.{either}
use Rattle.base_bytes.proofs.Tests.{true_false, either_no}
use Rattle.rule_sheets.specs.Walks.{sum}
use Rattle.rule_sheets.specs.Homes.{inside_of}
use Rattle.rule_search.specs.Sets.{among}
use Rattle.rule_search.specs.Search.{last, one, count}
use Rattle.spec_grammar.specs.Tree.{Name, Model, sequence, Tree, Declaration, Group, body, Activity, Part}
use Rattle.spec_grammar.specs.Marks.{'comma, 'semi}
use Rattle.spec_grammar.specs.Grammar.{Listed, MaybeListed, AName, ADeclaration, AGroup, ABody, AnActivity, not_active, active, active_times, AUnit, u_mtypes, u_global, u_process, u_init}
use Rattle.base_codes.specs.Items.{Item, code_of, i_active, i_active_many, i_body, i_end_body, i_global, i_local, i_message, i_name, i_proctype}
use Rattle.base_codes.specs.Sets.{rule_of, is_unit}
use Rattle.parse_code.specs.Code.{each, code_tree, code_declaration, code_group, code_body, code_message, code}
use Rattle.parse_spots.specs.Spots.{spots_listed, spots_maybe, spots_declaration, spots_group, spots_body, spots_activity, spots_message_name, spots_unit}
use Rattle.parse_spots.proofs.Coded.{listed-code, maybe_code, declaration_code, group-code, body_code}
use Rattle.spec_rules.specs.Senses.{Sense, constant, procedure, Scope, declared, sense_of}
use Rattle.spec_rules.specs.Units.{scope_of_groups, of_part}
use Rattle.spec_faults.specs.Faults.{is_list, is_init, in_unit}
use Rattle.legal_terms.specs.Says.{item_at, Says}
use Rattle.legal_terms.specs.Faulted.{Statements}
use Rattle.keep_tables.proofs.Sums.{sum-next}
use Rattle.legal_declarations.proofs.Items.{settled, all_declaration, global-settled, All, all-each}
use Rattle.legal_declarations.proofs.Standing.{lies_front, lies_all, long, code_at, settled_at, Span, items_long, span-front, span-back, span_tail, span_lies, span-room, span-code}
use Rattle.legal_declarations.proofs.Homes.{inside-over, home_inside, home_of_head, home_most}
use Rattle.legal_declarations.proofs.Scopes.{Scoped, scoped_start, scoped_next, scoped_over}
use Rattle.legal_declarations.proofs.Judging.{hs, Gives, gives_empty, gives_join, gives_none, rule_mtypes, rule_init}
use Rattle.legal_declarations.proofs.Variables.{low-one, After, name_new, name-adds}
use Rattle.legal_declarations.proofs.Declarations.{names-passed, groups_passed, after-declarations, named-global, global-passed}
use Rattle.legal_declarations.proofs.Bodies.{Frame, frame_made, frame_behind, home_in, inside-after, parameters_counted, body_gives}
use Rattle.rule_sheets.proofs.Meaning.{no_head}

-- ---- sets
not_nine : (c : ℕ) → (c ≡ c_mtypes → ⊥) → among 9 c ≡ false
unfolding among
not_nine c n = ne_eqb c c_mtypes n

not_ten : (c : ℕ) → (c ≡ c_init → ⊥) → among 10 c ≡ false
unfolding among
not_ten c n = ne_eqb c c_init n

sets : (among 9 c_mtypes ≡ true) × (among 10 c_init ≡ true) × (among 1 c_mtypes ≡ false) × (among 1 c_message ≡ true) × (among 3 c_message ≡ false) × (among 1 c_init ≡ false)
unfolding among
sets = (refl, refl, refl, refl, refl, refl)

number_rule : rule_of c_number ≡ 0
unfolding rule_of
number_rule = refl

-- what begins a proctype
pub data Begins : ℕ → Type 0 where
  plainly : Begins c_proctype
  once_more : Begins c_active
  many : Begins c_active_many

begins-head : {c : ℕ} → Begins c → (is_unit c ≡ true) × (among 1 c ≡ true) × (among 13 c ≡ true) × (c ≡ c_mtypes → ⊥) × (c ≡ c_init → ⊥)
unfolding among
begins-head plainly = (refl, refl, refl, (λ z. omega arith), (λ z. omega arith))
begins-head once_more = (refl, refl, refl, (λ z. omega arith), (λ z. omega arith))
begins-head many = (refl, refl, refl, (λ z. omega arith), (λ z. omega arith))

message : Item → Bool
message x = either (eqb (code_of x) c_name) (eqb (code_of x) c_message)

message-all : (w : Name) → All message (code_message w)
unfolding message
message-all w = (refl, (refl, tt))

message-code : (x : Item) → message x ≡ true → (code_of x ≤ c_message) × (code_of x ≡ c_mtypes → ⊥)
unfolding message
message-code x e = go (ℕ_discrete (code_of x) c_name) (ℕ_discrete (code_of x) c_message)
  where
    go : Dec (code_of x ≡ c_name) → Dec (code_of x ≡ c_message) → (code_of x ≤ c_message) × (code_of x ≡ c_mtypes → ⊥)
    go (yes z) d = (omega arith, λ y. omega arith)
    go (no z) (yes d) = (omega arith, λ y. omega arith)
    go (no z) (no d) = absurd (true_false (sym e ∙ rw (ne_eqb (code_of x) c_name z, ne_eqb (code_of x) c_message d) refl))

-- one stands before: one more, and no more
now-more : (n k : ℕ) (b : Bool) → k ≡ n + 1 → ltb 0 k ≡ either b true
now-more n k true e = lt-ltb 0 k (omega arith)
now-more n k false e = lt-ltb 0 k (omega arith)

as_before : (n k : ℕ) (b : Bool) → k ≡ n → ltb 0 n ≡ b → ltb 0 k ≡ either b false
as_before n k b e q = ap (ltb 0) e ∙ q ∙ sym (either_no b)

-- how many items a body has
body_long : (ds : List Declaration) (q : Tree sequence) → length (code_body (body ds q)) ≡ suc (suc (length (each (code_declaration i_local) ds) + length (code_tree q)))
body_long ds q =
    let a = length-append (i_body ∷ each (code_declaration i_local) ds) (code_tree q) in
    let b = length-append (i_body ∷ each (code_declaration i_local) ds ++ code_tree q) (i_end_body ∷ []) in
    omega arith

module _ (m : Model) (cs vs : List ℕ) (S : Says m cs vs) where
  abbrev H : List ℕ
  H = hs m cs vs S

  abbrev Sc : Scope → ℕ → ℕ → Type 0
  Sc = Scoped m cs vs H S

  -- ---- counts
  count_next : (set j : ℕ) → count cs H set 0 0 (suc j) ≡ count cs H set 0 0 j + one cs H set 0 j
  unfolding count
  count_next set j =
      ap (sum (one cs H set 0) 0) (let z : suc j - 0 ≡ j + 1 = omega arith in z) ∙ sum-next (one cs H set 0) j ∙ ap (λ n. sum (one cs H set 0) 0 n + one cs H set 0 j)
      (let z : j ≡ j - 0 = omega arith in z)

  one_none : (set j : ℕ) → among set (get_or cs j 0) ≡ false → one cs H set 0 j ≡ 0
  unfolding one
  one_none set j e = rw e

  one-here : (set j : ℕ) → among set (get_or cs j 0) ≡ true → get_or H j 0 ≡ 0 → one cs H set 0 j ≡ 1
  unfolding one
  one-here set j e g = rw (e, g)

  count_far : (set n i : ℕ) → ((j : ℕ) → i ≤ j → j < i + n → among set (get_or cs j 0) ≡ false) → count cs H set 0 0 (i + n) ≡ count cs H set 0 0 i
  count_far set zero i p = ap (count cs H set 0 0) (let z : i + 0 ≡ i = omega arith in z)
  count_far set (suc n) i p =
      let a = count_next set (i + n) in
      let b = one_none set (i + n) (p (i + n) (omega arith) (omega arith)) in
      let r = count_far set n i (λ j x y. p j x (omega arith)) in
      ap (count cs H set 0 0) (let z : i + suc n ≡ suc (i + n) = omega arith in z) ∙ (let z : count cs H set 0 0 (suc (i + n)) ≡ count cs H set 0 0 i = omega arith in z)

  count-over : (set i e : ℕ) → i ≤ e → ((j : ℕ) → i ≤ j → j < e → among set (get_or cs j 0) ≡ false) → count cs H set 0 0 e ≡ count cs H set 0 0 i
  count-over set i e b p = ap (count cs H set 0 0) (let z : e ≡ i + (e - i) = omega arith in z) ∙ count_far set (e - i) i (λ j x y. p j x (omega arith))

  -- of mtype lists and of inits
  counts_over : (i e : ℕ) → i ≤ e → ((k : ℕ) → i ≤ k → k < e → (get_or cs k 0 ≡ c_mtypes → ⊥) × (get_or cs k 0 ≡ c_init → ⊥))
      → (count cs H 9 0 0 e ≡ count cs H 9 0 0 i) × (count cs H 10 0 0 e ≡ count cs H 10 0 0 i)
  counts_over i e b p = (count-over 9 i e b (λ k u v. not_nine (get_or cs k 0) (p k u v).0), count-over 10 i e b (λ k u v. not_ten (get_or cs k 0) (p k u v).1))

  -- ---- items outside of bodies
  flat : (j e : ℕ) → inside_of cs j ≡ 0 → j ≤ e → e ≤ length cs → ((i : ℕ) → j ≤ i → i < e → get_or cs i 0 ≤ c_parameter) → ((i : ℕ) → j ≤ i → i < e → get_or H i 0 ≡ 0) × (inside_of cs e ≡ 0)
  flat j e q b t l =
      (λ i x y. home_inside cs S.few i (omega arith) (no_head (get_or cs i 0) (l i x y)) ∙ far i x (omega arith), far e b (omega arith))
    where
      far : (i : ℕ) → j ≤ i → i ≤ e → inside_of cs i ≡ 0
      far i x y = inside-over cs j i x (λ k u v. (let z = l k u (omega arith) in (no_head (get_or cs k 0) z, λ w. omega arith))) ∙ q

  module _ (u b f t : ℕ) (F : Frame m cs vs S u b f t) where
    frame_codes : (i : ℕ) → suc u ≤ i → i ≤ t → (get_or cs i 0 ≡ c_mtypes → ⊥) × (get_or cs i 0 ≡ c_init → ⊥)
    frame_codes i x y = go (dec_lt i b) (ℕ_discrete i b) (dec_lt i f) (dec_lt i t)
      where
        go : Dec (i < b) → Dec (i ≡ b) → Dec (i < f) → Dec (i < t) → (get_or cs i 0 ≡ c_mtypes → ⊥) × (get_or cs i 0 ≡ c_init → ⊥)
        go (yes p) q r s = let k = F.before i x p in (k.mtypes, λ z. omega arith)
        go (no p) (yes q) r s = let k : get_or cs i 0 ≡ c_body = ap (λ n. get_or cs n 0) q ∙ F.begin in (λ z. omega arith, λ z. omega arith)
        go (no p) (no q) (yes r) s = let k = (F.own i (omega arith) r).0 in (λ z. omega arith, λ z. omega arith)
        go (no p) (no q) (no r) (yes s) = let k = F.said i (omega arith) s in (λ z. omega arith, λ z. omega arith)
        go (no p) (no q) (no r) (no s) = let k : get_or cs i 0 ≡ c_end_body = ap (λ n. get_or cs n 0) (let z : i ≡ t = omega arith in z) ∙ F.ends in (λ z. omega arith, λ z. omega arith)

    frame_scope : (l : Scope) → Sc l 0 (suc u) → Sc l 0 (suc t)
    frame_scope l s =
        scoped_over m cs vs H S l 0 (suc u) (suc t) (omega arith) (λ i x y. inr (λ z. (let k = home_in m cs vs S u b f t F i x (omega arith) in omega arith))) s

    frame_counts : (count cs H 9 0 0 (suc t) ≡ count cs H 9 0 0 (suc u)) × (count cs H 10 0 0 (suc t) ≡ count cs H 10 0 0 (suc u))
    frame_counts = counts_over (suc u) (suc t) (omega arith) (λ i x y. frame_codes i x (omega arith))

    -- no local is declared before the body
    frame_start : Sc [] (suc u) (suc u)
    frame_start =
        scoped_over m cs vs H S [] (suc u) 0 (suc u) (omega arith) (λ i x y. inr (λ z. (let k = home_most cs S.few i (omega arith) in omega arith))) (scoped_start m cs vs H S (suc u))

module _ (m : Model) (cs vs toks : List ℕ) (S : Says m cs vs) where
  -- ---- what begins a proctype, before item e: its name is item n, at token t
  record Head (w : Name) (t j e : ℕ) : Type 0 where
    n : ℕ
    mark : Item
    own : ℕ
    order : j ≤ n
    spot : Span (code m) toks n e ((i_name w, t) ∷ (mark, own) ∷ [])
    begins : Begins (code_of mark)
    clean : Gives cs vs toks j n []
    low : (i : ℕ) → j ≤ i → i ≤ n → get_or cs i 0 ≤ c_number

  head_at : (x : Item) → Begins (code_of x) → (w : Name) (i j e p t : ℕ) → p ≡ t → Span (code m) toks j e ((i_name w, p) ∷ (x, i) ∷ []) → Head w t j e
  head_at x c w i j e p t q y =
      record {
        n = j;
        mark = x;
        own = i;
        order = omega arith;
        spot = subst (λ n. Span (code m) toks j e ((i_name w, n) ∷ (x, i) ∷ [])) q y;
        begins = c;
        clean = gives_empty cs vs toks j j refl;
        low = λ k u v. (let c = span-code S y in let z : get_or cs k 0 ≡ get_or cs j 0 = ap (λ n. get_or cs n 0) (let z : k ≡ j = omega arith in z) in omega arith);
      }

  head_of : {xs : List Token} {a : Activity} (x : AnActivity xs a) (w : Name) (i j e : ℕ) → Span (code m) toks j e (spots_activity w x i) → Head w (i + length xs + 1) j e
  head_of not_active w i j e y = head_at i_proctype plainly w i j e (i + 1) (i + 0 + 1) (omega arith) y
  head_of active w i j e y = head_at i_active once_more w i j e (i + 2) (i + 1 + 1) (omega arith) y
  head_of active_times w i j e y =
      let h = head_at i_active_many many w i (suc j) e (i + 5) (i + 4 + 1) (omega arith) (span_tail y) in
      record {
        n = h.n;
        mark = h.mark;
        own = h.own;
        order = omega arith;
        spot = h.spot;
        begins = h.begins;
        clean = gives_join (gives_none S j (ap rule_of (span-code S y) ∙ number_rule)) h.clean;
        low = λ k u v. go k h.n u v h.low (span-code S y) (ℕ_discrete k j);
      }
    where
      go : (k n : ℕ) → j ≤ k → k ≤ n → ((i : ℕ) → suc j ≤ i → i ≤ n → get_or cs i 0 ≤ c_number) → get_or cs j 0 ≡ c_number → Dec (k ≡ j) → get_or cs k 0 ≤ c_number
      go k n u v l c (yes z) = let r : get_or cs k 0 ≡ get_or cs j 0 = ap (λ n. get_or cs n 0) z in omega arith
      go k n u v l c (no z) = l k (omega arith) v

  -- ---- what is known before a unit; `lists` and `inits`: one stands before it
  pub record Ready (lists inits : Bool) (g : Scope) (j : ℕ) : Type 0 where
    pub scope : Scoped m cs vs (hs m cs vs S) S g 0 j
    pub inside : inside_of cs j ≡ 0
    pub nine : ltb 0 (count cs (hs m cs vs S) 9 0 0 j) ≡ lists
    pub ten : ltb 0 (count cs (hs m cs vs S) 10 0 0 j) ≡ inits

  -- and behind it
  pub record Done (lists inits : Bool) (g : Scope) {ts : List Token} {v : Part} (x : AUnit ts v) (i j e : ℕ) : Type 0 where
    pub ready : Ready (either lists (is_list v)) (either inits (is_init v)) (g ++ of_part v) e
    pub gives : (M : Scope) → Scoped m cs vs (hs m cs vs S) S M 0 (length cs) → Gives cs vs toks j e (in_unit M lists inits g v x i)

  module _ (ruled : Statements m cs vs toks) (lists inits : Bool) (g : Scope) (i j e : ℕ) (after : After m cs vs S e) (before : Ready lists inits g j) where
    -- ---- mtype names
    pub done_mtypes : {ts : List Token} {ws : List Name} (x : Listed 'comma AName ts ws) → Span (code m) toks j e (spots_unit (u_mtypes x) i) → Done lists inits g (u_mtypes x) i j e
    done_mtypes {ws = ws} x y =
        let z = span_tail y in
        let lg = long m cs vs S in
        let cm = span-code S y in
        let L = spots_listed AName spots_message_name x (i + 3) in
        let coded = listed-code AName spots_message_name code_message (λ ts w x i. refl) x (i + 3) in
        let size = items_long L (each code_message ws) coded in
        let lies = span_lies L (each code_message ws) z coded in
        let codes : (k : ℕ) → suc j ≤ k → k < e → (get_or cs k 0 ≤ c_message) × (get_or cs k 0 ≡ c_mtypes → ⊥) =
        λ k u v. (let p = message-code (item_at (code m) k) (lies_all (code m) message (each code_message ws) (suc j) lies (all-each message code_message message-all ws) k u (omega arith)) in
        let r = code_at m cs vs S k (omega arith) in
        (omega arith, λ w. p.1 (sym r ∙ w))) in
        let most : (k : ℕ) → j ≤ k → k < e → get_or cs k 0 ≤ c_parameter = λ k u v. upto k u v cm codes (ℕ_discrete k j) in
        let fl = flat m cs vs S j e before.inside (omega arith) (omega arith) most in
        let s1 = scoped_next m cs vs (hs m cs vs S) S g 0 j (ap (among 1) cm ∙ sets.2) before.scope in
        let r = names-passed m cs vs toks S i_message 0 j e (last cs 3 (suc j)) constant sets.3 sets.4 (λ z. omega arith) refl fl.0 (λ k u v w. (omega arith, u)) x (i + 3) (suc j) e g z
        (omega arith) (omega arith) after refl s1 in
        let n9 = count_next m cs vs S 9 j in
        let o9 = one-here m cs vs S 9 j (ap (among 9) cm ∙ sets.0) (fl.0 j (omega arith) (omega arith)) in
        let n10 = count_next m cs vs S 10 j in
        let o10 = one_none m cs vs S 10 j (not_ten (get_or cs j 0) (λ w. omega arith)) in
        let co = counts_over m cs vs S (suc j) e (omega arith) (λ k u v. ((codes k u v).1, λ w. (let p = (codes k u v).0 in omega arith))) in
        record {
          ready =
              record {
                scope = r.scope;
                inside = fl.1;
                nine = now-more (count cs (hs m cs vs S) 9 0 0 j) (count cs (hs m cs vs S) 9 0 0 e) lists (omega arith);
                ten = as_before (count cs (hs m cs vs S) 10 0 0 j) (count cs (hs m cs vs S) 10 0 0 e) inits (omega arith) before.ten;
              };
          gives = λ M sm. gives_join (rule_mtypes S lists y before.nine) r.gives;
        }
      where
        upto : (k : ℕ) → j ≤ k → k < e → get_or cs j 0 ≡ c_mtypes → ((k : ℕ) → suc j ≤ k → k < e → (get_or cs k 0 ≤ c_message) × (get_or cs k 0 ≡ c_mtypes → ⊥)) → Dec (k ≡ j) → get_or cs k 0 ≤ c_parameter
        upto k u v cm codes (yes z) = let w : get_or cs k 0 ≡ c_mtypes = ap (λ n. get_or cs n 0) z ∙ cm in omega arith
        upto k u v cm codes (no z) = let w = (codes k (omega arith) v).0 in omega arith

    -- ---- a global declaration
    pub done_global : {ts : List Token} {d : Declaration} (x : ADeclaration ts d) → Span (code m) toks j e (spots_unit (u_global x) i) → Done lists inits g (u_global x) i j e
    done_global {d = d} x y =
        let lg = long m cs vs S in
        let X = spots_declaration i_global x i in
        let coded = declaration_code i_global x i in
        let size = items_long X (code_declaration i_global d) coded in
        let lies = span_lies X (code_declaration i_global d) y coded in
        let codes : (k : ℕ) → j ≤ k → k < e → get_or cs k 0 ≤ c_field =
        λ k u v. (settled_at m cs vs S k (omega arith) (lies_all (code m) settled (code_declaration i_global d) j lies (all_declaration i_global global-settled d) k u (omega arith))).0 in
        let fl = flat m cs vs S j e before.inside (omega arith) (omega arith) (λ k u v. (let w = codes k u v in omega arith)) in
        let r = global-passed m cs vs toks S 0 j e (λ l. sense_of [] l) fl.0 (λ l k w u v q s. named-global m cs vs toks S l k w (omega arith) q s)
        x i j e g y (omega arith) (omega arith) after before.scope in
        let co = counts_over m cs vs S j e (omega arith) (λ k u v. (let p = codes k u v in (λ w. omega arith, λ w. omega arith))) in
        record {
          ready =
              record {
                scope = r.scope;
                inside = fl.1;
                nine = as_before _ (count cs (hs m cs vs S) 9 0 0 e) lists co.0 before.nine;
                ten = as_before _ (count cs (hs m cs vs S) 10 0 0 e) inits co.1 before.ten;
              };
          gives = λ M sm. r.gives;
        }

    -- ---- units with a body
    pub done_process : {xs ts us : List Token} {a : Activity} {w : Name} {gs : List Group} {ds : List Declaration} {q : Tree sequence} (x : AnActivity xs a) (y : MaybeListed 'semi AGroup ts gs)
        (z : ABody us (body ds q)) → Span (code m) toks j e (spots_unit (u_process {w = w} x y z) i) → Done lists inits g (u_process {w = w} x y z) i j e
    done_process {xs} {ts} {us} {a} {w} {gs} {ds} {q} x y z sp =
        let lg = long m cs vs S in
        let A = spots_activity w x i in
        let Q = spots_maybe AGroup spots_group y (i + length xs + 3) in
        let B = spots_body z (i + length xs + length ts + 4) in
        let ab = span-front (A ++ Q) B sp in
        let hd = head_of x w i j (j + length A) (span-front A Q ab) in
        let n = hd.n in
        let u = suc n in
        let b = j + length (A ++ Q) in
        let yq = subst (λ k. Span (code m) toks k b Q) (let r : j + length A ≡ suc u = omega arith in r) (span-back A Q ab) in
        let coded = maybe_code AGroup spots_group code_group group-code y (i + length xs + 3) in
        let sizeq = items_long Q (each code_group gs) coded in
        let lq = span_lies Q (each code_group gs) yq coded in
        let yb = span-back (A ++ Q) B sp in
        let codeb = body_code z (i + length xs + length ts + 4) in
        let sizeb = items_long B (code_body (body ds q)) codeb in
        let longb = body_long ds q in
        let lb = span_lies B (code_body (body ds q)) yb codeb in
        let D = each (code_declaration i_local) ds in
        let f = suc b + length D in
        let t = f + length (code_tree q) in
        let te : suc t ≡ e = omega arith in
        let eb : b ≡ suc u + length (each code_group gs) = omega arith in
        let ck = span-code S (span_tail hd.spot) in
        let bh = begins-head hd.begins in
        let F = frame_made m cs vs S gs ds q u b f t (ap is_unit ck ∙ bh.0) eb refl refl lq lb (omega arith) in
        let af : get_or cs (suc t) 0 ≡ c_size → ⊥ = λ r. after.0 (ap (λ n. get_or cs n 0) (sym te) ∙ r) in
        let su = scoped_over m cs vs (hs m cs vs S) S g 0 j n (omega arith) (λ k v r. inl (low-none (get_or cs k 0) (hd.low k v (omega arith)))) before.scope in
        let sn : Sense = procedure (length (scope_of_groups gs)) in
        let hu = home_of_head cs S.few u (omega arith) (ap is_unit ck ∙ bh.0) in
        let g2 = g ++ declared w sn ∷ [] in
        let s2 = name-adds S hd.spot 0 bh.1 hu g su sn refl (omega arith, ap (among 13) ck ∙ bh.2, parameters_counted m cs vs S u b f t F gs lq eb) in
        let yd = lies_front (code m) b (i_body ∷ D) (code_tree q) (lies_front (code m) b (i_body ∷ D ++ code_tree q) (i_end_body ∷ []) lb) in
        let ad : After m cs vs S b = ((λ v. omega arith), (after-declarations m cs vs S ds (suc b) yd.2 (frame_behind m cs vs S u b f t F af)).0) in
        let ps = groups_passed m cs vs toks S (suc u) (suc u) b (λ k v r. home_in m cs vs S u b f t F k v (omega arith)) y (i + length xs + 3) (suc u) b [] yq (omega arith) (omega arith) ad
        (frame_start m cs vs S u b f t F) in
        let co = counts_over m cs vs S j (suc u) (omega arith) (λ k v r. heading n (code_of hd.mark) k v (omega arith) (ℕ_discrete k u) ck bh.3 bh.4 hd.low) in
        let cf = frame_counts m cs vs S u b f t F in
        subst (Done lists inits g (u_process {w = w} x y z) i j) te
        (record {
          ready =
              record {
                scope = frame_scope m cs vs S u b f t F g2 s2;
                inside = inside-after m cs vs S u b f t F;
                nine = as_before _ (count cs (hs m cs vs S) 9 0 0 (suc t)) lists (cf.0 ∙ co.0) before.nine;
                ten = as_before _ (count cs (hs m cs vs S) 10 0 0 (suc t)) inits (cf.1 ∙ co.1) before.ten;
              };
          gives = λ M sm.
              gives_join (gives_join (gives_join hd.clean (name_new S hd.spot 0 bh.1 hu g su)) ps.gives)
              (body_gives m cs vs toks S ruled u b f t F af g2 M s2 sm z (i + length xs + length ts + 4) (scope_of_groups gs) (subst (λ k. Span (code m) toks b k B) (sym te) yb) refl ps.scope);
        })
      where
        low-none : (c : ℕ) → c ≤ c_number → among 1 c ≡ false
        low-none c h = low-one c (record { most = omega arith; string = λ z. omega arith; high = λ z. omega arith })

        heading : (n c k : ℕ) → j ≤ k → k ≤ suc n → Dec (k ≡ suc n) → get_or cs (suc n) 0 ≡ c → (c ≡ c_mtypes → ⊥) → (c ≡ c_init → ⊥) → ((k : ℕ) → j ≤ k → k ≤ n → get_or cs k 0 ≤ c_number)
            → (get_or cs k 0 ≡ c_mtypes → ⊥) × (get_or cs k 0 ≡ c_init → ⊥)
        heading n c k v r (yes z) ck p q low = let e : get_or cs k 0 ≡ c = ap (λ n. get_or cs n 0) z ∙ ck in (λ r. p (sym e ∙ r), λ r. q (sym e ∙ r))
        heading n c k v r (no z) ck p q low = let e = low k v (omega arith) in (λ r. omega arith, λ r. omega arith)

    pub done_init : {ts : List Token} {ds : List Declaration} {q : Tree sequence} (z : ABody ts (body ds q)) → Span (code m) toks j e (spots_unit (u_init z) i) → Done lists inits g (u_init z) i j e
    done_init {ts} {ds} {q} z sp =
        let lg = long m cs vs S in
        let B = spots_body z (i + 1) in
        let b = suc j in
        let yb = span_tail sp in
        let codeb = body_code z (i + 1) in
        let sizeb = items_long B (code_body (body ds q)) codeb in
        let longb = body_long ds q in
        let lb = span_lies B (code_body (body ds q)) yb codeb in
        let f = suc b + length (each (code_declaration i_local) ds) in
        let t = f + length (code_tree q) in
        let te : suc t ≡ e = omega arith in
        let ci = span-code S sp in
        let F = frame_made m cs vs S [] ds q j b f t (ap is_unit ci) (omega arith) refl refl tt lb (span-room S sp).0 in
        let af : get_or cs (suc t) 0 ≡ c_size → ⊥ = λ r. after.0 (ap (λ n. get_or cs n 0) (sym te) ∙ r) in
        let hj = home_of_head cs S.few j (span-room S sp).1 (ap is_unit ci) in
        let s1 = scoped_next m cs vs (hs m cs vs S) S g 0 j (ap (among 1) ci ∙ sets.5) before.scope in
        let n9 = count_next m cs vs S 9 j in
        let o9 = one_none m cs vs S 9 j (not_nine (get_or cs j 0) (λ w. omega arith)) in
        let n10 = count_next m cs vs S 10 j in
        let o10 = one-here m cs vs S 10 j (ap (among 10) ci ∙ sets.1) hj in
        let cf = frame_counts m cs vs S j b f t F in
        subst (Done lists inits g (u_init z) i j) te
        (record {
          ready =
              record {
                scope = subst (λ l. Scoped m cs vs (hs m cs vs S) S l 0 (suc t)) (sym (append-nil g)) (frame_scope m cs vs S j b f t F g s1);
                inside = inside-after m cs vs S j b f t F;
                nine = as_before (count cs (hs m cs vs S) 9 0 0 j) (count cs (hs m cs vs S) 9 0 0 (suc t)) lists (omega arith) before.nine;
                ten = now-more (count cs (hs m cs vs S) 10 0 0 j) (count cs (hs m cs vs S) 10 0 0 (suc t)) inits (omega arith);
              };
          gives = λ M sm.
              gives_join (rule_init S inits sp before.ten)
              (body_gives m cs vs toks S ruled j b f t F af g M s1 sm z (i + 1) [] (subst (λ k. Span (code m) toks b k B) (sym te) yb) refl (frame_start m cs vs S j b f t F));
        })
