-- The faults of stretches of items (`Gives`), and the rules of items outside of statements: each gives the number that the specification says, at its token.
use Prim.Native.Nat.{ℕ, zero, suc, ◌+◌, ◌-◌, ◌*◌, ◌≤◌, ◌<◌}
use native.Mathlib.Omega.{arith}
use native.Mathlib.Decide.{ℕ_discrete}
use mathlib.Core.Path.{◌≡◌, refl, sym, ap, ap₂, ◌∙◌, subst}
use mathlib.Core.Bool.{Bool, true, false, not}
use mathlib.Core.Logic.{◌⊎◌, inl, inr}
use mathlib.Core.List.{List, [], ◌∷◌, ◌++◌, append-nil, append_assoc}
use lib.ListN.{length, get_or, replicate}
use lib.Dec.{eqb, ltb, leb}
use borrow.Author.Tests.{ne_eqb, eq-eqb, le-leb, lt-leb, leb-true, eqb-true}
use Rattle.base_ceilings.specs.Ceilings.{array_least, array_most, capacity_least, capacity_most, fields_most, items_most}
use Rattle.base_codes.specs.Codes.{c_active_many, c_argument, c_assert, c_break, c_channel, c_declared, c_else, c_end, c_equal, c_express, c_field, c_goto, c_init, c_into, c_label, c_message, c_mtypes, c_named, c_parameter, c_plain, c_receive, c_run, c_size, c_text}
use Rattle.base_bytes.specs.Choice.{pick, both, either}
use Rattle.base_bytes.specs.Lists.{same}
use Rattle.base_bytes.proofs.Tests.{true_false, both_true, either_true}
use Rattle.spec_text.specs.Names.{pid}
use Rattle.rule_sheets.specs.Walks.{after}
use Rattle.rule_sheets.specs.Homes.{homes_of}
use Rattle.rule_sheets.specs.Spans.{starts_of, heights_of}
use Rattle.rule_search.specs.Sets.{among}
use Rattle.rule_search.specs.Search.{find, lookup, last, count}
use Rattle.rule_item.specs.Rules.{bad_twice, bad_named, bad_second, bad_size, bad_field, bad_by, bad}
use Rattle.rule_least.specs.Faults.{place_by}
use Rattle.spec_grammar.specs.Tree.{Name, Model}
use Rattle.spec_rules.specs.Senses.{Scope, sense_in, is_unknown, fresh}
use Rattle.spec_faults.specs.Faults.{Faults, fault_at, unless, new_name, in_array}
use Rattle.legal_terms.specs.Says.{item_at, Says}
use Rattle.legal_terms.specs.Faulted.{fault_of, faults_from}
use Rattle.legal_declarations.proofs.Scopes.{Scoped, out_known}
use Rattle.legal_declarations.proofs.Standing.{Span, span-room, span-code, span_tail}
use Rattle.base_codes.specs.Items.{Item, code_of, i_channel, i_field, i_init, i_mtypes, i_name, i_named, i_number, i_size}
use Rattle.base_codes.specs.Sets.{within, rule_of}
use Rattle.parse_code.specs.Code.{code}
use Rattle.parse_spots.specs.Spots.{Spot}

-- ---- which rule an item has
declaring_codes : (c : ℕ) → among 1 c ≡ true → (c_declared ≤ c) × (c ≤ c_active_many) × (c ≡ c_mtypes → ⊥)
unfolding among
declaring_codes c e = first (either_true (eqb c c_declared) (either (eqb c c_message) (within c_parameter c_active_many c)) e)
  where
    second : (eqb c c_message ≡ true) ⊎ (within c_parameter c_active_many c ≡ true) → (c_declared ≤ c) × (c ≤ c_active_many) × (c ≡ c_mtypes → ⊥)
    second (inl h) = let z = eqb-true c c_message h in (omega arith, omega arith, λ y. omega arith)
    second (inr h) = let a = both_true (leb c_parameter c) (leb c c_active_many) h in let x = leb-true c_parameter c a.0 in let y = leb-true c c_active_many a.1 in (omega arith, omega arith, λ y. omega arith)

    first : (eqb c c_declared ≡ true) ⊎ (either (eqb c c_message) (within c_parameter c_active_many c) ≡ true) → (c_declared ≤ c) × (c ≤ c_active_many) × (c ≡ c_mtypes → ⊥)
    first (inl h) = let z = eqb-true c c_declared h in (omega arith, omega arith, λ y. omega arith)
    first (inr h) = second (either_true (eqb c c_message) (within c_parameter c_active_many c) h)

rule_declaring : (c : ℕ) → among 1 c ≡ true → rule_of c ≡ 8
unfolding among rule_of
rule_declaring c e =
    let a = declaring_codes c e in
    rw (
      ne_eqb c c_text (λ z. omega arith),
      le-leb c_argument c (omega arith),
      lt-leb c c_into (omega arith),
      le-leb c_express c (omega arith),
      lt-leb c c_receive (omega arith),
      ne_eqb c c_break (λ z. omega arith),
      ne_eqb c c_else (λ z. omega arith),
      ne_eqb c c_mtypes a.2,
      ne_eqb c c_init (λ z. omega arith),
      ne_eqb c c_label (λ z. omega arith),
    ) (rest (either (eqb c c_declared) (either (eqb c c_message) (within c_parameter c_active_many c))) _ e)
  where
    rest : (b : Bool) (n : ℕ) → b ≡ true → pick b 8 n ≡ 8
    rest true n e = refl
    rest false n e = absurd (true_false (sym e))

pub rule_none : (c : ℕ) → c < c_plain → (c ≡ c_text → ⊥) → rule_of c ≡ 0
unfolding rule_of
rule_none c h n =
    rw (
      ne_eqb c c_text n,
      lt-leb c_argument c (omega arith),
      lt-leb c_express c (omega arith),
      ne_eqb c c_break (λ z. omega arith),
      ne_eqb c c_else (λ z. omega arith),
      ne_eqb c c_mtypes (λ z. omega arith),
      ne_eqb c c_init (λ z. omega arith),
      ne_eqb c c_label (λ z. omega arith),
      ne_eqb c c_declared (λ z. omega arith),
      ne_eqb c c_message (λ z. omega arith),
      lt-leb c_parameter c (omega arith),
      ne_eqb c c_goto (λ z. omega arith),
      lt-leb c_run c (omega arith),
      ne_eqb c c_size (λ z. omega arith),
      ne_eqb c c_named (λ z. omega arith),
      ne_eqb c c_channel (λ z. omega arith),
      ne_eqb c c_field (λ z. omega arith),
      lt-leb c_plain c (omega arith),
      ne_eqb c c_end (λ z. omega arith),
      ne_eqb c c_equal (λ z. omega arith),
      ne_eqb c c_assert (λ z. omega arith),
    )

-- ---- stretches of items
module _ (cs vs toks : List ℕ) where
  -- the faults of items i to before e
  pub record Gives (i e : ℕ) (l : Faults) : Type 0 where
    pub order : i ≤ e
    pub are : faults_from cs vs toks i (e - i) ≡ l

  faults-split : (n k i : ℕ) → faults_from cs vs toks i (n + k) ≡ faults_from cs vs toks i n ++ faults_from cs vs toks (i + n) k
  unfolding faults_from
  faults-split zero k i = ap (faults_from cs vs toks i) (let z : 0 + k ≡ k = omega arith in z) ∙ ap (λ j. faults_from cs vs toks j k) (let z : i ≡ i + 0 = omega arith in z)
  faults-split (suc n) k i =
      ap (faults_from cs vs toks i) (let z : suc n + k ≡ suc (n + k) = omega arith in z) ∙ ap (λ l. fault_of cs vs toks i ++ l) (faults-split n k (suc i))
      ∙ sym (append_assoc (fault_of cs vs toks i) (faults_from cs vs toks (suc i) n) _)
      ∙ ap (λ j. faults_from cs vs toks i (suc n) ++ faults_from cs vs toks j k) (let z : suc i + n ≡ i + suc n = omega arith in z)

  faults-one : (i : ℕ) → faults_from cs vs toks i 1 ≡ fault_of cs vs toks i
  unfolding faults_from
  faults-one i = append-nil (fault_of cs vs toks i)

  faults-none : (i : ℕ) → faults_from cs vs toks i 0 ≡ []
  unfolding faults_from
  faults-none i = refl

  pub gives_empty : (i e : ℕ) → i ≡ e → Gives i e []
  gives_empty i e q = record { order = omega arith; are = ap (faults_from cs vs toks i) (let z : e - i ≡ 0 = omega arith in z) ∙ faults-none i }

module _ {cs vs toks : List ℕ} where
  pub gives_join : {i k e : ℕ} {a b : Faults} → Gives cs vs toks i k a → Gives cs vs toks k e b → Gives cs vs toks i e (a ++ b)
  gives_join {i} {k} {e} p q =
      record {
        order = omega arith;
        are =
            ap (faults_from cs vs toks i) (let z : e - i ≡ k - i + (e - k) = omega arith in z) ∙ faults-split cs vs toks (k - i) (e - k) i
            ∙ ap (λ j. faults_from cs vs toks i (k - i) ++ faults_from cs vs toks j (e - k)) (let z : i + (k - i) ≡ k = omega arith in z) ∙ ap₂ (λ (x y : Faults). x ++ y) p.are q.are;
      }

  pub gives_to : {i e : ℕ} {a b : Faults} (d : ℕ) → e ≡ d → a ≡ b → Gives cs vs toks i e a → Gives cs vs toks i d b
  gives_to {i} {e} {a} {b} d p q g = subst (λ x. Gives cs vs toks i x b) p (subst (λ x. Gives cs vs toks i e x) q g)

module _ (m : Model) (cs vs : List ℕ) (S : Says m cs vs) where
  abbrev pub hs : List ℕ
  hs = homes_of cs (replicate items_most 0)

  abbrev pub ss : List ℕ
  ss = starts_of cs (replicate items_most 0)

  abbrev pub ts : List ℕ
  ts = heights_of cs ss (replicate items_most 0)

  abbrev pub fault : ℕ → ℕ
  fault j = bad cs vs hs ss ts j

  abbrev by : ℕ → ℕ → ℕ
  by r j = bad_by cs vs hs ss ts r j

  -- ---- the last of a set
  last-next : (set j : ℕ) → last cs set (suc j) ≡ pick (among set (get_or cs j 0)) (suc j) (last cs set j)
  unfolding last after
  last-next set j = refl

  pub last-here : (set j : ℕ) → among set (get_or cs j 0) ≡ true → last cs set (suc j) ≡ suc j
  last-here set j e = last-next set j ∙ rw e refl

  pub last_skip : (set j : ℕ) → among set (get_or cs j 0) ≡ false → last cs set (suc j) ≡ last cs set j
  last_skip set j e = last-next set j ∙ rw e refl

  last_far : (set n i : ℕ) → ((j : ℕ) → i ≤ j → j < i + n → among set (get_or cs j 0) ≡ false) → last cs set (i + n) ≡ last cs set i
  last_far set zero i p = ap (last cs set) (let z : i + 0 ≡ i = omega arith in z)
  last_far set (suc n) i p = ap (last cs set) (let z : i + suc n ≡ suc (i + n) = omega arith in z) ∙ last_skip set (i + n) (p (i + n) (omega arith) (omega arith)) ∙ last_far set n i
      (λ j a b. p j a (omega arith))

  pub last-over : (set i e : ℕ) → i ≤ e → ((j : ℕ) → i ≤ j → j < e → among set (get_or cs j 0) ≡ false) → last cs set e ≡ last cs set i
  last-over set i e b p = ap (last cs set) (let z : e ≡ i + (e - i) = omega arith in z) ∙ last_far set (e - i) i (λ j c d. p j c (omega arith))

  -- ---- the number of each rule
  back : (k : ℕ) → suc k - 1 ≡ k
  back k = omega arith

  twice_is : (l : Scope) (h k : ℕ) (w : Name) → suc k < length cs → item_at (code m) k ≡ i_name w → get_or hs (suc k) 0 ≡ h → Scoped m cs vs hs S l h (suc k)
      → bad_twice cs vs hs 1 (suc k) ≡ pick (fresh l w) 0 4
  unfolding bad_twice fresh
  twice_is l h k w b q g s = rw (back k, S.pids k w (omega arith) q, g) (go (same w pid) refl)
    where
      found : same w pid ≡ false → ltb (find cs vs hs 1 (get_or vs k 0) h (suc k)) (suc k) ≡ not (is_unknown (sense_in l w))
      found n = out_known cs hs (find cs vs hs 1 (get_or vs k 0) h (suc k)) (suc k) (sense_in l w) (s.gives k w (omega arith) q n)

      last_step : (c : Bool) → ◌≡◌ {A = ℕ} (pick (not c) 4 0) (pick c 0 4)
      last_step true = refl
      last_step false = refl

      go : (b : Bool) → same w pid ≡ b → ◌≡◌ {A = ℕ} (pick (either b (ltb (find cs vs hs 1 (get_or vs k 0) h (suc k)) (suc k))) 4 0) (pick (both (not b) (is_unknown (sense_in l w))) 0 4)
      go true e = refl
      go false e = rw (found e) (last_step (is_unknown (sense_in l w)))

  size_is : (most k n : ℕ) → suc k < length cs → item_at (code m) k ≡ i_number n → bad_size vs most (suc k) ≡ pick (both (leb 1 n) (leb n most)) 0 5
  unfolding bad_size
  size_is most k n b q = rw (back k, S.numbers k n (omega arith) q) refl

  -- the value of a name is an mtype name
  named_is : (k h : ℕ) → get_or hs (suc k) 0 ≡ h → bad_named cs vs hs (suc k) ≡ pick (eqb (get_or cs (lookup cs vs hs (get_or vs k 0) h k) 0) c_message) 0 4
  unfolding bad_named
  named_is k h g = rw (back k, g) refl

  pub named-sound : (k h : ℕ) → get_or cs (suc k) 0 ≡ c_named → get_or hs (suc k) 0 ≡ h → fault (suc k) ≡ 0 → eqb (get_or cs (lookup cs vs hs (get_or vs k 0) h k) 0) c_message ≡ true
  unfolding bad_by rule_of
  named-sound k h e g z = go (eqb (get_or cs (lookup cs vs hs (get_or vs k 0) h k) 0) c_message) (sym (named_is k h g) ∙ sym (rw e) ∙ z)
    where
      go : (b : Bool) → ◌≡◌ {A = ℕ} (pick b 0 4) 0 → b ≡ true
      go true q = refl
      go false q = absurd (omega arith)

  -- "second `mtype` list or `init`"
  second_is : (set j : ℕ) (b : Bool) → ltb 0 (count cs hs set 0 0 j) ≡ b → bad_second cs hs set j ≡ pick (not b) 0 5
  unfolding bad_second
  second_is set j true e = rw e refl
  second_is set j false e = rw e refl

  -- the n-th type, from 0 on, of a channel that is item c: the fifth is bad
  field_is : (c n j : ℕ) → last cs 16 j ≡ suc c → j ≡ c + 2 + 2 * n → bad_field cs j ≡ pick (eqb n fields_most) 5 0
  unfolding bad_field
  field_is c n j q z = rw q (ap (λ b. pick b 5 0) (go (ℕ_discrete n 4)))
    where
      go : Dec (n ≡ 4) → eqb (j - suc c) 9 ≡ eqb n 4
      go (yes y) = eq-eqb (j - suc c) 9 (omega arith) ∙ sym (eq-eqb n 4 y)
      go (no y) = ne_eqb (j - suc c) 9 (λ x. y (omega arith)) ∙ sym (ne_eqb n 4 y)

-- ---- and its token
module _ {m : Model} {cs vs toks : List ℕ} (S : Says m cs vs) where
  gives_one : (j r n t : ℕ) → rule_of (get_or cs j 0) ≡ r → by m cs vs S r j ≡ n → place_by cs (ss m cs vs S) toks r j ≡ t → Gives cs vs toks j (suc j) (fault_at n t)
  unfolding fault_of
  gives_one j r n t e p q =
      record {
        order = omega arith;
        are = ap (faults_from cs vs toks j) (let z : suc j - j ≡ 1 = omega arith in z) ∙ faults-one cs vs toks j
            ∙ ap₂ (λ (x y : ℕ). fault_at x y) (ap (λ z. by m cs vs S z j) e ∙ p) (ap (λ z. place_by cs (ss m cs vs S) toks z j) e ∙ q);
      }

  -- an item without a rule
  pub gives_none : (j : ℕ) → rule_of (get_or cs j 0) ≡ 0 → Gives cs vs toks j (suc j) []
  unfolding bad_by
  gives_none j e = gives_one j 0 0 (place_by cs (ss m cs vs S) toks 0 j) e refl refl

  pub gives_skip : {k e d n : ℕ} {x : Item} {s : List Spot} {l : Faults} → Span (code m) toks k e ((x, n) ∷ s) → rule_of (code_of x) ≡ 0 → Gives cs vs toks (suc k) d l → Gives cs vs toks k d l
  gives_skip {k} y r g = gives_join (gives_none k (ap rule_of (span-code S y) ∙ r)) g

  -- rules 1 to 6: at the item's own token
  gives_own : {k e n : ℕ} {x : Item} {s : List Spot} (r v : ℕ) → Span (code m) toks k e ((x, n) ∷ s) → rule_of (code_of x) ≡ r → ltb r 7 ≡ true → by m cs vs S r k ≡ v
      → Gives cs vs toks k (suc k) (fault_at v n)
  unfolding place_by
  gives_own {k} {n = n} r v y e a p = gives_one k r v n (ap rule_of (span-code S y) ∙ e) p (rw a y.stand.1)

  -- rules 7 to 14: a mark at the token of its name, number or type
  gives_back : {k e n p : ℕ} {x z : Item} {s : List Spot} (r v : ℕ) → Span (code m) toks k e ((x, n) ∷ (z, p) ∷ s) → rule_of (code_of x) ≡ 0 → rule_of (code_of z) ≡ r → ltb r 7 ≡ false → ltb r 15 ≡ true
      → by m cs vs S r (suc k) ≡ v → Gives cs vs toks k (suc (suc k)) (fault_at v n)
  unfolding place_by
  gives_back {k} {n = n} r v y o e a b q =
      gives_skip y o (gives_one (suc k) r v n (ap rule_of (span-code S (span_tail y)) ∙ e) q (rw (a, b) (ap (λ j. get_or toks j 0) (let z : suc k - 1 ≡ k = omega arith in z) ∙ y.stand.1)))

  pub rule_mtypes : {k e n : ℕ} {s : List Spot} (b : Bool) → Span (code m) toks k e ((i_mtypes, n) ∷ s) → ltb 0 (count cs (hs m cs vs S) 9 0 0 k) ≡ b → Gives cs vs toks k (suc k) (unless (not b) 5 n)
  unfolding bad_by rule_of
  rule_mtypes {k} b y q = gives_own 5 (pick (not b) 0 5) y refl refl (second_is m cs vs S 9 k b q)

  pub rule_init : {k e n : ℕ} {s : List Spot} (b : Bool) → Span (code m) toks k e ((i_init, n) ∷ s) → ltb 0 (count cs (hs m cs vs S) 10 0 0 k) ≡ b → Gives cs vs toks k (suc k) (unless (not b) 5 n)
  unfolding bad_by rule_of
  rule_init {k} b y q = gives_own 6 (pick (not b) 0 5) y refl refl (second_is m cs vs S 10 k b q)

  -- a name is new in its space, and is not `_pid`
  pub rule_fresh : {k e n p : ℕ} {w : Name} {z : Item} {s : List Spot} (l : Scope) (h : ℕ) → Span (code m) toks k e ((i_name w, n) ∷ (z, p) ∷ s) → among 1 (code_of z) ≡ true
      → get_or (hs m cs vs S) (suc k) 0 ≡ h → Scoped m cs vs (hs m cs vs S) S l h (suc k) → Gives cs vs toks k (suc (suc k)) (new_name l w n)
  unfolding bad_by rule_of
  rule_fresh {k} {w = w} {z = z} l h y a g c =
      gives_back 8 (pick (fresh l w) 0 4) y refl (rule_declaring (code_of z) a) refl refl (twice_is m cs vs S l h k w (span-room S (span_tail y)).1 y.stand.0 g c)

  pub rule_size : {k e n p i : ℕ} {s : List Spot} → Span (code m) toks k e ((i_number i, n) ∷ (i_size, p) ∷ s) → Gives cs vs toks k (suc (suc k)) (in_array i n)
  unfolding bad_by rule_of
  rule_size {k} {i = i} y = gives_back 11 (pick (both (leb array_least i) (leb i array_most)) 0 5) y refl refl refl refl (size_is m cs vs S array_most k i (span-room S (span_tail y)).1 y.stand.0)

  pub rule_channel : {k e n p i : ℕ} {s : List Spot} → Span (code m) toks k e ((i_number i, n) ∷ (i_channel, p) ∷ s)
      → Gives cs vs toks k (suc (suc k)) (unless (both (leb capacity_least i) (leb i capacity_most)) 5 n)
  unfolding bad_by rule_of
  rule_channel {k} {i = i} y =
      gives_back 13 (pick (both (leb capacity_least i) (leb i capacity_most)) 0 5) y refl refl refl refl (size_is m cs vs S capacity_most k i (span-room S (span_tail y)).1 y.stand.0)

  pub rule_named : {k e n p : ℕ} {w : Name} {s : List Spot} (h : ℕ) (b : Bool) → Span (code m) toks k e ((i_name w, n) ∷ (i_named, p) ∷ s) → get_or (hs m cs vs S) (suc k) 0 ≡ h
      → eqb (get_or cs (lookup cs vs (hs m cs vs S) (get_or vs k 0) h k) 0) c_message ≡ b → Gives cs vs toks k (suc (suc k)) (unless b 4 n)
  unfolding bad_by rule_of
  rule_named {k} h b y g q = gives_back 12 (pick b 0 4) y refl refl refl refl (named_is m cs vs S k h g ∙ ap (λ v. pick v 0 4) q)

  pub rule_field : {k e n p : ℕ} {x : Item} {s : List Spot} (c i : ℕ) → Span (code m) toks k e ((x, n) ∷ (i_field, p) ∷ s) → rule_of (code_of x) ≡ 0 → last cs 16 (suc k) ≡ suc c → suc k ≡ c + 2 + 2 * i
      → Gives cs vs toks k (suc (suc k)) (fault_at (pick (eqb i fields_most) 5 0) n)
  unfolding bad_by rule_of
  rule_field {k} c i y o q u = gives_back 14 (pick (eqb i fields_most) 5 0) y o refl refl refl (field_is m cs vs S c i (suc k) q u)
