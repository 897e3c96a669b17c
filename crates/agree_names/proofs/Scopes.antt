-- What searches over the items find: the first declaration of a name, with all that is said of it. One record goes along the items (`Scoped`): the entries of a space below an item, and how many
-- numbers and mtype names they have. It grows with each item that declares a name, and other items change nothing.
use Prim.Native.Nat.{ℕ, zero, suc, ◌+◌, ◌-◌, ◌≤◌, ◌<◌}
use native.Mathlib.Omega.{arith}
use native.Mathlib.Decide.{ℕ_discrete}
use mathlib.Core.Path.{◌≡◌, refl, sym as inv, ap, ◌∙◌, subst}
use mathlib.Core.Bool.{Bool, true, false}
use mathlib.Core.Option.{Option, none, some}
use mathlib.Core.Logic.{◌⊎◌, inl, inr}
use mathlib.Core.List.{List, [], ◌∷◌, ◌++◌}
use lib.ListN.{length, get_or}
use lib.Dec.{eqb, ltb, leb}
use borrow.Author.Tests.{lt-ltb, le-ltb, ne_eqb, eq-eqb, le-leb, leb-true}
use Rattle.base_codes.specs.Codes.{c_active_many, c_declared, c_message, c_parameter, c_proctype}
use Rattle.base_bytes.specs.Choice.{pick, both, either}
use Rattle.base_bytes.specs.Lists.{same}
use Rattle.base_bytes.proofs.Tests.{true_false, both_true}
use Rattle.base_bytes.proofs.Lists.{same_eq}
use Rattle.spec_text.specs.Names.{pid}
use Rattle.rule_sheets.specs.Walks.{sum}
use Rattle.rule_search.specs.Sets.{among}
use Rattle.rule_search.specs.Search.{declares, find, last, one, count}
use Rattle.rule_item.specs.Rules.{is_array}
use Rattle.rule_ceilings.specs.Ceilings.{numbers_at}
use Rattle.spec_grammar.specs.Tree.{Name, Model}
use Rattle.base_codes.specs.Items.{i_name}
use Rattle.parse_code.specs.Code.{code}
use Rattle.legal_terms.specs.Says.{item_at, Says}
use Rattle.keep_tables.proofs.Sums.{sum-next}
use Rattle.spec_machine.specs.Names.{Var}
use Rattle.agree_names.specs.Entries.{What, slot, number, proctype, Entry, entry, what_in, size_in, named_in}
use Rattle.legal_declarations.proofs.Scopes.{find-more, find-start, declares_is}

-- ---- one entry more
abbrev pub or_else : Option What → Option What → Option What
or_else none y = y
or_else (some x) y = some x

pub what_append : (a b : List Entry) (w : Name) → what_in (a ++ b) w ≡ or_else (what_in a w) (what_in b w)
unfolding what_in
what_append [] b w = refl
what_append (e ∷ a) b w = go (same e.name w) (what_append a b w)
  where
    go : (c : Bool) → what_in (a ++ b) w ≡ or_else (what_in a w) (what_in b w) → pick c (some e.what) (what_in (a ++ b) w) ≡ or_else (pick c (some e.what) (what_in a w)) (what_in b w)
    go true r = refl
    go false r = r

what_more : (l : List Entry) (w v : Name) (y : What) → what_in (l ++ entry v y ∷ []) w ≡ or_else (what_in l w) (pick (same v w) (some y) none)
unfolding what_in
what_more l w v y = what_append l (entry v y ∷ []) w

-- what declares nothing declares no variable and no mtype name
none_other : (c : ℕ) → among 1 c ≡ false → (among 14 c ≡ false) × (among 12 c ≡ false)
unfolding among
none_other c e = go (ℕ_discrete c c_declared) (ℕ_discrete c c_message) (ℕ_discrete c c_parameter)
  where
    go : Dec (c ≡ c_declared) → Dec (c ≡ c_message) → Dec (c ≡ c_parameter) → (either (eqb c c_declared) (eqb c c_parameter) ≡ false) × (eqb c c_message ≡ false)
    go (yes z) b d = absurd (true_false (inv (ap (among 1) z) ∙ e))
    go (no a) (yes z) d = absurd (true_false (inv (ap (among 1) z) ∙ e))
    go (no a) (no b) (yes z) = absurd (true_false (inv (ap (among 1) z) ∙ e))
    go (no a) (no b) (no d) = (rw (ne_eqb c c_declared a, ne_eqb c c_parameter d), ne_eqb c c_message b)

module _ (cs vs hs : List ℕ) where
  -- what is found is found further on
  pub find-further : (i v h j : ℕ) → eqb v 0 ≡ false → find cs vs hs 1 v h j < j → find cs vs hs 1 v h (j + i) ≡ find cs vs hs 1 v h j
  find-further zero v h j e l = ap (find cs vs hs 1 v h) (let z : j + 0 ≡ j = omega arith in z)
  find-further (suc i) v h j e l =
      let r = find-further i v h j e l in
      ap (find cs vs hs 1 v h) (let z : j + suc i ≡ suc (j + i) = omega arith in z) ∙ find-more cs vs hs v h (j + i) e ∙ rw (lt-ltb (find cs vs hs 1 v h (j + i)) (j + i) (omega arith)) r

  -- an item that declares nothing, or nothing in this body
  abbrev pub Quiet : ℕ → ℕ → Type 0
  Quiet h j = (among 1 (get_or cs j 0) ≡ false) ⊎ (get_or hs j 0 ≡ h → ⊥)

  quiet-declares : (v h j : ℕ) → Quiet h j → declares cs vs hs 1 v h j ≡ false
  unfolding declares
  quiet-declares v h j (inl e) = rw e
  quiet-declares v h j (inr n) = go (among 1 (get_or cs j 0)) (eqb (get_or vs (j - 1) 0) v)
    where
      go : (a b : Bool) → pick a (both b (eqb (get_or hs j 0) h)) false ≡ false
      go true true = ne_eqb (get_or hs j 0) h n
      go true false = refl
      go false b = refl

  pub quiet-numbers : (h j : ℕ) → Quiet h j → numbers_at cs vs hs h j ≡ 0
  unfolding numbers_at
  quiet-numbers h j (inl e) = rw (none_other (get_or cs j 0) e).0
  quiet-numbers h j (inr n) = rw (ne_eqb (get_or hs j 0) h n) (go (among 14 (get_or cs j 0)))
    where
      go : (b : Bool) → ◌≡◌ {A = ℕ} (pick b 0 0) 0
      go true = refl
      go false = refl

  quiet_one : (h j : ℕ) → Quiet h j → one cs hs 12 h j ≡ 0
  unfolding one
  quiet_one h j (inl e) = rw (none_other (get_or cs j 0) e).1
  quiet_one h j (inr n) = rw (ne_eqb (get_or hs j 0) h n) (go (among 12 (get_or cs j 0)))
    where
      go : (b : Bool) → ◌≡◌ {A = ℕ} (pick b 0 0) 0
      go true = refl
      go false = refl

  pub numbers-next : (h j : ℕ) → sum (numbers_at cs vs hs h) 0 (suc j) ≡ sum (numbers_at cs vs hs h) 0 j + numbers_at cs vs hs h j
  numbers-next h j = ap (sum (numbers_at cs vs hs h) 0) (let z : suc j ≡ j + 1 = omega arith in z) ∙ sum-next (numbers_at cs vs hs h) j

  count_next : (h j : ℕ) → count cs hs 12 h 0 (suc j) ≡ count cs hs 12 h 0 j + one cs hs 12 h j
  unfolding count
  count_next h j =
      ap (sum (one cs hs 12 h) 0) (let z : suc j - 0 ≡ j + 1 = omega arith in z) ∙ sum-next (one cs hs 12 h) j ∙ ap (λ n. sum (one cs hs 12 h) 0 n + one cs hs 12 h j)
      (let z : j ≡ j - 0 = omega arith in z)

  pub starts : (h : ℕ) → (sum (numbers_at cs vs hs h) 0 0 ≡ 0) × (count cs hs 12 h 0 0 ≡ 0)
  unfolding count sum
  starts h = (refl, refl)

  -- ---- what is said of item d, which declares in body h
  -- the variable x, with o numbers of the body before its own
  pub record Declares (h d : ℕ) (x : Var) (o : ℕ) : Type 0 where
    pub coded : (get_or cs d 0 ≡ c_declared) ⊎ (get_or cs d 0 ≡ c_parameter)
    pub home : get_or hs d 0 ≡ h
    pub type : get_or cs (last cs 3 d - 2) 0 ≡ 130 + x.type
    pub least : 38 ≤ x.type
    pub most : x.type ≤ 45
    pub size : pick (is_array cs d) (get_or vs (d + 1) 0) 1 ≡ x.size
    pub offset : sum (numbers_at cs vs hs h) 0 d ≡ o

  abbrev pub Good : ℕ → ℕ → What → Type 0
  Good h d (slot x o) = Declares h d x o
  Good h d (number n) = (get_or cs d 0 ≡ c_message) × (get_or hs d 0 ≡ h) × (count cs hs 12 h 0 (suc d) ≡ n)
  Good h d (proctype i) = (among 13 (get_or cs d 0) ≡ true) × (get_or hs d 0 ≡ h) × (d ≡ i)

  -- item d is what a search below item j gives
  abbrev pub Found : ℕ → ℕ → ℕ → Option What → Type 0
  Found h d j none = d ≡ j
  Found h d j (some y) = (d < j) × Good h d y

  variable_set : (c : ℕ) → (c ≡ c_declared) ⊎ (c ≡ c_parameter) → (among 1 c ≡ true) × (among 14 c ≡ true) × (among 12 c ≡ false)
  unfolding among
  variable_set c (inl e) = (rw e, rw e, rw e)
  variable_set c (inr e) = (rw e, rw e, rw e)

  procedure_set : (c : ℕ) → among 13 c ≡ true → (among 1 c ≡ true) × (among 14 c ≡ false) × (among 12 c ≡ false)
  unfolding among
  procedure_set c e =
      let b = both_true (leb c_proctype c) (leb c c_active_many) e in
      let x = leb-true c_proctype c b.0 in
      let y = leb-true c c_active_many b.1 in
      let n212 = ne_eqb c c_declared (λ z. omega arith) in
      let n220 = ne_eqb c c_message (λ z. omega arith) in
      (rw (n212, n220, le-leb c_parameter c (omega arith), b.1), rw (n212, ne_eqb c c_parameter (λ z. omega arith)), n220)

  message-set : (c : ℕ) → c ≡ c_message → (among 1 c ≡ true) × (among 14 c ≡ false) × (among 12 c ≡ true)
  unfolding among
  message-set c e = (rw e, rw e, rw e)

  -- what it adds
  pub good_adds : (h d : ℕ) (y : What) → Good h d y
      → (among 1 (get_or cs d 0) ≡ true) × (get_or hs d 0 ≡ h) × (numbers_at cs vs hs h d ≡ size_in y) × (one cs hs 12 h d ≡ named_in y)
  unfolding numbers_at one
  good_adds h d (slot x o) g =
      let s = variable_set (get_or cs d 0) g.coded in (s.0, g.home, rw (s.1, eq-eqb (get_or hs d 0) h g.home) g.size, rw s.2)
  good_adds h d (number n) g = let s = message-set (get_or cs d 0) g.0 in (s.0, g.1, rw s.1, rw (s.2, eq-eqb (get_or hs d 0) h g.1))
  good_adds h d (proctype i) g = let s = procedure_set (get_or cs d 0) g.0 in (s.0, g.1, rw s.1, rw s.2)

  -- an mtype name behind n others is the next one
  pub message_good : (h d n : ℕ) → get_or cs d 0 ≡ c_message → get_or hs d 0 ≡ h → count cs hs 12 h 0 d ≡ n → Good h d (number (suc n))
  unfolding one
  message_good h d n c e q =
      let a = count_next h d in
      let b : one cs hs 12 h d ≡ 1 = rw ((message-set (get_or cs d 0) c).2, eq-eqb (get_or hs d 0) h e) in
      (c, e, omega arith)

abbrev pub known : Option What → Bool
known none = false
known (some y) = true

module _ (m : Model) (cs vs hs : List ℕ) (S : Says m cs vs) where
  -- the entries l are what is declared in body h below item j: o numbers and n mtype names
  pub record Scoped (l : List Entry) (h j o n : ℕ) : Type 0 where
    pub gives : (k : ℕ) (w : Name) → k < length cs → item_at (code m) k ≡ i_name w → same w pid ≡ false → Found cs vs hs h (find cs vs hs 1 (get_or vs k 0) h j) j (what_in l w)
    -- each name of them is the name of an item
    pub spelt : (w : Name) → known (what_in l w) ≡ true → (k : ℕ) × ((k < length cs) × (item_at (code m) k ≡ i_name w))
    pub numbers : sum (numbers_at cs vs hs h) 0 j ≡ o
    pub names : count cs hs 12 h 0 j ≡ n

  no_zero : (k : ℕ) (w : Name) → k < length cs → item_at (code m) k ≡ i_name w → same w pid ≡ false → eqb (get_or vs k 0) 0 ≡ false
  no_zero k w h e n = S.pids k w h e ∙ n

  pub scoped_start : (h : ℕ) → Scoped [] h 0 0 0
  unfolding what_in
  scoped_start h = record { gives = λ k w a b c. find-start cs vs hs (get_or vs k 0) h; spelt = λ w e. absurd (true_false (inv e)); numbers = (starts cs vs hs h).0; names = (starts cs vs hs h).1 }

  scoped_skip : (l : List Entry) (h j o n : ℕ) → Quiet cs vs hs h j → Scoped l h j o n → Scoped l h (suc j) o n
  scoped_skip l h j o n q s =
      record {
        gives = λ k w a b c. (let v = get_or vs k 0 in on v (what_in l w) (s.gives k w a b c) (find-more cs vs hs v h j (no_zero k w a b c)) (quiet-declares cs vs hs v h j q));
        spelt = s.spelt;
        numbers = let a = numbers-next cs vs hs h j in let b = quiet-numbers cs vs hs h j q in let c = s.numbers in omega arith;
        names = let a = count_next cs vs hs h j in let b = quiet_one cs vs hs h j q in let c = s.names in omega arith;
      }
    where
      on : (v : ℕ) (y : Option What) → Found cs vs hs h (find cs vs hs 1 v h j) j y
          → find cs vs hs 1 v h (suc j) ≡ pick (ltb (find cs vs hs 1 v h j) j) (find cs vs hs 1 v h j) (pick (declares cs vs hs 1 v h j) j (suc j))
          → declares cs vs hs 1 v h j ≡ false → Found cs vs hs h (find cs vs hs 1 v h (suc j)) (suc j) y
      on v none f e d = e ∙ rw (le-ltb (find cs vs hs 1 v h j) j (omega arith), d) refl
      on v (some y) f e d =
          let f0 = f.0 in
          let z : find cs vs hs 1 v h (suc j) ≡ find cs vs hs 1 v h j = e ∙ rw (lt-ltb (find cs vs hs 1 v h j) j f.0) refl in
          (omega arith, subst (λ i. Good cs vs hs h i y) (inv z) f.1)

  scoped_far : (i : ℕ) (l : List Entry) (h j o n : ℕ) → ((k : ℕ) → j ≤ k → k < j + i → Quiet cs vs hs h k) → Scoped l h j o n → Scoped l h (j + i) o n
  scoped_far zero l h j o n q s = subst (λ i. Scoped l h i o n) (let z : j ≡ j + 0 = omega arith in z) s
  scoped_far (suc i) l h j o n q s =
      subst (λ i. Scoped l h i o n) (let z : suc (j + i) ≡ j + suc i = omega arith in z)
      (scoped_skip l h (j + i) o n (q (j + i) (omega arith) (omega arith)) (scoped_far i l h j o n (λ k a b. q k a (omega arith)) s))

  -- items that declare nothing in this body
  pub scoped_over : (l : List Entry) (h i e o n : ℕ) → i ≤ e → ((k : ℕ) → i ≤ k → k < e → Quiet cs vs hs h k) → Scoped l h i o n → Scoped l h e o n
  scoped_over l h i e o n b q s =
      subst (λ i. Scoped l h i o n) (let z : i + (e - i) ≡ e = omega arith in z) (scoped_far (e - i) l h i o n (λ k c d. q k c (omega arith)) s)

  pub scoped_one : (l : List Entry) (h i o n c : ℕ) → get_or cs i 0 ≡ c → among 1 c ≡ false → Scoped l h i o n → Scoped l h (suc i) o n
  scoped_one l h i o n c e q s = scoped_skip l h i o n (inl (ap (among 1) e ∙ q)) s

  -- an item that declares a name, which stands before it
  pub scoped_more : (l : List Entry) (h k o n : ℕ) (w : Name) (y : What) → suc k < length cs → item_at (code m) k ≡ i_name w → Good cs vs hs h (suc k) y
      → Scoped l h (suc k) o n → Scoped (l ++ entry w y ∷ []) h (suc (suc k)) (o + size_in y) (n + named_in y)
  scoped_more l h k o n w y b q g s =
      record {
        gives = λ i x c d e.
            (let v = get_or vs i 0 in
            let j = suc k in
            subst (Found cs vs hs h (find cs vs hs 1 v h (suc j)) (suc j)) (inv (what_more l x w y))
            (on v (what_in l x) (same w x) (s.gives i x c d e) (find-more cs vs hs v h j (no_zero i x c d e))
            (declares_is cs vs hs v h j r.0 r.1 ∙ ap (λ y. eqb (get_or vs y 0) v) (let z : suc k - 1 ≡ k = omega arith in z) ∙ S.names k i w x (omega arith) c q d)));
        spelt = λ x e. there x (what_in l x) (same w x) refl refl (ap known (inv (what_more l x w y)) ∙ e);
        numbers = let a = numbers-next cs vs hs h (suc k) in let b = r.2 in let c = s.numbers in omega arith;
        names = let a = count_next cs vs hs h (suc k) in let b = r.3 in let c = s.names in omega arith;
      }
    where
      r : (among 1 (get_or cs (suc k) 0) ≡ true) × (get_or hs (suc k) 0 ≡ h) × (numbers_at cs vs hs h (suc k) ≡ size_in y) × (one cs hs 12 h (suc k) ≡ named_in y)
      r = good_adds cs vs hs h (suc k) y g

      on : (v : ℕ) (x : Option What) (c : Bool) → Found cs vs hs h (find cs vs hs 1 v h (suc k)) (suc k) x
          → find cs vs hs 1 v h (suc (suc k)) ≡ pick (ltb (find cs vs hs 1 v h (suc k)) (suc k)) (find cs vs hs 1 v h (suc k)) (pick (declares cs vs hs 1 v h (suc k)) (suc k) (suc (suc k)))
          → declares cs vs hs 1 v h (suc k) ≡ c → Found cs vs hs h (find cs vs hs 1 v h (suc (suc k))) (suc (suc k)) (or_else x (pick c (some y) none))
      on v none true f e d =
          let z : find cs vs hs 1 v h (suc (suc k)) ≡ suc k = e ∙ rw (le-ltb (find cs vs hs 1 v h (suc k)) (suc k) (omega arith), d) refl in
          (omega arith, subst (λ i. Good cs vs hs h i y) (inv z) g)
      on v none false f e d = e ∙ rw (le-ltb (find cs vs hs 1 v h (suc k)) (suc k) (omega arith), d) refl
      on v (some x) c f e d =
          let f0 = f.0 in
          let z : find cs vs hs 1 v h (suc (suc k)) ≡ find cs vs hs 1 v h (suc k) = e ∙ rw (lt-ltb (find cs vs hs 1 v h (suc k)) (suc k) f.0) refl in
          (omega arith, subst (λ i. Good cs vs hs h i x) (inv z) f.1)

      there : (x : Name) (z : Option What) (c : Bool) → what_in l x ≡ z → same w x ≡ c → known (or_else z (pick c (some y) none)) ≡ true
          → (i : ℕ) × ((i < length cs) × (item_at (code m) i ≡ i_name x))
      there x none true a e t = (k, (omega arith, q ∙ ap i_name (same_eq w x e)))
      there x none false a e t = absurd (true_false (inv t))
      there x (some z) c a e t = s.spelt x (ap known a)
