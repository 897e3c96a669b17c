-- What searches find: the first declaration of a scope's name. A scope and the items below a place go together (`Scoped`); the scope grows with each item that declares a name.
use Prim.Native.Nat.{ℕ, zero, suc, ◌+◌, ◌-◌, ◌≤◌, ◌<◌}
use native.Mathlib.Omega.{arith}
use mathlib.Core.Path.{◌≡◌, refl, sym, ap, ◌∙◌, subst}
use mathlib.Core.Bool.{Bool, true, false, not}
use mathlib.Core.Logic.{◌⊎◌, inl, inr}
use mathlib.Core.List.{List, [], ◌∷◌, ◌++◌}
use lib.ListN.{length, get_or}
use lib.Dec.{eqb, ltb}
use borrow.Author.Tests.{lt-ltb, le-ltb, ne_eqb, eq-eqb}
use Rattle.base_codes.specs.Codes.{c_message, c_name}
use Rattle.base_bytes.specs.Choice.{pick, both}
use Rattle.base_bytes.specs.Lists.{same}
use Rattle.base_bytes.proofs.Tests.{true_false}
use Rattle.base_bytes.proofs.Lists.{same_refl}
use Rattle.spec_text.specs.Names.{pid}
use Rattle.rule_sheets.specs.Walks.{first}
use Rattle.rule_search.specs.Sets.{among}
use Rattle.rule_search.specs.Search.{declares, find, lookup, count}
use Rattle.rule_item.specs.Rules.{is_array, is_chan}
use Rattle.spec_grammar.specs.Tree.{Name, Model}
use Rattle.base_codes.specs.Items.{i_name}
use Rattle.parse_code.specs.Code.{code}
use Rattle.spec_rules.specs.Senses.{Sense, variable, constant, procedure, unknown, Declared, declared, Scope, sense_in, is_unknown, is_constant, hides, sense_of}
use Rattle.legal_terms.specs.Says.{item_at, Says}
use Rattle.legal_terms.specs.Setting.{Finds}

-- ---- one declaration more
-- every declaration stands for something
abbrev pub Sure : Scope → Type 0
Sure [] = Unit {0}
Sure (d ∷ l) = (is_unknown d.sense ≡ false) × Sure l

sure_more : (l : Scope) (d : Declared) → Sure l → is_unknown d.sense ≡ false → Sure (l ++ d ∷ [])
sure_more [] d a b = (b, tt)
sure_more (x ∷ l) d a b = (a.0, sure_more l d a.1 b)

hides-known : (s t : Sense) → is_unknown s ≡ false → hides s t ≡ s
hides-known (variable c a) t e = refl
hides-known constant t e = refl
hides-known (procedure n) t e = refl
hides-known unknown t e = absurd (true_false e)

sense-more : (l : Scope) (d : Declared) (w : Name) → Sure l → sense_in (l ++ d ∷ []) w ≡ hides (sense_in l w) (pick (same d.name w) d.sense unknown)
unfolding sense_in
sense-more [] d w u = refl
sense-more (x ∷ l) d w u = go (same x.name w) (sense-more l d w u.1)
  where
    go : (b : Bool) → sense_in (l ++ d ∷ []) w ≡ hides (sense_in l w) (pick (same d.name w) d.sense unknown)
        → pick b x.sense (sense_in (l ++ d ∷ []) w) ≡ hides (pick b x.sense (sense_in l w)) (pick (same d.name w) d.sense unknown)
    go true r = sym (hides-known x.sense (pick (same d.name w) d.sense unknown) u.0)
    go false r = r

pub first_more : (p : ℕ → Bool) (n i : ℕ) → first p i (suc n) ≡ pick (ltb (first p i n) (i + n)) (first p i n) (pick (p (i + n)) (i + n) (suc (i + n)))
unfolding first
first_more p zero i =
    subst (λ k. pick (p i) i (i + 1) ≡ pick (ltb i k) i (pick (p k) k (suc k))) (let z : i ≡ i + 0 = omega arith in z)
    (rw (le-ltb i i (omega arith)) (ap (pick (p i) i) (let z : i + 1 ≡ suc i = omega arith in z)))
first_more p (suc n) i = go (p i) (first_more p n (i + 1))
  where
    go : (b : Bool) → first p (i + 1) (suc n) ≡ pick (ltb (first p (i + 1) n) (i + 1 + n)) (first p (i + 1) n) (pick (p (i + 1 + n)) (i + 1 + n) (suc (i + 1 + n)))
        → pick b i (first p (i + 1) (suc n)) ≡ pick (ltb (pick b i (first p (i + 1) n)) (i + suc n)) (pick b i (first p (i + 1) n)) (pick (p (i + suc n)) (i + suc n) (suc (i + suc n)))
    go true r = rw (lt-ltb i (i + suc n) (omega arith))
    go false r = subst (λ k. first p (i + 1) (suc n) ≡ pick (ltb (first p (i + 1) n) k) (first p (i + 1) n) (pick (p k) k (suc k))) (let z : i + 1 + n ≡ i + suc n = omega arith in z) r

module _ (cs vs hs : List ℕ) where
  pub find-more : (v h j : ℕ) → eqb v 0 ≡ false → find cs vs hs 1 v h (suc j) ≡ pick (ltb (find cs vs hs 1 v h j) j) (find cs vs hs 1 v h j) (pick (declares cs vs hs 1 v h j) j (suc j))
  unfolding find
  find-more v h j e =
      rw e
      (subst (λ k. first (declares cs vs hs 1 v h) 0 (suc j) ≡ pick (ltb (first (declares cs vs hs 1 v h) 0 j) k) (first (declares cs vs hs 1 v h) 0 j)
      (pick (declares cs vs hs 1 v h k) k (suc k)))
      (let z : 0 + j ≡ j = omega arith in z) (first_more (declares cs vs hs 1 v h) j 0))

  find-pid : (v h j : ℕ) → eqb v 0 ≡ true → find cs vs hs 1 v h j ≡ j
  unfolding find
  find-pid v h j e = rw e

  pub find-start : (v h : ℕ) → find cs vs hs 1 v h 0 ≡ 0
  unfolding find first
  find-start v h = go (eqb v 0)
    where
      go : (b : Bool) → ◌≡◌ {A = ℕ} (pick b 0 0) 0
      go true = refl
      go false = refl

  not-among : (v h j : ℕ) → among 1 (get_or cs j 0) ≡ false → declares cs vs hs 1 v h j ≡ false
  unfolding declares
  not-among v h j e = rw e

  not_home : (v h j : ℕ) → (get_or hs j 0 ≡ h → ⊥) → declares cs vs hs 1 v h j ≡ false
  unfolding declares
  not_home v h j n = go (among 1 (get_or cs j 0)) (eqb (get_or vs (j - 1) 0) v)
    where
      go : (a b : Bool) → pick a (both b (eqb (get_or hs j 0) h)) false ≡ false
      go true true = ne_eqb (get_or hs j 0) h n
      go true false = refl
      go false b = refl

  pub declares_is : (v h j : ℕ) → among 1 (get_or cs j 0) ≡ true → get_or hs j 0 ≡ h → declares cs vs hs 1 v h j ≡ eqb (get_or vs (j - 1) 0) v
  unfolding declares
  declares_is v h j a e = rw a (go (eqb (get_or vs (j - 1) 0) v))
    where
      go : (b : Bool) → both b (eqb (get_or hs j 0) h) ≡ b
      go true = eq-eqb (get_or hs j 0) h e
      go false = refl

module _ (cs hs : List ℕ) where
  -- item d is what a search below item j gives for a name of this sense
  abbrev pub Out : ℕ → ℕ → Sense → Type 0
  Out d j (variable c a) = (d < j) × (among 14 (get_or cs d 0) ≡ true) × (is_chan cs d ≡ c) × (is_array cs d ≡ a)
  Out d j constant = (d < j) × (get_or cs d 0 ≡ c_message)
  Out d j (procedure n) = (d < j) × (among 13 (get_or cs d 0) ≡ true) × (count cs hs 6 (d + 1) 0 (length cs) ≡ n)
  Out d j unknown = d ≡ j

  pub out_known : (d j : ℕ) (s : Sense) → Out d j s → ltb d j ≡ not (is_unknown s)
  out_known d j (variable c a) o = lt-ltb d j o.0
  out_known d j constant o = lt-ltb d j o.0
  out_known d j (procedure n) o = lt-ltb d j o.0
  out_known d j unknown o = le-ltb d j (omega arith)

  -- further on, where what was found is found
  out_further : (d e j : ℕ) (s : Sense) → is_unknown s ≡ false → e ≡ d → Out d j s → Out e (suc j) s
  out_further d e j (variable c a) u q o = subst (λ x. Out x (suc j) (variable c a)) (sym q) (let z = o.0 in omega arith, o.1, o.2, o.3)
  out_further d e j constant u q o = subst (λ x. Out x (suc j) constant) (sym q) (let z = o.0 in omega arith, o.1)
  out_further d e j (procedure n) u q o = subst (λ x. Out x (suc j) (procedure n)) (sym q) (let z = o.0 in omega arith, o.1, o.2)
  out_further d e j unknown u q o = absurd (true_false u)

name_no_variable : among 14 c_name ≡ false
unfolding among
name_no_variable = refl

module _ (m : Model) (cs vs hs : List ℕ) (S : Says m cs vs) where
  -- the scope l is what is declared in body h below item j
  pub record Scoped (l : Scope) (h j : ℕ) : Type 0 where
    pub sure : Sure l
    pub gives : (k : ℕ) (w : Name) → k < length cs → item_at (code m) k ≡ i_name w → same w pid ≡ false → Out cs hs (find cs vs hs 1 (get_or vs k 0) h j) j (sense_in l w)

  no_zero : (k : ℕ) (w : Name) → k < length cs → item_at (code m) k ≡ i_name w → same w pid ≡ false → eqb (get_or vs k 0) 0 ≡ false
  no_zero k w h e n = S.pids k w h e ∙ n

  pub scoped_start : (h : ℕ) → Scoped [] h 0
  unfolding sense_in
  scoped_start h = record { sure = tt; gives = λ k w a b c. find-start cs vs hs (get_or vs k 0) h }

  -- an item that declares nothing in this body
  scoped_skip : (l : Scope) (h j : ℕ) → (among 1 (get_or cs j 0) ≡ false) ⊎ (get_or hs j 0 ≡ h → ⊥) → Scoped l h j → Scoped l h (suc j)
  scoped_skip l h j n s =
      record {
        sure = s.sure;
        gives = λ k w a b c. (let v = get_or vs k 0 in let o = s.gives k w a b c in
            on k w (sense_in l w) o (out_known cs hs (find cs vs hs 1 v h j) j (sense_in l w) o) (find-more cs vs hs v h j (no_zero k w a b c)) (skipped v n));
      }
    where
      skipped : (v : ℕ) → (among 1 (get_or cs j 0) ≡ false) ⊎ (get_or hs j 0 ≡ h → ⊥) → declares cs vs hs 1 v h j ≡ false
      skipped v (inl e) = not-among cs vs hs v h j e
      skipped v (inr e) = not_home cs vs hs v h j e

      on : (k : ℕ) (w : Name) (t : Sense) → Out cs hs (find cs vs hs 1 (get_or vs k 0) h j) j t → ltb (find cs vs hs 1 (get_or vs k 0) h j) j ≡ not (is_unknown t)
          → find cs vs hs 1 (get_or vs k 0) h (suc j) ≡ pick (ltb (find cs vs hs 1 (get_or vs k 0) h j) j) (find cs vs hs 1 (get_or vs k 0) h j) (pick (declares cs vs hs 1 (get_or vs k 0) h j) j (suc j))
          → declares cs vs hs 1 (get_or vs k 0) h j ≡ false → Out cs hs (find cs vs hs 1 (get_or vs k 0) h (suc j)) (suc j) t
      on k w (variable c a) o e q d = out_further cs hs _ _ j (variable c a) refl (q ∙ rw e refl) o
      on k w constant o e q d = out_further cs hs _ _ j constant refl (q ∙ rw e refl) o
      on k w (procedure n) o e q d = out_further cs hs _ _ j (procedure n) refl (q ∙ rw e refl) o
      on k w unknown o e q d = q ∙ rw (e, d) refl

  -- many items
  scoped_far : (n : ℕ) (l : Scope) (h i : ℕ) → ((j : ℕ) → i ≤ j → j < i + n → (among 1 (get_or cs j 0) ≡ false) ⊎ (get_or hs j 0 ≡ h → ⊥)) → Scoped l h i → Scoped l h (i + n)
  scoped_far zero l h i p s = subst (Scoped l h) (let z : i ≡ i + 0 = omega arith in z) s
  scoped_far (suc n) l h i p s =
      subst (Scoped l h) (let z : suc (i + n) ≡ i + suc n = omega arith in z) (scoped_skip l h (i + n) (p (i + n) (omega arith) (omega arith))
      (scoped_far n l h i (λ j a b. p j a (omega arith)) s))

  pub scoped_over : (l : Scope) (h i e : ℕ) → i ≤ e → ((j : ℕ) → i ≤ j → j < e → (among 1 (get_or cs j 0) ≡ false) ⊎ (get_or hs j 0 ≡ h → ⊥)) → Scoped l h i → Scoped l h e
  scoped_over l h i e b p s = subst (Scoped l h) (let z : i + (e - i) ≡ e = omega arith in z) (scoped_far (e - i) l h i (λ j c d. p j c (omega arith)) s)

  -- one item
  pub scoped_next : (l : Scope) (h j : ℕ) → among 1 (get_or cs j 0) ≡ false → Scoped l h j → Scoped l h (suc j)
  scoped_next l h j e s = scoped_skip l h j (inl e) s

  -- an item that declares a name, which stands before it
  pub scoped_more : (l : Scope) (h k : ℕ) (w : Name) (t : Sense) → suc k < length cs → item_at (code m) k ≡ i_name w → among 1 (get_or cs (suc k) 0) ≡ true → get_or hs (suc k) 0 ≡ h
      → is_unknown t ≡ false → Out cs hs (suc k) (suc (suc k)) t → Scoped l h (suc k) → Scoped (l ++ declared w t ∷ []) h (suc (suc k))
  scoped_more l h k w t b q a g u f s =
      record {
        sure = sure_more l (declared w t) s.sure u;
        gives = λ i x c d n.
            (let v = get_or vs i 0 in
            let j = suc k in
            let o = s.gives i x c d n in
            subst (Out cs hs (find cs vs hs 1 v h (suc j)) (suc j)) (sym (sense-more l (declared w t) x s.sure))
            (on i (sense_in l x) (same w x) o (out_known cs hs (find cs vs hs 1 v h j) j (sense_in l x) o) (find-more cs vs hs v h j (no_zero i x c d n))
            (declares_is cs vs hs v h j a g ∙ ap (λ y. eqb (get_or vs y 0) v) (let z : suc k - 1 ≡ k = omega arith in z) ∙ S.names k i w x (omega arith) c q d)));
      }
    where
      on : (i : ℕ) (y : Sense) (r : Bool) → Out cs hs (find cs vs hs 1 (get_or vs i 0) h (suc k)) (suc k) y → ltb (find cs vs hs 1 (get_or vs i 0) h (suc k)) (suc k) ≡ not (is_unknown y)
          → find cs vs hs 1 (get_or vs i 0) h (suc (suc k))
          ≡ pick (ltb (find cs vs hs 1 (get_or vs i 0) h (suc k)) (suc k)) (find cs vs hs 1 (get_or vs i 0) h (suc k)) (pick (declares cs vs hs 1 (get_or vs i 0) h (suc k)) (suc k) (suc (suc k)))
          → declares cs vs hs 1 (get_or vs i 0) h (suc k) ≡ r → Out cs hs (find cs vs hs 1 (get_or vs i 0) h (suc (suc k))) (suc (suc k)) (hides y (pick r t unknown))
      on i (variable c a) r o e p d = out_further cs hs _ _ (suc k) (variable c a) refl (p ∙ rw e refl) o
      on i constant r o e p d = out_further cs hs _ _ (suc k) constant refl (p ∙ rw e refl) o
      on i (procedure n) r o e p d = out_further cs hs _ _ (suc k) (procedure n) refl (p ∙ rw e refl) o
      on i unknown true o e p d = subst (λ x. Out cs hs x (suc (suc k)) t) (sym (p ∙ rw (e, d) refl)) f
      on i unknown false o e p d = p ∙ rw (e, d) refl

  -- ---- what a name means, in body h with the locals l behind the globals g
  out_finds : (d j : ℕ) (s : Sense) → get_or cs j 0 ≡ c_name → Out cs hs d j s → Finds cs d s
  out_finds d j (variable c a) e o = (o.1, o.2, o.3)
  out_finds d j constant e o = o.1
  out_finds d j (procedure n) e o = o.1
  out_finds d j unknown e o = subst (λ x. Finds cs x unknown) (sym o) (name-none (get_or cs j 0) e)
    where
      name-none : (c : ℕ) → c ≡ c_name → (among 14 c ≡ false) × (c ≡ c_message → ⊥)
      name-none c e = (ap (among 14) e ∙ name_no_variable, λ z. omega arith)

  pub lookup-finds : (l g : Scope) (h k : ℕ) (w : Name) → Scoped l h k → Scoped g 0 k → k < length cs → item_at (code m) k ≡ i_name w → get_or cs k 0 ≡ c_name → same w pid ≡ false
      → Finds cs (lookup cs vs hs (get_or vs k 0) h k) (sense_of l g w)
  unfolding lookup sense_of
  lookup-finds l g h k w s r b q c n =
      let v = get_or vs k 0 in
      let o = s.gives k w b q n in
      on (sense_in l w) o (out_known cs hs (find cs vs hs 1 v h k) k (sense_in l w) o)
    where
      on : (y : Sense) → Out cs hs (find cs vs hs 1 (get_or vs k 0) h k) k y → ltb (find cs vs hs 1 (get_or vs k 0) h k) k ≡ not (is_unknown y)
          → Finds cs (pick (ltb (find cs vs hs 1 (get_or vs k 0) h k) k) (find cs vs hs 1 (get_or vs k 0) h k) (find cs vs hs 1 (get_or vs k 0) 0 k)) (hides y (sense_in g w))
      on (variable x a) o e = rw e (out_finds _ k (variable x a) c o)
      on constant o e = rw e (out_finds _ k constant c o)
      on (procedure x) o e = rw e (out_finds _ k (procedure x) c o)
      on unknown o e = rw e (out_finds (find cs vs hs 1 (get_or vs k 0) 0 k) k (sense_in g w) c (r.gives k w b q n))

  -- `_pid` means nothing
  pub lookup-pid : (h k : ℕ) → k < length cs → item_at (code m) k ≡ i_name pid → lookup cs vs hs (get_or vs k 0) h k ≡ k
  unfolding lookup
  lookup-pid h k b q =
      let v = get_or vs k 0 in
      let z : eqb v 0 ≡ true = S.pids k pid b q ∙ same_refl pid in
      rw (find-pid cs vs hs v h k z, find-pid cs vs hs v 0 k z) (go (ltb k k))
    where
      go : (b : Bool) → pick b k k ≡ k
      go true = refl
      go false = refl

pub finds-constant : (cs : List ℕ) (d : ℕ) (s : Sense) → Finds cs d s → eqb (get_or cs d 0) c_message ≡ is_constant s
unfolding among
finds-constant cs d (variable c a) f = ne_eqb (get_or cs d 0) c_message (λ z. true_false (sym f.0 ∙ rw z refl))
finds-constant cs d constant f = eq-eqb (get_or cs d 0) c_message f
finds-constant cs d (procedure n) f = ne_eqb (get_or cs d 0) c_message (λ z. true_false (sym f ∙ rw z refl))
finds-constant cs d unknown f = ne_eqb (get_or cs d 0) c_message f.1
