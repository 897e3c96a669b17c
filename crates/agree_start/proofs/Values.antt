-- Variables as declarations have them: a walk over the items of declarations makes their variables in text order, each with the value that stands behind it. `t` are tables, f what is
-- done at an item, p the number of a process.
use Prim.Native.Nat.{ℕ, suc, ◌+◌, ◌≤◌, ◌<◌}
use native.Mathlib.Omega.{arith}
use mathlib.Core.Path.{◌≡◌, refl, sym, ap, ◌∙◌, subst}
use mathlib.Core.Option.{Option, none, some}
use mathlib.Core.List.{List, [], ◌∷◌, ◌++◌}
use lib.ListN.{length, length-append}
use lib.IntN.{ℤ}
use borrow.Author.Tests.{ne_eqb}
use Rattle.base_codes.specs.Codes.{c_channel, c_declared, c_false, c_field, c_global, c_local, c_minus, c_name, c_named, c_number, c_size, c_true, c_value}
use Rattle.spec_grammar.specs.Tree.{Value, unset, set_number, set_minus, set_true, set_false, set_name, set_channel, Variable, variable, Declaration, declare}
use Rattle.base_codes.specs.Items.{Item, i_local, i_type}
use Rattle.parse_code.specs.Code.{each, code_field, code_size, code_value, code_variable, code_declaration}
use Rattle.base_codes.specs.Items as items
use Rattle.table_entries.specs.Items.{AllKnown}
use Rattle.table_layout.specs.Access.{code_of, link_of}
use Rattle.state_start.specs.Values.{value_at, literal_of, value_of}
use Rattle.state_start.specs.Starting.{variable_made, declared}
use Rattle.state_layout.specs.Walks.{walk}
use Rattle.spec_machine.specs.Sizes.{size_size, size_variable, size_declaration}
use Rattle.agree_sizes.proofs.Sizes.{size-size, size_variable_lem, size_declaration_lem}
use Rattle.agree_eval.specs.Held.{Held}
use Rattle.agree_eval.proofs.Items.{held-front, held_back}
use Rattle.agree_eval.proofs.Operators.{known-front, known-back}
use Rattle.agree_start.specs.Beginnings.{valued_in, variable_in, variables_in, declaration_in, locals_in}
use Rattle.agree_start.proofs.Walks.{walk-one, over, over-both, Mute, Muted, over_muted, muted_both, muted_each}
use Rattle.agree_start.proofs.Items.{type_below}

module _ (t : List ℕ) where
  -- behind item e no size and no value ends: its second item is no mark of one
  abbrev pub Clear : ℕ → Type 0
  Clear e = c_size ≤ code_of t (e + 1) → code_of t (e + 1) ≤ c_channel → ⊥

  second : (k c : ℕ) → code_of t (suc k) ≡ c → code_of t (k + 1) ≡ c
  second k c e = ap (code_of t) (let z : k + 1 ≡ suc k = omega arith in z) ∙ e

  pub clear-code : (k c : ℕ) → code_of t (suc k) ≡ c → (c_size ≤ c → c ≤ c_channel → ⊥) → Clear k
  clear-code k c e h a b = let z = second k c e in h (omega arith) (omega arith)

  pub clear-here : (k n : ℕ) → n ≡ 0 → Clear (k + n) → Clear k
  clear-here k n e c = subst Clear (let z : k + n ≡ k = omega arith in z) c

  -- ---- one value
  made : (l p : ℕ) (v : Value) (k : ℕ) (s : List ℤ) → Held t k (code_value v) → Clear (k + length (code_value v)) → variable_made t l p k s ≡ valued_in t l p v k s
  unfolding variable_made value_of literal_of
  made l p unset k s h c =
      let d = clear-here k 0 refl c in
      let m : (n : ℕ) → c_size ≤ n → n ≤ c_channel → code_of t (k + 1) ≡ n → ⊥ = λ n x y e. d (omega arith) (omega arith) in
      rw (
        ne_eqb (code_of t (k + 1)) c_channel (m c_channel (omega arith) (omega arith)),
        ne_eqb (code_of t (k + 1)) c_value (m c_value (omega arith) (omega arith)),
        ne_eqb (code_of t (k + 1)) c_minus (m c_minus (omega arith) (omega arith)),
        ne_eqb (code_of t (k + 1)) c_named (m c_named (omega arith) (omega arith)),
      )
  made l p (set_number n) k s h c = rw (second k c_value h.2.0, h.0, (h.1 refl).0)
  made l p (set_minus n) k s h c = rw (second k c_minus h.2.0, h.0, (h.1 refl).0)
  made l p set_true k s h c = rw (second k c_value h.2.0, h.0)
  made l p set_false k s h c = rw (second k c_value h.2.0, h.0)
  made l p (set_name w) k s h c = rw (second k c_named h.2.0)
  made l p (set_channel n ks) k s h c = rw (second k c_channel h.2.0)

  no_size : (v : Value) (k : ℕ) → Held t k (code_value v) → Clear (k + length (code_value v)) → code_of t (k + 1) ≡ c_size → ⊥
  no_size unset k h c e = clear-here k 0 refl c (omega arith) (omega arith)
  no_size (set_number n) k h c e = let z = second k c_value h.2.0 in omega arith
  no_size (set_minus n) k h c e = let z = second k c_minus h.2.0 in omega arith
  no_size set_true k h c e = let z = second k c_value h.2.0 in omega arith
  no_size set_false k h c e = let z = second k c_value h.2.0 in omega arith
  no_size (set_name w) k h c e = let z = second k c_named h.2.0 in omega arith
  no_size (set_channel n ks) k h c e = let z = second k c_channel h.2.0 in omega arith

  -- where it stands
  value_at_lem : (z : Option ℕ) (v : Value) (d : ℕ) → Held t (suc d) (code_size z ++ code_value v) → Clear (suc d + length (code_size z) + length (code_value v))
      → value_at t d ≡ suc d + length (code_size z)
  unfolding value_at
  value_at_lem none v d h c =
      let x : d + 2 ≡ suc d + 1 = omega arith in
      let y : suc d + 0 ≡ suc d = omega arith in
      rw (ne_eqb (code_of t (d + 2)) c_size (λ e. no_size v (suc d) h (subst (λ n. Clear (n + length (code_value v))) y c) (ap (code_of t) (sym x) ∙ e))) (omega arith)
  value_at_lem (some n) v d h c = let x : d + 2 ≡ suc (suc d) = omega arith in rw (ap (code_of t) x ∙ h.2.0) (omega arith)

-- ---- what is done at each item of declarations: at `declared` (212), from item lo to before item hi, its variable is made; at a name, a type and the other marks nothing is
pub record Makes (t : List ℕ) (f : ℕ → List ℤ → List ℤ) (p lo hi : ℕ) : Type 0 where
  pub low : (c : ℕ) → c < c_local → Mute f t c
  pub marks : (c : ℕ) → c_local ≤ c → c ≤ c_field → (c ≡ c_declared → ⊥) → Mute f t c
  pub makes : (j : ℕ) (s : List ℤ) → lo ≤ j → j < hi → code_of t j ≡ c_declared → f j s ≡ declared t p j s

module _ (t : List ℕ) (f : ℕ → List ℤ → List ℤ) (p lo hi : ℕ) (M : Makes t f p lo hi) where
  muted_mark : (c : ℕ) → c_size ≤ c → c ≤ c_field → Mute f t c
  muted_mark c a b = M.marks c (omega arith) b (λ e. omega arith)

  muted_size : (z : Option ℕ) → Muted f t (code_size z)
  muted_size none = tt
  muted_size (some n) = (λ k. M.low c_number (omega arith), (λ k. muted_mark c_size (omega arith) (omega arith), tt))

  muted_field : (k : ℕ) → Muted f t (code_field k)
  muted_field k = (λ e. M.low (items.code_of (i_type k)) (type_below k e), (λ e. muted_mark c_field (omega arith) (omega arith), tt))

  muted_value : (v : Value) → Muted f t (code_value v)
  muted_value unset = tt
  muted_value (set_number n) = (λ k. M.low c_number (omega arith), (λ k. muted_mark c_value (omega arith) (omega arith), tt))
  muted_value (set_minus n) = (λ k. M.low c_number (omega arith), (λ k. muted_mark c_minus (omega arith) (omega arith), tt))
  muted_value set_true = (λ k. M.low c_true (omega arith), (λ k. muted_mark c_value (omega arith) (omega arith), tt))
  muted_value set_false = (λ k. M.low c_false (omega arith), (λ k. muted_mark c_value (omega arith) (omega arith), tt))
  muted_value (set_name w) = (λ k. M.low c_name (omega arith), (λ k. muted_mark c_named (omega arith) (omega arith), tt))
  muted_value (set_channel n ks) = (λ k. M.low c_number (omega arith), (λ k. muted_mark c_channel (omega arith) (omega arith), muted_each f t code_field muted_field ks))

  -- one variable
  variable_over : (x : Variable) (i : ℕ) (s : List ℤ) → lo ≤ i → i + length (code_variable x) ≤ hi → AllKnown (code_variable x) → Held t i (code_variable x) → Clear t (i + size_variable x)
      → over f (code_variable x) i s ≡ variable_in t p x i s
  variable_over (variable w z v) i s a b k h c =
      let R = code_size z ++ code_value v in
      let n = length-append (code_size z) (code_value v) in
      let u : suc i ≡ i + 1 = omega arith in
      let at : suc (suc i) + length (code_size z) ≡ i + 2 + size_size z = omega (arith, size-size z) in
      let C = subst (Clear t) (let y : i + size_variable (variable w z v) ≡ suc (suc i) + length (code_size z) + length (code_value v) = omega (arith, size_variable_lem (variable w z v)) in y) c in
      walk-one f i (suc (length R)) s ∙ ap (walk f (suc i) (suc (length R))) (M.low c_name (omega arith) i s h.0) ∙ walk-one f (suc i) (length R) s
      ∙ over_muted f t R (suc (suc i)) (f (suc i) s) (muted_both f t (code_size z) (code_value v) (muted_size z) (muted_value v)) k.1.1 h.2.2
      ∙ M.makes (suc i) s (omega arith) (omega arith) h.2.0 ∙ ap (λ y. variable_made t (link_of t (suc i)) p y s) (value_at_lem t z v (suc i) h.2.2 C)
      ∙ made t (link_of t (suc i)) p v (suc (suc i) + length (code_size z)) s (held_back t (code_size z) (code_value v) (suc (suc i)) (suc (suc i) + length (code_size z)) refl h.2.2) C
      ∙ ap (λ y. valued_in t (link_of t (suc i)) p v y s) at ∙ ap (λ y. valued_in t (link_of t y) p v (i + 2 + size_size z) s) u

  clear-variables : (xs : List Variable) (e : ℕ) → Held t e (each code_variable xs) → Clear t (e + length (each code_variable xs)) → Clear t e
  clear-variables [] e h c = clear-here t e 0 refl c
  clear-variables (variable w z v ∷ xs) e h c = clear-code t e c_declared h.2.0 (λ a b. omega arith)

  variables-over : (xs : List Variable) (i : ℕ) (s : List ℤ) → lo ≤ i → i + length (each code_variable xs) ≤ hi → AllKnown (each code_variable xs) → Held t i (each code_variable xs)
      → Clear t (i + length (each code_variable xs)) → over f (each code_variable xs) i s ≡ variables_in t p xs i s
  variables-over [] i s a b k h c = over_muted f t [] i s tt k h
  variables-over (x ∷ xs) i s a b k h c =
      let X = code_variable x in
      let L = each code_variable xs in
      let n = length-append X L in
      let z = size_variable_lem x in
      let m = i + size_variable x in
      let g = held_back t X L i m (omega arith) h in
      let d = subst (Clear t) (let y : i + length (X ++ L) ≡ m + length L = omega arith in y) c in
      over-both f X L i m s (omega arith)
      ∙ ap (over f L m) (variable_over x i s a (omega arith) (known-front X L k) (held-front t i X L h) (clear-variables xs m g d))
      ∙ variables-over xs m (variable_in t p x i s) (omega arith) (omega arith) (known-back X L k) g d

  -- one declaration, with its mark `local` (210) or `global` (211)
  pub declaration_over : (y : Item) → c_local ≤ items.code_of y → items.code_of y ≤ c_global → (d : Declaration) (i : ℕ) (s : List ℤ) → lo ≤ i → i + length (code_declaration y d) ≤ hi → AllKnown (code_declaration y d)
      → Held t i (code_declaration y d) → Clear t (i + size_declaration d) → over f (code_declaration y d) i s ≡ declaration_in t p d i s
  declaration_over y e g (declare k xs) i s a b n h c =
      let L = each code_variable xs in
      let z : suc (suc i) ≡ i + 2 = omega arith in
      let x : i + size_declaration (declare k xs) ≡ suc (suc i) + length L = omega (arith, size_declaration_lem y (declare k xs)) in
      walk-one f i (suc (length L)) s ∙ ap (walk f (suc i) (suc (length L))) (M.low (items.code_of (i_type k)) (type_below k n.0) i s h.0) ∙ walk-one f (suc i) (length L) s
      ∙ ap (walk f (suc (suc i)) (length L)) (M.marks (items.code_of y) e (omega arith) (λ q. omega arith) (suc i) s h.2.0)
      ∙ variables-over xs (suc (suc i)) s (omega arith) (omega arith) n.1.1 h.2.2 (subst (Clear t) x c) ∙ ap (λ j. variables_in t p xs j s) z

  clear_locals : (ds : List Declaration) (e : ℕ) → Held t e (each (code_declaration i_local) ds) → Clear t (e + length (each (code_declaration i_local) ds)) → Clear t e
  clear_locals [] e h c = clear-here t e 0 refl c
  clear_locals (declare k xs ∷ ds) e h c = clear-code t e c_local h.2.0 (λ a b. omega arith)

  -- those of a body
  pub locals_over : (ds : List Declaration) (i : ℕ) (s : List ℤ) → lo ≤ i → i + length (each (code_declaration i_local) ds) ≤ hi → AllKnown (each (code_declaration i_local) ds)
      → Held t i (each (code_declaration i_local) ds) → Clear t (i + length (each (code_declaration i_local) ds)) → over f (each (code_declaration i_local) ds) i s ≡ locals_in t p ds i s
  locals_over [] i s a b k h c = over_muted f t [] i s tt k h
  locals_over (x ∷ xs) i s a b k h c =
      let X = code_declaration i_local x in
      let L = each (code_declaration i_local) xs in
      let n = length-append X L in
      let z = size_declaration_lem i_local x in
      let m = i + size_declaration x in
      let g = held_back t X L i m (omega arith) h in
      let d = subst (Clear t) (let y : i + length (X ++ L) ≡ m + length L = omega arith in y) c in
      over-both f X L i m s (omega arith)
      ∙ ap (over f L m) (declaration_over i_local (omega arith) (omega arith) x i s a (omega arith) (known-front X L k) (held-front t i X L h) (clear_locals xs m g d))
      ∙ locals_over xs m (declaration_in t p x i s) (omega arith) (omega arith) (known-back X L k) g d
