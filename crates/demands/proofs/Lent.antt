-- EVERY LENT PAIR IS IN ONE CASE, and refusals 7, 8 and 9 are given in theirs.
use Prim.Native.Nat.{ℕ, ◌<◌}
use native.Mathlib.Omega.{arith}
use mathlib.Core.Path.{◌≡◌, refl, sym as inv, ap, ◌∙◌, subst}
use mathlib.Core.Bool.{Bool, true, false}
use mathlib.Core.Logic.{◌⊎◌, inl, inr}
use mathlib.Core.List.{List, ◌++◌}
use lib.ListN.{length, drop}
use lib.IntN.{ℤ}
use lib.Dec.{eqb, ltb}
use borrow.Author.Tests.{lt-ltb, le-ltb, ltb-true, ltb-false}
use Rattle.base_ceilings.specs.Ceilings.{state_room, tables_room}
use Rattle.base_bytes.specs.Choice.{pick}
use Rattle.base_bytes.proofs.Tests.{true_false}
use Rattle.spec_grammar.specs.Tree.{Model}
use Rattle.read_accepts_proof.specs.Meaning.{Accepts}
use Rattle.read_accepts_proof.proofs.Main.{accepted_means, means_accepted}
use Rattle.read_accepts_proof.proofs.Tables.{tables_tree}
use Rattle.read_genuine.specs.Genuine.{written, genuine}
use Rattle.normal_proof.proofs.Owners.{genuine_owned, owned_genuine}
use Rattle.state_check.specs.Standing.{is_state_of}
use Rattle.step_entry.specs.Entries.{foreign_of, refusal_of}
use Rattle.spec_machine.specs.State.{State}
use Rattle.agree_encode.specs.Encode.{encode}
use Rattle.spec_machine.specs.Places.{Belongs}
use Rattle.spec_machine.specs.Fits.{Fits}
use Rattle.agree_states.proofs.Texts.{text-holds, text_held_state, text_single}
use Rattle.agree_machine.proofs.Survey.{text-modest, text_surveyed}
use Rattle.demands.proofs.Owned.{Own, of_text, owned, own_tables}
use Rattle.demands.specs.Lent.{Rooms, Tables, Numbers, Holds, Refuses, OneCase}
use Rattle.demands.specs.Lent as lent
use Rattle.demands.proofs.Entries.{Lent, no_room, no_model, no_state, a_state, refusal_by}

-- ---- 8: exactly when no accepted text has these tables
pub own_genuine : (ts : List ℕ) (m : Model) → Own ts m → genuine ts ≡ true
own_genuine ts m (of_text t a e) = owned_genuine ts (record { text = t; accepted = means_accepted t a; own = inv e })

pub tables-genuine : (ts : List ℕ) (m : Model) → Tables ts m → genuine ts ≡ true
tables-genuine ts m h = own_genuine ts m (owned ts m h)

pub record Owner (ts : List ℕ) : Type 0 where
  pub tree : Model
  pub tables : Tables ts tree

pub owner : (ts : List ℕ) → genuine ts ≡ true → Owner ts
owner ts e =
    let o = genuine_owned ts e in
    let a : Accepts o.text = accepted_means o.text o.accepted in
    record { tree = a.tree; tables = own_tables ts o.text a (inv o.own) }

one_own : (ts : List ℕ) (m n : Model) → Own ts m → Own ts n → m ≡ n
one_own ts m n (of_text t a e) (of_text u b f) = tables_tree t u a b (inv e ∙ f)

pub one_model : (ts : List ℕ) (m n : Model) → Tables ts m → Tables ts n → m ≡ n
one_model ts m n h g = one_own ts m n (owned ts m h) (owned ts n g)

-- ---- 9: exactly when the numbers are those of no state that fits
pub record Found (m : Model) (s : List ℤ) : Type 0 where
  pub state : State
  pub numbers : Numbers m s state

found_own : (ts : List ℕ) (m : Model) (s : List ℤ) → Own ts m → is_state_of (written ts) s ≡ true → Found m s
found_own ts m s (of_text t a e) h =
    let r = text-holds t a (text-modest t a) (text_surveyed t a) s (ap (λ w. is_state_of w s) (inv e) ∙ h) in
    record { state = r.0; numbers = record { fits = r.1.0; are = r.1.1 } }

pub found : (ts : List ℕ) (m : Model) (s : List ℤ) → Tables ts m → is_state_of (written ts) s ≡ true → Found m s
found ts m s o h = found_own ts m s (owned ts m o) h

numbers_state_own : (ts : List ℕ) (m : Model) (σ : State) (rest : List ℤ) → Own ts m → Fits (Belongs m) m σ → is_state_of (written ts) (encode m σ ++ rest) ≡ true
numbers_state_own ts m σ rest (of_text t a e) f = ap (λ w. is_state_of w (encode a.tree σ ++ rest)) e ∙ text_held_state t a (text-modest t a) (text_surveyed t a) σ rest f

pub numbers-state : (ts : List ℕ) (m : Model) (σ : State) (rest : List ℤ) → Tables ts m → Fits (Belongs m) m σ → is_state_of (written ts) (encode m σ ++ rest) ≡ true
numbers-state ts m σ rest o f = numbers_state_own ts m σ rest (owned ts m o) f

pub state_is : (ts : List ℕ) (m : Model) (s : List ℤ) (σ : State) → Tables ts m → Numbers m s σ → is_state_of (written ts) s ≡ true
state_is ts m s σ h n = ap (is_state_of (written ts)) n.are ∙ numbers-state ts m σ (drop state_room s) h n.fits

one_state_own : (ts : List ℕ) (m : Model) (s : List ℤ) (σ τ : State) → Own ts m → Numbers m s σ → Numbers m s τ → σ ≡ τ
one_state_own ts m s σ τ (of_text t a e) p q =
    text_single t a (text-modest t a) (text_surveyed t a) s σ τ (drop state_room s) (drop state_room s) p.fits q.fits p.are q.are

one_state : (ts : List ℕ) (m : Model) (s : List ℤ) (σ τ : State) → Tables ts m → Numbers m s σ → Numbers m s τ → σ ≡ τ
one_state ts m s σ τ o p q = one_state_own ts m s σ τ (owned ts m o) p q

-- ---- every pair is in some case
module _ (ts : List ℕ) (s : List ℤ) where
  by_numbers : (m : Model) → Rooms ts s → Tables ts m → (b : Bool) → is_state_of (written ts) s ≡ b → Lent ts s
  by_numbers m r h true e = let x = found ts m s h e in a_state m x.state (record { rooms = r; tables = h; numbers = x.numbers })
  by_numbers m r h false e = no_state m r h (λ σ n. true_false (inv (state_is ts m s σ h n) ∙ e))

  by_tables : Rooms ts s → (b : Bool) → genuine ts ≡ b → Lent ts s
  by_tables r true e = let o = owner ts e in by_numbers o.tree r o.tables (is_state_of (written ts) s) refl
  by_tables r false e = no_model r (λ m h. true_false (inv (tables-genuine ts m h) ∙ e))

  pub some_case : Lent ts s
  some_case = go (ltb (length ts) tables_room) (ltb (length s) state_room) refl refl
    where
      go : (b c : Bool) → ltb (length ts) tables_room ≡ b → ltb (length s) state_room ≡ c → Lent ts s
      go true c e f = no_room (inl (ltb-true (length ts) tables_room e))
      go false true e f = no_room (inr (ltb-true (length s) state_room f))
      go false false e f = by_tables (record { tables = ltb-false (length ts) tables_room e; state = ltb-false (length s) state_room f }) (genuine ts) refl

  -- ---- the refusals
  pub foreign_room : (length ts < tables_room) ⊎ (length s < state_room) → foreign_of ts s ≡ 7
  unfolding foreign_of
  foreign_room (inl h) = rw (lt-ltb (length ts) tables_room h)
  foreign_room (inr h) = go (ltb (length ts) tables_room)
    where
      go : (b : Bool) → ◌≡◌ {A = ℕ} (pick b 7 (pick (ltb (length s) state_room) 7 (pick (genuine ts) 0 8))) 7
      go true = refl
      go false = rw (lt-ltb (length s) state_room h)

  foreign_by : Rooms ts s → (b : Bool) → genuine ts ≡ b → foreign_of ts s ≡ pick b 0 8
  unfolding foreign_of
  foreign_by r b e = rw (le-ltb (length ts) tables_room r.tables, le-ltb (length s) state_room r.state, e)

  not-genuine : ((m : Model) → Tables ts m → ⊥) → (b : Bool) → genuine ts ≡ b → b ≡ false
  not-genuine h true e = let o = owner ts e in absurd (h o.tree o.tables)
  not-genuine h false e = refl

  no_such : (m : Model) → Tables ts m → ((σ : State) → Numbers m s σ → ⊥) → (b : Bool) → is_state_of (written ts) s ≡ b → b ≡ false
  no_such m h g true e = let x = found ts m s h e in absurd (g x.state x.numbers)
  no_such m h g false e = refl

  pub foreign_none : (m : Model) → Rooms ts s → Tables ts m → foreign_of ts s ≡ 0
  foreign_none m r h = foreign_by r true (tables-genuine ts m h)

  pub foreign_is : Rooms ts s → ((m : Model) → Tables ts m → ⊥) → foreign_of ts s ≡ 8
  foreign_is r h = foreign_by r (genuine ts) refl ∙ ap (λ b. pick b 0 8) (not-genuine h (genuine ts) refl)

  pub refusal_is : (x : Lent ts s) → refusal_of ts s ≡ refusal_by x
  unfolding refusal_of
  refusal_is (no_room h) = ap (λ i. pick (eqb i 0) (pick (is_state_of (written ts) s) 0 9) i) (foreign_room h)
  refusal_is (no_model r h) = ap (λ i. pick (eqb i 0) (pick (is_state_of (written ts) s) 0 9) i) (foreign_is r h)
  refusal_is (no_state m r h g) =
      ap (λ i. pick (eqb i 0) (pick (is_state_of (written ts) s) 0 9) i) (foreign_none m r h) ∙ ap (λ b. pick b 0 9) (no_such m h g (is_state_of (written ts) s) refl)
  refusal_is (a_state m σ h) =
      ap (λ i. pick (eqb i 0) (pick (is_state_of (written ts) s) 0 9) i) (foreign_none m h.rooms h.tables) ∙ ap (λ b. pick b 0 9) (state_is ts m s σ h.tables h.numbers)

  -- ---- the cases as the statement has them
  pub to_case : {x : ℕ} → Refuses ts s x → (c : Lent ts s) × (refusal_by c ≡ x) × (0 < x)
  to_case (lent.no_room h) = (no_room h, refl, omega arith)
  to_case (lent.no_model r h) = (no_model r h, refl, omega arith)
  to_case (lent.no_state m r h g) = (no_state m r h g, refl, omega arith)

  pub of_case : (c : Lent ts s) (x : ℕ) → refusal_by c ≡ x → 0 < x → Refuses ts s x
  of_case (no_room h) x e p = subst (Refuses ts s) e (lent.no_room h)
  of_case (no_model r h) x e p = subst (Refuses ts s) e (lent.no_model r h)
  of_case (no_state m r h g) x e p = subst (Refuses ts s) e (lent.no_state m r h g)
  of_case (a_state m σ h) x e p = absurd (omega arith)

  pub cases : OneCase ts s
  cases =
      record {
        some_case = go some_case;
        never_both = λ x m σ r h. (let c = to_case r in let z : refusal_by c.0 ≡ 0 = inv (refusal_is c.0) ∙ refusal_is (a_state m σ h) in omega (arith, c.1, c.2));
        one_model = one_model ts;
        one_state = λ m σ τ h. one_state ts m s σ τ h;
      }
    where
      go : Lent ts s → ((x : ℕ) × Refuses ts s x) ⊎ ((m : Model) × (σ : State) × Holds ts s m σ)
      go (no_room h) = inl (7, lent.no_room h)
      go (no_model r h) = inl (8, lent.no_model r h)
      go (no_state m r h g) = inl (9, lent.no_state m r h g)
      go (a_state m σ h) = inr (m, σ, h)
