-- THE STORES OF A RECEIVE, read from tables: those of the plain stage's deliveries, from left to right; an argument that is compared stores nothing.
use Prim.Native.Nat.{ℕ, zero, suc, ◌+◌, ◌-◌, ◌≤◌}
use native.Mathlib.Omega.{arith}
use borrow.Author.Tests.{eq-eqb, ne_eqb}
use mathlib.Core.Path.{◌≡◌, refl, sym as inv, ap, ap₂, ◌∙◌, subst}
use mathlib.Core.Bool.{Bool, true, false}
use mathlib.Core.List.{List, [], ◌∷◌, ◌++◌, append-nil}
use lib.ListN.{length}
use lib.IntN.{ℤ}
use lib.Dec.{eqb}
use Rattle.base_codes.specs.Codes.{c_end, c_into, c_message}
use Rattle.base_bytes.specs.Choice.{pick}
use Rattle.base_bytes.proofs.Tests.{both_true}
use Rattle.spec_grammar.specs.Tree.{Name, Ref, Received, into, equal, exactly, exactly_true, exactly_false, Model}
use Rattle.spec_rules.specs.Senses.{is_constant}
use Rattle.spec_rules.specs.Roles.{received}
use Rattle.spec_rules.specs.Statements.{Place, all, sense}
use Rattle.legal_rules.specs.Statements.{receives}
use Rattle.table_layout.specs.Access.{code_of, link_of}
use Rattle.write_letters.specs.Tokens.{spelled}
use Rattle.step_ready.specs.Channels.{compared_at}
use Rattle.spec_machine.specs.Stage.{Message, Stage}
use Rattle.spec_machine.specs.Arguments.{name_of, Aim, hit, miss, aim, Aims, hits, missed, aims_by, target, targets}
use Rattle.spec_machine.specs.State.{State}
use Rattle.spec_machine.specs.Names.{unit_at}
use Rattle.spec_machine.specs.Plain.{plain_stage}
use Rattle.spec_account.specs.Deeds.{stored, delivered, delivered_all}
use Rattle.spec_account.specs.Steps.{index_text, deed_text, deeds_by}
use Rattle.agree_encode.specs.Encode.{encode}
use Rattle.agree_encode.specs.Tabled.{Tabled}
use Rattle.agree_stage.specs.Tables.{stage_in}
use Rattle.agree_transfer.proofs.Transfer.{into_usable, received-named}
use Rattle.agree_effects.specs.Walked.{Stored, Agreed, Got, no_more, one_more_lem}
use Rattle.agree_effects.proofs.Receives.{Sure, aimed}
use Rattle.agree_tables.proofs.Agreed.{Kept}
use Rattle.show_deeds.specs.Deeds.{index_in, target_in, targets_in}
use Rattle.agree_deeds.proofs.Texts.{more-stores}
use Rattle.agree_deeds.proofs.Lines.{agreed, stored-line}

module _ (T : List ℕ) (decl : Name → ℕ) where
  stored_compared : (r : Ref) (a m : ℕ) → Stored T decl r a m → compared_at T m ≡ eqb (code_of T (decl (name_of r))) c_message
  unfolding compared_at
  stored_compared r a m g = rw (eq-eqb (code_of T m) c_into g.mark) (ap (λ d. eqb (code_of T d) c_message) g.declared)

  other_compared : (m : ℕ) → (code_of T m ≡ c_into → ⊥) → compared_at T m ≡ true
  unfolding compared_at
  other_compared m h = rw (ne_eqb (code_of T m) c_into h)

module _ (P : ℕ → ℕ → Type 0) (m : Model) (u : ℕ) (at : Place) (T : List ℕ) (decl head : Name → ℕ) (X : Tabled P m u at T decl head) (p : ℕ) (rest : List ℤ) (σ τ : State)
    (k : Kept P m u at T decl head X p rest σ (encode m σ ++ rest)) (l : Kept P m u at T decl head X p rest τ (encode m τ ++ rest)) where
  abbrev S : List ℤ
  S = encode m σ ++ rest

  abbrev S' : List ℤ
  S' = encode m τ ++ rest

  abbrev c : Stage State
  c = plain_stage m p (unit_at m u) σ

  -- the name and the index of an argument that may be stored to
  abbrev pub SpeltOne : Received → ℕ → ℕ → Type 0
  SpeltOne (into r) a e = (spelled T a ≡ name_of r) × ((n : ℕ) → index_in T (e - 1) n ≡ index_text r n)
  SpeltOne (equal x) a e = Unit {0}
  SpeltOne (exactly n) a e = Unit {0}
  SpeltOne exactly_true a e = Unit {0}
  SpeltOne exactly_false a e = Unit {0}

  abbrev pub Spelt : List Received → ℕ → Type 0
  Spelt [] a = Unit {0}
  Spelt (x ∷ xs) a = SpeltOne x a (link_of T a) × Spelt xs (link_of T a + 1)

  compared_none : (a e : ℕ) → (code_of T e ≡ c_into → ⊥) → target_in T S S' p a e ≡ []
  compared_none a e h = rw (other_compared T decl e h)

  none-stored : [] ≡ deeds_by m p (unit_at m u) σ τ false []
  unfolding deeds_by
  none-stored = refl

  one-stored : (r : Ref) (n : ℕ) (v : ℤ) → deed_text m p (unit_at m u) σ τ (stored r n v) ≡ deeds_by m p (unit_at m u) σ τ false (stored r n v ∷ [])
  unfolding deeds_by
  one-stored r n v = inv (append-nil (deed_text m p (unit_at m u) σ τ (stored r n v)))

  target-shown : (x : Received) (a e : ℕ) → Agreed T decl x a e → SpeltOne x a e → receives at x ≡ true → (n : ℕ) → target (plain_stage m p (unit_at m u) σ) x ≡ hit n → (y : Message) (f : ℕ)
      → target_in T (encode m σ ++ rest) (encode m τ ++ rest) p a e ≡ deeds_by m p (unit_at m u) σ τ false (delivered (plain_stage m p (unit_at m u) σ) y f x n)
  target-shown (into r) a e g d h n w y f =
      go (is_constant (sense at (name_of r))) refl
    where
      q : (c.constant (name_of r) ≡ is_constant (sense at (name_of r))) × (eqb (code_of T (decl (name_of r))) c_message ≡ is_constant (sense at (name_of r)))
      q = into_usable (Kept P m u at T decl head X p rest) (P u) at c σ (stage_in T S p decl head) S (agreed P m u at T decl head X p rest σ k) r h

      go : (b : Bool) → is_constant (sense at (name_of r)) ≡ b → target_in T S S' p a e ≡ deeds_by m p (unit_at m u) σ τ false (pick (c.constant (name_of r)) [] (stored r n (y f) ∷ []))
      go true z = rw (stored_compared T decl r a e g, q.1, q.0, z) none-stored
      go false z =
          let s = received-named (Kept P m u at T decl head X p rest) (P u) at c σ (stage_in T S p decl head) S (agreed P m u at T decl head X p rest σ k) r h z in
          let i : aim c.scene r ≡ hit n = inv (ap (λ b. pick b (hit 0) (aim c.scene r)) (q.0 ∙ z)) ∙ w in
          rw (stored_compared T decl r a e g, q.1, q.0, z)
          (stored-line P m u at T decl head X p rest σ τ k l r a e (record { spelt = d.0; index = d.1; declared = g.declared; located = g.located }) received h s n i (y f) ∙ one-stored r n (y f))
  target-shown (equal x) a e g d h n w y f = compared_none a e g.mark ∙ none-stored
  target-shown (exactly i) a e g d h n w y f = compared_none a e g.mark ∙ none-stored
  target-shown exactly_true a e g d h n w y f = compared_none a e g.mark ∙ none-stored
  target-shown exactly_false a e g d h n w y f = compared_none a e g.mark ∙ none-stored

  no_targets : (y : Message) (f : ℕ) (ks : List ℕ) → [] ≡ deeds_by m p (unit_at m u) σ τ false (delivered_all c y f [] ks)
  unfolding deeds_by delivered_all
  no_targets y f ks = refl

  pub targets-shown : {xs : List Received} {a z : ℕ} → Got T decl xs a z → Spelt xs a → all (receives at) xs ≡ true → (n : ℕ) → length xs ≤ n → (y : Message) (f : ℕ)
      → Sure (targets (plain_stage m p (unit_at m u) σ) xs)
      → targets_in T (encode m σ ++ rest) (encode m τ ++ rest) p n a
      ≡ deeds_by m p (unit_at m u) σ τ false (delivered_all (plain_stage m p (unit_at m u) σ) y f xs (aimed (targets (plain_stage m p (unit_at m u) σ) xs)))
  unfolding targets_in targets
  targets-shown (no_more e) d h zero few y f w = no_targets y f []
  targets-shown (no_more {a = a} e) d h (suc n) few y f w = rw (eq-eqb (code_of T a) c_end e) (no_targets y f [])
  targets-shown (one_more_lem e g i o r) d h zero few y f w = absurd (omega arith)
  targets-shown (one_more_lem {x = x} {xs = xs} {a = a} e g i o r) d h (suc n) few y f w =
      let b = both_true (receives at x) (all (receives at) xs) h in
      rw (ne_eqb (code_of T a) c_end g)
      (go (target c x) refl (targets c xs) w
      (λ v. ap (λ j. targets_in T S S' p n (j + 1)) i ∙ targets-shown r (subst (λ j. Spelt xs (j + 1)) i d.1) b.1 n (omega arith) y (f + 1) v)
      (λ v q. ap (target_in T S S' p a) i ∙ target-shown x a e o (subst (SpeltOne x a) i d.0) b.0 v q y f))
    where
      go : (q : Aim) → target c x ≡ q → (v : Aims) → Sure (aims_by q v)
          → (Sure v → targets_in T S S' p n (link_of T a + 1) ≡ deeds_by m p (unit_at m u) σ τ false (delivered_all c y (f + 1) xs (aimed v)))
          → ((j : ℕ) → target c x ≡ hit j → target_in T S S' p a (link_of T a) ≡ deeds_by m p (unit_at m u) σ τ false (delivered c y f x j))
          → target_in T S S' p a (link_of T a) ++ targets_in T S S' p n (link_of T a + 1) ≡ deeds_by m p (unit_at m u) σ τ false (delivered_all c y f (x ∷ xs) (aimed (aims_by q v)))
      go (hit j) q (hits ks) s below one = ap₂ ◌++◌ (one j q) (below tt) ∙ inv (more-stores m p (unit_at m u) σ τ c y f x xs j ks)
      go (hit j) q (missed z) s below one = absurd s
      go (miss z) q v s below one = absurd s
