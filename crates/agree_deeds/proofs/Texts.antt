-- LISTS OF DEEDS, as they are told: one, two, one list after the other; and fields of a message one after the other.
use Prim.Native.Nat.{ℕ, zero, suc, ◌+◌, ◌<◌}
use native.Mathlib.Omega.{arith}
use mathlib.Core.Path.{◌≡◌, refl, sym as inv, ap, ap₂, ◌∙◌}
use mathlib.Core.Bool.{Bool, true, false}
use mathlib.Core.List.{List, [], ◌∷◌, ◌++◌, append_assoc, append-nil}
use lib.ListN.{length, get_or}
use lib.IntN.{ℤ, pos}
use Rattle.base_bytes.specs.Choice.{pick}
use Rattle.spec_grammar.specs.Tree.{Name, Ref, Part, Model, Received, into, equal, exactly, exactly_true, exactly_false}
use Rattle.state_layout.specs.Layout.{field_of}
use Rattle.spec_machine.specs.Stage.{Message, Stage}
use Rattle.spec_machine.specs.Arguments.{name_of}
use Rattle.spec_machine.specs.State.{State}
use Rattle.spec_account.specs.Deeds.{Deed, stored, received, started, delivered, delivered_all}
use Rattle.spec_account.specs.Steps.{deed_text, is_started, deeds_by, deeds_text}
use Rattle.show_words.specs.Words.{fields_in}

-- the fields of a message that has these values
pub fields_are : (s : List ℤ) (c k : ℕ) (l : List ℤ) (n f : ℕ) → length l ≡ n → ((i : ℕ) → i < n → get_or l i (pos 0) ≡ field_of s c k (f + i)) → fields_in s c k f n ≡ l
unfolding fields_in
fields_are s c k [] zero f e h = refl
fields_are s c k [] (suc n) f e h = absurd (omega arith)
fields_are s c k (v ∷ l) zero f e h = absurd (omega arith)
fields_are s c k (v ∷ l) (suc n) f e h =
    ap₂ ◌∷◌ (ap (field_of s c k) (let z : f ≡ f + 0 = omega arith in z) ∙ inv (h 0 (omega arith)))
    (fields_are s c k l n (f + 1) (omega arith) (λ i g. h (suc i) (omega arith) ∙ ap (field_of s c k) (let z : f + suc i ≡ f + 1 + i = omega arith in z)))

module _ (m : Model) (p : ℕ) (u : Part) (σ τ : State) where
  abbrev text : Deed → List ℕ
  text d = deed_text m p u σ τ d

  by_append : (b : Bool) (x y : List Deed) → deeds_by m p u σ τ b (x ++ y) ≡ deeds_by m p u σ τ b x ++ deeds_by m p u σ τ b y
  unfolding deeds_by
  by_append true [] y = refl
  by_append false [] y = refl
  by_append true (d ∷ x) y =
      ap (pick (is_started m p u σ τ d) (text d) [] ++◌) (by_append true x y) ∙ inv (append_assoc (pick (is_started m p u σ τ d) (text d) []) (deeds_by m p u σ τ true x) (deeds_by m p u σ τ true y))
  by_append false (d ∷ x) y =
      ap (pick (is_started m p u σ τ d) [] (text d) ++◌) (by_append false x y) ∙ inv (append_assoc (pick (is_started m p u σ τ d) [] (text d)) (deeds_by m p u σ τ false x) (deeds_by m p u σ τ false y))

  pub none-text : deeds_text m p u σ τ [] ≡ []
  unfolding deeds_by
  none-text = refl

  pub one-text : (d : Deed) → deeds_text m p u σ τ (d ∷ []) ≡ deed_text m p u σ τ d
  unfolding deeds_by
  one-text d = go (is_started m p u σ τ d)
    where
      go : (b : Bool) → (pick b [] (text d) ++ []) ++ (pick b (text d) [] ++ []) ≡ text d
      go true = append-nil (text d)
      go false = append-nil (text d ++ []) ∙ append-nil (text d)

  -- a process that began is told last
  pub set-text : (w : Name) (vs : List ℤ) (r : Ref) (k : ℕ) (v : ℤ)
      → deeds_text m p u σ τ (started w vs ∷ stored r k v ∷ []) ≡ deed_text m p u σ τ (stored r k v) ++ deed_text m p u σ τ (started w vs)
  unfolding deeds_by
  set-text w vs r k v = ap₂ ◌++◌ (append-nil (text (stored r k v))) (append-nil (text (started w vs)))

  -- ---- a receive: its message, and then its stores, among which no process begins
  module _ {S : Type 0} (c : Stage S) (x : Message) where
    one_store : (f : ℕ) (r : Received) (k : ℕ) → deeds_by m p u σ τ true (delivered c x f r k) ≡ []
    unfolding deeds_by
    one_store f (into r) k = go (c.constant (name_of r))
      where
        go : (b : Bool) → deeds_by m p u σ τ true (pick b [] (stored r k (x f) ∷ [])) ≡ []
        go true = refl
        go false = refl
    one_store f (equal e) k = refl
    one_store f (exactly n) k = refl
    one_store f exactly_true k = refl
    one_store f exactly_false k = refl

    no_start : (f : ℕ) (rs : List Received) (ks : List ℕ) → deeds_by m p u σ τ true (delivered_all c x f rs ks) ≡ []
    unfolding deeds_by delivered_all
    no_start f [] ks = refl
    no_start f (r ∷ rs) [] = refl
    no_start f (r ∷ rs) (k ∷ ks) =
        by_append true (delivered c x f r k) (delivered_all c x (f + 1) rs ks) ∙ ap₂ ◌++◌ (one_store f r k) (no_start (f + 1) rs ks)

    pub more-stores : (f : ℕ) (r : Received) (rs : List Received) (k : ℕ) (ks : List ℕ)
        → deeds_by m p u σ τ false (delivered_all c x f (r ∷ rs) (k ∷ ks)) ≡ deeds_by m p u σ τ false (delivered c x f r k) ++ deeds_by m p u σ τ false (delivered_all c x (f + 1) rs ks)
    unfolding delivered_all
    more-stores f r rs k ks = by_append false (delivered c x f r k) (delivered_all c x (f + 1) rs ks)

    pub received-text : (v : ℤ) (k : ℕ) (rs : List Received) (ks : List ℕ)
        → deeds_text m p u σ τ (received v k ∷ delivered_all c x 0 rs ks) ≡ deed_text m p u σ τ (received v k) ++ deeds_by m p u σ τ false (delivered_all c x 0 rs ks)
    unfolding deeds_by
    received-text v k rs ks =
        ap (λ (l : List ℕ). (text (received v k) ++ deeds_by m p u σ τ false (delivered_all c x 0 rs ks)) ++ l) (no_start 0 rs ks) ∙ append-nil (text (received v k) ++ deeds_by m p u σ τ false (delivered_all c x 0 rs ks))
