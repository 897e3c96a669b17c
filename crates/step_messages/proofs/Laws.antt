-- Laws that the proofs of `step_messages` cite: a turn of each loop, and what the callees say, put together.
use Rattle.std.specs.Prelude.{Result, Ok, Err}
use Prim.Native.Nat.{ℕ, zero, suc, ◌+◌, ◌-◌, ◌<◌, ◌^◌, ◌*◌}
use mathlib.Core.Path.{◌≡◌, refl, sym, ap, ◌∙◌}
use mathlib.Core.Bool.{Bool, true, false}
use mathlib.Core.List.{List}
use lib.ListN.{get_or, set}
use lib.IntN.{ℤ, pos}
use lib.Signed.{mag}
use borrow.Author.Tests.{ne_eqb}
use mir.Syntax.{w32}
use mir.Val.{to_z, of_z, SFits}
use mir.ValLaws.{to_z-of_z}
use Rattle.base_ceilings.specs.Ceilings.{capacity_most, fields_most}
use Rattle.base_codes.specs.Codes.{c_end}
use Rattle.table_layout.specs.Access.{code_of, link_of}
use Rattle.base_values.specs.Types.{cast_of}
use Rattle.base_values.specs.declared.Fault.{Fault}
use Rattle.state_layout.proofs.Laws.{back}
use Rattle.state_layout.specs.Layout.{kept, cell_of, channel_at, field_at, declared_of, waiting_of}
use Rattle.state_layout.specs.Walks.{walk}
use Rattle.step_eval.specs.Variables.{variable_of, type_of}
use Rattle.step_eval.specs.Expressions.{eval_of}
use Rattle.step_ready.specs.Channels.{compared_at, fields_of}
use Rattle.step_messages.specs.Messages.{field_type, on_value, on_place, gather_end, gather_list, aim_of, aim_end, aim_list, put_in, taken_out, delivered_one, delivered}

-- ---- arguments
module _ (t : List ℕ) (s : List ℤ) (p : ℕ) where
  pub gather_end_lem : (n a k : ℕ) (l : List ℤ) → n ≡ 0 → (Ok a ≡ gather_end t s p n a) × (l ≡ gather_list t s p n a k l)
  unfolding gather_end gather_list
  gather_end_lem n a k l e = (rw e, rw e)

  pub gather_over : (n a k : ℕ) (l : List ℤ) {c : ℕ} → c ≡ code_of t a → c ≡ c_end → (Ok a ≡ gather_end t s p n a) × (l ≡ gather_list t s p n a k l)
  unfolding gather_end gather_list
  gather_over zero a k l ec e = (refl, refl)
  gather_over (suc n) a k l ec e = (rw (← ec, e), rw (← ec, e))

  module _ (n n1 a k : ℕ) (l : List ℤ) (en : n ≡ suc n1) {c m : ℕ} (ec : c ≡ code_of t a) (h : c ≡ c_end → ⊥) (em : m ≡ link_of t a) {x : Result ℤ Fault} (ex : x ≡ eval_of t s p a m) where
    known : eval_of t s p a (link_of t a) ≡ x
    known = sym (ex ∙ ap (eval_of t s p a) em)

    pub gather_fault : {f : Fault} → x ≡ Err f → (Err f ≡ gather_end t s p n a) × (l ≡ gather_list t s p n a k l)
    unfolding gather_end gather_list
    gather_fault {f} e = (
      rw (en, ← ec, ne_eqb c c_end h) (ap (λ y. on_value y (λ v. gather_end t s p n1 (link_of t a + 1)) (λ f. Err f)) (sym (known ∙ e))),
      rw (en, ← ec, ne_eqb c c_end h) (ap (λ y. on_value y (λ v. gather_list t s p n1 (link_of t a + 1) (k + 1) (set l k v)) (λ f. l)) (sym (known ∙ e))),
    )

    pub gather_more : {v : ℤ} {l' : List ℤ} → x ≡ Ok v → mag v < 2 ^ 31 → l' ≡ set l k (to_z w32 (of_z w32 v))
        → (gather_end t s p n1 (m + 1) ≡ gather_end t s p n a) × (gather_list t s p n1 (m + 1) (k + 1) l' ≡ gather_list t s p n a k l)
    unfolding gather_end gather_list
    gather_more {v} {l'} e g el =
        let el' : l' ≡ set l k v = rw (back {z = v} g) at el in (
          rw (en, ← ec, ne_eqb c c_end h)
              (ap (λ b. gather_end t s p n1 (b + 1)) em ∙ ap (λ y. on_value y (λ v. gather_end t s p n1 (link_of t a + 1)) (λ f. Err f)) (sym (known ∙ e))),
          rw (en, ← ec, ne_eqb c c_end h)
              ((λ i. gather_list t s p n1 (em i + 1) (k + 1) (el' i))
              ∙ ap (λ y. on_value y (λ v. gather_list t s p n1 (link_of t a + 1) (k + 1) (set l k v)) (λ f. l)) (sym (known ∙ e))),
        )

  -- ---- places
  pub aim_end_lem : (n a k : ℕ) (l : List ℕ) → n ≡ 0 → (Ok a ≡ aim_end t s p n a) × (l ≡ aim_list t s p n a k l)
  unfolding aim_end aim_list
  aim_end_lem n a k l e = (rw e, rw e)

  pub aim-over : (n a k : ℕ) (l : List ℕ) {c : ℕ} → c ≡ code_of t a → c ≡ c_end → (Ok a ≡ aim_end t s p n a) × (l ≡ aim_list t s p n a k l)
  unfolding aim_end aim_list
  aim-over zero a k l ec e = (refl, refl)
  aim-over (suc n) a k l ec e = (rw (← ec, e), rw (← ec, e))

  module _ (n n1 a k : ℕ) (l : List ℕ) (en : n ≡ suc n1) {c m : ℕ} (ec : c ≡ code_of t a) (h : c ≡ c_end → ⊥) (em : m ≡ link_of t a) {x : Result ℕ Fault} (ex : x ≡ aim_of t s p a m) where
    seen : aim_of t s p a (link_of t a) ≡ x
    seen = sym (ex ∙ ap (aim_of t s p a) em)

    pub aim-fault : {f : Fault} → x ≡ Err f → (Err f ≡ aim_end t s p n a) × (l ≡ aim_list t s p n a k l)
    unfolding aim_end aim_list
    aim-fault {f} e = (
      rw (en, ← ec, ne_eqb c c_end h) (ap (λ y. on_place y (λ v. aim_end t s p n1 (link_of t a + 1)) (λ f. Err f)) (sym (seen ∙ e))),
      rw (en, ← ec, ne_eqb c c_end h) (ap (λ y. on_place y (λ v. aim_list t s p n1 (link_of t a + 1) (k + 1) (set l k v)) (λ f. l)) (sym (seen ∙ e))),
    )

    pub aim-more : {v : ℕ} {l' : List ℕ} → x ≡ Ok v → l' ≡ set l k v → (aim_end t s p n1 (m + 1) ≡ aim_end t s p n a) × (aim_list t s p n1 (m + 1) (k + 1) l' ≡ aim_list t s p n a k l)
    unfolding aim_end aim_list
    aim-more {v} e el = (
      rw (en, ← ec, ne_eqb c c_end h)
          (ap (λ b. aim_end t s p n1 (b + 1)) em ∙ ap (λ y. on_place y (λ v. aim_end t s p n1 (link_of t a + 1)) (λ f. Err f)) (sym (seen ∙ e))),
      rw (en, ← ec, ne_eqb c c_end h)
          ((λ i. aim_list t s p n1 (em i + 1) (k + 1) (el i)) ∙ ap (λ y. on_place y (λ v. aim_list t s p n1 (link_of t a + 1) (k + 1) (set l k v)) (λ f. l)) (sym (seen ∙ e))),
    )

-- ---- stores
pub field_put : (t : List ℕ) (s s' : List ℤ) (d c w f : ℕ) (v : ℤ) {i ty : ℕ} {z : ℤ} → SFits w32 v → i ≡ field_at c w f → ty ≡ field_type t d f → z ≡ cast_of ty (to_z w32 (of_z w32 v))
    → mag z < 2 ^ 31 → s' ≡ set s i (to_z w32 (of_z w32 z)) → s' ≡ set s (field_at c w f) (cast_of (field_type t d f) v)
field_put t s s' d c w f v g ei et ez h e = e ∙ (λ i. set s (ei i) ((back h ∙ ez ∙ (λ j. cast_of (et j) (to_z-of_z w32 v g j))) i))

pub field_turn : (t : List ℕ) (s s' : List ℤ) (d c w f : ℕ) (l : List ℤ) {v : ℤ} → mag v < 2 ^ 31 → v ≡ cell_of l f → s' ≡ set s (field_at c w f) (cast_of (field_type t d f) (to_z w32 (of_z w32 v)))
    → s' ≡ set s (field_at c w f) (cast_of (field_type t d f) (get_or l f (pos 0)))
field_turn t s s' d c w f l h ev e = e ∙ ap (λ z. set s (field_at c w f) (cast_of (field_type t d f) z)) (back h ∙ ev)

pub put_all : (t : List ℕ) (c w : ℕ) (l s s₁ s₂ : List ℤ) {d n i : ℕ} → d ≡ declared_of s c → n ≡ fields_of t d
    → s₁ ≡ walk (λ f x. set x (field_at c w f) (cast_of (field_type t d f) (get_or l f (pos 0)))) 0 n s → i ≡ channel_at c → s₂ ≡ set s₁ (i + 1) (kept (w + 1)) → s₂ ≡ put_in t c w l s
unfolding put_in
put_all t c w l s s₁ s₂ ed en e₁ ei e₂ =
    e₂ ∙ (λ j. set ((e₁ ∙ (λ k. walk (λ f x. set x (field_at c w f) (cast_of (field_type t (ed k) f) (get_or l f (pos 0)))) 0 ((en ∙ ap (fields_of t) ed) k) s)) j) (ei j + 1) (kept (w + 1)))

pub copied : (s s' : List ℤ) (to from : ℕ) {v : ℤ} → mag v < 2 ^ 31 → v ≡ cell_of s from → s' ≡ set s to (to_z w32 (of_z w32 v)) → s' ≡ set s to (cell_of s from)
copied s s' to from h ev e = e ∙ ap (set s to) (back h ∙ ev)

pub take_all : (c w : ℕ) (s s₁ s₂ s₃ : List ℤ) {k i n : ℕ} → k ≡ waiting_of s c
    → s₁ ≡ walk (λ i x. set x (field_at c w i) (cell_of x (field_at c (w + 1) i))) 0 (fields_most * (capacity_most - 1 - w)) s
    → s₂ ≡ walk (λ i x. set x (field_at c (capacity_most - 1) i) (pos 0)) 0 fields_most s₁ → i ≡ channel_at c → n ≡ k - 1 → s₃ ≡ set s₂ (i + 1) (kept n) → s₃ ≡ taken_out c w s
unfolding taken_out
take_all c w s s₁ s₂ s₃ ek e₁ e₂ ei en e₃ = e₃ ∙ (λ j. set ((e₂ ∙ ap (walk (λ i x. set x (field_at c (capacity_most - 1) i) (pos 0)) 0 fields_most) e₁) j) (ei j + 1) (kept ((en ∙ ap (λ k. k - 1) ek) j)))

module _ (t : List ℕ) (m k : ℕ) (ps : List ℕ) (l s : List ℤ) {b : Bool} (eb : b ≡ compared_at t m) where
  pub one_compared : b ≡ true → s ≡ delivered_one t m k ps l s
  one_compared e = rw (← eb, e)

  pub one-stored : b ≡ false → {j v ty i : ℕ} {z y : ℤ} {s' : List ℤ} → j ≡ m - 1 → v ≡ variable_of t j → ty ≡ type_of v → mag z < 2 ^ 31 → z ≡ cell_of l k → y ≡ cast_of ty (to_z w32 (of_z w32 z)) → mag y < 2 ^ 31
      → i ≡ get_or ps k 0 → s' ≡ set s i (to_z w32 (of_z w32 y)) → s' ≡ delivered_one t m k ps l s
  one-stored e ej ev et h ez ey g ei es =
      rw (← eb, e) (es ∙ (λ n. set s (ei n) ((back g ∙ ey ∙ (λ o. cast_of ((et ∙ ap type_of (ev ∙ ap (variable_of t) ej)) o) ((back h ∙ ez) o))) n)))

module _ (t : List ℕ) (ps : List ℕ) (l : List ℤ) where
  pub deliver_end : (n a k : ℕ) (s : List ℤ) → n ≡ 0 → s ≡ delivered t n a k ps l s
  unfolding delivered
  deliver_end n a k s e = rw e

  pub deliver_over : (n a k : ℕ) (s : List ℤ) {c : ℕ} → c ≡ code_of t a → c ≡ c_end → s ≡ delivered t n a k ps l s
  unfolding delivered
  deliver_over zero a k s ec e = refl
  deliver_over (suc n) a k s ec e = rw (← ec, e)

  pub deliver_more : (n n1 a k : ℕ) (s : List ℤ) {s' : List ℤ} {c m : ℕ} → n ≡ suc n1 → c ≡ code_of t a → (c ≡ c_end → ⊥) → m ≡ link_of t a → s' ≡ delivered_one t m k ps l s
      → delivered t n1 (m + 1) (k + 1) ps l s' ≡ delivered t n a k ps l s
  unfolding delivered
  deliver_more n n1 a k s {s'} {c} en ec h em es =
      rw (en, ← ec, ne_eqb c c_end h) (λ i. delivered t n1 (em i + 1) (k + 1) ps l ((es ∙ ap (λ x. delivered_one t x k ps l s) em) i))
