-- THE CHANNEL OF A SEND OR A RECEIVE over tables is the one that its operand reaches in the tree's stage, with as many fields as there are arguments, or the same fault.
use Rattle.std.specs.Prelude.{Result, Ok, Err}
use Prim.Native.Nat.{ℕ, ◌+◌, ◌-◌, ◌≤◌, min}
use native.Mathlib.Omega.{arith}
use native.Mathlib.Decide.{ℕ_discrete}
use mathlib.Core.Path.{◌≡◌, refl, sym, ap, ap₂, ◌∙◌}
use mathlib.Core.Bool.{Bool, true, false}
use mathlib.Core.List.{List}
use lib.IntN.{ℤ}
use lib.Dec.{eqb}
use borrow.Author.Tests.{eq-eqb, ne_eqb, eqb-true}
use Rattle.base_ceilings.specs.Ceilings.{fields_most}
use Rattle.base_codes.specs.Codes.{c_field}
use Rattle.base_bytes.specs.Choice.{pick}
use Rattle.table_layout.specs.Access.{code_of, link_of}
use Rattle.base_values.specs.declared.Fault.{Fault}
use Rattle.base_values.specs.declared.Fault.TheVariants.{Channel, Fields}
use Rattle.state_layout.specs.Layout.{cell_of, declared_of}
use Rattle.base_bytes.specs.Numbers.{nat}
use Rattle.spec_grammar.specs.Tree.{Name, Ref}
use Rattle.step_eval.specs.Variables.{slot_of, made_of, load_of, channel_of}
use Rattle.step_eval.specs.Expressions.{locate_of}
use Rattle.step_ready.specs.Channels.{fields_of, arguments_of, addressed_of}
use Rattle.step_ready.specs.Executing.{message_of}
use Rattle.agree_stage.specs.Scenes.{scene_of, locate}
use Rattle.agree_stage.specs.Tables.{stage_in}
use Rattle.spec_machine.specs.Arguments.{name_of, Aim, hit, miss, aim, Reach, channel, astray, reach_at, reach}
use Rattle.agree_effects.proofs.Receives.{placed, locate-aim}

-- the record of a channel, by its number
abbrev pub record_of : Reach → Result ℕ Fault
record_of (channel v) = Ok (nat v - 1)
record_of (astray f) = Err f

abbrev pub Arrived : Reach → Type 0
Arrived (channel v) = Unit {0}
Arrived (astray f) = ⊥

-- "message fields 1 to 4"
fields_most_lem : (t : List ℕ) (d : ℕ) → fields_of t d ≤ fields_most
unfolding fields_of
fields_most_lem t d = go (eqb (code_of t (d + 2)) c_field) (eqb (code_of t (d + 4)) c_field) (eqb (code_of t (d + 6)) c_field) (eqb (code_of t (d + 8)) c_field)
  where
    go : (x y z w : Bool) → pick {A = ℕ} x (pick y (pick z (pick w 4 3) 2) 1) 0 ≤ fields_most
    go false y z w = omega arith
    go true false z w = omega arith
    go true true false w = omega arith
    go true true true false = omega arith
    go true true true true = omega arith

-- five arguments are too many, as more are
count_five : (f n : ℕ) → f ≤ fields_most → eqb f (min (fields_most + 1) n) ≡ eqb f n
count_five f n h = go (ℕ_discrete f n)
  where
    go : Dec (f ≡ n) → eqb f (min (fields_most + 1) n) ≡ eqb f n
    go (yes e) = eq-eqb f (min (fields_most + 1) n) (omega arith) ∙ sym (eq-eqb f n e)
    go (no e) = ne_eqb f (min (fields_most + 1) n) (λ q. omega arith) ∙ sym (ne_eqb f n e)

module _ (t : List ℕ) (decl : Name → ℕ) (s : List ℤ) (p : ℕ) (unit : Name → ℕ) where
  addressed_is : (n : ℕ) (w : Name) (y : Aim) → addressed_of t s (channel_of s (load_of s (placed t decl p w y))) (min (fields_most + 1) n) ≡ record_of (reach_at (stage_in t s p decl unit) n w y)
  addressed_is n w (miss f) = refl
  addressed_is n w (hit k) = go (made_of s (nat v))
    where
      v : ℤ
      v = cell_of s (slot_of (link_of t (decl w)) p k)

      f : ℕ
      f = fields_of t (declared_of s (nat v - 1))

      on : (b : Bool) → pick b (Ok (nat v - 1)) (Err Fields) ≡ record_of (pick b (channel v) (astray Fields))
      on true = refl
      on false = refl

      go : (b : Bool) → addressed_of t s (pick b (Ok (nat v - 1)) (Err Channel)) (min (fields_most + 1) n) ≡ record_of (pick b (pick (eqb f n) (channel v) (astray Fields)) (astray Channel))
      go true = ap (λ b. pick {A = Result ℕ Fault} b (Ok (nat v - 1)) (Err Fields)) (count_five f n (fields_most_lem t (declared_of s (nat v - 1)))) ∙ on (eqb f n)
      go false = refl

  pub message_is : (r : Ref) (q m n : ℕ) → locate_of t s p q m ≡ locate t s p decl r → arguments_of t (m + 1) ≡ min (fields_most + 1) n → message_of t s p q m ≡ record_of (reach (stage_in t s p decl unit) r n)
  message_is r q m n e k =
      ap₂ (λ y i. addressed_of t s (channel_of s (load_of s y)) i) (e ∙ locate-aim t decl s p r) k ∙ addressed_is n (name_of r) (aim (scene_of t s p decl) r)

  -- a channel that is reached has as many fields as there are arguments
  arrived_few : (n : ℕ) (w : Name) (y : Aim) → Arrived (reach_at (stage_in t s p decl unit) n w y) → n ≤ fields_most
  arrived_few n w (miss f) a = absurd a
  arrived_few n w (hit k) a = go (made_of s (nat v)) (eqb f n) refl a
    where
      v : ℤ
      v = cell_of s (slot_of (link_of t (decl w)) p k)

      f : ℕ
      f = fields_of t (declared_of s (nat v - 1))

      go : (x y : Bool) → eqb f n ≡ y → Arrived (pick x (pick y (channel v) (astray Fields)) (astray Channel)) → n ≤ fields_most
      go true true e a = let z = eqb-true f n e in let l = fields_most_lem t (declared_of s (nat v - 1)) in omega arith
      go true false e a = absurd a
      go false y e a = absurd a

  pub reach_few : (r : Ref) (n : ℕ) → Arrived (reach (stage_in t s p decl unit) r n) → n ≤ fields_most
  reach_few r n = arrived_few n (name_of r) (aim (scene_of t s p decl) r)
