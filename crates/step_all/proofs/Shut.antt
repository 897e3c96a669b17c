-- PROCESSES THAT WAIT FOR A SHARED VARIABLE ALONE, whose value is 0, are offered nothing.
use Rattle.std.specs.Prelude.{Result, Ok, Option, None, Some}
use Rattle.std.specs.Option.{option_eq}
use Rattle.std.proofs.lemmas.Bool.{eqb-true}
use Rattle.std.proofs.lemmas.Option.{none-some, same_Some}
use lib.Dec.{eqb}
use Prim.Native.Nat.{ℕ, suc, ◌+◌, ◌-◌, ◌/◌, ◌%◌, ◌<◌}
use mathlib.Core.Path.{◌≡◌, sym, ap, ◌∙◌}
use mathlib.Core.Bool.{Bool, true, false, not}
use mathlib.Core.List.{List, []}
use native.Mathlib.Omega.{arith}
use borrow.Author.Tests.{ne_eqb, lt-leb}
use lib.IntN.{ℤ}
use Rattle.base_bytes.proofs.Tests.{true_false}
use Rattle.base_codes.specs.Codes.{c_express, c_message, c_name, c_plain}
use Rattle.base_codes.specs.Sets.{is_alone}
use Rattle.base_values.specs.declared.Fault.{Fault}
use Rattle.table_layout.specs.Access.{code_of, link_of}
use Rattle.step_eval.specs.Variables.{slot_of, load_of}
use Rattle.step_eval.specs.Expressions.{node_of, holds, plain_of, eval_t, eval_of}
use Rattle.step_ready.specs.Executing.{passes, is_own_mark, mark_of, ready_by, ready_of}
use Rattle.step_offers.specs.Offers.{offers_from, offers_of}
use Rattle.state_layout.specs.Layout.{place_of}
use Rattle.spec_machine.specs.Machine.{list_from}
use Rattle.step_all.specs.Moving.{Waits, machine_in, nth_in}

pub not-told : (t : List ℕ) (s : List ℤ) (q : ℕ) → Waits t s q false
not-told t s q e = absurd (true_false (sym e))

module _ (t : List ℕ) (s : List ℤ) (q : ℕ) {c1 m c2 c3 d c4 l i : ℕ} {x : Result ℤ Fault} (b : Bool) (e1 : c1 ≡ code_of t q) (f1 : c1 ≡ c_name) (em : m ≡ link_of t q) (h : q < m) (e2 : c2 ≡ code_of t m) (f2 : c2 ≡ c_express)
    (e3 : c3 ≡ code_of t (m - 1)) (f3 : c3 ≡ c_plain) (ed : d ≡ link_of t (m - 1)) (e4 : c4 ≡ code_of t d) (f4 : c4 ≡ c_message → ⊥) (g4 : c4 ≡ c_name → ⊥) (el : l ≡ link_of t d) (gl : l / 8 % 2 ≡ 0) (ei : i ≡ slot_of l 0 0)
    (ex : x ≡ load_of s (Ok i)) (eb : not b ≡ holds x) where
  mark_is : mark_of t q ≡ m
  unfolding mark_of is_own_mark is_alone
  mark_is = rw (sym e1 ∙ f1) (sym em)

  slot_is : (p : ℕ) → i ≡ slot_of l p 0
  unfolding slot_of
  slot_is p = ei ∙ rw gl

  plain_is : (p : ℕ) → plain_of t s p d ≡ x
  unfolding plain_of
  plain_is p = rw (← e4, ne_eqb c4 c_message f4, ne_eqb c4 c_name g4) (sym (ex ∙ ap (λ j. load_of s (Ok j)) (slot_is p ∙ ap (λ z. slot_of z p 0) el)))

  value_is : (p : ℕ) → eval_of t s p q m ≡ x
  unfolding eval_t node_of
  value_is p = rw (lt-leb m q h, sym e3 ∙ f3, sym ed) (plain_is p)

  ready_is : (p : ℕ) (late : Bool) → ready_of t s p late q ≡ passes x
  unfolding ready_by
  ready_is p late = ap (ready_by t s p late q) mark_is ∙ rw (sym e2 ∙ f2) (ap passes (value_is p))

  passes_is : passes x ≡ not b
  passes_is = rw ex (sym (eb ∙ ap holds ex))

  pub shut : Waits t s q b
  unfolding offers_from
  shut e p late = rw (sym e1 ∙ f1, ready_is p late ∙ passes_is ∙ ap not e)

-- a place is told by the test for it
pub told-by : (o : Option ℕ) (q : ℕ) → option_eq eqb o (Some q) ≡ true → o ≡ Some q
told-by None q e = absurd (true_false (sym e))
told-by (Some x) q e = ap Some (eqb-true x q e)

-- ---- the place that is known to be shut, if there is one
abbrev pub Known : List ℕ → List ℤ → Option ℕ → Type 0
Known t s o = (q : ℕ) → o ≡ Some q → (p : ℕ) (late : Bool) → offers_of t s p late q ≡ []

module _ (t : List ℕ) (s : List ℤ) where
  pub known-none : Known t s None
  known-none q e = absurd (none-some q e)

  pub known-told : (q : ℕ) {b : Bool} → Waits t s q b → b ≡ true → Known t s (Some q)
  known-told q w e z h = rw (sym (same_Some q z h)) (w e)

  -- at a known place what is asked for goes on with the next process
  pub nth-known : (late : Bool) (p n k : ℕ) {q : ℕ} {o : Option ℕ} → p < n → q ≡ place_of s p → o ≡ Some q → Known t s o
      → nth_in k (list_from (machine_in t) s late (p + 1) (n - (p + 1))) ≡ nth_in k (list_from (machine_in t) s late p (n - p))
  unfolding list_from
  nth-known late p n k {q} h eq e w =
      let y : n - p ≡ suc (n - (p + 1)) = omega arith in
      let l : offers_of t s p late (place_of s p) ≡ [] = ap (offers_of t s p late) (sym eq) ∙ w q e p late in
      rw (y, l)
