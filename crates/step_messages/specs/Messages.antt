-- Mechanism, held to the specification by `demand2` (crate `demands`).
-- Arguments worked out, and messages put into and taken out of channels: document 01, "How it moves", "Within a statement work goes left to right in the text",
-- "target indices are worked out in the state before the step, then stores go left to right. Sent values are cast to field types".
-- `t` are tables, `s` a state, p the number of the process; c is the record of a channel. Arguments begin at item a, each links to its mark, `end` stands behind the last.
use Rattle.std.specs.Prelude.{ℕ, zero, suc, ◌+◌, ◌-◌, ◌*◌, List, get_or, set, ℤ, pos, eqb, Result, Ok, Err}
use Rattle.base_ceilings.specs.Ceilings.{capacity_most, fields_most}
use Rattle.base_codes.specs.Codes.{c_end}
use Rattle.base_bytes.specs.Choice.{pick}
use Rattle.table_layout.specs.Access.{code_of, link_of}
use Rattle.base_values.specs.Types.{cast_of}
use Rattle.base_values.specs.declared.Fault.{Fault}
use Rattle.state_layout.specs.Layout.{kept, cell_of, channel_at, field_at, declared_of, waiting_of}
use Rattle.state_layout.specs.Walks.{walk}
use Rattle.step_eval.specs.Variables.{variable_of, type_of}
use Rattle.step_eval.specs.Expressions.{eval_of, locate_of}
use Rattle.step_ready.specs.Channels.{compared_at, fields_of}

-- the type of field f of the channels that item d declares
abbrev pub field_type : List ℕ → ℕ → ℕ → ℕ
field_type t d f = code_of t (d + 1 + 2 * f) - 130

-- go on with a value, stop at a fault
abbrev pub on_value : {A : Type 0} → Result ℤ Fault → (ℤ → A) → (Fault → A) → A
on_value (Ok v) g h = g v
on_value (Err f) g h = h f

abbrev pub on_place : {A : Type 0} → Result ℕ Fault → (ℕ → A) → (Fault → A) → A
on_place (Ok i) g h = g i
on_place (Err f) g h = h f

module _ (t : List ℕ) (s : List ℤ) (p : ℕ) where
  -- ## the values of arguments, at most n: where they end, or the first fault; and the list with the k-th value at k
  unfoldable pub gather_end : ℕ → ℕ → Result ℕ Fault
  gather_end zero a = Ok a
  gather_end (suc n) a = pick (eqb (code_of t a) c_end) (Ok a) (on_value (eval_of t s p a (link_of t a)) (λ v. gather_end n (link_of t a + 1)) (λ f. Err f))

  unfoldable pub gather_list : ℕ → ℕ → ℕ → List ℤ → List ℤ
  gather_list zero a k l = l
  gather_list (suc n) a k l =
      pick (eqb (code_of t a) c_end) l (on_value (eval_of t s p a (link_of t a)) (λ v. gather_list n (link_of t a + 1) (k + 1) (set l k v)) (λ f. l))

  -- ## the places of received arguments that are stored to; one that is compared has none
  abbrev pub aim_of : ℕ → ℕ → Result ℕ Fault
  aim_of a m = pick (compared_at t m) (Ok 0) (locate_of t s p a m)

  unfoldable pub aim_end : ℕ → ℕ → Result ℕ Fault
  aim_end zero a = Ok a
  aim_end (suc n) a = pick (eqb (code_of t a) c_end) (Ok a) (on_place (aim_of a (link_of t a)) (λ i. aim_end n (link_of t a + 1)) (λ f. Err f))

  unfoldable pub aim_list : ℕ → ℕ → ℕ → List ℕ → List ℕ
  aim_list zero a k l = l
  aim_list (suc n) a k l = pick (eqb (code_of t a) c_end) l (on_place (aim_of a (link_of t a)) (λ i. aim_list n (link_of t a + 1) (k + 1) (set l k i)) (λ f. l))

-- ## messages
-- one more message, of the values l, behind the w that there are
unfoldable pub put_in : List ℕ → ℕ → ℕ → List ℤ → List ℤ → List ℤ
put_in t c w l s =
    set (walk (λ f x. set x (field_at c w f) (cast_of (field_type t (declared_of s c) f) (get_or l f (pos 0)))) 0 (fields_of t (declared_of s c)) s)
    (channel_at c + 1) (kept (w + 1))

-- message w goes, those behind it move up, and the last place is cleared
unfoldable pub taken_out : ℕ → ℕ → List ℤ → List ℤ
taken_out c w s =
    set (walk (λ i x. set x (field_at c (capacity_most - 1) i) (pos 0)) 0 fields_most (walk (λ i x. set x (field_at c w i) (cell_of x (field_at c (w + 1) i))) 0 (fields_most * (capacity_most - 1 - w)) s))
    (channel_at c + 1) (kept (waiting_of s c - 1))

-- ## stores: the values l in the places ps, where the argument with the mark m is the k-th
abbrev pub delivered_one : List ℕ → ℕ → ℕ → List ℕ → List ℤ → List ℤ → List ℤ
delivered_one t m k ps l s = pick (compared_at t m) s (set s (get_or ps k 0) (cast_of (type_of (variable_of t (m - 1))) (get_or l k (pos 0))))

unfoldable pub delivered : List ℕ → ℕ → ℕ → ℕ → List ℕ → List ℤ → List ℤ → List ℤ
delivered t zero a k ps l s = s
delivered t (suc n) a k ps l s = pick (eqb (code_of t a) c_end) s (delivered t n (link_of t a + 1) (k + 1) ps l (delivered_one t (link_of t a) k ps l s))
