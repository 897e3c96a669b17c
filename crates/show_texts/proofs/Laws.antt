-- The status of a command on a text, from what its callees promise.
use Prim.Native.Nat.{ℕ}
use mathlib.Core.Path.{◌≡◌, sym, ap, ◌∙◌}
use mathlib.Core.Bool.{Bool, true, false}
use mathlib.Core.List.{List}
use lib.ListN.{replicate}
use Rattle.base_ceilings.specs.Ceilings.{normal_most, tables_room, text_most}
use Rattle.base_bytes.specs.Lists.{same}
use Rattle.std.specs.Prelude.{Result, Ok, Err}
use Rattle.base_refusal.specs.declared.Refusal.{Refusal}
use Rattle.read_entry.specs.Entries.{read_of, left_of}
use Rattle.normal_entry.specs.Entries.{answer_of}
use Rattle.layout_entry.specs.Entries as laying
use Rattle.show_statuses.specs.declared.Answer.TheVariants as answer
use Rattle.show_statuses.specs.Statuses.{status_of, model_status}
use Rattle.show_statuses.specs.declared.Status.{Status}
use Rattle.show_texts.specs.Statuses.{written_status, normal_status, layout_status, w_normal, w_layout, command_status, text_status}

-- ---- `normal`
module _ (t : List ℕ) (out : List ℕ) (w : Result ℕ Refusal) (room : out ≡ replicate normal_most 0) (e : w ≡ answer_of t out) where
  pub is_text : (n : ℕ) (y : Status) → w ≡ Ok n → y ≡ status_of answer.Text → y ≡ normal_status t
  unfolding normal_status
  is_text n y f g = g ∙ ap written_status (sym f ∙ e ∙ ap (answer_of t) room)

  pub is_refused : (r : Refusal) (y : Status) → w ≡ Err r → y ≡ status_of answer.Refused → y ≡ normal_status t
  unfolding normal_status
  is_refused r y f g = g ∙ ap written_status (sym f ∙ e ∙ ap (answer_of t) room)

-- ---- `layout`
module _ (t : List ℕ) (out : List ℕ) (w : Result ℕ Refusal) (room : out ≡ replicate text_most 0) (e : w ≡ laying.answer_of t out) where
  pub layout_text_lem : (n : ℕ) (y : Status) → w ≡ Ok n → y ≡ status_of answer.Text → y ≡ layout_status t
  unfolding layout_status
  layout_text_lem n y f g = g ∙ ap written_status (sym f ∙ e ∙ ap (laying.answer_of t) room)

  pub layout_refused : (r : Refusal) (y : Status) → w ≡ Err r → y ≡ status_of answer.Refused → y ≡ layout_status t
  unfolding layout_status
  layout_refused r y f g = g ∙ ap written_status (sym f ∙ e ∙ ap (laying.answer_of t) room)

-- ---- any other command
module _ (command t trail : List ℕ) (limit : ℕ) (b : Bool) (other : b ≡ same command w_normal) where
  pub of_normal : (y : Status) → b ≡ true → y ≡ normal_status t → y ≡ text_status command t trail limit
  unfolding text_status
  of_normal y h e = e ∙ sym (rw (← other, h))

  pub of_layout : (c : Bool) (y : Status) → b ≡ false → c ≡ same command w_layout → c ≡ true → y ≡ layout_status t → y ≡ text_status command t trail limit
  unfolding text_status
  of_layout c y f g h e = e ∙ sym (rw (← other, f, ← g, h))

  module _ (f : b ≡ false) (c : Bool) (third : c ≡ same command w_layout) (no : c ≡ false) (ts : List ℕ) (j : Result (Unit {0}) Refusal) (room : ts ≡ replicate tables_room 0) (e : j ≡ read_of t ts) where
    pub on_accepted : (left : List ℕ) (x y : Status) → left ≡ left_of t ts → j ≡ Ok tt → x ≡ command_status command left trail limit → y ≡ model_status true x → y ≡ text_status command t trail limit
    unfolding text_status
    on_accepted left x y l a g k = k ∙ g ∙ ap (λ z. command_status command z trail limit) (l ∙ ap (left_of t) room) ∙ sym (rw (← other, f, ← third, no, ← room, ← e, a))

    pub on_refused : (r : Refusal) (z y : Status) → j ≡ Err r → y ≡ model_status false z → y ≡ text_status command t trail limit
    unfolding text_status
    on_refused r z y q g = g ∙ sym (rw (← other, f, ← third, no, ← room, ← e, q))
