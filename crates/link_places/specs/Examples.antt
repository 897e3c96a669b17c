-- Mechanism: worked examples, computed from its definitions; they are held to nothing else.
-- Worked examples, computed: the items of `init{do::1;break::else od;L:skip}`, by number
--   0 init 1 body 2 do 3 option 4 number 5 express 6 break 7 end-option 8 option 9 else 10 end-option 11 od 12 name 13 label 14 skip 15 end-body
use Rattle.std.specs.Prelude.{ℕ, ◌≡◌, refl, true, false, List, [], ◌∷◌}
use Rattle.base_codes.specs.Codes.{c_body, c_break, c_do, c_else, c_end_body, c_end_option, c_express, c_init, c_label, c_name, c_number, c_od, c_option, c_skip}
use Rattle.base_codes.specs.Sets.{is_part, is_alone, is_lead, is_opening, is_closing}
use Rattle.rule_sheets.specs.Walks.{first}
use Rattle.link_places.specs.Places.{mark_from, mark_of, is_place, is_stop, place_from, deeper, close_from, close_of_lem, shallower, open_of, past_option, next_from, past_loop}

abbrev model : List ℕ
model = c_init ∷ c_body ∷ c_do ∷ c_option ∷ c_number ∷ c_express ∷ c_break ∷ c_end_option ∷ c_option ∷ c_else ∷ c_end_option ∷ c_od ∷ c_name ∷ c_label ∷ c_skip ∷ c_end_body ∷ []

-- the place behind `od`, at item 11
abbrev links : List ℕ
links = 0 ∷ 0 ∷ 0 ∷ 0 ∷ 0 ∷ 0 ∷ 0 ∷ 0 ∷ 0 ∷ 0 ∷ 0 ∷ 14 ∷ []

mark : mark_of model 4 ≡ 5
unfolding mark_from first is_part
mark = refl

number_is_place : is_place model 4 ≡ true
unfolding is_place is_alone is_lead is_part mark_from first
number_is_place = refl

label_is_none : is_place model 12 ≡ false
unfolding is_place is_alone is_lead is_part mark_from first
label_is_none = refl

-- behind the expression stands `break`; behind that, in its own right, the skip; behind `else` the loop again; behind `od` the skip, whose label is passed over
behind-one : next_from model links 6 ≡ 6
unfolding next_from place_from is_stop is_place is_alone is_lead is_part mark_from first
behind-one = refl

out : past_loop model links 6 ≡ 14
unfolding past_loop close_of_lem close_from deeper is_opening is_closing
out = refl

again : next_from model links 10 ≡ 2
unfolding next_from past_option open_of shallower is_opening is_closing
again = refl

behind_od : next_from model links 12 ≡ 14
unfolding next_from place_from is_stop is_place is_alone is_lead is_part mark_from first
behind_od = refl

last : next_from model links 15 ≡ 15
unfolding next_from place_from is_stop is_place is_alone is_lead is_part mark_from first
last = refl
