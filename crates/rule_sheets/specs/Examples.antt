-- Mechanism: worked examples, computed from its definitions; they are held to nothing else.
-- Worked examples, computed.
use Rattle.std.specs.Prelude.{◌≡◌, refl, [], ◌∷◌}
use Rattle.base_codes.specs.Codes.{c_add, c_body, c_end_body, c_index, c_init, c_name, c_number, c_skip}
use Rattle.rule_sheets.specs.Walks.{filled}
use Rattle.spec_text.specs.Formats.{format_from, format_of}
use Rattle.rule_sheets.specs.Homes.{inside_of, home_of}
use Rattle.rule_sheets.specs.Spans.{shape_of, start_of, height_of}

-- the format `%d%%%x` asks for one number, and has a bad `%`
format : format_of (37 ∷ 100 ∷ 37 ∷ 37 ∷ 37 ∷ 120 ∷ []) ≡ 3
unfolding format_from
format = refl

-- a `%` at the end, before the closing quote, is bad
ending : format_of (34 ∷ 37 ∷ 34 ∷ []) ≡ 1
unfolding format_from
ending = refl

-- `init{skip}`: init is in no body, the statement in the body of item 0
inner : home_of (c_init ∷ c_body ∷ c_skip ∷ c_end_body ∷ []) 2 ≡ 1
unfolding home_of inside_of
inner = refl

outer : home_of (c_init ∷ c_body ∷ c_skip ∷ c_end_body ∷ []) 0 ≡ 0
unfolding home_of inside_of
outer = refl

-- `a[1]+2`, as a 1 index 2 +: the sum starts at 0, its first operand too
starts : filled (start_of (c_name ∷ c_number ∷ c_index ∷ c_number ∷ c_add ∷ [])) 0 5 (0 ∷ 0 ∷ 0 ∷ 0 ∷ 0 ∷ []) ≡ 0 ∷ 1 ∷ 0 ∷ 3 ∷ 0 ∷ []
unfolding filled start_of shape_of
starts = refl

-- and is 3 high
heights : filled (height_of (c_name ∷ c_number ∷ c_index ∷ c_number ∷ c_add ∷ []) (0 ∷ 1 ∷ 0 ∷ 3 ∷ 0 ∷ [])) 0 5 (0 ∷ 0 ∷ 0 ∷ 0 ∷ 0 ∷ []) ≡ 1 ∷ 1 ∷ 2 ∷ 1 ∷ 3 ∷ []
unfolding filled height_of shape_of
heights = refl
