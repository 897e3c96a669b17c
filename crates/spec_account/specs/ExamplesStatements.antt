-- Worked examples: where statements stand in the normal text `init{if::skip;x=1::else fi;L:x=2}`, behind a label, inside an option and behind a selection.
use Rattle.std.specs.Prelude.{ℕ, ◌≡◌, refl, List, [], ◌∷◌}
use Rattle.base_bytes.specs.Lists.{same}
use Rattle.base_kinds.specs.Kinds.{bytes}
use Rattle.spec_text.specs.Find.{find}
use Rattle.spec_text.specs.Formats.{digits_by}
use Rattle.spec_text.specs.Writing.{write, write_behind}
use Rattle.spec_grammar.specs.Tree.{Name, plain, num, leaf, assign, skip, else, select, bare, labelled, end, then, over, option, body, init, Model}
use Rattle.spec_machine.specs.Begins.{items_before}
use Rattle.spec_normal.specs.Normal.{normal}
use Rattle.spec_account.specs.Statements.{from_in, from_unit, stands_at}

abbrev x : Name
x = bytes "x"

abbrev model : Model
model =
    init (body [] (then (bare (select (option (then (bare (leaf skip)) (then (bare (leaf (assign (plain x) (num 1)))) end)) (option (then (bare (leaf else)) end) over))))
    (then (labelled (bytes "L") (leaf (assign (plain x) (num 2)))) end))) ∷ []

whole : normal model ≡ bytes "init{if::skip;x=1::else fi;L:x=2}"
unfolding write_behind digits_by find same
whole = refl

-- the selection, the `skip`, the first assignment, the `else`, the second assignment, and what stands from it on
places : (stands_at model 0 2 ≡ 5) × (stands_at model 0 4 ≡ 9) × (stands_at model 0 5 ≡ 14) × (stands_at model 0 12 ≡ 19) × (stands_at model 0 17 ≡ 29) × (write (from_unit model 0 17) ≡ bytes "x=2}")
unfolding from_in from_unit items_before write_behind digits_by find same
places = (refl, refl, refl, refl, refl, refl)
