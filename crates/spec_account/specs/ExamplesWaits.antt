-- Worked examples: `proctype P(byte b){skip}init{S}`, with fifteen processes and sixteen, where S is `run P(1)`, a selection that begins with it inside another, `y=run P(1)`, which never waits, and a `run` that is no
-- first statement; and `proctype Q(){chan c=[1]of{byte};skip}init{run Q()}`, with fifteen channels made and sixteen.
use Rattle.std.specs.Prelude.{ℕ, ◌≡◌, refl, List, [], ◌∷◌, replicate, pos}
use Rattle.std.proofs.Math.Option.{none}
use Rattle.base_bytes.specs.Lists.{same}
use Rattle.base_kinds.specs.Kinds.{bytes}
use Rattle.spec_text.specs.Find.{find}
use Rattle.spec_text.specs.Formats.{digits_by}
use Rattle.spec_text.specs.Writing.{write_behind}
use Rattle.spec_grammar.specs.Tree.{Name, action, Tree, plain, num, leaf, skip, timeout, run, set_run, select, loop, bare, labelled, end, then, over, option, unset, set_channel, variable, declare, group, body, idle, process, init, Model}
use Rattle.spec_machine.specs.State.{State}
use Rattle.spec_machine.specs.Places.{start_of}
use Rattle.spec_machine.specs.Examples.{machine}
use Rattle.spec_account.specs.Bytes.{each_visible, visible, is_visible}
use Rattle.spec_account.specs.Waits.{stuck_in, waits_from, waits_text}

unfoldable shows : Unit {0}
unfolding same find write_behind digits_by each_visible visible is_visible stuck_in waits_from
shows = tt

abbrev runs : Tree action
runs = leaf (run (bytes "P") (num 1 ∷ []))

abbrev model : Tree action → Model
model s =
    process idle (bytes "P") (group 40 (bytes "b" ∷ []) ∷ []) (body [] (then (bare (leaf skip)) end)) ∷
    init (body (declare 40 (variable (bytes "y") none unset ∷ []) ∷ []) (then (bare s) end)) ∷ []

-- process 0 at the start of unit 1, and k ended ones
abbrev crowd : Tree action → ℕ → State
crowd s k =
    record {
      globals = [];
      processes = record { unit = 1; place = start_of (model s) 1; variables = (pos 0 ∷ []) ∷ [] } ∷ replicate k (record { unit = 0; place = 0; variables = (pos 0 ∷ []) ∷ [] });
      channels = [];
    }

-- with 15 others there is no room, with 14 there is
alone : (waits_text (model runs) (crowd runs 15) ≡ bytes "\tprocess 0 waits at run P(1): 16 processes are the most\n") × (waits_text (model runs) (crowd runs 14) ≡ [])
unfolding machine shows
alone = (refl, refl)

-- `if::timeout::do::L:run P(1)od fi`
abbrev nested : Tree action
nested = select (option (then (bare (leaf timeout)) end) (option (then (bare (loop (option (then (labelled (bytes "L") runs) end) over))) end) over))

-- `if::timeout;run P(1)fi` and `y=run P(1)`
abbrev later : Tree action
later = select (option (then (bare (leaf timeout)) (then (bare runs) end)) over)

abbrev sets : Tree action
sets = leaf (set_run (plain (bytes "y")) (bytes "P") (num 1 ∷ []))

others : (waits_text (model nested) (crowd nested 15) ≡ bytes "\tprocess 0 waits at run P(1): 16 processes are the most\n") × (waits_text (model nested) (crowd nested 14) ≡ []) × (waits_text (model later) (crowd later 15) ≡ []) × (waits_text (model sets) (crowd sets 15) ≡ [])
unfolding machine shows
others = (refl, refl, refl, refl)

-- ## channels
abbrev maker : Model
maker =
    process idle (bytes "Q") [] (body (declare 43 (variable (bytes "c") none (set_channel 1 (40 ∷ [])) ∷ []) ∷ []) (then (bare (leaf skip)) end)) ∷ init (body [] (then (bare (leaf (run (bytes "Q") []))) end)) ∷ []

-- an ended process, then one at the start of unit 1, and k channels
abbrev made : ℕ → State
made k =
    record {
      globals = [];
      processes = record { unit = 0; place = 0; variables = (pos 1 ∷ []) ∷ [] } ∷ record { unit = 1; place = start_of maker 1; variables = [] } ∷ [];
      channels = replicate k (record { unit = 0; variable = 0; held = [] });
    }

channels : (waits_text maker (made 16) ≡ bytes "\tprocess 1 waits at run Q(): 16 channels are the most\n") × (waits_text maker (made 15) ≡ [])
unfolding machine shows
channels = (refl, refl)
