-- Program: held by stored output and by `tests/program` beyond what its contracts say.
-- THE STATUS OF A COMMAND on the text of a model, with its trail or its limit: that of its answer (`show_statuses`). A model that is refused is refused whatever the command. The program's
-- buffers are lent as zeros.
use Rattle.std.specs.Prelude.{ℕ, true, false, List, [], ◌∷◌, replicate, Result, Ok, Err}
use Rattle.base_ceilings.specs.Ceilings.{normal_most, tables_room, text_most}
use Rattle.base_bytes.specs.Choice.{pick}
use Rattle.base_bytes.specs.Lists.{same}
use Rattle.base_refusal.specs.declared.Refusal.{Refusal}
use Rattle.read_entry.specs.Entries.{read_of, left_of}
use Rattle.normal_entry.specs.Entries.{answer_of}
use Rattle.layout_entry.specs.Entries as laying
use Rattle.show_statuses.specs.declared.Status.{Status}
use Rattle.show_statuses.specs.declared.Answer.TheVariants as answer
use Rattle.show_statuses.specs.Statuses.{status_of, model_status}
use Rattle.show_commands.specs.Statuses.{start_status, run_status, replay_status}

abbrev pub written_status : Result ℕ Refusal → Status
written_status (Ok n) = status_of answer.Text
written_status (Err r) = status_of answer.Refused

unfoldable pub normal_status : List ℕ → Status
normal_status text = written_status (answer_of text (replicate normal_most 0))

unfoldable pub layout_status : List ℕ → Status
layout_status text = written_status (laying.answer_of text (replicate text_most 0))

-- the commands' words
abbrev pub w_read : List ℕ
w_read = 114 ∷ 101 ∷ 97 ∷ 100 ∷ []

abbrev pub w_normal : List ℕ
w_normal = 110 ∷ 111 ∷ 114 ∷ 109 ∷ 97 ∷ 108 ∷ []

abbrev pub w_layout : List ℕ
w_layout = 108 ∷ 97 ∷ 121 ∷ 111 ∷ 117 ∷ 116 ∷ []

abbrev pub w_start : List ℕ
w_start = 115 ∷ 116 ∷ 97 ∷ 114 ∷ 116 ∷ []

abbrev pub w_run : List ℕ
w_run = 114 ∷ 117 ∷ 110 ∷ []

abbrev pub w_replay : List ℕ
w_replay = 114 ∷ 101 ∷ 112 ∷ 108 ∷ 97 ∷ 121 ∷ []

abbrev pub w_steps : List ℕ
w_steps = 115 ∷ 116 ∷ 101 ∷ 112 ∷ 115 ∷ []

abbrev pub w_state : List ℕ
w_state = 115 ∷ 116 ∷ 97 ∷ 116 ∷ 101 ∷ []

-- on the tables of an accepted model
unfoldable pub command_status : List ℕ → List ℕ → List ℕ → ℕ → Status
command_status command ts trail limit =
    pick (same command w_read) (status_of answer.Accepted)
    (pick (same command w_start) (start_status ts)
    (pick (same command w_run) (run_status ts limit)
    (pick (same command w_replay) (replay_status ts trail)
    (pick (same command w_steps) (replay_status ts trail)
    (pick (same command w_state) (replay_status ts trail)
    (status_of answer.Error))))))

abbrev pub judged_status : Result (Unit {0}) Refusal → Status → Status
judged_status (Ok u) y = model_status true y
judged_status (Err r) y = model_status false y

unfoldable pub text_status : List ℕ → List ℕ → List ℕ → ℕ → Status
text_status command text trail limit =
    pick (same command w_normal) (normal_status text)
    (pick (same command w_layout) (layout_status text)
    (judged_status (read_of text (replicate tables_room 0)) (command_status command (left_of text (replicate tables_room 0)) trail limit)))
