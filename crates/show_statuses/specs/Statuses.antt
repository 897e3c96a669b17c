-- Program: held by stored output and by `tests/program` beyond what its contracts say.
-- THE STATUS OF AN ANSWER: 0 where nothing is wrong, 1 for a refusal, a failed assertion, a fault or a blocked state, 2 for an error. A batch counts by it, and the script ends with it.
use Rattle.std.specs.Prelude.{ℕ, Bool, true, false}
use Rattle.show_statuses.specs.declared.Status.{Status}
use Rattle.show_statuses.specs.declared.Status.TheVariants as status
use Rattle.show_statuses.specs.declared.Answer.{Answer}
use Rattle.show_statuses.specs.declared.Answer.TheVariants as answer

-- the number that the program tells at its end
abbrev pub number : Status → ℕ
number status.Fine = 0
number status.Wrong = 1
number status.Error = 2

abbrev pub status_of : Answer → Status
status_of answer.Accepted = status.Fine
status_of answer.Finished = status.Fine
status_of answer.Open = status.Fine
status_of answer.Text = status.Fine
status_of answer.Refused = status.Wrong
status_of answer.Assert = status.Wrong
status_of answer.Fault = status.Wrong
status_of answer.Blocked = status.Wrong
status_of answer.Error = status.Error

-- of a command on a model: `x` where the model is accepted; where it is not, that of a refusal, whatever the command
abbrev pub model_status : Bool → Status → Status
model_status true x = x
model_status false x = status_of answer.Refused
