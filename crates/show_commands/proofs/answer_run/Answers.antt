use Rattle.show_commands.proofs.answer_run.Goals as goal

pub returns-in-Ended : goal.returns-in-Ended
returns-in-Ended c = rw c.in-Ended.is c.ending_status.ensures
