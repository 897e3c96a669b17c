use Rattle.show_lists.proofs.words.ends_word.Goals as goal

pub returns-in-Plain : goal.returns-in-Plain
returns-in-Plain c = rw c.in-Plain.is c.is_blank.ensures

pub returns-in-Closed : goal.returns-in-Closed
returns-in-Closed c = rw c.in-Closed.is c.is_blank-in-Closed.ensures
