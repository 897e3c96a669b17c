use Rattle.show_lists.proofs.words.behind.Goals as goal

pub returns-in-Apart : goal.returns-in-Apart
returns-in-Apart c = rw c.in-Apart.is c.behind_apart.ensures

pub returns-in-Plain : goal.returns-in-Plain
returns-in-Plain c = rw c.in-Plain.is c.behind_plain.ensures

pub returns-in-Quoted : goal.returns-in-Quoted
returns-in-Quoted c = rw c.in-Quoted.is c.behind_quoted.ensures

pub returns-in-Slashed : goal.returns-in-Slashed
returns-in-Slashed c = rw c.in-Slashed.is c.behind_slashed.ensures

pub returns-in-Closed : goal.returns-in-Closed
returns-in-Closed c = rw c.in-Closed.is c.behind_closed.ensures
