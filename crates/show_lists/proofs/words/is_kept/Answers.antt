use mathlib.Core.Bool.{not}
use mathlib.Core.Path.{ap}
use Rattle.show_lists.proofs.words.is_kept.Goals as goal

pub returns-in-Apart : goal.returns-in-Apart
returns-in-Apart c = rw (c.in-Apart.is, ← c.is_blank.ensures) (ap not c.either.ensures)

pub returns-in-Plain : goal.returns-in-Plain
returns-in-Plain c = rw c.in-Plain.is (ap not c.is_blank-in-Plain.ensures)

pub returns-in-Quoted : goal.returns-in-Quoted
returns-in-Quoted c = rw c.in-Quoted.is (ap not c.is_slashed.ensures)

pub returns-in-Slashed : goal.returns-in-Slashed
returns-in-Slashed c = rw c.in-Slashed.is c.is_slashed-in-Slashed.ensures
