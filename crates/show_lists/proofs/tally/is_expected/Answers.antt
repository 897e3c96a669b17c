use mathlib.Core.Path.{refl}
use Rattle.show_lists.proofs.tally.is_expected.Goals as goal

pub returns-in-Some : goal.returns-in-Some
returns-in-Some c = rw c.in-Some.is refl
