use mathlib.Core.Path.{refl}
use Rattle.show_lists.proofs.words.behind_slashed.Goals as goal

pub returns-then-is_slashed : goal.returns-then-is_slashed
returns-then-is_slashed c = rw (← c.is_slashed.ensures, c.if-is_slashed.true) refl

pub returns : goal.returns
returns c = rw (← c.is_slashed.ensures, c.if-is_slashed.false) refl
