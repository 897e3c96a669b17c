use mathlib.Core.Path.{refl}
use Rattle.show_lists.proofs.words.behind_plain.Goals as goal

pub returns-then-is_blank : goal.returns-then-is_blank
returns-then-is_blank c = rw (← c.is_blank.ensures, c.if-is_blank.true) refl

pub returns : goal.returns
returns c = rw (← c.is_blank.ensures, c.if-is_blank.false) refl
