use lib.ListN.{get_or-eq_default}
use mathlib.Core.Path.{sym}
use borrow.Author.Rules.{rules}
use Rattle.write_texts.proofs.word_at.Goals as goal

pub returns-else-i-s : goal.returns-else-i-s
returns-else-i-s c = sym (get_or-eq_default c.args.s.now 0 {n = c.args.i} (search rules))
