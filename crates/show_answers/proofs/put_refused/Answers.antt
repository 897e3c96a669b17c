use Rattle.std.proofs.Common.{rules}
use Rattle.show_answers.proofs.Laws as laws
use Rattle.spec_account.specs.Refused.{first_line}
use mathlib.Core.Path.{◌∙◌, ap}
use Rattle.show_answers.proofs.put_refused.Goals as goal

pub returns : goal.returns
returns c = laws.refused_put c.args.text.now c.args.place c.args.len _ _ _ _ _ _ _ _ _ _ (c.part-front.ensures ∙ laws.piece-front c.args.text.now c.args.place) (search rules) (c.first_line-from.ensures ∙ ap first_line (c.part.ensures ∙ laws.piece_back c.args.text.now c.args.place)) (c.part-2.ensures ∙ laws.piece-front _ c.args.len) c.put_where-a.ensures c.put_line-b.ensures c.put_under-c.ensures c.put_marks-d.ensures c.put.ensures
