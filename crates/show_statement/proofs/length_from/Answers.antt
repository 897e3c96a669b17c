use mathlib.Core.Path.{refl}
use Rattle.show_statement.proofs.Laws as laws
use Rattle.show_statement.proofs.length_from.Goals as goal

pub returns : goal.returns
returns c = laws.length_is c.args.t.now c.args.q _ _ _ _ c.items.ensures.value refl c.write_tokens.ensures
