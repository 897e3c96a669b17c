use Rattle.write_texts.proofs.Tokens as laws
use Rattle.write_texts.proofs.write_normal.Goals as goal

pub returns : goal.returns
returns c = laws.normal_is c.args.t.now _ _ _ c.items.ensures.value c.write_tokens.ensures
