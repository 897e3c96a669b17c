use Rattle.write_texts.proofs.Tokens as laws
use Rattle.write_texts.proofs.write_tokens.Goals as goal

pub returns : goal.returns
returns c = laws.tokens-written c.args.t.now _ c.args.symbol c.args.from c.args.to c.tokens_of-first.result c.tokens_of-first.ensures.1 c.tokens_of-first.auto.toks _ _ c.put_tokens.ensures
