use Rattle.write_texts.proofs.Tokens as laws
use Rattle.write_texts.proofs.write_layout.Goals as goal

pub returns : goal.returns
returns c = laws.layout_is c.args.t.now _ _ _ c.items.ensures.value (laws.tokens-laid c.args.t.now _ 143 0 c.items.result c.tokens_of-first.result c.tokens_of-first.ensures.1 c.tokens_of-first.auto.toks _ _ c.put_lines.ensures)
