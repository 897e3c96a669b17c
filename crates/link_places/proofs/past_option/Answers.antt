use borrow.Author.Tests.{ne_eqb}
use Rattle.link_places.proofs.Walks as laws
use Rattle.link_places.proofs.past_option.Goals as goal

pub returns-then-byte_at : goal.returns-then-byte_at
returns-then-byte_at c = laws.option_again c.args.codes.now c.args.links.now c.args.k c.open_of-o.ensures c.byte_at.ensures c.if-byte_at.true

pub returns : goal.returns
returns c = laws.option_out c.args.codes.now c.args.links.now c.args.k c.open_of-o.ensures c.byte_at.ensures (ne_eqb _ _ c.if-byte_at.false) c.close_of.ensures c.word_at.ensures.value
