use Rattle.table_layout.specs.Access.{pool_byte}
use Rattle.table_layout.proofs.pool_byte.Goals as goal

pub returns : goal.returns
unfolding pool_byte
returns c = rw (c.digit.ensures, c.word_on.ensures.value, c.items.ensures.value, c.word_at.ensures.value)
