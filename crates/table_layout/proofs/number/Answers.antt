use Rattle.table_layout.proofs.number.Goals as goal

pub returns : goal.returns
returns c = record { value = rw (c.word_on.ensures.value, c.items.ensures.value, c.arg.ensures.value); upper_bound = c.word_on.ensures.upper_bound }
