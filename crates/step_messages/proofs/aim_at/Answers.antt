use Rattle.step_messages.proofs.aim_at.Goals as goal

pub returns-then-is_compared : goal.returns-then-is_compared
returns-then-is_compared c = rw (← c.is_compared.ensures, c.if-is_compared.true)

pub returns-else-is_compared : goal.returns-else-is_compared
returns-else-is_compared c = rw (← c.is_compared.ensures, c.if-is_compared.false) c.locate.ensures
