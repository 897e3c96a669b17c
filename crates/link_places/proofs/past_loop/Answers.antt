use Rattle.link_places.specs.Places.{past_loop}
use Rattle.link_places.proofs.past_loop.Goals as goal

pub returns : goal.returns
unfolding past_loop
returns c = rw (← c.close_of.ensures) c.word_at.ensures.value
