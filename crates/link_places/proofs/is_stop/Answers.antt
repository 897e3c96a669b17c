use Rattle.link_places.specs.Places.{is_stop}
use Rattle.link_places.proofs.is_stop.Goals as goal

pub returns : goal.returns
unfolding is_stop
returns c = rw (← c.byte_at.ensures, ← c.is_place.ensures) c.either.ensures
