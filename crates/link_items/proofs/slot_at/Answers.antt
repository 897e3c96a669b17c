use Rattle.link_items.specs.Links.{slot_at}
use Rattle.link_items.proofs.slot_at.Goals as goal

pub returns : goal.returns
unfolding slot_at
returns c = rw (← c.type_at-t.ensures.value, ← c.local_at-h.ensures.value, ← c.size_at-s.ensures.value, ← c.offset_at.ensures.value)
