use mathlib.Core.Path.{sym, ◌∙◌}
use Rattle.show_deeds.proofs.Laws as laws
use Rattle.show_deeds.proofs.put_started.Goals as goal

pub returns-then-has_room : goal.returns-then-has_room
returns-then-has_room c = laws.started-put c.args.t.now c.args.before.now c.args.m _ c.link.ensures.value (sym c.if-has_room.true ∙ c.has_room.ensures) c.put_all-a.ensures c.processes.ensures.value c.put_count-b.ensures c.put-c.ensures c.minus_one.ensures c.put_name-d.ensures c.put.ensures

pub returns : goal.returns
returns c = laws.started_none c.args.t.now c.args.before.now c.args.m _ c.link.ensures.value (sym c.if-has_room.false ∙ c.has_room.ensures)
