use Rattle.show_deeds.proofs.Laws as laws
use Rattle.show_deeds.proofs.put_store.Goals as goal

pub returns : goal.returns
returns c = laws.store_put c.args.t.now c.args.after.now c.args.p c.args.from c.args.m c.args.i _ c.minus_one-e.ensures c.variable.ensures c.slot.ensures c.minus-k.ensures c.put_all-a.ensures c.put_name-b.ensures c.put_index-c.ensures c.put-d.ensures c.cell.type_inv c.cell.ensures c.put_value-f.ensures c.put.ensures
